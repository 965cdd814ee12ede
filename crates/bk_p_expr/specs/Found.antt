-- What a private function of the reader answers: what the reader that bk_raw has as a function reads there. That reader has
-- fuel, of which at least so much is enough.
use Rattle.std.specs.Prelude.{◌≡◌, ℕ, ◌-◌, ◌≤◌, List, Option, None, Some, Result, IfOk, MatchOption, pos, negsuc, length}
use denote.Ref.{Bor}
use Rattle.bk_form.specs.declared.token.Token.{Token}
use Rattle.bk_form.specs.declared.token.TokenKind.{TokenKind}
use Rattle.bk_form.specs.declared.token.TokenKind.TheVariants.{Name, LevelName, BoundName, Number, Sign, Word}
use Rattle.bk_ops.specs.declared.sign.TheConstants.{CLOSE_PAREN}
use Rattle.bk_raw.specs.Trees.RawTree.{RawTree, RawTreeNode, RawRanges, raw_inverse, raw_image, raw_apply, raw_lambda, raw_ranged_lambda}
use Rattle.bk_raw.specs.Grammar.Reading.{sign, constant_of, operand, primary_at, read}
use Rattle.bk_p_expr.specs.Openings.{enclosed, surrounded, listed, valued, described, valued_over, ranged, suffixed}
use Rattle.bk_p_expr.specs.Pieces.{IsPiece, IsRanges, around_node}
use Rattle.bk_p_expr.specs.declared.piece.Piece.{Piece}
use Rattle.bk_p_expr.specs.declared.piece.Ranges.{Ranges}
use Rattle.bk_p_expr.specs.declared.piece.Around.{Around as Form}
use Rattle.bk_p_expr.specs.declared.divider.Inside.TheVariants.{Parentheses}
use Rattle.bk_p_expr.specs.declared.opening.Opening.{Opening}
use Rattle.bk_p_expr.specs.declared.opening.Opening.TheVariants.{Closed, Around, Listed, Extension, Described, Lambda, RangedLambda}
use Rattle.bk_p_expr.specs.declared.terms.Suffix.{Suffix}
use Rattle.bk_p_expr.specs.declared.terms.Suffix.TheVariants.{Inverse, Image, Apply}
use Rattle.bk_p_expr.specs.declared.terms.Binder.{Binder}
use Rattle.bk_p_expr.specs.declared.terms.Binder.TheVariants.{Names, Over}

-- nothing is read
abbrev pub FindsNone : {A : Type 0} → (ℕ → Option (A × List Token)) → ℕ → Type 0
FindsNone reader least = (n : ℕ) → least ≤ n → reader n ≡ None

-- this is read, up to this rest
abbrev pub FindsThis : {A : Type 0} → (ℕ → Option (A × List Token)) → ℕ → A → List Token → Type 0
FindsThis reader least x rest = (n : ℕ) → least ≤ n → reader n ≡ Some (x, rest)

-- the reader reads the tree of this piece, put into something, up to this rest
pub record Finds {A : Type 0} (reader : ℕ → Option (A × List Token)) (least : ℕ) (make : RawTree →
    A) (piece : Piece) (rest : List Token) : Type 0 where
  pub tree : RawTree
  pub found : (n : ℕ) → least ≤ n → reader n ≡ Some (make tree, rest)
  pub built : IsPiece tree piece

-- the answer is what the reader reads: a term, or that none stands there
abbrev pub Reads : {E : Type 0} → (ℕ → Option (RawTree × List Token)) → ℕ → Result (Option (Piece × Bor (List Token))) E → Type 0
Reads reader least result = IfOk result (λ r. MatchOption r (FindsNone reader least) (λ p. Finds reader least (λ t. t) p.0 p.1.now))

-- the answer is a type, or what else stands in clauses for itself, as the reader reads it
abbrev pub ReadsThis : {A E : Type 0} → (ℕ → Option (A × List Token)) → ℕ → Result (Option (A × Bor (List Token))) E → Type 0
ReadsThis reader least result = IfOk result (λ r. MatchOption r (FindsNone reader least) (λ p. FindsThis reader least p.0 p.1.now))

-- an operand with its strength
abbrev pub FindsOperand : List Token → Piece → ℕ → List Token → Type 0
FindsOperand tokens piece strength rest = Finds (λ n. operand n (read n) tokens) (length tokens - 1) (λ t. (t, strength)) piece rest

-- no front of the tokens is an operand
abbrev pub NoOperand : List Token → Type 0
NoOperand tokens = FindsNone (λ n. operand n (read n) tokens) (length tokens - 1)

-- the sign in front, and what stands after it
abbrev pub Closes : {A : Type 0} → ℕ → List Token → Option (A × Bor (List Token)) → Type 0
Closes end tokens result = MatchOption result (sign end tokens ≡ None) (λ p. (t : Token) × (sign end tokens ≡ Some (t, p.1.now)))

-- bound variables with their ranges, and the sign after
pub record FindsRanges (tokens : List Token) (end : ℕ) (all : Ranges) (rest : List Token) : Type 0 where
  pub trees : RawRanges
  pub found : (n : ℕ) → length tokens ≤ n → ranged n end tokens ≡ Some (trees, rest)
  pub built : IsRanges trees all

-- what is made of the term before ~, [s] and (x)
abbrev pub IsSuffix : (RawTree → RawTreeNode) → Suffix → Type 0
IsSuffix form Inverse = form ≡ raw_inverse
IsSuffix form (Image piece) = (tree : RawTree) × (form ≡ (λ t. raw_image t tree)) × IsPiece tree piece
IsSuffix form (Apply piece) = (tree : RawTree) × (form ≡ (λ t. raw_apply t tree)) × IsPiece tree piece

-- what stands after a term
pub record FindsSuffix (tokens : List Token) (suffix : Suffix) (rest : List Token) : Type 0 where
  pub form : RawTree → RawTreeNode
  pub found : (n : ℕ) → length tokens ≤ n → suffixed n tokens ≡ Some (form, rest)
  pub built : IsSuffix form suffix

-- what a lambda makes of its body and its value
abbrev pub IsBinder : (RawTree → RawTree → RawTreeNode) → Binder → Type 0
IsBinder form (Names xs) = form ≡ raw_lambda xs.items
IsBinder form (Over all) = (ranges : RawRanges) × (form ≡ raw_ranged_lambda ranges) × IsRanges ranges all

-- ---- leaves and openings
-- a token of this kind is a term by itself
pub record FindsLeaf (kind : TokenKind) (at : ℕ) (piece : Piece) : Type 0 where
  pub tree : RawTree
  pub found : (n : ℕ) (rest : List Token) → primary_at n (read n) kind at rest ≡ Some (tree, rest)
  pub built : IsPiece tree piece

-- it is none
abbrev pub IsNoLeaf : TokenKind → Type 0
IsNoLeaf (Name text) = ⊥
IsNoLeaf (LevelName text n) = ⊥
IsNoLeaf (BoundName n) = ⊥
IsNoLeaf (Number (pos n)) = ⊥
IsNoLeaf (Number (negsuc n)) = Unit {0}
IsNoLeaf (Sign op) = Unit {0}
IsNoLeaf (Word op) = constant_of (Word op) ≡ None

-- two readers read the same, with enough fuel
abbrev pub SameFrom : ℕ → (ℕ → Option (RawTree × List Token)) → (ℕ → Option (RawTree × List Token)) → Type 0
SameFrom least one other = (n : ℕ) → least ≤ n → one n ≡ other n

-- a term that starts at this byte is read whole by its opening, or is what is read after it
abbrev pub Opens : (ℕ → Option (RawTree × List Token)) → ℕ → ℕ → Opening → List Token → Type 0
Opens whole least at (Closed piece) rest = Finds whole least (λ t. t) piece rest
Opens whole least at (Around form end) rest = SameFrom least whole (λ n. surrounded n at (around_node form) end rest)
Opens whole least at Listed rest = SameFrom least whole (λ n. enclosed n (Parentheses at) CLOSE_PAREN rest)
Opens whole least at Extension rest = SameFrom least whole (λ n. listed n at rest)
Opens whole least at Described rest = SameFrom least whole (λ n. described n at rest)
Opens whole least at (Lambda xs) rest = SameFrom least whole (λ n. valued n at (raw_lambda xs.items) rest)
Opens whole least at RangedLambda rest = SameFrom least whole (λ n. valued_over n at rest)

-- the answer is how the term begins that the reader reads, or that none stands there
abbrev pub Begins : {E : Type 0} → (ℕ → Option (RawTree × List Token)) → ℕ → ℕ → Result (Option (Opening × Bor (List Token))) E → Type 0
Begins whole least at result = IfOk result (λ r. MatchOption r (FindsNone whole least) (λ p. Opens whole least at p.0 p.1.now))

-- the answer is what is made of a body by what the reader reads, or that nothing is bound there
abbrev pub Binds : {E : Type 0} → (ℕ → Option ((RawTree → RawTreeNode) × List Token)) →
    ℕ → Result (Option (Form × Bor (List Token))) E → Type 0
Binds reader least result =
    IfOk result (λ r. MatchOption r (FindsNone reader least) (λ p. FindsThis reader least (around_node p.0) p.1.now))
