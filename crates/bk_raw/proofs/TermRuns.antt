-- A term closes what it opens, and nothing that ends a term stands in it outside of brackets.
use Rattle.std.proofs.Common.{◌≡◌, inl, inr, ℕ, zero, suc, ℤ, Bool, true, false, List, [], ◌∷◌, Some, refl}
use Rattle.std.specs.Prelude.{nat_eq, nat_lt, ◌||◌, pos, not}
use Rattle.bk_form.specs.declared.token.TokenKind.{TokenKind}
use Rattle.bk_form.specs.declared.token.TokenKind.TheVariants.{Name, LevelName, BoundName, Number, Sign, Word}
use Rattle.bk_ops.specs.declared.sign.TheConstants.{FOR_ALL, EXISTS, MEMBER, MINUS, TIMES, INVERSE, SEMICOLON, COMMA, DOT, BAR, LAMBDA, PARALLEL, ASSIGN, BECOMES_MEMBER, OUTPUTS, OPEN_PAREN, CLOSE_PAREN, OPEN_BRACKET, CLOSE_BRACKET, OPEN_BRACE, CLOSE_BRACE}
use Rattle.bk_ops.specs.declared.word.TheConstants.{BOOL, INTEGER, POW, END, IMPORTS, THEN, ELSIF, ELSE, WHEN, OR_BRANCH, WHERE, BE, IN, DO, VARIANT}
use Rattle.bk_raw.specs.Grammar.Pieces.{Just, JustAt, JustSign, ◌⌢◌, InParentheses, InBrackets, InBraces, WithParentheses, Starting, Binding, Placed, Digits, Literal, NoDigits}
use Rattle.bk_raw.specs.Trees.Operators.{infix_kind, word_kind, constant_kind, binding}
use Rattle.bk_raw.specs.Trees.WrittenType.{WrittenType, written_integer, written_bool, written_set, written_power, written_product}
use Rattle.bk_raw.specs.declared.operator.InfixOp.{InfixOp}
use Rattle.bk_raw.specs.declared.operator.InfixOp.TheVariants.{And}
use Rattle.bk_raw.specs.declared.operator.WordOp.{WordOp}
use Rattle.bk_raw.specs.declared.operator.WordOp.TheVariants.{Not}
use Rattle.bk_raw.specs.declared.operator.Constant.{Constant}
use Rattle.bk_raw.specs.declared.operator.Constant.TheVariants.{Btrue}
use Rattle.bk_raw.specs.declared.term.RawName.{RawName}
use Rattle.bk_raw.specs.declared.term.RawBound.{RawBound}
use Rattle.bk_raw.specs.Trees.RawTree.{RawTree, raw, RawTreeNode, raw_name, raw_level_name, raw_bound_name, raw_number, raw_constant, raw_word, raw_negative, raw_infix, raw_inverse, raw_image, raw_apply, raw_composition, raw_pair, raw_empty_set, raw_extension, raw_comprehension, raw_lambda, raw_for_all, raw_exists, raw_typed_empty, raw_typed_for_all, raw_typed_exists, raw_ranged_comprehension, raw_ranged_lambda, RawTrees, no_trees, tree_and, RawRanges, no_ranges, range_and}
use Rattle.bk_raw.specs.Grammar.Spelling.{Declared, Names, Alone, Binder, Typed, TypedBound, TypedBounds, Term, Listed, Sequenced, Bare, Commas, Semicolons, Terms, Ranges}
use Rattle.bk_raw.proofs.Steps.{Piece, State, Stopper, stepped, nothing, Leads, leads-join, leads-just, leads-at, leads-never, leads-fewer, Fewer, fewer-nothing, leads-in}

-- a word that begins a component or a clause, or REFINES
abbrev pub begins_clause : ℕ → Bool
begins_clause op = nat_lt op END || nat_eq op IMPORTS

-- a word of a clause, or one that divides a block
abbrev pub ends_word : ℕ → Bool
ends_word op = begins_clause op || (nat_eq op THEN || nat_eq op ELSIF || nat_eq op ELSE || nat_eq op WHEN || nat_eq op OR_BRANCH || nat_eq op WHERE || nat_eq op BE || nat_eq op IN || nat_eq op DO || nat_eq op VARIANT)

-- what ends a term: a sign that divides, a word of a clause or of a statement, and a name behind a complete term
abbrev pub ends_term : Stopper
ends_term b (Name x) = b
ends_term b (LevelName x n) = false
ends_term b (BoundName n) = false
ends_term b (Number z) = false
ends_term b (Sign op) = (nat_eq op SEMICOLON || nat_eq op PARALLEL) || (nat_eq op COMMA || nat_eq op BAR || nat_eq op ASSIGN || nat_eq op BECOMES_MEMBER || nat_eq op OUTPUTS)
ends_term b (Word op) = ends_word op

-- what ends terms with commas between
abbrev pub ends_terms : Stopper
ends_terms b (Name x) = b
ends_terms b (Sign op) = nat_eq op SEMICOLON || nat_eq op PARALLEL
ends_terms b (Word op) = ends_word op
ends_terms b _ = false

pub or-left : (a b : Bool) → (a || b) ≡ false → a ≡ false
or-left true b h = h
or-left false b h = refl

pub fewer-terms : Fewer ends_terms ends_term
fewer-terms b (Name x) h = h
fewer-terms b (Sign op) h = or-left (nat_eq op SEMICOLON || nat_eq op PARALLEL) (nat_eq op COMMA || nat_eq op BAR || nat_eq op ASSIGN || nat_eq op BECOMES_MEMBER || nat_eq op OUTPUTS) h
fewer-terms b (Word op) h = h
fewer-terms b _ h = refl

-- what ends names with commas between
abbrev pub ends_names : Stopper
ends_names b (Name x) = b
ends_names b (Sign op) = not (nat_eq op COMMA)
ends_names b _ = true

abbrev pub Whole : Piece → Type 0
Whole A = Leads ends_term (0, false) (0, true) A

-- outside of what a term is, but in brackets
abbrev pub Inner : Piece → Type 0
Inner A = Leads nothing (0, false) (0, true) A

pub inner : (A : Piece) → Whole A → Inner A
inner A f = leads-fewer nothing ends_term (0, false) (0, true) A (fewer-nothing ends_term) f

-- behind a complete term stands a joint, and then another one
joined : (A B : Piece) (kind : TokenKind) → stepped ends_term 0 true kind ≡ Some (0, false) → Whole A → Whole B → Whole (A ⌢ Just kind ⌢ B)
joined A B kind k f g = leads-join ends_term (0, false) (0, true) (0, true) A (Just kind ⌢ B) f (leads-join ends_term (0, true) (0, false) (0, true) (Just kind) B (leads-just ends_term 0 true (0, false) kind k) g)

inner-joined : (A B : Piece) (kind : TokenKind) → stepped nothing 0 true kind ≡ Some (0, false) → Inner A → Inner B → Inner (A ⌢ Just kind ⌢ B)
inner-joined A B kind k f g = leads-join nothing (0, false) (0, true) (0, true) A (Just kind ⌢ B) f (leads-join nothing (0, true) (0, false) (0, true) (Just kind) B (leads-just nothing 0 true (0, false) kind k) g)

headed : (A : Piece) (kind : TokenKind) → stepped ends_term 0 false kind ≡ Some (0, false) → Whole A → Whole (Just kind ⌢ A)
headed A kind k f = leads-join ends_term (0, false) (0, false) (0, true) (Just kind) A (leads-just ends_term 0 false (0, false) kind k) f

inner-headed : (A : Piece) (kind : TokenKind) → stepped nothing 0 false kind ≡ Some (0, false) → Inner A → Inner (Just kind ⌢ A)
inner-headed A kind k f = leads-join nothing (0, false) (0, false) (0, true) (Just kind) A (leads-just nothing 0 false (0, false) kind k) f

pub parentheses : (b : Bool) (A : Piece) → Inner A → Leads ends_term (0, b) (0, true) (InParentheses A)
parentheses b A f = leads-in ends_term b true (Sign OPEN_PAREN) (Sign CLOSE_PAREN) A refl refl f

brackets : (b : Bool) (A : Piece) → Inner A → Leads ends_term (0, b) (0, true) (InBrackets A)
brackets b A f = leads-in ends_term b true (Sign OPEN_BRACKET) (Sign CLOSE_BRACKET) A refl refl f

braces : (A : Piece) → Inner A → Whole (InBraces A)
braces A f = leads-in ends_term false true (Sign OPEN_BRACE) (Sign CLOSE_BRACE) A refl refl f

-- something behind a term
behind : (A B : Piece) → Whole A → Leads ends_term (0, true) (0, true) B → Whole (A ⌢ B)
behind A B f g = leads-join ends_term (0, false) (0, true) (0, true) A B f g

-- ---- names and types
names : (xs : List RawName) → Inner (Names xs)
names [] = leads-never nothing (0, false) (0, true)
names (x ∷ []) = leads-at nothing 0 false (0, true) x.at (Name x.text) refl
names (x ∷ y ∷ ys) = inner-joined (Declared x) (Names (y ∷ ys)) (Sign COMMA) refl (leads-at nothing 0 false (0, true) x.at (Name x.text) refl) (names (y ∷ ys))

alone : (xs : List RawName) → Whole (Alone xs)
alone [] = leads-never ends_term (0, false) (0, true)
alone (x ∷ []) = leads-at ends_term 0 false (0, true) x.at (Name x.text) refl
alone (x ∷ y ∷ ys) = leads-never ends_term (0, false) (0, true)

binder : (xs : List RawName) → Whole (Binder xs)
binder xs ts h = elim h [ inl q ↦ alone xs ts q | inr q ↦ parentheses false (Names xs) (names xs) ts q ]

pub typed : (t : WrittenType) → Whole (Typed t)
typed written_integer = leads-just ends_term 0 false (0, true) (Word INTEGER) refl
typed written_bool = leads-just ends_term 0 false (0, true) (Word BOOL) refl
typed (written_set name) = leads-just ends_term 0 false (0, true) (Name name) refl
typed (written_power t) = headed (InParentheses (Typed t)) (Word POW) refl (parentheses false (Typed t) (inner (Typed t) (typed t)))
typed (written_product t u) = parentheses false (Typed t ⌢ JustSign TIMES ⌢ Typed u) (inner (Typed t ⌢ JustSign TIMES ⌢ Typed u) (joined (Typed t) (Typed u) (Sign TIMES) refl (typed t) (typed u)))

bound : (b : RawBound) → Inner (TypedBound b)
bound b = inner-joined (JustAt b.at (BoundName b.number)) (Typed b.ty) (Sign MEMBER) refl (leads-at nothing 0 false (0, true) b.at (BoundName b.number) refl) (inner (Typed b.ty) (typed b.ty))

bounds : (bs : List RawBound) → Inner (TypedBounds bs)
bounds [] = leads-never nothing (0, false) (0, true)
bounds (b ∷ []) = bound b
bounds (b ∷ c ∷ cs) = inner-joined (TypedBound b) (TypedBounds (c ∷ cs)) (Sign COMMA) refl (bound b) (bounds (c ∷ cs))

-- ---- operators
joint-infix : (o : InfixOp) → stepped ends_term 0 true (infix_kind o) ≡ Some (0, false)
joint-infix And = refl
joint-infix _ = refl

joint-word : (o : WordOp) → stepped ends_term 0 false (word_kind o) ≡ Some (0, false)
joint-word Not = refl
joint-word _ = refl

whole-constant : (c : Constant) → stepped ends_term 0 false (constant_kind c) ≡ Some (0, true)
whole-constant Btrue = refl
whole-constant _ = refl

-- ---- terms
pub starting : (stops : Stopper) (s e : State) (at : ℕ) (A : Piece) → Leads stops s e A → Leads stops s e (Starting at A)
starting stops s e at A f ts h = f ts h.4

with-parentheses : (n : ℕ) (A : Piece) → Whole A → Whole (WithParentheses n A)
with-parentheses zero A f = f
with-parentheses (suc n) A f = parentheses false (WithParentheses n A) (inner (WithParentheses n A) (with-parentheses n A f))

placed : (at asked : ℕ) (Written : ℕ → Piece) → ((m : ℕ) → Whole (Written m)) → Whole (Placed at asked Written)
placed at asked Written f ts h = elim h [
  | inl q ↦ f asked ts q.4
  | inr q ↦ with-parentheses (suc q.0) (Starting at (Written 0)) (starting ends_term (0, false) (0, true) at (Written 0) (f 0)) ts q.1
]

literal : (z : ℤ) (asked : ℕ) → Whole (Literal z asked)
literal z asked ts h = elim h [
  | inl q ↦ leads-just ends_term 0 false (0, true) (Number (pos q.0)) refl ts q.2
  | inr q ↦ headed (Digits q.0) (Sign MINUS) refl (leads-just ends_term 0 false (0, true) (Number (pos q.0)) refl) ts q.2.1
]

binding-of : (own asked : ℕ) (A : Piece) → Whole A → Whole (Binding own asked A)
binding-of own asked A f ts h = f ts h.1

bodied : (A : Piece) → Whole A → Leads ends_term (0, true) (0, true) (JustSign DOT ⌢ InParentheses A)
bodied A f = leads-join ends_term (0, true) (0, false) (0, true) (JustSign DOT) (InParentheses A) (leads-just ends_term 0 true (0, false) (Sign DOT) refl) (parentheses false A (inner A f))

inner-bodied : (A : Piece) → Inner A → Leads ends_term (0, true) (0, true) (JustSign DOT ⌢ InParentheses A)
inner-bodied A f = leads-join ends_term (0, true) (0, false) (0, true) (JustSign DOT) (InParentheses A) (leads-just ends_term 0 true (0, false) (Sign DOT) refl) (parentheses false A f)

barred : (A B : Piece) → Inner A → Whole B → Inner (A ⌢ JustSign BAR ⌢ B)
barred A B f g = inner-joined A B (Sign BAR) refl f (inner B g)

mutual
  pub term : (t : RawTree) (asked : ℕ) → Leads ends_term (0, false) (0, true) (Term t asked)
  term (raw at node) asked = placed at asked (Bare node) (bare node)

  listed : (t : RawTree) → Inner (Listed t)
  listed (raw at node) ts h = elim h [
    | inl q ↦ inner (Placed at 0 (Bare node)) (placed at 0 (Bare node) (bare node)) ts q
    | inr q ↦ commas node ts q.4
  ]

  sequenced : (t : RawTree) → Inner (Sequenced t)
  sequenced (raw at node) ts h = elim h [
    | inl q ↦ inner (Placed at 0 (Bare node)) (placed at 0 (Bare node) (bare node)) ts q
    | inr q ↦ semicolons node ts q.4
  ]

  bare : (node : RawTreeNode) (asked : ℕ) → Whole (Bare node asked)
  bare (raw_name text) asked = leads-just ends_term 0 false (0, true) (Name text) refl
  bare (raw_level_name text n) asked = leads-just ends_term 0 false (0, true) (LevelName text n) refl
  bare (raw_bound_name n) asked = leads-just ends_term 0 false (0, true) (BoundName n) refl
  bare (raw_number z) asked = literal z asked
  bare (raw_constant c) asked = leads-just ends_term 0 false (0, true) (constant_kind c) (whole-constant c)
  bare (raw_word o a) asked = headed (InParentheses (Term a 0)) (word_kind o) (joint-word o) (parentheses false (Term a 0) (inner (Term a 0) (term a 0)))
  bare (raw_negative a) asked = binding-of 10 asked (JustSign MINUS ⌢ NoDigits (Term a 11)) (headed (NoDigits (Term a 11)) (Sign MINUS) refl (λ ts h. term a 11 ts h.0))
  bare (raw_infix o a b) asked = binding-of (binding o).own asked (Term a (binding o).left ⌢ Just (infix_kind o) ⌢ Term b (binding o).right) (joined (Term a (binding o).left) (Term b (binding o).right) (infix_kind o) (joint-infix o) (term a (binding o).left) (term b (binding o).right))
  bare (raw_inverse r) asked = behind (Term r 11) (JustSign INVERSE) (term r 11) (leads-just ends_term 0 true (0, true) (Sign INVERSE) refl)
  bare (raw_image r s) asked = behind (Term r 11) (InBrackets (Term s 0)) (term r 11) (brackets true (Term s 0) (inner (Term s 0) (term s 0)))
  bare (raw_apply f x) asked = behind (Term f 11) (InParentheses (Listed x)) (term f 11) (parentheses true (Listed x) (listed x))
  bare (raw_composition r s) asked = parentheses false (Sequenced r ⌢ JustSign SEMICOLON ⌢ Term s 0) (inner-joined (Sequenced r) (Term s 0) (Sign SEMICOLON) refl (sequenced r) (inner (Term s 0) (term s 0)))
  bare (raw_pair a b) asked = parentheses false (Listed a ⌢ JustSign COMMA ⌢ Term b 0) (inner-joined (Listed a) (Term b 0) (Sign COMMA) refl (listed a) (inner (Term b 0) (term b 0)))
  bare raw_empty_set asked = leads-join ends_term (0, false) (1, false) (0, true) (JustSign OPEN_BRACE) (JustSign CLOSE_BRACE) (leads-just ends_term 0 false (1, false) (Sign OPEN_BRACE) refl) (leads-just ends_term 1 false (0, true) (Sign CLOSE_BRACE) refl)
  bare (raw_extension ts) asked = braces (Terms ts) (terms ts)
  bare (raw_comprehension xs p) asked = braces (Names xs ⌢ JustSign BAR ⌢ Term p 0) (barred (Names xs) (Term p 0) (names xs) (term p 0))
  bare (raw_lambda xs p e) asked = headed (Binder xs ⌢ JustSign DOT ⌢ InParentheses (Term p 0 ⌢ JustSign BAR ⌢ Term e 0)) (Sign LAMBDA) refl (behind (Binder xs) (JustSign DOT ⌢ InParentheses (Term p 0 ⌢ JustSign BAR ⌢ Term e 0)) (binder xs) (inner-bodied (Term p 0 ⌢ JustSign BAR ⌢ Term e 0) (barred (Term p 0) (Term e 0) (inner (Term p 0) (term p 0)) (term e 0))))
  bare (raw_for_all xs p) asked = headed (Binder xs ⌢ JustSign DOT ⌢ InParentheses (Term p 0)) (Sign FOR_ALL) refl (behind (Binder xs) (JustSign DOT ⌢ InParentheses (Term p 0)) (binder xs) (bodied (Term p 0) (term p 0)))
  bare (raw_exists xs p) asked = headed (Binder xs ⌢ JustSign DOT ⌢ InParentheses (Term p 0)) (Sign EXISTS) refl (behind (Binder xs) (JustSign DOT ⌢ InParentheses (Term p 0)) (binder xs) (bodied (Term p 0) (term p 0)))
  bare (raw_typed_empty t) asked = braces (JustSign MEMBER ⌢ Typed t) (inner-headed (Typed t) (Sign MEMBER) refl (inner (Typed t) (typed t)))
  bare (raw_typed_for_all bs p) asked = headed (InParentheses (TypedBounds bs) ⌢ JustSign DOT ⌢ InParentheses (Term p 0)) (Sign FOR_ALL) refl (behind (InParentheses (TypedBounds bs)) (JustSign DOT ⌢ InParentheses (Term p 0)) (parentheses false (TypedBounds bs) (bounds bs)) (bodied (Term p 0) (term p 0)))
  bare (raw_typed_exists bs p) asked = headed (InParentheses (TypedBounds bs) ⌢ JustSign DOT ⌢ InParentheses (Term p 0)) (Sign EXISTS) refl (behind (InParentheses (TypedBounds bs)) (JustSign DOT ⌢ InParentheses (Term p 0)) (parentheses false (TypedBounds bs) (bounds bs)) (bodied (Term p 0) (term p 0)))
  bare (raw_ranged_comprehension rs p) asked = braces (Ranges rs ⌢ JustSign BAR ⌢ Term p 0) (barred (Ranges rs) (Term p 0) (ranges rs) (term p 0))
  bare (raw_ranged_lambda rs p e) asked = headed (InParentheses (Ranges rs) ⌢ JustSign DOT ⌢ InParentheses (Term p 0 ⌢ JustSign BAR ⌢ Term e 0)) (Sign LAMBDA) refl (behind (InParentheses (Ranges rs)) (JustSign DOT ⌢ InParentheses (Term p 0 ⌢ JustSign BAR ⌢ Term e 0)) (parentheses false (Ranges rs) (ranges rs)) (inner-bodied (Term p 0 ⌢ JustSign BAR ⌢ Term e 0) (barred (Term p 0) (Term e 0) (inner (Term p 0) (term p 0)) (term e 0))))

  commas : (node : RawTreeNode) → Inner (Commas node)
  commas (raw_pair a b) = inner-joined (Listed a) (Term b 0) (Sign COMMA) refl (listed a) (inner (Term b 0) (term b 0))
  commas _ = leads-never nothing (0, false) (0, true)

  semicolons : (node : RawTreeNode) → Inner (Semicolons node)
  semicolons (raw_composition r s) = inner-joined (Sequenced r) (Term s 0) (Sign SEMICOLON) refl (sequenced r) (inner (Term s 0) (term s 0))
  semicolons _ = leads-never nothing (0, false) (0, true)

  terms : (ts : RawTrees) → Inner (Terms ts)
  terms no_trees = leads-never nothing (0, false) (0, true)
  terms (tree_and t no_trees) = inner (Term t 0) (term t 0)
  terms (tree_and t (tree_and u us)) = inner-joined (Term t 0) (Terms (tree_and u us)) (Sign COMMA) refl (inner (Term t 0) (term t 0)) (terms (tree_and u us))

  ranges : (rs : RawRanges) → Inner (Ranges rs)
  ranges no_ranges = leads-never nothing (0, false) (0, true)
  ranges (range_and at n d no_ranges) = inner-joined (JustAt at (BoundName n)) (Term d 4) (Sign MEMBER) refl (leads-at nothing 0 false (0, true) at (BoundName n) refl) (inner (Term d 4) (term d 4))
  ranges (range_and at n d (range_and bt m e rs)) =
      inner-joined (JustAt at (BoundName n) ⌢ JustSign MEMBER ⌢ Term d 4) (Ranges (range_and bt m e rs)) (Sign COMMA) refl
      (inner-joined (JustAt at (BoundName n)) (Term d 4) (Sign MEMBER) refl (leads-at nothing 0 false (0, true) at (BoundName n) refl) (inner (Term d 4) (term d 4)))
      (ranges (range_and bt m e rs))

-- terms with commas between
pub all-terms : (ts : RawTrees) → Leads ends_terms (0, false) (0, true) (Terms ts)
all-terms no_trees = leads-never ends_terms (0, false) (0, true)
all-terms (tree_and t no_trees) = leads-fewer ends_terms ends_term (0, false) (0, true) (Term t 0) fewer-terms (term t 0)
all-terms (tree_and t (tree_and u us)) =
    leads-join ends_terms (0, false) (0, true) (0, true) (Term t 0) (JustSign COMMA ⌢ Terms (tree_and u us)) (leads-fewer ends_terms ends_term (0, false) (0, true) (Term t 0) fewer-terms (term t 0))
    (leads-join ends_terms (0, true) (0, false) (0, true) (JustSign COMMA) (Terms (tree_and u us)) (leads-just ends_terms 0 true (0, false) (Sign COMMA) refl) (all-terms (tree_and u us)))

-- names with commas between
pub all-names : (xs : List RawName) → Leads ends_names (0, false) (0, true) (Names xs)
all-names [] = leads-never ends_names (0, false) (0, true)
all-names (x ∷ []) = leads-at ends_names 0 false (0, true) x.at (Name x.text) refl
all-names (x ∷ y ∷ ys) =
    leads-join ends_names (0, false) (0, true) (0, true) (Declared x) (JustSign COMMA ⌢ Names (y ∷ ys)) (leads-at ends_names 0 false (0, true) x.at (Name x.text) refl)
    (leads-join ends_names (0, true) (0, false) (0, true) (JustSign COMMA) (Names (y ∷ ys)) (leads-just ends_names 0 true (0, false) (Sign COMMA) refl) (all-names (y ∷ ys)))

pub one-declared : (x : RawName) → Leads ends_names (0, false) (0, true) (Declared x)
one-declared x = leads-at ends_names 0 false (0, true) x.at (Name x.text) refl

-- names are gone over where no name ends anything, and no comma does
pub flat-declared : (stops : Stopper) → ((x : List ℕ) → stepped stops 0 false (Name x) ≡ Some (0, true)) → (x : RawName) → Leads stops (0, false) (0, true) (Declared x)
flat-declared stops e x = leads-at stops 0 false (0, true) x.at (Name x.text) (e x.text)

pub flat-names : (stops : Stopper) → ((x : List ℕ) → stepped stops 0 false (Name x) ≡ Some (0, true)) → stepped stops 0 true (Sign COMMA) ≡ Some (0, false) → (xs : List RawName) → Leads stops (0, false) (0, true) (Names xs)
flat-names stops e c [] = leads-never stops (0, false) (0, true)
flat-names stops e c (x ∷ []) = flat-declared stops e x
flat-names stops e c (x ∷ y ∷ ys) =
    leads-join stops (0, false) (0, true) (0, true) (Declared x) (JustSign COMMA ⌢ Names (y ∷ ys)) (flat-declared stops e x)
    (leads-join stops (0, true) (0, false) (0, true) (JustSign COMMA) (Names (y ∷ ys)) (leads-just stops 0 true (0, false) (Sign COMMA) c) (flat-names stops e c (y ∷ ys)))
