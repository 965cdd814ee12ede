-- How terms begin: what the reader reads, by what stands in front.
use Rattle.std.specs.Prelude.{◌≡◌, ◌≢◌, ℕ, ◌<◌, ◌≤◌, Bool, true, false, cond, not, List, [], length, Option, None, Some, Result, Ok, Err, refl, pos, negsuc}
use Rattle.std.proofs.Common.{arith, sym, ◌∙◌}
use denote.Ref.{Bor}
use Rattle.bk_form.specs.declared.token.Token.{Token}
use Rattle.bk_form.specs.declared.token.TokenKind.{TokenKind}
use Rattle.bk_form.specs.declared.token.TokenKind.TheVariants.{Name, LevelName, BoundName, Number, Sign, Word}
use Rattle.bk_ops.specs.declared.sign.TheConstants.{MEMBER, OPEN_PAREN, CLOSE_PAREN, CLOSE_BRACE, DOT, BAR}
use Rattle.bk_raw.specs.Grammar.Bars.{bar_follows}
use Rattle.bk_raw.specs.Trees.Operators.{word_kind}
use Rattle.bk_raw.specs.Trees.WrittenType.{WrittenType}
use Rattle.bk_raw.specs.Trees.RawTree.{RawTree, raw, RawTreeNode, raw_empty_set, raw_typed_empty, raw_extension, raw_comprehension, raw_ranged_comprehension}
use Rattle.bk_raw.specs.declared.operator.WordOp.{WordOp}
use Rattle.bk_raw.specs.declared.term.RawName.{RawName}
use Rattle.bk_raw.specs.declared.term.RawBound.{RawBound}
use Rattle.bk_raw.specs.Grammar.Reading.{next, sign, begins_with, begins_bound, begins_bound_in, within, names, binder, bounds, typed, terms, ranges, at_byte, braces, body, primary_at, read, constant_of, word_of}
use Rattle.bk_p_expr.specs.Openings.{enclosed, surrounded, dot_paren, typed_empty, named_set, quantified_by, binders, plain_form, typed_form}
use Rattle.bk_p_expr.specs.Pieces.{IsPiece}
use Rattle.bk_p_expr.specs.Found.{Finds, FindsNone, FindsThis, IsNoLeaf, SameFrom, Opens, Begins}
use Rattle.bk_p_expr.specs.declared.divider.Inside.TheVariants.{Term}
use Rattle.bk_p_expr.specs.declared.opening.Opening.{Opening}
use Rattle.bk_p_expr.specs.declared.opening.Opening.TheVariants.{Closed, Around, Listed, Extension, Described, Lambda, RangedLambda}
use Rattle.bk_p_expr.specs.declared.opening.Quantifier.{Quantifier}
use Rattle.bk_p_expr.specs.declared.piece.Piece.{Piece}
use Rattle.bk_p_expr.proofs.Choices.{next_joined}
use Rattle.bk_p_expr.proofs.Written.{word_of-none}

-- ---- the same answer by another name
same_none : (whole other : ℕ → Option (RawTree × List Token)) (least less : ℕ) → less ≤ least → SameFrom least whole other → FindsNone other less → FindsNone whole least
same_none whole other least less l h f n m = h n m ∙ f n (omega (arith, l, m))

same_opens : (whole other : ℕ → Option (RawTree × List Token)) (least less at : ℕ) (o : Opening) (rest : List Token) → less ≤ least → SameFrom least whole other → Opens other less at o rest → Opens whole least at o rest
same_opens whole other least less at (Closed piece) rest l h k = record { tree = k.tree; found = λ n m. h n m ∙ k.found n (omega (arith, l, m)); built = k.built }
same_opens whole other least less at (Around form end) rest l h k = λ n m. h n m ∙ k n (omega (arith, l, m))
same_opens whole other least less at Listed rest l h k = λ n m. h n m ∙ k n (omega (arith, l, m))
same_opens whole other least less at Extension rest l h k = λ n m. h n m ∙ k n (omega (arith, l, m))
same_opens whole other least less at Described rest l h k = λ n m. h n m ∙ k n (omega (arith, l, m))
same_opens whole other least less at (Lambda xs) rest l h k = λ n m. h n m ∙ k n (omega (arith, l, m))
same_opens whole other least less at RangedLambda rest l h k = λ n m. h n m ∙ k n (omega (arith, l, m))

pub begins_same : {E : Type 0} (whole other : ℕ → Option (RawTree × List Token)) (least less at : ℕ) (r : Result (Option (Opening × Bor (List Token))) E) → less ≤ least → SameFrom least whole other → Begins other less at r → Begins whole least at r
begins_same whole other least less at (Err e) l h k = tt
begins_same whole other least less at (Ok None) l h k = same_none whole other least less l h k
begins_same whole other least less at (Ok (Some p)) l h k = same_opens whole other least less at p.0 p.1.now l h k

-- ---- a word before a term

-- a node around a term that a sign closes
at_around : (at : ℕ) (form : RawTree → RawTreeNode) (r : Option (RawTree × List Token)) → at_byte at (next r (λ x us. Some (form x, us))) ≡ next r (λ x us. Some (raw at (form x), us))
at_around at form None = refl
at_around at form (Some p) = refl

-- what is no leaf, no word before a term and no sign
no_word : (n at : ℕ) (ts : List Token) (op : ℕ) → constant_of (Word op) ≡ None → word_of (Word op) ≡ None → primary_at n (read n) (Word op) at ts ≡ None
no_word n at ts op e f = rw (e, f)

pub other_none : (kind : TokenKind) (at : ℕ) (ts : List Token) → IsNoLeaf kind → ((o : WordOp) → word_kind o ≢ kind) → ((op : ℕ) → kind ≡ Sign op → ⊥) → FindsNone (λ n. primary_at n (read n) kind at ts) (length ts)
other_none (Name text) at ts h w s n m = elim h [ ]
other_none (LevelName text l) at ts h w s n m = elim h [ ]
other_none (BoundName l) at ts h w s n m = elim h [ ]
other_none (Number (pos l)) at ts h w s n m = elim h [ ]
other_none (Number (negsuc l)) at ts h w s n m = refl
other_none (Sign op) at ts h w s n m = absurd (s op refl)
other_none (Word op) at ts h w s n m = no_word n at ts op h (word_of-none (Word op) w)

-- ---- braces
-- what stands behind an open brace, by what is known of it
abbrev brace_by : ℕ → ℕ → List Token → Bool → Bool → Bool → Bool → Option (RawTree × List Token)
brace_by n at ts a b c d = at_byte at (
    cond a (next (sign CLOSE_BRACE ts) (λ _ us. Some (raw_empty_set, us))) (
    cond b (next (within MEMBER CLOSE_BRACE (typed n) ts) (λ t us. Some (raw_typed_empty t, us))) (
    cond (not c) (next (terms n (read n) ts) (λ xs us. next (sign CLOSE_BRACE us) (λ _ vs. Some (raw_extension xs, vs)))) (
    cond d
    (next (ranges n (read n) ts) (λ rs us. next (within BAR CLOSE_BRACE (read n 0) us) (λ p vs. Some (raw_ranged_comprehension rs p, vs))))
    (next (names ts) (λ xs us. next (within BAR CLOSE_BRACE (read n 0) us) (λ p vs. Some (raw_comprehension xs p, vs))))))))

brace_known : (n at : ℕ) (ts : List Token) (a b c d : Bool) → begins_with CLOSE_BRACE ts ≡ a → begins_with MEMBER ts ≡ b → bar_follows 0 ts ≡ c → begins_bound ts ≡ d → at_byte at (braces n (read n) ts) ≡ brace_by n at ts a b c d
brace_known n at ts a b c d e f g h = λ i. brace_by n at ts (e i) (f i) (g i) (h i)

pub empty_opens : (at : ℕ) (ts : List Token) (u : Token) (us : List Token) (piece : Piece) → begins_with CLOSE_BRACE ts ≡ true → sign CLOSE_BRACE ts ≡ Some (u, us) → IsPiece (raw at raw_empty_set) piece → Finds (λ n. at_byte at (braces n (read n) ts)) (length ts) (λ x. x) piece us
empty_opens at ts u us piece b e h = record { tree = raw at raw_empty_set; found = λ n m. brace_known n at ts true (begins_with MEMBER ts) (bar_follows 0 ts) (begins_bound ts) b refl refl refl ∙ (λ i. at_byte at (next (e i) (λ _ us. Some (raw_empty_set, us)))); built = h }

pub named_same : (at : ℕ) (ts : List Token) → begins_with CLOSE_BRACE ts ≡ false → begins_with MEMBER ts ≡ false → bar_follows 0 ts ≡ true → begins_bound ts ≡ false → SameFrom (length ts) (λ n. at_byte at (braces n (read n) ts)) (λ n. named_set n at ts)
named_same at ts a b c d n m = brace_known n at ts false false true false a b c d

-- ---- {:T}

typed_empty_read : (n at : ℕ) (ts : List Token) (t : Token) (us : List Token) → sign MEMBER ts ≡ Some (t, us) → typed_empty n at ts ≡ at_byte at (next (next (typed n us) (λ x vs. next (sign CLOSE_BRACE vs) (λ _ ws. Some (x, ws)))) (λ t us. Some (raw_typed_empty t, us)))
typed_empty_read n at ts t us a = λ i. at_byte at (next (next (a i) (λ _ us. next (typed n us) (λ x vs. next (sign CLOSE_BRACE vs) (λ _ ws. Some (x, ws))))) (λ t us. Some (raw_typed_empty t, us)))

typed_empty_typed : (n at : ℕ) (ts : List Token) (t : Token) (us : List Token) (ty : WrittenType) (vs : List Token) → sign MEMBER ts ≡ Some (t, us) → typed n us ≡ Some (ty, vs) → typed_empty n at ts ≡ at_byte at (next (next (sign CLOSE_BRACE vs) (λ _ ws. Some (ty, ws))) (λ t us. Some (raw_typed_empty t, us)))
typed_empty_typed n at ts t us ty vs a b = typed_empty_read n at ts t us a ∙ (λ i. at_byte at (next (next (b i) (λ x vs. next (sign CLOSE_BRACE vs) (λ _ ws. Some (x, ws)))) (λ t us. Some (raw_typed_empty t, us))))

pub typed_empty_opens : (at : ℕ) (ts : List Token) (t : Token) (us : List Token) (ty : WrittenType) (vs : List Token) (u : Token) (ws : List Token) (new : Piece) → sign MEMBER ts ≡ Some (t, us) → length us < length ts → FindsThis (λ n. typed n us) (length us) ty vs → sign CLOSE_BRACE vs ≡ Some (u, ws) → IsPiece (raw at (raw_typed_empty ty)) new → Finds (λ n. typed_empty n at ts) (length ts) (λ x. x) new ws
typed_empty_opens at ts t us ty vs u ws new a l f z h = record { tree = raw at (raw_typed_empty ty); found = λ n m. typed_empty_typed n at ts t us ty vs a (f n (omega (arith, l, m))) ∙ (λ i. at_byte at (next (next (z i) (λ _ ws. Some (ty, ws))) (λ t us. Some (raw_typed_empty t, us)))); built = h }

-- ---- a quantified term
bound_by : (n : ℕ) (q : Quantifier) (b : Bool) (p : Option (List RawBound × List Token)) (r : Option (List RawName × List Token)) → cond b (next p (λ bs us. next (body (read n) us) (λ x vs. Some (typed_form q bs x, vs)))) (next r (λ xs us. next (body (read n) us) (λ x vs. Some (plain_form q xs x, vs)))) ≡ next (cond b (next p (λ bs us. Some (typed_form q bs, us))) (next r (λ xs us. Some (plain_form q xs, us)))) (λ make us. next (body (read n) us) (λ x vs. Some (make x, vs)))
bound_by n q true None r = refl
bound_by n q true (Some p) r = refl
bound_by n q false p None = refl
bound_by n q false p (Some r) = refl

quantified_read : (n at : ℕ) (q : Quantifier) (ts : List Token) → quantified_by n at q ts ≡ at_byte at (next (binders n q ts) (λ make us. next (body (read n) us) (λ x vs. Some (make x, vs))))
quantified_read n at q ts = λ i. at_byte at (bound_by n q (begins_bound_in ts) (within OPEN_PAREN CLOSE_PAREN (bounds n) ts) (binder ts) i)

body_read : (n : ℕ) (ts : List Token) → body (read n) ts ≡ next (dot_paren ts) (λ _ us. enclosed n Term CLOSE_PAREN us)
body_read n ts = sym (next_joined (sign DOT ts) (λ _ us. sign OPEN_PAREN us) (λ _ us. enclosed n Term CLOSE_PAREN us))

pub quantified_none : (at : ℕ) (q : Quantifier) (ts : List Token) → FindsNone (λ n. binders n q ts) (length ts) → FindsNone (λ n. quantified_by n at q ts) (length ts)
quantified_none at q ts f n m = let a : binders n q ts ≡ None = f n m in quantified_read n at q ts ∙ (λ i. at_byte at (next (a i) (λ make us. next (body (read n) us) (λ x vs. Some (make x, vs)))))

quantified_bound : (n at : ℕ) (q : Quantifier) (ts : List Token) (make : RawTree → RawTreeNode) (us : List Token) → binders n q ts ≡ Some (make, us) → quantified_by n at q ts ≡ at_byte at (next (next (dot_paren us) (λ _ vs. enclosed n Term CLOSE_PAREN vs)) (λ x vs. Some (make x, vs)))
quantified_bound n at q ts make us a = quantified_read n at q ts ∙ (λ i. at_byte at (next (a i) (λ make us. next (body (read n) us) (λ x vs. Some (make x, vs))))) ∙ (λ i. at_byte at (next (body_read n us i) (λ x vs. Some (make x, vs))))

pub quantified_none_dot : (at : ℕ) (q : Quantifier) (ts : List Token) (make : RawTree → RawTreeNode) (us : List Token) → FindsThis (λ n. binders n q ts) (length ts) make us → dot_paren us ≡ None → FindsNone (λ n. quantified_by n at q ts) (length ts)
quantified_none_dot at q ts make us f a n m = quantified_bound n at q ts make us (f n m) ∙ (λ i. at_byte at (next (next (a i) (λ _ vs. enclosed n Term CLOSE_PAREN vs)) (λ x vs. Some (make x, vs))))

pub quantified_opens : (at : ℕ) (q : Quantifier) (ts : List Token) (make : RawTree → RawTreeNode) (us : List Token) (t : Token) (vs : List Token) → FindsThis (λ n. binders n q ts) (length ts) make us → dot_paren us ≡ Some (t, vs) → SameFrom (length ts) (λ n. quantified_by n at q ts) (λ n. surrounded n at make CLOSE_PAREN vs)
quantified_opens at q ts make us t vs f a n m = quantified_bound n at q ts make us (f n m) ∙ (λ i. at_byte at (next (next (a i) (λ _ vs. enclosed n Term CLOSE_PAREN vs)) (λ x vs. Some (make x, vs)))) ∙ at_around at make (enclosed n Term CLOSE_PAREN vs)
