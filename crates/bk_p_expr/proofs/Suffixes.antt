-- What stands behind a term, one thing after another.
use Rattle.std.specs.Prelude.{◌≡◌, ℕ, zero, suc, pred, ◌+◌, ◌-◌, ◌<◌, ◌≤◌, Bool, true, false, cond, List, [], ◌∷◌, length, Option, None, Some, refl}
use Rattle.std.proofs.Common.{arith, ap, sym, subst, ◌∙◌}
use Rattle.bk_form.specs.declared.token.Token.{Token}
use Rattle.bk_ops.specs.declared.sign.TheConstants.{MINUS, OPEN_PAREN, OPEN_BRACKET, CLOSE_BRACKET, INVERSE}
use Rattle.bk_form.specs.declared.token.TokenKind.TheVariants.{Sign}
use Rattle.bk_raw.specs.Trees.Operators.{negated, tightest}
use Rattle.bk_raw.specs.Trees.RawTree.{RawTree, raw, RawTreeNode, raw_inverse, raw_image, raw_apply}
use Rattle.bk_raw.specs.Grammar.Reading.{same_kind, next, or_else, sign, start, begins_with, signed, front_kind, operand, within, arguments, primary_at, postfixed, tight, read}
use Rattle.bk_p_expr.specs.Pieces.{IsPiece}
use Rattle.bk_p_expr.specs.Openings.{primary, suffixed, unsigned, with_sign}
use Rattle.bk_p_expr.specs.Found.{Finds, FindsNone, FindsOperand, FindsSuffix, IsSuffix, NoOperand}
use Rattle.bk_p_expr.specs.declared.piece.Piece.{Piece}
use Rattle.bk_p_expr.specs.declared.terms.Suffix.{Suffix}
use Rattle.bk_p_expr.proofs.Choices.{some_same, or_else_found, next_found, next_fails}
use Rattle.bk_p_expr.proofs.Arguments.{arguments_fuel}
use Rattle.bk_p_expr.proofs.Fuel.{pred_is, Continues, continues_more, continues_done}

-- what stands behind a term, by what the token in front is, the term in brackets and the arguments
abbrev suffix_by : Bool → Bool → Bool → Token → List Token → Option (RawTree × List Token) → (List Token → Option (RawTree × List Token)) → Option ((RawTree → RawTreeNode) × List Token)
suffix_by a b c t us set given =
    cond a (next (cond a (Some (t, us)) None) (λ _ vs. Some (raw_inverse, vs))) (
    cond b (next set (λ s vs. Some ((λ t. raw_image t s), vs))) (
    cond c (next (cond c (Some (t, us)) None) (λ _ vs. next (given vs) (λ x ws. Some ((λ t. raw_apply t x), ws)))) None))

-- the term with that behind it, and more
abbrev term_by : Bool → Bool → Bool → Token → List Token → Option (RawTree × List Token) → (List Token → Option (RawTree × List Token)) → (RawTree → List Token → Option (RawTree × List Token)) → ℕ → RawTree → Option (RawTree × List Token) → Option (RawTree × List Token)
term_by a b c t us set given more at x d =
    cond a (next (cond a (Some (t, us)) None) (λ _ vs. more (raw at (raw_inverse x)) vs)) (
    cond b (or_else (next set (λ s vs. more (raw at (raw_image x s)) vs)) d) (
    cond c (or_else (next (cond c (Some (t, us)) None) (λ _ vs. next (given vs) (λ y ws. more (raw at (raw_apply x y)) ws))) d) d))

given_none : (r d : Option (RawTree × List Token)) (more : RawTree → List Token → Option (RawTree × List Token)) (at : ℕ) (x : RawTree) → next {B = RawTree → RawTreeNode} r (λ y ws. Some ((λ t. raw_apply t y), ws)) ≡ None → or_else (next r (λ y ws. more (raw at (raw_apply x y)) ws)) d ≡ d
given_none None d more at x e = refl
given_none (Some p) d more at x e = cc

by_ends : (a b c : Bool) (t : Token) (us : List Token) (set : Option (RawTree × List Token)) (given other : List Token → Option (RawTree × List Token)) (more : RawTree → List Token → Option (RawTree × List Token)) (at : ℕ) (x : RawTree) (d : Option (RawTree × List Token)) → other us ≡ given us → suffix_by a b c t us set given ≡ None → term_by a b c t us set other more at x d ≡ d
by_ends true b c t us set given other more at x d o e = cc
by_ends false true c t us None given other more at x d o e = refl
by_ends false true c t us (Some p) given other more at x d o e = cc
by_ends false false true t us set given other more at x d o e = (λ i. or_else (next (o i) (λ y ws. more (raw at (raw_apply x y)) ws)) d) ∙ given_none (given us) d more at x e
by_ends false false false t us set given other more at x d o e = refl

given_some : (r d : Option (RawTree × List Token)) (more : RawTree → List Token → Option (RawTree × List Token)) (at : ℕ) (x : RawTree) (form : RawTree → RawTreeNode) (vs : List Token) → ((y : RawTree) (ws : List Token) → (z : RawTree × List Token) × (more y ws ≡ Some z)) → next {B = RawTree → RawTreeNode} r (λ y ws. Some ((λ t. raw_apply t y), ws)) ≡ Some (form, vs) → or_else (next r (λ y ws. more (raw at (raw_apply x y)) ws)) d ≡ more (raw at (form x)) vs
given_some None d more at x form vs h e = cc
given_some (Some p) d more at x form vs h e =
    let s : ((λ t. raw_apply t p.0), p.1) ≡ (form, vs) = some_same ((λ t. raw_apply t p.0), p.1) (form, vs) e in
    let z = h (raw at (raw_apply x p.0)) p.1 in
    or_else_found (more (raw at (raw_apply x p.0)) p.1) d z.0 z.1 ∙ (λ i. more (raw at ((s i).0 x)) (s i).1)

by_goes_on : (a b c : Bool) (t : Token) (us : List Token) (set : Option (RawTree × List Token)) (given other : List Token → Option (RawTree × List Token)) (more : RawTree → List Token → Option (RawTree × List Token)) (at : ℕ) (x : RawTree) (d : Option (RawTree × List Token)) (form : RawTree → RawTreeNode) (vs : List Token) → ((y : RawTree) (ws : List Token) → (z : RawTree × List Token) × (more y ws ≡ Some z)) → other us ≡ given us → suffix_by a b c t us set given ≡ Some (form, vs) → term_by a b c t us set other more at x d ≡ more (raw at (form x)) vs
by_goes_on true b c t us set given other more at x d form vs h o e =
    let s : (raw_inverse, us) ≡ (form, vs) = some_same (raw_inverse, us) (form, vs) e in (λ i. more (raw at ((s i).0 x)) (s i).1)
by_goes_on false true c t us None given other more at x d form vs h o e = cc
by_goes_on false true c t us (Some p) given other more at x d form vs h o e =
    let s : ((λ t. raw_image t p.0), p.1) ≡ (form, vs) = some_same ((λ t. raw_image t p.0), p.1) (form, vs) e in
    let z = h (raw at (raw_image x p.0)) p.1 in
    or_else_found (more (raw at (raw_image x p.0)) p.1) d z.0 z.1 ∙ (λ i. more (raw at ((s i).0 x)) (s i).1)
by_goes_on false false true t us set given other more at x d form vs h o e = (λ i. or_else (next (o i) (λ y ws. more (raw at (raw_apply x y)) ws)) d) ∙ given_some (given us) d more at x form vs h e
by_goes_on false false false t us set given other more at x d form vs h o e = cc

some_of_choice : {B : Type 0} (b : Bool) (r : Option B) (d : B) → (y : B) × (cond b (or_else r (Some d)) (Some d) ≡ Some y)
some_of_choice false r d = (d, refl)
some_of_choice true None d = (d, refl)
some_of_choice true (Some y) d = (y, refl)

by_some : (a b c : Bool) (t : Token) (us : List Token) (set : Option (RawTree × List Token)) (given : List Token → Option (RawTree × List Token)) (more : RawTree → List Token → Option (RawTree × List Token)) (at : ℕ) (x : RawTree) (d : RawTree × List Token) → ((y : RawTree) (ws : List Token) → (z : RawTree × List Token) × (more y ws ≡ Some z)) → (z : RawTree × List Token) × (term_by a b c t us set given more at x (Some d) ≡ Some z)
by_some true b c t us set given more at x d h = h (raw at (raw_inverse x)) us
by_some false true c t us set given more at x d h = some_of_choice true (next set (λ s vs. more (raw at (raw_image x s)) vs)) d
by_some false false true t us set given more at x d h = some_of_choice true (next (given us) (λ y ws. more (raw at (raw_apply x y)) ws)) d
by_some false false false t us set given more at x d h = (d, refl)

pub suffixed_some : (m n at : ℕ) (x : RawTree) (ts : List Token) → (z : RawTree × List Token) × (postfixed m (read n) at x ts ≡ Some z)
suffixed_some zero n at x ts = ((x, ts), refl)
suffixed_some (suc m) n at x [] = ((x, []), refl)
suffixed_some (suc m) n at x (t ∷ us) = by_some (begins_with INVERSE (t ∷ us)) (begins_with OPEN_BRACKET (t ∷ us)) (begins_with OPEN_PAREN (t ∷ us)) t us (within OPEN_BRACKET CLOSE_BRACKET (read n 0) (t ∷ us)) (λ vs. arguments m (read n) vs) (postfixed m (read n) at) at x (x, t ∷ us) (λ y ws. suffixed_some m n at y ws)

pub suffixed_ends : (m n at : ℕ) (x : RawTree) (ts : List Token) → length ts ≤ m → length ts ≤ n → suffixed n ts ≡ None → postfixed m (read n) at x ts ≡ Some (x, ts)
suffixed_ends zero n at x ts l r e = refl
suffixed_ends (suc m) n at x [] l r e = refl
suffixed_ends (suc m) n at x (t ∷ us) l r e = by_ends (begins_with INVERSE (t ∷ us)) (begins_with OPEN_BRACKET (t ∷ us)) (begins_with OPEN_PAREN (t ∷ us)) t us (within OPEN_BRACKET CLOSE_BRACKET (read n 0) (t ∷ us)) (arguments n (read n)) (λ vs. arguments m (read n) vs) (postfixed m (read n) at) at x (Some (x, t ∷ us)) (arguments_fuel m n us (omega (arith, l)) (omega (arith, r))) e

pub suffixed_goes_on : (m n at : ℕ) (x : RawTree) (ts : List Token) (form : RawTree → RawTreeNode) (vs : List Token) → length ts ≤ m + 1 → length ts ≤ n → suffixed n ts ≡ Some (form, vs) → postfixed (suc m) (read n) at x ts ≡ postfixed m (read n) at (raw at (form x)) vs
suffixed_goes_on m n at x [] form vs l r e = cc
suffixed_goes_on m n at x (t ∷ us) form vs l r e = by_goes_on (begins_with INVERSE (t ∷ us)) (begins_with OPEN_BRACKET (t ∷ us)) (begins_with OPEN_PAREN (t ∷ us)) t us (within OPEN_BRACKET CLOSE_BRACKET (read n 0) (t ∷ us)) (arguments n (read n)) (λ vs. arguments m (read n) vs) (postfixed m (read n) at) at x (Some (x, t ∷ us)) form vs (λ y ws. suffixed_some m n at y ws) (arguments_fuel m n us (omega (arith, l)) (omega (arith, r))) e

-- ---- the loop
pub record TightSoFar (ts : List Token) (at : ℕ) (piece : Piece) (rest : List Token) : Type 0 where
  pub tree : RawTree
  pub built : IsPiece tree piece
  pub so_far : Continues (length ts - 1) (length rest) (λ n. tight n (read n) ts) (λ n k. postfixed k (read n) at tree rest)
  pub shorter : length rest < length ts

tight_first : (n : ℕ) (t : Token) (us : List Token) (x : RawTree) (vs : List Token) → primary_at n (read n) t.kind t.start us ≡ Some (x, vs) → tight n (read n) (t ∷ us) ≡ postfixed n (read n) t.start x vs
tight_first n t us x vs e = next_found (primary_at n (read n) t.kind t.start us) x vs (λ y ws. postfixed n (read n) t.start y ws) e

tight_fails_at : (n : ℕ) (t : Token) (us : List Token) → primary_at n (read n) t.kind t.start us ≡ None → tight n (read n) (t ∷ us) ≡ None
tight_fails_at n t us e = next_fails (primary_at n (read n) t.kind t.start us) (λ y ws. postfixed n (read n) t.start y ws) e

pub tight_begins : (ts : List Token) (t : Token) (us : List Token) (piece : Piece) (vs : List Token) → ts ≡ t ∷ us → Finds (λ n. primary_at n (read n) t.kind t.start us) (length us) (λ x. x) piece vs → length vs ≤ length us → TightSoFar ts t.start piece vs
tight_begins ts t us piece vs e f l = record {
  tree = f.tree;
  built = f.built;
  so_far = record { so_far = λ n m. (n, omega (arith, ap length e, m, l), (λ i. tight n (read n) (e i)) ∙ tight_first n t us f.tree vs (f.found n (omega (arith, ap length e, m)))) };
  shorter = omega (arith, ap length e, l);
}

suffixed_step : (k n at : ℕ) (x : RawTree) (ts : List Token) (form : RawTree → RawTreeNode) (vs : List Token) → 1 ≤ k → length ts ≤ k → length ts ≤ n → suffixed n ts ≡ Some (form, vs) → postfixed k (read n) at x ts ≡ postfixed (pred k) (read n) at (raw at (form x)) vs
suffixed_step zero n at x ts form vs l q r e = absurd (omega (arith, l))
suffixed_step (suc k) n at x ts form vs l q r e = suffixed_goes_on k n at x ts form vs (omega (arith, q)) r e

pub tight_goes_on : (ts : List Token) (at : ℕ) (piece : Piece) (rest : List Token) (suffix : Suffix) (after : List Token) (new : Piece) → TightSoFar ts at piece rest → FindsSuffix rest suffix after → length after < length rest → ((form : RawTree → RawTreeNode) (tree : RawTree) → IsSuffix form suffix → IsPiece tree piece → IsPiece (raw at (form tree)) new) → TightSoFar ts at new after
tight_goes_on ts at piece rest suffix after new s f l h = record {
  tree = raw at (f.form s.tree);
  built = h f.form s.tree f.built s.built;
  so_far = continues_more (length ts - 1) (length rest) (length after) (λ n. tight n (read n) ts) (λ n k. postfixed k (read n) at s.tree rest) (λ n k. postfixed k (read n) at (raw at (f.form s.tree)) after) s.so_far (λ n k m r. (pred k, omega (arith, pred_is k, r, l), suffixed_step k n at s.tree rest f.form after (omega (arith, r, l)) r (omega (arith, m, s.shorter)) (f.found n (omega (arith, m, s.shorter)))));
  shorter = omega (arith, l, s.shorter);
}

pub tight_ends : (ts : List Token) (at : ℕ) (piece : Piece) (rest : List Token) → TightSoFar ts at piece rest → FindsNone (λ n. suffixed n rest) (length rest) → Finds (λ n. tight n (read n) ts) (length ts - 1) (λ t. t) piece rest
tight_ends ts at piece rest s f = record {
  tree = s.tree;
  found = continues_done (length ts - 1) (length rest) (λ n. tight n (read n) ts) (λ n k. postfixed k (read n) at s.tree rest) (Some (s.tree, rest)) s.so_far (λ n k m r. suffixed_ends k n at s.tree rest r (omega (arith, m, s.shorter)) (f n (omega (arith, m, s.shorter))));
  built = s.built;
}

-- ---- a leaf or a bracket in front
pub tight_fails_all : (ts : List Token) → FindsNone (λ n. primary n ts) (length ts - 1) → FindsNone (λ n. tight n (read n) ts) (length ts - 1)
tight_fails_all [] f n m = refl
tight_fails_all (t ∷ us) f n m = tight_fails_at n t us (f n m)

pub tight_begins_all : (ts : List Token) (at : ℕ) (piece : Piece) (vs : List Token) → at ≡ start ts → Finds (λ n. primary n ts) (length ts - 1) (λ x. x) piece vs → length vs < length ts → TightSoFar ts at piece vs
tight_begins_all [] at piece vs e f l = absurd (omega (arith, l))
tight_begins_all (t ∷ us) at piece vs e f l = subst (λ k. TightSoFar (t ∷ us) k piece vs) (sym e) (tight_begins (t ∷ us) t us piece vs refl (record { tree = f.tree; found = λ n m. f.found n (omega (arith, m)); built = f.built }) (omega (arith, l)))

-- ---- with a minus sign in front, or without
operand_by : (n : ℕ) (b : Bool) (t : Token) (us : List Token) → cond b (next {B = RawTree × ℕ} (cond b (Some (t, us)) None) (λ t us. next {B = RawTree × ℕ} (tight n (read n) us) (λ x vs. Some ((raw t.start (signed (front_kind us) x), negated), vs)))) (next {B = RawTree × ℕ} (tight n (read n) (t ∷ us)) (λ x us. Some ((x, tightest), us))) ≡ next {B = RawTree × ℕ} (tight n (read n) (cond b us (t ∷ us))) (λ x vs. Some (cond b (raw t.start (signed (front_kind (cond b us (t ∷ us))) x), negated) (x, tightest), vs))
operand_by n true t us = refl
operand_by n false t us = refl

operand_signed : (n : ℕ) (ts : List Token) → operand n (read n) ts ≡ next (tight n (read n) (unsigned ts)) (λ x us. Some (with_sign ts x, us))
operand_signed n [] = refl
operand_signed n (t ∷ us) = operand_by n (same_kind t.kind (Sign MINUS)) t us

unsigned_by : (b : Bool) (t : Token) (us : List Token) → length (cond b us (t ∷ us)) ≤ length (t ∷ us)
unsigned_by true t us = omega arith
unsigned_by false t us = omega arith

pub unsigned_length : (ts : List Token) → length (unsigned ts) ≤ length ts
unsigned_length [] = omega arith
unsigned_length (t ∷ us) = unsigned_by (same_kind t.kind (Sign MINUS)) t us

minus_by : (b : Bool) (t u : Token) (us vs : List Token) → cond {A = Option (Token × List Token)} b (Some (t, us)) None ≡ Some (u, vs) → (b ≡ true) × (us ≡ vs) × (t ≡ u)
minus_by true t u us vs e = let s : (t, us) ≡ (u, vs) = some_same (t, us) (u, vs) e in (refl, (λ i. (s i).1), (λ i. (s i).0))
minus_by false t u us vs e = cc

pub unsigned_minus : (ts : List Token) (u : Token) (vs : List Token) → sign MINUS ts ≡ Some (u, vs) → unsigned ts ≡ vs
unsigned_minus [] u vs e = cc
unsigned_minus (t ∷ us) u vs e = let m = minus_by (same_kind t.kind (Sign MINUS)) t u us vs e in (λ i. cond (m.0 i) us (t ∷ us)) ∙ m.1

pub start_minus : (ts : List Token) (u : Token) (vs : List Token) → sign MINUS ts ≡ Some (u, vs) → start ts ≡ u.start
start_minus [] u vs e = cc
start_minus (t ∷ us) u vs e = let m = minus_by (same_kind t.kind (Sign MINUS)) t u us vs e in (λ i. (m.2 i).start)

pub signed_minus : (ts : List Token) (tree : RawTree) (u : Token) (vs : List Token) → begins_with MINUS ts ≡ true → sign MINUS ts ≡ Some (u, vs) → with_sign ts tree ≡ (raw u.start (signed (front_kind vs) tree), negated)
signed_minus ts tree u vs b e = (λ i. cond (b i) (raw (start_minus ts u vs e i) (signed (front_kind (unsigned_minus ts u vs e i)) tree), negated) (tree, tightest))

pub operand_fails : (ts us : List Token) → us ≡ unsigned ts → FindsNone (λ n. primary n us) (length us - 1) → NoOperand ts
operand_fails ts us e f n m =
    let g : FindsNone (λ n. tight n (read n) (unsigned ts)) (length (unsigned ts) - 1) = tight_fails_all (unsigned ts) (subst (λ xs. FindsNone (λ n. primary n xs) (length xs - 1)) e f) in
    operand_signed n ts ∙ next_fails (tight n (read n) (unsigned ts)) (λ x us. Some (with_sign ts x, us)) (g n (omega (arith, unsigned_length ts, m)))

pub operand_begins : (ts us : List Token) (at : ℕ) (piece : Piece) (vs : List Token) → us ≡ unsigned ts → at ≡ start us → Finds (λ n. primary n us) (length us - 1) (λ x. x) piece vs → length vs < length us → TightSoFar (unsigned ts) at piece vs
operand_begins ts us at piece vs e s f l = subst (λ xs. TightSoFar xs at piece vs) e (tight_begins_all us at piece vs s f l)

pub operand_ends : (ts : List Token) (at : ℕ) (piece : Piece) (rest : List Token) (new : Piece) (strength : ℕ) → TightSoFar (unsigned ts) at piece rest → FindsNone (λ n. suffixed n rest) (length rest) → ((tree : RawTree) → IsPiece tree piece → IsPiece (with_sign ts tree).0 new) → ((tree : RawTree) → strength ≡ (with_sign ts tree).1) → FindsOperand ts new strength rest
operand_ends ts at piece rest new strength t g h k =
    let f = tight_ends (unsigned ts) at piece rest t g in
    record {
      tree = (with_sign ts f.tree).0;
      found = λ n m. operand_signed n ts ∙ next_found (tight n (read n) (unsigned ts)) f.tree rest (λ x us. Some (with_sign ts x, us)) (f.found n (omega (arith, unsigned_length ts, m))) ∙ (λ i. Some (((with_sign ts f.tree).0, sym (k f.tree) i), rest));
      built = h f.tree f.built;
    }

pub operand_shorter : (ts : List Token) (at : ℕ) (piece : Piece) (rest : List Token) → TightSoFar (unsigned ts) at piece rest → length rest < length ts
operand_shorter ts at piece rest t = omega (arith, t.shorter, unsigned_length ts)
