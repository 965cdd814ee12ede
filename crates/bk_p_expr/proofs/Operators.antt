-- Operators behind a term, one after another.
use Rattle.std.specs.Prelude.{◌≡◌, ℕ, zero, suc, pred, ◌-◌, ◌<◌, ◌≤◌, Bool, true, false, cond, ◌&&◌, nat_le, List, [], ◌∷◌, length, Option, None, Some, refl}
use Rattle.std.proofs.Common.{arith, ap, sym, subst, ◌∙◌}
use Rattle.std.proofs.lemmas.Bool.{le-leb, leb-true}
use Rattle.bk_form.specs.declared.token.Token.{Token}
use Rattle.bk_raw.specs.Trees.Operators.{binding}
use Rattle.bk_raw.specs.Trees.RawTree.{RawTree, raw, raw_infix}
use Rattle.bk_raw.specs.declared.operator.InfixOp.{InfixOp}
use Rattle.bk_raw.specs.Grammar.Reading.{Reader, next, or_else, start, operand, operators_after, joined_by, read, infix_of}
use Rattle.bk_p_expr.specs.Pieces.{IsPiece, between_node}
use Rattle.bk_p_expr.specs.Openings.{Fits, NoneFits}
use Rattle.bk_p_expr.specs.Found.{Finds, FindsNone}
use Rattle.bk_p_expr.specs.declared.piece.Piece.{Piece}
use Rattle.bk_p_expr.specs.declared.piece.Between.TheVariants.{Infix}
use Rattle.bk_p_expr.proofs.Choices.{some_same, or_else_found, next_found, next_fails}
use Rattle.bk_p_expr.proofs.Written.{not_true, infix_of-is, infix_of-some}
use Rattle.bk_p_expr.proofs.Fuel.{pred_is, Continues, continues_more, continues_done}

-- ---- an operator and its right operand, where so much is asked of its strength, behind a term of some strength
abbrev pub operator_by : ℕ → ℕ → ℕ → List Token → Option InfixOp → Option ((InfixOp × RawTree) × List Token)
operator_by n asked strength ts None = None
operator_by n asked strength ts (Some o) = cond (nat_le asked (binding o).own && nat_le (binding o).left strength) (next (read n (binding o).right ts) (λ right us. Some ((o, right), us))) None

abbrev pub operator_of : ℕ → ℕ → ℕ → Reader (InfixOp × RawTree)
operator_of n asked strength [] = None
operator_of n asked strength (t ∷ ts) = operator_by n asked strength ts (infix_of t.kind)

and_first : (a b : Bool) → (a && b) ≡ true → a ≡ true
and_first true b e = refl
and_first false b e = cc

and_second : (a b : Bool) → (a && b) ≡ true → b ≡ true
and_second true b e = e
and_second false b e = cc

test_fails : (asked own left strength : ℕ) → (asked ≤ own → left ≤ strength → ⊥) → (nat_le asked own && nat_le left strength) ≡ false
test_fails asked own left strength h = not_true (nat_le asked own && nat_le left strength) (λ e. h (leb-true asked own (and_first (nat_le asked own) (nat_le left strength) e)) (leb-true left strength (and_second (nat_le asked own) (nat_le left strength) e)))

test_passes : (asked own left strength : ℕ) → asked ≤ own → left ≤ strength → (nat_le asked own && nat_le left strength) ≡ true
test_passes asked own left strength h k = (λ i. (le-leb asked own h i) && (le-leb left strength k i))

none_by : (n asked strength : ℕ) (t : Token) (us : List Token) (o : Option InfixOp) → infix_of t.kind ≡ o → NoneFits asked strength (t ∷ us) → operator_by n asked strength us o ≡ None
none_by n asked strength t us None e h = refl
none_by n asked strength t us (Some o) e h = λ i. cond (test_fails asked (binding o).own (binding o).left strength (λ a b. h o us (t, refl, infix_of-is t.kind o e, a, b)) i) (next (read n (binding o).right us) (λ right vs. Some ((o, right), vs))) None

operator_none : (n asked strength : ℕ) (ts : List Token) → NoneFits asked strength ts → operator_of n asked strength ts ≡ None
operator_none n asked strength [] h = refl
operator_none n asked strength (t ∷ us) h = none_by n asked strength t us (infix_of t.kind) refl h

operator_at : (n asked strength : ℕ) (ts : List Token) (t : Token) (us : List Token) (o : Option InfixOp) → ts ≡ t ∷ us → infix_of t.kind ≡ o → operator_of n asked strength ts ≡ operator_by n asked strength us o
operator_at n asked strength ts t us o e f = (λ i. operator_of n asked strength (e i)) ∙ (λ i. operator_by n asked strength us (f i))

operator_read : (n asked strength : ℕ) (ts : List Token) (o : InfixOp) (us : List Token) → Fits asked strength ts o us → operator_of n asked strength ts ≡ next (read n (binding o).right us) (λ right vs. Some ((o, right), vs))
operator_read n asked strength ts o us f = operator_at n asked strength ts f.0 us (Some o) f.1 (infix_of-some f.0.kind o f.2) ∙ (λ i. cond (test_passes asked (binding o).own (binding o).left strength f.3 f.4 i) (next (read n (binding o).right us) (λ right vs. Some ((o, right), vs))) None)

operator_none_right : (asked strength : ℕ) (ts : List Token) (o : InfixOp) (us : List Token) → Fits asked strength ts o us → FindsNone (λ n. read n (binding o).right us) (length us) → FindsNone (λ n. operator_of n asked strength ts) (length ts)
operator_none_right asked strength ts o us f g n m = operator_read n asked strength ts o us f ∙ next_fails (read n (binding o).right us) (λ right vs. Some ((o, right), vs)) (g n (omega (arith, ap length f.1, m)))

operator_some : (asked strength : ℕ) (ts : List Token) (o : InfixOp) (us : List Token) (piece : Piece) (vs : List Token) → Fits asked strength ts o us → Finds (λ n. read n (binding o).right us) (length us) (λ x. x) piece vs → Finds (λ n. operator_of n asked strength ts) (length ts) (λ t. (o, t)) piece vs
operator_some asked strength ts o us piece vs f g = record { tree = g.tree; found = λ n m. operator_read n asked strength ts o us f ∙ next_found (read n (binding o).right us) g.tree vs (λ right vs. Some ((o, right), vs)) (g.found n (omega (arith, ap length f.1, m))); built = g.built }

-- ---- the reader in terms of its parts
pub read_parts : (n asked : ℕ) (ts : List Token) → read (suc n) asked ts ≡ next (operand n (read n) ts) (λ x us. operators_after n (read n) asked (start ts) x.0 x.1 us)
read_parts n asked ts = refl

pub read_begins : (n asked : ℕ) (ts : List Token) (x : RawTree) (strength : ℕ) (us : List Token) → 1 ≤ n → operand (pred n) (read (pred n)) ts ≡ Some ((x, strength), us) → read n asked ts ≡ operators_after (pred n) (read (pred n)) asked (start ts) x strength us
read_begins zero asked ts x strength us l e = absurd (omega (arith, l))
read_begins (suc n) asked ts x strength us l e = read_parts n asked ts ∙ next_found (operand n (read n) ts) (x, strength) us (λ x us. operators_after n (read n) asked (start ts) x.0 x.1 us) e

pub read_fails : (n asked : ℕ) (ts : List Token) → operand (pred n) (read (pred n)) ts ≡ None → read n asked ts ≡ None
read_fails zero asked ts e = refl
read_fails (suc n) asked ts e = read_parts n asked ts ∙ next_fails (operand n (read n) ts) (λ x us. operators_after n (read n) asked (start ts) x.0 x.1 us) e

-- ---- one operator: a test and what is read behind it
none_chosen : (b : Bool) (r : Option (RawTree × List Token)) (o : InfixOp) (f : RawTree → List Token → Option (RawTree × List Token)) (d : Option (RawTree × List Token)) → cond b (next {B = InfixOp × RawTree} r (λ x us. Some ((o, x), us))) None ≡ None → cond b (or_else (next r f) d) d ≡ d
none_chosen false r o f d e = refl
none_chosen true None o f d e = refl
none_chosen true (Some p) o f d e = cc

-- the operator and the operand that are found
record Chosen (b : Bool) (r : Option (RawTree × List Token)) (o p : InfixOp) (x : RawTree) (us : List Token) : Type 0 where
  passes : b ≡ true
  found : r ≡ Some (x, us)
  same : o ≡ p

some_chosen : (b : Bool) (r : Option (RawTree × List Token)) (o p : InfixOp) (x : RawTree) (us : List Token) → cond b (next {B = InfixOp × RawTree} r (λ x us. Some ((o, x), us))) None ≡ Some ((p, x), us) → Chosen b r o p x us
some_chosen false r o p x us e = cc
some_chosen true None o p x us e = cc
some_chosen true (Some q) o p x us e = let s : ((o, q.0), q.1) ≡ ((p, x), us) = some_same ((o, q.0), q.1) ((p, x), us) e in record { passes = refl; found = λ i. Some ((s i).0.1, (s i).1); same = λ i. (s i).0.0 }

joined_by_ends : (more : RawTree → ℕ → List Token → Option (RawTree × List Token)) (n asked at : ℕ) (left : RawTree) (strength : ℕ) (t : Token) (ts : List Token) (o : Option InfixOp) → operator_by n asked strength ts o ≡ None → joined_by more (read n) asked at left strength t ts o ≡ Some (left, t ∷ ts)
joined_by_ends more n asked at left strength t ts None e = refl
joined_by_ends more n asked at left strength t ts (Some o) e = none_chosen (nat_le asked (binding o).own && nat_le (binding o).left strength) (read n (binding o).right ts) o (λ right us. more (raw at (raw_infix o left right)) (binding o).own us) (Some (left, t ∷ ts)) e

pub joined_ends : (m n asked at : ℕ) (left : RawTree) (strength : ℕ) (ts : List Token) → operator_of n asked strength ts ≡ None → operators_after m (read n) asked at left strength ts ≡ Some (left, ts)
joined_ends zero n asked at left strength ts e = refl
joined_ends (suc m) n asked at left strength [] e = refl
joined_ends (suc m) n asked at left strength (t ∷ ts) e = joined_by_ends (operators_after m (read n) asked at) n asked at left strength t ts (infix_of t.kind) e

chosen_found : (b : Bool) (r : Option (RawTree × List Token)) (f : RawTree → List Token → Option (RawTree × List Token)) (d : Option (RawTree × List Token)) (x : RawTree) (us : List Token) (y : RawTree × List Token) → b ≡ true → r ≡ Some (x, us) → f x us ≡ Some y → cond b (or_else (next r f) d) d ≡ f x us
chosen_found b r f d x us y eb er ef = (λ i. cond (eb i) (or_else (next (er i) f) d) d) ∙ or_else_found (f x us) d y ef

some_of_choice : {B : Type 0} (b : Bool) (r : Option B) (d : B) → (y : B) × (cond b (or_else r (Some d)) (Some d) ≡ Some y)
some_of_choice false r d = (d, refl)
some_of_choice true None d = (d, refl)
some_of_choice true (Some y) d = (y, refl)

joined_by_some : (more : RawTree → ℕ → List Token → Option (RawTree × List Token)) (reader : ℕ → List Token → Option (RawTree × List Token)) (asked at : ℕ) (left : RawTree) (strength : ℕ) (t : Token) (ts : List Token) (o : Option InfixOp) → (y : RawTree × List Token) × (joined_by more reader asked at left strength t ts o ≡ Some y)
joined_by_some more reader asked at left strength t ts None = ((left, t ∷ ts), refl)
joined_by_some more reader asked at left strength t ts (Some o) = some_of_choice (nat_le asked (binding o).own && nat_le (binding o).left strength) (next (reader (binding o).right ts) (λ right us. more (raw at (raw_infix o left right)) (binding o).own us)) (left, t ∷ ts)

joined_some : (m : ℕ) (reader : ℕ → List Token → Option (RawTree × List Token)) (asked at : ℕ) (left : RawTree) (strength : ℕ) (ts : List Token) → (y : RawTree × List Token) × (operators_after m reader asked at left strength ts ≡ Some y)
joined_some zero reader asked at left strength ts = ((left, ts), refl)
joined_some (suc m) reader asked at left strength [] = ((left, []), refl)
joined_some (suc m) reader asked at left strength (t ∷ ts) = joined_by_some (operators_after m reader asked at) reader asked at left strength t ts (infix_of t.kind)

joined_by_goes_on : (m n asked at : ℕ) (left : RawTree) (strength : ℕ) (t : Token) (ts : List Token) (p : Option InfixOp) (o : InfixOp) (x : RawTree) (us : List Token) → operator_by n asked strength ts p ≡ Some ((o, x), us) → joined_by (operators_after m (read n) asked at) (read n) asked at left strength t ts p ≡ operators_after m (read n) asked at (raw at (raw_infix o left x)) (binding o).own us
joined_by_goes_on m n asked at left strength t ts None o x us e = cc
joined_by_goes_on m n asked at left strength t ts (Some p) o x us e =
    let c = some_chosen (nat_le asked (binding p).own && nat_le (binding p).left strength) (read n (binding p).right ts) p o x us e in
    let s = joined_some m (read n) asked at (raw at (raw_infix p left x)) (binding p).own us in
    chosen_found (nat_le asked (binding p).own && nat_le (binding p).left strength) (read n (binding p).right ts) (λ right vs. operators_after m (read n) asked at (raw at (raw_infix p left right)) (binding p).own vs) (Some (left, t ∷ ts)) x us s.0 c.passes c.found s.1 ∙
    (λ i. operators_after m (read n) asked at (raw at (raw_infix (c.same i) left x)) (binding (c.same i)).own us)

pub joined_goes_on : (m n asked at : ℕ) (left : RawTree) (strength : ℕ) (ts : List Token) (o : InfixOp) (x : RawTree) (us : List Token) → operator_of n asked strength ts ≡ Some ((o, x), us) → operators_after (suc m) (read n) asked at left strength ts ≡ operators_after m (read n) asked at (raw at (raw_infix o left x)) (binding o).own us
joined_goes_on m n asked at left strength [] o x us e = cc
joined_goes_on m n asked at left strength (t ∷ ts) o x us e = joined_by_goes_on m n asked at left strength t ts (infix_of t.kind) o x us e

-- ---- the loop
pub record LongestSoFar (ts : List Token) (asked : ℕ) (left : Piece) (strength : ℕ) (rest : List Token) : Type 0 where
  pub tree : RawTree
  pub built : IsPiece tree left
  pub so_far : Continues (length ts) (length rest) (λ n. read n asked ts) (λ n k. operators_after k (read (pred n)) asked (start ts) tree strength rest)
  pub shorter : length rest < length ts

pub longest_begins : (ts : List Token) (asked : ℕ) (piece : Piece) (strength : ℕ) (us : List Token) → Finds (λ n. operand n (read n) ts) (length ts - 1) (λ t. (t, strength)) piece us → length us < length ts → LongestSoFar ts asked piece strength us
longest_begins ts asked piece strength us f l = record {
  tree = f.tree;
  built = f.built;
  so_far = record { so_far = λ n m. (pred n, omega (arith, pred_is n, m, l), read_begins n asked ts f.tree strength us (omega (arith, m, l)) (f.found (pred n) (omega (arith, pred_is n, m)))) };
  shorter = l;
}

pub longest_fails : (ts : List Token) (asked : ℕ) → FindsNone (λ n. operand n (read n) ts) (length ts - 1) → FindsNone (λ n. read n asked ts) (length ts)
longest_fails ts asked f n m = read_fails n asked ts (f (pred n) (omega (arith, pred_is n, m)))

joined_step : (k n asked at : ℕ) (left : RawTree) (strength : ℕ) (ts : List Token) (o : InfixOp) (x : RawTree) (us : List Token) → 1 ≤ k → operator_of n asked strength ts ≡ Some ((o, x), us) → operators_after k (read n) asked at left strength ts ≡ operators_after (pred k) (read n) asked at (raw at (raw_infix o left x)) (binding o).own us
joined_step zero n asked at left strength ts o x us l e = absurd (omega (arith, l))
joined_step (suc k) n asked at left strength ts o x us l e = joined_goes_on k n asked at left strength ts o x us e

pub longest_goes_on : (ts : List Token) (asked : ℕ) (left : Piece) (strength : ℕ) (rest : List Token) (o : InfixOp) (right : Piece) (after : List Token) (new : Piece) → LongestSoFar ts asked left strength rest → Finds (λ n. operator_of n asked strength rest) (length rest) (λ t. (o, t)) right after → length after < length rest → ((a b : RawTree) → IsPiece a left → IsPiece b right → IsPiece (raw (start ts) (between_node (Infix o) a b)) new) → LongestSoFar ts asked new (binding o).own after
longest_goes_on ts asked left strength rest o right after new s f l h = record {
  tree = raw (start ts) (raw_infix o s.tree f.tree);
  built = h s.tree f.tree s.built f.built;
  so_far = continues_more (length ts) (length rest) (length after) (λ n. read n asked ts) (λ n k. operators_after k (read (pred n)) asked (start ts) s.tree strength rest) (λ n k. operators_after k (read (pred n)) asked (start ts) (raw (start ts) (raw_infix o s.tree f.tree)) (binding o).own after) s.so_far (λ n k m r. (pred k, omega (arith, pred_is k, r, l), joined_step k (pred n) asked (start ts) s.tree strength rest o f.tree after (omega (arith, r, l)) (f.found (pred n) (omega (arith, pred_is n, m, s.shorter)))));
  shorter = omega (arith, l, s.shorter);
}

pub longest_ends : (ts : List Token) (asked : ℕ) (left : Piece) (strength : ℕ) (rest : List Token) → LongestSoFar ts asked left strength rest → FindsNone (λ n. operator_of n asked strength rest) (length rest) → Finds (λ n. read n asked ts) (length ts) (λ t. t) left rest
longest_ends ts asked left strength rest s f = record {
  tree = s.tree;
  found = continues_done (length ts) (length rest) (λ n. read n asked ts) (λ n k. operators_after k (read (pred n)) asked (start ts) s.tree strength rest) (Some (s.tree, rest)) s.so_far (λ n k m r. joined_ends k (pred n) asked (start ts) s.tree strength rest (f (pred n) (omega (arith, pred_is n, m, s.shorter))));
  built = s.built;
}

-- the same, by what the program knows
pub longest_steps : (ts : List Token) (asked : ℕ) (left : Piece) (strength : ℕ) (rest : List Token) (o : InfixOp) (us : List Token) (right : Piece) (after : List Token) (at own asks : ℕ) (new : Piece) → at ≡ start ts → own ≡ (binding o).own → asks ≡ (binding o).right → LongestSoFar ts asked left strength rest → Fits asked strength rest o us → Finds (λ n. read n asks us) (length us) (λ x. x) right after → length after < length us → ((a b : RawTree) → IsPiece a left → IsPiece b right → IsPiece (raw at (between_node (Infix o) a b)) new) → LongestSoFar ts asked new own after
longest_steps ts asked left strength rest o us right after at own asks new e q r s f g l h =
    let k : Finds (λ n. read n (binding o).right us) (length us) (λ x. x) right after = subst (λ m. Finds (λ n. read n m us) (length us) (λ x. x) right after) r g in
    subst (λ m. LongestSoFar ts asked new m after) (sym q) (longest_goes_on ts asked left strength rest o right after new s (operator_some asked strength rest o us right after f k) (omega (arith, l, ap length f.1)) (λ a b c d. subst (λ m. IsPiece (raw m (between_node (Infix o) a b)) new) e (h a b c d)))

pub longest_stops : (ts : List Token) (asked : ℕ) (left : Piece) (strength : ℕ) (rest : List Token) → LongestSoFar ts asked left strength rest → NoneFits asked strength rest → Finds (λ n. read n asked ts) (length ts) (λ t. t) left rest
longest_stops ts asked left strength rest s h = longest_ends ts asked left strength rest s (λ n m. operator_none n asked strength rest h)

pub longest_stops_before : (ts : List Token) (asked : ℕ) (left : Piece) (strength : ℕ) (rest : List Token) (o : InfixOp) (us : List Token) (asks : ℕ) → asks ≡ (binding o).right → LongestSoFar ts asked left strength rest → Fits asked strength rest o us → FindsNone (λ n. read n asks us) (length us) → Finds (λ n. read n asked ts) (length ts) (λ t. t) left rest
longest_stops_before ts asked left strength rest o us asks r s f g = longest_ends ts asked left strength rest s (operator_none_right asked strength rest o us f (subst (λ m. FindsNone (λ n. read n m us) (length us)) r g))
