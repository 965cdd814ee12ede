-- Operands with ** between, which joins them to the right.
use Rattle.std.specs.Prelude.{◌≡◌, ℕ, zero, suc, pred, ◌-◌, ◌<◌, ◌≤◌, Bool, true, false, cond, ◌&&◌, nat_le, List, [], ◌∷◌, ◌++◌, length, Option, None, Some, refl}
use Rattle.std.proofs.Common.{arith, sym, ◌∙◌, subst}
use Rattle.std.proofs.lemmas.Bool.{le-leb}
use Rattle.bk_form.specs.declared.token.Token.{Token}
use Rattle.bk_form.specs.declared.token.TokenKind.TheVariants.{Sign}
use Rattle.bk_ops.specs.declared.sign.TheConstants.{MINUS, POWER}
use Rattle.bk_raw.specs.Trees.Operators.{binding, infix_kind}
use Rattle.bk_raw.specs.Trees.RawTree.{RawTree, raw, raw_infix}
use Rattle.bk_raw.specs.declared.operator.InfixOp.{InfixOp}
use Rattle.bk_raw.specs.declared.operator.InfixOp.TheVariants.{Equivalent, Power}
use Rattle.bk_raw.specs.Grammar.Reading.{Reader, same_kind, next, or_else, start, sign, begins_with, tight, operand, operators_after, joined_by, infix_of, read, signed, front_kind}
use Rattle.bk_p_expr.specs.Pieces.{IsPiece, ArePieces, raised}
use Rattle.bk_p_expr.specs.Found.{Finds, FindsNone}
use Rattle.bk_p_expr.specs.declared.piece.Piece.{Piece}
use Rattle.bk_p_expr.proofs.Choices.{some_same, or_else_found, next_found, next_fails}
use Rattle.bk_p_expr.proofs.Fuel.{pred_is, Continues, continues_more, continues_done}
use Rattle.bk_p_expr.proofs.Written.{infix_of-is, no_power}
use Rattle.bk_p_expr.proofs.Operators.{operator_by, operator_of, read_begins, read_fails, joined_ends}

-- ** and the operand behind it, with the byte at which that starts
abbrev pub exponent_of : ℕ → Reader (ℕ × RawTree)
exponent_of n ts = next (sign POWER ts) (λ _ us. next (operand n (read n) us) (λ x vs. Some ((start us, x.0), vs)))

-- behind an operand: ** and a power, if they stand there
abbrev pub power_at : ℕ → ℕ → RawTree → List Token → Option (RawTree × List Token)
power_at k at x ts = cond (begins_with POWER ts) (or_else (next (sign POWER ts) (λ _ us. next (read k 9 us) (λ y vs. Some (raw at (raw_infix Power x y), vs)))) (Some (x, ts))) (Some (x, ts))

-- behind a power no operator stands that binds as tightly as one
none_tighter : (o : InfixOp) → (nat_le 9 (binding o).own && nat_le (binding o).left 9) ≡ false
none_tighter Equivalent = refl
none_tighter _ = refl

stops_by : (m : ℕ) (ts : List Token) (o : Option InfixOp) → operator_by m 9 9 ts o ≡ None
stops_by m ts None = refl
stops_by m ts (Some o) = λ i. cond (none_tighter o i) (next (read m (binding o).right ts) (λ right us. Some ((o, right), us))) None

power_stops : (m : ℕ) (ts : List Token) → operator_of m 9 9 ts ≡ None
power_stops m [] = refl
power_stops m (t ∷ ts) = stops_by m ts (infix_of t.kind)

-- behind an operand, where as much is asked as ** binds
power_joined : (m j at : ℕ) (x : RawTree) (d : Option (RawTree × List Token)) (r : Option (RawTree × List Token)) → or_else (next r (λ right us. operators_after j (read m) 9 at (raw at (raw_infix Power x right)) 9 us)) d ≡ or_else (next r (λ y vs. Some (raw at (raw_infix Power x y), vs))) d
power_joined m j at x d None = refl
power_joined m j at x d (Some p) = λ i. or_else (joined_ends j m 9 at (raw at (raw_infix Power x p.0)) 9 p.1 (power_stops m p.1) i) d

-- the same, by whether ** stands in front
abbrev power_by : ℕ → ℕ → RawTree → Token → List Token → Option (RawTree × List Token) → Bool → Option (RawTree × List Token)
power_by m at x t us d b = cond b (or_else (next (cond b (Some (t, us)) None) (λ _ vs. next (read m 9 vs) (λ y ws. Some (raw at (raw_infix Power x y), ws)))) d) d

by_operator : (j m at : ℕ) (x : RawTree) (strength : ℕ) (t : Token) (us : List Token) (d : Option (RawTree × List Token)) (o : InfixOp) → nat_le 10 strength ≡ true → cond (nat_le 9 (binding o).own && nat_le (binding o).left strength) (or_else (next (read m (binding o).right us) (λ right vs. operators_after j (read m) 9 at (raw at (raw_infix o x right)) (binding o).own vs)) d) d ≡ power_by m at x t us d (same_kind (infix_kind o) (Sign POWER))
by_operator j m at x strength t us d Power l = (λ i. cond (l i) (or_else (next (read m 9 us) (λ right vs. operators_after j (read m) 9 at (raw at (raw_infix Power x right)) 9 vs)) d) d) ∙ power_joined m j at x d (read m 9 us)
by_operator j m at x strength t us d _ l = refl

joined_power_by : (j m at : ℕ) (x : RawTree) (strength : ℕ) (t : Token) (us : List Token) (o : Option InfixOp) → infix_of t.kind ≡ o → nat_le 10 strength ≡ true → joined_by (λ left s ts. operators_after j (read m) 9 at left s ts) (read m) 9 at x strength t us o ≡ power_by m at x t us (Some (x, t ∷ us)) (same_kind t.kind (Sign POWER))
joined_power_by j m at x strength t us None e l = λ i. power_by m at x t us (Some (x, t ∷ us)) (sym (no_power t.kind e) i)
joined_power_by j m at x strength t us (Some o) e l = by_operator j m at x strength t us (Some (x, t ∷ us)) o l ∙ (λ i. power_by m at x t us (Some (x, t ∷ us)) (same_kind (infix_of-is t.kind o e i) (Sign POWER)))

joined_power : (j m at : ℕ) (x : RawTree) (strength : ℕ) (us : List Token) → 10 ≤ strength → length us ≤ j → operators_after j (read m) 9 at x strength us ≡ power_at m at x us
joined_power zero m at x strength [] s l = refl
joined_power zero m at x strength (t ∷ us) s l = absurd (omega (arith, l))
joined_power (suc j) m at x strength [] s l = refl
joined_power (suc j) m at x strength (t ∷ us) s l = joined_power_by j m at x strength t us (infix_of t.kind) refl (le-leb 10 strength s)

power_begins : (n : ℕ) (ts : List Token) (x : RawTree) (strength : ℕ) (us : List Token) → 1 ≤ n → operand (pred n) (read (pred n)) ts ≡ Some ((x, strength), us) → 10 ≤ strength → length us ≤ pred n → read n 9 ts ≡ power_at (pred n) (start ts) x us
power_begins n ts x strength us l e s m = read_begins n 9 ts x strength us l e ∙ joined_power (pred n) (pred n) (start ts) x strength us s m

some_of_else : {B : Type 0} (r : Option B) (d : B) → (z : B) × (or_else r (Some d) ≡ Some z)
some_of_else None d = (d, refl)
some_of_else (Some z) d = (z, refl)

power_some_by : (m at : ℕ) (x : RawTree) (t : Token) (us : List Token) (d : RawTree × List Token) (b : Bool) → (z : RawTree × List Token) × (power_by m at x t us (Some d) b ≡ Some z)
power_some_by m at x t us d false = (d, refl)
power_some_by m at x t us d true = some_of_else (next (read m 9 us) (λ y ws. Some (raw at (raw_infix Power x y), ws))) d

power_some : (m at : ℕ) (x : RawTree) (ts : List Token) → (z : RawTree × List Token) × (power_at m at x ts ≡ Some z)
power_some m at x [] = ((x, []), refl)
power_some m at x (t ∷ us) = power_some_by m at x t us (x, t ∷ us) (same_kind t.kind (Sign POWER))

-- ---- the operand behind **
strength_by : (b : Bool) (r : Option (Token × List Token)) (f : Token → List Token → Option ((RawTree × ℕ) × List Token)) (q : Option (RawTree × List Token)) (x : RawTree) (s : ℕ) (us : List Token) → ((t : Token) (vs : List Token) → f t vs ≡ Some ((x, s), us) → s ≡ 10) → cond b (next r f) (next {B = RawTree × ℕ} q (λ y ws. Some ((y, 11), ws))) ≡ Some ((x, s), us) → 10 ≤ s
strength_by true None f q x s us h e = cc
strength_by true (Some p) f q x s us h e = omega (arith, h p.0 p.1 e)
strength_by false r f None x s us h e = cc
strength_by false r f (Some p) x s us h e = let k : ((p.0, 11), p.1) ≡ ((x, s), us) = some_same ((p.0, 11), p.1) ((x, s), us) e in let g : 11 ≡ s = (λ i. (k i).0.1) in omega (arith, g)

ten_by : (q : Option (RawTree × List Token)) (f : RawTree → RawTree) (x : RawTree) (s : ℕ) (us : List Token) → next {B = RawTree × ℕ} q (λ y ws. Some ((f y, 10), ws)) ≡ Some ((x, s), us) → s ≡ 10
ten_by None f x s us e = cc
ten_by (Some p) f x s us e = let k : ((f p.0, 10), p.1) ≡ ((x, s), us) = some_same ((f p.0, 10), p.1) ((x, s), us) e in (λ i. (sym k i).0.1)

operand_strength : (n : ℕ) (ts : List Token) (x : RawTree) (s : ℕ) (us : List Token) → operand n (read n) ts ≡ Some ((x, s), us) → 10 ≤ s
operand_strength n ts x s us e = strength_by (begins_with MINUS ts) (sign MINUS ts) (λ t us. next (tight n (read n) us) (λ x vs. Some ((raw t.start (signed (front_kind us) x), 10), vs))) (tight n (read n) ts) x s us (λ t vs. ten_by (tight n (read n) vs) (λ y. raw t.start (signed (front_kind vs) y)) x s us) e

-- the parts of ** and the operand behind it
record Exponent (n : ℕ) (ts : List Token) (at : ℕ) (y : RawTree) (us : List Token) : Type 0 where
  sign : Token
  behind : List Token
  strength : ℕ
  begins : begins_with POWER ts ≡ true
  split : ts ≡ sign ∷ behind
  operand : operand n (read n) behind ≡ Some ((y, strength), us)
  starts : start behind ≡ at

exponent_true : (n at : ℕ) (y : RawTree) (us : List Token) (t : Token) (vs : List Token) (q : Option ((RawTree × ℕ) × List Token)) → same_kind t.kind (Sign POWER) ≡ true → operand n (read n) vs ≡ q → next {B = ℕ × RawTree} q (λ x xs. Some ((start vs, x.0), xs)) ≡ Some ((at, y), us) → Exponent n (t ∷ vs) at y us
exponent_true n at y us t vs None b f e = cc
exponent_true n at y us t vs (Some q) b f e =
    let k : ((start vs, q.0.0), q.1) ≡ ((at, y), us) = some_same ((start vs, q.0.0), q.1) ((at, y), us) e in
    record { sign = t; behind = vs; strength = q.0.1; begins = b; split = refl; operand = f ∙ (λ i. Some (((k i).0.1, q.0.1), (k i).1)); starts = (λ i. (k i).0.0) }

exponent_by : (n at : ℕ) (y : RawTree) (us : List Token) (t : Token) (vs : List Token) (b : Bool) → same_kind t.kind (Sign POWER) ≡ b → next {B = ℕ × RawTree} (cond b (Some (t, vs)) None) (λ _ us. next {B = ℕ × RawTree} (operand n (read n) us) (λ x xs. Some ((start us, x.0), xs))) ≡ Some ((at, y), us) → Exponent n (t ∷ vs) at y us
exponent_by n at y us t vs false b e = cc
exponent_by n at y us t vs true b e = exponent_true n at y us t vs (operand n (read n) vs) b refl e

exponent_parts : (n : ℕ) (ts : List Token) (at : ℕ) (y : RawTree) (us : List Token) → exponent_of n ts ≡ Some ((at, y), us) → Exponent n ts at y us
exponent_parts n [] at y us e = cc
exponent_parts n (t ∷ vs) at y us e = exponent_by n at y us t vs (same_kind t.kind (Sign POWER)) refl e

none_of_next : (q : Option ((RawTree × ℕ) × List Token)) (at : ℕ) → next {B = ℕ × RawTree} q (λ x xs. Some ((at, x.0), xs)) ≡ None → q ≡ None
none_of_next None at e = refl
none_of_next (Some q) at e = cc

power_ends_by : (k at : ℕ) (x : RawTree) (t : Token) (vs : List Token) (d : Option (RawTree × List Token)) (b : Bool) → next {B = ℕ × RawTree} (cond b (Some (t, vs)) None) (λ _ us. next {B = ℕ × RawTree} (operand (pred k) (read (pred k)) us) (λ x xs. Some ((start us, x.0), xs))) ≡ None → power_by k at x t vs d b ≡ d
power_ends_by k at x t vs d false e = refl
power_ends_by k at x t vs d true e = λ i. or_else (next (read_fails k 9 vs (none_of_next (operand (pred k) (read (pred k)) vs) (start vs) e) i) (λ y ws. Some (raw at (raw_infix Power x y), ws))) d

power_ends : (k at : ℕ) (x : RawTree) (ts : List Token) → exponent_of (pred k) ts ≡ None → power_at k at x ts ≡ Some (x, ts)
power_ends k at x [] e = refl
power_ends k at x (t ∷ vs) e = power_ends_by k at x t vs (Some (x, t ∷ vs)) (same_kind t.kind (Sign POWER)) e

power_true : (k at : ℕ) (x : RawTree) (t : Token) (vs : List Token) (d : Option (RawTree × List Token)) (r : Option (RawTree × List Token)) (z : RawTree × List Token) → read k 9 vs ≡ r → r ≡ Some z → power_by k at x t vs d true ≡ next r (λ y ws. Some (raw at (raw_infix Power x y), ws))
power_true k at x t vs d r z e f = (λ i. or_else (next (e i) (λ y ws. Some (raw at (raw_infix Power x y), ws))) d) ∙ or_else_found (next r (λ y ws. Some (raw at (raw_infix Power x y), ws))) d (raw at (raw_infix Power x z.0), z.1) (λ i. next (f i) (λ y ws. Some (raw at (raw_infix Power x y), ws)))

power_split : (k at : ℕ) (x : RawTree) (ts : List Token) (t : Token) (vs : List Token) (r : Option (RawTree × List Token)) (z : RawTree × List Token) → ts ≡ t ∷ vs → begins_with POWER ts ≡ true → read k 9 vs ≡ r → r ≡ Some z → power_at k at x ts ≡ next r (λ y ws. Some (raw at (raw_infix Power x y), ws))
power_split k at x ts t vs r z s b e f =
    let c : begins_with POWER (t ∷ vs) ≡ true = (λ i. begins_with POWER (sym s i)) ∙ b in
    (λ i. power_at k at x (s i)) ∙ (λ i. power_by k at x t vs (Some (x, t ∷ vs)) (c i)) ∙ power_true k at x t vs (Some (x, t ∷ vs)) r z e f

power_goes_on : (k at : ℕ) (x : RawTree) (ts : List Token) (bt : ℕ) (y : RawTree) (us : List Token) → length ts ≤ k → length us < length ts → exponent_of (pred k) ts ≡ Some ((bt, y), us) → power_at k at x ts ≡ next (power_at (pred k) bt y us) (λ z ws. Some (raw at (raw_infix Power x z), ws))
power_goes_on k at x ts bt y us l m e =
    let p = exponent_parts (pred k) ts bt y us e in
    let z = power_some (pred k) bt y us in
    let b : read k 9 p.behind ≡ power_at (pred k) (start p.behind) y us = power_begins k p.behind y p.strength us (omega (arith, l, m)) p.operand (operand_strength (pred k) p.behind y p.strength us p.operand) (omega (arith, pred_is k, l, m)) in
    power_split k at x ts p.sign p.behind (power_at (pred k) bt y us) z.0 p.split p.begins (b ∙ (λ i. power_at (pred k) (p.starts i) y us)) z.1

-- ---- ** and an operand
pub exponent_none : (ts : List Token) → sign POWER ts ≡ None → FindsNone (λ n. exponent_of n ts) (length ts - 1)
exponent_none ts a n m = next_fails (sign POWER ts) (λ _ us. next (operand n (read n) us) (λ x vs. Some ((start us, x.0), vs))) a

exponent_read : (n : ℕ) (ts : List Token) (t : Token) (us : List Token) → sign POWER ts ≡ Some (t, us) → exponent_of n ts ≡ next (operand n (read n) us) (λ x vs. Some ((start us, x.0), vs))
exponent_read n ts t us a = next_found (sign POWER ts) t us (λ _ us. next (operand n (read n) us) (λ x vs. Some ((start us, x.0), vs))) a

pub exponent_none_operand : (ts : List Token) (t : Token) (us : List Token) → sign POWER ts ≡ Some (t, us) → length us < length ts → FindsNone (λ n. operand n (read n) us) (length us - 1) → FindsNone (λ n. exponent_of n ts) (length ts - 1)
exponent_none_operand ts t us a l f n m = exponent_read n ts t us a ∙ next_fails (operand n (read n) us) (λ x vs. Some ((start us, x.0), vs)) (f n (omega (arith, l, m)))

pub exponent_some : (ts : List Token) (t : Token) (us : List Token) (strength : ℕ) (piece : Piece) (vs : List Token) (at : ℕ) → sign POWER ts ≡ Some (t, us) → length us < length ts → Finds (λ n. operand n (read n) us) (length us - 1) (λ t. (t, strength)) piece vs → at ≡ start us → Finds (λ n. exponent_of n ts) (length ts - 1) (λ t. (at, t)) piece vs
exponent_some ts t us strength piece vs at a l f e = record { tree = f.tree; found = λ n m. exponent_read n ts t us a ∙ next_found (operand n (read n) us) (f.tree, strength) vs (λ x vs. Some ((start us, x.0), vs)) (f.found n (omega (arith, l, m))) ∙ (λ i. Some ((sym e i, f.tree), vs)); built = f.built }

-- ---- the loop
raised_more : (ts : List (ℕ × RawTree)) (at : ℕ) (x z : RawTree) → raised (ts ++ (at, x) ∷ []) z ≡ raised ts (raw at (raw_infix Power x z))
raised_more [] at x z = refl
raised_more (t ∷ ts) at x z = λ i. raw t.0 (raw_infix Power t.1 (raised_more ts at x z i))

are_more : (ts : List (ℕ × RawTree)) (ps : List (ℕ × Piece)) (at : ℕ) (x : RawTree) (p : Piece) → ArePieces ts ps → IsPiece x p → ArePieces (ts ++ (at, x) ∷ []) (ps ++ (at, p) ∷ [])
are_more [] [] at x p h k = (refl, k, tt)
are_more [] (q ∷ ps) at x p h k = elim h [ ]
are_more (t ∷ ts) [] at x p h k = elim h [ ]
are_more (t ∷ ts) (q ∷ ps) at x p h k = (h.0, h.1, are_more ts ps at x p h.2 k)

-- what is read so far, before what is read further
abbrev raised_found : List (ℕ × RawTree) → Option (RawTree × List Token) → Option (RawTree × List Token)
raised_found trees None = None
raised_found trees (Some p) = Some (raised trees p.0, p.1)

raised_found_more : (trees : List (ℕ × RawTree)) (at : ℕ) (x : RawTree) (r : Option (RawTree × List Token)) → raised_found trees (next r (λ z ws. Some (raw at (raw_infix Power x z), ws))) ≡ raised_found (trees ++ (at, x) ∷ []) r
raised_found_more trees at x None = refl
raised_found_more trees at x (Some p) = λ i. Some (sym (raised_more trees at x p.0) i, p.1)

raised_found_none : (r : Option (RawTree × List Token)) → r ≡ raised_found [] r
raised_found_none None = refl
raised_found_none (Some p) = refl

pub record PowersSoFar (ts : List Token) (bases : List (ℕ × Piece)) (at : ℕ) (last : Piece) (rest : List Token) : Type 0 where
  pub trees : List (ℕ × RawTree)
  pub tree : RawTree
  pub are : ArePieces trees bases
  pub built : IsPiece tree last
  pub so_far : Continues (length ts) (length rest) (λ n. read n 9 ts) (λ n k. raised_found trees (power_at k at tree rest))
  pub shorter : length rest < length ts

pub powers_begins : (ts : List Token) (piece : Piece) (strength : ℕ) (us : List Token) → Finds (λ n. operand n (read n) ts) (length ts - 1) (λ t. (t, strength)) piece us → 10 ≤ strength → length us < length ts → PowersSoFar ts [] (start ts) piece us
powers_begins ts piece strength us f s l = record {
  trees = [];
  tree = f.tree;
  are = tt;
  built = f.built;
  so_far = record { so_far = λ n m. (pred n, omega (arith, pred_is n, m, l), power_begins n ts f.tree strength us (omega (arith, m, l)) (f.found (pred n) (omega (arith, pred_is n, m))) s (omega (arith, pred_is n, m, l)) ∙ raised_found_none (power_at (pred n) (start ts) f.tree us)) };
  shorter = l;
}

pub powers_goes_on : (ts : List Token) (bases : List (ℕ × Piece)) (at : ℕ) (last : Piece) (rest : List Token) (bt : ℕ) (piece : Piece) (after : List Token) → PowersSoFar ts bases at last rest → Finds (λ n. exponent_of n rest) (length rest - 1) (λ t. (bt, t)) piece after → length after < length rest → PowersSoFar ts (bases ++ (at, last) ∷ []) bt piece after
powers_goes_on ts bases at last rest bt piece after s f l = record {
  trees = s.trees ++ (at, s.tree) ∷ [];
  tree = f.tree;
  are = are_more s.trees bases at s.tree last s.are s.built;
  built = f.built;
  so_far = continues_more (length ts) (length rest) (length after) (λ n. read n 9 ts) (λ n k. raised_found s.trees (power_at k at s.tree rest)) (λ n k. raised_found (s.trees ++ (at, s.tree) ∷ []) (power_at k bt f.tree after)) s.so_far (λ n k m r. (pred k, omega (arith, pred_is k, r, l), (λ i. raised_found s.trees (power_goes_on k at s.tree rest bt f.tree after r l (f.found (pred k) (omega (arith, pred_is k, r))) i)) ∙ raised_found_more s.trees at s.tree (power_at (pred k) bt f.tree after)));
  shorter = omega (arith, l, s.shorter);
}

pub powers_ends : (ts : List Token) (bases : List (ℕ × Piece)) (at : ℕ) (last : Piece) (rest : List Token) (whole : Piece) → PowersSoFar ts bases at last rest → FindsNone (λ n. exponent_of n rest) (length rest - 1) → ((trees : List (ℕ × RawTree)) (tree : RawTree) → ArePieces trees bases → IsPiece tree last → IsPiece (raised trees tree) whole) → Finds (λ n. read n 9 ts) (length ts) (λ t. t) whole rest
powers_ends ts bases at last rest whole s f h = record {
  tree = raised s.trees s.tree;
  found = continues_done (length ts) (length rest) (λ n. read n 9 ts) (λ n k. raised_found s.trees (power_at k at s.tree rest)) (Some (raised s.trees s.tree, rest)) s.so_far (λ n k m r. (λ i. raised_found s.trees (power_ends k at s.tree rest (f (pred k) (omega (arith, pred_is k, r))) i)));
  built = h s.trees s.tree s.are s.built;
}

-- ---- joining from the right
pub record JoinsTo (trees : List (ℕ × RawTree)) (tree : RawTree) (bases : List (ℕ × Piece)) (right : Piece) : Type 0 where
  pub front : List (ℕ × RawTree)
  pub last : RawTree
  pub are : ArePieces front bases
  pub built : IsPiece last right
  pub same : raised trees tree ≡ raised front last

pub record JoinedSoFar (whole : List (ℕ × Piece)) (end : Piece) (bases : List (ℕ × Piece)) (right : Piece) : Type 0 where
  pub joins : (trees : List (ℕ × RawTree)) (tree : RawTree) → ArePieces trees whole → IsPiece tree end → JoinsTo trees tree bases right

pub joined_begins : (whole : List (ℕ × Piece)) (end : Piece) → JoinedSoFar whole end whole end
joined_begins whole end = record { joins = λ trees tree a b. record { front = trees; last = tree; are = a; built = b; same = refl } }

record Split (trees : List (ℕ × RawTree)) (ps : List (ℕ × Piece)) (p : ℕ × Piece) : Type 0 where
  front : List (ℕ × RawTree)
  last : RawTree
  same : trees ≡ front ++ (p.0, last) ∷ []
  are : ArePieces front ps
  built : IsPiece last p.1

are_split : (trees : List (ℕ × RawTree)) (ps : List (ℕ × Piece)) (p : ℕ × Piece) → ArePieces trees (ps ++ p ∷ []) → Split trees ps p
are_split [] [] p h = elim h [ ]
are_split [] (q ∷ ps) p h = elim h [ ]
are_split (t ∷ []) [] p h = record { front = []; last = t.1; same = (λ i. (sym h.0 i, t.1) ∷ []); are = tt; built = h.1 }
are_split (t ∷ u ∷ ts) [] p h = elim h.2 [ ]
are_split (t ∷ ts) (q ∷ ps) p h = let s = are_split ts ps p h.2 in record { front = t ∷ s.front; last = s.last; same = (λ i. t ∷ s.same i); are = (h.0, h.1, s.are); built = s.built }

pub joined_goes_on : (whole : List (ℕ × Piece)) (end : Piece) (bases : List (ℕ × Piece)) (right : Piece) (front : List (ℕ × Piece)) (p : ℕ × Piece) (new : Piece) → JoinedSoFar whole end bases right → bases ≡ front ++ p ∷ [] → ((a b : RawTree) → IsPiece a p.1 → IsPiece b right → IsPiece (raw p.0 (raw_infix Power a b)) new) → JoinedSoFar whole end front new
joined_goes_on whole end bases right front p new s e h = record {
  joins = λ trees tree a b.
      let j = s.joins trees tree a b in
      let k = are_split j.front front p (subst (λ ps. ArePieces j.front ps) e j.are) in
      record { front = k.front; last = raw p.0 (raw_infix Power k.last j.last); are = k.are; built = h k.last j.last k.built j.built; same = j.same ∙ (λ i. raised (k.same i) j.last) ∙ raised_more k.front p.0 k.last j.last };
}

none_left : (front : List (ℕ × RawTree)) (bases : List (ℕ × Piece)) → bases ≡ [] → ArePieces front bases → front ≡ []
none_left [] bases e h = refl
none_left (t ∷ ts) [] e h = elim h [ ]
none_left (t ∷ ts) (q ∷ ps) e h = cc

pub joined_ends_with : (whole : List (ℕ × Piece)) (end : Piece) (bases : List (ℕ × Piece)) (right : Piece) → JoinedSoFar whole end bases right → bases ≡ [] → (trees : List (ℕ × RawTree)) (tree : RawTree) → ArePieces trees whole → IsPiece tree end → IsPiece (raised trees tree) right
joined_ends_with whole end bases right s e trees tree a b = let j = s.joins trees tree a b in subst (λ t. IsPiece t right) (sym (j.same ∙ (λ i. raised (none_left j.front bases e j.are i) j.last))) j.built
