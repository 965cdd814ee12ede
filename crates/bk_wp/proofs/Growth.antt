-- What stands before a substitution is at least as large as what stands after it, so that it is within the limits only where all it is made of is.
use Rattle.std.proofs.Common.{◌≤◌, ℕ, List, [], ◌∷◌, arith}
use Rattle.bk_val.specs.ValueType.{ValueType}
use Rattle.bk_form.specs.Table.{Table}
use Rattle.bk_form.specs.Formula.{Formula, variable, named, unary, binary, for_all, for_some, comprehension, lambda, Formulas, no_formulas, formula_and, formula_size, formula_height, formulas_size, formulas_height}
use Rattle.bk_form.specs.declared.operator.UnOp.TheVariants.{Not}
use Rattle.bk_form.specs.declared.operator.BinOp.{BinOp}
use Rattle.bk_form.specs.declared.operator.BinOp.TheVariants.{And, Imp, In}
use Rattle.bk_form.specs.declared.operator.Domain.TheVariants.{Natural}
use Rattle.bk_form.specs.Replacement.{replaced, all_replaced, looked_up}
use Rattle.bk_form.proofs.Sizes.{size_pos}
use Rattle.bk_bind.specs.Closing.{closed_over_each}
use Rattle.bk_bind.specs.Limits.{IsWithinLimits}
use Rattle.bk_bind.proofs.ClosedOver.{size_closed_each, height_closed_each}
use Rattle.bk_bind.proofs.Within.{within_left, within_right}
use Rattle.bk_gsl.specs.Substitution.{Substitution, skip, assign, pre, guard, choice, if_else, any, seq, par, assert, becomes_such, loop}
use Rattle.bk_gsl.specs.State.{firsts}
use Rattle.bk_gsl.specs.Writes.{writes}
use Rattle.bk_gsl.specs.Flat.{IsFlat}
use Rattle.bk_wp.specs.Box.{variant_before, loop_box, box, diamond, new_values}
use Rattle.bk_wp.specs.Quantifiers.{types_of, all_of, some_of, all_written}
use Rattle.bk_wp.specs.Shapes.{HasNoLoop}
use Rattle.bk_wp.specs.Growth.{IsNoSmaller, BoxIsNoSmaller, DiamondIsNoSmaller}

-- each formula has a way down
height_pos : (f : Formula) → 1 ≤ formula_height f
height_pos (variable n) = omega arith
height_pos _ = omega arith

-- ---- formulas in place of variables
mutual
  size_replaced : (by : ℕ → Formula) (f : Formula) → formula_size f ≤ formula_size (replaced by f)
  size_replaced by (variable n) = omega (arith, size_pos (by n))
  size_replaced by (unary o a) = omega (arith, size_replaced by a)
  size_replaced by (binary o a b) = omega (arith, size_replaced by a, size_replaced by b)
  size_replaced by (for_all ts p) = omega (arith, size_replaced by p)
  size_replaced by (for_some ts p) = omega (arith, size_replaced by p)
  size_replaced by (comprehension rs p) = omega (arith, sizes_replaced by rs, size_replaced by p)
  size_replaced by (lambda rs p v) = omega (arith, sizes_replaced by rs, size_replaced by p, size_replaced by v)
  size_replaced by _ = omega arith

  sizes_replaced : (by : ℕ → Formula) (fs : Formulas) → formulas_size fs ≤ formulas_size (all_replaced by fs)
  sizes_replaced by no_formulas = omega arith
  sizes_replaced by (formula_and f fs) = omega (arith, size_replaced by f, sizes_replaced by fs)

mutual
  height_replaced : (by : ℕ → Formula) (f : Formula) → formula_height f ≤ formula_height (replaced by f)
  height_replaced by (variable n) = height_pos (by n)
  height_replaced by (unary o a) = omega (arith, height_replaced by a)
  height_replaced by (binary o a b) = omega (arith, height_replaced by a, height_replaced by b)
  height_replaced by (for_all ts p) = omega (arith, height_replaced by p)
  height_replaced by (for_some ts p) = omega (arith, height_replaced by p)
  height_replaced by (comprehension rs p) = omega (arith, heights_replaced by rs, height_replaced by p)
  height_replaced by (lambda rs p v) = omega (arith, heights_replaced by rs, height_replaced by p, height_replaced by v)
  height_replaced by _ = omega arith

  heights_replaced : (by : ℕ → Formula) (fs : Formulas) → formulas_height fs ≤ formulas_height (all_replaced by fs)
  heights_replaced by no_formulas = omega arith
  heights_replaced by (formula_and f fs) = omega (arith, height_replaced by f, heights_replaced by fs)

-- ---- no smaller
by_itself : (r : Formula) → IsNoSmaller r r
by_itself r = record { nodes = omega arith; height = omega arith }

then : (f g h : Formula) → IsNoSmaller f g → IsNoSmaller g h → IsNoSmaller f h
then f g h x y = record { nodes = omega (arith, x.nodes, y.nodes); height = omega (arith, x.height, y.height) }

pub by_replacing : (by : ℕ → Formula) (r : Formula) → IsNoSmaller (replaced by r) r
by_replacing by r = record { nodes = size_replaced by r; height = height_replaced by r }

by_left : (o : BinOp) (a b r : Formula) → IsNoSmaller a r → IsNoSmaller (binary o a b) r
by_left o a b r h = record { nodes = omega (arith, h.nodes); height = omega (arith, h.height) }

by_right : (o : BinOp) (a b r : Formula) → IsNoSmaller b r → IsNoSmaller (binary o a b) r
by_right o a b r h = record { nodes = omega (arith, h.nodes); height = omega (arith, h.height) }

by_closing : (zs : List ℕ) (f : Formula) → IsNoSmaller (closed_over_each zs f) f
by_closing zs f = record { nodes = omega (arith, size_closed_each zs f); height = omega (arith, height_closed_each zs f) }

by_all : (ts : List ValueType) (f r : Formula) → IsNoSmaller f r → IsNoSmaller (for_all ts f) r
by_all ts f r h = record { nodes = omega (arith, h.nodes); height = omega (arith, h.height) }

by_some : (ts : List ValueType) (f r : Formula) → IsNoSmaller f r → IsNoSmaller (for_some ts f) r
by_some ts f r h = record { nodes = omega (arith, h.nodes); height = omega (arith, h.height) }

all_no_smaller : (table : Table) (zs : List ℕ) (f r : Formula) → IsNoSmaller f r → IsNoSmaller (all_of table zs f) r
all_no_smaller table zs f r h = by_all (types_of table zs) (closed_over_each zs f) r (then (closed_over_each zs f) f r (by_closing zs f) h)

some_no_smaller : (table : Table) (zs : List ℕ) (f r : Formula) → IsNoSmaller f r → IsNoSmaller (some_of table zs f) r
some_no_smaller table zs f r h = by_some (types_of table zs) (closed_over_each zs f) r (then (closed_over_each zs f) f r (by_closing zs f) h)

written_no_smaller : (table : Table) (zs : List ℕ) (f r : Formula) → IsNoSmaller f r → IsNoSmaller (all_written table zs f) r
written_no_smaller table [] f r h = h
written_no_smaller table (z ∷ zs) f r h = all_no_smaller table (z ∷ zs) f r h

pub box_no_smaller : BoxIsNoSmaller
box_no_smaller table skip h r = by_itself r
box_no_smaller table (assign ps) h r = by_replacing (looked_up ps) r
box_no_smaller table (pre p s) h r = by_right _ _ _ r (box_no_smaller table s h r)
box_no_smaller table (guard p s) h r = by_right _ _ _ r (box_no_smaller table s h r)
box_no_smaller table (choice s t) h r = by_left _ _ _ r (box_no_smaller table s h.0 r)
box_no_smaller table (if_else p s t) h r = by_left _ _ _ r (by_right _ _ _ r (box_no_smaller table s h.0 r))
box_no_smaller table (any zs s) h r = all_no_smaller table zs (box table s r) r (box_no_smaller table s h r)
box_no_smaller table (seq s t) h r = then _ (box table t r) r (box_no_smaller table s h.0 (box table t r)) (box_no_smaller table t h.1 r)
box_no_smaller table (par s t) h r = absurd h
box_no_smaller table (assert p s) h r = by_right _ _ _ r (by_right _ _ _ r (box_no_smaller table s h r))
box_no_smaller table (becomes_such xs p) h r = by_all (types_of table (firsts xs)) (binary Imp (new_values xs p) (closed_over_each (firsts xs) r)) r (by_right Imp (new_values xs p) (closed_over_each (firsts xs) r) r (by_closing (firsts xs) r))
box_no_smaller table (loop p s i v) h r =
    let left = binary And i (unary Not p) in
    by_right _ _ _ r (written_no_smaller table (writes s) (binary Imp left r) r (by_right Imp left r r (by_itself r)))

pub diamond_no_smaller : DiamondIsNoSmaller
diamond_no_smaller table skip h r = by_itself r
diamond_no_smaller table (assign ps) h r = by_replacing (looked_up ps) r
diamond_no_smaller table (pre p s) h r = by_right _ _ _ r (diamond_no_smaller table s h r)
diamond_no_smaller table (guard p s) h r = by_right _ _ _ r (diamond_no_smaller table s h r)
diamond_no_smaller table (choice s t) h r = by_left _ _ _ r (diamond_no_smaller table s h.0 r)
diamond_no_smaller table (if_else p s t) h r = by_left _ _ _ r (by_right _ _ _ r (diamond_no_smaller table s h.0 r))
diamond_no_smaller table (any zs s) h r = some_no_smaller table zs (diamond table s r) r (diamond_no_smaller table s h r)
diamond_no_smaller table (seq s t) h r = then _ (diamond table t r) r (diamond_no_smaller table s h.0 (diamond table t r)) (diamond_no_smaller table t h.1 r)
diamond_no_smaller table (par s t) h r = absurd h
diamond_no_smaller table (assert p s) h r = by_right _ _ _ r (by_right _ _ _ r (diamond_no_smaller table s h r))
diamond_no_smaller table (becomes_such xs p) h r = by_some (types_of table (firsts xs)) (binary And (new_values xs p) (closed_over_each (firsts xs) r)) r (by_right And (new_values xs p) (closed_over_each (firsts xs) r) r (by_closing (firsts xs) r))
diamond_no_smaller table (loop p s i v) h r = absurd h

-- ---- within the limits
pub within : (f g : Formula) → IsNoSmaller f g → IsWithinLimits f → IsWithinLimits g
within f g h w = record { nodes = omega (arith, h.nodes, w.nodes); height = omega (arith, h.height, w.height) }

pub within_box : (table : Table) (s : Substitution) (r : Formula) → IsFlat s → IsWithinLimits (box table s r) → IsWithinLimits r
within_box table s r h w = within (box table s r) r (box_no_smaller table s h r) w

pub within_diamond : (table : Table) (s : Substitution) (r : Formula) → HasNoLoop s → IsWithinLimits (diamond table s r) → IsWithinLimits r
within_diamond table s r h w = within (diamond table s r) r (diamond_no_smaller table s h r) w

pub within_replaced : (by : ℕ → Formula) (r : Formula) → IsWithinLimits (replaced by r) → IsWithinLimits r
within_replaced by r w = within (replaced by r) r (by_replacing by r) w

pub within_all_of : (table : Table) (zs : List ℕ) (f : Formula) → IsWithinLimits (all_of table zs f) → IsWithinLimits f
within_all_of table zs f w = within (all_of table zs f) f (all_no_smaller table zs f f (by_itself f)) w

pub within_some_of : (table : Table) (zs : List ℕ) (f : Formula) → IsWithinLimits (some_of table zs f) → IsWithinLimits f
within_some_of table zs f w = within (some_of table zs f) f (some_no_smaller table zs f f (by_itself f)) w

pub within_written : (table : Table) (zs : List ℕ) (f : Formula) → IsWithinLimits (all_written table zs f) → IsWithinLimits f
within_written table zs f w = within (all_written table zs f) f (written_no_smaller table zs f f (by_itself f)) w

-- ---- the parts of a loop
-- [S]I
pub within_kept : (table : Table) (xs : List ℕ) (p i v r body falls : Formula) → IsWithinLimits (loop_box table xs p i v r body falls) → IsWithinLimits body
within_kept table xs p i v r body falls w =
    let turn = binary And i p in
    let kept = all_written table xs (binary Imp turn body) in
    let counts = all_written table xs (binary Imp turn (binary In v (named Natural))) in
    let fallen = all_written table xs (binary Imp turn (replaced (looked_up ((variant_before table, v) ∷ [])) falls)) in
    let leaves = all_written table xs (binary Imp (binary And i (unary Not p)) r) in
    let first = within_left And (binary And (binary And i kept) counts) fallen (within_left And (binary And (binary And (binary And i kept) counts) fallen) leaves w) in
    within_right Imp turn body (within_written table xs (binary Imp turn body) (within_right And i kept (within_left And (binary And i kept) counts first)))

-- [S](V < n)
pub within_falls : (table : Table) (xs : List ℕ) (p i v r body falls : Formula) → IsWithinLimits (loop_box table xs p i v r body falls) → IsWithinLimits falls
within_falls table xs p i v r body falls w =
    let turn = binary And i p in
    let by = looked_up ((variant_before table, v) ∷ []) in
    let kept = all_written table xs (binary Imp turn body) in
    let counts = all_written table xs (binary Imp turn (binary In v (named Natural))) in
    let fallen = all_written table xs (binary Imp turn (replaced by falls)) in
    let leaves = all_written table xs (binary Imp (binary And i (unary Not p)) r) in
    within_replaced by falls (within_right Imp turn (replaced by falls) (within_written table xs (binary Imp turn (replaced by falls)) (within_right And (binary And (binary And i kept) counts) fallen (within_left And (binary And (binary And (binary And i kept) counts) fallen) leaves w))))

pub ruleset parts_within = (within_left, within_right, within_box, within_diamond, within_all_of, within_some_of)

pub ruleset loops_within = (within_kept, within_falls)

pub ruleset loop_parts_within = (within_left, within_right, within_written)

pub ruleset loop_turns_within = (within_left, within_right, within_written, within_replaced)
