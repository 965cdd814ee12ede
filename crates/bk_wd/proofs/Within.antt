-- A condition is within the limits only where each part of it is, and what stands for conditions that are left out.
use Rattle.std.proofs.Common.{◌≡◌, ℕ, List, refl, arith}
use Rattle.bk_val.specs.ValueType.{ValueType}
use Rattle.bk_form.specs.Table.{Table}
use Rattle.bk_form.specs.Formula.{Formula, bound, btrue, unary, binary, for_all, Formulas, no_formulas, formula_and}
use Rattle.bk_form.specs.Replacement.{count}
use Rattle.bk_form.specs.declared.operator.UnOp.TheVariants.{Not}
use Rattle.bk_form.specs.declared.operator.BinOp.TheVariants.{And, Imp, In}
use Rattle.bk_bind.specs.Limits.{IsWithinLimits}
use Rattle.bk_form.specs.Lifting.{lifted}
use Rattle.bk_bind.proofs.Within.{within_operand, within_left, within_right, within_body}
use Rattle.bk_wd.specs.Joining.{both, where_true, all_over}
use Rattle.bk_wd.specs.Operands.{WhenMet, always_met, met_where_true, met_where_false, sides_asked}
use Rattle.bk_wd.specs.WellDefined.{ranges_onto, defined, all_defined}

-- ---- where something is left out, and where nothing is
pub both-same : (p : Formula) → both p btrue ≡ p
both-same btrue = refl
both-same p = refl

pub both-joined : (p q : Formula) → (p ≡ btrue → ⊥) → (q ≡ btrue → ⊥) → both p q ≡ binary And p q
both-joined btrue q h k = absurd (h refl)
both-joined p btrue h k = absurd (k refl)
both-joined p q h k = refl

pub where_true-same : (q : Formula) → where_true btrue q ≡ q
where_true-same btrue = refl
where_true-same q = refl

pub where_true-joined : (p q : Formula) → (p ≡ btrue → ⊥) → (q ≡ btrue → ⊥) → where_true p q ≡ binary Imp p q
where_true-joined p btrue h k = absurd (k refl)
where_true-joined btrue q h k = absurd (h refl)
where_true-joined p q h k = refl

pub where_false-joined : (p q : Formula) → (q ≡ btrue → ⊥) → where_true (unary Not p) q ≡ binary Imp (unary Not p) q
where_false-joined p btrue k = absurd (k refl)
where_false-joined p q k = refl

pub all_over-joined : (ts : List ValueType) (p : Formula) → (p ≡ btrue → ⊥) → all_over ts p ≡ for_all ts p
all_over-joined ts btrue h = absurd (h refl)
all_over-joined ts p h = refl

-- ---- limits
pub btrue_within : IsWithinLimits btrue
btrue_within = record { nodes = omega arith; height = omega arith }

pub within_both_left : (p q : Formula) → IsWithinLimits (both p q) → IsWithinLimits p
within_both_left btrue q w = btrue_within
within_both_left p btrue w = w
within_both_left p q w = within_left And p q w

pub within_both_right : (p q : Formula) → IsWithinLimits (both p q) → IsWithinLimits q
within_both_right btrue q w = w
within_both_right p btrue w = btrue_within
within_both_right p q w = within_right And p q w

pub within_where_true : (p q : Formula) → IsWithinLimits (where_true p q) → IsWithinLimits q
within_where_true p btrue w = btrue_within
within_where_true btrue q w = w
within_where_true p q w = within_right Imp p q w

-- what is supposed, where something is asked
pub within_supposed : (p q : Formula) → (q ≡ btrue → ⊥) → IsWithinLimits (where_true p q) → IsWithinLimits p
within_supposed p btrue h w = absurd (h refl)
within_supposed btrue q h w = btrue_within
within_supposed p q h w = within_left Imp p q w

pub within_all_over : (ts : List ValueType) (p : Formula) → IsWithinLimits (all_over ts p) → IsWithinLimits p
within_all_over ts btrue w = btrue_within
within_all_over ts p w = within_body ts p w

pub within_sides_left : (m : WhenMet) (a p q : Formula) → IsWithinLimits (sides_asked m a p q) → IsWithinLimits p
within_sides_left always_met a p q w = within_both_left p q w
within_sides_left met_where_true a p q w = within_both_left p (where_true a q) w
within_sides_left met_where_false a p q w = within_both_left p (where_true (unary Not a) q) w

pub within_sides_right : (m : WhenMet) (a p q : Formula) → IsWithinLimits (sides_asked m a p q) → IsWithinLimits q
within_sides_right always_met a p q w = within_both_right p q w
within_sides_right met_where_true a p q w = within_where_true a q (within_both_right p (where_true a q) w)
within_sides_right met_where_false a p q w = within_where_true (unary Not a) q (within_both_right p (where_true (unary Not a) q) w)

pub within_ranges_onto : (n : ℕ) (f : Formula) (rs : Formulas) → IsWithinLimits (ranges_onto n f rs) → IsWithinLimits f
within_ranges_onto n f no_formulas w = w
within_ranges_onto n f (formula_and r rs) w = let g = binary In (bound (count rs)) (lifted n 0 r) in within_left And f g (within_ranges_onto n (binary And f g) rs w)

pub within_all_defined : (table : Table) (around : List ValueType) (f : Formula) (rs : Formulas) → IsWithinLimits (all_defined table around f rs) → IsWithinLimits f
within_all_defined table around f no_formulas w = w
within_all_defined table around f (formula_and r rs) w = within_both_left f (defined table around r) (within_all_defined table around (both f (defined table around r)) rs w)

pub ruleset joined_conditions = (within_operand, within_left, within_right, within_body, both-same, both-joined, where_true-same, where_true-joined, where_false-joined, all_over-joined)

pub ruleset conditions_within = (within_both_left, within_both_right, within_where_true, within_all_over, within_sides_left, within_sides_right)

pub ruleset ranges_within = (within_both_left, within_both_right, within_where_true, within_supposed, within_all_over, within_sides_left, within_sides_right, within_ranges_onto, within_all_defined)
