-- What a substitution is asked is within the limits only where each part of it is.
use Rattle.std.proofs.Common.{◌≡◌, ℕ, zero, suc, ◌<◌, List, [], ◌∷◌, length, drop, get_or, refl, sym, subst, arith}
use Rattle.std.specs.Prelude.{Option}
use Rattle.bk_form.specs.Table.{Table}
use Rattle.bk_form.specs.ArrayTable.{ArrayTable}
use Rattle.bk_form.specs.Formula.{Formula, btrue}
use Rattle.bk_bind.specs.Limits.{IsWithinLimits}
use Rattle.bk_wd.specs.Joining.{both}
use Rattle.bk_wd.proofs.Within.{btrue_within, within_both_left, within_both_right, within_where_true}
use Rattle.bk_gsl.specs.Substitution.{Substitution}
use Rattle.bk_gsl.specs.Flat.{IsFlat}
use Rattle.bk_wp.specs.Box.{box}
use Rattle.bk_wp.specs.Guarded.{over_variables, over_written, box_where, evaluated_term, evaluated_onto}
use Rattle.bk_wp.specs.Quantifiers.{all_of, all_written}
use Rattle.bk_wp.proofs.Growth.{within_box, within_all_of, within_written}

-- ---- where something is left out, and where nothing is
pub box_where-joined : (table : Table) (s : Substitution) (q : Formula) → (q ≡ btrue → ⊥) → box_where table s q ≡ box table s q
box_where-joined table s btrue h = absurd (h refl)
box_where-joined table s q h = refl

pub over_variables-joined : (table : Table) (zs : List ℕ) (p : Formula) → (p ≡ btrue → ⊥) → over_variables table zs p ≡ all_of table zs p
over_variables-joined table zs btrue h = absurd (h refl)
over_variables-joined table zs p h = refl

pub over_written-joined : (table : Table) (zs : List ℕ) (p : Formula) → (p ≡ btrue → ⊥) → over_written table zs p ≡ all_written table zs p
over_written-joined table zs btrue h = absurd (h refl)
over_written-joined table zs p h = refl

-- ---- limits
pub within_box_where : (table : Table) (s : Substitution) (q : Formula) → IsFlat s → IsWithinLimits (box_where table s q) → IsWithinLimits q
within_box_where table s btrue h w = btrue_within
within_box_where table s q h w = within_box table s q h w

pub within_over_variables : (table : Table) (zs : List ℕ) (p : Formula) → IsWithinLimits (over_variables table zs p) → IsWithinLimits p
within_over_variables table zs btrue w = btrue_within
within_over_variables table zs p w = within_all_of table zs p w

pub within_over_written : (table : Table) (zs : List ℕ) (p : Formula) → IsWithinLimits (over_written table zs p) → IsWithinLimits p
within_over_written table zs btrue w = btrue_within
within_over_written table zs p w = within_written table zs p w

pub within_onto : (table : Table) (arrays : Option ArrayTable) (f : Formula) (ps : List (ℕ × Formula)) → IsWithinLimits (evaluated_onto table arrays f ps) → IsWithinLimits f
within_onto table arrays f [] w = w
within_onto table arrays f (p ∷ ps) w = within_both_left f (evaluated_term table arrays p.0 p.1) (within_onto table arrays (both f (evaluated_term table arrays p.0 p.1)) ps w)

-- of a term in the middle of the list
pub within_term : (table : Table) (arrays : Option ArrayTable) (f : Formula) (ps : List (ℕ × Formula)) (i : ℕ) (p : ℕ × Formula) → p ≡ get_or ps i p → i < length ps → (g : Formula) → evaluated_onto table arrays f (drop i ps) ≡ g → IsWithinLimits g → IsWithinLimits (both f (evaluated_term table arrays p.0 p.1))
within_term table arrays f [] i p e l g h w = absurd (omega arith)
within_term table arrays f (q ∷ ps) zero p e l g h w = subst (λ r. IsWithinLimits (both f (evaluated_term table arrays r.0 r.1))) (sym e) (within_onto table arrays (both f (evaluated_term table arrays q.0 q.1)) ps (subst IsWithinLimits (sym h) w))
within_term table arrays f (q ∷ ps) (suc i) p e l g h w = within_term table arrays f ps i p e (omega arith) g h w

pub ruleset joined_conditions = (box_where-joined, over_variables-joined, over_written-joined, within_all_of, within_written)

pub ruleset conditions_within = (within_both_left, within_both_right, within_where_true, within_box_where, within_over_variables, within_over_written, within_onto)
