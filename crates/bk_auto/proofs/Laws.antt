-- The laws that take equations and memberships of intervals apart.
use Rattle.std.proofs.Common.{◌≡◌, ℕ, true, List, [], ◌∷◌, map, Some, refl, ap, ◌∙◌}
use Rattle.std.specs.Global.{Vec}
use Rattle.std.specs.Option.{option_map, option_and_then}
use Rattle.bk_form.specs.Table.{Table}
use Rattle.bk_form.specs.Formula.{Formula, binary}
use Rattle.bk_form.specs.declared.operator.BinOp.TheVariants.{And, Eq, Le, In, Range}
use Rattle.bk_laws.specs.Rows.{Instance}
use Rattle.bk_laws_log.specs.Rows.{rows}
use Rattle.bk_seq.specs.Sequents.{Types, IsWithin}
use Rattle.bk_seq.specs.Paths.{sub_at, put_at}
use Rattle.bk_kernel.specs.declared.rule.Rule.{Rule}
use Rattle.bk_kernel.specs.declared.rule.Rule.TheVariants.{Law}
use Rattle.bk_kernel.specs.declared.rule.Place.TheVariants.{Goal}
use Rattle.bk_kernel.specs.Branches.{extended, when}
use Rattle.bk_kernel.specs.Derivations.{Derives}
use Rattle.bk_kernel.specs.Rewriting.{law_instance, stands_for, goal_changed}
use Rattle.bk_auto.proofs.Composing.{same_hyps}

pub equal_is : (a b : Formula) → law_instance 101 (a ∷ b ∷ []) ≡ Some (record { sides = []; left = binary Eq a b; right = binary And (binary Le a b) (binary Le b a) })
unfolding rows
equal_is a b = refl

pub within_is : (a l h : Formula) → law_instance 105 (a ∷ l ∷ h ∷ []) ≡ Some (record { sides = []; left = binary In a (binary Range l h); right = binary And (binary Le l a) (binary Le a h) })
unfolding rows
within_is a l h = refl

-- a law without sides, at the whole goal
pub derives_by_law : (table : Table) (hyps : List Formula) (old new : Formula) (law : ℕ) (picks : Vec Formula) (path : Vec ℕ) (rules : List Rule) → path.items ≡ [] → law_instance law picks.items ≡ Some (record { sides = []; left = old; right = new }) → stands_for table old (record { sides = []; left = old; right = new }) ≡ true → Types table (hyps, new) → IsWithin (hyps, new) → Derives table rules (hyps, new) → Derives table (Law law picks (Goal path) ∷ rules) (hyps, old)
derives_by_law table hyps old new law picks path rules whole is fits t w h = (
  (hyps, new) ∷ [],
  record {
    made = ap (λ ks. option_map (map (extended (hyps, old))) (goal_changed (option_and_then (λ f. option_and_then (λ (i : Instance). when (stands_for table f i) (i.sides, put_at old ks i.right)) (law_instance law picks.items)) (sub_at old ks)))) whole
        ∙ ap (λ o. option_map (map (extended (hyps, old))) (goal_changed (option_and_then (λ (i : Instance). when (stands_for table old i) (i.sides, put_at old [] i.right)) o))) is
        ∙ ap (λ b. option_map (map (extended (hyps, old))) (goal_changed (when b ([], new)))) fits
        ∙ ap (λ s. Some (s ∷ [])) (same_hyps hyps new);
    type = (t, tt);
    within = (w, tt);
  },
  h,
)
