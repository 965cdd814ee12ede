use Rattle.std.proofs.Common.{refl, sym, ◌∙◌, ap, subst, map, ◌++◌}
use Rattle.bk_dev.specs.Development.{Level}
use Rattle.bk_dev.specs.Layout.{locals, operation_variables}
use Rattle.bk_dev.proofs.Levels.{last_paired}
use Rattle.bk_b0.specs.CodeUnit.{slot_with, IsCodeUnit}
use Rattle.bk_b0.proofs.unit.b0.Goals as goal

pub all_slots-requires : goal.all_slots-requires
all_slots-requires c = rw (c.headers-heads.ensures, c.last_level-level.ensures) (last_paired c.args.dev.now c.facts.ensures.lawful)

pub returns : goal.returns
returns c =
    let level = c.last_level-level.ensures in
    let heads = c.headers-heads.ensures in
    let table = c.table_of-table.ensures in
    let arrays = c.in_ok-arrays.ensures in
    let slots = c.in_ok-slots.ensures ∙ (λ i. map (slot_with (table i) (arrays i)) ((level i).vars ++ locals (level i).init ++ operation_variables (heads i) (level i).bodies)) in
    λ i. record {
      table = (c.in_ok-table.ensures ∙ table) i;
      slots = slots i;
      values = (c.in_ok-values.ensures ∙ c.values_of-values.ensures) i;
      arrays = arrays i;
      sets = (c.in_ok-sets.ensures ∙ c.sets_of-sets.ensures) i;
      heads = (c.in_ok-heads.ensures ∙ heads) i;
      init = (c.in_ok-init.ensures ∙ ap (λ (l : Level). l.init) level) i;
      bodies = (c.in_ok-bodies.ensures ∙ ap (λ (l : Level). l.bodies) level) i;
    }

pub invariant_of-result : goal.invariant_of-result
invariant_of-result c = subst IsCodeUnit (sym (returns c)) (record { dev = c.args.dev.now; lawful = c.facts.ensures.lawful; in_b0 = c.requires; is = refl })
