use Rattle.std.proofs.Common.{◌≡◌, List, length, sym, ◌∙◌, ap, subst}
use Rattle.bk_form.specs.Each.{Each}
use Rattle.bk_dev.specs.Development.{Level, Development}
use Rattle.bk_dev.specs.Flattened.{copied_in_levels, flat_levels}
use Rattle.bk_po.specs.FlatFacts.{IsApart, with_entries, AreBelow}
use Rattle.bk_po.proofs.FlatStands.{levels_apart, levels_below, whole_is, whole_stands, whole_arrays}
use Rattle.bk_po.proofs.flattening.flattened.Goals as goal

pub flat_levels-requires-clause-apart : goal.flat_levels-requires-clause-apart
flat_levels-requires-clause-apart c =
    let levels : c.deref.result.now ≡ c.args.dev.now.levels = c.deref.ensures.value ∙ ap (λ (d : Development). d.levels) c.dev.view_is in
    subst (λ (ls : List Level). Each IsApart ls) (sym levels) (levels_apart c.args.dev.now c.facts.ensures)

pub flat_levels-requires-clause-listed : goal.flat_levels-requires-clause-listed
flat_levels-requires-clause-listed c =
    let levels : c.deref.result.now ≡ c.args.dev.now.levels = c.deref.ensures.value ∙ ap (λ (d : Development). d.levels) c.dev.view_is in
    let same : c.in_ok-table.table ≡ c.args.dev.now.table = c.in_ok-table.ensures ∙ ap (λ (d : Development). d.table) c.dev.view_is in
    subst (λ (ls : List Level). AreBelow (length c.in_ok-table.table.variables) (copied_in_levels ls)) (sym levels) (levels_below c.args.dev.now c.in_ok-table.table c.facts.ensures same)

pub invariant_of-result : goal.invariant_of-result
invariant_of-result c =
    let dev = c.args.dev.now in
    let first = c.in_ok-table.table in
    let levels : c.deref.result.now ≡ dev.levels = c.deref.ensures.value ∙ ap (λ (d : Development). d.levels) c.dev.view_is in
    let same : first ≡ dev.table = c.in_ok-table.ensures ∙ ap (λ (d : Development). d.table) c.dev.view_is in
    let tables : c.flat_levels.new.table ≡ with_entries first (copied_in_levels dev.levels) = c.in_ok-levels.ensures.table ∙ ap (λ (ls : List Level). with_entries first (copied_in_levels ls)) levels in
    let made : c.in_ok-levels.levels.items ≡ flat_levels (length first.variables) dev.levels = c.in_ok-levels.ensures.levels ∙ ap (flat_levels (length first.variables)) levels in
    record {
      flat = whole_stands dev first c.flat_levels.new.table c.in_ok-levels.levels.items c.facts.ensures same tables made;
      arrays = whole_arrays dev first c.flat_levels.new.table c.in_ok-levels.levels.items c.in_ok-arrays.arrays c.facts.ensures same tables made c.in_ok-arrays.ensures;
    }

pub returns : goal.returns
returns c =
    let dev = c.args.dev.now in
    let first = c.in_ok-table.table in
    let levels : c.deref.result.now ≡ dev.levels = c.deref.ensures.value ∙ ap (λ (d : Development). d.levels) c.dev.view_is in
    let same : first ≡ dev.table = c.in_ok-table.ensures ∙ ap (λ (d : Development). d.table) c.dev.view_is in
    let tables : c.flat_levels.new.table ≡ with_entries first (copied_in_levels dev.levels) = c.in_ok-levels.ensures.table ∙ ap (λ (ls : List Level). with_entries first (copied_in_levels ls)) levels in
    let made : c.in_ok-levels.levels.items ≡ flat_levels (length first.variables) dev.levels = c.in_ok-levels.ensures.levels ∙ ap (flat_levels (length first.variables)) levels in
    whole_is dev first c.flat_levels.new.table c.in_ok-levels.levels.items same tables made
