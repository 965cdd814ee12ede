use Rattle.std.proofs.Common.{◌≡◌, ◌∙◌, ap, sym, subst, refl, [], ◌∷◌, ◌++◌, length, arith, w64, to_z, of_z, to_z-of_z}
use Rattle.std.proofs.lemmas.List.{length-map}
use Rattle.bk_form.specs.Table.{Table}
use Rattle.bk_dev.specs.Facts.{IsDevelopment}
use Rattle.bk_dev.proofs.Room.{few-variables}
use Rattle.bk_elab.specs.Answered.{variables_added}
use Rattle.bk_elab.proofs.Assembling.{listed-by, counted-by, sets-added, alone-table}
use Rattle.bk_elab.proofs.levels.alone.Goals as goal

pub add_sets-requires-clause-counted : goal.add_sets-requires-clause-counted
add_sets-requires-clause-counted c =
    counted-by (record { sets = c.args.added.sets.items; variables = variables_added c.args.added.variables.items }) [] c.deref.result.now (sym c.deref.ensures.value) c.requires.lawful.table.counted

pub add_variables-requires-clause-listed : goal.add_variables-requires-clause-listed
add_variables-requires-clause-listed c =
    let t : Table = record { sets = c.args.added.sets.items; variables = variables_added c.args.added.variables.items } in
    listed-by c.add_sets.new.table t [] c.args.added.variables.items
    (ap (λ (x : Table). x.sets) (c.in_ok-add_sets.ensures ∙ sets-added c.new-table.result c.deref.result.now) ∙ (ap (λ (x : Table). x.sets ++ c.deref.result.now) c.new-table.ensures ∙ c.deref.ensures.value)) refl c.requires.lawful.table.listed

pub add_variables-requires-clause-few : goal.add_variables-requires-clause-few
add_variables-requires-clause-few c =
    let none : length c.add_sets.new.table.variables ≡ 0 = ap (λ (x : Table). length x.variables) (c.in_ok-add_sets.ensures ∙ sets-added c.new-table.result c.deref.result.now) ∙ ap (λ (x : Table). length x.variables) c.new-table.ensures in
    let long : length (variables_added c.args.added.variables.items) ≡ length c.args.added.variables.items = length-map c.args.added.variables.items (λ v. record { text = v.0; of_type = v.1 }) in
    omega (arith, none, long, few-variables _ c.requires)

pub returns : goal.returns
returns c =
    let a = c.args.added in
    let extents : c.push.new.self.items ≡ (length c.add_variables.new.table.sets, length c.add_variables.new.table.variables) ∷ [] =
    c.in_ok-push.ensures.items ∙ (λ i. c.new-extents.ensures.items i ++ c.extent_of.ensures i ∷ []) in
    let most : to_z w64 (of_z w64 c.args.max) ≡ c.args.max = to_z-of_z c.ranges.max in
    (λ i. record { max = most i; table = c.add_variables.new.table; homes = a.homes.items; sets = a.sets.items; heads = a.heads.items; levels = a.own.items; values = a.values.items; extents = extents i })
    ∙ ap (λ (t : Table). record { max = c.args.max; table = t; homes = a.homes.items; sets = a.sets.items; heads = a.heads.items; levels = a.own.items; values = a.values.items; extents = (length t.sets, length t.variables) ∷ [] })
    (alone-table c.new-table.result c.add_sets.new.table c.add_variables.new.table c.deref.result.now a.sets.items (variables_added a.variables.items) c.new-table.ensures c.deref.ensures.value c.in_ok-add_sets.ensures c.in_ok-add_variables.ensures)

pub invariant_of-result : goal.invariant_of-result
invariant_of-result c = subst IsDevelopment (sym (returns c)) c.requires
