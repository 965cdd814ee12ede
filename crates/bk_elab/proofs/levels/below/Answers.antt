use Rattle.std.proofs.Common.{◌≡◌, ◌≤◌, ◌+◌, ◌^◌, ◌++◌, ◌∷◌, [], ◌∙◌, ap, sym, subst, refl, List, length, arith, ℕ, length-append}
use Rattle.std.proofs.lemmas.List.{length-map}
use Rattle.bk_form.specs.Table.{Table, SetEntry}
use Rattle.bk_dev.specs.Development.{Development}
use Rattle.bk_dev.specs.Facts.{IsDevelopment}
use Rattle.bk_dev.proofs.Room.{few-variables}
use Rattle.bk_elab.specs.Answered.{variables_added, with_sets}
use Rattle.bk_elab.proofs.Assembling.{listed-by, counted-by, sets-added, below-made}
use Rattle.std.proofs.Common.{to_z, of_z, w64, to_z-of_z}
use Rattle.bk_elab.proofs.levels.below.Goals as goal

pub add_sets-requires-clause-counted : goal.add_sets-requires-clause-counted
add_sets-requires-clause-counted c =
    counted-by (record { sets = c.args.above.table.sets ++ c.args.added.sets.items; variables = c.args.above.table.variables ++ variables_added c.args.added.variables.items }) c.args.above.table.sets c.deref.result.now
    (ap (λ (ss : List SetEntry). c.args.above.table.sets ++ ss) (sym c.deref.ensures.value)) c.requires.development.lawful.table.counted

pub add_sets-requires-clause-few : goal.add_sets-requires-clause-few
add_sets-requires-clause-few c =
    subst (λ (t : Table). length t.sets + length c.deref.result.now ≤ 2 ^ 32) (sym (ap (λ (d : Development). d.table) c.above.view_is))
    (subst (λ (n : ℕ). n ≤ 2 ^ 32) (length-append c.args.above.table.sets c.args.added.sets.items ∙ ap (λ (ss : List SetEntry). length c.args.above.table.sets + length ss) (sym c.deref.ensures.value)) c.requires.development.few_sets)

pub add_variables-requires-clause-listed : goal.add_variables-requires-clause-listed
add_variables-requires-clause-listed c =
    let t : Table = record { sets = c.args.above.table.sets ++ c.args.added.sets.items; variables = c.args.above.table.variables ++ variables_added c.args.added.variables.items } in
    let first : c.add_sets.new.table ≡ with_sets c.args.above.table c.deref.result.now = c.in_ok-add_sets.ensures ∙ ap (λ (d : Development). with_sets d.table c.deref.result.now) c.above.view_is in
    listed-by c.add_sets.new.table t c.args.above.table.variables c.args.added.variables.items
    (ap (λ (x : Table). x.sets) (first ∙ sets-added c.args.above.table c.deref.result.now) ∙ ap (λ (ss : List SetEntry). c.args.above.table.sets ++ ss) c.deref.ensures.value)
    refl c.requires.development.lawful.table.listed

pub add_variables-requires-clause-few : goal.add_variables-requires-clause-few
add_variables-requires-clause-few c =
    let first : c.add_sets.new.table ≡ with_sets c.args.above.table c.deref.result.now = c.in_ok-add_sets.ensures ∙ ap (λ (d : Development). with_sets d.table c.deref.result.now) c.above.view_is in
    let same : length c.add_sets.new.table.variables ≡ length c.args.above.table.variables = ap (λ (x : Table). length x.variables) (first ∙ sets-added c.args.above.table c.deref.result.now) in
    let long : length (variables_added c.args.added.variables.items) ≡ length c.args.added.variables.items = length-map c.args.added.variables.items (λ v. record { text = v.0; of_type = v.1 }) in
    omega (arith, same, long, length-append c.args.above.table.variables (variables_added c.args.added.variables.items), few-variables _ c.requires.development)

pub returns : goal.returns
returns c =
    let most : to_z w64 (of_z w64 c.args.max) ≡ c.args.max = to_z-of_z c.ranges.max in
    (λ i. record { max = most i; table = c.add_variables.new.table; homes = c.append-2.new.self.items; sets = c.append.new.self.items; heads = c.above.inside.heads.items; levels = c.append-3.new.self.items; values = c.args.added.values.items; extents = c.push.new.self.items })
    ∙ below-made c.args.max c.args.above _ c.args.added c.add_sets.new.table c.add_variables.new.table c.deref.result.now c.append.new.self.items c.append-2.new.self.items c.append-3.new.self.items c.push.new.self.items c.above.view_is c.requires.sets c.deref.ensures.value
    c.in_ok-add_sets.ensures c.in_ok-add_variables.ensures c.in_ok-append.ensures.items c.in_ok-append-2.ensures.items c.in_ok-append-3.ensures.items (c.in_ok-push.ensures.items ∙ ap (λ (e : ℕ × ℕ). c.above.inside.extents.items ++ e ∷ []) c.extent_of.ensures)

pub invariant_of-result : goal.invariant_of-result
invariant_of-result c =
    let most : to_z w64 (of_z w64 c.args.max) ≡ c.args.max = to_z-of_z c.ranges.max in
    subst IsDevelopment (sym (
    (λ i. record { max = most i; table = c.add_variables.new.table; homes = c.append-2.new.self.items; sets = c.append.new.self.items; heads = c.above.inside.heads.items; levels = c.append-3.new.self.items; values = c.args.added.values.items; extents = c.push.new.self.items })
    ∙ below-made c.args.max c.args.above _ c.args.added c.add_sets.new.table c.add_variables.new.table c.deref.result.now c.append.new.self.items c.append-2.new.self.items c.append-3.new.self.items c.push.new.self.items c.above.view_is c.requires.sets c.deref.ensures.value
    c.in_ok-add_sets.ensures c.in_ok-add_variables.ensures c.in_ok-append.ensures.items c.in_ok-append-2.ensures.items c.in_ok-append-3.ensures.items (c.in_ok-push.ensures.items ∙ ap (λ (e : ℕ × ℕ). c.above.inside.extents.items ++ e ∷ []) c.extent_of.ensures)))
    c.requires.development
