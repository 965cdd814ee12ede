use Rattle.std.proofs.Common.{rules, ◌≡◌, ◌++◌, [], ◌∷◌, Some, ap, ◌∙◌}
use Rattle.bk_form.specs.ArrayTable.{row_of}
use Rattle.bk_gen.proofs.Operated.{loaded_is}
use Rattle.bk_gen.proofs.array.add_load.Goals as goal

pub loading-requires-clause-few : goal.loading-requires-clause-few
loading-requires-clause-few c =
    let found : row_of c.args.unit.now.arrays c.args.variable ≡ Some c.in-Some.row.now = search rules in
    c.requires.ready.arrays c.args.variable c.in-Some.row.now found

pub returns-in_ok-push-in-Some : goal.returns-in_ok-push-in-Some
returns-in_ok-push-in-Some c =
    let found : row_of c.args.unit.now.arrays c.args.variable ≡ Some c.in-Some.row.now = search rules in
    c.in_ok-push-in-Some.ensures.items ∙ (ap (λ inst. c.args.code.now.items ++ inst ∷ []) c.loading.ensures ∙ ap (λ xs. c.args.code.now.items ++ xs) (loaded_is c.args.unit.now c.args.variable c.in-Some.row.now found))
