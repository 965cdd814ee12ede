use Rattle.std.proofs.Common.{rules, List, ◌≡◌, ◌++◌, ◌+◌, ◌≤◌, [], ◌∷◌, length, Some, None, ap, sym, ◌∙◌, subst, arith, append_assoc}
use Rattle.std.specs.Prelude.{OnOk}
use Rattle.bk_limits.specs.declared.TheConstants.{MOST_INSTRUCTIONS}
use Rattle.bk_form.specs.ArrayTable.{row_of}
use Rattle.bk_code.specs.declared.instruction.Inst.{Inst}
use Rattle.bk_code.specs.declared.instruction.Inst.TheVariants.{Store}
use Rattle.bk_b0.specs.CodeUnit.{first_of, unit_places}
use Rattle.bk_b0.specs.Places.{placed_value, placed_store}
use Rattle.bk_gen.specs.Executed.{HasStoreCode}
use Rattle.bk_gen.specs.Sizes.{store_size}
use Rattle.bk_gen.proofs.Operated.{array_has, array_is}
use Rattle.bk_gen.proofs.statement.add_store.Goals as goal

pub add_written-requires-clause-found : goal.add_written-requires-clause-found
add_written-requires-clause-found c = search rules

pub add_written-requires-clause-has : goal.add_written-requires-clause-has
add_written-requires-clause-has c =
    let p = unit_places c.args.unit.now in
    let found : row_of c.args.unit.now.arrays c.args.variable ≡ Some c.in-Some.row.now = search rules in
    array_has p c.args.variable c.args.term.now (subst (λ o. HasStoreCode p c.args.variable o c.args.term.now) found c.requires.has)

pub add_written-requires-clause-short : goal.add_written-requires-clause-short
add_written-requires-clause-short c =
    let p = unit_places c.args.unit.now in
    let found : row_of c.args.unit.now.arrays c.args.variable ≡ Some c.in-Some.row.now = search rules in
    subst (λ o. length c.args.code.now.items + store_size (p.cells c.args.variable) o c.args.term.now ≤ MOST_INSTRUCTIONS) found c.requires.short

pub returns-in-Some : goal.returns-in-Some
returns-in-Some c =
    let p = unit_places c.args.unit.now in
    let found : row_of c.args.unit.now.arrays c.args.variable ≡ Some c.in-Some.row.now = search rules in
    let has = subst (λ o. HasStoreCode p c.args.variable o c.args.term.now) found c.requires.has in
    let same = ap (λ xs. c.args.code.now.items ++ xs) (array_is p c.args.variable c.in-Some.row.now c.args.term.now has) ∙ ap (λ o. c.args.code.now.items ++ placed_store p c.args.variable o c.args.term.now) (sym found) in
    subst (λ (xs : List Inst). OnOk c.add_written.result (c.add_written.new.code.items ≡ xs)) same c.add_written.ensures

pub add_value-requires-clause-has : goal.add_value-requires-clause-has
add_value-requires-clause-has c =
    let p = unit_places c.args.unit.now in
    let plain : row_of c.args.unit.now.arrays c.args.variable ≡ None = search rules in
    subst (λ o. HasStoreCode p c.args.variable o c.args.term.now) plain c.requires.has

pub add_value-requires-clause-short : goal.add_value-requires-clause-short
add_value-requires-clause-short c =
    let p = unit_places c.args.unit.now in
    let plain : row_of c.args.unit.now.arrays c.args.variable ≡ None = search rules in
    let fits : length c.args.code.now.items + store_size (p.cells c.args.variable) None c.args.term.now ≤ MOST_INSTRUCTIONS = subst (λ o. length c.args.code.now.items + store_size (p.cells c.args.variable) o c.args.term.now ≤ MOST_INSTRUCTIONS) plain c.requires.short in
    omega arith

pub returns-in_ok-push-in-None : goal.returns-in_ok-push-in-None
returns-in_ok-push-in-None c =
    let p = unit_places c.args.unit.now in
    let before = c.args.code.now.items in
    let value = placed_value p c.args.term.now in
    let slot = first_of c.args.variable c.args.unit.now.slots in
    let plain : row_of c.args.unit.now.arrays c.args.variable ≡ None = search rules in
    let added : c.push.new.self.items ≡ (before ++ value) ++ Store slot ∷ [] = c.in_ok-push-in-None.ensures.items ∙ (λ i. c.in_ok-add_value-in-None.ensures i ++ Store (c.slot_of.ensures.value i) ∷ []) in
    added ∙ (append_assoc before value (Store slot ∷ []) ∙ ap (λ o. before ++ placed_store p c.args.variable o c.args.term.now) (sym plain))
