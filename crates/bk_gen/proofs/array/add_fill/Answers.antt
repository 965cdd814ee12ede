use Rattle.std.proofs.Common.{◌≡◌, ◌≤◌, ◌++◌, List, [], ◌∷◌, ◌∙◌, ap, subst, arith}
use Rattle.std.specs.Prelude.{OnOk}
use Rattle.bk_limits.specs.declared.TheConstants.{MOST_CELLS}
use Rattle.bk_dev.specs.Layout.{index_count}
use Rattle.bk_code.specs.declared.instruction.Inst.{Inst}
use Rattle.bk_b0.specs.CodeUnit.{first_of, unit_places}
use Rattle.bk_b0.specs.Places.{placed_value, fill}
use Rattle.bk_gen.proofs.Operated.{filled_is}
use Rattle.bk_gen.proofs.array.add_fill.Goals as goal

pub cells_of-requires : goal.cells_of-requires
cells_of-requires c = c.requires.ready.arrays c.args.variable c.args.row.now c.requires.found

pub add_stores-requires : goal.add_stores-requires
add_stores-requires c =
    let few : index_count c.args.unit.now.table c.args.row.now.domain ≤ MOST_CELLS = c.requires.ready.arrays c.args.variable c.args.row.now c.requires.found in
    omega (arith, few, c.slot_of-first.ensures.few, c.cells_of.ensures)

pub returns : goal.returns
returns c =
    let u = c.args.unit.now in
    let before = c.args.code.now.items in
    let counted : before ++ fill (c.leaf-value.result ∷ []) c.slot_of-first.result c.cells_of.result ≡ before ++ fill (placed_value (unit_places u) c.args.value.now) (first_of c.args.variable u.slots) (index_count u.table c.args.row.now.domain) =
    λ i. before ++ fill (c.leaf-value.ensures i) (c.slot_of-first.ensures.value i) (c.cells_of.ensures i) in
    let same = counted ∙ ap (λ xs. before ++ xs) (filled_is u c.args.variable c.args.row.now c.requires.found c.args.value.now) in
    subst (λ (xs : List Inst). OnOk c.add_stores.result (c.add_stores.new.code.items ≡ xs)) same c.add_stores.ensures
