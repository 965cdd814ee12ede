use Rattle.std.proofs.Common.{◌<◌, ◌∙◌, sym, arith, rules, length, get_or, pos, FitsSigned, w64}
use Rattle.std.proofs.lemmas.Int.{to_z-of_z}
use Rattle.bk_vm.specs.Depth.{tops}
use Rattle.bk_vm.proofs.Steps.{row-ALoad}
use Rattle.bk_vm.proofs.execute.load_element.Goals as goal

pub returns-in-Some-clause-outcome : goal.returns-in-Some-clause-outcome
returns-in-Some-clause-outcome c max =
    let e = c.in-Some.ensures in
    let low : FitsSigned w64 c.args.low = search rules in
    let index : FitsSigned w64 c.take_one-index.result.0 = search rules in
    let number : FitsSigned w64 (get_or c.args.cells.now c.in-Some.cell (pos 0)) = search rules in
    let settled = simp (to_z-of_z, number) at (c.settle.ensures.outcome c.args.cells.now) in
    let is = simp (to_z-of_z, low, index) at e.cell in
    let stands : c.in-Some.cell < length c.args.cells.now = omega (arith, e.within) in
    settled ∙
    sym (row-ALoad max c.args.base c.args.low c.args.count c.take_one-index.result.0 c.args.place c.in-Some.cell
    (tops c.args.depth c.args.stack.now) (tops c.take_one-index.result.1 c.args.stack.now) c.args.cells.now
    c.take_one-index.ensures.taken (sym is) stands)
