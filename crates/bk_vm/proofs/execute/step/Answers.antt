use Rattle.std.proofs.Common.{◌∙◌, sym, pos, get_or}
use Rattle.std.proofs.lemmas.Option.{slice_get-get_or}
use Rattle.bk_code.specs.declared.instruction.Inst.TheVariants.{Push}
use Rattle.bk_vm.specs.Depth.{tops}
use Rattle.bk_vm.proofs.Steps.{executable, step_is, ready_after}
use Rattle.bk_vm.proofs.execute.step.Goals as goal

pub execute-requires-clause-executable : goal.execute-requires-clause-executable
execute-requires-clause-executable g c =
    let is = slice_get-get_or c.args.image.now.code c.args.place (Push (pos 0)) c.requires.ready.fits.place in
    rw c.requires.code (executable c.args.image.now c.args.place c.args.depth c.args.stack.now c.args.cells.now
    (get_or c.args.image.now.code c.args.place (Push (pos 0))) c.requires.long c.requires.ready is)

pub returns-clause-outcome : goal.returns-clause-outcome
returns-clause-outcome g c =
    let is = slice_get-get_or c.args.image.now.code c.args.place (Push (pos 0)) c.requires.ready.fits.place in
    let done = (rw c.requires.code at c.execute.ensures.outcome) in
    done ∙ sym (step_is c.args.image.now c.args.place (tops c.args.depth c.args.stack.now) c.args.cells.now
    (get_or c.args.image.now.code c.args.place (Push (pos 0))) is)

pub returns-clause-ready : goal.returns-clause-ready
returns-clause-ready g c =
    ready_after c.args.image.now c.args.place (tops c.args.depth c.args.stack.now) c.args.cells.now c.execute.result c.execute.new.stack
    c.execute.new.cells c.requires.ready (returns-clause-outcome g c)
