use Rattle.std.proofs.Common.{suc}
use Rattle.bk_raw.specs.Meaning.Printed.{wrong_bounds}
use Rattle.bk_raw.specs.Errors.Blame.{blame}
use Rattle.bk_elab_terms.specs.Shown.{told}
use Rattle.bk_elab_terms.proofs.Bindings.{wrong-next}
use Rattle.bk_elab_terms.proofs.binder.wrong_bounds.Goals as goal

pub loop-index-preserved : goal.loop-index-preserved
loop-index-preserved c =
    wrong-next c.args.bounds.now c.args.standing c.loop-index.index c.index-bounds-index.result (told c.loop-index.fault) (told c.earlier-fault.result) (told c.wrong_number-wrong.result) (blame (wrong_bounds (suc c.args.standing) c.args.bounds.now))
    c.loop-index-test.true c.index-bounds-index.is c.wrong_number-wrong.ensures c.earlier-fault.ensures c.loop-index.invariant
