use Rattle.std.proofs.Common.{sym, subst, take, ◌+◌}
use Rattle.std.specs.List.{AllZip}
use Rattle.bk_scripts.specs.Parts.{NumberMeans}
use Rattle.bk_scripts.proofs.Turns.{zip_next, zip_lacks}
use Rattle.bk_scripts.proofs.part.numbers.Goals as goal

pub loop-raw-preserved : goal.loop-raw-preserved
loop-raw-preserved c = subst (AllZip NumberMeans (take (c.loop-raw.raw-index + 1) c.args.written.now)) (sym c.in_ok-push.ensures.items) (zip_next c.args.written.now c.loop-raw.raw-index _ c.loop-raw-test.true NumberMeans c.loop-raw.numbers.items c.in-Some.number c.loop-raw.invariant c.in-Some.ensures)

pub returns-in_default : goal.returns-in_default
returns-in_default c = λ v. zip_lacks c.args.written.now c.loop-raw.raw-index _ c.loop-raw-test.true NumberMeans c.in_default.ensures v.items
