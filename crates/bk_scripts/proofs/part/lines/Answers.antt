use Rattle.std.proofs.Common.{sym, subst, take, map, ◌+◌}
use Rattle.std.specs.List.{AllZip}
use Rattle.bk_raw.specs.Codes.ScriptView.{line_of}
use Rattle.bk_scripts.specs.Parts.{LineMeans}
use Rattle.bk_scripts.proofs.Turns.{mapped_turn, mapped_none, meant_some, meant_none}
use Rattle.bk_scripts.proofs.part.lines.Goals as goal

pub loop-raw-preserved : goal.loop-raw-preserved
loop-raw-preserved c = subst (AllZip LineMeans (map line_of (take (c.loop-raw.raw-index + 1) c.args.written.now))) (sym c.in_ok-push.ensures.items) (mapped_turn c.args.written.now c.loop-raw.raw-index c.raw-item.result c.loop-raw-test.true c.raw-item.is line_of LineMeans c.loop-raw.lines.items c.in-Some.line c.loop-raw.invariant (meant_some (LineMeans (line_of c.raw-item.result)) c.in_ok-line.field-0 c.in-Some.line c.in_ok-line.ensures c.in-Some.is))

pub returns-in_default : goal.returns-in_default
returns-in_default c = λ v. mapped_none c.args.written.now c.loop-raw.raw-index c.raw-item.result c.loop-raw-test.true c.raw-item.is line_of LineMeans (meant_none (LineMeans (line_of c.raw-item.result)) c.in_ok-line.field-0 c.in_ok-line.ensures c.in_default.is) v.items
