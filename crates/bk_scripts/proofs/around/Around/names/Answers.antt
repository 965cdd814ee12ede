use Rattle.std.proofs.Common.{sym, subst, take, ◌+◌}
use Rattle.std.specs.List.{AllZip}
use Rattle.bk_scripts.specs.Parts.{NameMeans}
use Rattle.bk_scripts.specs.Reading.{around_of}
use Rattle.bk_scripts.proofs.Turns.{zip_turn, zip_none, meant_some, meant_none}
use Rattle.bk_scripts.proofs.around.Around.names.Goals as goal

pub loop-name-preserved : goal.loop-name-preserved
loop-name-preserved c = subst (AllZip (NameMeans (around_of c.args.self.now)) (take (c.loop-name.name-index + 1) c.args.names.now)) (sym c.in_ok-push.ensures.items) (zip_turn c.args.names.now c.loop-name.name-index c.name-item.result c.loop-name-test.true c.name-item.is (NameMeans (around_of c.args.self.now)) c.loop-name.numbers.items c.in-Some.number c.loop-name.invariant (meant_some (NameMeans (around_of c.args.self.now) c.name-item.result) c.in_ok-number.field-0 c.in-Some.number c.in_ok-number.ensures c.in-Some.is))

pub returns-in_default : goal.returns-in_default
returns-in_default c = λ v. zip_none c.args.names.now c.loop-name.name-index c.name-item.result c.loop-name-test.true c.name-item.is (NameMeans (around_of c.args.self.now)) (meant_none (NameMeans (around_of c.args.self.now) c.name-item.result) c.in_ok-number.field-0 c.in_ok-number.ensures c.in_default.is) v.items
