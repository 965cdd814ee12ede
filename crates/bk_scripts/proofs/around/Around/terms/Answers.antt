use Rattle.std.proofs.Common.{sym, subst, take, ◌+◌}
use Rattle.std.specs.List.{AllZip}
use Rattle.bk_scripts.specs.Parts.{TermMeans}
use Rattle.bk_scripts.specs.Reading.{around_of}
use Rattle.bk_scripts.proofs.Turns.{zip_turn, zip_none, meant_some, meant_none}
use Rattle.bk_scripts.proofs.around.Around.terms.Goals as goal

pub loop-term-preserved : goal.loop-term-preserved
loop-term-preserved c = subst (AllZip (TermMeans (around_of c.args.self.now)) (take (c.loop-term.term-index + 1) c.args.terms.now)) (sym c.in_ok-push.ensures.items) (zip_turn c.args.terms.now c.loop-term.term-index c.term-item.result c.loop-term-test.true c.term-item.is (TermMeans (around_of c.args.self.now)) c.loop-term.forms.items c.in-Some.form c.loop-term.invariant (meant_some (TermMeans (around_of c.args.self.now) c.term-item.result) c.in_ok-form.field-0 c.in-Some.form c.in_ok-form.ensures c.in-Some.is))

pub returns-in_default : goal.returns-in_default
returns-in_default c = λ v. zip_none c.args.terms.now c.loop-term.term-index c.term-item.result c.loop-term-test.true c.term-item.is (TermMeans (around_of c.args.self.now)) (meant_none (TermMeans (around_of c.args.self.now) c.term-item.result) c.in_ok-form.field-0 c.in_ok-form.ensures c.in_default.is) v.items
