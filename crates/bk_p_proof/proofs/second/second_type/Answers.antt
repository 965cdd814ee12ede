use Rattle.bk_p_proof.proofs.Seconds.{second_in, none_in, no_place, all_seen}
use Rattle.bk_p_proof.proofs.second.second_type.Goals as goal

pub returns-in-Some : goal.returns-in-Some
returns-in-Some c = second_in (λ x. x.now) c.args.scripts.now c.loop-script.script-index c.script-item.result c.in_ok-names.names.items c.deref.result.now c.in_ok-place.field-0 c.in-Some.place c.loop-script.invariant c.loop-script-test.true c.script-item.is c.in_ok-names.ensures c.deref.ensures.value c.in_ok-place.ensures c.in-Some.is

pub loop-script-preserved : goal.loop-script-preserved
loop-script-preserved c = none_in (λ x. x.now) c.args.scripts.now c.loop-script.script-index c.script-item.result c.in_ok-names.names.items c.deref.result.now c.in_ok-place.field-0 c.loop-script.invariant c.loop-script-test.true c.script-item.is c.in_ok-names.ensures c.deref.ensures.value c.in_ok-place.ensures (no_place c.in_ok-place.field-0 c.in_default.not-Some)

pub returns : goal.returns
returns c = all_seen c.args.scripts.now c.loop-script.script-index c.loop-script.invariant c.loop-script-test.false
