use Rattle.std.proofs.Common.{length, Err, sym, ◌∙◌, ap, subst}
use Rattle.bk_seq.specs.Sequents.{sequent_of}
use Rattle.bk_kernel.specs.Derivations.{IsVerdict}
use Rattle.bk_kernel.specs.Standing.{at_end}
use Rattle.bk_kernel.proofs.Replayed.{Stands, advanced, failed, ended}
use Rattle.bk_kernel.proofs.replaying.replay_in_order.Goals as goal

pub returns-in-Err-NoInstance : goal.returns-in-Err-NoInstance
returns-in-Err-NoInstance c =
    let l = c.loop-index in
    let stands : Stands c.args.types.now c.args.rules.now (sequent_of c.args.sequent) l.index l.open.items = record { reached = l.invariant.reached; type = l.invariant.type; within = l.invariant.within } in
    failed c.args.types.now c.args.rules.now (sequent_of c.args.sequent) l.index c.index-rules-index.result c.index-rules-index.is c.loop-index-test.true l.open.items c.pop.new.self.items c.in-Some.first c.in-Some.ensures.items stands (c.in-Err-NoInstance.ensures.no_instance (ap (λ e. Err e) c.in-Err-NoInstance.field-0-is))

pub loop-index-preserved : goal.loop-index-preserved
loop-index-preserved c =
    let l = c.loop-index in
    let stands : Stands c.args.types.now c.args.rules.now (sequent_of c.args.sequent) l.index l.open.items = record { reached = l.invariant.reached; type = l.invariant.type; within = l.invariant.within } in
    let next = advanced c.args.types.now c.args.rules.now (sequent_of c.args.sequent) l.index c.index-rules-index.result c.index-rules-index.is c.loop-index-test.true l.open.items c.pop.new.self.items c.in-Some.first c.in-Some.ensures.items stands c.in-Ok.news.items c.put_first.new.open.items c.in-Ok.ensures.value c.in_ok-put_first-in-Ok.ensures in
    record { reached = next.reached; type = next.type; within = next.within }

pub returns : goal.returns
returns c =
    let l = c.loop-index in
    let all = ended c.args.types.now c.args.rules.now (sequent_of c.args.sequent) l.index l.open.items c.loop-index-test.false l.invariant.reached in
    let told = c.verdict_at_end.ensures ∙ ap (λ held. at_end (length held)) c.deref.ensures.value in
    subst (λ v. IsVerdict c.args.types.now c.args.rules.now (sequent_of c.args.sequent) v) (sym told) all
