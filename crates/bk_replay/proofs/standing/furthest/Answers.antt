use Rattle.std.proofs.Common.{◌≡◌, [], Err, sym, ◌∙◌, ap, arith}
use Rattle.std.proofs.lemmas.List.{nil_from_length}
use Rattle.bk_seq.specs.Sequents.{sequent_of}
use Rattle.bk_kernel.specs.Standing.{in_order}
use Rattle.bk_kernel.proofs.Replayed.{Stands, advanced}
use Rattle.bk_replay.proofs.Reached.{none_held, stopped_there, ended_there, done_there}
use Rattle.bk_replay.proofs.standing.furthest.Goals as goal

pub returns-in_default : goal.returns-in_default
returns-in_default c =
    let l = c.loop-index in
    let none : in_order l.open.items ≡ [] = none_held l.open.items (nil_from_length l.open.items (omega (arith, c.in_default.ensures.cases.0, l.open.ok.0))) in
    let rest : in_order c.pop.new.self.items ≡ [] = none_held c.pop.new.self.items (nil_from_length c.pop.new.self.items (omega (arith, c.in_default.ensures.cases.1, c.pop.new.self.ok.0))) in
    ended_there c.args.types.now c.args.rules.now (sequent_of c.args.sequent) l.index (in_order l.open.items) c.reversed-closed.result l.invariant.reached none c.loop-index-test.true c.reversed-closed.ensures.done (c.reversed-closed.ensures.left ∙ rest ∙ sym none)

pub returns-in-Err-NoInstance : goal.returns-in-Err-NoInstance
returns-in-Err-NoInstance c =
    let l = c.loop-index in
    stopped_there c.args.types.now c.args.rules.now (sequent_of c.args.sequent) l.index c.index-rules-index.result c.index-rules-index.is c.loop-index-test.true l.open.items c.pop.new.self.items c.in-Some.first c.in-Some.ensures.items
    l.invariant.reached (c.in-Err-NoInstance.ensures.no_instance (ap (λ e. Err e) c.in-Err-NoInstance.field-0-is)) (sequent_of c.in_ok-before.before) c.in_ok-before.ensures c.stopped.result c.stopped.ensures.done c.stopped.ensures.left

pub loop-index-preserved : goal.loop-index-preserved
loop-index-preserved c =
    let l = c.loop-index in
    let stands : Stands c.args.types.now c.args.rules.now (sequent_of c.args.sequent) l.index l.open.items = record { reached = l.invariant.reached; type = l.invariant.type; within = l.invariant.within } in
    let next = advanced c.args.types.now c.args.rules.now (sequent_of c.args.sequent) l.index c.index-rules-index.result c.index-rules-index.is c.loop-index-test.true l.open.items c.pop.new.self.items c.in-Some.first c.in-Some.ensures.items stands c.in-Ok.news.items c.put_first.new.open.items c.in-Ok.ensures.value c.in_ok-put_first-in-Ok.ensures in
    record { reached = next.reached; type = next.type; within = next.within }

pub returns : goal.returns
returns c =
    let l = c.loop-index in
    done_there c.args.types.now c.args.rules.now (sequent_of c.args.sequent) l.index (in_order l.open.items) c.reversed-whole.result l.invariant.reached c.loop-index-test.false c.reversed-whole.ensures.done c.reversed-whole.ensures.left
