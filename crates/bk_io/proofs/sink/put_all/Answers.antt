use Rattle.std.proofs.Common.{◌∙◌, ap, subst, take, drop, arith}
use Rattle.std.proofs.Math.Nat.{le_trans}
use Rattle.std.proofs.lemmas.List.{take_rest}
use Rattle.bk_io.specs.Pieces.{IsTaken, written_with, taken_of, pieces_with}
use Rattle.bk_io.proofs.Written.{written_on, put_more}
use Rattle.bk_io.proofs.sink.put_all.Goals as goal

pub loop-done-preserved : goal.loop-done-preserved
loop-done-preserved g c =
    let written = g.K.Sink.written in
    let done = c.loop-done.done in
    let count = c.in_ok-done.field-0 in
    let text = c.args.text.now in
    record {
      within = grind arith;
      written = c.in_ok-done.ensures.ok ∙ ap (λ rest. written_with (written c.loop-done.sink) (take count rest)) (take_rest text done) ∙ ap (λ told. written_with told (take count (drop done text))) c.loop-done.invariant.written ∙ written_on (written c.args.sink.now) text done count;
      put = put_more text done count (g.K.Sink.pieces c.args.sink.now) (g.K.Sink.pieces c.loop-done.sink) (g.K.Sink.pieces c.put.new.self) c.loop-done.invariant.put (subst (λ rest. IsTaken rest count) (take_rest text done) c.in_ok-done.ensures.taken) (c.in_ok-done.ensures.told ∙ ap (λ rest. pieces_with (g.K.Sink.pieces c.loop-done.sink) (taken_of rest count)) (take_rest text done));
      later = le_trans c.loop-done.invariant.later c.in_ok-done.ensures.failed.later;
    }
