use Rattle.std.proofs.Common.{ℕ, List, ◌++◌, ◌∙◌, ap}
use Rattle.bk_goal.proofs.Lines.{hypotheses_turn, hypotheses_all}
use Rattle.bk_goal.proofs.sequents.hypotheses_text.Goals as goal

pub loop-index-preserved : goal.loop-index-preserved
loop-index-preserved c =
    let l = c.loop-index in
    let written = c.in_ok-extend_from_slice.ensures.items ∙ ap (λ (xs : List ℕ). l.text.items ++ xs) c.deref.ensures.value in
    hypotheses_turn c.args.table.now c.args.old c.args.hyps.now l.index c.index-hyps-index.result l.text.items c.in_ok-line.line.items c.extend_from_slice.new.self.items c.loop-index-test.true c.index-hyps-index.is l.invariant c.in_ok-line.ensures written

pub returns : goal.returns
returns c = hypotheses_all c.args.table.now c.args.old c.args.hyps.now c.loop-index.index c.loop-index.text.items c.loop-index-test.false c.loop-index.invariant
