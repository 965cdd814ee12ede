use Rattle.std.proofs.Common.{arith, ◌≡◌, ◌-◌, length, take, drop, ◌∙◌}
use Rattle.std.proofs.lemmas.List.{take_all, length-drop}
use Rattle.bk_verbs.proofs.LastLines.{last_byte, found_end, no_end}
use Rattle.bk_verbs.proofs.sample.last_line.Goals as goal
use Rattle.bk_verbs.proofs.sample.last_line.Goals.{then-loop-start-test+else-text-start-ne10, else-loop-start-test}

pub loop-start-init : goal.loop-start-init
loop-start-init c = (
  omega (arith, c.saturating_sub-start.ensures),
  last_byte c.args.text.now c.saturating_sub-start.result (omega (arith, c.saturating_sub-start.ensures)),
)

pub returns : goal.returns
returns c =
    let text = c.args.text.now in
    let start = c.loop-start.start in
    let rest : take (length text - start) (drop start text) ≡ drop start text = take_all (length text - start) (drop start text) (omega (arith, length-drop start text)) in
    rest ∙ elim c.loop-start-test.branch [
      | then-loop-start-test+else-text-start-ne10 w ↦
          found_end text start (omega (arith, w.loop-start-test.true)) (omega (arith, w.loop-start-test.true, c.loop-start.invariant.0)) w.if-text-start-ne10.false c.loop-start.invariant.1
      | else-loop-start-test w ↦ no_end text start (omega (arith, w.loop-start-test.false)) c.loop-start.invariant.1
    ]
