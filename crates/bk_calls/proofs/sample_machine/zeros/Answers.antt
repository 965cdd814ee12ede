use Rattle.std.proofs.Common.{◌≡◌, ◌∙◌, ap, ◌-◌, codes, string_bytes, arith}
use Rattle.bk_calls.specs.Sample as texts
use Rattle.bk_calls.proofs.SampleLists.{list_next}
use Rattle.bk_calls.proofs.sample_machine.zeros.Goals as goal
use Rattle.bk_calls.proofs.sample_machine.zeros.Goals.{else-loop-i-test, then-loop-i-test+in_ok-write+else-i-n}

pub loop-i-preserved : goal.loop-i-preserved
loop-i-preserved c = record {
  written =
      list_next texts.zero_value (codes ", ") c.separator.result.now (string_bytes c.loop-i.list) _ c.loop-i.i _ (omega arith) (omega arith)
      c.separator.ensures.first c.separator.ensures.other c.loop-i.invariant.written c.in_ok-write.ensures.bytes;
  within = omega arith;
}

pub returns : goal.returns
returns c = elim c.loop-i-test.branch [
  | else-loop-i-test w ↦
      let e : c.loop-i.i - 1 ≡ c.args.n = omega arith in
      ap string_bytes w.list-is ∙ c.loop-i.invariant.written ∙ ap (λ k. texts.list texts.zero_value (codes ", ") k) e
  | then-loop-i-test+in_ok-write+else-i-n w ↦
      ap string_bytes w.list-is ∙ list_next texts.zero_value (codes ", ") w.separator.result.now (string_bytes c.loop-i.list) _ c.loop-i.i _ (omega arith) (omega arith)
      w.separator.ensures.first w.separator.ensures.other c.loop-i.invariant.written w.in_ok-write.ensures.bytes
]
