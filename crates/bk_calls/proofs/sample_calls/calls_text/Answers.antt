use Rattle.std.proofs.Common.{◌≡◌, ◌∙◌, ap, ◌-◌, ◌++◌, string_bytes, arith}
use Rattle.std.specs.List.{flat_map}
use Rattle.bk_calls.specs.Sample as texts
use Rattle.bk_calls.specs.Sample.{calls_text}
use Rattle.bk_calls.proofs.SampleLists.{each_next}
use Rattle.bk_calls.proofs.sample_calls.calls_text.Goals as goal
use Rattle.bk_calls.proofs.sample_calls.calls_text.Goals.{else-loop-i-test, then-loop-i-test+in_ok-calls_of+in_ok-push_str+else-i-n}

pub loop-i-preserved : goal.loop-i-preserved
loop-i-preserved c = record {
  written = each_next texts.calls_of (string_bytes c.loop-i.text) _ c.loop-i.i _ (omega arith) (omega arith) c.loop-i.invariant.written (c.in_ok-push_str.ensures.bytes ∙ ap (λ t. string_bytes c.loop-i.text ++ t) (c.deref.ensures ∙ c.in_ok-calls_of.ensures));
  within = omega arith;
}

pub returns : goal.returns
unfolding calls_text
returns c = elim c.loop-i-test.branch [
  | else-loop-i-test w ↦
      let e : c.loop-i.i - 1 ≡ c.args.n = omega arith in
      ap string_bytes w.text-is ∙ c.loop-i.invariant.written ∙ ap (λ k. flat_map texts.calls_of (texts.numbers k)) e
  | then-loop-i-test+in_ok-calls_of+in_ok-push_str+else-i-n w ↦
      ap string_bytes w.text-is ∙ each_next texts.calls_of (string_bytes c.loop-i.text) _ c.loop-i.i _ (omega arith) (omega arith) c.loop-i.invariant.written (w.in_ok-push_str.ensures.bytes ∙ ap (λ t. string_bytes c.loop-i.text ++ t) (w.deref.ensures ∙ w.in_ok-calls_of.ensures))
]
