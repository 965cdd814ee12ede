use Rattle.std.proofs.Common.{◌≡◌, Bool, true, sym, ◌∙◌}
use Rattle.bk_prune.specs.Pruned.{NeedsEachRule, IsFinished}
use Rattle.std.proofs.lemmas.Result.{IfOk-weaker}
use Rattle.bk_prune.proofs.needs.is_finished.Goals as goal

pub returns-then-does : goal.returns-then-does
returns-then-does c =
    let dev = c.args.proved.dev.now in
    let list = c.args.proved.list.now in
    let script = c.args.script.now in
    let proved = c.in_ok-does.ensures.right c.if-does.true in
    record {
      right = IfOk-weaker c.needs_each.result (λ (n : Bool). n ≡ true → NeedsEachRule dev list script) (λ (n : Bool). n ≡ true → IsFinished dev list script) (λ n h yes. record { proves = proved; needs = h yes }) c.needs_each.ensures.right;
      whole = IfOk-weaker c.needs_each.result (λ (n : Bool). NeedsEachRule dev list script → n ≡ true) (λ (n : Bool). IsFinished dev list script → n ≡ true) (λ n h finished. h finished.needs) c.needs_each.ensures.whole;
    }

pub returns-clause-whole : goal.returns-clause-whole
returns-clause-whole c = λ finished. sym c.if-does.false ∙ c.in_ok-does.ensures.whole finished.proves
