use Rattle.std.proofs.Common.{◌∙◌, sym, ap, ◌++◌, ◌∷◌, [], true≢false}
use Rattle.bk_scripts.proofs.Sighted.{constant_here, constant_past}
use Rattle.bk_scripts.proofs.sight.constants.Goals.{then-is_constant+in_ok-number+in_ok-push, else-is_constant}
use Rattle.bk_scripts.proofs.sight.constants.Goals as goal

pub loop-index-preserved : goal.loop-index-preserved
loop-index-preserved c =
    let hs = c.args.homes.now in
    let i = c.loop-index.index in
    elim c.if-is_constant.branch [
      | then-is_constant+in_ok-number+in_ok-push w ↦
          ap (λ v. v.items) w.constants-is ∙ (w.in_ok-push.ensures.items ∙ ((λ j. c.loop-index.invariant j ++ w.in_ok-number.ensures j ∷ []) ∙ sym (constant_here hs i _ c.loop-index-test.true (c.is_constant.ensures.0 w.if-is_constant.true))))
      | else-is_constant w ↦
          ap (λ v. v.items) w.constants-is ∙ (c.loop-index.invariant ∙ sym (constant_past hs i _ c.loop-index-test.true (λ k. true≢false (sym (c.is_constant.ensures.1 k) ∙ w.if-is_constant.false))))
    ]
