use Rattle.std.proofs.Common.{◌∙◌, ap, sym, ℕ, List}
use Rattle.bk_gsl.specs.State.{among}
use Rattle.bk_statics.specs.SubFaults.{with_target}
use Rattle.bk_scope.specs.declared.sight.Target.{Target}
use Rattle.bk_scope.specs.Shown.{target_shown}
use Rattle.bk_scope.proofs.FaultNames.{among-push}
use Rattle.bk_check_subs.proofs.left.push_target.Goals as goal

pub returns-in_ok-push : goal.returns-in_ok-push
returns-in_ok-push c = λ n.
    ap (λ (l : List ℕ). among l n) c.in_ok-push.ensures.items
    ∙ (among-push c.args.found.now.items c.in-Variable.variable n ∙ ap (λ (t : Target). among (with_target (target_shown t) c.args.found.now.items) n) (sym c.in-Variable.is))
