use Rattle.std.proofs.Common.{◌<◌, sym, subst}
use Rattle.std.proofs.lemmas.Result.{on_ok_weaker}
use Rattle.bk_image.specs.Progress.{progress, IsProgress}
use Rattle.bk_image.proofs.Following.{flowed_still_progress}
use Rattle.bk_image.proofs.depths.Depths.start.Goals as goal

pub returns-clause-progress : goal.returns-clause-progress
returns-clause-progress c =
    on_ok_weaker c.flow.result (λ e image limit h known. subst (IsProgress image limit) (sym e)
    (flowed_still_progress image limit (progress c.args.self.now) c.args.at h (let long = h.long in subst (λ n. c.args.at < n) long c.requires) known)) c.flow.ensures
