use Rattle.bk_code.proofs.Runs.{never_stuck, keeps_fitting, has_some_end}
use Rattle.bk_code.proofs.Sessions.{first_fitting, call_fitting, some_session}
use Rattle.bk_code.proofs.laws.checked_images_are_safe.Goals as goal

pub returns : goal.returns
returns c = record { never_stuck = never_stuck; keeps = keeps_fitting; first_start = first_fitting; call_start = call_fitting; end = has_some_end; session = some_session }
