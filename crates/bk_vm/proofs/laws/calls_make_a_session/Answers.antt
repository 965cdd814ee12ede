use Rattle.bk_vm.proofs.Told.{starts_session, continues_session}
use Rattle.bk_vm.proofs.laws.calls_make_a_session.Goals as goal

pub returns : goal.returns
returns c = record { start = starts_session; call = continues_session }
