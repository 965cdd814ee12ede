use Rattle.bk_form.proofs.Truth.{independent}
use Rattle.bk_form.proofs.laws.search_is_free.Goals as goal

pub returns : goal.returns
returns c = independent
