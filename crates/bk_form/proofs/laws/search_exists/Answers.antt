use Rattle.bk_form.proofs.Searching.{search-exists}
use Rattle.bk_form.proofs.laws.search_exists.Goals as goal

pub returns : goal.returns
returns c = search-exists
