use Rattle.bk_cli.proofs.Asking.{ask_for_one}
use Rattle.bk_cli.proofs.laws.words_ask_for_one_task.Goals as goal

pub returns : goal.returns
returns c = ask_for_one
