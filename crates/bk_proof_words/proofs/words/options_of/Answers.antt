use Rattle.clap.specs.Walk.{rows_of}
use Rattle.clap.specs.Matches.{found_of}
use Rattle.bk_proof_words.specs.Tasks.{chosen_in}
use Rattle.bk_proof_words.proofs.Getters.{chosen_is}
use Rattle.bk_proof_words.proofs.words.options_of.Goals as goal

pub returns : goal.returns
returns c = chosen_is _ (chosen_in (rows_of (found_of c.args.matches.now))) c.value_of.ensures c.has_flag.ensures c.has_flag-2.ensures c.has_flag-3.ensures c.has_flag-4.ensures
