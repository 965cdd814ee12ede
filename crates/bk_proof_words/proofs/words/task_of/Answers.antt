use Rattle.std.proofs.Common.{sym, ◌∙◌, ap, codes}
use Rattle.clap.specs.Walk.{rows_of, texts}
use Rattle.clap.specs.Matches.{found_of}
use Rattle.bk_proof_words.specs.Tasks.{chosen_by}
use Rattle.bk_proof_words.proofs.Getters.{all_are, found_task, no_verb}
use Rattle.bk_proof_words.proofs.words.task_of.Goals as goal

pub returns-in_default : goal.returns-in_default
returns-in_default c =
    no_verb (rows_of (found_of c.args.matches.now)) (sym c.has_flag.ensures ∙ c.if-has_flag.false) (sym c.has_flag-2.ensures ∙ c.if-has_flag-2.false) c.in_default.ensures

pub returns : goal.returns
returns c =
    found_task (rows_of (found_of c.args.matches.now)) c.in-Some.verb.now (texts c.deref.result.now) (chosen_by c.options_of-options.result) c.verb_task.result
    (sym c.has_flag.ensures ∙ c.if-has_flag.false) (sym c.has_flag-2.ensures ∙ c.if-has_flag-2.false) c.in-Some.ensures
    (ap texts c.deref.ensures.value ∙ all_are c.args.matches.now (codes "FILE") (texts c.in_ok-files.files.items) c.in_ok-files.ensures)
    c.options_of-options.ensures c.verb_task.ensures
