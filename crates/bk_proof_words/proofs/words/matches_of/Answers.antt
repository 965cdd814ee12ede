use Rattle.std.proofs.Common.{◌∙◌}
use Rattle.clap.specs.Words.{app_of}
use Rattle.bk_proof_words.proofs.Reading.{taken_of, rows_are, refused_of}
use Rattle.bk_proof_words.proofs.words.matches_of.Goals as goal

pub returns-in-Ok-clause-taken : goal.returns-in-Ok-clause-taken
returns-in-Ok-clause-taken c =
    taken_of (app_of c.in_ok-command.command) c.in_ok-command.ensures _ c.try_get_matches_from.result c.try_get_matches_from.ensures.kinds c.in-Ok.matches c.in-Ok.is

pub returns-in-Ok-clause-rows : goal.returns-in-Ok-clause-rows
returns-in-Ok-clause-rows c =
    rows_are (app_of c.in_ok-command.command) c.in_ok-command.ensures _ c.try_get_matches_from.result c.try_get_matches_from.ensures.matches c.in-Ok.matches c.in-Ok.is

pub returns-in-Err-clause-refused : goal.returns-in-Err-clause-refused
returns-in-Err-clause-refused c e =
    refused_of (app_of c.in_ok-command.command) c.in_ok-command.ensures _ c.try_get_matches_from.result c.try_get_matches_from.ensures.kinds c.in-Err.error c.in-Err.is
    (λ k. c.words_fault.ensures e (c.kind.ensures ∙ k))
