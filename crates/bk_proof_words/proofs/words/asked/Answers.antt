use Rattle.std.proofs.Common.{◌≡◌, map, sym, subst, MatchOption, Global}
use Rattle.std.specs.Prelude.{string_bytes}
use Rattle.clap.specs.Walk.{rows_of}
use Rattle.clap.specs.Matches.{found_of}
use Rattle.bk_cli.specs.declared.words.WordsFault.TheVariants.{Refused}
use Rattle.bk_proof_words.specs.Tasks.{AskForNothing, IsTaskOf}
use Rattle.bk_proof_words.specs.declared.task.Task.{Task}
use Rattle.bk_proof_words.proofs.Reading.{handed_on}
use Rattle.bk_proof_words.proofs.words.asked.Goals as goal

pub returns-in_err-matches-clause-nothing : goal.returns-in_err-matches-clause-nothing
returns-in_err-matches-clause-nothing c =
    handed_on c.from_residual.result c.in_err-matches.field-0.0
    (λ fault. fault ≡ Refused → AskForNothing (map (string_bytes {Z = Global}) c.args.given.now))
    c.from_residual.ensures.1
    (λ e task asks. c.in_err-matches.ensures.refused e asks.0)

pub returns-in-Some-clause-asked : goal.returns-in-Some-clause-asked
returns-in-Some-clause-asked c =
    let rows = rows_of (found_of c.in_ok-matches.matches) in
    let asked : IsTaskOf rows c.in-Some.task = subst (λ o. MatchOption o ((task : Task) → IsTaskOf rows task → ⊥) (IsTaskOf rows)) c.in-Some.is c.in_ok-found.ensures in
    (c.in_ok-matches.ensures.taken, subst (λ x. IsTaskOf x c.in-Some.task) c.in_ok-matches.ensures.rows asked)

pub returns-clause-nothing : goal.returns-clause-nothing
returns-clause-nothing c e task asks =
    let rows = rows_of (found_of c.in_ok-matches.matches) in
    let none : (task : Task) → IsTaskOf rows task → ⊥ = subst (λ o. MatchOption o ((task : Task) → IsTaskOf rows task → ⊥) (IsTaskOf rows)) c.in-None.is c.in_ok-found.ensures in
    none task (subst (λ x. IsTaskOf x task) (sym c.in_ok-matches.ensures.rows) asks.1)
