use Rattle.std.proofs.Common.{sym}
use Rattle.clap.specs.Walk.{texts}
use Rattle.bk_cli.proofs.Getters.{no_verb, no_fuel, read_right}
use Rattle.bk_cli.proofs.Reading.{on_each}
use Rattle.bk_cli.proofs.words.read_words.Goals as goal

pub returns-in_err-verb-clause-refused : goal.returns-in_err-verb-clause-refused
returns-in_err-verb-clause-refused c =
    on_each c.from_residual-in_err-verb.result _ (λ fault e. no_verb _ c.in_ok-matches.matches c.in_ok-matches.ensures.rows c.in_err-verb.ensures.none)

pub returns-in_err-fuel-clause-refused : goal.returns-in_err-fuel-clause-refused
returns-in_err-fuel-clause-refused c =
    on_each c.from_residual-in_err-fuel.result _ (λ fault e. no_fuel _ c.in_ok-matches.matches c.in_ok-matches.ensures.rows c.in_err-fuel.ensures.none)

pub returns-clause-read : goal.returns-clause-read
returns-clause-read c =
    read_right _ c.in_ok-matches.matches c.in_ok-matches.ensures.rows c.in_ok-verb.verb.now c.in_ok-fuel.fuel.now (texts c.in_ok-files.files.items) c.in_ok-matches.ensures.taken
    (sym c.in_ok-verb.ensures.value)
    (sym c.in_ok-fuel.ensures.value)
    c.in_ok-files.ensures
