use Rattle.std.proofs.Common.{◌≡◌, map, Global}
use Rattle.std.specs.Prelude.{string_bytes}
use Rattle.clap.specs.Walk.{texts}
use Rattle.bk_cli.specs.declared.words.WordsFault.TheVariants.{Refused}
use Rattle.bk_cli.specs.Tasks.{AskForNothing}
use Rattle.bk_cli.specs.Asked.{task_of}
use Rattle.bk_cli.proofs.Asking.{refused_words, no_task, asks_for}
use Rattle.bk_cli.proofs.Reading.{handed_on}
use Rattle.bk_cli.proofs.task.asked.Goals as goal

pub returns-in_err-words-clause-nothing : goal.returns-in_err-words-clause-nothing
returns-in_err-words-clause-nothing c =
    handed_on c.from_residual.result c.in_err-words.field-0.0
    (λ fault. fault ≡ Refused → AskForNothing (map (string_bytes {Z = Global}) c.args.given.now))
    c.from_residual.ensures.1
    (λ e. refused_words (map (string_bytes {Z = Global}) c.args.given.now) (c.in_err-words.ensures.refused e))

pub returns-in-Some-clause-asked : goal.returns-in-Some-clause-asked
returns-in-Some-clause-asked c =
    asks_for (map (string_bytes {Z = Global}) c.args.given.now) c.in_ok-words.words.verb.now (texts c.in_ok-words.words.files.items) c.in_ok-words.words.fuel.now (task_of c.in-Some.command) c.in_ok-words.ensures.read c.in-Some.ensures.meant

pub returns-clause-nothing : goal.returns-clause-nothing
returns-clause-nothing c e =
    no_task (map (string_bytes {Z = Global}) c.args.given.now) c.in_ok-words.words.verb.now (texts c.in_ok-words.words.files.items) c.in_ok-words.words.fuel.now c.in_ok-words.ensures.read c.in-None.ensures.meant
