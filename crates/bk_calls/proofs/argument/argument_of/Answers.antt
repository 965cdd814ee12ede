use Rattle.std.proofs.Common.{sym, ◌∙◌, rules, w64}
use Rattle.std.specs.Prelude.{FitsSigned}
use Rattle.std.proofs.lemmas.Int.{to_z-of_z}
use Rattle.bk_calls.specs.Reading.{whole_number, word_argument}
use Rattle.bk_calls.proofs.Holding.{number_held}
use Rattle.bk_calls.proofs.argument.argument_of.Goals as goal

pub returns-in-Some : goal.returns-in-Some
returns-in-Some c =
    let fits : FitsSigned w64 c.in-Some.number = search rules in
    rw (to_z-of_z w64 c.in-Some.number fits) (number_held (whole_number c.args.text.now) (word_argument c.args.text.now) c.in-Some.number (sym c.in-Some.is ∙ c.whole_number.ensures))
