use Rattle.std.proofs.Common.{◌≡◌, ◌<◌, ◌^◌, drop}
use Rattle.bk_lex.specs.Lexis.{numeral_from}
use Rattle.bk_calls.proofs.argument.numeral.Given as goal

abbrev pub invariant-loop-digit : goal.invariant-loop-digit
invariant-loop-digit l = (numeral_from l.number (drop l.digit-index l.digits) ≡ numeral_from 0 l.digits) × (l.number < 2 ^ 64)
