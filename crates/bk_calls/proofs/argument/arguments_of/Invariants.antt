use Rattle.std.proofs.Common.{◌≡◌, length, map}
use Rattle.std.specs.Option.{option_copied}
use Rattle.bk_calls.specs.Held.{held}
use Rattle.bk_calls.specs.Reading.{arguments_in, pieces, pieces_left}
use Rattle.bk_calls.proofs.Holding.{all_kept, behind_those}
use Rattle.bk_calls.proofs.argument.arguments_of.Given as goal

abbrev pub invariant-loop-rest : goal.invariant-loop-rest
invariant-loop-rest l = behind_those (map held l.arguments.items) (all_kept (arguments_in (pieces_left (option_copied l.rest)))) ≡ all_kept (arguments_in (pieces l.fn.inside))

abbrev pub decreases-loop-rest : goal.decreases-loop-rest
decreases-loop-rest l = length (pieces_left (option_copied l.rest))
