use Rattle.std.proofs.Common.{◌≡◌, ◌++◌, length, take}
use Rattle.std.specs.Int.{w16}
use Rattle.std.specs.List.{flat_map}
use Rattle.bk_image.specs.Spelling.{number, parameter}
use Rattle.bk_image.proofs.writing.put_parameters.Given as goal

abbrev pub invariant-loop-parameter : goal.invariant-loop-parameter
invariant-loop-parameter l = l.out.items ≡ l.fn.out.items ++ (number w16 (length l.parameters) ++ flat_map parameter (take l.parameter-index l.parameters))
