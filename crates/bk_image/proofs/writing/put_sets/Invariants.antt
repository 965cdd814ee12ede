use Rattle.std.proofs.Common.{◌≡◌, ◌++◌, length, take}
use Rattle.std.specs.Int.{w16}
use Rattle.std.specs.List.{flat_map}
use Rattle.bk_image.specs.Spelling.{number, set}
use Rattle.bk_image.proofs.writing.put_sets.Given as goal

abbrev pub invariant-loop-names : goal.invariant-loop-names
invariant-loop-names l = l.out.items ≡ l.fn.out.items ++ (number w16 (length l.sets) ++ flat_map set (take l.names-index l.sets))
