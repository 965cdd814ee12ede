use Rattle.std.proofs.Common.{◌≡◌, ◌++◌, length, take}
use Rattle.std.specs.Int.{w16}
use Rattle.std.specs.List.{flat_map}
use Rattle.bk_image.specs.Spelling.{number, text}
use Rattle.bk_image.proofs.writing.put_set.Given as goal

abbrev pub invariant-loop-name : goal.invariant-loop-name
invariant-loop-name l = l.out.items ≡ l.fn.out.items ++ (number w16 (length l.names) ++ flat_map text (take l.name-index l.names))
