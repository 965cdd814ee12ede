use Rattle.std.proofs.Common.{◌≡◌, ◌++◌, take}
use Rattle.std.specs.List.{flat_map}
use Rattle.bk_image.specs.Spelling.{inst}
use Rattle.bk_image.proofs.writing.put_code.Given as goal

abbrev pub invariant-loop-inst : goal.invariant-loop-inst
invariant-loop-inst l = l.out.items ≡ l.fn.out.items ++ (flat_map inst (take l.inst-index l.code))
