use Rattle.std.proofs.Common.{◌≡◌, None, take, All, option_copied}
use Rattle.bk_front.specs.Chain.{links}
use Rattle.bk_front.specs.Project.{IsChained}
use Rattle.bk_front.proofs.Steps.{last_item}
use Rattle.bk_front.proofs.reading.all_chained.Given as goal

abbrev pub invariant-loop-file : goal.invariant-loop-file
invariant-loop-file l = (option_copied l.above ≡ last_item None (take l.file l.fn.components)) × All IsChained (links None (take l.file l.fn.kinds) (take l.file l.fn.components))
