use Rattle.std.proofs.Common.{take}
use Rattle.std.specs.List.{AllZip}
use Rattle.bk_scripts.specs.Parts.{TermMeans}
use Rattle.bk_scripts.specs.Reading.{around_of}
use Rattle.bk_scripts.proofs.around.Around.terms.Given as goal

abbrev pub invariant-loop-term : goal.invariant-loop-term
invariant-loop-term l = AllZip (TermMeans (around_of l.self)) (take l.term-index l.terms) l.forms.items
