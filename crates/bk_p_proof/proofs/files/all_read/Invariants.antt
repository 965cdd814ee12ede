use Rattle.std.proofs.Common.{map, take}
use Rattle.std.specs.List.{AllZip}
use Rattle.bk_p_proof.specs.Stages.{IsKeptOf}
use Rattle.bk_p_proof.proofs.files.all_read.Given as goal

abbrev pub invariant-loop-file : goal.invariant-loop-file
invariant-loop-file l = AllZip IsKeptOf (take l.file (map (λ t. t.items) l.texts)) l.all.items
