use Rattle.std.proofs.Common.{map, take}
use Rattle.std.specs.List.{AllZip}
use Rattle.bk_p_proof.specs.Stages.{IsProofFileAs}
use Rattle.bk_p_proof.proofs.files.all_short.Given as goal

abbrev pub invariant-loop-file : goal.invariant-loop-file
invariant-loop-file l = AllZip IsProofFileAs (take l.file (map (λ t. t.items) l.fn.texts)) (take l.file l.fn.read)
