use Rattle.std.proofs.Common.{All, take}
use Rattle.bk_p_proof.specs.TypedNames.{AreOfOneType, script_names}
use Rattle.bk_p_proof.proofs.second.second_type.Given as goal

abbrev pub invariant-loop-script : goal.invariant-loop-script
invariant-loop-script l = All (λ s. AreOfOneType (script_names s)) (take l.script-index l.scripts)
