use Rattle.std.proofs.Common.{All, take}
use Rattle.bk_p_proof.specs.Files.{IsShort}
use Rattle.bk_p_proof.proofs.files.are_short.Given as goal

abbrev pub invariant-loop-script : goal.invariant-loop-script
invariant-loop-script l = All IsShort (take l.script-index l.scripts)
