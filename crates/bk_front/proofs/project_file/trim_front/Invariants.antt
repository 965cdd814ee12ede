use Rattle.std.proofs.Common.{◌≡◌, length}
use Rattle.bk_front.specs.Trims.{trim_front}
use Rattle.bk_front.proofs.project_file.trim_front.Given as goal

abbrev pub invariant-loop-rest : goal.invariant-loop-rest
invariant-loop-rest l = trim_front l.rest ≡ trim_front l.text

abbrev pub decreases-loop-rest : goal.decreases-loop-rest
decreases-loop-rest l = length l.rest
