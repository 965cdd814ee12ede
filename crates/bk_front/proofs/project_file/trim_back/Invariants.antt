use Rattle.std.proofs.Common.{◌≡◌, length}
use Rattle.bk_front.specs.Trims.{trim_back}
use Rattle.bk_front.proofs.project_file.trim_back.Given as goal

abbrev pub invariant-loop-rest : goal.invariant-loop-rest
invariant-loop-rest l = trim_back l.rest ≡ trim_back l.text

abbrev pub decreases-loop-rest : goal.decreases-loop-rest
decreases-loop-rest l = length l.rest
