-- What a player is seen as: the machine that it runs.
use Rattle.bk_vm.specs.State.{State}
use Rattle.bk_verbs.specs.declared.player.Runner.{Runner}
use Rattle.bk_verbs.specs.declared.player.Runner.TheVariants.{Project, Image}

-- the machine, whatever its code was made from
abbrev pub running : Runner → State
running (Project session) = session
running (Image machine) = machine
