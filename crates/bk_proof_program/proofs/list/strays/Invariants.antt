use Rattle.std.proofs.Common.{◌≡◌, map, take}
use Rattle.bk_proof_program.specs.Told.{stray_names}
use Rattle.bk_proof_program.proofs.list.strays.Given as goal

abbrev pub invariant-loop-script : goal.invariant-loop-script
invariant-loop-script l = map (λ s. s.name) l.strays.items ≡ stray_names l.whole.list.items (take l.script-index l.scripts)
