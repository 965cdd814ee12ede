use Rattle.std.proofs.Common.{◌≡◌, take, None}
use Rattle.bk_status.specs.States.{script_named}
use Rattle.bk_proof_program.proofs.project.script_with.Given as goal

-- none of those so far has the name
abbrev pub invariant-loop-number : goal.invariant-loop-number
invariant-loop-number l = script_named (take l.number l.list) l.name ≡ None
