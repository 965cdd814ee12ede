use Rattle.std.proofs.Common.{◌≢◌, List, map}
use Rattle.std.specs.List.{AllPairs}
use Rattle.bk_raw.specs.declared.script.NamePart.{NamePart}
use Rattle.bk_p_proof.specs.Keys.{HasKeys}
use Rattle.bk_p_proof.proofs.NameKeys.{TakenIn}
use Rattle.bk_p_proof.proofs.differing.ScriptNames.twice.Given as goal

abbrev pub invariant-loop-script : goal.invariant-loop-script
invariant-loop-script l =
    (names : List (List NamePart)) → HasKeys names (map (λ key. key.items) l.fn.self.keys.keys) → AllPairs (λ a b. a ≢ b) names → TakenIn (λ key. key.items) names l.scripts l.script-index l.self.keys.keys
