use Rattle.std.proofs.Common.{◌≢◌, map, take}
use Rattle.std.specs.List.{AllPairs}
use Rattle.bk_p_proof.specs.Keys.{HasKeys}
use Rattle.bk_p_proof.proofs.FileSteps.{all_names}
use Rattle.bk_p_proof.proofs.files.all_differ.Given as goal

abbrev pub invariant-loop-file : goal.invariant-loop-file
invariant-loop-file l = record {
  keys : HasKeys (all_names (take l.file l.fn.read)) (map (λ key. key.items) l.names.keys.keys);
  differ : AllPairs (λ a b. a ≢ b) (all_names (take l.file l.fn.read));
}
