use Rattle.std.proofs.Common.{◌≡◌, ◌++◌}
use Rattle.std.specs.List.{flat_map}
use Rattle.std.specs.Vec.Iter.{into_iter_items}
use Rattle.bk_p_proof.proofs.files.joined.Given as goal

abbrev pub invariant-loop-file : goal.invariant-loop-file
invariant-loop-file l = l.all.items ++ flat_map (λ f. f.scripts.items) (into_iter_items l.file-iterator) ≡ flat_map (λ f. f.scripts.items) l.fn.read.items
