use Rattle.std.proofs.Common.{◌≡◌, ℕ, ◌<◌}
use Rattle.std.specs.List.{remove}
use Rattle.bk_seq.specs.Sequents.{sequent_of}
use Rattle.bk_kernel.specs.Derivations.{Derives}
use Rattle.bk_prune.proofs.needs.spare_among.Given as goal

abbrev pub invariant-loop-index : goal.invariant-loop-index
invariant-loop-index l = record {
  same : l.rules.items ≡ l.fn.rules.items;
  none : (k : ℕ) → k < l.index → Derives l.table (remove l.fn.rules.items k) (sequent_of l.sequent) → ⊥;
}
