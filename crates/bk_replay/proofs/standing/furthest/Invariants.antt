use Rattle.std.proofs.Common.{[], ◌∷◌, take}
use Rattle.bk_seq.specs.Sequents.{sequent_of, Types, IsWithin}
use Rattle.bk_form.specs.Each.{Each}
use Rattle.bk_kernel.specs.Derivations.{Leaves}
use Rattle.bk_kernel.specs.Standing.{in_order}
use Rattle.bk_replay.proofs.standing.furthest.Given as goal

abbrev pub invariant-loop-index : goal.invariant-loop-index
invariant-loop-index l = record {
  reached : Leaves l.types (sequent_of l.fn.sequent ∷ []) (take l.index l.rules) (in_order l.open.items);
  type : Each (Types l.types) (in_order l.open.items);
  within : Each IsWithin (in_order l.open.items);
}
