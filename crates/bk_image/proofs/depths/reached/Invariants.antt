use Rattle.std.proofs.Common.{◌≡◌, ◌<◌, ℕ, length, true, false}
use Rattle.std.specs.Prelude.{slice_index_or}
use Rattle.bk_code.specs.Checks.{Passes}
use Rattle.bk_image.proofs.depths.reached.Given as goal

abbrev pub invariant-loop-at : goal.invariant-loop-at
invariant-loop-at l = record {
  long : length l.reached.items ≡ length l.image.code;
  some : (to : ℕ) → slice_index_or l.reached.items to false ≡ true → (from : ℕ) × Passes l.image from to;
  all : (from to : ℕ) → from < l.at → Passes l.image from to → slice_index_or l.reached.items to false ≡ true;
}
