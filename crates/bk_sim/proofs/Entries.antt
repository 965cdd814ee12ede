-- The entries of the operations.
use Rattle.std.proofs.Common.{◌≡◌, ◌<◌, ℕ, zero, suc, ◌+◌, List, [], ◌∷◌, length, map, refl, arith, Some}
use Rattle.std.specs.Prelude.{slice_index_or, slice_get}
use Rattle.bk_dev.specs.Development.{Head, Body, Development, blank_body}
use Rattle.bk_code.specs.declared.image.Image.{Image}
use Rattle.bk_code.specs.declared.image.OpEntry.{OpEntry}
use Rattle.bk_b0.specs.Translation.{parameter_of, operation_code, entries, operations_code}
use Rattle.bk_sim.specs.Placed.{Stands}
use Rattle.bk_sim.proofs.Steps.{stands-first, stands-second}
use Rattle.bk_dev.proofs.InTable.{blank_head}

abbrev pub entry_of : Development → ℕ → Head → Body → OpEntry
entry_of dev place h b = record { name = h.name; start = place; inputs = map (parameter_of dev) h.inputs; outputs = map (parameter_of dev) b.outputs }

pub record IsEntered (dev : Development) (image : Image) (place : ℕ) (hs : List Head) (bs : List Body) (o : ℕ) : Type 0 where
  pub start : ℕ
  pub is : slice_get (entries dev place hs bs) o ≡ Some (entry_of dev start (slice_index_or hs o blank_head) (slice_index_or bs o blank_body))
  pub stands : Stands image start (operation_code dev (slice_index_or bs o blank_body))

pub entered : (dev : Development) (image : Image) (place : ℕ) (hs : List Head) (bs : List Body) (o : ℕ) → Stands image place (operations_code dev bs) → o < length hs → length hs ≡ length bs → IsEntered dev image place hs bs o
entered dev image place [] bs o stands low many = absurd (omega arith)
entered dev image place (h ∷ hs) [] o stands low many = absurd (omega (arith, many))
entered dev image place (h ∷ hs) (b ∷ bs) zero stands low many = record { start = place; is = refl; stands = stands-first image place (operation_code dev b) (operations_code dev bs) stands }
entered dev image place (h ∷ hs) (b ∷ bs) (suc o) stands low many =
    let rest = entered dev image (place + length (operation_code dev b)) hs bs o (stands-second image place (operation_code dev b) (operations_code dev bs) stands) (omega arith) (omega (arith, many)) in
    record { start = rest.start; is = rest.is; stands = rest.stands }
