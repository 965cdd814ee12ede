-- Code of the counter whose setmax stores a number.
use Rattle.std.specs.Prelude.{ℕ, pos, List, [], ◌∷◌}
use Rattle.bk_dev.specs.Counter.{reset_name, setmax_name, get_name}
use Rattle.bk_code.specs.declared.image.Image.{Image}
use Rattle.bk_code.specs.declared.image.OpEntry.{OpEntry}
use Rattle.bk_code.specs.declared.image.Parameter.{Parameter}
use Rattle.bk_code.specs.declared.image.CellKind.TheVariants.{Integer}
use Rattle.bk_code.specs.declared.instruction.Inst.{Inst}
use Rattle.bk_code.specs.declared.instruction.Inst.TheVariants.{Push, Load, Store, Ret}
use Rattle.bk_dev.specs.Development.{default_max}

-- an operation without inputs
abbrev pub entry_at : List ℕ → ℕ → List Parameter → OpEntry
entry_at name place outputs = record { name = name; start = place; inputs = []; outputs = outputs }

-- reset, whose code begins at place 3
abbrev pub reset_entry : OpEntry
reset_entry = entry_at reset_name 3 []

-- setmax, whose code begins at place 6
abbrev pub setmax_entry : OpEntry
setmax_entry = entry_at setmax_name 6 []

-- get, whose code begins at place 9; its output is in cell 1
abbrev pub get_entry : OpEntry
get_entry = entry_at get_name 9 (record { kind = Integer; slot = 1 } ∷ [])

-- push a number, store it in cell 0, return
abbrev pub storing : ℕ → List Inst → List Inst
storing n rest = Push (pos n) ∷ Store 0 ∷ Ret ∷ rest

-- setmax stores this number; n of the implementation is in cell 0, and the output of get in cell 1
abbrev pub counter_code : ℕ → Image
counter_code n = record {
  max = default_max;
  cells = 2;
  sets = [];
  ops = reset_entry ∷ setmax_entry ∷ get_entry ∷ [];
  code = storing 0 (storing 0 (storing n (Load 0 ∷ Store 1 ∷ Ret ∷ [])));
}
