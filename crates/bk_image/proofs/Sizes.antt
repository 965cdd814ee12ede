-- How many bytes the parts of a spelling have.
use Rattle.std.proofs.Common.{◌≡◌, ℕ, ◌+◌, ◌*◌, ◌≤◌, List, [], ◌∷◌, ◌++◌, length, take, drop, refl, ap, ◌∙◌, sym, arith}
use Rattle.std.specs.Prelude.{ℤ}
use Rattle.std.specs.List.{flat_map}
use Rattle.std.specs.Int.{w16, w32, w64}
use Rattle.std.proofs.lemmas.List.{length-append, take-append-drop}
use Rattle.std.proofs.lemmas.List.Concat.{flat_map-append}
use Rattle.bk_code.specs.declared.image.Image.{Image}
use Rattle.bk_code.specs.declared.image.OpEntry.{OpEntry}
use Rattle.bk_code.specs.declared.image.Parameter.{Parameter}
use Rattle.bk_code.specs.declared.instruction.Inst.{Inst}
use Rattle.bk_code.specs.declared.instruction.Inst.TheVariants.{Push, Load, Store, ALoad, AStore, Jump, JumpZero}
use Rattle.bk_image.specs.declared.version.ImageVersion.{ImageVersion}
use Rattle.bk_image.specs.declared.version.ImageVersion.TheVariants.{First, Second}
use Rattle.bk_image.specs.Faults.{cells_place, sets_place, ops_place, count_place}
use Rattle.bk_image.specs.Spelling.{number, signed, text, set, sets, kind_number, parameter, parameters, entry, entries, array, inst, magic, version, header, laid_out}

pub two_bytes : (n : ℕ) → length (number w16 n) ≡ 2
unfolding number
two_bytes n = refl

pub four_bytes : (n : ℕ) → length (number w32 n) ≡ 4
unfolding number
four_bytes n = refl

pub four_signed : (n : ℤ) → length (signed w32 n) ≡ 4
unfolding signed
four_signed n = refl

pub eight_signed : (n : ℤ) → length (signed w64 n) ≡ 8
unfolding signed
eight_signed n = refl

pub text_size : (bytes : List ℕ) → length (text bytes) ≡ 2 + length bytes
unfolding text
text_size bytes = omega (arith, length-append (number w16 (length bytes)) bytes, two_bytes (length bytes))

pub parameter_size : (p : Parameter) → length (parameter p) ≡ 6
unfolding parameter
parameter_size p = omega (arith, length-append (number w16 (kind_number p.kind)) (number w32 p.slot), two_bytes (kind_number p.kind), four_bytes p.slot)

pub parameter_sizes : (ps : List Parameter) → length (flat_map parameter ps) ≡ 6 * length ps
parameter_sizes [] = refl
parameter_sizes (p ∷ ps) = omega (arith, length-append (parameter p) (flat_map parameter ps), parameter_size p, parameter_sizes ps)

pub parameters_size : (ps : List Parameter) → length (parameters ps) ≡ 2 + 6 * length ps
unfolding parameters
parameters_size ps = omega (arith, length-append (number w16 (length ps)) (flat_map parameter ps), two_bytes (length ps), parameter_sizes ps)

pub entry_size : (e : OpEntry) → length (entry e) ≡ length (text e.name) + 4 + length (parameters e.inputs) + length (parameters e.outputs)
unfolding entry
entry_size e =
    omega (
      arith,
      length-append (text e.name ++ number w32 e.start ++ parameters e.inputs) (parameters e.outputs),
      length-append (text e.name ++ number w32 e.start) (parameters e.inputs),
      length-append (text e.name) (number w32 e.start),
      four_bytes e.start,
    )

array_size : (base : ℕ) (low : ℤ) (count : ℕ) → length (array base low count) ≡ 16
unfolding array
array_size base low count =
    omega (arith, length-append (number w32 base ++ signed w64 low) (number w32 count), length-append (number w32 base) (signed w64 low), four_bytes base, four_bytes count, eight_signed low)

-- the number of bytes of an instruction
abbrev pub size_of : Inst → ℕ
size_of (Push n) = 9
size_of (Load slot) = 5
size_of (Store slot) = 5
size_of (ALoad base low count) = 17
size_of (AStore base low count) = 17
size_of (Jump distance) = 5
size_of (JumpZero distance) = 5
size_of _ = 1

pub inst_size : (i : Inst) → length (inst i) ≡ size_of i
unfolding inst
inst_size (Push n) = omega (arith, eight_signed n)
inst_size (Load slot) = omega (arith, four_bytes slot)
inst_size (Store slot) = omega (arith, four_bytes slot)
inst_size (ALoad base low count) = omega (arith, array_size base low count)
inst_size (AStore base low count) = omega (arith, array_size base low count)
inst_size (Jump distance) = omega (arith, four_signed distance)
inst_size (JumpZero distance) = omega (arith, four_signed distance)
inst_size _ = refl

-- the first parts are no longer than all
pub parts_within : {A : Type 0} (spell : A → List ℕ) (xs : List A) (k : ℕ) → length (flat_map spell (take k xs)) ≤ length (flat_map spell xs)
parts_within spell xs k =
    let e : flat_map spell xs ≡ flat_map spell (take k xs) ++ flat_map spell (drop k xs) = ap (flat_map spell) (sym (take-append-drop k xs)) ∙ flat_map-append spell (take k xs) (drop k xs) in
    omega (arith, ap length e, length-append (flat_map spell (take k xs)) (flat_map spell (drop k xs)))

pub set_size : (names : List (List ℕ)) → length (set names) ≡ 2 + length (flat_map text names)
unfolding set
set_size names = omega (arith, length-append (number w16 (length names)) (flat_map text names), two_bytes (length names))

pub sets_size : (ss : List (List (List ℕ))) → length (sets ss) ≡ 2 + length (flat_map set ss)
unfolding sets
sets_size ss = omega (arith, length-append (number w16 (length ss)) (flat_map set ss), two_bytes (length ss))

pub entries_size : (es : List OpEntry) → length (entries es) ≡ 2 + length (flat_map entry es)
unfolding entries
entries_size es = omega (arith, length-append (number w16 (length es)) (flat_map entry es), two_bytes (length es))

-- where the number of cells stands
start_size : (v : ImageVersion) (top : ℤ) → length (magic ++ version v top) ≡ cells_place v
unfolding magic version
start_size First top = omega (arith, length-append magic (number w16 1), two_bytes 1)
start_size Second top = omega (arith, length-append magic (number w16 2 ++ signed w64 top), length-append (number w16 2) (signed w64 top), two_bytes 2, eight_signed top)

header_size : (v : ImageVersion) (image : Image) → length (header v image) ≡ count_place v image + 4
unfolding header
header_size v image =
    let m : List ℕ = magic ++ version v image.max in
    omega (
      arith,
      length-append (m ++ number w32 image.cells ++ sets image.sets ++ entries image.ops) (number w32 (length image.code)),
      length-append (m ++ number w32 image.cells ++ sets image.sets) (entries image.ops),
      length-append (m ++ number w32 image.cells) (sets image.sets),
      length-append m (number w32 image.cells),
      start_size v image.max,
      four_bytes image.cells,
      four_bytes (length image.code),
    )

pub laid_out_size : (v : ImageVersion) (image : Image) → length (laid_out v image) ≡ count_place v image + 4 + length (flat_map inst image.code)
unfolding laid_out
laid_out_size v image = omega (arith, length-append (header v image) (flat_map inst image.code), header_size v image)

-- where the first set stands, and where the last one ends
pub sets_end : (v : ImageVersion) (image : Image) → sets_place v + length (flat_map set image.sets) + 2 ≡ ops_place v image
sets_end v image = omega (arith, sets_size image.sets)

-- where the first operation stands, and where the last one ends
pub ops_end : (v : ImageVersion) (image : Image) → ops_place v image + length (flat_map entry image.ops) ≡ count_place v image
ops_end v image = omega (arith, entries_size image.ops)

-- the number of cells stands after the first six bytes
pub cells_past : (v : ImageVersion) → 6 ≤ cells_place v
cells_past First = omega arith
cells_past Second = omega arith
