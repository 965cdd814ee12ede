-- Only the contracts of private functions name what stands here.
-- Reading from left to right, with the first fault that is met: how the layout is read, step by step. What the loader
-- answers is stated by the spelling and by the faults, not by these.
use Rattle.std.specs.Prelude.{◌≡◌, ℕ, zero, suc, ◌-◌, List, [], ◌∷◌, length, take, drop, ℤ}
use Rattle.std.specs.Prelude.{Option, Some, None, Result, Ok, Err, nat_lt, ◌==◌, if◌then◌else◌}
use Rattle.std.specs.Int.{Width, w16, w32, w64, byte_len, from_be_bytes, cast_signed}
use Rattle.bk_code.specs.declared.image.Image.{Image}
use Rattle.bk_code.specs.Numbers.{default_max}
use Rattle.bk_code.specs.declared.image.OpEntry.{OpEntry}
use Rattle.bk_code.specs.declared.image.Parameter.{Parameter}
use Rattle.bk_code.specs.declared.image.CellKind.{CellKind}
use Rattle.bk_code.specs.declared.image.CellKind.TheVariants.{Integer, Bool, Set}
use Rattle.bk_code.specs.declared.instruction.Inst.{Inst}
use Rattle.bk_code.specs.declared.instruction.Inst.TheVariants.{Push, Load, Store, ALoad, AStore, Add, Sub, Mul, Div}
use Rattle.bk_code.specs.declared.instruction.Inst.TheVariants.{Mod, Neg, Eq, Lt, Le, Not, Jump, JumpZero, Ret}
use Rattle.bk_image.specs.declared.version.ImageVersion.{ImageVersion}
use Rattle.bk_image.specs.declared.version.ImageVersion.TheVariants.{First, Second}
use Rattle.bk_image.specs.declared.fault.LoadFault.{LoadFault}
use Rattle.bk_image.specs.declared.fault.LoadFault.TheVariants.{Short, Magic, Version, BadInst, Extra}
use Rattle.bk_image.specs.declared.fault.LoadFault.TheVariants as faults

infixl 10 ◌>>=◌
-- reading goes on with what was read, and ends with the first fault
abbrev pub ◌>>=◌ : {A B : Type 0} → Result A LoadFault → (A → Result B LoadFault) → Result B LoadFault
(Ok x) >>= f = f x
(Err e) >>= f = Err e

-- a fault of the code is the one that reading gives, unless memory ran out
abbrev pub Fails : {Y : Type 0} → LoadFault → Result Y LoadFault → Type 0
Fails faults.Memory read = Unit {0}
Fails e read = read ≡ Err e

-- what the code gives, seen by a view, is what reading gives, unless memory ran out
abbrev pub Gives : {X Y : Type 0} → (X → Y) → Result X LoadFault → Result Y LoadFault → Type 0
Gives view (Ok x) read = read ≡ Ok (view x)
Gives view (Err e) read = Fails e read

-- a value, and the bytes after it
abbrev pub Read : Type 0 → Type 0
Read A = Result (A × List ℕ) LoadFault

-- the number of this width with which the bytes begin, most significant
-- byte first, and the bytes after it; len is the length of the whole file
unfoldable pub number_at : ℕ → Width → List ℕ → Read ℕ
number_at len w bytes = if nat_lt (length bytes) (byte_len w) then Err (Short len)
    else Ok (from_be_bytes w (take (byte_len w) bytes), drop (byte_len w) bytes)

-- a whole number, in two's complement
unfoldable pub signed_at : ℕ → Width → List ℕ → Read ℤ
signed_at len w bytes = do
  n ← number_at len w bytes
  Ok (cast_signed w n.0, n.1)

-- a name: how many bytes it has, and the bytes
unfoldable pub text_at : ℕ → List ℕ → Read (List ℕ)
text_at len bytes = do
  n ← number_at len w16 bytes
  if nat_lt (length n.1) n.0 then Err (Short len) else Ok (take n.0 n.1, drop n.0 n.1)

-- so many items
unfoldable pub items_at : {A : Type 0} → (List ℕ → Read A) → ℕ → List ℕ → Read (List A)
items_at item zero bytes = Ok ([], bytes)
items_at item (suc n) bytes = do
  first ← item bytes
  others ← items_at item n first.1
  Ok (first.0 ∷ others.0, others.1)

-- how many items there are, and the items
unfoldable pub counted_at : {A : Type 0} → ℕ → (List ℕ → Read A) → List ℕ → Read (List A)
counted_at len item bytes = do
  n ← number_at len w16 bytes
  items_at item n.0 n.1

-- the names of a set's elements
abbrev pub set_at : ℕ → List ℕ → Read (List (List ℕ))
set_at len bytes = counted_at len (text_at len) bytes

-- 0 is a whole number, 1 a truth value, and 2 + k an element of the set k
abbrev pub kind_of : ℕ → CellKind
kind_of zero = Integer
kind_of (suc zero) = Bool
kind_of (suc (suc k)) = Set k

-- an input or an output: its kind and its cell
unfoldable pub parameter_at : ℕ → List ℕ → Read Parameter
parameter_at len bytes = do
  kind ← number_at len w16 bytes
  slot ← number_at len w32 kind.1
  Ok (record { kind = kind_of kind.0; slot = slot.0 }, slot.1)

-- the inputs or the outputs of an operation
abbrev pub parameters_at : ℕ → List ℕ → Read (List Parameter)
parameters_at len bytes = counted_at len (parameter_at len) bytes

-- an operation: its name, the place of its first instruction, its inputs and its outputs
unfoldable pub entry_at : ℕ → List ℕ → Read OpEntry
entry_at len bytes = do
  name ← text_at len bytes
  start ← number_at len w32 name.1
  inputs ← parameters_at len start.1
  outputs ← parameters_at len inputs.1
  Ok (record { name = name.0; start = start.0; inputs = inputs.0; outputs = outputs.0 }, outputs.1)

-- the instruction without operands that a byte stands for
unfoldable pub plain_inst : ℕ → Option Inst
plain_inst n =
    if n == 0x06 then Some Add else if n == 0x07 then Some Sub else if n == 0x08 then Some Mul else
    if n == 0x09 then Some Div else if n == 0x0A then Some Mod else if n == 0x0B then Some Neg else
    if n == 0x0C then Some Eq else if n == 0x0D then Some Lt else if n == 0x0E then Some Le else
    if n == 0x0F then Some Not else if n == 0x12 then Some Ret else None

-- the operands of an instruction on an array
unfoldable pub array_at : ℕ → List ℕ → Read (ℕ × ℤ × ℕ)
array_at len bytes = do
  base ← number_at len w32 bytes
  low ← signed_at len w64 base.1
  count ← number_at len w32 low.1
  Ok ((base.0, low.0, count.0), count.1)

-- an instruction without operands, or the fault
abbrev pub plain_at : LoadFault → Option Inst → List ℕ → Read Inst
plain_at fault None bytes = Err fault
plain_at fault (Some i) bytes = Ok (i, bytes)

-- one with operands
abbrev pub made : {A : Type 0} → (A → Inst) → Read A → Read Inst
made make read = read >>= λ x. Ok (make x.0, x.1)

-- what stands after an opcode; the fault is for a byte that is none
unfoldable pub operands_at : ℕ → LoadFault → ℕ → List ℕ → Read Inst
operands_at len fault n bytes =
    if n == 0x01 then made Push (signed_at len w64 bytes) else
    if n == 0x02 then made Load (number_at len w32 bytes) else
    if n == 0x03 then made Store (number_at len w32 bytes) else
    if n == 0x04 then made (λ a. ALoad a.0 a.1 a.2) (array_at len bytes) else
    if n == 0x05 then made (λ a. AStore a.0 a.1 a.2) (array_at len bytes) else
    if n == 0x10 then made Jump (signed_at len w32 bytes) else
    if n == 0x11 then made JumpZero (signed_at len w32 bytes) else
    plain_at fault (plain_inst n) bytes

-- an instruction: its opcode and its operands
unfoldable pub inst_at : ℕ → List ℕ → Read Inst
inst_at len [] = Err (Short len)
inst_at len (n ∷ bytes) = operands_at len (BadInst (len - length (n ∷ bytes))) n bytes

-- the four bytes that every image begins with, taken as one number
unfoldable pub magic_at : ℕ → List ℕ → Read ℕ
magic_at len bytes = do
  n ← number_at len w32 bytes
  if n.0 == 0x424B494D then Ok n else Err Magic

-- the version, which has to be 1 or 2
unfoldable pub version_at : ℕ → List ℕ → Read ImageVersion
version_at len bytes = do
  n ← number_at len w16 bytes
  if n.0 == 1 then Ok (First, n.1) else if n.0 == 2 then Ok (Second, n.1) else Err (Version n.0)

-- MAXINT, for which the first version has no bytes
unfoldable pub max_at : ℕ → ImageVersion → List ℕ → Read ℤ
max_at len First bytes = Ok (default_max, bytes)
max_at len Second bytes = signed_at len w64 bytes

-- how many instructions there are, and the instructions
unfoldable pub code_at : ℕ → List ℕ → Read (List Inst)
code_at len bytes = do
  n ← number_at len w32 bytes
  items_at (inst_at len) n.0 n.1

-- what stands after magic and version
unfoldable pub parts_at : ℕ → ImageVersion → List ℕ → Read Image
parts_at len v bytes = do
  max ← max_at len v bytes
  cells ← number_at len w32 max.1
  sets ← counted_at len (set_at len) cells.1
  ops ← counted_at len (entry_at len) sets.1
  code ← code_at len ops.1
  Ok (record { max = max.0; cells = cells.0; sets = sets.0; ops = ops.0; code = code.0 }, code.1)

-- the version and the image, whatever stands after it
unfoldable pub image_at : ℕ → List ℕ → Read (ImageVersion × Image)
image_at len bytes = do
  magic ← magic_at len bytes
  version ← version_at len magic.1
  parts ← parts_at len version.0 version.1
  Ok ((version.0, parts.0), parts.1)

-- the image that all of the bytes are laid out as, with the version
unfoldable pub layout_of : List ℕ → Result (ImageVersion × Image) LoadFault
layout_of bytes = do
  image ← image_at (length bytes) bytes
  if length image.1 == 0 then Ok image.0 else Err (Extra (length bytes - length image.1))
