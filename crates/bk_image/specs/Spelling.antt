-- The one spelling of an image. All numbers have their highest byte first.
use Rattle.std.specs.Prelude.{◌≡◌, ℕ, ◌+◌, ◌<◌, ◌≤◌, ◌^◌, ℤ, pos, ◌+ℤ◌, ◌≤ℤ◌, List, [], ◌∷◌, ◌++◌, length, All, FitsSigned, if◌then◌else◌}
use Rattle.std.specs.List.{flat_map}
use Rattle.std.specs.Int.{Width, w16, w32, w64, to_be_bytes, cast_unsigned}
use Rattle.std.specs.Ordering.{int_eq}
use Rattle.bk_limits.specs.declared.TheConstants.{MOST_SETS}
use Rattle.bk_code.specs.declared.image.Image.{Image}
use Rattle.bk_code.specs.Numbers.{int_max, default_max}
use Rattle.bk_code.specs.declared.image.OpEntry.{OpEntry}
use Rattle.bk_code.specs.declared.image.Parameter.{Parameter}
use Rattle.bk_code.specs.declared.image.CellKind.{CellKind}
use Rattle.bk_code.specs.declared.image.CellKind.TheVariants.{Integer, Bool, Set}
use Rattle.bk_code.specs.declared.instruction.Inst.{Inst}
use Rattle.bk_code.specs.declared.instruction.Inst.TheVariants.{Push, Load, Store, ALoad, AStore, Add, Sub, Mul, Div}
use Rattle.bk_code.specs.declared.instruction.Inst.TheVariants.{Mod, Neg, Eq, Lt, Le, Not, Jump, JumpZero, Ret}
use Rattle.bk_image.specs.declared.version.ImageVersion.{ImageVersion}
use Rattle.bk_image.specs.declared.version.ImageVersion.TheVariants.{First, Second}

-- a number that is not negative
unfoldable pub number : Width → ℕ → List ℕ
number w n = to_be_bytes w n

-- a whole number, in two's complement
unfoldable pub signed : Width → ℤ → List ℕ
signed w n = to_be_bytes w (cast_unsigned w n)

-- a name: how many bytes it has, and the bytes
unfoldable pub text : List ℕ → List ℕ
text bytes = number w16 (length bytes) ++ bytes

-- how many items there are, and the items
abbrev pub counted : {A : Type 0} → (A → List ℕ) → List A → List ℕ
counted item items = number w16 (length items) ++ flat_map item items

-- the names of a set's elements
unfoldable pub set : List (List ℕ) → List ℕ
set names = counted text names

-- a whole number is 0, a truth value 1, and an element of the set k is 2 + k
abbrev pub kind_number : CellKind → ℕ
kind_number Integer = 0
kind_number Bool = 1
kind_number (Set k) = 2 + k

-- an input or an output: its kind and its cell
unfoldable pub parameter : Parameter → List ℕ
parameter p = number w16 (kind_number p.kind) ++ number w32 p.slot

-- the inputs or the outputs of an operation
unfoldable pub parameters : List Parameter → List ℕ
parameters ps = counted parameter ps

-- an operation: its name, the place of its first instruction, its inputs and its outputs
unfoldable pub entry : OpEntry → List ℕ
entry e = text e.name ++ number w32 e.start ++ parameters e.inputs ++ parameters e.outputs

-- the operands of an instruction on an array
unfoldable pub array : ℕ → ℤ → ℕ → List ℕ
array base low count = number w32 base ++ signed w64 low ++ number w32 count

-- the byte that says which instruction it is
abbrev pub opcode : Inst → ℕ
opcode (Push n) = 0x01
opcode (Load slot) = 0x02
opcode (Store slot) = 0x03
opcode (ALoad base low count) = 0x04
opcode (AStore base low count) = 0x05
opcode Add = 0x06
opcode Sub = 0x07
opcode Mul = 0x08
opcode Div = 0x09
opcode Mod = 0x0A
opcode Neg = 0x0B
opcode Eq = 0x0C
opcode Lt = 0x0D
opcode Le = 0x0E
opcode Not = 0x0F
opcode (Jump distance) = 0x10
opcode (JumpZero distance) = 0x11
opcode Ret = 0x12

-- the bytes after it
abbrev pub operands : Inst → List ℕ
operands (Push n) = signed w64 n
operands (Load slot) = number w32 slot
operands (Store slot) = number w32 slot
operands (ALoad base low count) = array base low count
operands (AStore base low count) = array base low count
operands (Jump distance) = signed w32 distance
operands (JumpZero distance) = signed w32 distance
operands _ = []

-- an instruction: its opcode and its operands
unfoldable pub inst : Inst → List ℕ
inst i = opcode i ∷ operands i

-- the bytes that each image begins with: BKIM
unfoldable pub magic : List ℕ
magic = 0x42 ∷ 0x4B ∷ 0x49 ∷ 0x4D ∷ []

-- the sets and the operations
unfoldable pub sets : List (List (List ℕ)) → List ℕ
sets ss = counted set ss

-- the operations, in the order of their numbers
unfoldable pub entries : List OpEntry → List ℕ
entries es = counted entry es

-- the version, behind which the second one has MAXINT
unfoldable pub version : ImageVersion → ℤ → List ℕ
version First max = number w16 1
version Second max = number w16 2 ++ signed w64 max

-- what stands before the instructions
unfoldable pub header : ImageVersion → Image → List ℕ
header v image =
    magic ++ version v (int_max image) ++ number w32 image.cells ++ sets image.sets ++ entries image.ops ++ number w32 (length image.code)

-- the bytes of an image in a version
unfoldable pub laid_out : ImageVersion → Image → List ℕ
laid_out v image = header v image ++ flat_map inst image.code

-- the version of an image is the first where its MAXINT is the one where no range is said, and the second everywhere else
abbrev pub version_of : Image → ImageVersion
version_of image = if int_eq (int_max image) default_max then First else Second

-- the bytes of an image, in its version
abbrev pub spelling : Image → List ℕ
spelling image = laid_out (version_of image) image

-- ---- what has a spelling
-- a number of items fits its field
abbrev pub IsCountable : {A : Type 0} → List A → Type 0
IsCountable items = length items < 2 ^ 16

-- a set has few enough elements, and each of their names is short enough
pub record FitsSet (names : List (List ℕ)) : Type 0 where
  pub few : IsCountable names
  pub each : All (λ name. IsCountable name) names

-- the kind and the cell of an input or an output fit their fields
pub record FitsParameter (p : Parameter) : Type 0 where
  pub kind : kind_number p.kind < 2 ^ 16
  pub slot : p.slot < 2 ^ 32

-- there are few enough inputs or outputs, and each fits its fields
pub record FitsParameters (ps : List Parameter) : Type 0 where
  pub few : IsCountable ps
  pub each : All FitsParameter ps

-- the name, the start, the inputs and the outputs of an operation fit their fields
pub record FitsEntry (e : OpEntry) : Type 0 where
  pub name : IsCountable e.name
  pub start : e.start < 2 ^ 32
  pub inputs : FitsParameters e.inputs
  pub outputs : FitsParameters e.outputs

-- the operands of an instruction on an array fit their fields
pub record FitsArray (base : ℕ) (low : ℤ) (count : ℕ) : Type 0 where
  pub first_cell : base < 2 ^ 32
  pub least : FitsSigned w64 low
  pub size : count < 2 ^ 32

-- the operands of an instruction fit their fields
abbrev pub FitsInst : Inst → Type 0
FitsInst (Push n) = FitsSigned w64 n
FitsInst (Load slot) = slot < 2 ^ 32
FitsInst (Store slot) = slot < 2 ^ 32
FitsInst (ALoad base low count) = FitsArray base low count
FitsInst (AStore base low count) = FitsArray base low count
FitsInst (Jump distance) = FitsSigned w32 distance
FitsInst (JumpZero distance) = FitsSigned w32 distance
FitsInst _ = Unit {0}

-- MAXINT fits its field; where there is none it is the one where no range is said
abbrev pub FitsMax : ImageVersion → ℤ → Type 0
FitsMax First max = max ≡ default_max
FitsMax Second max = FitsSigned w64 max

-- each number of the image fits its field in this version
pub record FitsFields (v : ImageVersion) (image : Image) : Type 0 where
  pub max : FitsMax v (int_max image)
  pub cells : image.cells < 2 ^ 32
  pub few_sets : IsCountable image.sets
  pub sets : All FitsSet image.sets
  pub few_ops : IsCountable image.ops
  pub ops : All FitsEntry image.ops
  pub few_insts : length image.code < 2 ^ 32
  pub insts : All FitsInst image.code

-- a set has at most max + 1 elements: 0 to max number them
abbrev pub HasFewElements : ℤ → List (List ℕ) → Type 0
HasFewElements max names = pos (length names) ≤ℤ (max +ℤ pos 1)

-- each number of the image fits its field in its version, there are at most 65,534 sets, and none has too many elements
pub record HasSpelling (image : Image) : Type 0 where
  pub fits : FitsFields (version_of image) image
  pub few_sets : length image.sets ≤ MOST_SETS
  pub few_elements : All (λ names. HasFewElements (int_max image) names) image.sets
