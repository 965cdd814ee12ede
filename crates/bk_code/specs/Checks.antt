-- What the loader checks of an image: its numbers, and the depth of the stack at each place.
use Rattle.std.specs.Prelude.{◌≡◌, ℕ, zero, suc, ◌+◌, ◌-◌, ◌<◌, ◌≤◌, ◌^◌, ◌⊎◌, ℤ, pos, ◌+ℤ◌}
use Rattle.std.specs.Prelude.{◌-ℤ◌, List, length, All, slice_get, slice_index, Some}
use Rattle.bk_limits.specs.declared.TheConstants.{MOST_CELLS, STACK_ROOM}
use Rattle.bk_code.specs.declared.image.Image.{Image}
use Rattle.bk_code.specs.declared.image.OpEntry.{OpEntry}
use Rattle.bk_code.specs.declared.image.Parameter.{Parameter}
use Rattle.bk_code.specs.declared.image.CellKind.{CellKind}
use Rattle.bk_code.specs.declared.image.CellKind.TheVariants.{Integer, Bool, Set}
use Rattle.bk_code.specs.declared.instruction.Inst.{Inst}
use Rattle.bk_code.specs.declared.instruction.Inst.TheVariants.{Push, Load, Store, ALoad, AStore, Neg, Not, Jump, JumpZero, Ret}
use Rattle.bk_code.specs.Numbers.{int_max, IsRange, IsWithin}
use Rattle.bk_code.specs.Step.{Config}

-- the kind is one of the image: a set's number is that of one of its sets
abbrev pub IsKind : Image → CellKind → Type 0
IsKind image Integer = Unit {0}
IsKind image Bool = Unit {0}
IsKind image (Set k) = k < length image.sets

-- an input or an output has a kind and a cell of the image
pub record IsGoodParameter (image : Image) (parameter : Parameter) : Type 0 where
  pub kind : IsKind image parameter.kind
  pub slot : parameter.slot < image.cells

-- an operation starts at a place of the code, with good inputs and outputs
pub record IsGoodEntry (image : Image) (entry : OpEntry) : Type 0 where
  pub start : entry.start < length image.code
  pub inputs : All (IsGoodParameter image) entry.inputs
  pub outputs : All (IsGoodParameter image) entry.outputs

-- an array has at least one element, its elements have cells of the image, and its indices lie within the range
pub record IsArray (image : Image) (base : ℕ) (low : ℤ) (count : ℕ) : Type 0 where
  pub some : 0 < count
  pub cells : base + count ≤ image.cells
  pub least : IsWithin (int_max image) low
  pub greatest : IsWithin (int_max image) (low +ℤ pos count -ℤ pos 1)

-- a jump's target is a place of the code
pub record IsTarget (image : Image) (target : ℤ) : Type 0 where
  pub place : ℕ
  pub is : target ≡ pos place
  pub stands : place < length image.code

-- the operands of an instruction at a place are in their ranges
abbrev pub IsGoodInst : Image → ℕ → Inst → Type 0
IsGoodInst image at (Push n) = IsWithin (int_max image) n
IsGoodInst image at (Load slot) = slot < image.cells
IsGoodInst image at (Store slot) = slot < image.cells
IsGoodInst image at (ALoad base low count) = IsArray image base low count
IsGoodInst image at (AStore base low count) = IsArray image base low count
IsGoodInst image at (Jump distance) = IsTarget image (pos at +ℤ distance)
IsGoodInst image at (JumpZero distance) = IsTarget image (pos at +ℤ distance)
IsGoodInst image at _ = Unit {0}

-- the instruction after which control goes elsewhere than to the next place
abbrev pub IsLeaving : Inst → Type 0
IsLeaving (Jump distance) = Unit {0}
IsLeaving Ret = Unit {0}
IsLeaving _ = ⊥

-- all numbers of an image are in their ranges, and its code ends with a Jump or a Ret
pub record IsNumbered (image : Image) : Type 0 where
  pub range : IsRange (int_max image)
  pub cells : image.cells ≤ MOST_CELLS
  pub ops : All (IsGoodEntry image) image.ops
  pub insts : (at : ℕ) (inst : Inst) → slice_get image.code at ≡ Some inst → IsGoodInst image at inst
  pub last : (at : ℕ) (inst : Inst) → slice_get image.code at ≡ Some inst → at + 1 ≡ length image.code → IsLeaving inst
  pub some : 0 < length image.code
  pub countable : length image.code < 2 ^ 32

-- how many numbers an instruction pops
abbrev pub pops : Inst → ℕ
pops (Push n) = 0
pops (Load slot) = 0
pops (Store slot) = 1
pops (ALoad base low count) = 1
pops (AStore base low count) = 2
pops Neg = 1
pops Not = 1
pops (Jump distance) = 0
pops (JumpZero distance) = 1
pops Ret = 0
pops _ = 2

-- how many numbers an instruction pushes
abbrev pub pushes : Inst → ℕ
pushes (Store slot) = 0
pushes (AStore base low count) = 0
pushes (Jump distance) = 0
pushes (JumpZero distance) = 0
pushes Ret = 0
pushes _ = 1

-- control may go from an instruction at a place to this one
abbrev pub FlowsTo : Inst → ℕ → ℕ → Type 0
FlowsTo (Jump distance) at to = pos to ≡ pos at +ℤ distance
FlowsTo (JumpZero distance) at to = (to ≡ at + 1) ⊎ (pos to ≡ pos at +ℤ distance)
FlowsTo Ret at to = ⊥
FlowsTo _ at to = to ≡ at + 1

-- the stack is empty at the end of a call
abbrev pub IsEmptyAtEnd : Inst → ℕ → Type 0
IsEmptyAtEnd Ret depth = depth ≡ 0
IsEmptyAtEnd _ depth = Unit {0}

-- these are depths of the stack, one for each place: 0 where a call starts and at each Ret, at most STACK_ROOM, enough for what
-- an instruction pops, and carried on along each flow of control
pub record IsDepths (image : Image) (depths : List ℕ) : Type 0 where
  pub long : length depths ≡ length image.code
  pub first : slice_index depths 0 ≡ 0
  pub starts : All (λ entry. slice_index depths entry.start ≡ 0) image.ops
  pub limit : (at : ℕ) → at < length image.code → slice_index depths at ≤ STACK_ROOM
  pub enough : (at : ℕ) (inst : Inst) → slice_get image.code at ≡ Some inst → pops inst ≤ slice_index depths at
  pub flows : (at to : ℕ) (inst : Inst) → slice_get image.code at ≡ Some inst →
      FlowsTo inst at to → slice_index depths to ≡ slice_index depths at - pops inst + pushes inst
  pub returned : (at : ℕ) (inst : Inst) → slice_get image.code at ≡ Some inst → IsEmptyAtEnd inst (slice_index depths at)

-- the image's numbers are in their ranges, and its places have depths: no step of it is stuck
pub record IsChecked (image : Image) : Type 0 where
  pub numbered : IsNumbered image
  pub depths : List ℕ
  pub fitting : IsDepths image depths

-- ---- where nothing says the depth
-- control may go from the instruction at a place to another place
abbrev pub Passes : Image → ℕ → ℕ → Type 0
Passes image at to = (inst : Inst) × (slice_get image.code at ≡ Some inst) × FlowsTo inst at to

-- through one instruction, and so many more
abbrev pub LeadsThrough : Image → ℕ → ℕ → ℕ → Type 0
LeadsThrough image zero at to = Passes image at to
LeadsThrough image (suc n) at to = (mid : ℕ) × LeadsThrough image n at mid × Passes image mid to

-- the depth of the place is 0 from the start: it is the first, an operation starts there, or nothing goes there
abbrev pub IsRoot : Image → ℕ → Type 0
IsRoot image at = (at ≡ 0) ⊎ ((k : ℕ) × (entry : OpEntry) × (slice_get image.ops k ≡ Some entry) × (entry.start ≡ at))
    ⊎ ((from : ℕ) → Passes image from at → ⊥)

-- neither such a place nor a smaller one leads to it
abbrev pub IsOpen : Image → ℕ → Type 0
IsOpen image at = (from n : ℕ) → (IsRoot image from ⊎ (from < at)) → LeadsThrough image n from at → ⊥

-- the image passes the loader's checks: the depth is 0 also at each place that nothing reaches, and at the smallest of
-- the places whose depths follow from each other alone
pub record IsLoadable (image : Image) : Type 0 where
  pub numbered : IsNumbered image
  pub depths : List ℕ
  pub fitting : IsDepths image depths
  pub rest : (at : ℕ) → at < length image.code → IsOpen image at → slice_index depths at ≡ 0

-- a configuration fits an image with these depths: a place of the code, the place's depth of the stack, and the image's
-- number of cells, with all numbers within the range
pub record IsFitting (image : Image) (depths : List ℕ) (c : Config) : Type 0 where
  pub place : c.place < length image.code
  pub deep : length c.stack ≡ slice_index depths c.place
  pub stack : All (IsWithin (int_max image)) c.stack
  pub many : length c.cells ≡ image.cells
  pub cells : All (IsWithin (int_max image)) c.cells
