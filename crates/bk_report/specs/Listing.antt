-- What `code` writes: the instructions of an image with their places, after the name of the operation that they belong to.
use Rattle.std.specs.Prelude.{ℕ, ◌+◌, ◌-◌, ℤ, List, [], ◌∷◌, ◌++◌, length, take, drop, codes, decimal}
use Rattle.std.specs.Fmt.{signed_decimal}
use Rattle.bk_code.specs.declared.image.Image.{Image}
use Rattle.bk_code.specs.declared.image.OpEntry.{OpEntry}
use Rattle.bk_code.specs.declared.instruction.Inst.{Inst}
use Rattle.bk_code.specs.declared.instruction.Inst.TheVariants.{Push, Load, Store, ALoad, AStore, Add, Sub, Mul, Div}
use Rattle.bk_code.specs.declared.instruction.Inst.TheVariants.{Mod, Neg, Eq, Lt, Le, Not, Jump, JumpZero, Ret}

-- ---- one instruction
-- the operands of an instruction on an array: the first cell, the least index and the number of elements
abbrev pub array_text : (base : ℕ) (low : ℤ) (count : ℕ) → List ℕ
array_text base low count = decimal base ++ codes " " ++ signed_decimal low ++ codes " " ++ decimal count

-- the name of an instruction, and its operands with a space before each. A jump has its distance, from its own place
abbrev pub instruction_text : Inst → List ℕ
instruction_text (Push n) = codes "Push " ++ signed_decimal n
instruction_text (Load slot) = codes "Load " ++ decimal slot
instruction_text (Store slot) = codes "Store " ++ decimal slot
instruction_text (ALoad base low count) = codes "ALoad " ++ array_text base low count
instruction_text (AStore base low count) = codes "AStore " ++ array_text base low count
instruction_text Add = codes "Add"
instruction_text Sub = codes "Sub"
instruction_text Mul = codes "Mul"
instruction_text Div = codes "Div"
instruction_text Mod = codes "Mod"
instruction_text Neg = codes "Neg"
instruction_text Eq = codes "Eq"
instruction_text Lt = codes "Lt"
instruction_text Le = codes "Le"
instruction_text Not = codes "Not"
instruction_text (Jump distance) = codes "Jump " ++ signed_decimal distance
instruction_text (JumpZero distance) = codes "JumpZero " ++ signed_decimal distance
instruction_text Ret = codes "Ret"

-- `3 Push 0`
abbrev pub instruction_line : (place : ℕ) → Inst → List ℕ
instruction_line place inst = decimal place ++ codes " " ++ instruction_text inst ++ codes "\n"

-- ---- the image
-- a line for each of these instructions, of which the first has that place
abbrev pub lines_from : (place : ℕ) → List Inst → List ℕ
lines_from place [] = []
lines_from place (inst ∷ rest) = instruction_line place inst ++ lines_from (place + 1) rest

-- the lines of the instructions from one place of the code on, up to another
abbrev pub lines_between : (code : List Inst) (from to : ℕ) → List ℕ
lines_between code from to = lines_from from (take (to - from) (drop from code))

-- `get:`
abbrev pub heading : List ℕ → List ℕ
heading name = name ++ codes ":\n"

-- the code from a place on: the lines up to the next operation, its heading, and what follows; at last those up to the end
abbrev pub code_text : (code : List Inst) (from : ℕ) → List OpEntry → List ℕ
code_text code from [] = lines_between code from (length code)
code_text code from (op ∷ ops) = lines_between code from op.start ++ (heading op.name ++ code_text code op.start ops)

-- the initialisation's code, and that of each operation
abbrev pub listing : Image → List ℕ
listing image = heading (codes "INITIALISATION") ++ code_text image.code 0 image.ops
