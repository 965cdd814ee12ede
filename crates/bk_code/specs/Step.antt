-- The instruction table: what one instruction does.
use Rattle.std.specs.Prelude.{ℕ, ◌+◌, ℤ, pos, negsuc, neg_ℤ, ◌+ℤ◌, ◌-ℤ◌, ◌*ℤ◌, int_le, int_lt, nat_lt, unsigned_abs, ◌&&◌, Bool}
use Rattle.std.specs.Prelude.{List, ◌∷◌, length, Option, Some, None, slice_get, slice_set, Result, Ok, Err, if◌then◌else◌}
use Rattle.std.specs.Ordering.{int_eq}
use Rattle.bk_code.specs.declared.image.Image.{Image}
use Rattle.bk_code.specs.declared.instruction.Inst.{Inst}
use Rattle.bk_code.specs.declared.instruction.Inst.TheVariants.{Push, Load, Store, ALoad, AStore, Add, Sub, Mul, Div}
use Rattle.bk_code.specs.declared.instruction.Inst.TheVariants.{Mod, Neg, Eq, Lt, Le, Not, Jump, JumpZero, Ret}
use Rattle.bk_code.specs.declared.instruction.Trap.{Trap}
use Rattle.bk_code.specs.declared.instruction.Trap.TheVariants.{Index}
use Rattle.bk_code.specs.Numbers.{int_max, bounded, quotient, remainder, truth_number}

-- where a call stands: the place of the next instruction, the stack with its top first, and the cells
pub record Config : Type 0 where
  pub place : ℕ
  pub stack : List ℤ
  pub cells : List ℤ

-- what an instruction leads to: it goes on to a configuration, ends the call, traps, or can't be executed
pub data Outcome : Type 0 where
  GoesOn : Config → Outcome
  Returns : Outcome
  Traps : Trap → Outcome
  Stuck : Outcome

-- goes on from a place with a stack and cells
abbrev pub next : ℕ → List ℤ → List ℤ → Outcome
next at stack cells = GoesOn (record { place = at; stack = stack; cells = cells })

-- pushes what was calculated and goes on, or traps
abbrev pub calculated : ℕ → List ℤ → List ℤ → Result ℤ Trap → Outcome
calculated at stack cells (Ok n) = next at (n ∷ stack) cells
calculated at stack cells (Err trap) = Traps trap

-- pushes the number of a cell and goes on
abbrev pub loaded : ℕ → List ℤ → List ℤ → Option ℤ → Outcome
loaded at stack cells (Some n) = next at (n ∷ stack) cells
loaded at stack cells None = Stuck

-- writes a number to a cell and goes on
abbrev pub stored : ℕ → List ℤ → List ℤ → ℕ → ℤ → Outcome
stored at stack cells slot n = if nat_lt slot (length cells) then next at stack (slice_set cells slot n) else Stuck

-- goes on at a jump's target
abbrev pub jumped : ℤ → List ℤ → List ℤ → Outcome
jumped (pos at) stack cells = next at stack cells
jumped (negsuc n) stack cells = Stuck

-- whether an array of that many elements from the index low on has one at this index
abbrev pub is_index : ℤ → ℕ → ℤ → Bool
is_index low count index = int_le low index && int_lt index (low +ℤ pos count)

-- the cell of the element at an index: as far after the array's base as the index is above low
abbrev pub element_cell : ℕ → ℤ → ℤ → ℕ
element_cell base low index = base + unsigned_abs (index -ℤ low)

-- what an instruction does at a place, on a stack with its top first and on the cells
abbrev pub row : ℤ → Inst → ℕ → List ℤ → List ℤ → Outcome
row max (Push n) at stack cells = next (at + 1) (n ∷ stack) cells
row max (Load slot) at stack cells = loaded (at + 1) stack cells (slice_get cells slot)
row max (Store slot) at (n ∷ stack) cells = stored (at + 1) stack cells slot n
row max (ALoad base low count) at (i ∷ stack) cells =
    if is_index low count i then loaded (at + 1) stack cells (slice_get cells (element_cell base low i)) else Traps Index
row max (AStore base low count) at (n ∷ i ∷ stack) cells =
    if is_index low count i then stored (at + 1) stack cells (element_cell base low i) n else Traps Index
row max Add at (b ∷ a ∷ stack) cells = calculated (at + 1) stack cells (bounded max (a +ℤ b))
row max Sub at (b ∷ a ∷ stack) cells = calculated (at + 1) stack cells (bounded max (a -ℤ b))
row max Mul at (b ∷ a ∷ stack) cells = calculated (at + 1) stack cells (bounded max (a *ℤ b))
row max Div at (b ∷ a ∷ stack) cells = calculated (at + 1) stack cells (quotient a b)
row max Mod at (b ∷ a ∷ stack) cells = calculated (at + 1) stack cells (remainder a b)
row max Neg at (a ∷ stack) cells = calculated (at + 1) stack cells (bounded max (neg_ℤ a))
row max Eq at (b ∷ a ∷ stack) cells = next (at + 1) (truth_number (int_eq a b) ∷ stack) cells
row max Lt at (b ∷ a ∷ stack) cells = next (at + 1) (truth_number (int_lt a b) ∷ stack) cells
row max Le at (b ∷ a ∷ stack) cells = next (at + 1) (truth_number (int_le a b) ∷ stack) cells
row max Not at (a ∷ stack) cells = next (at + 1) (truth_number (int_eq a (pos 0)) ∷ stack) cells
row max (Jump distance) at stack cells = jumped (pos at +ℤ distance) stack cells
row max (JumpZero distance) at (a ∷ stack) cells =
    if int_eq a (pos 0) then jumped (pos at +ℤ distance) stack cells else next (at + 1) stack cells
row max Ret at stack cells = Returns
row max _ at stack cells = Stuck

-- the instruction at the configuration's place, executed there
abbrev pub executed : ℤ → Option Inst → Config → Outcome
executed max (Some inst) c = row max inst c.place c.stack c.cells
executed max None c = Stuck

-- one step of an image's code
abbrev pub step : Image → Config → Outcome
step image c = executed (int_max image) (slice_get image.code c.place) c
