-- How a call changes a machine.
use Rattle.std.specs.Prelude.{◌≡◌, ℕ, ℤ, Bool, true, false, List, slice_get, Some}
use Rattle.bk_code.specs.declared.image.Image.{Image}
use Rattle.bk_code.specs.declared.image.OpEntry.{OpEntry}
use Rattle.bk_code.specs.declared.image.Parameter.{Parameter}
use Rattle.bk_code.specs.Step.{Config}
use Rattle.bk_code.specs.Run.{End, Done, Trapped, OutOfFuel, Ends}
use Rattle.bk_code.specs.Session.{call_start, outputs_of}
use Rattle.bk_vm.specs.declared.end.CallEnd.{CallEnd}
use Rattle.bk_vm.specs.declared.end.CallEnd.TheVariants.{Done as DoneEnd, Trap as TrapEnd, OutOfFuel as OutOfFuelEnd}

-- the end that a call's answer tells of
abbrev pub end_of : CallEnd → End
end_of (DoneEnd steps) = Done steps
end_of (TrapEnd kind at steps) = Trapped kind at steps
end_of OutOfFuelEnd = OutOfFuel

-- whether the machine is stopped after it
abbrev pub is_stop : CallEnd → Bool
is_stop (DoneEnd steps) = false
is_stop (TrapEnd kind at steps) = true
is_stop OutOfFuelEnd = true

-- the places for outputs after a call: the numbers in the output slots where it is done, and else as before
abbrev pub outs_after : List Parameter → CallEnd → List ℤ → List ℤ → List ℤ
outs_after outputs (DoneEnd steps) cells before = outputs_of outputs cells
outs_after outputs (TrapEnd kind at steps) cells before = before
outs_after outputs OutOfFuelEnd cells before = before

-- the code that starts at c ends so with that fuel, and leaves these cells
pub record EndsWith (image : Image) (fuel : ℕ) (c : Config) (end : CallEnd) (cells : List ℤ) : Type 0 where
  pub last : Config
  pub ends : Ends image fuel c (end_of end) last
  pub left : cells ≡ last.cells

-- the call of an operation on the cells before it ends so with that fuel, and leaves these cells and outputs
pub record CallEndsWith (image : Image) (op : ℕ) (args : List ℤ) (fuel : ℕ)
    (before : List ℤ) (outs : List ℤ) (end : CallEnd) (after given : List ℤ) : Type 0 where
  pub entry : OpEntry
  pub named : slice_get image.ops op ≡ Some entry
  pub ends : EndsWith image fuel (call_start entry args before) end after
  pub outputs : given ≡ outs_after entry.outputs end after outs
