-- A machine's calls are those of a session.
use Rattle.std.specs.Prelude.{ℕ, ℤ, List, [], length}
use Rattle.bk_code.specs.declared.image.Image.{Image}
use Rattle.bk_code.specs.Session.{first_start, Told, Tells, Answers}
use Rattle.bk_vm.specs.declared.end.CallEnd.{CallEnd}
use Rattle.bk_vm.specs.declared.end.CallEnd.TheVariants.{Done, Trap, OutOfFuel}
use Rattle.bk_vm.specs.Ends.{end_of, EndsWith, CallEndsWith}
use Rattle.bk_vm.specs.State.{TakesCall}

-- what is told of a call that ends so, with these outputs where it is done
abbrev pub told_of : CallEnd → List ℤ → List ℤ → Told
told_of (Done steps) outs cells = record { end = end_of (Done steps); outputs = outs; cells = cells }
told_of (Trap kind at steps) outs cells = record { end = end_of (Trap kind at steps); outputs = []; cells = cells }
told_of OutOfFuel outs cells = record { end = end_of OutOfFuel; outputs = []; cells = cells }

-- the initialisation of a machine is that of a session
abbrev pub StartsSession : Type 0
StartsSession =
    (image : Image) (fuel : ℕ) (end : CallEnd) (cells : List ℤ) → EndsWith image fuel (first_start image) end cells →
    Tells image fuel [] (first_start image) (told_of end [] cells)

-- a call of a machine is one of a session
abbrev pub ContinuesSession : Type 0
ContinuesSession =
    (image : Image) (op : ℕ) (args : List ℤ) (fuel : ℕ) (before outs : List ℤ) (end : CallEnd) (after given : List ℤ) →
    TakesCall image op args (length outs) → CallEndsWith image op args fuel before outs end after given →
    Answers image fuel (record { op = op; args = args }) before (told_of end given after)
