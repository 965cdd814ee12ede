-- Calls of the first operation.
use Rattle.std.specs.Prelude.{◌≡◌, ℤ, true, false, List}
use Rattle.bk_vm.specs.State.{State, TakesCall}

-- the first operation may be called with these arguments, and gives one output
pub record CanCall (state : State) (args : List ℤ) : Type 0 where
  pub started : state.started ≡ true
  pub runs : state.stopped ≡ false
  pub takes : TakesCall state.image 0 args 1
