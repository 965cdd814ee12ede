-- Calls that end within so many steps, and statements without loops.
use Rattle.std.specs.Prelude.{◌≤◌, ℕ}
use Rattle.bk_gsl.specs.Substitution.{Substitution, pre, guard, choice, if_else, any, seq, par, assert, loop}
use Rattle.bk_code.specs.declared.image.Image.{Image}
use Rattle.bk_code.specs.Step.{Config}
use Rattle.bk_code.specs.Run.{Done, Ends}

-- the call is done after at most so many steps, with a fuel of that many and with every larger one
pub record EndsWithin (image : Image) (size : ℕ) (start : Config) : Type 0 where
  pub steps : ℕ
  pub end : Config
  pub few : steps ≤ size
  pub done : (fuel : ℕ) → size ≤ fuel → Ends image fuel start (Done steps) end

-- the statement has no WHILE
abbrev pub HasNoLoop : Substitution → Type 0
HasNoLoop (pre p s) = HasNoLoop s
HasNoLoop (guard p s) = HasNoLoop s
HasNoLoop (choice s t) = HasNoLoop s × HasNoLoop t
HasNoLoop (par s t) = HasNoLoop s × HasNoLoop t
HasNoLoop (seq s t) = HasNoLoop s × HasNoLoop t
HasNoLoop (any zs s) = HasNoLoop s
HasNoLoop (assert p s) = HasNoLoop s
HasNoLoop (if_else p s t) = HasNoLoop s × HasNoLoop t
HasNoLoop (loop p s i v) = ⊥
HasNoLoop _ = Unit {0}
