-- Where the left side of each || that is met has a result.
use Rattle.std.specs.Prelude.{◌≡◌, ℕ, true, false, List}
use Rattle.bk_val.specs.Value.{MathValue}
use Rattle.bk_form.specs.Table.{Table}
use Rattle.bk_form.specs.Search.{Finder}
use Rattle.bk_form.specs.Environment.{State}
use Rattle.bk_gsl.specs.Substitution.{Substitution, pre, guard, choice, if_else, any, seq, par, assert, loop}
use Rattle.bk_gsl.specs.State.{holds, are_values_for, with_values}
use Rattle.bk_gsl.specs.Run.{Runs}
use Rattle.bk_gsl.specs.Clean.{Reached}

-- from this state: nothing is met after a precondition, a guard or an assertion that is false, nor in a branch whose test fails
abbrev pub LeftsRun : Finder → Table → Substitution → State → Type 0
LeftsRun find table (pre p s) e = holds find table e p ≡ true → LeftsRun find table s e
LeftsRun find table (guard p s) e = holds find table e p ≡ true → LeftsRun find table s e
LeftsRun find table (choice s t) e = LeftsRun find table s e × LeftsRun find table t e
LeftsRun find table (if_else p s t) e = (holds find table e p ≡ true → LeftsRun find table s e)
    × (holds find table e p ≡ false → LeftsRun find table t e)
LeftsRun find table (any zs s) e = (vs : List MathValue) → are_values_for table zs vs ≡ true → LeftsRun find table s (with_values e zs vs)
LeftsRun find table (seq s t) e = LeftsRun find table s e × ((g : State) → Runs find table s e g → LeftsRun find table t g)
LeftsRun find table (par s t) e = LeftsRun find table s e × LeftsRun find table t e × ((g : State) × Runs find table s e g)
LeftsRun find table (assert p s) e = holds find table e p ≡ true → LeftsRun find table s e
LeftsRun find table (loop p s i v) e = (n : ℕ) (f : State) →
    Reached (Runs find table s) (λ x. holds find table x p) n e f → holds find table f p ≡ true → LeftsRun find table s f
LeftsRun find table _ e = Unit {0}
