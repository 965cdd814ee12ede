-- What a substitution can do from a state, and where all that it does ends (B-Book, generalized substitutions).
use Rattle.std.specs.Prelude.{◌≡◌, ◌⊎◌, ℕ, zero, suc, nat_eq, Bool, true, false, cond, List, [], ◌∷◌}
use Rattle.bk_val.specs.Value.{MathValue}
use Rattle.bk_form.specs.Table.{Table}
use Rattle.bk_form.specs.Formula.{Formula}
use Rattle.bk_form.specs.Search.{Finder}
use Rattle.bk_form.specs.Environment.{State}
use Rattle.bk_form.specs.Replacement.{looked_up}
use Rattle.bk_gsl.specs.Substitution.{Substitution, skip, assign, pre, guard, choice, if_else, any, seq, par, assert, becomes_such, loop}
use Rattle.bk_gsl.specs.State.{holds, value_at, are_values_for, with_values, among, over, firsts}
use Rattle.bk_gsl.specs.Writes.{written}

-- the state after an assignment: all terms are read before any variable changes
abbrev pub assigned : Finder → Table → List (ℕ × Formula) → State → State
assigned find table ps e n = value_at find table e (looked_up ps n)

-- the variable whose old value the number stands for
abbrev pub old_of : List (ℕ × ℕ) → ℕ → ℕ
old_of [] n = n
old_of (x ∷ xs) n = cond (nat_eq n x.1) x.0 (old_of xs n)

-- what the predicate of x :(P) sees: new values for the variables, and the old ones under their numbers
abbrev pub with_old : List (ℕ × ℕ) → State → List MathValue → State
with_old xs e vs = with_values (λ n. e (old_of xs n)) (firsts xs) vs

-- n turns of a loop: the test is true at the start of each and false in the end
abbrev pub Turns : (State → State → Type 0) → (State → Bool) → ℕ → State → State → Type 0
Turns run test zero e f = (test e ≡ false) × (f ≡ e)
Turns run test (suc n) e f = (test e ≡ true) × ((g : State) × run e g × Turns run test n g f)

-- after at most n turns the test is false, whatever the body does, and the body ends at each turn
abbrev pub Bounded : (State → State → Type 0) → (State → Type 0) → (State → Bool) → ℕ → State → Type 0
Bounded run ends test zero e = test e ≡ false
Bounded run ends test (suc n) e = (test e ≡ false) ⊎ (ends e × ((f : State) → run e f → Bounded run ends test n f))

-- the substitution can take e to f; a precondition or an assertion changes no run
abbrev pub Runs : Finder → Table → Substitution → State → State → Type 0
Runs find table skip e f = f ≡ e
Runs find table (assign ps) e f = f ≡ assigned find table ps e
Runs find table (pre p s) e f = Runs find table s e f
Runs find table (guard p s) e f = (holds find table e p ≡ true) × Runs find table s e f
Runs find table (choice s t) e f = Runs find table s e f ⊎ Runs find table t e f
Runs find table (if_else p s t) e f =
    ((holds find table e p ≡ true) × Runs find table s e f) ⊎ ((holds find table e p ≡ false) × Runs find table t e f)
-- locals take every value of their types at the start, and are put back afterwards
Runs find table (any zs s) e f =
    (vs : List MathValue) × (are_values_for table zs vs ≡ true)
    × ((g : State) × Runs find table s (with_values e zs vs) g × (f ≡ over (among zs) e g))
Runs find table (seq s t) e f = (g : State) × Runs find table s e g × Runs find table t g f
-- both sides start from one state; what the left side writes is the left side's
Runs find table (par s t) e f =
    (g : State) × (h : State) × Runs find table s e g × Runs find table t e h × (f ≡ over (among (written s)) g h)
Runs find table (assert p s) e f = Runs find table s e f
Runs find table (becomes_such xs p) e f =
    (vs : List MathValue) × (are_values_for table (firsts xs) vs ≡ true) × (holds find table (with_old xs e vs) p ≡ true)
    × (f ≡ with_values e (firsts xs) vs)
Runs find table (loop p s i v) e f = (n : ℕ) × Turns (Runs find table s) (λ x. holds find table x p) n e f

-- every execution from e ends, and each precondition and assertion that is met is true
abbrev pub Ends : Finder → Table → Substitution → State → Type 0
Ends find table skip e = Unit {0}
Ends find table (assign ps) e = Unit {0}
Ends find table (pre p s) e = (holds find table e p ≡ true) × Ends find table s e
Ends find table (guard p s) e = holds find table e p ≡ true → Ends find table s e
Ends find table (choice s t) e = Ends find table s e × Ends find table t e
Ends find table (if_else p s t) e =
    (holds find table e p ≡ true → Ends find table s e) × (holds find table e p ≡ false → Ends find table t e)
Ends find table (any zs s) e = (vs : List MathValue) → are_values_for table zs vs ≡ true → Ends find table s (with_values e zs vs)
Ends find table (seq s t) e = Ends find table s e × ((g : State) → Runs find table s e g → Ends find table t g)
Ends find table (par s t) e = Ends find table s e × Ends find table t e
Ends find table (assert p s) e = (holds find table e p ≡ true) × Ends find table s e
Ends find table (becomes_such xs p) e = Unit {0}
Ends find table (loop p s i v) e = (n : ℕ) × Bounded (Runs find table s) (Ends find table s) (λ x. holds find table x p) n e
