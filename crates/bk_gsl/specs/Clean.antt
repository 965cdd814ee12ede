-- Each formula that a substitution meets is defined; in an implementation executed expressions fit the machine instead.
use Rattle.std.specs.Prelude.{◌≡◌, ℕ, zero, suc, nat_eq, cond, Bool, true, false, List, [], ◌∷◌, Option, Some, None}
use Rattle.bk_val.specs.Value.{MathValue}
use Rattle.bk_form.specs.Table.{Table}
use Rattle.bk_form.specs.ArrayTable.{ArrayTable, row_of}
use Rattle.bk_form.specs.Formula.{Formula, variable, unary, binary}
use Rattle.bk_form.specs.Search.{Finder}
use Rattle.bk_form.specs.Environment.{State, at_state}
use Rattle.bk_form.specs.Defined.{Defined, Fits, is_index}
use Rattle.bk_form.specs.declared.operator.UnOp.TheVariants.{Single}
use Rattle.bk_form.specs.declared.operator.BinOp.TheVariants.{Over, Maps}
use Rattle.bk_form.specs.declared.arrays.ArrayRow.{ArrayRow}
use Rattle.bk_gsl.specs.Substitution.{Substitution, skip, assign, pre, guard, choice, if_else, any, seq, par, assert, becomes_such, loop}
use Rattle.bk_gsl.specs.State.{holds, value_at, are_values_for, with_values, firsts}
use Rattle.bk_gsl.specs.Run.{Runs, with_old}

-- a formula that is evaluated: defined, or where arrays are given, in an implementation, fitting
abbrev pub IsEvaluable : Finder → Table → Option ArrayTable → State → Formula → Type 0
IsEvaluable find table None e f = Defined find (at_state table e) f
IsEvaluable find table (Some arrays) e f = Fits find (at_state table e) arrays f

-- the index and the value that x <+ {i |-> v} writes to the array x
abbrev pub write_of : ℕ → Formula → Option (Formula × Formula)
write_of x (binary Over (variable y) (unary Single (binary Maps i v))) = cond (nat_eq x y) (Some (i, v)) None
write_of x f = None

-- a write to an array asks the index and both expressions; every other term for it, a fill of the whole array say, is evaluated
abbrev pub IsCleanWrite : Finder → Table → ArrayTable → ArrayRow → State → Option (Formula × Formula) → Formula → Type 0
IsCleanWrite find table arrays row e (Some w) f =
    Fits find (at_state table e) arrays w.0 × (is_index (Some row) (value_at find table e w.0) ≡ true)
    × Fits find (at_state table e) arrays w.1
IsCleanWrite find table arrays row e None f = Fits find (at_state table e) arrays f

-- the term for x in an implementation: where x is an array a write to it, and else an expression whose numbers fit
abbrev pub IsCleanAt : Finder → Table → ArrayTable → Option ArrayRow → State → ℕ → Formula → Type 0
IsCleanAt find table arrays None e x f = Fits find (at_state table e) arrays f
IsCleanAt find table arrays (Some row) e x f = IsCleanWrite find table arrays row e (write_of x f) f

-- the term of an assignment to the variable x
abbrev pub IsCleanTerm : Finder → Table → Option ArrayTable → State → ℕ → Formula → Type 0
IsCleanTerm find table None e x f = Defined find (at_state table e) f
IsCleanTerm find table (Some arrays) e x f = IsCleanAt find table arrays (row_of arrays x) e x f

-- the terms of an assignment, each for its variable
abbrev pub AreCleanTerms : Finder → Table → Option ArrayTable → State → List (ℕ × Formula) → Type 0
AreCleanTerms find table arrays e [] = Unit {0}
AreCleanTerms find table arrays e (p ∷ ps) = IsCleanTerm find table arrays e p.0 p.1 × AreCleanTerms find table arrays e ps

-- after n turns, the test true before each
abbrev pub Reached : (State → State → Type 0) → (State → Bool) → ℕ → State → State → Type 0
Reached run test zero e f = f ≡ e
Reached run test (suc n) e f = (test e ≡ true) × ((g : State) × run e g × Reached run test n g f)

-- tests of IF and WHILE and terms of assignments are evaluated; preconditions, guards, assertions, invariants, variants and the
-- predicates of x :(P) are only defined; what a precondition or an assertion encloses is met also where it is false
abbrev pub Clean : Finder → Table → Option ArrayTable → Substitution → State → Type 0
Clean find table arrays skip e = Unit {0}
Clean find table arrays (assign ps) e = AreCleanTerms find table arrays e ps
Clean find table arrays (pre p s) e = Defined find (at_state table e) p × Clean find table arrays s e
Clean find table arrays (guard p s) e = Defined find (at_state table e) p × (holds find table e p ≡ true → Clean find table arrays s e)
Clean find table arrays (choice s t) e = Clean find table arrays s e × Clean find table arrays t e
Clean find table arrays (if_else p s t) e =
    IsEvaluable find table arrays e p × (holds find table e p ≡ true → Clean find table arrays s e)
    × (holds find table e p ≡ false → Clean find table arrays t e)
Clean find table arrays (any zs s) e = (vs : List MathValue) → are_values_for table zs vs ≡ true →
    Clean find table arrays s (with_values e zs vs)
Clean find table arrays (seq s t) e = Clean find table arrays s e × ((g : State) → Runs find table s e g → Clean find table arrays t g)
-- clean where the left side is and, where the left side has a result, the right side is too
Clean find table arrays (par s t) e = Clean find table arrays s e × ((g : State) → Runs find table s e g → Clean find table arrays t e)
Clean find table arrays (assert p s) e = Defined find (at_state table e) p × Clean find table arrays s e
Clean find table arrays (becomes_such xs p) e = (vs : List MathValue) → are_values_for table (firsts xs) vs ≡ true →
    Defined find (at_state table (with_old xs e vs)) p
-- at each state that some number of turns reaches
Clean find table arrays (loop p s i v) e = (n : ℕ) (f : State) → Reached (Runs find table s) (λ x. holds find table x p) n e f →
    Defined find (at_state table f) i × IsEvaluable find table arrays f p
    × (holds find table f p ≡ true → Clean find table arrays s f × Defined find (at_state table f) v)
