-- Where inputs, outputs and what is bound are at home; which variables are a level's.
use Rattle.std.proofs.Common.{◌≡◌, inl, inr, ℕ, zero, suc, ◌+◌, ◌-◌, ◌<◌, ◌≤◌, List, [], ◌∷◌, ◌++◌, length, refl, sym, ◌∙◌, ap, subst, Bool, true, false, cond, ◌||◌, arith, nat_eq}
use Rattle.std.specs.Prelude.{Option, None, Some, ℤ, slice_get}
use Rattle.std.proofs.lemmas.Bool.Decides.{nat_tests}
use Rattle.std.proofs.lemmas.Option.{slice_get_past}
use Rattle.bk_gsl.specs.State.{among}
use Rattle.bk_dev.specs.declared.kind.Home.{Home}
use Rattle.bk_dev.specs.declared.kind.Home.TheVariants.{Constant, Input, Abstract, Concrete, Inner}
use Rattle.bk_dev.specs.Development.{Development}
use Rattle.bk_dev.specs.Facts.{AllAre, is_variable_of, is_inner_of, is_constant, home_of, StandsBelow, HomesAreThere}
use Rattle.bk_statics.specs.Components.{Component, is_machine, initialisation}
use Rattle.bk_statics.specs.Typings.{interval}
use Rattle.bk_statics.specs.Binders.{binder_count, binder_texts}
use Rattle.bk_statics.specs.Plan.{Plan, plan, input_count, output_count}
use Rattle.bk_statics.specs.LevelOf.{homes_as, variable_homes, new_homes, input_texts, output_texts, bound_texts, made}
use Rattle.bk_statics.specs.LevelLaws.{body_count}
use Rattle.bk_statics.proofs.Counted.{length-join, join-count, outputs-count, binder-count, bodies-count, inputs-count}
use Rattle.bk_statics.proofs.Stands.{get-left, get-right, split-at}
use Rattle.bk_statics.proofs.Homes.{as-count, variables-count, input-homes, as-home, IsHomeOf, IsInside, old-home, new-home, constant-home, variable-home, inside-home}
use Rattle.bk_statics.proofs.SubStays.{nat_eq-then, or-cases, or-left, or-right, interval-has}

module _ (int_max : ℤ) (higher : Development) (comp : Component) (homes-so : length higher.homes ≡ length higher.table.variables) where
  abbrev p : Plan
  p = plan higher comp

  abbrev new : Development
  new = made int_max higher comp (plan higher comp)

  abbrev base : ℕ
  base = length higher.table.variables

  abbrev inner : List (List ℕ)
  inner = output_texts p.level p.headed ++ (binder_texts (initialisation comp) ++ bound_texts p.headed)

  abbrev inputs : List Home
  inputs = cond (is_machine comp.kind) (homes_as Input (input_texts comp.operations)) []

  abbrev input_total : ℕ
  input_total = cond (is_machine comp.kind) (input_count comp.operations) 0

  inner-count : length inner ≡ output_count p.headed + (binder_count (initialisation comp) + body_count p.headed)
  inner-count = join-count (output_texts p.level p.headed) (binder_texts (initialisation comp) ++ bound_texts p.headed) (output_count p.headed) (binder_count (initialisation comp) + body_count p.headed) (outputs-count p.level p.headed)
      (join-count (binder_texts (initialisation comp)) (bound_texts p.headed) (binder_count (initialisation comp)) (body_count p.headed) (binder-count (initialisation comp)) (bodies-count p.headed))

  -- the homes behind those of constants and variables
  behind : (n : ℕ) → p.inputs_at ≤ n → home_of new n ≡ slice_get (inputs ++ homes_as (Inner p.level) inner) (n - p.inputs_at)
  behind n h =
      let c = as-count Constant comp.constants in
      let d = variables-count p.level p.variables in
      let rest = inputs ++ homes_as (Inner p.level) inner in
      let e : ((n - base) - length (homes_as Constant comp.constants)) - length (variable_homes p.level p.variables) ≡ n - p.inputs_at = omega arith in
      new-home int_max higher comp homes-so n (omega arith)
      ∙ (get-right (homes_as Constant comp.constants) (variable_homes p.level p.variables ++ rest) (n - base) (omega arith)
      ∙ (get-right (variable_homes p.level p.variables) rest ((n - base) - length (homes_as Constant comp.constants)) (omega arith)
      ∙ ap (slice_get rest) e))

  pub inner-home : (n : ℕ) → p.outputs_at ≤ n → n < p.outputs_at + (output_count p.headed + (binder_count (initialisation comp) + body_count p.headed)) → home_of new n ≡ Some (Inner p.level)
  inner-home n h k =
      let many : length inputs ≡ input_total = input-homes (is_machine comp.kind) comp.operations in
      let count = inner-count in
      behind n (omega arith) ∙ (get-right inputs (homes_as (Inner p.level) inner) (n - p.inputs_at) (omega arith) ∙ as-home (Inner p.level) inner ((n - p.inputs_at) - length inputs) (omega arith))

  pub input-home : is_machine comp.kind ≡ true → (n : ℕ) → p.inputs_at ≤ n → n < p.inputs_at + input_count comp.operations → home_of new n ≡ Some Input
  input-home m n h k =
      let same : inputs ≡ homes_as Input (input_texts comp.operations) = ap (λ b. cond b (homes_as Input (input_texts comp.operations)) []) m in
      let count : length (homes_as Input (input_texts comp.operations)) ≡ input_count comp.operations = as-count Input (input_texts comp.operations) ∙ inputs-count comp.operations in
      let texts = inputs-count comp.operations in
      behind n h ∙ (ap (λ l. slice_get (l ++ homes_as (Inner p.level) inner) (n - p.inputs_at)) same
      ∙ (get-left (homes_as Input (input_texts comp.operations)) (homes_as (Inner p.level) inner) (n - p.inputs_at) (omega arith) ∙ as-home Input (input_texts comp.operations) (n - p.inputs_at) (omega arith)))

  -- ---- the level's variables
  home-of-level : (o : Option Home) → IsHomeOf p.level o → is_variable_of p.level o ≡ true
  home-of-level (Some (Abstract j)) h = let s : j ≡ p.level = h in grind (arith, nat_tests)
  home-of-level (Some (Concrete j)) h = let s : j ≡ p.level = h in grind (arith, nat_tests)
  home-of-level None h = absurd h
  home-of-level (Some Constant) h = absurd h
  home-of-level (Some Input) h = absurd h
  home-of-level (Some (Inner j)) h = absurd h

  interval-at-home : (n k : ℕ) → p.variables_at ≤ n → n + k ≤ p.variables_at + length p.variables → AllAre (λ m. is_variable_of p.level (home_of new m)) (interval n k)
  interval-at-home n zero a b = tt
  interval-at-home n (suc k) a b = (home-of-level (home_of new n) (variable-home int_max higher comp homes-so n a (omega arith)), interval-at-home (suc n) k (omega arith) (omega arith))

  pub vars-at-home : AllAre (λ m. is_variable_of p.level (home_of new m)) (interval p.variables_at (length p.variables))
  vars-at-home = interval-at-home p.variables_at (length p.variables) (omega arith) (omega arith)

  not-inside : (o : Option Home) → IsInside o → is_variable_of p.level o ≡ true → ⊥
  not-inside None h e = absurd (cc)
  not-inside (Some Input) h e = absurd (cc)
  not-inside (Some (Inner j)) h e = absurd (cc)
  not-inside (Some Constant) h e = h
  not-inside (Some (Abstract j)) h e = h
  not-inside (Some (Concrete j)) h e = h

  not-old : (o : Option Home) → StandsBelow p.level o → is_variable_of p.level o ≡ true → ⊥
  not-old None h e = absurd (cc)
  not-old (Some Constant) h e = absurd (cc)
  not-old (Some Input) h e = absurd (cc)
  not-old (Some (Inner j)) h e = absurd (cc)
  not-old (Some (Abstract j)) h e = let l : j < p.level = h in let k : j ≡ p.level = nat_eq-then j p.level e in omega arith
  not-old (Some (Concrete j)) h e = let l : j < p.level = h in let k : j ≡ p.level = nat_eq-then j p.level e in omega arith

  -- no other variable is at home at the level, where those above are at home at levels above
  pub no-others : HomesAreThere higher → (n : ℕ) → is_variable_of p.level (home_of new n) ≡ true → among (interval p.variables_at (length p.variables)) n ≡ true
  no-others stand n h =
      let In = among (interval p.variables_at (length p.variables)) n ≡ true in
      split-at In n base (λ a. absurd (not-old (home_of higher n) (stand n) (sym (ap (is_variable_of p.level) (old-home int_max higher comp homes-so n a)) ∙ h)))
      (λ a. split-at In n p.variables_at (λ b. (let c = constant-home int_max higher comp homes-so n a b in let no : is_variable_of p.level (home_of new n) ≡ false = ap (is_variable_of p.level) c in absurd (cc)))
      (λ b. split-at In n p.inputs_at (λ c. interval-has p.variables_at (length p.variables) n b c) (λ c. absurd (not-inside (home_of new n) (inside-home int_max higher comp homes-so n c) h))))

  -- ---- outputs and what is bound
  inner-is : (n : ℕ) → home_of new n ≡ Some (Inner p.level) → is_inner_of p.level (home_of new n) ≡ true
  inner-is n e = let t : nat_eq p.level p.level ≡ true = grind (arith, nat_tests) in ap (is_inner_of p.level) e ∙ t

  pub all-inner : (n k : ℕ) → p.outputs_at ≤ n → n + k ≤ p.outputs_at + (output_count p.headed + (binder_count (initialisation comp) + body_count p.headed)) → AllAre (λ m. is_inner_of p.level (home_of new m)) (interval n k)
  all-inner n zero a b = tt
  all-inner n (suc k) a b = (inner-is n (inner-home n a (omega arith)), all-inner (suc n) k (omega arith) (omega arith))
