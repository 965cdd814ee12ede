-- Where the variables of a component are at home, and what its initialisation sees.
use Rattle.std.proofs.Common.{◌≡◌, ℕ, zero, suc, ◌+◌, ◌-◌, ◌<◌, ◌≤◌, List, [], ◌∷◌, ◌++◌, length, refl, sym, ◌∙◌, ap, subst, Bool, true, false, cond, arith}
use Rattle.std.specs.Prelude.{Option, None, Some, slice_get, ℤ}
use Rattle.bk_dev.specs.declared.kind.Home.{Home}
use Rattle.bk_dev.specs.declared.kind.Home.TheVariants.{Constant, Input, Abstract, Concrete, Inner}
use Rattle.bk_dev.specs.Development.{Development}
use Rattle.bk_dev.specs.Facts.{home_of}
use Rattle.bk_statics.specs.Binders.{binder_count, binder_texts}
use Rattle.bk_raw.specs.Trees.ComponentTree.{RawOperation}
use Rattle.bk_statics.specs.Components.{Component, is_machine, initialisation}
use Rattle.bk_statics.specs.Plan.{output_count, input_count, Plan, plan, Declared}
use Rattle.bk_statics.specs.LevelOf.{homes_as, variable_homes, new_homes, new_texts, input_texts, output_texts, bound_texts, entries_from, types_at, made}
use Rattle.bk_statics.specs.LevelLaws.{body_count}
use Rattle.bk_statics.proofs.Counted.{length-join, join-count, new-count, outputs-count, binder-count, bodies-count, inputs-count, entries-count}
use Rattle.bk_statics.proofs.Stands.{get-left, get-right}

-- ---- each variable has a home
pub as-count : {A : Type 0} → (h : Home) (xs : List A) → length (homes_as h xs) ≡ length xs
as-count h [] = refl
as-count h (x ∷ xs) = ap suc (as-count h xs)

pub variables-count : (k : ℕ) (ds : List Declared) → length (variable_homes k ds) ≡ length ds
variables-count k [] = refl
variables-count k (d ∷ ds) = ap suc (variables-count k ds)

pub input-homes : (c : Bool) (os : List RawOperation) → length (cond c (homes_as Input (input_texts os)) []) ≡ cond c (input_count os) 0
input-homes true os = as-count Input (input_texts os) ∙ inputs-count os
input-homes false os = refl

pub homes-count : (p : Plan) (comp : Component) → length (new_homes p comp) ≡ length (new_texts p comp)
homes-count p comp =
    let c = cond (is_machine comp.kind) (input_count comp.operations) 0 in
    let inner = output_texts p.level p.headed ++ (binder_texts (initialisation comp) ++ bound_texts p.headed) in
    let n = output_count p.headed + (binder_count (initialisation comp) + body_count p.headed) in
    let bound = join-count (binder_texts (initialisation comp)) (bound_texts p.headed) (binder_count (initialisation comp)) (body_count p.headed) (binder-count (initialisation comp)) (bodies-count p.headed) in
    let e3 = as-count (Inner p.level) inner ∙ join-count (output_texts p.level p.headed) (binder_texts (initialisation comp) ++ bound_texts p.headed) (output_count p.headed) (binder_count (initialisation comp) + body_count p.headed) (outputs-count p.level p.headed) bound in
    let w3 = homes_as (Inner p.level) inner in
    let w2 = cond (is_machine comp.kind) (homes_as Input (input_texts comp.operations)) [] in
    let w1 = variable_homes p.level p.variables in
    let w0 = homes_as Constant comp.constants in
    let e2 = join-count w2 w3 c n (input-homes (is_machine comp.kind) comp.operations) e3 in
    let e1 = join-count w1 (w2 ++ w3) (length p.variables) (c + n) (variables-count p.level p.variables) e2 in
    join-count w0 (w1 ++ (w2 ++ w3)) (length comp.constants) (length p.variables + (c + n)) (as-count Constant comp.constants) e1 ∙ sym (new-count p comp)

pub homes-all : (int_max : ℤ) (higher : Development) (comp : Component) → length higher.homes ≡ length higher.table.variables → length (made int_max higher comp (plan higher comp)).homes ≡ length (made int_max higher comp (plan higher comp)).table.variables
homes-all int_max higher comp h =
    let p = plan higher comp in
    let new = entries_from (types_at int_max higher comp p) (length higher.table.variables) (new_texts p comp) in
    let a = length-join higher.homes (new_homes p comp) in
    let b = length-join higher.table.variables new in
    let c = entries-count (types_at int_max higher comp p) (length higher.table.variables) (new_texts p comp) in
    let d = homes-count p comp in
    omega arith

-- ---- which

pub as-home : {A : Type 0} → (h : Home) (xs : List A) (i : ℕ) → i < length xs → slice_get (homes_as h xs) i ≡ Some h
as-home h [] i l = absurd (omega arith)
as-home h (x ∷ xs) zero l = refl
as-home h (x ∷ xs) (suc i) l = as-home h xs i (omega arith)

-- no constant, and no variable of a level
abbrev pub IsInside : Option Home → Type 0
IsInside None = Unit {0}
IsInside (Some Input) = Unit {0}
IsInside (Some (Inner k)) = Unit {0}
IsInside _ = ⊥

inside-as : {A : Type 0} → (k : ℕ) (xs : List A) (i : ℕ) → IsInside (slice_get (homes_as (Inner k) xs) i)
inside-as k [] i = tt
inside-as k (x ∷ xs) zero = tt
inside-as k (x ∷ xs) (suc i) = inside-as k xs i

inside-input : (xs : List (List ℕ)) (rest : List Home) (i : ℕ) → ((j : ℕ) → IsInside (slice_get rest j)) → IsInside (slice_get (homes_as Input xs ++ rest) i)
inside-input [] rest i f = f i
inside-input (x ∷ xs) rest zero f = tt
inside-input (x ∷ xs) rest (suc i) f = inside-input xs rest i f

inside-inputs : (c : Bool) (xs : List (List ℕ)) (rest : List Home) (i : ℕ) → ((j : ℕ) → IsInside (slice_get rest j)) → IsInside (slice_get (cond c (homes_as Input xs) [] ++ rest) i)
inside-inputs true xs rest i f = inside-input xs rest i f
inside-inputs false xs rest i f = f i

-- a variable of level k
abbrev pub IsHomeOf : ℕ → Option Home → Type 0
IsHomeOf k (Some (Abstract j)) = j ≡ k
IsHomeOf k (Some (Concrete j)) = j ≡ k
IsHomeOf k _ = ⊥

variable-as : (k : ℕ) (ds : List Declared) (i : ℕ) → i < length ds → IsHomeOf k (slice_get (variable_homes k ds) i)
variable-as k [] i l = absurd (omega arith)
variable-as k (d ∷ ds) zero l = by-test d.is_concrete
  where
    by-test : (c : Bool) → IsHomeOf k (Some (cond c (Concrete k) (Abstract k)))
    by-test true = refl
    by-test false = refl
variable-as k (d ∷ ds) (suc i) l = variable-as k ds i (omega arith)

module _ (int_max : ℤ) (higher : Development) (comp : Component) (homes-so : length higher.homes ≡ length higher.table.variables) where
  abbrev p : Plan
  p = plan higher comp

  abbrev dev : Development
  dev = made int_max higher comp (plan higher comp)

  abbrev base : ℕ
  base = length higher.table.variables

  pub old-home : (n : ℕ) → n < base → home_of dev n ≡ home_of higher n
  old-home n h = get-left higher.homes (new_homes p comp) n (omega arith)

  pub new-home : (n : ℕ) → base ≤ n → home_of dev n ≡ slice_get (new_homes p comp) (n - base)
  new-home n h = let e : n - length higher.homes ≡ n - base = ap (λ m. n - m) homes-so in get-right higher.homes (new_homes p comp) n (omega arith) ∙ ap (slice_get (new_homes p comp)) e

  abbrev behind_constants : List Home
  behind_constants = variable_homes p.level p.variables ++ (cond (is_machine comp.kind) (homes_as Input (input_texts comp.operations)) [] ++ homes_as (Inner p.level) (output_texts p.level p.headed ++ (binder_texts (initialisation comp) ++ bound_texts p.headed)))

  abbrev behind_variables : List Home
  behind_variables = cond (is_machine comp.kind) (homes_as Input (input_texts comp.operations)) [] ++ homes_as (Inner p.level) (output_texts p.level p.headed ++ (binder_texts (initialisation comp) ++ bound_texts p.headed))

  pub constant-home : (n : ℕ) → base ≤ n → n < base + length comp.constants → home_of dev n ≡ Some Constant
  constant-home n h k =
      let c = as-count Constant comp.constants in
      new-home n h ∙ (get-left (homes_as Constant comp.constants) behind_constants (n - base) (omega arith) ∙ as-home Constant comp.constants (n - base) (omega arith))

  pub variable-home : (n : ℕ) → p.variables_at ≤ n → n < p.variables_at + length p.variables → IsHomeOf p.level (home_of dev n)
  variable-home n h k =
      let c = as-count Constant comp.constants in
      let d = variables-count p.level p.variables in
      subst (IsHomeOf p.level) (sym (new-home n (omega arith) ∙ (get-right (homes_as Constant comp.constants) behind_constants (n - base) (omega arith) ∙ get-left (variable_homes p.level p.variables) behind_variables ((n - base) - length (homes_as Constant comp.constants)) (omega arith)))) (variable-as p.level p.variables ((n - base) - length (homes_as Constant comp.constants)) (omega arith))

  pub inside-home : (n : ℕ) → p.inputs_at ≤ n → IsInside (home_of dev n)
  inside-home n h =
      let c = as-count Constant comp.constants in
      let d = variables-count p.level p.variables in
      let i = ((n - base) - length (homes_as Constant comp.constants)) - length (variable_homes p.level p.variables) in
      let e = new-home n (omega arith) ∙ (get-right (homes_as Constant comp.constants) behind_constants (n - base) (omega arith) ∙ get-right (variable_homes p.level p.variables) behind_variables ((n - base) - length (homes_as Constant comp.constants)) (omega arith)) in
      subst IsInside (sym e) (inside-inputs (is_machine comp.kind) (input_texts comp.operations) (homes_as (Inner p.level) (output_texts p.level p.headed ++ (binder_texts (initialisation comp) ++ bound_texts p.headed))) i (inside-as p.level (output_texts p.level p.headed ++ (binder_texts (initialisation comp) ++ bound_texts p.headed))))
