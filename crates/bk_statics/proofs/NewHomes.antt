-- Where the new variables are not at home; the levels above stay.
use Rattle.std.proofs.Common.{◌≡◌, ℕ, zero, suc, ◌+◌, ◌-◌, ◌<◌, ◌≤◌, List, [], ◌∷◌, ◌++◌, length, refl, sym, ◌∙◌, ap, subst, Bool, true, false, cond, arith, nat_eq}
use Rattle.std.specs.Prelude.{Option, None, Some, ℤ, slice_get, slice_index_or}
use Rattle.std.proofs.lemmas.Bool.Decides.{nat_tests}
use Rattle.bk_dev.specs.declared.kind.Home.{Home}
use Rattle.bk_dev.specs.declared.kind.Home.TheVariants.{Constant, Input, Abstract, Concrete, Inner}
use Rattle.bk_dev.specs.Development.{Head, Level, Development, level_at, blank_level}
use Rattle.bk_dev.specs.Facts.{is_variable_of, home_of, IsLawful, StandsBelow, HomesAreThere}
use Rattle.bk_dev.proofs.Levels.{level_fact}
use Rattle.bk_statics.specs.Components.{Component, is_machine, initialisation}
use Rattle.bk_statics.specs.Binders.{binder_texts}
use Rattle.bk_statics.specs.Plan.{Declared, Plan, plan, entries_of, machine_heads}
use Rattle.bk_statics.specs.LevelOf.{homes_as, variable_homes, new_homes, new_texts, entries_from, types_at, level_made, input_texts, output_texts, bound_texts}
use Rattle.bk_statics.specs.LevelLaws.{OldLevelsStay, HomesStay}
use Rattle.bk_statics.specs.Verdict.{level_below}
use Rattle.bk_statics.proofs.Counted.{length-join}
use Rattle.bk_statics.proofs.Stands.{get-left, get-right, split-at}
use Rattle.bk_statics.proofs.OldLevels.{level-kept}

-- ---- the new homes
module _ (P : Option Home → Type 0) (none : P None) where
  join-passes : (a b : List Home) → ((i : ℕ) → P (slice_get a i)) → ((i : ℕ) → P (slice_get b i)) → (i : ℕ) → P (slice_get (a ++ b) i)
  join-passes [] b f g i = g i
  join-passes (h ∷ hs) b f g zero = f 0
  join-passes (h ∷ hs) b f g (suc i) = join-passes hs b (λ j. f (suc j)) g i

  as-passes : {A : Type 0} → (h : Home) (xs : List A) → P (Some h) → (i : ℕ) → P (slice_get (homes_as h xs) i)
  as-passes h [] k i = none
  as-passes h (x ∷ xs) k zero = k
  as-passes h (x ∷ xs) k (suc i) = as-passes h xs k i

  variables-pass : (k : ℕ) (ds : List Declared) → P (Some (Abstract k)) → P (Some (Concrete k)) → (i : ℕ) → P (slice_get (variable_homes k ds) i)
  variables-pass k [] a c i = none
  variables-pass k (d ∷ ds) a c zero = by-test d.is_concrete
    where
      by-test : (b : Bool) → P (Some (cond b (Concrete k) (Abstract k)))
      by-test true = c
      by-test false = a
  variables-pass k (d ∷ ds) a c (suc i) = variables-pass k ds a c i

  either-pass : (b : Bool) (hs : List Home) → ((i : ℕ) → P (slice_get hs i)) → (i : ℕ) → P (slice_get (cond b hs []) i)
  either-pass true hs f i = f i
  either-pass false hs f i = none

  pub new-pass : (p : Plan) (comp : Component) → P (Some Constant) → P (Some Input) → P (Some (Abstract p.level)) → P (Some (Concrete p.level)) → P (Some (Inner p.level)) → (i : ℕ) → P (slice_get (new_homes p comp) i)
  new-pass p comp c n a k r =
      let inner = output_texts p.level p.headed ++ (binder_texts (initialisation comp) ++ bound_texts p.headed) in
      let inputs = cond (is_machine comp.kind) (homes_as Input (input_texts comp.operations)) [] in
      join-passes (homes_as Constant comp.constants) (variable_homes p.level p.variables ++ (inputs ++ homes_as (Inner p.level) inner)) (as-passes Constant comp.constants c)
      (join-passes (variable_homes p.level p.variables) (inputs ++ homes_as (Inner p.level) inner) (variables-pass p.level p.variables a k)
      (join-passes inputs (homes_as (Inner p.level) inner) (either-pass (is_machine comp.kind) (homes_as Input (input_texts comp.operations)) (as-passes Input (input_texts comp.operations) n)) (as-passes (Inner p.level) inner r)))

-- what holds of the old homes, and of new ones, holds of all
all-pass : (P : Option Home → Type 0) → P None → (higher : Development) (comp : Component) → ((n : ℕ) → P (slice_get higher.homes n)) → ((i : ℕ) → P (slice_get (new_homes (plan higher comp) comp) i)) → (n : ℕ) → P (slice_get (higher.homes ++ new_homes (plan higher comp) comp) n)
all-pass P none higher comp f g n = join-passes P none higher.homes (new_homes (plan higher comp) comp) f g n

-- ---- homes stand in levels
below-more : (k : ℕ) (o : Option Home) → StandsBelow k o → StandsBelow (k + 1) o
below-more k None h = tt
below-more k (Some Constant) h = tt
below-more k (Some Input) h = tt
below-more k (Some (Abstract j)) h = let l : j < k = h in omega arith
below-more k (Some (Concrete j)) h = let l : j < k = h in omega arith
below-more k (Some (Inner j)) h = let l : j < k = h in omega arith

pub homes-stay : HomesStay
homes-stay int_max higher comp so h n =
    let p = plan higher comp in
    let k = length higher.levels in
    let l = level_made int_max (types_at int_max higher comp p) p comp in
    let long : length (higher.levels ++ l ∷ []) ≡ k + 1 = length-join higher.levels (l ∷ []) in
    subst (λ m. StandsBelow m (home_of (level_below int_max higher comp) n)) (sym long)
    (all-pass (StandsBelow (k + 1)) tt higher comp (λ m. below-more k (home_of higher m) (h m)) (new-pass (StandsBelow (k + 1)) tt p comp tt tt (omega arith) (omega arith) (omega arith)) n)

-- ---- old levels
pub index-left : {A : Type 0} → (xs ys : List A) (k : ℕ) (d : A) → k < length xs → slice_index_or (xs ++ ys) k d ≡ slice_index_or xs k d
index-left [] ys k d h = absurd (omega arith)
index-left (x ∷ xs) ys zero d h = refl
index-left (x ∷ xs) ys (suc k) d h = index-left xs ys k d (omega arith)

not-machine : (b : Bool) (a c : List Head) → b ≡ false → cond b a c ≡ c
not-machine false a c e = refl
not-machine true a c e = absurd (cc)

pub old-levels-stay : OldLevelsStay
old-levels-stay int_max higher comp lawful kind k b =
    let p = plan higher comp in
    let new = level_below int_max higher comp in
    let l = level_made int_max (types_at int_max higher comp p) p comp in
    let at : (j : ℕ) → j < length higher.levels → level_at new j ≡ level_at higher j = λ j h. index-left higher.levels (l ∷ []) j blank_level h in
    level-kept higher new lawful.table
    (record { sets = (entries_of comp.sets, refl); variables = (entries_from (types_at int_max higher comp p) p.constants_at (new_texts p comp), refl) })
    (λ n h. get-left higher.homes (new_homes p comp) n h)
    (not-machine (is_machine comp.kind) (machine_heads p.inputs_at comp.operations) higher.heads kind)
    (ap (λ (m : Level). m.bodies) (at 0 lawful.some_level))
    (λ j n h i. ap (is_variable_of j) (get-right higher.homes (new_homes p comp) n i) ∙ new-pass (λ o. is_variable_of j o ≡ false) refl p comp refl refl (other j h) (other j h) refl (n - length higher.homes))
    (λ j h. ap (λ (m : Level). m.kind) (at j h))
    k b (level_at higher k) (level_fact higher lawful k b)
  where
    other : (j : ℕ) → j < length higher.levels → nat_eq (length higher.levels) j ≡ false
    other j h = grind (arith, nat_tests)
