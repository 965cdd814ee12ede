-- With a level more, each symbol has an entry in the table and a home at a level that is there.
use Rattle.std.proofs.Common.{◌≡◌, ℕ, zero, suc, ◌+◌, List, [], ◌∷◌, ◌++◌, length, map, refl, sym, ◌∙◌, ap, subst, true, false, length-append, arith}
use Rattle.std.specs.Prelude.{Option, None, Some, slice_get}
use Rattle.std.proofs.lemmas.List.{length-map}
use Rattle.bk_dev.specs.declared.kind.Home.{Home}
use Rattle.bk_dev.specs.declared.kind.Home.TheVariants.{Constant, Input, Abstract, Concrete, Inner}
use Rattle.bk_dev.specs.Facts.{StandsBelow}
use Rattle.bk_statics.specs.Typings.{Typing}
use Rattle.bk_phases.specs.Symbols.{Role, a_constant, a_level_variable, an_input, an_output, a_local, an_inner_value, Symbol}
use Rattle.bk_phases.specs.Resolved.{Resolved}
use Rattle.bk_phases.specs.Types.{Types}
use Rattle.bk_phases.specs.LevelOf.{home_at, table_entries, level_of}
use Rattle.bk_phases.specs.Laws.{LevelGrows}

entries-count : (typing : Typing) (k n : ℕ) (ss : List Symbol) → length (table_entries typing k n ss) ≡ length ss
entries-count typing k n [] = refl
entries-count typing k n (s ∷ ss) = ap suc (entries-count typing k (suc n) ss)

-- ---- homes
join-passes : (P : Option Home → Type 0) (a b : List Home) → ((i : ℕ) → P (slice_get a i)) → ((i : ℕ) → P (slice_get b i)) → (i : ℕ) → P (slice_get (a ++ b) i)
join-passes P [] b f g i = g i
join-passes P (h ∷ hs) b f g zero = f 0
join-passes P (h ∷ hs) b f g (suc i) = join-passes P hs b (λ j. f (suc j)) g i

below-more : (k : ℕ) (h : Option Home) → StandsBelow k h → StandsBelow (k + 1) h
below-more k None h = tt
below-more k (Some Constant) h = tt
below-more k (Some Input) h = tt
below-more k (Some (Abstract j)) h = omega (arith, h)
below-more k (Some (Concrete j)) h = omega (arith, h)
below-more k (Some (Inner j)) h = omega (arith, h)

role-below : (k : ℕ) (r : Role) → StandsBelow (k + 1) (Some (home_at k r))
role-below k a_constant = tt
role-below k (a_level_variable true m) = omega arith
role-below k (a_level_variable false m) = omega arith
role-below k an_input = tt
role-below k an_output = omega arith
role-below k a_local = omega arith
role-below k an_inner_value = omega arith

symbols-below : (k : ℕ) (ss : List Symbol) (i : ℕ) → StandsBelow (k + 1) (slice_get (map (λ (s : Symbol). home_at k s.role) ss) i)
symbols-below k [] i = tt
symbols-below k (s ∷ ss) zero = role-below k s.role
symbols-below k (s ∷ ss) (suc i) = symbols-below k ss i

-- ---- the level
pub grows : (types : Types) (r : Resolved) → LevelGrows types r
grows types r =
    let dev = r.above in
    let k = length dev.levels in
    let base = length dev.table.variables in
    let entries = table_entries types.of k base r.symbols in
    let new = map (λ (s : Symbol). home_at k s.role) r.symbols in
    let size : length (dev.table.variables ++ entries) ≡ base + length r.symbols = length-append dev.table.variables entries ∙ ap (λ n. base + n) (entries-count types.of k base r.symbols) in
    let count : length (dev.homes ++ new) ≡ length dev.homes + length r.symbols = length-append dev.homes new ∙ ap (λ n. length dev.homes + n) (length-map r.symbols (λ (s : Symbol). home_at k s.role)) in
    let levels : length (dev.levels ++ level_of types r ∷ []) ≡ k + 1 = length-append dev.levels (level_of types r ∷ []) in
    record {
      entries = size;
      homes = λ h. count ∙ (ap (λ n. n + length r.symbols) h ∙ sym size);
      stay = λ h i. subst (λ n. StandsBelow n (slice_get (dev.homes ++ new) i)) (sym levels) (join-passes (StandsBelow (k + 1)) dev.homes new (λ j. below-more k (slice_get dev.homes j) (h j)) (symbols-below k r.symbols) i);
    }
