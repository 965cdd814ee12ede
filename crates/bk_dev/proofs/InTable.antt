-- The numbers of the last level, and of the variables with cells, are those of the table.
use Rattle.std.proofs.Common.{◌≡◌, inl, inr, ◌<◌, ℕ, List, [], ◌∷◌, ◌++◌, length, refl, subst, Bool, true, false, arith, None, Option}
use Rattle.bk_gsl.specs.Substitution.{Substitution, pre, guard, choice, if_else, any, seq, par, assert, loop}
use Rattle.bk_gsl.specs.State.{among}
use Rattle.bk_dev.specs.Development.{Head, Body, Level, Development, level_at, last}
use Rattle.bk_form.specs.Each.{Each}
use Rattle.bk_dev.specs.Facts.{AllAre, binders, is_input, is_variable_of, is_inner_of, home_of, IsHeadOf, IsSubOf, EachBody, IsLawful}
use Rattle.bk_dev.specs.Layout.{locals, operation_variables, cell_variables}
use Rattle.bk_dev.proofs.Levels.{level_fact, last_level}
use Rattle.bk_dev.proofs.FlatLevels.{passes-within}
use Rattle.bk_dev.proofs.Staying.{all-at}
use Rattle.bk_gsl.proofs.Reading.{among-left, among-right, among-cases}

abbrev pub blank_head : Head
blank_head = record { name = []; inputs = []; outputs = 0 }

module _ (dev : Development) (f : IsLawful dev) where
  abbrev old : ℕ
  old = length dev.table.variables

  abbrev low : Level
  low = level_at dev (last dev)

  abbrev InTable : List ℕ → Type 0
  InTable xs = (n : ℕ) → among xs n ≡ true → n < old

  -- ---- numbers of the table
  pub at-home : (g : Rattle.std.specs.Prelude.Option Rattle.bk_dev.specs.declared.kind.Home.Home → Bool) → g None ≡ false → (xs : List ℕ) → AllAre (λ n. g (home_of dev n)) xs → InTable xs
  at-home g none xs a n q = subst (λ m. n < m) f.homes (passes-within dev.homes g none n (all-at (λ m. g (home_of dev m)) xs a n q))

  pub vars-in : (k : ℕ) → k < length dev.levels → InTable (level_at dev k).vars
  vars-in k h = at-home (is_variable_of k) refl (level_at dev k).vars (level_fact dev f k h).vars

  pub inputs-in : (hs : List Head) → Each (IsHeadOf dev) hs → Each (λ h. InTable h.inputs) hs
  inputs-in [] e = tt
  inputs-in (h ∷ hs) e = (at-home is_input refl h.inputs e.0.inputs, inputs-in hs e.1)

  pub outputs-in : (k : ℕ) (hs : List Head) (ms bs : List Body) → EachBody dev k hs ms bs → Each (λ c. InTable c.outputs) bs
  outputs-in k [] [] [] e = tt
  outputs-in k [] [] (c ∷ bs) e = absurd e
  outputs-in k [] (m ∷ ms) bs e = absurd e
  outputs-in k (h ∷ hs) [] bs e = absurd e
  outputs-in k (h ∷ hs) (m ∷ ms) [] e = absurd e
  outputs-in k (h ∷ hs) (m ∷ ms) (c ∷ bs) e = (at-home (is_inner_of k) refl c.outputs e.0.outputs, outputs-in k hs ms bs e.1)

  last-there : last dev < length dev.levels
  last-there = let h : 0 < length dev.levels = f.some_level in omega (arith, h)

  pub low-vars : InTable low.vars
  low-vars = vars-in (last dev) last-there

  -- ---- the variables with cells
  either : (xs ys : List ℕ) → InTable xs → InTable ys → InTable (xs ++ ys)
  either xs ys h k n q = elim (among-cases xs ys n q) [ inl y ↦ h n y | inr y ↦ k n y ]

  locals-bound : (s : Substitution) (n : ℕ) → among (locals s) n ≡ true → among (binders s) n ≡ true
  locals-bound (pre p s) n q = locals-bound s n q
  locals-bound (guard p s) n q = locals-bound s n q
  locals-bound (choice s t) n q = elim (among-cases (locals s) (locals t) n q) [ inl y ↦ among-left (binders s) (binders t) n (locals-bound s n y) | inr y ↦ among-right (binders s) (binders t) n (locals-bound t n y) ]
  locals-bound (if_else p s t) n q = elim (among-cases (locals s) (locals t) n q) [ inl y ↦ among-left (binders s) (binders t) n (locals-bound s n y) | inr y ↦ among-right (binders s) (binders t) n (locals-bound t n y) ]
  locals-bound (any zs s) n q = elim (among-cases zs (locals s) n q) [ inl y ↦ among-left zs (binders s) n y | inr y ↦ among-right zs (binders s) n (locals-bound s n y) ]
  locals-bound (seq s t) n q = elim (among-cases (locals s) (locals t) n q) [ inl y ↦ among-left (binders s) (binders t) n (locals-bound s n y) | inr y ↦ among-right (binders s) (binders t) n (locals-bound t n y) ]
  locals-bound (par s t) n q = elim (among-cases (locals s) (locals t) n q) [ inl y ↦ among-left (binders s) (binders t) n (locals-bound s n y) | inr y ↦ among-right (binders s) (binders t) n (locals-bound t n y) ]
  locals-bound (assert p s) n q = locals-bound s n q
  locals-bound (loop p s i v) n q = locals-bound s n q
  locals-bound _ n q = absurd (cc)

  pub binders-in : (k : ℕ) (inputs outputs : List ℕ) (s : Substitution) → IsSubOf dev k inputs outputs s → InTable (binders s)
  binders-in k inputs outputs s w = at-home (is_inner_of k) refl (binders s) w.binds_inner

  locals-in : (k : ℕ) (inputs outputs : List ℕ) (s : Substitution) → IsSubOf dev k inputs outputs s → InTable (locals s)
  locals-in k inputs outputs s w n q = binders-in k inputs outputs s w n (locals-bound s n q)

  operations-in : (k : ℕ) (hs : List Head) (ms bs : List Body) → Each (IsHeadOf dev) hs → EachBody dev k hs ms bs → InTable (operation_variables hs bs)
  operations-in k [] [] [] x e n q = absurd (cc)
  operations-in k [] [] (c ∷ bs) x e n q = absurd e
  operations-in k [] (m ∷ ms) bs x e n q = absurd e
  operations-in k (h ∷ hs) [] bs x e n q = absurd e
  operations-in k (h ∷ hs) (m ∷ ms) [] x e n q = absurd e
  operations-in k (h ∷ hs) (m ∷ ms) (c ∷ bs) x e n q =
      either (h.inputs ++ c.outputs ++ locals c.sub) (operation_variables hs bs)
      (either (h.inputs ++ c.outputs) (locals c.sub) (either h.inputs c.outputs (at-home is_input refl h.inputs x.0.inputs) (at-home (is_inner_of k) refl c.outputs e.0.outputs)) (locals-in k h.inputs c.outputs c.sub e.0.sub))
      (operations-in k hs ms bs x.1 e.1) n q

  pub cells-in-table : InTable (cell_variables dev)
  cells-in-table =
      let l = last_level dev f in
      either (low.vars ++ locals low.init) (operation_variables dev.heads low.bodies)
      (either low.vars (locals low.init) low-vars (locals-in (last dev) [] [] low.init l.init))
      (operations-in (last dev) dev.heads (level_at dev 0).bodies low.bodies f.heads l.bodies)
