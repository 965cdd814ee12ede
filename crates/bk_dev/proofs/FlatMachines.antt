-- What the flattened of a lawful development runs, the development runs.
use Rattle.std.proofs.Common.{◌≡◌, inl, inr, ◌<◌, ◌≤◌, ℕ, zero, suc, ◌+◌, List, [], ◌∷◌, length, refl, ◌∙◌, ap, subst, true, ◌||◌, arith}
use Rattle.std.specs.Prelude.{slice_index_or}
use Rattle.bk_form.specs.Table.{Table, IsWellFormed}
use Rattle.bk_form.specs.Search.{Finder}
use Rattle.bk_form.specs.Environment.{State}
use Rattle.bk_form.proofs.Members.{or-cases}
use Rattle.bk_gsl.specs.Substitution.{Substitution}
use Rattle.bk_gsl.specs.State.{among}
use Rattle.bk_gsl.specs.Run.{Runs}
use Rattle.bk_gsl.specs.Flat.{copied, flat_from}
use Rattle.bk_dev.specs.Development.{Head, Body, Level, Development, blank_body, blank_level, level_at, body_of, body_at}
use Rattle.bk_dev.specs.Facts.{AllAre, binders, is_constant, is_input, is_variable_of, is_variable_above, is_inner_of, home_of, names_own, names_joined, writes_own, IsSubOf, IsLawful}
use Rattle.bk_dev.specs.Flattened.{copied_in_bodies, copied_in_level, copied_in_levels, flat_bodies, flat_level, flat_levels, flattened}
use Rattle.bk_dev.specs.Laws.{FlattenedRuns}
use Rattle.bk_dev.proofs.Staying.{all-at}
use Rattle.bk_gsl.proofs.WiderRuns.{runs_wider}
use Rattle.bk_dev.proofs.Levels.{level_fact, body-at, head-at}
use Rattle.bk_dev.proofs.Flattening.{CopiesAt, copies-left, copies-right}
use Rattle.bk_dev.proofs.FlatRuns.{Below, runs-flat-back}
use Rattle.bk_dev.proofs.FlatLevels.{wider, own-old, within, listed, copies-typed, passes-within}
use Rattle.bk_dev.proofs.Room.{flat-formed}

-- where the copies of a body, or of a level, begin
body-place : (table : Table) (old : ℕ) (bs : List Body) (j : ℕ) → old ≤ j → CopiesAt table j (copied_in_bodies bs) → (o : ℕ) →
    (i : ℕ) × ((slice_index_or (flat_bodies j bs) o blank_body).sub ≡ flat_from i (slice_index_or bs o blank_body).sub) × (old ≤ i) × CopiesAt table i (copied (slice_index_or bs o blank_body).sub)
body-place table old [] j m c o = (j, refl, m, tt)
body-place table old (b ∷ bs) j m c zero = (j, refl, m, copies-left table j (copied b.sub) (copied_in_bodies bs) c)
body-place table old (b ∷ bs) j m c (suc o) = body-place table old bs (j + length (copied b.sub)) (omega (arith, m)) (copies-right table j (copied b.sub) (copied_in_bodies bs) c) o

level-place : (table : Table) (old : ℕ) (ls : List Level) (j : ℕ) → old ≤ j → CopiesAt table j (copied_in_levels ls) → (k : ℕ) → k < length ls →
    (i : ℕ) × (slice_index_or (flat_levels j ls) k blank_level ≡ flat_level i (slice_index_or ls k blank_level)) × (old ≤ i) × CopiesAt table i (copied_in_level (slice_index_or ls k blank_level))
level-place table old [] j m c k h = absurd (omega (arith, h))
level-place table old (l ∷ ls) j m c zero h = (j, refl, m, copies-left table j (copied_in_level l) (copied_in_levels ls) c)
level-place table old (l ∷ ls) j m c (suc k) h = level-place table old ls (j + length (copied_in_level l)) (omega (arith, m)) (copies-right table j (copied_in_level l) (copied_in_levels ls) c) k (omega (arith, h))

module _ (find : Finder) (dev : Development) (f : IsLawful dev) (well : IsWellFormed (flattened dev).table) where
  abbrev small : ℕ
  small = length dev.table.variables

  abbrev wide : Table
  wide = (flattened dev).table

  copies : CopiesAt wide small (copied_in_levels dev.levels)
  copies = copies-typed dev.table wide f.table (wider dev f well) dev.table.variables (copied_in_levels dev.levels) refl (listed dev f well)

  joined-old : (k n : ℕ) → names_joined dev k n ≡ true → n < small
  joined-old k n h = subst (λ m. n < m) f.homes (elim (or-cases (is_constant (home_of dev n) || is_variable_of k (home_of dev n)) (is_variable_above k (home_of dev n)) h) [
    | inl y ↦ elim (or-cases (is_constant (home_of dev n)) (is_variable_of k (home_of dev n)) y) [
      | inl q ↦ passes-within dev.homes is_constant refl n q
      | inr q ↦ passes-within dev.homes (is_variable_of k) refl n q
    ]
    | inr y ↦ above k y
  ])
    where
      above : (k : ℕ) → is_variable_above k (home_of dev n) ≡ true → n < length dev.homes
      above zero q = absurd (cc)
      above (suc k) q = passes-within dev.homes (is_variable_of k) refl n q

  sub-runs : (k : ℕ) (inputs outputs : List ℕ) → AllAre (λ n. is_input (home_of dev n)) inputs → AllAre (λ n. is_inner_of k (home_of dev n)) outputs → (s : Substitution) → IsSubOf dev k inputs outputs s → (j : ℕ) → small ≤ j → CopiesAt wide j (copied s) → (e g : State) → Runs find wide (flat_from j s) e g → Runs find dev.table s e g
  sub-runs k inputs outputs ins outs s w j m c e g r =
      let bound = λ (n : ℕ) (q : among (binders s) n ≡ true). subst (λ x. n < x) f.homes (passes-within dev.homes (is_inner_of k) refl n (all-at (λ n. is_inner_of k (home_of dev n)) (binders s) w.binds_inner n q)) in
      let below : Below find wide small (names_own dev k inputs outputs) (names_joined dev k) = record { visible_below = own-old dev f well k inputs outputs ins outs; above_below = joined-old k } in
      let back = runs-flat-back find wide small (names_own dev k inputs outputs) (names_joined dev k) (writes_own dev k outputs) (within dev f well k inputs outputs) below j m s w.stays bound c e g r in
      (runs_wider dev.table wide f.table (wider dev f well) find s w.types e g).0 back

  init-runs : (k : ℕ) → k < length dev.levels → (e g : State) → Runs find wide (level_at (flattened dev) k).init e g → Runs find dev.table (level_at dev k).init e g
  init-runs k h e g r =
      let p = level-place wide small dev.levels small (omega arith) copies k h in
      let l = level_fact dev f k h in
      sub-runs k [] [] tt tt (level_at dev k).init l.init p.0 p.2 (copies-left wide p.0 (copied (level_at dev k).init) (copied_in_bodies (level_at dev k).bodies) p.3) e g (subst (λ x. Runs find wide x.init e g) p.1 r)

  abbrev no_head : Head
  no_head = record { name = []; inputs = []; outputs = 0 }

  body-runs : (k : ℕ) → k < length dev.levels → (o : ℕ) → o < length dev.heads → (e g : State) → Runs find wide (body_at (flattened dev) k o).sub e g → Runs find dev.table (body_at dev k o).sub e g
  body-runs k h o m e g r =
      let p = level-place wide small dev.levels small (omega arith) copies k h in
      let l = level_fact dev f k h in
      let b = body-at dev k dev.heads (level_at dev 0).bodies (level_at dev k).bodies no_head o m l.bodies in
      let x = head-at dev dev.heads f.heads o no_head (record { inputs = tt; distinct = tt }) in
      let under = p.2 in
      let place = body-place wide small (level_at dev k).bodies (p.0 + length (copied (level_at dev k).init)) (omega (arith, under)) (copies-right wide p.0 (copied (level_at dev k).init) (copied_in_bodies (level_at dev k).bodies) p.3) o in
      let there : (body_at (flattened dev) k o).sub ≡ flat_from place.0 (body_at dev k o).sub = ap (λ y. (body_of y o).sub) p.1 ∙ place.1 in
      sub-runs k (slice_index_or dev.heads o no_head).inputs (body_at dev k o).outputs x.inputs b.outputs (body_at dev k o).sub b.sub place.0 place.2 place.3 e g (subst (λ y. Runs find wide y e g) there r)

pub flattened_runs : FlattenedRuns
flattened_runs = record {
  init = λ find dev f k h e g r. init-runs find dev f (flat-formed dev f.table) k h e g r;
  operations = λ find dev f k h o m e g r. body-runs find dev f (flat-formed dev f.table) k h o m e g r;
}
