-- Entries of copies behind a table, and the bodies and levels whose copies they are, one after another.
use Rattle.std.proofs.Common.{◌≡◌, ◌<◌, ◌≤◌, ◌+◌, ℕ, zero, suc, List, [], ◌∷◌, ◌++◌, length, length-append, drop, get_or, refl, sym, ◌∙◌, ap, subst, true, nat_eq, arith}
use Rattle.std.specs.Prelude.{Option, Some, None, slice_get}
use Rattle.std.specs.List.{filter_map, cons_option}
use Rattle.std.proofs.lemmas.List.{append-nil, append_assoc, drop_more, drop_all}
use Rattle.std.proofs.lemmas.Option.{slice_get_within}
use Rattle.bk_form.specs.Table.{Table, VariableEntry}
use Rattle.bk_form.specs.Each.{Each}
use Rattle.bk_form.proofs.Members.{or-left, or-right}
use Rattle.bk_gsl.specs.State.{among}
use Rattle.bk_gsl.specs.Substitution.{Substitution}
use Rattle.bk_gsl.specs.Typed.{IsListed}
use Rattle.bk_gsl.specs.Flat.{copied, flat_from, flat, flat_table}
use Rattle.bk_gsl.proofs.States.{nat_eq-self}
use Rattle.bk_dev.specs.Development.{Body, Level, Development}
use Rattle.bk_dev.specs.Facts.{IsDevelopment}
use Rattle.bk_dev.specs.Flattened.{copied_in_bodies, copied_in_level, copied_in_levels, flat_bodies, flat_level, flat_levels}
use Rattle.bk_dev.proofs.FlatLevels.{listed as copies-listed}
use Rattle.bk_dev.proofs.Room.{development-formed}
use Rattle.bk_par.specs.Overlaps.{overlaps}
use Rattle.bk_po.specs.FlatFacts.{IsApart, with_entries, AreBelow}

-- ---- numbers below a bound
pub below_left : (b : ℕ) (xs ys : List ℕ) → AreBelow b (xs ++ ys) → AreBelow b xs
below_left b [] ys h = tt
below_left b (x ∷ xs) ys h = (h.0, below_left b xs ys h.1)

pub below_right : (b : ℕ) (xs ys : List ℕ) → AreBelow b (xs ++ ys) → AreBelow b ys
below_right b [] ys h = h
below_right b (x ∷ xs) ys h = below_right b xs ys h.1

pub below_more : (b c : ℕ) (xs : List ℕ) → b ≤ c → AreBelow b xs → AreBelow c xs
below_more b c [] l h = tt
below_more b c (x ∷ xs) l h = (omega (arith, l, h.0), below_more b c xs l h.1)

below-all : (b : ℕ) (xs : List ℕ) → ((n : ℕ) → among xs n ≡ true → n < b) → AreBelow b xs
below-all b [] h = tt
below-all b (x ∷ xs) h = (h x (or-left (nat_eq x x) (among xs x) (nat_eq-self x)), below-all b xs (λ n q. h n (or-right (nat_eq n x) (among xs n) q)))

listed-below : (table : Table) (n : ℕ) → IsListed table n → n < length table.variables
listed-below table n l = at (slice_get table.variables n) refl l.1
  where
    at : (o : Option VariableEntry) → slice_get table.variables n ≡ o → Rattle.std.specs.Option.option_map (λ (v : VariableEntry). v.of_type) o ≡ Some l.0 → n < length table.variables
    at None q k = absurd (cc)
    at (Some v) q k = slice_get_within table.variables n v q

-- all that a development copies is in its table
pub development_below : (dev : Development) → IsDevelopment dev → AreBelow (length dev.table.variables) (copied_in_levels dev.levels)
development_below dev d = below-all (length dev.table.variables) (copied_in_levels dev.levels) (λ n q. listed-below dev.table n (copies-listed dev d.lawful (development-formed dev d) n q))

-- ---- entries
get-first : {A : Type 0} (xs ys : List A) (n : ℕ) → n < length xs → slice_get (xs ++ ys) n ≡ slice_get xs n
get-first [] ys n h = absurd (omega (arith, h))
get-first (x ∷ xs) ys zero h = refl
get-first (x ∷ xs) ys (suc n) h = get-first xs ys n (omega (arith, h))

picked-same : (vs more : List VariableEntry) (ns : List ℕ) → AreBelow (length vs) ns → filter_map (slice_get (vs ++ more)) ns ≡ filter_map (slice_get vs) ns
picked-same vs more [] h = refl
picked-same vs more (n ∷ ns) h =
    let first = get-first vs more n h.0 in
    let rest = picked-same vs more ns h.1 in
    λ i. cons_option (first i) (rest i)

picked-append : (f : ℕ → Option VariableEntry) (xs ys : List ℕ) → filter_map f (xs ++ ys) ≡ filter_map f xs ++ filter_map f ys
picked-append f [] ys = refl
picked-append f (x ∷ xs) ys = at (f x) (picked-append f xs ys)
  where
    at : (o : Option VariableEntry) → filter_map f (xs ++ ys) ≡ filter_map f xs ++ filter_map f ys → cons_option o (filter_map f (xs ++ ys)) ≡ cons_option o (filter_map f xs) ++ filter_map f ys
    at None q = q
    at (Some v) q = ap (λ vs. v ∷ vs) q

picked-length : (vs : List VariableEntry) (ns : List ℕ) → AreBelow (length vs) ns → length (filter_map (slice_get vs) ns) ≡ length ns
picked-length vs [] h = refl
picked-length vs (n ∷ ns) h = at (slice_get vs n) (there vs n h.0) (picked-length vs ns h.1)
  where
    there : (vs : List VariableEntry) (n : ℕ) → n < length vs → (v : VariableEntry) × (slice_get vs n ≡ Some v)
    there [] n l = absurd (omega (arith, l))
    there (v ∷ vs) zero l = (v, refl)
    there (v ∷ vs) (suc n) l = there vs n (omega (arith, l))

    at : (o : Option VariableEntry) → (v : VariableEntry) × (o ≡ Some v) → length (filter_map (slice_get vs) ns) ≡ length ns → length (cons_option o (filter_map (slice_get vs) ns)) ≡ suc (length ns)
    at None k q = absurd (let e : None ≡ Some k.0 = k.1 in cc)
    at (Some v) k q = ap suc q

-- no more entries
pub entries_none : (t : Table) → with_entries t [] ≡ t
entries_none t = λ i. record t { variables = append-nil t.variables i }

-- entries behind entries
pub entries_more : (t : Table) (xs ys : List ℕ) → AreBelow (length t.variables) ys → with_entries (with_entries t xs) ys ≡ with_entries t (xs ++ ys)
entries_more t xs ys h =
    let f = slice_get t.variables in
    let same : filter_map (slice_get (t.variables ++ filter_map f xs)) ys ≡ filter_map f ys = picked-same t.variables (filter_map f xs) ys h in
    let seam : t.variables ++ filter_map f xs ++ filter_map f ys ≡ t.variables ++ filter_map f (xs ++ ys) = append_assoc t.variables (filter_map f xs) (filter_map f ys) ∙ ap (λ vs. t.variables ++ vs) (sym (picked-append f xs ys)) in
    (λ i. record t { variables = t.variables ++ filter_map f xs ++ same i }) ∙ (λ i. record t { variables = seam i })

pub entries_length : (t : Table) (xs : List ℕ) → AreBelow (length t.variables) xs → length (with_entries t xs).variables ≡ length t.variables + length xs
entries_length t xs h = length-append t.variables (filter_map (slice_get t.variables) xs) ∙ ap (λ n. length t.variables + n) (picked-length t.variables xs h)

-- ---- bodies one after another
-- the bodies that are done, and those that are left
pub record BodiesLeft (first table : Table) (done all left : List Body) : Type 0 where
  pub made : done ++ flat_bodies (length table.variables) left ≡ flat_bodies (length first.variables) all
  pub entries : with_entries table (copied_in_bodies left) ≡ with_entries first (copied_in_bodies all)
  pub listed : AreBelow (length table.variables) (copied_in_bodies left)
  pub apart : Each (λ b. overlaps b.sub ≡ []) left

-- one more
bodies-step : (first table next : Table) (done new all left : List Body) (b r : Body) → BodiesLeft first table done all (b ∷ left) → next ≡ flat_table table b.sub → new ≡ done ++ r ∷ [] → r ≡ record b { sub = flat table b.sub } → BodiesLeft first next new all left
bodies-step first table next done new all left b r h tables pushed is =
    let here = below_left (length table.variables) (copied b.sub) (copied_in_bodies left) h.listed in
    let later = below_right (length table.variables) (copied b.sub) (copied_in_bodies left) h.listed in
    let long : length (with_entries table (copied b.sub)).variables ≡ length table.variables + length (copied b.sub) = entries_length table (copied b.sub) here in
    let longer : length next.variables ≡ length table.variables + length (copied b.sub) = ap (λ (t : Table). length t.variables) tables ∙ long in
    let flat_b : Body = record b { sub = flat_from (length table.variables) b.sub } in
    let list : new ≡ done ++ flat_b ∷ [] = pushed ∙ ap (λ x. done ++ x ∷ []) is in
    record {
      made =
          ap (λ xs. xs ++ flat_bodies (length next.variables) left) list
          ∙ (append_assoc done (flat_b ∷ []) (flat_bodies (length next.variables) left)
          ∙ (ap (λ k. done ++ flat_b ∷ flat_bodies k left) longer ∙ h.made));
      entries = ap (λ t. with_entries t (copied_in_bodies left)) tables ∙ (entries_more table (copied b.sub) (copied_in_bodies left) later ∙ h.entries);
      listed = below_more (length table.variables) (length next.variables) (copied_in_bodies left) (omega (arith, longer)) later;
      apart = h.apart.1;
    }

-- the next of them
first-left : {A : Type 0} (all : List A) (i : ℕ) (x : A) → i < length all → x ≡ get_or all i x → drop i all ≡ x ∷ drop (i + 1) all
first-left {A} all i x h is = drop_more all i x h ∙ ap (λ y. y ∷ drop (i + 1) all) (sym is)

pub next_body : (first table next : Table) (done new all : List Body) (i : ℕ) (b r : Body) → i < length all → b ≡ get_or all i b → BodiesLeft first table done all (drop i all) → next ≡ flat_table table b.sub → new ≡ done ++ r ∷ [] → r ≡ record b { sub = flat table b.sub } → BodiesLeft first next new all (drop (i + 1) all)
next_body first table next done new all i b r h is left tables pushed same =
    bodies-step first table next done new all (drop (i + 1) all) b r (subst (λ xs. BodiesLeft first table done all xs) (first-left all i b h is) left) tables pushed same

pub body_apart : (first table : Table) (done all : List Body) (i : ℕ) (b : Body) → i < length all → b ≡ get_or all i b → BodiesLeft first table done all (drop i all) → overlaps b.sub ≡ []
body_apart first table done all i b h is left = (subst (λ xs. Each (λ b. overlaps b.sub ≡ []) xs) (first-left all i b h is) left.apart).0

-- all of them
pub bodies_begin : (first : Table) (done all : List Body) → done ≡ [] → Each (λ b. overlaps b.sub ≡ []) all → AreBelow (length first.variables) (copied_in_bodies all) → BodiesLeft first first done all (drop 0 all)
bodies_begin first done all none apart listed = record { made = ap (λ xs. xs ++ flat_bodies (length first.variables) all) none; entries = refl; listed = listed; apart = apart }

pub bodies_made : (first table : Table) (done all : List Body) (i : ℕ) → length all ≤ i → BodiesLeft first table done all (drop i all) → done ≡ flat_bodies (length first.variables) all
bodies_made first table done all i h left =
    let w = subst (λ xs. BodiesLeft first table done all xs) (drop_all i all h) left in
    sym (append-nil done) ∙ w.made

pub bodies_entries : (first table : Table) (done all : List Body) (i : ℕ) → length all ≤ i → BodiesLeft first table done all (drop i all) → table ≡ with_entries first (copied_in_bodies all)
bodies_entries first table done all i h left =
    let w = subst (λ xs. BodiesLeft first table done all xs) (drop_all i all h) left in
    sym (entries_none table) ∙ w.entries

-- ---- levels one after another
pub record LevelsLeft (first table : Table) (done all left : List Level) : Type 0 where
  pub made : done ++ flat_levels (length table.variables) left ≡ flat_levels (length first.variables) all
  pub entries : with_entries table (copied_in_levels left) ≡ with_entries first (copied_in_levels all)
  pub listed : AreBelow (length table.variables) (copied_in_levels left)
  pub apart : Each IsApart left

levels-step : (first table next : Table) (done new all left : List Level) (l r : Level) → LevelsLeft first table done all (l ∷ left) → next ≡ with_entries table (copied_in_level l) → new ≡ done ++ r ∷ [] → r ≡ flat_level (length table.variables) l → LevelsLeft first next new all left
levels-step first table next done new all left l r h tables pushed is =
    let here = below_left (length table.variables) (copied_in_level l) (copied_in_levels left) h.listed in
    let later = below_right (length table.variables) (copied_in_level l) (copied_in_levels left) h.listed in
    let long : length (with_entries table (copied_in_level l)).variables ≡ length table.variables + length (copied_in_level l) = entries_length table (copied_in_level l) here in
    let longer : length next.variables ≡ length table.variables + length (copied_in_level l) = ap (λ (t : Table). length t.variables) tables ∙ long in
    let list : new ≡ done ++ flat_level (length table.variables) l ∷ [] = pushed ∙ ap (λ x. done ++ x ∷ []) is in
    record {
      made =
          ap (λ xs. xs ++ flat_levels (length next.variables) left) list
          ∙ (append_assoc done (flat_level (length table.variables) l ∷ []) (flat_levels (length next.variables) left)
          ∙ (ap (λ k. done ++ flat_level (length table.variables) l ∷ flat_levels k left) longer ∙ h.made));
      entries = ap (λ t. with_entries t (copied_in_levels left)) tables ∙ (entries_more table (copied_in_level l) (copied_in_levels left) later ∙ h.entries);
      listed = below_more (length table.variables) (length next.variables) (copied_in_levels left) (omega (arith, longer)) later;
      apart = h.apart.1;
    }

pub next_level : (first table next : Table) (done new all : List Level) (i : ℕ) (l r : Level) → i < length all → l ≡ get_or all i l → LevelsLeft first table done all (drop i all) → next ≡ with_entries table (copied_in_level l) → new ≡ done ++ r ∷ [] → r ≡ flat_level (length table.variables) l → LevelsLeft first next new all (drop (i + 1) all)
next_level first table next done new all i l r h is left tables pushed same =
    levels-step first table next done new all (drop (i + 1) all) l r (subst (λ xs. LevelsLeft first table done all xs) (first-left all i l h is) left) tables pushed same

-- of the next level, what a call asks
pub level_apart : (first table : Table) (done all : List Level) (i : ℕ) (l : Level) → i < length all → l ≡ get_or all i l → LevelsLeft first table done all (drop i all) → IsApart l
level_apart first table done all i l h is left = (subst (λ xs. Each IsApart xs) (first-left all i l h is) left.apart).0

pub level_below : (first table : Table) (done all : List Level) (i : ℕ) (l : Level) → i < length all → l ≡ get_or all i l → LevelsLeft first table done all (drop i all) → AreBelow (length table.variables) (copied_in_level l)
level_below first table done all i l h is left =
    below_left (length table.variables) (copied_in_level l) (copied_in_levels (drop (i + 1) all)) (subst (λ xs. AreBelow (length table.variables) (copied_in_levels xs)) (first-left all i l h is) left.listed)

pub levels_begin : (first : Table) (done all : List Level) → done ≡ [] → Each IsApart all → AreBelow (length first.variables) (copied_in_levels all) → LevelsLeft first first done all (drop 0 all)
levels_begin first done all none apart listed = record { made = ap (λ xs. xs ++ flat_levels (length first.variables) all) none; entries = refl; listed = listed; apart = apart }

pub levels_made : (first table : Table) (done all : List Level) (i : ℕ) → length all ≤ i → LevelsLeft first table done all (drop i all) → done ≡ flat_levels (length first.variables) all
levels_made first table done all i h left =
    let w = subst (λ xs. LevelsLeft first table done all xs) (drop_all i all h) left in
    sym (append-nil done) ∙ w.made

pub levels_entries : (first table : Table) (done all : List Level) (i : ℕ) → length all ≤ i → LevelsLeft first table done all (drop i all) → table ≡ with_entries first (copied_in_levels all)
levels_entries first table done all i h left =
    let w = subst (λ xs. LevelsLeft first table done all xs) (drop_all i all h) left in
    sym (entries_none table) ∙ w.entries

-- ---- one level
-- its initialisation first, and then its bodies
pub level_made : (t u : Table) (l : Level) (init : Substitution) (bs : List Body) → AreBelow (length t.variables) (copied_in_level l) → u ≡ flat_table t l.init → init ≡ flat t l.init → bs ≡ flat_bodies (length u.variables) l.bodies → record l { init = init; bodies = bs } ≡ flat_level (length t.variables) l
level_made t u l init bs h tables first bodies =
    let here = below_left (length t.variables) (copied l.init) (copied_in_bodies l.bodies) h in
    let long : length u.variables ≡ length t.variables + length (copied l.init) = ap (λ (x : Table). length x.variables) tables ∙ entries_length t (copied l.init) here in
    let same : bs ≡ flat_bodies (length t.variables + length (copied l.init)) l.bodies = bodies ∙ ap (λ k. flat_bodies k l.bodies) long in
    λ i. record l { init = first i; bodies = same i }

pub level_entries : (t u w : Table) (l : Level) → AreBelow (length t.variables) (copied_in_level l) → u ≡ flat_table t l.init → w ≡ with_entries u (copied_in_bodies l.bodies) → w ≡ with_entries t (copied_in_level l)
level_entries t u w l h tables more =
    more ∙ (ap (λ x. with_entries x (copied_in_bodies l.bodies)) tables ∙ entries_more t (copied l.init) (copied_in_bodies l.bodies) (below_right (length t.variables) (copied l.init) (copied_in_bodies l.bodies) h))

pub bodies_below : (t u : Table) (l : Level) → AreBelow (length t.variables) (copied_in_level l) → u ≡ flat_table t l.init → AreBelow (length u.variables) (copied_in_bodies l.bodies)
bodies_below t u l h tables =
    let here = below_left (length t.variables) (copied l.init) (copied_in_bodies l.bodies) h in
    let long : length u.variables ≡ length t.variables + length (copied l.init) = ap (λ (x : Table). length x.variables) tables ∙ entries_length t (copied l.init) here in
    below_more (length t.variables) (length u.variables) (copied_in_bodies l.bodies) (omega (arith, long)) (below_right (length t.variables) (copied l.init) (copied_in_bodies l.bodies) h)

pub ruleset bodies_in_turn = (bodies_begin, next_body, body_apart, bodies_made, bodies_entries)

pub ruleset levels_in_turn = (levels_begin, next_level, level_apart, level_below, levels_made, levels_entries)

pub ruleset one_level = (level_made, level_entries, bodies_below, below_left)
