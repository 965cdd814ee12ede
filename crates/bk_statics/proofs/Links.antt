-- A link's variable has the type of the one that it is linked to.
use Rattle.std.proofs.Common.{refl, ◌≡◌, ◌⊎◌, inl, inr, ℕ, zero, suc, ◌+◌, ◌-◌, ◌<◌, ◌≤◌, List, [], ◌∷◌, ◌++◌, length, sym, ◌∙◌, ap, subst, Bool, true, false, cond, arith}
use Rattle.std.specs.Prelude.{Option, None, Some, nat_lt, nat_eq, slice_get, ℤ}
use Rattle.std.specs.Str.{bytes_eq}
use Rattle.std.proofs.lemmas.Bool.Decides.{nat_tests}
use Rattle.std.proofs.lemmas.Option.{slice_get_past}
use Rattle.bk_form.specs.Table.{Table}
use Rattle.bk_gsl.specs.State.{among}
use Rattle.bk_dev.specs.declared.kind.Home.{Home}
use Rattle.bk_dev.specs.declared.kind.Home.TheVariants.{Constant, Input, Abstract, Concrete, Inner}
use Rattle.bk_dev.specs.Development.{level_at, last, Development}
use Rattle.bk_dev.specs.Facts.{is_variable_of, is_variable_above, home_of}
use Rattle.bk_raw.specs.declared.term.RawName.{RawName}
use Rattle.bk_raw.specs.Trees.RawTree.{RawTree}
use Rattle.bk_raw.specs.Meaning.Names.{Names, Meaning, local, global, set_name, element_name, nothing}
use Rattle.bk_statics.specs.Settled.{AreSeen, IsSeen}
use Rattle.bk_raw.specs.Meaning.Binders.{is_text}
use Rattle.bk_statics.specs.Typings.{Typing, Target, target, target_in, as_number, as_variable, variable_named}
use Rattle.bk_statics.specs.Ways.{Way, same_as, given_by, or_no_way, way_at, next_types, rounds, ways, ways_by}
use Rattle.bk_val.specs.ValueType.{ValueType}
use Rattle.bk_statics.specs.Components.{or_next, WrittenVariable, Component, is_machine, initialisation}
use Rattle.bk_statics.specs.Above.{known, upper_of, is_concrete, names_at_level, stem, text_of}
use Rattle.bk_statics.specs.Plan.{Declared, carried, carried_one, own, own_one, operations_of, scope, declared_texts, all_declared, link_of, links_from, fresh, Plan, plan}
use Rattle.bk_statics.specs.LevelOf.{way_for, next_place, all_input_ways, all_output_ways, all_binder_ways, variable_ways, all_ways, types_at, level_made, made}
use Rattle.bk_statics.specs.LevelLaws.{IsReady, IsIn}
use Rattle.bk_statics.proofs.Counted.{length-join}
use Rattle.bk_statics.proofs.Scopes.{by-count, variable-count}
use Rattle.bk_statics.proofs.Stands.{get-left, get-right, split-at, rounds-low, lt-true}
use Rattle.bk_statics.proofs.Listed.{of_entry, variable-entry}
use Rattle.bk_statics.proofs.Homes.{IsHomeOf, variable-home}
use Rattle.bk_statics.proofs.Starts.{above-none}

abbrev higher_at : List Declared → ℕ → Option ℕ
higher_at [] i = None
higher_at (d ∷ ds) zero = d.higher
higher_at (d ∷ ds) (suc i) = higher_at ds i

link-in : (o : Option ℕ) (k : ℕ) (ls : List (ℕ × ℕ)) (n m : ℕ) → IsIn (n, m) (link_of k o ls) → ((n ≡ k) × (o ≡ Some m)) ⊎ IsIn (n, m) ls
link-in None k ls n m h = inr h
link-in (Some q) k ls n m h = elim h [ inl e ↦ inl (ap (λ p. p.0) e, sym (ap (λ p. Some p.1) e)) | inr l ↦ inr l ]

link-place : (v : ℕ) (ds : List Declared) (n m : ℕ) → IsIn (n, m) (links_from v ds) → (i : ℕ) × (n ≡ v + i) × (i < length ds) × (higher_at ds i ≡ Some m)
link-place v [] n m h = absurd h
link-place v (d ∷ ds) n m h = elim (link-in d.higher v (links_from (suc v) ds) n m h) [
  | inl e ↦ (0, (let k = e.0 in omega arith), omega arith, e.1)
  | inr l ↦ (let r = link-place (suc v) ds n m l in (suc r.0, (let k = r.1 in omega arith), (let k = r.2 in omega arith), r.3))
]

way-of-variable : (names : Names) (p : Option RawTree) (group : List RawName) (j : ℕ) (ds : List Declared) (i m : ℕ) → higher_at ds i ≡ Some m → slice_get (variable_ways names p group j ds) i ≡ Some (same_as m)
way-of-variable names p group j [] i m h = absurd (cc)
way-of-variable names p group j (d ∷ ds) zero m h = ap (λ o. Some (way_for names p group j o)) h
way-of-variable names p group j (d ∷ ds) (suc i) m h = way-of-variable names p group (next_place j d.higher) ds i m h

next-at : (int_max : ℤ) (n : ℕ) (ws : List Way) (before : Typing) (x m : ℕ) → n ≤ x → x < n + length ws → way_at ws (x - n) ≡ same_as m → next_types int_max n ws before x ≡ or_next (before x) (before m)
next-at int_max n ws before x m a b e =
    let no : nat_lt x n ≡ false = grind (arith, nat_tests) in
    let yes : nat_lt x (n + length ws) ≡ true = lt-true x (n + length ws) b in
    ap (λ t. cond t (before x) (cond (nat_lt x (n + length ws)) (or_next (before x) (given_by int_max before (way_at ws (x - n)))) (before x))) no
    ∙ (ap (λ t. cond t (or_next (before x) (given_by int_max before (way_at ws (x - n)))) (before x)) yes
    ∙ ap (λ w. or_next (before x) (given_by int_max before w)) e)

twice-same : (o : Option ValueType) → or_next o o ≡ o
twice-same None = refl
twice-same (Some t) = refl

pub rounds-same : (int_max : ℤ) (c n : ℕ) (ws : List Way) (typing : Typing) (x m : ℕ) → 0 < c → n ≤ x → x < n + length ws → m < n → way_at ws (x - n) ≡ same_as m → typing x ≡ None → rounds c int_max n ws typing x ≡ typing m
rounds-same int_max zero n ws typing x m z a b l e none = absurd (omega arith)
rounds-same int_max (suc zero) n ws typing x m z a b l e none = next-at int_max n ws typing x m a b e ∙ ap (λ o. or_next o (typing m)) none
rounds-same int_max (suc (suc c)) n ws typing x m z a b l e none =
    next-at int_max n ws (rounds (suc c) int_max n ws typing) x m a b e
    ∙ (ap (λ o. or_next o (rounds (suc c) int_max n ws typing m)) (rounds-same int_max (suc c) n ws typing x m (omega arith) a b l e none)
    ∙ (ap (or_next (typing m)) (rounds-low int_max (suc c) n ws typing m l) ∙ twice-same (typing m)))

-- a new number has no type above
pub none-past : (dev : Development) (n : ℕ) → length dev.table.variables ≤ n → known dev n ≡ None
none-past dev n h = variable-entry dev.table n ∙ ap of_entry (slice_get_past dev.table.variables n h)

-- ---- what stands above is below the new numbers
meaning-number : (v : ℕ → Bool) (x : Meaning) (m : ℕ) → IsSeen v x → as_number (target_in x) ≡ Some m → v m ≡ true
meaning-number v (local t) m h e = absurd (cc)
meaning-number v (global n t) m h e = let k : n ≡ m = cc in subst (λ y. v y ≡ true) k h
meaning-number v (set_name s) m h e = absurd (cc)
meaning-number v (element_name s i) m h e = absurd (cc)
meaning-number v nothing m h e = absurd (cc)

either-number : (P : Option ℕ → Type 0) (c : Bool) (a b : Target) → P (as_number a) → P (as_number b) → P (as_number (cond c a b))
either-number P true a b h k = h
either-number P false a b h k = k

pub named-seen : (v : ℕ → Bool) (names : Names) (x : List ℕ) (m : ℕ) → AreSeen v names → variable_named names x ≡ Some m → v m ≡ true
named-seen v [] x m h = λ e. absurd (cc)
named-seen v (n ∷ ns) x m h = either-number (λ o. o ≡ Some m → v m ≡ true) (bytes_eq n.text x) (target_in n.meaning) (target ns x) (meaning-number v n.meaning m h.0) (named-seen v ns x m h.1)

-- each variable that some declared ones stand for passes the test
abbrev ArePassed : (ℕ → Bool) → List Declared → Type 0
ArePassed v [] = Unit {0}
ArePassed v (d ∷ ds) = ((m : ℕ) → d.higher ≡ Some m → v m ≡ true) × ArePassed v ds

either-passed : (v : ℕ → Bool) (c : Bool) (a b : List Declared) → ArePassed v a → ArePassed v b → ArePassed v (cond c a b)
either-passed v true a b h k = h
either-passed v false a b h k = k

passed-join : (v : ℕ → Bool) (a b : List Declared) → ArePassed v a → ArePassed v b → ArePassed v (a ++ b)
passed-join v [] b h k = k
passed-join v (d ∷ ds) b h k = (h.0, passed-join v ds b h.1 k)

carried-passed : (v : ℕ → Bool) (dev : Development) (k : ℕ) (table : Table) (ns : List ℕ) → AreSeen v (names_at_level k table ns) → ArePassed v (carried dev (names_at_level k table ns))
carried-passed v dev k table [] h = tt
carried-passed v dev k table (n ∷ ns) h =
    let rest = carried-passed v dev k table ns h.1 in
    either-passed v (is_concrete (home_of dev n)) (carried_one (as_variable (stem k (text_of table n)) n) ∷ carried dev (names_at_level k table ns)) (carried dev (names_at_level k table ns))
    ((λ m e. (let s : n ≡ m = cc in subst (λ y. v y ≡ true) s h.0)), rest) rest

own-passed : (v : ℕ → Bool) (before : List (List ℕ)) (upper : Names) (vs : List WrittenVariable) → AreSeen v upper → ArePassed v (own before upper vs)
own-passed v before upper [] h = tt
own-passed v before upper (w ∷ ws) h =
    let rest = own-passed v before upper ws h in
    either-passed v (is_text before w.name.text) (own before upper ws) (own_one upper w ∷ own before upper ws) rest
    ((λ m e. named-seen v upper w.name.text m h e), rest)

passed-at : (v : ℕ → Bool) (ds : List Declared) (i m : ℕ) → ArePassed v ds → higher_at ds i ≡ Some m → v m ≡ true
passed-at v [] i m h e = absurd (cc)
passed-at v (d ∷ ds) zero m h e = h.0 m e
passed-at v (d ∷ ds) (suc i) m h e = passed-at v ds i m h.1 e

home-variable : (k : ℕ) (o : Option Home) → IsHomeOf k o → is_variable_of k o ≡ true
home-variable k (Some (Abstract j)) h = let s : j ≡ k = h in grind (arith, nat_tests)
home-variable k (Some (Concrete j)) h = let s : j ≡ k = h in grind (arith, nat_tests)
home-variable k None h = absurd h
home-variable k (Some Constant) h = absurd h
home-variable k (Some Input) h = absurd h
home-variable k (Some (Inner j)) h = absurd h

-- the variable that it is linked to is one of the level above
pub links-above : (higher : Development) (comp : Component) → IsReady higher → (n m : ℕ) → IsIn (n, m) (links_from (plan higher comp).variables_at (plan higher comp).variables) → is_variable_above (length higher.levels) (home_of higher m) ≡ true
links-above higher comp ready n m h =
    let p = plan higher comp in
    let v : ℕ → Bool = λ n. is_variable_above (length higher.levels) (home_of higher n) in
    let r = link-place p.variables_at p.variables n m h in
    let passed = passed-join v (carried higher p.upper) (own (declared_texts (carried higher p.upper)) p.upper comp.variables) (carried-passed v higher (last higher) higher.table (level_at higher (last higher)).vars ready.upper) (own-passed v (declared_texts (carried higher p.upper)) p.upper comp.variables ready.upper) in
    passed-at v p.variables r.0 m passed r.3

-- and so its number is below the new ones
pub above-low : (higher : Development) → length higher.homes ≡ length higher.table.variables → (m : ℕ) → is_variable_above (length higher.levels) (home_of higher m) ≡ true → m < length higher.table.variables
above-low higher homes-so m up =
    let base = length higher.table.variables in
    split-at (m < base) m base (λ a. a) (λ a. (let past : length higher.homes ≤ m = omega arith in absurd (above-none (length higher.levels) (ap (is_variable_above (length higher.levels)) (sym (slice_get_past higher.homes m past)) ∙ up))))

pub links-right : (int_max : ℤ) (higher : Development) (comp : Component) → IsReady higher → (n m : ℕ) → IsIn (n, m) (level_made int_max (types_at int_max higher comp (plan higher comp)) (plan higher comp) comp).links → (is_variable_of (plan higher comp).level (home_of (made int_max higher comp (plan higher comp)) n) ≡ true) × (types_at int_max higher comp (plan higher comp) n ≡ known higher m)
links-right int_max higher comp ready n m h =
    let p = plan higher comp in
    let old = higher in
    let base = length old.table.variables in
    let r = link-place p.variables_at p.variables n m h in
    let i = r.0 in
    let at = r.1 in
    let inside = r.2 in
    let low = above-low higher ready.homes m (links-above higher comp ready n m h) in
    let w0 = ways_by p.globals comp.properties comp.constants in
    let w1 = variable_ways (p.upper ++ p.globals) comp.invariant (fresh p.upper comp.variables) 0 p.variables in
    let c0 = by-count p.globals comp.properties comp.constants in
    let c1 = variable-count (p.upper ++ p.globals) comp.invariant (fresh p.upper comp.variables) 0 p.variables in
    links-typed int_max higher comp n m i at inside low c0 c1 (way-of-variable (p.upper ++ p.globals) comp.invariant (fresh p.upper comp.variables) 0 p.variables i m r.3)
    (home-variable p.level (home_of (made int_max higher comp p) n) (variable-home int_max higher comp ready.homes n (omega arith) (omega arith)))
  where
    links-typed : (int_max : ℤ) (higher : Development) (comp : Component) (n m i : ℕ) → n ≡ (plan higher comp).variables_at + i → i < length (plan higher comp).variables → m < length higher.table.variables
        → length (ways_by (plan higher comp).globals comp.properties comp.constants) ≡ length comp.constants
        → length (variable_ways ((plan higher comp).upper ++ (plan higher comp).globals) comp.invariant (fresh (plan higher comp).upper comp.variables) 0 (plan higher comp).variables) ≡ length (plan higher comp).variables
        → slice_get (variable_ways ((plan higher comp).upper ++ (plan higher comp).globals) comp.invariant (fresh (plan higher comp).upper comp.variables) 0 (plan higher comp).variables) i ≡ Some (same_as m)
        → (is_variable_of (plan higher comp).level (home_of (made int_max higher comp (plan higher comp)) n) ≡ true)
        → (is_variable_of (plan higher comp).level (home_of (made int_max higher comp (plan higher comp)) n) ≡ true) × (types_at int_max higher comp (plan higher comp) n ≡ known higher m)
    links-typed int_max higher comp n m i at inside low c0 c1 way home =
        let p = plan higher comp in
        let base = length higher.table.variables in
        let w0 = ways_by p.globals comp.properties comp.constants in
        let w1 = variable_ways (p.upper ++ p.globals) comp.invariant (fresh p.upper comp.variables) 0 p.variables in
        let ws = all_ways p comp in
        let rest = cond (is_machine comp.kind) (all_input_ways p (operations_of p comp)) [] ++ (all_output_ways comp.kind p (operations_of p comp) ++ (ways (scope p) p.binders_at (initialisation comp) ++ all_binder_ways p (operations_of p comp))) in
        let long = length-join w0 (w1 ++ rest) in
        let longer = length-join w1 rest in
        let place : (n - base) - length w0 ≡ i = omega arith in
        let there : slice_get ws (n - base) ≡ Some (same_as m) = get-right w0 (w1 ++ rest) (n - base) (omega arith) ∙ (ap (slice_get (w1 ++ rest)) place ∙ (get-left w1 rest i (omega arith) ∙ way)) in
        (home, rounds-same int_max (length ws) base ws (known higher) n m (omega arith) (omega arith) (omega arith) low (ap or_no_way there) (none-past higher n (omega arith)))
