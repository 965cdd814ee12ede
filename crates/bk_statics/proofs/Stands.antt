-- The table that a component gives has the types that are told, and its scopes have the table's sets and elements.
use Rattle.std.proofs.Common.{◌≡◌, inr, ℕ, zero, suc, ◌+◌, ◌-◌, ◌<◌, ◌≤◌, List, [], ◌∷◌, ◌++◌, length, refl, sym, ◌∙◌, ap, subst, Bool, true, false, cond, ◌&&◌, All, IsTrue, arith}
use Rattle.std.specs.Prelude.{Option, None, Some, nat_lt, slice_get, ℤ}
use Rattle.std.specs.Option.{option_map_or}
use Rattle.std.proofs.lemmas.Bool.Decides.{nat_tests}
use Rattle.std.proofs.lemmas.List.Elements.{All-nil, All-cons, All-head, All-tail}
use Rattle.std.proofs.lemmas.Option.{slice_get_within}
use Rattle.bk_val.specs.ValueType.{ValueType, int_type, bool_type, enum_type, pair_type, set_type}
use Rattle.bk_form.specs.Role.{bind}
use Rattle.bk_form.specs.Table.{Table, SetEntry, VariableEntry, variable_type, lists_type, is_among_sets, listed_size, IsCounted, IsWellFormed}
use Rattle.bk_dev.specs.declared.kind.Kind.{Kind}
use Rattle.bk_dev.specs.declared.kind.Home.{Home}
use Rattle.bk_dev.specs.declared.kind.Home.TheVariants.{Constant, Input, Abstract, Concrete, Inner}
use Rattle.bk_dev.specs.Development.{Head, Development, last, level_at}
use Rattle.bk_raw.specs.declared.term.RawName.{RawName}
use Rattle.bk_raw.specs.Trees.RawTree.{RawTree}
use Rattle.bk_raw.specs.Meaning.Names.{Names}
use Rattle.bk_raw.specs.Meaning.Binders.{or_bool}
use Rattle.bk_statics.specs.Settled.{AreOf}
use Rattle.bk_statics.specs.Typings.{Typing, numbered, variable_named}
use Rattle.bk_statics.specs.Binders.{binder_count, texts}
use Rattle.bk_statics.specs.Ways.{Way, no_way, by_conjuncts, same_as, conjunct_ways, assigned_ways, ways, next_types, rounds, settled, no_ways, ways_by, way_from, given_by, way_at}
use Rattle.bk_raw.proofs.Filled.{and-both}
use Rattle.bk_raw.proofs.ScopeRight.{names-below}
use Rattle.bk_raw.specs.Trees.ComponentTree.{RawSet, RawOperation}
use Rattle.bk_statics.specs.Components.{or_next, Component, outermost, is_machine, initialisation}
use Rattle.bk_statics.specs.Above.{inputs_named, constants_from, globals_of, known, names_at_level}
use Rattle.bk_raw.specs.Meaning.ScopeReading.{element_names, set_names}
use Rattle.bk_statics.specs.Plan.{Declared, names_from, entries_of, fresh, Headed, Placed, placed, machine_headed, inputs_by, lower_headed, operation_named, sizes, Plan, plan, level_names, scope, body_scope, input_scope, other_headed, headed_by, is_headed}
use Rattle.bk_statics.specs.LevelOf.{way_for, next_place, variable_ways, all_input_ways, lower_output_ways, output_ways, all_output_ways, all_binder_ways, all_ways, types_at, entries_from, new_texts, table_of}
use Rattle.bk_statics.specs.Sources.{IsWayOf, AreWaysOf, AreTold, ListsItsTypes, Stands}
use Rattle.bk_statics.proofs.Counted.{length-join, entries-count}
use Rattle.bk_statics.proofs.Listed.{entry-type, of_entry, variable-entry, settled-told}
use Rattle.bk_statics.proofs.WaysOf.{numbered-of, ways-join, conjuncts-of, assigned-of, ways-of, from-of}
use Rattle.bk_statics.proofs.Scopes.{all-count, far_of}

-- ---- sets and elements
there : (before : List SetEntry) (e : SetEntry) (rest : List SetEntry) → slice_get (before ++ e ∷ rest) (length before) ≡ Some e
there [] e rest = refl
there (b ∷ bs) e rest = there bs e rest

join-assoc : {A : Type 0} → (xs ys zs : List A) → (xs ++ ys) ++ zs ≡ xs ++ (ys ++ zs)
join-assoc [] ys zs = refl
join-assoc (x ∷ xs) ys zs = ap (λ l. x ∷ l) (join-assoc xs ys zs)

empty-last : {A : Type 0} → (xs : List A) → xs ++ [] ≡ xs
empty-last [] = refl
empty-last (x ∷ xs) = ap (λ l. x ∷ l) (empty-last xs)

pub lt-true : (m n : ℕ) → m < n → nat_lt m n ≡ true
lt-true m n h = grind (arith, nat_tests)

module _ (table : Table) where
  pub of-join : (a b : Names) → AreOf table a → AreOf table b → AreOf table (a ++ b)
  of-join [] b h k = k
  of-join (n ∷ ns) b h k = (h.0, of-join ns b h.1 k)

  pub of-bind : (a b : Names) → AreOf table a → AreOf table b → AreOf table (bind a b)
  of-bind [] b h k = k
  of-bind (n ∷ ns) b h k = of-bind ns (n ∷ b) h.1 (h.0, k)

  elements-of : (s i : ℕ) (xs : List (List ℕ)) → lists_type table (enum_type s) ≡ true → i + length xs ≤ listed_size table s → AreOf table (element_names s i xs)
  elements-of s i [] l h = tt
  elements-of s i (x ∷ xs) l h = ((lt-true i (listed_size table s) (omega arith), l), elements-of s (suc i) xs l (omega arith))

  sets-of : (before es after : List SetEntry) (s : ℕ) → table.sets ≡ before ++ (es ++ after) → s ≡ length before → All IsCounted es → AreOf table (set_names s es)
  sets-of before [] after s h k counted = tt
  sets-of before (e ∷ es) after s h k counted =
      let long : length table.sets ≡ length (before ++ e ∷ (es ++ after)) = ap length h in
      let sum = length-join before (e ∷ (es ++ after)) in
      let listed : lists_type table (enum_type s) ≡ true = lt-true s (length table.sets) (omega arith) in
      let get : slice_get table.sets s ≡ Some e = (λ i. slice_get (h i) (k i)) ∙ there before e (es ++ after) in
      let size : listed_size table s ≡ e.size = ap (λ o. option_map_or (λ (s : SetEntry). s.size) o 0) get in
      let few : length e.elements ≤ e.size = names-below e (All-head IsCounted e es counted) in
      let more = length-join before (e ∷ []) in (
        listed,
        of-join (element_names s 0 e.elements) (set_names (suc s) es) (elements-of s 0 e.elements listed (omega (arith, few, size)))
            (sets-of (before ++ e ∷ []) es after (suc s) (h ∙ sym (join-assoc before (e ∷ []) (es ++ after))) (omega arith) (All-tail IsCounted e es counted)),
      )

  constants-of : (n : ℕ) (hs : List Home) (vs : List VariableEntry) → AreOf table (constants_from n hs vs)
  constants-of n [] vs = tt
  constants-of n (h ∷ hs) [] = tt
  constants-of n (Constant ∷ hs) (v ∷ vs) = (tt, constants-of (suc n) hs vs)
  constants-of n (Input ∷ hs) (v ∷ vs) = constants-of (suc n) hs vs
  constants-of n (Abstract k ∷ hs) (v ∷ vs) = constants-of (suc n) hs vs
  constants-of n (Concrete k ∷ hs) (v ∷ vs) = constants-of (suc n) hs vs
  constants-of n (Inner k ∷ hs) (v ∷ vs) = constants-of (suc n) hs vs

  variables-of : (k : ℕ) (t : Table) (ns : List ℕ) → AreOf table (names_at_level k t ns)
  variables-of k t [] = tt
  variables-of k t (n ∷ ns) = (tt, variables-of k t ns)

  pub declared-of : (n : ℕ) (ds : List Declared) → AreOf table (names_from n ds)
  declared-of n [] = tt
  declared-of n (d ∷ ds) = (tt, declared-of (suc n) ds)

  plain-of : (n : ℕ) (xs : List RawName) → AreOf table (numbered n xs)
  plain-of n [] = tt
  plain-of n (x ∷ xs) = (tt, plain-of (suc n) xs)

  inputs-of : (far : ℕ) (names : Names) (xs : List RawName) → AreOf table (inputs_by far names xs)
  inputs-of far names [] = tt
  inputs-of far names (x ∷ xs) = (tt, inputs-of far names xs)

  abbrev AreHeaded : List Headed → Type 0
  AreHeaded [] = Unit {0}
  AreHeaded (h ∷ hs) = AreOf table h.inputs × AreHeaded hs

  machine-of : (n : ℕ) (os : List RawOperation) → AreHeaded (machine_headed n os)
  machine-of n [] = tt
  machine-of n (o ∷ os) = (plain-of n o.inputs, machine-of (n + length o.inputs) os)

  lower-of : (far : ℕ) (dev : Development) (o : ℕ) (hs : List Head) (os : List RawOperation) → AreHeaded (lower_headed far dev o hs os)
  lower-of far dev o [] os = tt
  lower-of far dev o (h ∷ hs) os = (inputs-of far (inputs_named dev.table h.inputs) (operation_named h.name os).inputs, lower-of far dev (suc o) hs os)

  one-more : (c : Bool) (h : Headed) (hs : List Headed) → AreOf table h.inputs → AreHeaded hs → AreHeaded (cond c hs (h ∷ hs))
  one-more true h hs a k = k
  one-more false h hs a k = (a, k)

  other-of : (far : ℕ) (hs : List Head) (os : List RawOperation) → AreHeaded (other_headed far hs os)
  other-of far hs [] = tt
  other-of far hs (o ∷ os) = one-more (is_headed hs o.name.text) (headed_by far [] [] o) (other_headed far hs os) (inputs-of far [] o.inputs) (other-of far hs os)

  headed-join : (a b : List Headed) → AreHeaded a → AreHeaded b → AreHeaded (a ++ b)
  headed-join [] b h k = k
  headed-join (x ∷ xs) b h k = (h.0, headed-join xs b h.1 k)

  either-headed : (c : Bool) (a b : List Headed) → AreHeaded a → AreHeaded b → AreHeaded (cond c a b)
  either-headed true a b h k = h
  either-headed false a b h k = k

  -- ---- ways
  either-ways : (c : Bool) (a b : List Way) → AreWaysOf table a → AreWaysOf table b → AreWaysOf table (cond c a b)
  either-ways true a b h k = h
  either-ways false a b h k = k

  no-of : {A : Type 0} → (xs : List A) → AreWaysOf table (no_ways xs)
  no-of [] = tt
  no-of (x ∷ xs) = (tt, no-of xs)

  by-of : (names : Names) (p : Option RawTree) (xs : List RawName) → AreOf table names → AreWaysOf table (ways_by names p xs)
  by-of names None xs h = no-of xs
  by-of names (Some p) xs h = conjuncts-of table names xs p 0 xs h

  for-of : (names : Names) (p : Option RawTree) (group : List RawName) (i : ℕ) (m : Option ℕ) → AreOf table names → IsWayOf table (way_for names p group i m)
  for-of names p group i (Some m) h = tt
  for-of names None group i None h = tt
  for-of names (Some q) group i None h = h

  variable-of : (names : Names) (p : Option RawTree) (group : List RawName) (i : ℕ) (ds : List Declared) → AreOf table names → AreWaysOf table (variable_ways names p group i ds)
  variable-of names p group i [] h = tt
  variable-of names p group i (d ∷ ds) h = (for-of names p group i d.higher h, variable-of names p group (next_place i d.higher) ds h)

  lower-ways : (names : Names) (xs : List RawName) → AreWaysOf table (lower_output_ways names xs)
  lower-ways names [] = tt
  lower-ways names (x ∷ xs) = (from-of table (variable_named names x.text), lower-ways names xs)

  module _ (p : Plan) (here : AreOf table (scope p)) where
    body-of : (o : Placed) → AreOf table o.headed.inputs → AreOf table (body_scope p o)
    body-of o h = numbered-of table o.outputs_at o.headed.operation.outputs (bind o.headed.inputs (scope p)) (of-bind o.headed.inputs (scope p) h here)

    input-ways : (n b : ℕ) (hs : List Headed) → AreWaysOf table (all_input_ways p (placed n b hs))
    input-ways n b [] = tt
    input-ways n b (h ∷ hs) =
        let o : Placed = record { headed = h; outputs_at = n; binders_at = b } in
        ways-join table (ways_by (input_scope p o) (outermost h.operation.body) h.operation.inputs) (all_input_ways p (placed (n + length h.operation.outputs) (b + binder_count h.operation.body) hs))
        (by-of (input_scope p o) (outermost h.operation.body) h.operation.inputs (numbered-of table n h.operation.outputs (scope p) here))
        (input-ways (n + length h.operation.outputs) (b + binder_count h.operation.body) hs)

    outputs-of : (kind : Kind) (n b : ℕ) (hs : List Headed) → AreHeaded hs → AreWaysOf table (all_output_ways kind p (placed n b hs))
    outputs-of kind n b [] k = tt
    outputs-of kind n b (h ∷ hs) k =
        let o : Placed = record { headed = h; outputs_at = n; binders_at = b } in
        let xs = h.operation.outputs in
        ways-join table (output_ways kind p o) (all_output_ways kind p (placed (n + length xs) (b + binder_count h.operation.body) hs))
        (either-ways (is_machine kind) (assigned_ways (body_scope p o) b h.operation.body n xs) (lower_output_ways h.machine_outputs xs) (assigned-of table (body_scope p o) b h.operation.body n xs (body-of o k.0)) (lower-ways h.machine_outputs xs))
        (outputs-of kind (n + length xs) (b + binder_count h.operation.body) hs k.1)

    binders-of : (n b : ℕ) (hs : List Headed) → AreHeaded hs → AreWaysOf table (all_binder_ways p (placed n b hs))
    binders-of n b [] k = tt
    binders-of n b (h ∷ hs) k =
        let o : Placed = record { headed = h; outputs_at = n; binders_at = b } in
        ways-join table (ways (body_scope p o) b h.operation.body) (all_binder_ways p (placed (n + length h.operation.outputs) (b + binder_count h.operation.body) hs))
        (ways-of table h.operation.body (body_scope p o) b (body-of o k.0))
        (binders-of (n + length h.operation.outputs) (b + binder_count h.operation.body) hs k.1)

-- ---- a component
-- its sets have as many elements as names
pub entries-counted : (ss : List RawSet) → All IsCounted (entries_of ss)
entries-counted [] = All-nil IsCounted
entries-counted (s ∷ ss) = All-cons IsCounted (record { name = s.name.text; elements = texts s.elements; size = length (texts s.elements) }) (entries_of ss) (inr refl) (entries-counted ss)

pub upper-stands : (int_max : ℤ) (higher : Development) (comp : Component) → AreOf (table_of int_max higher comp (plan higher comp)) (plan higher comp).upper
upper-stands int_max higher comp = variables-of (table_of int_max higher comp (plan higher comp)) (last higher) higher.table (level_at higher (last higher)).vars

pub globals-stand : (int_max : ℤ) (higher : Development) (comp : Component) → All IsCounted higher.table.sets → AreOf (table_of int_max higher comp (plan higher comp)) (plan higher comp).globals
globals-stand int_max higher comp counted =
    let table = table_of int_max higher comp (plan higher comp) in
    let olds = higher.table.sets in
    let news = entries_of comp.sets in
    let new = sets-of table olds news [] (length olds) (ap (λ l. olds ++ l) (sym (empty-last news))) refl (entries-counted comp.sets) in
    let old = of-join table (set_names 0 olds) (constants_from 0 higher.homes higher.table.variables) (sets-of table [] olds news 0 refl refl counted) (constants-of table 0 higher.homes higher.table.variables) in
    numbered-of table (length higher.table.variables) comp.constants (set_names (length olds) news ++ globals_of higher) (of-join table (set_names (length olds) news) (globals_of higher) new old)

pub headed-stand : (int_max : ℤ) (higher : Development) (comp : Component) → AreHeaded (table_of int_max higher comp (plan higher comp)) (plan higher comp).headed
headed-stand int_max higher comp =
    let table = table_of int_max higher comp (plan higher comp) in
    let p = plan higher comp in
    let far = far_of higher comp in
    let lower = lower_headed far higher 0 higher.heads comp.operations in
    let others = other_headed far higher.heads comp.operations in
    either-headed table (is_machine comp.kind) (machine_headed p.inputs_at comp.operations) (lower ++ others) (machine-of table p.inputs_at comp.operations) (headed-join table lower others (lower-of table far higher 0 higher.heads comp.operations) (other-of table far higher.heads comp.operations))

pub scope-stands : (int_max : ℤ) (higher : Development) (comp : Component) → All IsCounted higher.table.sets → AreOf (table_of int_max higher comp (plan higher comp)) (scope (plan higher comp))
scope-stands int_max higher comp counted = let p = plan higher comp in let table = table_of int_max higher comp p in of-join table (level_names p) p.globals (declared-of table p.variables_at p.variables) (globals-stand int_max higher comp counted)

pub all-ways : (int_max : ℤ) (higher : Development) (comp : Component) → All IsCounted higher.table.sets → AreWaysOf (table_of int_max higher comp (plan higher comp)) (all_ways (plan higher comp) comp)
all-ways int_max higher comp counted =
    let p = plan higher comp in
    let table = table_of int_max higher comp p in
    let b = p.binders_at + binder_count (initialisation comp) in
    let os = placed p.outputs_at b p.headed in
    let here = scope-stands int_max higher comp counted in
    let heads = headed-stand int_max higher comp in
    let both = of-join table p.upper p.globals (upper-stands int_max higher comp) (globals-stand int_max higher comp counted) in
    let w5 = all_binder_ways p os in
    let w4 = ways (scope p) p.binders_at (initialisation comp) in
    let w3 = all_output_ways comp.kind p os in
    let w2 = cond (is_machine comp.kind) (all_input_ways p os) [] in
    let w1 = variable_ways (p.upper ++ p.globals) comp.invariant (fresh p.upper comp.variables) 0 p.variables in
    let w0 = ways_by p.globals comp.properties comp.constants in
    ways-join table w0 (w1 ++ (w2 ++ (w3 ++ (w4 ++ w5)))) (by-of table p.globals comp.properties comp.constants (globals-stand int_max higher comp counted))
    (ways-join table w1 (w2 ++ (w3 ++ (w4 ++ w5))) (variable-of table (p.upper ++ p.globals) comp.invariant (fresh p.upper comp.variables) 0 p.variables both)
    (ways-join table w2 (w3 ++ (w4 ++ w5)) (either-ways table (is_machine comp.kind) (all_input_ways p os) [] (input-ways table p here p.outputs_at b p.headed) tt)
    (ways-join table w3 (w4 ++ w5) (outputs-of table p here comp.kind p.outputs_at b p.headed heads)
    (ways-join table w4 w5 (ways-of table (initialisation comp) (scope p) p.binders_at here) (binders-of table p here p.outputs_at b p.headed heads)))))

-- ---- the table's types
more-sets : (m n : ℕ) (t : ValueType) → m ≤ n → is_among_sets m t ≡ true → is_among_sets n t ≡ true
more-sets m n int_type l h = refl
more-sets m n bool_type l h = refl
more-sets m n (enum_type e) l h = let k : e < m = grind (arith, nat_tests) in lt-true e n (omega arith)
more-sets m n (pair_type t u) l h = let k = and-both (is_among_sets m t) (is_among_sets m u) h in (λ i. more-sets m n t l k.0 i && more-sets m n u l k.1 i)
more-sets m n (set_type t) l h = more-sets m n t l h

pub get-left : {A : Type 0} → (xs ys : List A) (i : ℕ) → i < length xs → slice_get (xs ++ ys) i ≡ slice_get xs i
get-left [] ys i h = absurd (omega arith)
get-left (x ∷ xs) ys zero h = refl
get-left (x ∷ xs) ys (suc i) h = get-left xs ys i (omega arith)

pub get-right : {A : Type 0} → (xs ys : List A) (i : ℕ) → length xs ≤ i → slice_get (xs ++ ys) i ≡ slice_get ys (i - length xs)
get-right [] ys i h = let e : i ≡ i - 0 = omega arith in ap (slice_get ys) e
get-right (x ∷ xs) ys zero h = absurd (omega arith)
get-right (x ∷ xs) ys (suc i) h = let e : i - length xs ≡ suc i - suc (length xs) = omega arith in get-right xs ys i (omega arith) ∙ ap (slice_get ys) e

entry-there : (vs : List VariableEntry) (n : ℕ) (o : Option VariableEntry) (t : ValueType) → slice_get vs n ≡ o → of_entry o ≡ Some t → n < length vs
entry-there vs n None t e h = absurd (cc)
entry-there vs n (Some v) t e h = slice_get_within vs n v e

pub type-below : (table : Table) (n : ℕ) (t : ValueType) → variable_type table n ≡ Some t → n < length table.variables
type-below table n t h = entry-there table.variables n (slice_get table.variables n) t refl (sym (variable-entry table n) ∙ h)

pub rounds-low : (int_max : ℤ) (c n : ℕ) (ws : List Way) (typing : Typing) (m : ℕ) → m < n → rounds c int_max n ws typing m ≡ typing m
rounds-low int_max zero n ws typing m h = refl
rounds-low int_max (suc c) n ws typing m h = ap (λ b. cond b (rounds c int_max n ws typing m) (cond (nat_lt m (n + length ws)) (or_next (rounds c int_max n ws typing m) (given_by int_max (rounds c int_max n ws typing) (way_at ws (m - n)))) (rounds c int_max n ws typing m))) (lt-true m n h) ∙ rounds-low int_max c n ws typing m h

pub split-at : (P : Type 0) (n b : ℕ) → (n < b → P) → (b ≤ n → P) → P
split-at P n b f g = by-test (nat_lt n b) refl
  where
    by-test : (c : Bool) → nat_lt n b ≡ c → P
    by-test true e = f (grind (arith, nat_tests))
    by-test false e = g (grind (arith, nat_tests))

same-some : {A : Type 0} (y x : A) → Some y ≡ Some x → y ≡ x
same-some y x e = cc

entry-listed : (table : Table) (vs : List VariableEntry) → All (λ v. IsTrue (lists_type table v.of_type)) vs → (n : ℕ) (t : ValueType) → of_entry (slice_get vs n) ≡ Some t → lists_type table t ≡ true
entry-listed table [] h n t e = absurd (cc)
entry-listed table (v ∷ vs) h zero t e = let q : v.of_type ≡ t = cc in subst (λ x. lists_type table x ≡ true) q (All-head (λ v. IsTrue (lists_type table v.of_type)) v vs h)
entry-listed table (v ∷ vs) h (suc n) t e = entry-listed table vs (All-tail (λ v. IsTrue (lists_type table v.of_type)) v vs h) n t e

types-above : (t : Table) → IsWellFormed t → ListsItsTypes t
types-above t w n u e = entry-listed t t.variables w.listed n u (sym (variable-entry t n) ∙ e)

module _ (int_max : ℤ) (higher : Development) (comp : Component) (well : IsWellFormed higher.table) where
  abbrev table : Table
  table = table_of int_max higher comp (plan higher comp)

  abbrev typing : Typing
  typing = types_at int_max higher comp (plan higher comp)

  abbrev base : ℕ
  base = length higher.table.variables

  abbrev fresh_texts : List (List ℕ)
  fresh_texts = new_texts (plan higher comp) comp

  grown : (t : ValueType) → lists_type higher.table t ≡ true → lists_type table t ≡ true
  grown t h = let e = length-join higher.table.sets (entries_of comp.sets) in more-sets (length higher.table.sets) (length table.sets) t (omega arith) h

  told : AreTold table (base + length fresh_texts) typing
  told =
      let e = all-count higher comp in
      settled-told int_max table (base + length fresh_texts) base (all_ways (plan higher comp) comp) (known higher) (all-ways int_max higher comp well.counted) (omega arith)
      (record { listed = λ n t k. grown t (types-above higher.table well n t k); below = λ n t k. (let l = type-below higher.table n t k in omega arith) })

  old-type : (n : ℕ) → n < base → variable_type table n ≡ variable_type higher.table n
  old-type n h = variable-entry table n ∙ (ap of_entry (get-left higher.table.variables (entries_from typing base fresh_texts) n h) ∙ sym (variable-entry higher.table n))

  new-type : (n : ℕ) → base ≤ n → n < base + length fresh_texts → variable_type table n ≡ Some (or_bool (typing n))
  new-type n h k =
      let back : base + (n - base) ≡ n = omega arith in
      variable-entry table n ∙ (ap of_entry (get-right higher.table.variables (entries_from typing base fresh_texts) n h) ∙ (entry-type typing base fresh_texts (n - base) (omega arith) ∙ ap (λ m. Some (or_bool (typing m))) back))

  pub low-type : (n : ℕ) → n < base → typing n ≡ variable_type higher.table n
  low-type n h = rounds-low int_max (length (all_ways (plan higher comp) comp)) base (all_ways (plan higher comp) comp) (known higher) n h

  types-stand : (n : ℕ) (t : ValueType) → typing n ≡ Some t → variable_type table n ≡ Some t
  types-stand n t e = split-at (variable_type table n ≡ Some t) n base (λ h. old-type n h ∙ (sym (low-type n h) ∙ e)) (λ h. new-type n h (told.below n t e) ∙ ap (λ o. Some (or_bool o)) e)

  or-listed : (n : ℕ) (o : Option ValueType) → typing n ≡ o → lists_type table (or_bool o) ≡ true
  or-listed n None e = refl
  or-listed n (Some t) e = told.listed n t e

  types-listed : (n : ℕ) (t : ValueType) → variable_type table n ≡ Some t → lists_type table t ≡ true
  types-listed n t e = split-at (lists_type table t ≡ true) n base
      (λ h. grown t (types-above higher.table well n t (sym (old-type n h) ∙ e)))
      (λ h.
      let all = type-below table n t e in
      let count = length-join higher.table.variables (entries_from typing base fresh_texts) in
      let each = entries-count typing base fresh_texts in
      let same : or_bool (typing n) ≡ t = same-some (or_bool (typing n)) t (sym (new-type n h (omega arith)) ∙ e) in
      subst (λ u. lists_type table u ≡ true) same (or-listed n (typing n) refl))

  pub stands : Stands int_max higher comp
  stands = record { settled = record { types = types-stand; listed = λ n t e. told.listed n t e }; listed = types-listed; globals = globals-stand int_max higher comp well.counted; upper = upper-stands int_max higher comp }
