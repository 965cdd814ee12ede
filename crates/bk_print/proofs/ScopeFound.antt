-- What is found of names in a scope with new variables: each of these, and all others as before.
use Rattle.std.proofs.Common.{◌≡◌, ◌≢◌, inl, inr, ℕ, zero, suc, ◌+◌, ◌<◌, ◌^◌, ◌⊎◌, Bool, true, false, cond, ◌||◌, List, [], ◌∷◌, ◌++◌, length, length-append, append_assoc, map, refl, ap, sym, ◌∙◌, subst, arith, Option, Some, None}
use Rattle.std.specs.Prelude.{slice_get, decimal, unwrap_or}
use Rattle.std.specs.List.{Contains, flat_map, filter_map, cons_option}
use Rattle.std.specs.Option.{option_map}
use Rattle.std.specs.Str.{bytes_eq}
use Rattle.std.specs.Cmp.Lexicographic.{bytes_decides}
use Rattle.std.proofs.lemmas.List.Elements.{Contains-append_left, Contains-append_right, Contains-push}
use Rattle.std.proofs.lemmas.Option.{slice_get_past}
use Rattle.bk_val.specs.ValueType.{ValueType}
use Rattle.bk_form.specs.Each.{Each}
use Rattle.bk_form.specs.Table.{Table, SetEntry, VariableEntry, variable_type, with_variable}
use Rattle.bk_form.proofs.Widening.{get-wider}
use Rattle.bk_raw.specs.Meaning.Names.{Names, Named, Meaning, sight, behind, found}
use Rattle.bk_raw.specs.Meaning.ScopeReading.{variable_meaning, scope_names}
use Rattle.bk_auto.specs.NewVariables.{texts_of, AreNew}
use Rattle.bk_scripts.specs.Sight.{entry, hiding, no_variable}
use Rattle.bk_scripts.specs.Brought.{is_in_scope}
use Rattle.bk_show.specs.Shown.{or_empty, nth_name, name_of_set, name_of_element}
use Rattle.bk_print.specs.Readable.{with_new, numbered, AreApart}

-- ---- texts
pub unlike : (a b : List ℕ) → a ≢ b → bytes_eq a b ≡ false
unlike a b n = by-test (bytes_eq a b) refl
  where
    by-test : (c : Bool) → bytes_eq a b ≡ c → c ≡ false
    by-test true e = absurd (n ((bytes_decides a b).0 e))
    by-test false e = refl

pub alike : (a : List ℕ) → bytes_eq a a ≡ true
alike a = (bytes_decides a a).1 refl

-- ---- names of a scope
abbrev named_at : Table → List ℕ × ℕ → Named
named_at table p = record { text = p.0; meaning = variable_meaning p.1 (variable_type table p.1) }

pub scope-append : (table : Table) (ps qs : List (List ℕ × ℕ)) (around : Names) → scope_names table (ps ++ qs) around ≡ scope_names table qs (scope_names table ps around)
scope-append table [] qs around = refl
scope-append table (p ∷ ps) qs around = scope-append table ps qs (named_at table p ∷ around)

-- over another table in which their variables have the same types
pub scope-same : (small large : Table) (ps : List (List ℕ × ℕ)) (around : Names) → Each (λ (p : List ℕ × ℕ). variable_type large p.1 ≡ variable_type small p.1) ps → scope_names large ps around ≡ scope_names small ps around
scope-same small large [] around h = refl
scope-same small large (p ∷ ps) around h =
    scope-same small large ps (named_at large p ∷ around) h.1
    ∙ ap (λ (o : Option ValueType). scope_names small ps (record { text = p.0; meaning = variable_meaning p.1 o } ∷ around)) h.0

behind-same : (n : ℕ) (o : Option ValueType) → behind 0 (variable_meaning n o) ≡ 0
behind-same n None = refl
behind-same n (Some t) = refl

-- one that has another text hides nothing
pub found-past : (table : Table) (ps : List (List ℕ × ℕ)) (around : Names) (text : List ℕ) → Each (λ (p : List ℕ × ℕ). p.0 ≢ text) ps → found 0 (scope_names table ps around) text ≡ found 0 around text
found-past table [] around text h = refl
found-past table (p ∷ ps) around text h =
    let meant : Meaning = variable_meaning p.1 (variable_type table p.1) in
    found-past table ps (named_at table p ∷ around) text h.1
    ∙ (ap (λ b. cond b (sight 0 meant) (found (behind 0 meant) around text)) (unlike p.0 text h.0) ∙ ap (λ i. found i around text) (behind-same p.1 (variable_type table p.1)))

pub others-apart : (text : List ℕ) (n : ℕ) (vs : List VariableEntry) → Each (λ (w : VariableEntry). w.text ≢ text) vs → Each (λ (p : List ℕ × ℕ). p.0 ≢ text) (numbered n vs)
others-apart text n [] h = tt
others-apart text n (v ∷ vs) h = (h.0, others-apart text (suc n) vs h.1)

-- the new variable at an index
pub found-new : (table : Table) (vs : List VariableEntry) (n k : ℕ) (v : VariableEntry) (around : Names) → AreApart vs → slice_get vs k ≡ Some v → found 0 (scope_names table (numbered n vs) around) v.text ≡ sight 0 (variable_meaning (n + k) (variable_type table (n + k)))
found-new table [] n k v around a e = absurd (cc)
found-new table (w ∷ ws) n zero v around a e =
    let same : w ≡ v = ap (λ o. unwrap_or o w) e in
    let meant : Meaning = variable_meaning n (variable_type table n) in
    let here : n ≡ n + 0 = omega arith in
    ap (λ (x : VariableEntry). found 0 (scope_names table (numbered n (w ∷ ws)) around) x.text) (sym same)
    ∙ (found-past table (numbered (suc n) ws) (named_at table (w.text, n) ∷ around) w.text (others-apart w.text (suc n) ws a.0)
    ∙ (ap (λ b. cond b (sight 0 meant) (found (behind 0 meant) around w.text)) (alike w.text)
    ∙ ap (λ m. sight 0 (variable_meaning m (variable_type table m))) here))
found-new table (w ∷ ws) n (suc k) v around a e =
    let here : suc n + k ≡ n + suc k = omega arith in
    found-new table ws (suc n) k v (named_at table (w.text, n) ∷ around) a.1 e ∙ ap (λ m. sight 0 (variable_meaning m (variable_type table m))) here

-- ---- lists
pub slice-past : {A : Type 0} (xs ys : List A) (k : ℕ) → slice_get (xs ++ ys) (length xs + k) ≡ slice_get ys k
slice-past [] ys k = let e : 0 + k ≡ k = omega arith in ap (slice_get ys) e
slice-past (x ∷ xs) ys k = let e : suc (length xs) + k ≡ suc (length xs + k) = omega arith in ap (slice_get (x ∷ (xs ++ ys))) e ∙ slice-past xs ys k

-- ---- new texts
pub text-more : (table : Table) (v : VariableEntry) (text : List ℕ) → Contains (texts_of table) text → Contains (texts_of (with_variable table v)) text
text-more table v text c =
    let sets = flat_map (λ (s : SetEntry). s.name ∷ s.elements) table.sets in
    let old = map (λ (x : VariableEntry). x.text) table.variables in
    subst (λ xs. Contains xs text) (append_assoc sets old (v.text ∷ []) ∙ ap (λ xs. sets ++ xs) (sym (map-push table.variables v))) (Contains-append_left (sets ++ old) (v.text ∷ []) text c)
  where
    map-push : (xs : List VariableEntry) (x : VariableEntry) → map (λ (y : VariableEntry). y.text) (xs ++ x ∷ []) ≡ map (λ (y : VariableEntry). y.text) xs ++ x.text ∷ []
    map-push [] x = refl
    map-push (y ∷ ys) x = ap (λ zs. y.text ∷ zs) (map-push ys x)

text-last : (table : Table) (v : VariableEntry) → Contains (texts_of (with_variable table v)) v.text
text-last table v =
    let sets = flat_map (λ (s : SetEntry). s.name ∷ s.elements) table.sets in
    Contains-append_right sets (map (λ (x : VariableEntry). x.text) (table.variables ++ v ∷ [])) v.text (last table.variables)
  where
    last : (xs : List VariableEntry) → Contains (map (λ (x : VariableEntry). x.text) (xs ++ v ∷ [])) v.text
    last [] = Contains-push [] v.text
    last (x ∷ xs) = Contains-append_right (x.text ∷ []) (map (λ (y : VariableEntry). y.text) (xs ++ v ∷ [])) v.text (last xs)

-- none has a text of the table
pub new-apart : (table : Table) (vs : List VariableEntry) → AreNew table vs → (text : List ℕ) → Contains (texts_of table) text → Each (λ (w : VariableEntry). w.text ≢ text) vs
new-apart table [] h text c = tt
new-apart table (v ∷ vs) h text c = (λ e. h.0.apart (subst (Contains (texts_of table)) (sym e) c), new-apart (with_variable table v) vs h.1 text (text-more table v text c))

-- nor that of another
pub are-apart : (table : Table) (vs : List VariableEntry) → AreNew table vs → AreApart vs
are-apart table [] h = tt
are-apart table (v ∷ vs) h = (new-apart (with_variable table v) vs h.1 v.text (text-last table v), are-apart (with_variable table v) vs h.1)

-- nor none
no-text : (text : List ℕ) (n : ℕ) → text ≡ 118 ∷ decimal n → text ≢ []
no-text text n e k = let z : 118 ∷ decimal n ≡ [] = sym e ∙ k in absurd (cc)

pub new-texts : (table : Table) (vs : List VariableEntry) → AreNew table vs → Each (λ (w : VariableEntry). w.text ≢ []) vs
new-texts table [] h = tt
new-texts table (v ∷ vs) h = (no-text v.text h.0.number h.0.is, new-texts (with_variable table v) vs h.1)

-- each is `v` and a number
pub new-at : (table : Table) (vs : List VariableEntry) (k : ℕ) (v : VariableEntry) → AreNew table vs → slice_get vs k ≡ Some v → (n : ℕ) × (n < 2 ^ 64) × (v.text ≡ 118 ∷ decimal n)
new-at table [] k v h e = absurd (cc)
new-at table (w ∷ ws) zero v h e = let same : w ≡ v = ap (λ o. unwrap_or o w) e in (h.0.number, h.0.narrow, sym (ap (λ (x : VariableEntry). x.text) same) ∙ h.0.is)
new-at table (w ∷ ws) (suc k) v h e = new-at (with_variable table w) ws k v h.1 e

-- ---- old texts
-- a text that no new variable has
abbrev pub IsOld : Table → List ℕ → Type 0
IsOld table text = (text ≡ []) ⊎ Contains (texts_of table) text

pub old-apart : (table : Table) (vs : List VariableEntry) → AreNew table vs → (text : List ℕ) → IsOld table text → Each (λ (w : VariableEntry). w.text ≢ text) vs
old-apart table vs h text (inl e) = subst (λ t. Each (λ (w : VariableEntry). w.text ≢ t) vs) (sym e) (new-texts table vs h)
old-apart table vs h text (inr c) = new-apart table vs h text c

in-variables : (vs : List VariableEntry) (n : ℕ) (v : VariableEntry) → slice_get vs n ≡ Some v → Contains (map (λ (x : VariableEntry). x.text) vs) v.text
in-variables [] n v e = absurd (cc)
in-variables (w ∷ ws) zero v e = let same : w ≡ v = ap (λ o. unwrap_or o w) e in (0, omega arith, ap (λ (x : VariableEntry). x.text) same)
in-variables (w ∷ ws) (suc n) v e = Contains-append_right (w.text ∷ []) (map (λ (x : VariableEntry). x.text) ws) v.text (in-variables ws n v e)

pub variable-known : (table : Table) (n : ℕ) (v : VariableEntry) → slice_get table.variables n ≡ Some v → Contains (texts_of table) v.text
variable-known table n v e = Contains-append_right (flat_map (λ (s : SetEntry). s.name ∷ s.elements) table.sets) (map (λ (x : VariableEntry). x.text) table.variables) v.text (in-variables table.variables n v e)

in-sets : (ss : List SetEntry) (n : ℕ) (s : SetEntry) (text : List ℕ) → slice_get ss n ≡ Some s → Contains (s.name ∷ s.elements) text → Contains (flat_map (λ (x : SetEntry). x.name ∷ x.elements) ss) text
in-sets [] n s text e c = absurd (cc)
in-sets (r ∷ rs) zero s text e c =
    let same : r ≡ s = ap (λ o. unwrap_or o r) e in
    Contains-append_left (r.name ∷ r.elements) (flat_map (λ (x : SetEntry). x.name ∷ x.elements) rs) text (subst (λ (x : SetEntry). Contains (x.name ∷ x.elements) text) (sym same) c)
in-sets (r ∷ rs) (suc n) s text e c = Contains-append_right (r.name ∷ r.elements) (flat_map (λ (x : SetEntry). x.name ∷ x.elements) rs) text (in-sets rs n s text e c)

set-known : (table : Table) (n : ℕ) (s : SetEntry) (text : List ℕ) → slice_get table.sets n ≡ Some s → Contains (s.name ∷ s.elements) text → Contains (texts_of table) text
set-known table n s text e c = Contains-append_left (flat_map (λ (x : SetEntry). x.name ∷ x.elements) table.sets) (map (λ (x : VariableEntry). x.text) table.variables) text (in-sets table.sets n s text e c)

pub set-old : (table : Table) (n : ℕ) → IsOld table (name_of_set table n)
set-old table n = at (slice_get table.sets n) refl
  where
    at : (o : Option SetEntry) → slice_get table.sets n ≡ o → IsOld table (or_empty (option_map (λ (s : SetEntry). s.name) o))
    at None e = inl refl
    at (Some s) e = inr (set-known table n s s.name e (0, omega arith, refl))

in-list : (xs : List (List ℕ)) (i : ℕ) (x : List ℕ) → slice_get xs i ≡ Some x → Contains xs x
in-list [] i x e = absurd (cc)
in-list (y ∷ ys) zero x e = (0, omega arith, ap (λ o. unwrap_or o y) e)
in-list (y ∷ ys) (suc i) x e = Contains-append_right (y ∷ []) ys x (in-list ys i x e)

pub element-old : (table : Table) (n i : ℕ) → IsOld table (name_of_element table n i)
element-old table n i = at (slice_get table.sets n) refl
  where
    within : (s : SetEntry) → slice_get table.sets n ≡ Some s → (o : Option (List ℕ)) → slice_get s.elements i ≡ o → IsOld table (or_empty o)
    within s e None k = inl refl
    within s e (Some x) k = inr (set-known table n s x e (Contains-append_right (s.name ∷ []) s.elements x (in-list s.elements i x k)))

    at : (o : Option SetEntry) → slice_get table.sets n ≡ o → IsOld table (nth_name (option_map (λ (s : SetEntry). s.elements) o) i)
    at None e = inl refl
    at (Some s) e = within s e (slice_get s.elements i) refl

-- ---- entries of a scope
-- its text is one of the table, and its variable is
pub record IsEntryOf (table : Table) (p : List ℕ × ℕ) : Type 0 where
  pub known : Contains (texts_of table) p.0
  pub here : (v : VariableEntry) × (slice_get table.variables p.1 ≡ Some v)

cons-each : (table : Table) (o : Option (List ℕ × ℕ)) (ps : List (List ℕ × ℕ)) → ((p : List ℕ × ℕ) → o ≡ Some p → IsEntryOf table p) → Each (IsEntryOf table) ps → Each (IsEntryOf table) (cons_option o ps)
cons-each table None ps f h = h
cons-each table (Some p) ps f h = (f p refl, h)

entry-is : (table : Table) (x : ℕ) (o : Option VariableEntry) → slice_get table.variables x ≡ o → (p : List ℕ × ℕ) → option_map (λ (text : List ℕ). (text, x)) (option_map (λ (v : VariableEntry). v.text) o) ≡ Some p → IsEntryOf table p
entry-is table x None e p k = absurd (cc)
entry-is table x (Some v) e p k =
    let same : ◌≡◌ {A = List ℕ × ℕ} (v.text, x) p = ap (λ (q : Option (List ℕ × ℕ)). unwrap_or q (v.text, x)) k in
    subst (IsEntryOf table) same (record { known = variable-known table x v e; here = (v, e) })

pub entries-known : (table : Table) (xs : List ℕ) → Each (IsEntryOf table) (filter_map (entry table) xs)
entries-known table [] = tt
entries-known table (x ∷ xs) = cons-each table (entry table x) (filter_map (entry table) xs) (entry-is table x (slice_get table.variables x) refl) (entries-known table xs)

-- ---- types over a table with new variables
pub type-same : (table : Table) (new : List VariableEntry) (p : List ℕ × ℕ) → IsEntryOf table p → variable_type (with_new table new) p.1 ≡ variable_type table p.1
type-same table new p h =
    ap (option_map (λ (v : VariableEntry). v.of_type)) (get-wider table.variables new p.1 h.here.0 h.here.1 ∙ sym h.here.1)

no-such : (table : Table) → length table.variables < 2 ^ 32 → variable_type table no_variable ≡ None
no-such table room = ap (option_map (λ (v : VariableEntry). v.of_type)) (slice_get_past table.variables no_variable (omega arith))

pub entries-same : (table : Table) (new : List VariableEntry) (ps : List (List ℕ × ℕ)) → Each (IsEntryOf table) ps → Each (λ (p : List ℕ × ℕ). variable_type (with_new table new) p.1 ≡ variable_type table p.1) ps
entries-same table new [] h = tt
entries-same table new (p ∷ ps) h = (type-same table new p h.0, entries-same table new ps h.1)

pub hidden-same : (table : Table) (new : List VariableEntry) → length (with_new table new).variables < 2 ^ 32 → (texts : List (List ℕ)) → Each (λ (p : List ℕ × ℕ). variable_type (with_new table new) p.1 ≡ variable_type table p.1) (hiding texts)
hidden-same table new room [] = tt
hidden-same table new room (x ∷ xs) =
    let long : length (table.variables ++ new) ≡ length table.variables + length new = length-append table.variables new in
    (no-such (with_new table new) room ∙ sym (no-such table (omega arith)), hidden-same table new room xs)

pub entries-apart : (table : Table) (text : List ℕ) → (Contains (texts_of table) text → ⊥) → (ps : List (List ℕ × ℕ)) → Each (IsEntryOf table) ps → is_in_scope ps text ≡ false
entries-apart table text n [] h = refl
entries-apart table text n (p ∷ ps) h =
    let first : bytes_eq p.0 text ≡ false = unlike p.0 text (λ e. n (subst (Contains (texts_of table)) e h.0.known)) in
    let rest : is_in_scope ps text ≡ false = entries-apart table text n ps h.1 in
    λ i. first i || rest i
