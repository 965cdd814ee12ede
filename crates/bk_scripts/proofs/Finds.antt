-- What is found of a name among entries and among sets, one by one.
use Rattle.std.proofs.Common.{◌≡◌, ◌<◌, ◌+◌, ◌-◌, ℕ, zero, suc, List, [], ◌∷◌, ◌++◌, take, drop, length, get_or, refl, sym, ◌∙◌, ap, Bool, true, false, cond, arith, is_some, true≢false}
use Rattle.std.specs.Prelude.{Option, Some, None, slice_get, decimal, ◌||◌, MatchOption}
use Rattle.std.specs.List.{list_any}
use Rattle.std.specs.Option.{option_map}
use Rattle.std.specs.Str.{bytes_eq}
use Rattle.bk_val.specs.ValueType.{ValueType, enum_type}
use Rattle.bk_form.specs.Formula.{variable}
use Rattle.bk_form.specs.Table.{Table, SetEntry, variable_type}
use Rattle.bk_raw.specs.Meaning.Names.{Names, set_name, element_name, Sight, seen, sight, behind, found}
use Rattle.bk_raw.specs.Meaning.Printed.{set_type_of, type_read}
use Rattle.bk_raw.specs.declared.script.RawTyped.{RawTyped}
use Rattle.bk_raw.specs.Meaning.ScopeReading.{ScopeNames, element_names, set_names, variable_meaning, scope_names, names_in, last_from}
use Rattle.bk_elab_terms.proofs.Seen.{seen_last}
use Rattle.bk_elab_terms.proofs.Sighted.{found_in}
use Rattle.bk_scripts.specs.Finding.{IsMeaning, in_set, set_or, set_among}
use Rattle.bk_scripts.specs.Parts.{Around, NameMeans}
use Rattle.bk_scripts.specs.LawNames.{spelled_from}

-- ---- sets
pub element_in : (e : SetEntry) (text : List ℕ) → bytes_eq e.name text ≡ false → list_any (λ x. bytes_eq x text) e.elements ≡ true → in_set e text ≡ Some false
element_in e text p q = ap (λ b. cond b (Some true) (cond (list_any (λ x. bytes_eq x text) e.elements) (Some false) None)) p ∙ ap (λ b. cond b (Some false) None) q

pub none_in : (e : SetEntry) (text : List ℕ) → bytes_eq e.name text ≡ false → list_any (λ x. bytes_eq x text) e.elements ≡ false → in_set e text ≡ None
none_in e text p q = ap (λ b. cond b (Some true) (cond (list_any (λ x. bytes_eq x text) e.elements) (Some false) None)) p ∙ ap (λ b. cond b (Some false) None) q

-- one turn over the sets
pub set_turn : (sets : List SetEntry) (s : ℕ) (text : List ℕ) (b : Option Bool) → s < length sets → ((e : SetEntry) → slice_get sets s ≡ Some e → b ≡ in_set e text) → set_among s (drop s sets) text ≡ set_or s b (set_among (s + 1) (drop (s + 1) sets) text)
set_turn sets s text b l h = go sets s l h
  where
    go : (xs : List SetEntry) (k : ℕ) → k < length xs → ((e : SetEntry) → slice_get xs k ≡ Some e → b ≡ in_set e text) → set_among s (drop k xs) text ≡ set_or s b (set_among (s + 1) (drop (k + 1) xs) text)
    go [] k l h = absurd (omega (arith, l))
    go (x ∷ xs) zero l h =
        let one : suc s ≡ s + 1 = omega arith in
        ap (λ (n : ℕ). set_or s (in_set x text) (set_among n xs text)) one ∙ ap (λ (o : Option Bool). set_or s o (set_among (s + 1) xs text)) (sym (h x refl))
    go (x ∷ xs) (suc k) l h =
        let more : suc (k + 1) ≡ suc k + 1 = omega arith in
        go xs k (omega (arith, l)) h ∙ ap (λ (m : ℕ). set_or s b (set_among (s + 1) (drop m (x ∷ xs)) text)) more

elements-lack : (s i : ℕ) (xs : List (List ℕ)) (rest : Names) (text : List ℕ) → list_any (λ x. bytes_eq x text) xs ≡ false → found 0 (element_names s i xs ++ rest) text ≡ found 0 rest text
elements-lack s i [] rest text q = refl
elements-lack s i (x ∷ xs) rest text q = by (bytes_eq x text) q (λ k. elements-lack s (suc i) xs rest text k)
  where
    by : (d : Bool) → (d || list_any (λ y. bytes_eq y text) xs) ≡ false → (list_any (λ y. bytes_eq y text) xs ≡ false → found 0 (element_names s (suc i) xs ++ rest) text ≡ found 0 rest text) → cond d (sight 0 (element_name s i)) (found 0 (element_names s (suc i) xs ++ rest) text) ≡ found 0 rest text
    by true k f = absurd (true≢false k)
    by false k f = f k

elements-have : (s i : ℕ) (xs : List (List ℕ)) (rest : Names) (text : List ℕ) → list_any (λ x. bytes_eq x text) xs ≡ true → set_type_of (found 0 (element_names s i xs ++ rest) text) ≡ None
elements-have s i [] rest text q = absurd (true≢false (sym q))
elements-have s i (x ∷ xs) rest text q = by (bytes_eq x text) q (λ k. elements-have s (suc i) xs rest text k)
  where
    by : (d : Bool) → (d || list_any (λ y. bytes_eq y text) xs) ≡ true → (list_any (λ y. bytes_eq y text) xs ≡ true → set_type_of (found 0 (element_names s (suc i) xs ++ rest) text) ≡ None) → set_type_of (cond d (sight 0 (element_name s i)) (found 0 (element_names s (suc i) xs ++ rest) text)) ≡ None
    by true k f = refl
    by false k f = f k

set-found : (s : ℕ) (e : SetEntry) (text : List ℕ) (rest : Names) (o : Option ℕ) → set_type_of (found 0 rest text) ≡ option_map enum_type o →
    (b c : Bool) → list_any (λ x. bytes_eq x text) e.elements ≡ c → set_type_of (cond b (sight 0 (set_name s)) (found 0 (element_names s 0 e.elements ++ rest) text)) ≡ option_map enum_type (set_or s (cond b (Some true) (cond c (Some false) None)) o)
set-found s e text rest o h true c q = refl
set-found s e text rest o h false true q = elements-have s 0 e.elements rest text q
set-found s e text rest o h false false q = ap set_type_of (elements-lack s 0 e.elements rest text q) ∙ h

-- the set that a name is that of
pub sets_found : (s : ℕ) (sets : List SetEntry) (text : List ℕ) → set_type_of (found 0 (set_names s sets) text) ≡ option_map enum_type (set_among s sets text)
sets_found s [] text = refl
sets_found s (e ∷ es) text = set-found s e text (set_names (suc s) es) (set_among (suc s) es text) (sets_found (suc s) es text) (bytes_eq e.name text) (list_any (λ x. bytes_eq x text) e.elements) refl

-- a variable is no set
variable-no-set : (n : ℕ) (o : Option ValueType) → set_type_of (sight 0 (variable_meaning n o)) ≡ None
variable-no-set n None = refl
variable-no-set n (Some t) = refl

type-found : (table : Table) (o : Option ℕ) (text : List ℕ) → set_type_of (seen_last table o (found 0 (set_names 0 table.sets) text)) ≡ cond (is_some o) None (option_map enum_type (set_among 0 table.sets text))
type-found table None text = sets_found 0 table.sets text
type-found table (Some n) text = variable-no-set n (variable_type table n)

-- the type that the name of a set is
pub set_type_found : (table : Table) (scope : ScopeNames) (text : List ℕ) → set_type_of (found 0 (names_in table scope) text) ≡ cond (is_some (last_from None scope.names text)) None (option_map enum_type (set_among 0 table.sets text))
set_type_found table scope text = ap set_type_of (found_in table scope text) ∙ type-found table (last_from None scope.names text) text

pub type_hidden : (table : Table) (scope : ScopeNames) (text : List ℕ) (n : ℕ) → last_from None scope.names text ≡ Some n → set_type_of (found 0 (names_in table scope) text) ≡ None
type_hidden table scope text n e = set_type_found table scope text ∙ ap (λ (o : Option ℕ). cond (is_some o) None (option_map enum_type (set_among 0 table.sets text))) e

pub type_open : (table : Table) (scope : ScopeNames) (text : List ℕ) → last_from None scope.names text ≡ None → set_type_of (found 0 (names_in table scope) text) ≡ option_map enum_type (set_among 0 table.sets text)
type_open table scope text e = set_type_found table scope text ∙ ap (λ (o : Option ℕ). cond (is_some o) None (option_map enum_type (set_among 0 table.sets text))) e

-- ---- variables
abbrev is-variable : Sight → Bool
is-variable (seen (variable n) t) = true
is-variable _ = false

elements-no-variable : (s i : ℕ) (xs : List (List ℕ)) (rest : Names) (text : List ℕ) → is-variable (found 0 rest text) ≡ false → is-variable (found 0 (element_names s i xs ++ rest) text) ≡ false
elements-no-variable s i [] rest text h = h
elements-no-variable s i (x ∷ xs) rest text h = by (bytes_eq x text) (elements-no-variable s (suc i) xs rest text h)
  where
    by : (d : Bool) → is-variable (found 0 (element_names s (suc i) xs ++ rest) text) ≡ false → is-variable (cond d (sight 0 (element_name s i)) (found 0 (element_names s (suc i) xs ++ rest) text)) ≡ false
    by true k = refl
    by false k = k

sets-no-variable : (s : ℕ) (sets : List SetEntry) (text : List ℕ) → is-variable (found 0 (set_names s sets) text) ≡ false
sets-no-variable s [] text = refl
sets-no-variable s (e ∷ es) text = by (bytes_eq e.name text) (elements-no-variable s 0 e.elements (set_names (suc s) es) text (sets-no-variable (suc s) es text))
  where
    by : (d : Bool) → is-variable (found 0 (element_names s 0 e.elements ++ set_names (suc s) es) text) ≡ false → is-variable (cond d (sight 0 (set_name s)) (found 0 (element_names s 0 e.elements ++ set_names (suc s) es) text)) ≡ false
    by true k = refl
    by false k = k

-- where no entry has the text, or its number is no variable's, it is no variable
pub no_entry : (table : Table) (scope : ScopeNames) (text : List ℕ) → last_from None scope.names text ≡ None → (n : ℕ) (t : ValueType) → found 0 (names_in table scope) text ≡ seen (variable n) t → ⊥
no_entry table scope text e n t h =
    let there : found 0 (names_in table scope) text ≡ found 0 (set_names 0 table.sets) text = found_in table scope text ∙ ap (λ o. seen_last table o (found 0 (set_names 0 table.sets) text)) e in
    true≢false (sym (ap is-variable (sym there ∙ h)) ∙ sets-no-variable 0 table.sets text)

entry-is : (table : Table) (scope : ScopeNames) (text : List ℕ) (m : ℕ) (o : Option ValueType) → last_from None scope.names text ≡ Some m → variable_type table m ≡ o → found 0 (names_in table scope) text ≡ sight 0 (variable_meaning m o)
entry-is table scope text m o e k = found_in table scope text ∙ (ap (λ q. seen_last table q (found 0 (set_names 0 table.sets) text)) e ∙ ap (λ q. sight 0 (variable_meaning m q)) k)

pub no_variable_there : (table : Table) (scope : ScopeNames) (text : List ℕ) (m : ℕ) → last_from None scope.names text ≡ Some m → variable_type table m ≡ None → (n : ℕ) (t : ValueType) → found 0 (names_in table scope) text ≡ seen (variable n) t → ⊥
no_variable_there table scope text m e k n t h = true≢false (sym (ap is-variable (sym (entry-is table scope text m None e k) ∙ h)))

pub variable_there : (table : Table) (scope : ScopeNames) (text : List ℕ) (m : ℕ) (t : ValueType) → last_from None scope.names text ≡ Some m → variable_type table m ≡ Some t → found 0 (names_in table scope) text ≡ seen (variable m) t
variable_there table scope text m t e k = entry-is table scope text m (Some t) e k

-- the name means the variable where its type is the written one
pub name_meant : (around : Around) (x : RawTyped) (number : ℕ) (t : ValueType) (text : List ℕ) (written : Option ValueType) (o : Option ℕ) → text ≡ x.name.text → found 0 (names_in around.table around.scope) text ≡ seen (variable number) t → written ≡ type_read (names_in around.table around.scope) x.ty →
    MatchOption o (written ≡ Some t → ⊥) (λ n. (n ≡ number) × (written ≡ Some t)) → IsMeaning (NameMeans around x) o
name_meant around x number t text written None e f w h = λ n m.
    let same : seen (variable n) m.of_type ≡ seen (variable number) t = sym m.meant ∙ (ap (found 0 (names_in around.table around.scope)) (sym e) ∙ f) in
    let types : m.of_type ≡ t = cc in
    h (w ∙ (m.typed ∙ ap Some types))
name_meant around x number t text written (Some n) e f w h = record {
  of_type = t;
  meant = ap (found 0 (names_in around.table around.scope)) (sym e) ∙ (f ∙ (λ i. seen (variable (sym h.0 i)) t));
  typed = sym w ∙ h.1;
}

-- ---- numbers of laws
pub spelled_turn : (most i : ℕ) (digits : List ℕ) → i < most → spelled_from (i + 1) (most - i) digits ≡ cond (bytes_eq digits (decimal (i + 1))) (Some (i + 1)) (spelled_from (i + 1 + 1) (most - (i + 1)) digits)
spelled_turn most i digits l =
    let more : most - i ≡ suc (most - (i + 1)) = omega arith in
    let one : suc (i + 1) ≡ i + 1 + 1 = omega arith in
    ap (λ k. spelled_from (i + 1) k digits) more ∙ ap (λ m. cond (bytes_eq digits (decimal (i + 1))) (Some (i + 1)) (spelled_from m (most - (i + 1)) digits)) one

pub spelled_past : (most i : ℕ) (digits text : List ℕ) → i < most → text ≡ decimal (i + 1) → bytes_eq digits text ≡ false → spelled_from (i + 1) (most - i) digits ≡ spelled_from (i + 1 + 1) (most - (i + 1)) digits
spelled_past most i digits text l t e = spelled_turn most i digits l ∙ ap (λ b. cond b (Some (i + 1)) (spelled_from (i + 1 + 1) (most - (i + 1)) digits)) (ap (bytes_eq digits) (sym t) ∙ e)

pub spelled_here : (most i : ℕ) (digits text : List ℕ) → i < most → text ≡ decimal (i + 1) → bytes_eq digits text ≡ true → spelled_from (i + 1) (most - i) digits ≡ Some (i + 1)
spelled_here most i digits text l t e = spelled_turn most i digits l ∙ ap (λ b. cond b (Some (i + 1)) (spelled_from (i + 1 + 1) (most - (i + 1)) digits)) (ap (bytes_eq digits) (sym t) ∙ e)
