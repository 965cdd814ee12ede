-- What stands above a component, one set or one variable after the other.
use Rattle.std.proofs.Common.{◌≡◌, refl, sym, ap, ◌∙◌, ◌+◌, ◌<◌, ◌≤◌, ℕ, zero, suc, List, [], ◌∷◌, ◌++◌, length, map, get_or, take, drop, Option, Some, None, arith, append_assoc}
use Rattle.std.specs.List.{slice_get}
use Rattle.std.proofs.lemmas.List.{append-nil, drop_all, drop_more, map_more}
use Rattle.std.proofs.lemmas.Option.{slice_get_within, get_or_from_slice_get, slice_get-get_or}
use Rattle.std.specs.Option.{option_map}
use Rattle.bk_val.specs.ValueType.{ValueType, int_type}
use Rattle.bk_form.specs.Table.{Table, SetEntry, VariableEntry, set_name as table_set_name, set_elements, variable_type}
use Rattle.bk_dev.specs.declared.kind.Home.{Home}
use Rattle.bk_dev.specs.declared.kind.Home.TheVariants.{Constant, Input, Abstract, Concrete, Inner}
use Rattle.bk_raw.specs.Meaning.Names.{Names, Named, set_name}
use Rattle.bk_raw.specs.Meaning.ScopeReading.{set_names, element_names}
use Rattle.bk_statics.specs.Above.{constants_from, text_of}
use Rattle.bk_statics.specs.Typings.{or_else}
use Rattle.bk_scope.specs.Shown.{constant_at, set_at, set_entry}

-- a set that is not there, and one that is
pub unnamed_set : (n : ℕ) (t : Table) → table_set_name t n ≡ None → set_at n t.sets ≡ []
unnamed_set n t is = without (slice_get t.sets n) is
  where
    without : (o : Option SetEntry) → option_map (λ (s : SetEntry). s.name) o ≡ None → set_entry n o ≡ []
    without None e = refl
    without (Some s) e = absurd (cc)

pub empty_set : (n : ℕ) (t : Table) → set_elements t n ≡ None → set_at n t.sets ≡ []
empty_set n t is = without (slice_get t.sets n) is
  where
    without : (o : Option SetEntry) → option_map (λ (s : SetEntry). s.elements) o ≡ None → set_entry n o ≡ []
    without None e = refl
    without (Some s) e = absurd (cc)

pub whole_set : (n : ℕ) (t : Table) (x : List ℕ) (es : List (List ℕ)) → table_set_name t n ≡ Some x → set_elements t n ≡ Some es → set_at n t.sets ≡ record { text = x; meaning = set_name n } ∷ element_names n 0 es
whole_set n t x es named listed = there (slice_get t.sets n) named listed
  where
    there : (o : Option SetEntry) → option_map (λ (s : SetEntry). s.name) o ≡ Some x → option_map (λ (s : SetEntry). s.elements) o ≡ Some es → set_entry n o ≡ record { text = x; meaning = set_name n } ∷ element_names n 0 es
    there None e f = absurd (cc)
    there (Some s) e f =
        let text : s.name ≡ x = cc in
        let elements : s.elements ≡ es = cc in
        ap (λ y. record { text = y; meaning = set_name n } ∷ element_names n 0 s.elements) text ∙ ap (λ ys. record { text = x; meaning = set_name n } ∷ element_names n 0 ys) elements

-- nothing goes behind
pub same_behind : (old rest : Names) → rest ≡ [] → old ≡ old ++ rest
same_behind old rest is = sym (append-nil old) ∙ ap (λ ns. old ++ ns) (sym is)

-- a set's name and then its elements
pub two_behind : (old one two : Names) (x : Named) (es rest : Names) → one ≡ old ++ x ∷ [] → two ≡ one ++ es → rest ≡ x ∷ es → two ≡ old ++ rest
two_behind old one two x es rest first second is =
    second ∙ ap (λ ns. ns ++ es) first ∙ append_assoc old (x ∷ []) es ∙ ap (λ ns. old ++ ns) (sym is)

-- the type of one more variable
pub types_step : (n : ℕ) (table : Table) (old new : List (Option ValueType)) (t : Option ValueType) → n < length table.variables
    → old ≡ map (λ (v : VariableEntry). Some v.of_type) (take n table.variables) → t ≡ variable_type table n → new ≡ old ++ t ∷ []
    → new ≡ map (λ (v : VariableEntry). Some v.of_type) (take (n + 1) table.variables)
types_step n table old new t lt inv is pushed =
    let entry = slice_get-get_or table.variables n (record { text = []; of_type = int_type }) lt in
    let of_entry : variable_type table n ≡ Some (get_or table.variables n (record { text = []; of_type = int_type })).of_type = ap (λ o. option_map (λ (e : VariableEntry). e.of_type) o) entry in
    pushed ∙ ap (λ ts. ts ++ t ∷ []) inv ∙ ap (λ u. map (λ (v : VariableEntry). Some v.of_type) (take n table.variables) ++ u ∷ []) (is ∙ of_entry)
    ∙ sym (map_more (λ (v : VariableEntry). Some v.of_type) table.variables n (record { text = []; of_type = int_type }) lt)

-- the set of this number with its elements, and those behind it
pub sets_more : (es : List SetEntry) (n : ℕ) → n < length es → set_names n (drop n es) ≡ set_at n es ++ set_names (n + 1) (drop (n + 1) es)
sets_more es n lt =
    let e : SetEntry = get_or es n (record { name = []; elements = []; size = 0 }) in
    let next : suc n ≡ n + 1 = omega arith in
    ap (λ ds. set_names n ds) (drop_more es n (record { name = []; elements = []; size = 0 }) lt)
    ∙ ap (λ m. set_entry n (Some e) ++ set_names m (drop (n + 1) es)) next
    ∙ ap (λ o. set_entry n o ++ set_names (n + 1) (drop (n + 1) es)) (sym (slice_get-get_or es n (record { name = []; elements = []; size = 0 }) lt))

-- the names of sets, as far as a loop has put them together
pub sets_step : (n : ℕ) (es : List SetEntry) (old new whole : Names) → n < length es → old ++ set_names n (drop n es) ≡ whole → new ≡ old ++ set_at n es → new ++ set_names (n + 1) (drop (n + 1) es) ≡ whole
sets_step n es old new whole lt inv one =
    ap (λ ns. ns ++ set_names (n + 1) (drop (n + 1) es)) one
    ∙ append_assoc old (set_at n es) (set_names (n + 1) (drop (n + 1) es))
    ∙ ap (λ ns. old ++ ns) (sym (sets_more es n lt))
    ∙ inv

first_of : (m : ℕ) (h : Home) (hs : List Home) (v : VariableEntry) (vs : List VariableEntry) → constants_from m (h ∷ hs) (v ∷ vs) ≡ constant_at h v.text m ++ constants_from (suc m) hs vs
first_of m Constant hs v vs = refl
first_of m Input hs v vs = refl
first_of m (Abstract k) hs v vs = refl
first_of m (Concrete k) hs v vs = refl
first_of m (Inner k) hs v vs = refl

item : {A : Type 0} (xs : List A) (n : ℕ) (x : A) → slice_get xs n ≡ Some x → drop n xs ≡ x ∷ drop (n + 1) xs
item xs n x is = drop_more xs n x (slice_get_within xs n x is) ∙ ap (λ y. y ∷ drop (n + 1) xs) (get_or_from_slice_get xs n x x is)

-- the constant of this number, if it is one, and those behind it
pub constants_more : (n : ℕ) (hs : List Home) (vs : List VariableEntry) (h : Home) (v : VariableEntry) → slice_get hs n ≡ Some h → slice_get vs n ≡ Some v → constants_from n (drop n hs) (drop n vs) ≡ constant_at h v.text n ++ constants_from (n + 1) (drop (n + 1) hs) (drop (n + 1) vs)
constants_more n hs vs h v home entry =
    let next : suc n ≡ n + 1 = omega arith in
    ap (λ ds. constants_from n ds (drop n vs)) (item hs n h home)
    ∙ ap (λ ds. constants_from n (h ∷ drop (n + 1) hs) ds) (item vs n v entry)
    ∙ first_of n h (drop (n + 1) hs) v (drop (n + 1) vs)
    ∙ ap (λ m. constant_at h v.text n ++ constants_from m (drop (n + 1) hs) (drop (n + 1) vs)) next

-- the names of constants, as far as a loop has put them together
pub constants_step : (n : ℕ) (table : Table) (hs : List Home) (h : Home) (old new whole : Names) → n < length table.variables → slice_get hs n ≡ Some h
    → old ++ constants_from n (drop n hs) (drop n table.variables) ≡ whole → new ≡ old ++ constant_at h (text_of table n) n
    → new ++ constants_from (n + 1) (drop (n + 1) hs) (drop (n + 1) table.variables) ≡ whole
constants_step n table hs h old new whole lt home inv one =
    let v : VariableEntry = get_or table.variables n (record { text = []; of_type = int_type }) in
    let entry = slice_get-get_or table.variables n (record { text = []; of_type = int_type }) lt in
    let text : text_of table n ≡ v.text = ap (λ o. or_else [] (option_map (λ (e : VariableEntry). e.text) o)) entry in
    let rest : Names = constants_from (n + 1) (drop (n + 1) hs) (drop (n + 1) table.variables) in
    ap (λ ns. ns ++ constants_from (n + 1) (drop (n + 1) hs) (drop (n + 1) table.variables)) (one ∙ ap (λ x. old ++ constant_at h x n) text)
    ∙ append_assoc old (constant_at h v.text n) rest
    ∙ ap (λ ns. old ++ ns) (sym (constants_more n hs table.variables h v home entry))
    ∙ inv

none_drop : {A : Type 0} (xs : List A) (n : ℕ) → slice_get xs n ≡ None → drop n xs ≡ []
none_drop [] zero e = refl
none_drop [] (suc n) e = refl
none_drop (x ∷ xs) zero e = absurd (cc)
none_drop (x ∷ xs) (suc n) e = none_drop xs n e

-- without a home there is no constant
pub constants_stop : (n : ℕ) (hs : List Home) (vs : List VariableEntry) (old whole : Names) → slice_get hs n ≡ None → old ++ constants_from n (drop n hs) vs ≡ whole → old ≡ whole
constants_stop n hs vs old whole none inv = sym (append-nil old) ∙ ap (λ ds. old ++ constants_from n ds vs) (sym (none_drop hs n none)) ∙ inv

nothing_left : (n : ℕ) (hs : List Home) → constants_from n hs [] ≡ []
nothing_left n [] = refl
nothing_left n (h ∷ hs) = refl

-- nor behind the last variable
pub constants_end : (n : ℕ) (hs : List Home) (vs : List VariableEntry) (old whole : Names) → length vs ≤ n → old ++ constants_from n (drop n hs) (drop n vs) ≡ whole → old ≡ whole
constants_end n hs vs old whole le inv = sym (append-nil old) ∙ ap (λ ds. old ++ ds) (sym (nothing_left n (drop n hs))) ∙ ap (λ ds. old ++ constants_from n (drop n hs) ds) (sym (drop_all n vs le)) ∙ inv
