-- Steps and ends of the loops.
use Rattle.std.proofs.Common.{◌≡◌, inl, inr, ℕ, zero, suc, ◌+◌, ◌<◌, ◌≤◌, List, [], ◌∷◌, ◌++◌, length, length-append, map, take, drop, get_or, refl, sym, ◌∙◌, ap, subst, Bool, true, false, ◌||◌, cond, Some, None, arith}
use Rattle.std.proofs.lemmas.Bool.{cases_Bool}
use Rattle.std.proofs.lemmas.List.{append-nil, append_assoc, map-append, at_drop_more, drop_all, take_more}
use Rattle.std.proofs.lemmas.List.Elements.{Contains-append_cases}
use Rattle.std.proofs.lemmas.Option.{slice_get_within, slice_get_past}
use Rattle.std.specs.Prelude.{Option, slice_get, is_some, is_none, MatchOption}
use Rattle.std.specs.Option.{option_map}
use Rattle.std.specs.List.{Contains, list_any, flat_map}
use Rattle.bk_form.specs.Formula.{Formula}
use Rattle.bk_form.specs.Table.{Table, SetEntry, VariableEntry, with_variable, lists_type}
use Rattle.bk_form.specs.Role.{all_listed}
use Rattle.bk_form.proofs.Members.{and-both}
use Rattle.bk_auto.proofs.Fresh.{length_map}
use Rattle.bk_val.specs.ValueType.{ValueType}
use Rattle.bk_arith.specs.Comparison.{terms_of_hypothesis}
use Rattle.bk_arith.specs.Same.{is_same}
use Rattle.bk_arith.proofs.SameFormula.{same-then}
use Rattle.bk_auto.specs.Easy.{comparisons}
use Rattle.bk_auto.specs.NewVariables.{texts_of, IsNewText, AreNew, HasNew}
use Rattle.bk_auto.specs.Found.{comparison_numbers, IsOutside, GrewBy, numbers_from}
use Rattle.bk_auto.proofs.Wider.{grown, grown-nil, grown-more, new-append}

-- ---- comparisons
pub one_read : (h : Formula) → is_some (terms_of_hypothesis h) ≡ true → comparisons (h ∷ []) ≡ h ∷ []
one_read h e = at (terms_of_hypothesis h) e
  where
    at : (o : Option (List Formula)) → is_some o ≡ true → cond (is_none o) [] (h ∷ []) ≡ h ∷ []
    at None q = absurd (cc)
    at (Some x) q = refl

pub one_unread : (h : Formula) → is_some (terms_of_hypothesis h) ≡ false → comparisons (h ∷ []) ≡ []
one_unread h e = at (terms_of_hypothesis h) e
  where
    at : (o : Option (List Formula)) → is_some o ≡ false → cond (is_none o) [] (h ∷ []) ≡ []
    at None q = refl
    at (Some x) q = absurd (cc)

pub number_read : (h : Formula) (n : ℕ) → is_some (terms_of_hypothesis h) ≡ true → comparison_numbers n (h ∷ []) ≡ n ∷ []
number_read h n e = at (terms_of_hypothesis h) e
  where
    at : (o : Option (List Formula)) → is_some o ≡ true → cond (is_none o) [] (n ∷ []) ≡ n ∷ []
    at None q = absurd (cc)
    at (Some x) q = refl

pub number_unread : (h : Formula) (n : ℕ) → is_some (terms_of_hypothesis h) ≡ false → comparison_numbers n (h ∷ []) ≡ []
number_unread h n e = at (terms_of_hypothesis h) e
  where
    at : (o : Option (List Formula)) → is_some o ≡ false → cond (is_none o) [] (n ∷ []) ≡ []
    at None q = refl
    at (Some x) q = absurd (cc)

cond-append : {A : Type 0} (b : Bool) (x : A) (xs : List A) → cond b xs (x ∷ xs) ≡ cond b [] (x ∷ []) ++ xs
cond-append true x xs = refl
cond-append false x xs = refl

pub comparisons_step : (hs read more : List Formula) (i : ℕ) (h : Formula) → i < length hs → h ≡ get_or hs i h → read ++ comparisons (drop i hs) ≡ comparisons hs → more ≡ read ++ comparisons (h ∷ []) → more ++ comparisons (drop (i + 1) hs) ≡ comparisons hs
comparisons_step hs read more i h below is before e =
    let next : comparisons (drop i hs) ≡ comparisons (h ∷ []) ++ comparisons (drop (i + 1) hs) =
    at_drop_more comparisons hs i h below ∙ ap (λ x. comparisons (x ∷ drop (i + 1) hs)) (sym is) ∙ cond-append (is_none (terms_of_hypothesis h)) h (comparisons (drop (i + 1) hs)) in
    ap (λ xs. xs ++ comparisons (drop (i + 1) hs)) e ∙ append_assoc read (comparisons (h ∷ [])) (comparisons (drop (i + 1) hs)) ∙ ap (λ xs. read ++ xs) (sym next) ∙ before

pub comparisons_end : (hs read : List Formula) (i : ℕ) → length hs ≤ i → read ++ comparisons (drop i hs) ≡ comparisons hs → read ≡ comparisons hs
comparisons_end hs read i past h = sym (ap (λ xs. read ++ comparisons xs) (drop_all i hs past) ∙ append-nil read) ∙ h

pub numbers_step : (hs : List Formula) (numbers more : List ℕ) (i : ℕ) (h : Formula) → i < length hs → h ≡ get_or hs i h → numbers ++ comparison_numbers (i + 1) (drop i hs) ≡ comparison_numbers 1 hs → more ≡ numbers ++ comparison_numbers (i + 1) (h ∷ []) → more ++ comparison_numbers (i + 1 + 1) (drop (i + 1) hs) ≡ comparison_numbers 1 hs
numbers_step hs numbers more i h below is before e =
    let one : suc (i + 1) ≡ i + 1 + 1 = omega arith in
    let next : comparison_numbers (i + 1) (drop i hs) ≡ comparison_numbers (i + 1) (h ∷ []) ++ comparison_numbers (i + 1 + 1) (drop (i + 1) hs) =
    at_drop_more (comparison_numbers (i + 1)) hs i h below ∙ ap (λ x. comparison_numbers (i + 1) (x ∷ drop (i + 1) hs)) (sym is)
    ∙ cond-append (is_none (terms_of_hypothesis h)) (i + 1) (comparison_numbers (suc (i + 1)) (drop (i + 1) hs))
    ∙ ap (λ k. comparison_numbers (i + 1) (h ∷ []) ++ comparison_numbers k (drop (i + 1) hs)) one in
    ap (λ xs. xs ++ comparison_numbers (i + 1 + 1) (drop (i + 1) hs)) e
    ∙ append_assoc numbers (comparison_numbers (i + 1) (h ∷ [])) (comparison_numbers (i + 1 + 1) (drop (i + 1) hs)) ∙ ap (λ xs. numbers ++ xs) (sym next) ∙ before

pub numbers_end : (hs : List Formula) (numbers : List ℕ) (i : ℕ) → length hs ≤ i → numbers ++ comparison_numbers (i + 1) (drop i hs) ≡ comparison_numbers 1 hs → numbers ≡ comparison_numbers 1 hs
numbers_end hs numbers i past h = sym (ap (λ xs. numbers ++ comparison_numbers (i + 1) xs) (drop_all i hs past) ∙ append-nil numbers) ∙ h

-- ---- a formula that is none of a list
false-of : (b : Bool) → (b ≡ true → ⊥) → b ≡ false
false-of true h = absurd (h refl)
false-of false h = refl

pub none_same : (f : Formula) (hs : List Formula) → ((k : ℕ) (d : Formula) → k < length hs → get_or hs k d ≡ f → ⊥) → list_any (is_same f) hs ≡ false
none_same f [] h = refl
none_same f (x ∷ hs) h =
    let first : is_same f x ≡ false = false-of (is_same f x) (λ e. h 0 x (omega arith) (sym (same-then f x e))) in
    let rest = none_same f hs (λ k d b e. h (suc k) d (omega arith) e) in
    λ i. first i || rest i

-- ---- texts
text-below : (vs : List VariableEntry) (k : ℕ) (t : List ℕ) → option_map (λ v. v.text) (slice_get vs k) ≡ Some t → k < length vs
text-below vs k t e = at (slice_get vs k) refl e
  where
    at : (o : Option VariableEntry) → slice_get vs k ≡ o → option_map (λ v. v.text) o ≡ Some t → k < length vs
    at None q h = absurd (cc)
    at (Some v) q h = slice_get_within vs k v q

pub no_variable : (table : Table) (n : ℕ) (t : List ℕ) → length table.variables ≤ n → ((k : ℕ) → k < n → option_map (λ v. v.text) (slice_get table.variables k) ≡ Some t → ⊥) → (k : ℕ) → option_map (λ v. v.text) (slice_get table.variables k) ≡ Some t → ⊥
no_variable table n t past h k e = h k (let b = text-below table.variables k t e in omega arith) e

pub all_outside : (table : Table) (n : ℕ) (t : List ℕ) → length table.sets ≤ n → ((k : ℕ) → k < n → IsOutside (slice_get table.sets k) t) → (k : ℕ) → IsOutside (slice_get table.sets k) t
all_outside table n t past h k = at (slice_get table.sets k) refl
  where
    at : (o : Option SetEntry) → slice_get table.sets k ≡ o → IsOutside o t
    at None q = tt
    at (Some s) q = subst (λ o. IsOutside o t) q (h k (let b = slice_get_within table.sets k s q in omega arith))

in_set : (s : SetEntry) (t : List ℕ) → (Some s.name ≡ Some t → ⊥) → (Contains s.elements t → ⊥) → Contains (s.name ∷ s.elements) t → ⊥
in_set s t h k (zero, below, is) = h (ap Some is)
in_set s t h k (suc n, below, is) = k (n, omega arith, is)

pub outside : (o : Option SetEntry) (t : List ℕ) → (option_map (λ s. s.name) o ≡ Some t → ⊥) → MatchOption (option_map (λ s. s.elements) o) (Unit {0}) (λ ns. Contains ns t → ⊥) → IsOutside o t
outside None t h k = tt
outside (Some s) t h k = in_set s t h k

in_sets : (ss : List SetEntry) (t : List ℕ) → ((k : ℕ) → IsOutside (slice_get ss k) t) → Contains (flat_map (λ s. s.name ∷ s.elements) ss) t → ⊥
in_sets [] t h (k, below, is) = absurd (omega arith)
in_sets (s ∷ ss) t h c = elim (Contains-append_cases (s.name ∷ s.elements) (flat_map (λ x. x.name ∷ x.elements) ss) t c) [
  | inl q ↦ h 0 q
  | inr q ↦ in_sets ss t (λ k. h (suc k)) q
]

in_variables : (vs : List VariableEntry) (t : List ℕ) → ((k : ℕ) → option_map (λ v. v.text) (slice_get vs k) ≡ Some t → ⊥) → Contains (map (λ v. v.text) vs) t → ⊥
in_variables [] t h (k, below, is) = absurd (omega arith)
in_variables (v ∷ vs) t h (zero, below, is) = h 0 (ap Some is)
in_variables (v ∷ vs) t h (suc k, below, is) = in_variables vs t (λ n. h (suc n)) (k, omega arith, is)

pub not_taken : (table : Table) (t : List ℕ) → ((k : ℕ) → option_map (λ v. v.text) (slice_get table.variables k) ≡ Some t → ⊥) → ((k : ℕ) → IsOutside (slice_get table.sets k) t) → Contains (texts_of table) t → ⊥
not_taken table t h k c = elim (Contains-append_cases (flat_map (λ s. s.name ∷ s.elements) table.sets) (map (λ v. v.text) table.variables) t c) [
  | inl q ↦ in_sets table.sets t k q
  | inr q ↦ in_variables table.variables t h q
]

-- ---- new variables
pub grew_none : (t : Table) → GrewBy t t []
grew_none t = record { more = []; made = sym (grown-nil t); new = tt; types = refl }

pub grew_one : (t : Table) (v : VariableEntry) → IsNewText (texts_of t) v.text → GrewBy t (with_variable t v) (v.of_type ∷ [])
grew_one t v h = record { more = v ∷ []; made = refl; new = (h, tt); types = refl }

pub grew_more : (a b c : Table) (ts us : List ValueType) → GrewBy a b ts → GrewBy b c us → GrewBy a c (ts ++ us)
grew_more a b c ts us h k = record {
  more = h.more ++ k.more;
  made = k.made ∙ ap (λ t. grown t k.more) h.made ∙ grown-more a h.more k.more;
  new = new-append a h.more k.more h.new (subst (λ t. AreNew t k.more) h.made k.new);
  types = map-append (λ v. v.of_type) h.more k.more ∙ (λ i. h.types i ++ k.types i);
}

pub grew_new : (a b : Table) (ts : List ValueType) → GrewBy a b ts → HasNew a b
grew_new a b ts h = record { more = h.more; made = h.made; new = h.new }

-- ---- several new variables
listed_at : (table : Table) (ts : List ValueType) (i : ℕ) (d : ValueType) → i < length ts → all_listed table ts ≡ true → lists_type table (get_or ts i d) ≡ true
listed_at table [] i d b h = absurd (omega arith)
listed_at table (t ∷ ts) zero d b h = (and-both (lists_type table t) (all_listed table ts) h).0
listed_at table (t ∷ ts) (suc i) d b h = listed_at table ts i d (omega arith) (and-both (lists_type table t) (all_listed table ts) h).1

pub listed_still : (small large : Table) (taken ts : List ValueType) (i : ℕ) (t : ValueType) → GrewBy small large taken → all_listed small ts ≡ true → i < length ts → t ≡ get_or ts i t → lists_type large t ≡ true
listed_still small large taken ts i t g h b is = ap (λ (x : Table). lists_type x t) g.made ∙ ap (lists_type small) is ∙ listed_at small ts i t b h

numbers-last : (n k : ℕ) → numbers_from n k ++ (n + k) ∷ [] ≡ numbers_from n (suc k)
numbers-last n zero = let e : n + 0 ≡ n = omega arith in ap (λ m. m ∷ []) e
numbers-last n (suc k) = let e : n + suc k ≡ suc n + k = omega arith in ap (λ xs. n ∷ xs) (ap (λ m. numbers_from (suc n) k ++ m ∷ []) e ∙ numbers-last (suc n) k)

pub numbers_pushed : (small large : Table) (taken : List ValueType) (names more : List ℕ) (i n : ℕ) → GrewBy small large taken → length taken ≡ i → names ≡ numbers_from (length small.variables) i → n ≡ length large.variables → more ≡ names ++ n ∷ [] → more ≡ numbers_from (length small.variables) (i + 1)
numbers_pushed small large taken names more i n g count are is e =
    let some : length g.more ≡ i = sym (length_map (λ (v : VariableEntry). v.of_type) g.more) ∙ ap length g.types ∙ count in
    let all : length large.variables ≡ length small.variables + length g.more = ap (λ (t : Table). length t.variables) g.made ∙ length-append small.variables g.more in
    let number : n ≡ length small.variables + i = omega arith in
    let next : suc i ≡ i + 1 = omega arith in
    e ∙ (λ j. are j ++ number j ∷ []) ∙ numbers-last (length small.variables) i ∙ ap (numbers_from (length small.variables)) next

pub grew_step : (a b c : Table) (ts : List ValueType) (i : ℕ) (t : ValueType) → GrewBy a b (take i ts) → GrewBy b c (t ∷ []) → i < length ts → t ≡ get_or ts i t → GrewBy a c (take (i + 1) ts)
grew_step a b c ts i t h k below is =
    subst (GrewBy a c) (ap (λ x. take i ts ++ x ∷ []) is ∙ sym (take_more ts i t below)) (grew_more a b c (take i ts) (t ∷ []) h k)
