-- A written type names only sets that the table lists, so a widened table is as well formed as the one that it is over.
use Rattle.std.proofs.Common.{◌≡◌, ◌<◌, ◌+◌, ℕ, suc, List, [], ◌∷◌, length, refl, sym, ◌∙◌, ap, Bool, true, false, cond, arith, is_some}
use Rattle.std.specs.Prelude.{Option, Some, None, All, IsTrue, ◌&&◌, nat_lt}
use Rattle.std.specs.List.{filter_map, cons_option}
use Rattle.std.specs.Option.{option_map}
use Rattle.std.proofs.lemmas.Bool.Decides.{nat_tests}
use Rattle.std.proofs.lemmas.List.Elements.{All-append, All-nil, All-cons}
use Rattle.bk_val.specs.ValueType.{ValueType, enum_type, pair_type, set_type}
use Rattle.bk_form.specs.Table.{Table, SetEntry, VariableEntry, lists_type}
use Rattle.bk_raw.specs.Trees.WrittenType.{WrittenType, written_integer, written_bool, written_set, written_power, written_product}
use Rattle.bk_raw.specs.declared.script.RawTyped.{RawTyped}
use Rattle.bk_raw.specs.Meaning.Printed.{type_read, power_of, product_of}
use Rattle.bk_raw.specs.Meaning.Names.{found}
use Rattle.bk_raw.specs.Meaning.ScopeReading.{ScopeNames, names_in, last_from}
use Rattle.bk_scripts.specs.Brought.{entry_for, type_of, type_in, type_scope, new_names}
use Rattle.bk_scripts.specs.Finding.{in_set, set_or, set_among}
use Rattle.bk_scripts.specs.Laws.{WidenedIsWellFormed}
use Rattle.bk_scripts.proofs.Finds.{set_type_found}

-- the set that is found is one of them
set-within : (s : ℕ) (sets : List SetEntry) (text : List ℕ) (n : ℕ) → set_among s sets text ≡ Some n → n < s + length sets
set-within s [] text n e = absurd (cc)
set-within s (x ∷ xs) text n e = by (in_set x text) e (λ k. set-within (suc s) xs text n k)
  where
    by : (b : Option Bool) → set_or s b (set_among (suc s) xs text) ≡ Some n → (set_among (suc s) xs text ≡ Some n → n < suc s + length xs) → n < s + suc (length xs)
    by (Some true) k f = let same : s ≡ n = cc in omega (arith, same)
    by (Some false) k f = absurd (cc)
    by None k f = omega (arith, f k)

listed-set : (table : Table) (o : Option ℕ) (found : Option ℕ) (v : ValueType) → ((n : ℕ) → found ≡ Some n → n < length table.sets) → cond (is_some o) None (option_map enum_type found) ≡ Some v → lists_type table v ≡ true
listed-set table (Some m) found v h e = absurd (cc)
listed-set table None None v h e = absurd (cc)
listed-set table None (Some n) v h e =
    let same : enum_type n ≡ v = cc in
    let l : n < length table.sets = h n refl in
    let t : nat_lt n (length table.sets) ≡ true = grind (arith, nat_tests) in
    ap (lists_type table) (sym same) ∙ t

listed-power : (table : Table) (o : Option ValueType) (v : ValueType) → ((u : ValueType) → o ≡ Some u → lists_type table u ≡ true) → power_of o ≡ Some v → lists_type table v ≡ true
listed-power table None v h e = absurd (cc)
listed-power table (Some u) v h e = let same : set_type u ≡ v = cc in ap (lists_type table) (sym same) ∙ h u refl

both-listed : (a b : Bool) → a ≡ true → b ≡ true → (a && b) ≡ true
both-listed true b e h = h
both-listed false b e h = e

listed-product : (table : Table) (o p : Option ValueType) (v : ValueType) → ((u : ValueType) → o ≡ Some u → lists_type table u ≡ true) → ((u : ValueType) → p ≡ Some u → lists_type table u ≡ true) → product_of o p ≡ Some v → lists_type table v ≡ true
listed-product table None p v h k e = absurd (cc)
listed-product table (Some t) None v h k e = absurd (cc)
listed-product table (Some t) (Some u) v h k e =
    let same : pair_type t u ≡ v = cc in
    ap (lists_type table) (sym same) ∙ both-listed (lists_type table t) (lists_type table u) (h t refl) (k u refl)

some-same : {A : Type 0} {x y : A} → Some x ≡ Some y → x ≡ y
some-same e = cc

type-listed : (table : Table) (scope : ScopeNames) (t : WrittenType) (v : ValueType) → type_read (names_in table scope) t ≡ Some v → lists_type table v ≡ true
type-listed table scope written_integer v e = let same : _ ≡ v = some-same e in ap (lists_type table) (sym same)
type-listed table scope written_bool v e = let same : _ ≡ v = some-same e in ap (lists_type table) (sym same)
type-listed table scope (written_set x) v e = listed-set table (last_from None scope.names x) (set_among 0 table.sets x) v (λ n k. omega (arith, set-within 0 table.sets x n k)) (sym (set_type_found table scope x) ∙ e)
type-listed table scope (written_power t) v e = listed-power table (type_read (names_in table scope) t) v (type-listed table scope t) e
type-listed table scope (written_product t u) v e = listed-product table (type_read (names_in table scope) t) (type_read (names_in table scope) u) v (type-listed table scope t) (type-listed table scope u) e

-- so are the types of new variables
abbrev IsListed : Table → VariableEntry → Type 0
IsListed table v = IsTrue (lists_type table v.of_type)

one-listed : (table : Table) (scope : ScopeNames) (x : RawTyped) (rest : List VariableEntry) → All (IsListed table) rest → All (IsListed table) (cons_option (entry_for (type_in table scope) x) rest)
one-listed table scope x rest h = by (type_in table scope x) (type-listed table scope x.ty)
  where
    by : (o : Option ValueType) → ((v : ValueType) → o ≡ Some v → lists_type table v ≡ true) → All (IsListed table) (cons_option (option_map (λ t. record { text = x.name.text; of_type = t }) o) rest)
    by None k = h
    by (Some t) k = All-cons (IsListed table) (record { text = x.name.text; of_type = t }) rest (k t refl) h

all-listed : (table : Table) (scope : ScopeNames) (xs : List RawTyped) → All (IsListed table) (filter_map (entry_for (type_in table scope)) xs)
all-listed table scope [] = All-nil (IsListed table)
all-listed table scope (x ∷ xs) = one-listed table scope x (filter_map (entry_for (type_in table scope)) xs) (all-listed table scope xs)

pub widened_is_well_formed : WidenedIsWellFormed
widened_is_well_formed table dev s w few = record {
  counted = w.counted;
  listed = All-append (IsListed table) table.variables (filter_map (entry_for (type_of table dev s)) (new_names table dev s)) w.listed (all-listed table (type_scope table dev s) (new_names table dev s));
}
