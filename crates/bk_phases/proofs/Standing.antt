-- The types that names have come to in the end are those of the table.
use Rattle.std.proofs.Common.{◌≡◌, ℕ, zero, suc, ◌+◌, ◌-◌, ◌<◌, List, [], ◌∷◌, length, refl, sym, ◌∙◌, ap, true, false, cond, arith, nat_eq}
use Rattle.std.specs.Prelude.{Option, None, Some, slice_get, ℤ}
use Rattle.std.proofs.lemmas.Bool.Decides.{nat_tests}
use Rattle.bk_val.specs.ValueType.{ValueType}
use Rattle.bk_form.specs.Each.{Each}
use Rattle.bk_form.specs.Table.{variable_type, lists_type}
use Rattle.bk_raw.specs.Meaning.Binders.{or_bool}
use Rattle.bk_statics.specs.Typings.{Typing}
use Rattle.bk_statics.specs.Settled.{IsSettled}
use Rattle.bk_statics.specs.Sources.{AreTold}
use Rattle.bk_statics.specs.Above.{known}
use Rattle.bk_statics.proofs.Listed.{of_entry, variable-entry}
use Rattle.bk_statics.proofs.Stands.{get-left, get-right, split-at, type-below}
use Rattle.bk_phases.specs.Symbols.{Source, Symbol}
use Rattle.bk_phases.specs.Resolved.{Resolved}
use Rattle.bk_phases.specs.Types.{Types, given, with_one, typed_by, round, repeated, types_of}
use Rattle.bk_phases.specs.LevelOf.{table_entries, table_with}
use Rattle.bk_phases.specs.Laws.{IsSourceOf}
use Rattle.bk_phases.proofs.Told.{rounds-told}

-- ---- the numbers before those that are typed keep their types
low-cond : (m n : ℕ) (t : ValueType) (o : Option ValueType) → nat_eq m n ≡ false → cond (nat_eq m n) (Some t) o ≡ o
low-cond m n t o e = rw e refl

low-one : (m n : ℕ) (o : Option ValueType) (types : Types) → m < n → (with_one n o types).of m ≡ types.of m
low-one m n None types h = refl
low-one m n (Some t) types h = low-cond m n t (types.of m) (grind (arith, nat_tests))

low-step : (m n : ℕ) (s : Source) (o : Option ValueType) (types : Types) → m < n → (typed_by n s o types).of m ≡ types.of m
low-step m n s (Some t) types h = refl
low-step m n s None types h = low-one m n (given types s) types h

low-round : (m n : ℕ) (ss : List Symbol) (types : Types) → m < n → (round n ss types).of m ≡ types.of m
low-round m n [] types h = refl
low-round m n (s ∷ ss) types h = low-round m (suc n) ss (typed_by n s.source (types.of n) types) (omega arith) ∙ low-step m n s.source (types.of n) types h

low-repeated : (c m n : ℕ) (ss : List Symbol) (types : Types) → m < n → (repeated c (round n ss) types).of m ≡ types.of m
low-repeated zero m n ss types h = refl
low-repeated (suc c) m n ss types h = low-repeated c m n ss (round n ss types) h ∙ low-round m n ss types h

-- ---- the entries
entry-of : (typing : Typing) (k n : ℕ) (ss : List Symbol) (i : ℕ) → i < length ss → of_entry (slice_get (table_entries typing k n ss) i) ≡ Some (or_bool (typing (n + i)))
entry-of typing k n [] i h = absurd (omega arith)
entry-of typing k n (s ∷ ss) zero h = let e : n ≡ n + 0 = omega arith in ap (λ m. Some (or_bool (typing m))) e
entry-of typing k n (s ∷ ss) (suc i) h = let e : suc n + i ≡ n + suc i = omega arith in entry-of typing k (suc n) ss i (omega arith) ∙ ap (λ m. Some (or_bool (typing m))) e

module _ (max : ℤ) (r : Resolved) where
  stand : ((n : ℕ) (t : ValueType) → known r.above n ≡ Some t → lists_type (table_with (types_of max r) r) t ≡ true) → Each (λ (s : Symbol). IsSourceOf (table_with (types_of max r) r) s.source) r.symbols → IsSettled (table_with (types_of max r) r) (types_of max r).of
  stand listed sources =
      let dev = r.above in
      let base = length dev.table.variables in
      let size = length r.symbols in
      let first : Types = record { max = max; of = known dev } in
      let types = types_of max r in
      let table = table_with types r in
      let entries = table_entries types.of (length dev.levels) base r.symbols in
      let told : AreTold table (base + size) types.of = rounds-told table (base + size) base size r.symbols first sources (omega arith) (record { listed = listed; below = λ n t e. let b = type-below dev.table n t e in omega (arith, b) }) in
      record {
        types = λ n t e. split-at (variable_type table n ≡ Some t) n base
            (λ h. variable-entry table n ∙ (ap of_entry (get-left dev.table.variables entries n h) ∙ (sym (variable-entry dev.table n) ∙ (sym (low-repeated size n base r.symbols first h) ∙ e))))
            (λ h. let top = told.below n t e in
            let back : base + (n - base) ≡ n = omega (arith, h) in
            variable-entry table n ∙ (ap of_entry (get-right dev.table.variables entries n h) ∙ (entry-of types.of (length dev.levels) base r.symbols (n - base) (omega (arith, top, h)) ∙ (ap (λ m. Some (or_bool (types.of m))) back ∙ ap (λ o. Some (or_bool o)) e))));
        listed = told.listed;
      }

pub types-stand : (max : ℤ) (r : Resolved) → ((n : ℕ) (t : ValueType) → known r.above n ≡ Some t → lists_type (table_with (types_of max r) r) t ≡ true) → Each (λ (s : Symbol). IsSourceOf (table_with (types_of max r) r) s.source) r.symbols → IsSettled (table_with (types_of max r) r) (types_of max r).of
types-stand max r listed sources = stand max r listed sources
