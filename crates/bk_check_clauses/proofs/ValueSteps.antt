-- The values of constants, one entry after another, and the sizes of sets, one set after another.
use Rattle.std.proofs.Common.{◌≡◌, ℕ, suc, ◌+◌, ◌<◌, ◌≤◌, List, [], ◌∷◌, ◌++◌, length, get_or, drop, refl, ◌∙◌, ap, Bool, true, false, cond, arith}
use Rattle.std.specs.Prelude.{Option, None, Some, ℤ, ◌&&◌}
use Rattle.std.specs.Bool.{then_some}
use Rattle.std.specs.Option.{option_map_or}
use Rattle.std.proofs.lemmas.Option.{some_pair_parts, slice_get-get_or}
use Rattle.bk_form.specs.Formula.{Formula}
use Rattle.bk_form.specs.Table.{Table, SetEntry, listed_size}
use Rattle.bk_val.specs.ValueType.{ValueType}
use Rattle.bk_raw.specs.declared.component.RawValue.{RawValue}
use Rattle.bk_raw.specs.Meaning.Names.{Names}
use Rattle.bk_raw.specs.Errors.Blame.{blame, earlier}
use Rattle.bk_raw.specs.Errors.Faults.{Fault, wrong_value}
use Rattle.bk_raw.specs.Meaning.Outcome.{whole, hollow, single_of, pair_of, joint_of, Outcome, partial, ranging, holding, silent, ask_value}
use Rattle.bk_statics.specs.LevelOf.{is_value_form, is_of, where_value, value_in}
use Rattle.bk_statics.specs.ValueFaults.{lacks_size, without_size}
use Rattle.bk_scope.proofs.FaultSteps.{at-item, told-next-at, told-end}

-- ---- a value
-- a term that is no value of any type has none
pub value-none : (max : ℤ) (t : Option ValueType) (at : ℕ) (o : Outcome) → None ≡ (ask_value at o).answer → None ≡ value_in max t o
value-none max t at (partial (whole f u)) e = absurd (cc)
value-none max t at (partial hollow) e = refl
value-none max t at (partial (single_of p)) e = refl
value-none max t at (partial (pair_of p q)) e = refl
value-none max t at (partial (joint_of j p q)) e = refl
value-none max t at (ranging f u there) e = refl
value-none max t at (holding p) e = refl
value-none max t at silent e = refl

-- one that is has it where its form and its type are right
pub value-some : (max : ℤ) (t : Option ValueType) (at : ℕ) (o : Outcome) (f : Formula) (u : ValueType) → Some (f, u) ≡ (ask_value at o).answer → where_value (is_value_form max f && is_of t u) f ≡ value_in max t o
value-some max t at (partial (whole g w)) f u e =
    let same : (f ≡ g) × (u ≡ w) = some_pair_parts f g u w e in
    λ i. where_value (is_value_form max (same.0 i) && is_of t (same.1 i)) (same.0 i)
value-some max t at (partial hollow) f u e = absurd (cc)
value-some max t at (partial (single_of p)) f u e = absurd (cc)
value-some max t at (partial (pair_of p q)) f u e = absurd (cc)
value-some max t at (partial (joint_of j p q)) f u e = absurd (cc)
value-some max t at (ranging g w there) f u e = absurd (cc)
value-some max t at (holding p) f u e = absurd (cc)
value-some max t at silent f u e = absurd (cc)

-- the same as a test tells it
pub value-kept : (max : ℤ) (t : Option ValueType) (at : ℕ) (o : Outcome) (f : Formula) (u : ValueType) (b : Bool) → b ≡ (is_value_form max f && is_of t u) → Some (f, u) ≡ (ask_value at o).answer → then_some b f ≡ value_in max t o
value-kept max t at o f u b k e = kept b ∙ (ap (λ c. where_value c f) k ∙ value-some max t at o f u e)
  where
    kept : (c : Bool) → then_some c f ≡ where_value c f
    kept true = refl
    kept false = refl

-- ---- sizes
-- one set more
pub size-next : (at : ℕ) (globals : Names) (vs : List RawValue) (table : Table) (n : ℕ) (lacks : Bool) (before now after wanted : Option Fault) → n < length table.sets → lacks ≡ lacks_size globals vs n (listed_size table n) →
    now ≡ blame (cond lacks (wrong_value at ∷ []) []) → after ≡ earlier before now → earlier before (blame (without_size at globals vs n (drop n table.sets))) ≡ wanted → earlier after (blame (without_size at globals vs (n + 1) (drop (n + 1) table.sets))) ≡ wanted
size-next at globals vs table n lacks before now after wanted h is k f inv =
    let blank : SetEntry = record { name = []; elements = []; size = 0 } in
    let s = get_or table.sets n blank in
    let size : listed_size table n ≡ s.size = ap (λ o. option_map_or (λ (e : SetEntry). e.size) o 0) (slice_get-get_or table.sets n blank h) in
    let next : suc n ≡ n + 1 = omega arith in
    let one : List Fault = cond (lacks_size globals vs n s.size) (wrong_value at ∷ []) [] in
    told-next-at (λ (m : ℕ) (ss : List SetEntry). without_size at globals vs m ss) one table.sets n s before now after wanted (ap (λ m. one ++ without_size at globals vs m (drop (n + 1) table.sets)) next) h (at-item table.sets n blank h)
    (k ∙ ap (λ b. blame (cond b (wrong_value at ∷ []) [])) (is ∙ ap (lacks_size globals vs n) size)) f inv

-- after all of them
pub size-end : (at : ℕ) (globals : Names) (vs : List RawValue) (sets : List SetEntry) (n : ℕ) (fault wanted : Option Fault) → length sets ≤ n → earlier fault (blame (without_size at globals vs n (drop n sets))) ≡ wanted → fault ≡ wanted
size-end at globals vs sets n fault wanted h inv = told-end (without_size at globals vs n) sets n fault wanted refl h inv
