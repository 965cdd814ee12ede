-- The types that formulas give are listed.
use Rattle.std.proofs.Common.{◌≡◌, ℕ, zero, suc, ◌<◌, List, [], ◌∷◌, length, refl, subst, arith, rules, Bool, true, false, nat_lt}
use Rattle.std.specs.Prelude.{Some, slice_get, All, IsTrue}
use Rattle.std.specs.Option.{option_map, option_map_or}
use Rattle.std.proofs.lemmas.List.Elements.{All-head, All-tail}
use Rattle.std.proofs.lemmas.Bool.Decides.{nat_tests}
use Rattle.bk_val.specs.ValueType.{ValueType, enum_type}
use Rattle.bk_form.specs.Table.{Table, VariableEntry, listed_size, is_among_sets, lists_type, IsWellFormed}
use Rattle.bk_form.specs.Formula.{Formula}
use Rattle.bk_form.specs.Role.{gives, role, element_role}
use Rattle.bk_form.proofs.Counted.{size-listed}
use Rattle.bk_form.proofs.Roles.{if_holds-gives}
use Rattle.bk_form.proofs.Listed.{Lists, gives-listed}

listed-at : (count : ℕ) (vars : List VariableEntry) → All (λ v. IsTrue (is_among_sets count v.of_type)) vars → (n : ℕ) (t : ValueType) → option_map (λ v. v.of_type) (slice_get vars n) ≡ Some t → is_among_sets count t ≡ true
listed-at count [] h n t e = absurd (cc)
listed-at count (v ∷ vars) h zero t e = let q : v.of_type ≡ t = cc in subst (λ x. is_among_sets count x ≡ true) q (true-then (is_among_sets count v.of_type) (All-head (λ v. IsTrue (is_among_sets count v.of_type)) v vars h))
  where
    true-then : (b : Bool) → IsTrue b → b ≡ true
    true-then true h = refl
    true-then false h = absurd (search (rules, h))
listed-at count (v ∷ vars) h (suc n) t e = listed-at count vars (All-tail (λ v. IsTrue (is_among_sets count v.of_type)) v vars h) n t e

element-lists : (table : Table) (s i : ℕ) → element_role table s i ≡ gives (enum_type s) → Lists table (enum_type s)
element-lists table s i h = size-listed table s i (if_holds-gives (nat_lt i (listed_size table s)) (gives (enum_type s)) (enum_type s) h).0

pub listed-type : (table : Table) → IsWellFormed table → (around : List ValueType) (f : Formula) (t : ValueType) → role table around f ≡ gives t → lists_type table t ≡ true
listed-type table well around f t h = gives-listed table (listed-at (length table.sets) table.variables well.listed) (element-lists table) around f t h
