-- What a formula means once variables are replaced.
use Rattle.std.proofs.Common.{◌≡◌, ◌⊎◌, inl, inr, ℕ, [], ◌∷◌, refl, sym, ◌∙◌, ap, pos, List, map, None}
use Rattle.std.specs.Prelude.{Some}
use Rattle.bk_val.specs.ValueType.{ValueType}
use Rattle.bk_form.specs.Table.{set_size, variable_type, Table}
use Rattle.bk_form.specs.Formula.{Formula, variable, unary, binary, for_all, for_some, comprehension, lambda, Formulas, no_formulas, formula_and}
use Rattle.bk_form.specs.Search.{Finder}
use Rattle.bk_form.specs.Environment.{Environment, under}
use Rattle.bk_form.specs.Role.{given_by, role}
use Rattle.bk_form.specs.Replacement.{replaced, all_replaced, IsReplacement, GivesType, after_replacement}
use Rattle.bk_form.specs.Meaning.{meaning, meanings, value, of_value, unary_meaning, binary_meaning, all_meaning, some_meaning, comprehension_meaning, lambda_meaning, range_types}
use Rattle.bk_form.proofs.Agreement.{meaning-closed}
use Rattle.bk_form.proofs.Roles.{meaning-role}
use Rattle.bk_form.proofs.Givers.{value-meaning}
use Rattle.bk_val.specs.Value.{int}

module _ (find : Finder) (by : ℕ → Formula) where
  in_place : (e : Environment) (n : ℕ) → ((by n ≡ variable n) ⊎ ((t : ValueType) × (variable_type e.table n ≡ Some t) × GivesType e.table t (by n))) → meaning find e (by n) ≡ meaning find (after_replacement find by e) (variable n)
  in_place e n (inl p) = ap (meaning find e) p ∙ ap (of_value (given_by (variable_type e.table n))) (sym (ap (value find (record e { bound = [] })) p))
  in_place e n (inr w) =
      let alone = record e { bound = [] } in
      let here = meaning-closed find e e.bound [] (by n) w.2.closed in
      let given = value-meaning find alone (by n) w.0 (meaning-role find alone (by n) ∙ w.2.of_type) in
      here ∙ given ∙ ap (λ r. of_value r (value find alone (by n))) (sym (ap given_by w.1))

  mutual
    pub meaning-replaced : (e : Environment) → IsReplacement e.table by → (f : Formula) → meaning find e (replaced by f) ≡ meaning find (after_replacement find by e) f
    meaning-replaced e h (variable n) = in_place e n (h n)
    meaning-replaced e h (unary o a) = λ i. unary_meaning o (meaning-replaced e h a i)
    meaning-replaced e h (binary o a b) = λ i. binary_meaning find (set_size e.table) o (meaning-replaced e h a i) (meaning-replaced e h b i)
    meaning-replaced e h (for_all ts p) = λ i. all_meaning find e.table ts (λ vs. meaning-replaced (under e ts vs) h p i)
    meaning-replaced e h (for_some ts p) = λ i. some_meaning find e.table ts (λ vs. meaning-replaced (under e ts vs) h p i)
    meaning-replaced e h (comprehension rs p) = λ i. comprehension_meaning (meanings-replaced e h rs i) (λ vs. meaning-replaced (under e (range_types (meanings-replaced e h rs i)) vs) h p i)
    meaning-replaced e h (lambda rs p v) = λ i. lambda_meaning (meanings-replaced e h rs i) (λ vs. meaning-replaced (under e (range_types (meanings-replaced e h rs i)) vs) h p i) (λ vs. meaning-replaced (under e (range_types (meanings-replaced e h rs i)) vs) h v i)
    meaning-replaced e h _ = refl

    pub meanings-replaced : (e : Environment) → IsReplacement e.table by → (fs : Formulas) → meanings find e (all_replaced by fs) ≡ meanings find (after_replacement find by e) fs
    meanings-replaced e h no_formulas = refl
    meanings-replaced e h (formula_and f fs) = λ i. meaning-replaced e h f i ∷ meanings-replaced e h fs i

-- a formula with the terms in place of the variables stands for the same kind of thing
module _ (table : Table) where
  pub role-under : (around : List ValueType) (by : ℕ → Formula) → IsReplacement table by → (p : Formula) → role table around (replaced by p) ≡ role table around p
  role-under around by h p =
      let find : Finder = λ test. None in
      let bs = map (λ t. (t, Rattle.bk_val.specs.ValueType.base_of t)) around in
      let e : Rattle.bk_form.specs.Environment.Environment = record { table = table; state = λ n. int (Rattle.std.specs.Prelude.pos 0); bound = bs } in
      ap (λ x. role table x (replaced by p)) (sym (types around)) ∙ sym (meaning-role find e (replaced by p)) ∙ ap (λ m. m.role) (meaning-replaced find by e h p) ∙ meaning-role find (after_replacement find by e) p ∙ ap (λ x. role table x p) (types around)
    where
      types : (ts : List ValueType) → map (λ (x : Rattle.bk_form.specs.Environment.Binding). x.0) (map (λ t. (t, Rattle.bk_val.specs.ValueType.base_of t)) ts) ≡ ts
      types [] = refl
      types (t ∷ ts) = ap (λ x. t ∷ x) (types ts)
