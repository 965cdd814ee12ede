-- B0 statements whose formulas type have the types that their code needs.
use Rattle.std.proofs.Common.{◌≡◌, inl, inr, ℕ, List, [], ◌∷◌, refl, sym, ◌∙◌, ap, subst, Bool, true, false, Some, None, Option, cond}
use Rattle.std.specs.Prelude.{unwrap_or}
use Rattle.bk_val.specs.ValueType.{ValueType, int_type, bool_type, enum_type, pair_type, set_type}
use Rattle.bk_form.specs.Table.{variable_type}
use Rattle.bk_form.specs.ArrayTable.{row_of}
use Rattle.bk_form.specs.Formula.{Formula, variable, literal, truth_value, element, unary, binary}
use Rattle.bk_form.specs.Role.{Role, gives, predicate, if_holds, if_predicate, if_number, if_value, same_type, given_by, role, pair_role}
use Rattle.bk_form.specs.declared.operator.UnOp.TheVariants.{Not, BoolOf, Neg as Minus, Single}
use Rattle.bk_form.specs.declared.operator.BinOp.TheVariants.{And, Or, Eq as Equals, Lt as Below, Le as AtMost, Add as Plus, Sub as Less, Mul as By, Div as Over, Mod as Rest, Apply, Times, Over as Overridden, Maps, TotalFunctions}
use Rattle.bk_form.specs.declared.arrays.ArrayRow.{ArrayRow}
use Rattle.bk_form.proofs.Counted.{size-count}
use Rattle.bk_form.proofs.Givers.{product-gives}
use Rattle.bk_form.proofs.Listed.{gives-same}
use Rattle.bk_form.proofs.Members.{and-both}
use Rattle.bk_form.proofs.Roles.{if_holds-gives, if_predicate-gives, if_number-gives, if_value-gives, if_relation-gives, same_type-then}
use Rattle.bk_gsl.specs.Substitution.{Substitution, skip, assign, if_else, any, seq, assert, loop}
use Rattle.bk_gsl.specs.State.{declared_type}
use Rattle.bk_gsl.specs.Typed.{Types, AreTypedTerms}
use Rattle.bk_dev.specs.Development.{Development, int_max}
use Rattle.bk_dev.specs.B0.{IsFillValue, IsDeclaredDomain, IsScalarName, IsExpression, IsCondition, IsTermFor, IsAssignment, IsB0}
use Rattle.bk_dev.specs.Layout.{in_domain, has_scalars, array_row, row_by, indices_of, arrays_of}
use Rattle.bk_form.specs.declared.arrays.ArrayDomain.{ArrayDomain}
use Rattle.bk_b0.proofs.LevelCells.{row-is}
use Rattle.bk_b0.proofs.TypedB0.{IsPlainValue, IsTypedExpression, IsTypedCondition, IsTypedTerm, IsTypedAssignment, AreNoArrays, IsTypedB0}
use Rattle.bk_form.specs.Each.{Each}
use Rattle.bk_b0.specs.Kinds.{row_type, cell_type, element_type, index_type}
use Rattle.bk_b0.specs.Cells.{ArraysAreTyped}

-- ---- rules that give a predicate
pub holds-predicate : (b : Bool) (r : Role) → if_holds b r ≡ predicate → (b ≡ true) × (r ≡ predicate)
holds-predicate true r h = (refl, h)
holds-predicate false r h = absurd (cc)

pub predicate-predicate : (r a : Role) → if_predicate r a ≡ predicate → (a ≡ predicate) × (r ≡ predicate)
predicate-predicate r predicate h = (refl, h)
predicate-predicate r _ h = absurd (cc)

pub number-predicate : (r a : Role) → if_number r a ≡ predicate → (a ≡ gives int_type) × (r ≡ predicate)
number-predicate r (gives int_type) h = (refl, h)
number-predicate r _ h = absurd (cc)

pub value-predicate : (f : ValueType → Role) (a : Role) → if_value f a ≡ predicate → (u : ValueType) × (a ≡ gives u) × (f u ≡ predicate)
value-predicate f (gives u) h = (u, refl, h)
value-predicate f _ h = absurd (cc)

given-then : (o : Option ValueType) (t : ValueType) → given_by o ≡ gives t → unwrap_or o bool_type ≡ t
given-then None t h = absurd (cc)
given-then (Some u) t h = gives-same u t h

module _ (dev : Development) (typed_arrays : ArraysAreTyped dev) where
  abbrev kind : Formula → Role
  kind f = role dev.table [] f

  -- the type of an array's cells
  array-type : (x : ℕ) (r : ArrayRow) → row_of (arrays_of dev) x ≡ Some r → (t u : ValueType) → variable_type dev.table x ≡ Some (set_type (pair_type t u)) → (index_type r.domain ≡ t) × (cell_type dev x ≡ u)
  array-type x r found t u h =
      let w = typed_arrays x r found in
      let same : Some (set_type (pair_type (index_type r.domain) w.0)) ≡ Some (set_type (pair_type t u)) = sym w.1 ∙ h in
      let first : index_type r.domain ≡ t = cc in
      let own : declared_type dev.table x ≡ set_type (pair_type t u) = ap (λ o. unwrap_or o bool_type) h in
      (first, ap (λ o. row_type o (declared_type dev.table x)) found ∙ ap element_type own)

  given-some : (o : Option ValueType) (t : ValueType) → given_by o ≡ gives t → o ≡ Some t
  given-some None t h = absurd (cc)
  given-some (Some u) t h = ap Some (gives-same u t h)

  mutual
    typed-expression : (f : Formula) (t : ValueType) → kind f ≡ gives t → IsExpression dev f → IsTypedExpression dev t f
    typed-expression (variable x) t h b = (b.0, given-then (variable_type dev.table x) t h)
    typed-expression (literal z) t h b = (sym (gives-same int_type t h), b)
    typed-expression (truth_value z) t h b = sym (gives-same bool_type t h)
    typed-expression (element s i) t h b = let w = if_holds-gives _ (gives (enum_type s)) t h in (sym (gives-same (enum_type s) t w.1), size-count dev.table s i w.0)
    typed-expression (unary Minus a) t h b = let w = if_number-gives (gives int_type) (kind a) t h in (sym (gives-same int_type t w.1), typed-expression a int_type w.0 b)
    typed-expression (unary BoolOf p) t h b = let w = if_predicate-gives (gives bool_type) (kind p) t h in (sym (gives-same bool_type t w.1), typed-condition p w.0 b)
    typed-expression (binary Plus x y) t h b = let w = if_number-gives (if_number (gives int_type) (kind y)) (kind x) t h in let v = if_number-gives (gives int_type) (kind y) t w.1 in (sym (gives-same int_type t v.1), typed-expression x int_type w.0 b.0, typed-expression y int_type v.0 b.1)
    typed-expression (binary Less x y) t h b = let w = if_number-gives (if_number (gives int_type) (kind y)) (kind x) t h in let v = if_number-gives (gives int_type) (kind y) t w.1 in (sym (gives-same int_type t v.1), typed-expression x int_type w.0 b.0, typed-expression y int_type v.0 b.1)
    typed-expression (binary By x y) t h b = let w = if_number-gives (if_number (gives int_type) (kind y)) (kind x) t h in let v = if_number-gives (gives int_type) (kind y) t w.1 in (sym (gives-same int_type t v.1), typed-expression x int_type w.0 b.0, typed-expression y int_type v.0 b.1)
    typed-expression (binary Over x y) t h b = let w = if_number-gives (if_number (gives int_type) (kind y)) (kind x) t h in let v = if_number-gives (gives int_type) (kind y) t w.1 in (sym (gives-same int_type t v.1), typed-expression x int_type w.0 b.0, typed-expression y int_type v.0 b.1)
    typed-expression (binary Rest x y) t h b = let w = if_number-gives (if_number (gives int_type) (kind y)) (kind x) t h in let v = if_number-gives (gives int_type) (kind y) t w.1 in (sym (gives-same int_type t v.1), typed-expression x int_type w.0 b.0, typed-expression y int_type v.0 b.1)
    typed-expression (binary Apply (variable f) a) t h b =
        let w = if_relation-gives _ (given_by (variable_type dev.table f)) t h in
        let v = if_value-gives _ (kind a) t w.result in
        let s = if_holds-gives _ (gives w.second) t v.2 in
        let types = array-type f b.0.0 b.0.1 w.first w.second (given-some (variable_type dev.table f) (set_type (pair_type w.first w.second)) w.operand) in
        let index : kind a ≡ gives (index_type b.0.0.domain) = v.1 ∙ ap gives (same_type-then v.0 w.first s.0 ∙ sym types.0) in
        (b.0.0, b.0.1, types.1 ∙ gives-same w.second t s.1, typed-expression a (index_type b.0.0.domain) index b.1)
    typed-expression f t h b = absurd b

    typed-condition : (f : Formula) → kind f ≡ predicate → IsCondition dev f → IsTypedCondition dev f
    typed-condition (binary Equals x y) h b =
        let w = value-predicate _ (kind x) h in
        let v = value-predicate _ (kind y) w.2 in
        let s = holds-predicate _ predicate v.2 in
        (w.0, typed-expression x w.0 w.1 b.0, typed-expression y w.0 (v.1 ∙ ap gives (sym (same_type-then w.0 v.0 s.0))) b.1)
    typed-condition (binary Below x y) h b = let w = number-predicate (if_number predicate (kind y)) (kind x) h in let v = number-predicate predicate (kind y) w.1 in (typed-expression x int_type w.0 b.0, typed-expression y int_type v.0 b.1)
    typed-condition (binary AtMost x y) h b = let w = number-predicate (if_number predicate (kind y)) (kind x) h in let v = number-predicate predicate (kind y) w.1 in (typed-expression x int_type w.0 b.0, typed-expression y int_type v.0 b.1)
    typed-condition (unary Not p) h b = typed-condition p (predicate-predicate predicate (kind p) h).0 b
    typed-condition (binary And p q) h b = let w = predicate-predicate (if_predicate predicate (kind q)) (kind p) h in let v = predicate-predicate predicate (kind q) w.1 in (typed-condition p w.0 b.0, typed-condition q v.0 b.1)
    typed-condition (binary Or p q) h b = let w = predicate-predicate (if_predicate predicate (kind q)) (kind p) h in let v = predicate-predicate predicate (kind q) w.1 in (typed-condition p w.0 b.0, typed-condition q v.0 b.1)
    typed-condition f h b = absurd b

  -- ---- fills
  fill-plain : (v : Formula) → IsFillValue dev v → IsPlainValue v
  fill-plain (variable x) h = tt
  fill-plain (literal z) h = tt
  fill-plain (truth_value b) h = tt
  fill-plain (element s i) h = tt
  fill-plain v h = absurd h

  fill-expression : (v : Formula) → IsFillValue dev v → IsExpression dev v
  fill-expression (variable x) h = h
  fill-expression (literal z) h = h
  fill-expression (truth_value b) h = h
  fill-expression (element s i) h = h
  fill-expression v h = absurd h

  -- an array has the indices of the domain that it is declared with
  declared-indices : (x : ℕ) (d e : Formula) (r : ArrayRow) → row_by dev x (in_domain (binary TotalFunctions d e)) ≡ Some r → indices_of (int_max dev) dev.values d ≡ Some r.domain
  declared-indices x d e r h = by_test (has_scalars (variable_type dev.table x)) h
    where
      by_domain : (o : Option ArrayDomain) → indices_of (int_max dev) dev.values d ≡ o → array_row x o ≡ Some r → indices_of (int_max dev) dev.values d ≡ Some r.domain
      by_domain None q k = absurd (cc)
      by_domain (Some i) q k =
          let same : record { var = x; domain = i } ≡ r = cc in
          q ∙ ap Some (ap (λ (p : ArrayRow). p.domain) same)

      by_test : (b : Bool) → cond b (array_row x (indices_of (int_max dev) dev.values d)) None ≡ Some r → indices_of (int_max dev) dev.values d ≡ Some r.domain
      by_test true k = by_domain (indices_of (int_max dev) dev.values d) refl k
      by_test false k = absurd (cc)

  fill-indices : (x : ℕ) (d : Formula) (r : ArrayRow) → row_of (arrays_of dev) x ≡ Some r → IsDeclaredDomain dev x d → indices_of (int_max dev) dev.values d ≡ Some r.domain
  fill-indices x d r found h = declared-indices x d h.0 r (ap (row_by dev x) (sym h.1) ∙ (row-is dev x r found).1)

  -- ---- statements
  single-gives : (a : Role) (t : ValueType) → if_value (λ u. gives (set_type u)) a ≡ gives (set_type t) → a ≡ gives t
  single-gives a t h =
      let w = if_value-gives (λ u. gives (set_type u)) a (set_type t) h in
      let same : set_type w.0 ≡ set_type t = gives-same (set_type w.0) (set_type t) w.2 in
      let one : w.0 ≡ t = cc in
      w.1 ∙ ap gives one

  pair-gives : (a b : Role) (t u : ValueType) → pair_role a b ≡ gives (pair_type t u) → (a ≡ gives t) × (b ≡ gives u)
  pair-gives a b t u h =
      let w = if_value-gives _ a (pair_type t u) h in
      let v = if_value-gives _ b (pair_type t u) w.2 in
      let same : pair_type w.0 v.0 ≡ pair_type t u = gives-same (pair_type w.0 v.0) (pair_type t u) v.2 in
      let first : w.0 ≡ t = cc in
      let second : v.0 ≡ u = cc in
      (w.1 ∙ ap gives first, v.1 ∙ ap gives second)

  typed-term : (x : ℕ) (t : ValueType) → variable_type dev.table x ≡ Some t → (f : Formula) → kind f ≡ gives t → (o : Option ArrayRow) → row_of (arrays_of dev) x ≡ o → IsTermFor dev x o f → IsTypedTerm dev x o f
  typed-term x t own f h None none b = typed-expression f (declared_type dev.table x) (h ∙ ap gives (sym (ap (λ o. unwrap_or o bool_type) own))) b
  typed-term x t own f h (Some r) found (inl w) =
      let g : kind (binary Overridden (variable x) (unary Single (binary Maps w.index w.value))) ≡ gives t = subst (λ k. kind k ≡ gives t) w.is h in
      let a = if_relation-gives _ (given_by (variable_type dev.table x)) t g in
      let b = if_relation-gives _ (if_value (λ u. gives (set_type u)) (pair_role (kind w.index) (kind w.value))) t a.result in
      let s = if_holds-gives _ _ t b.result in
      let both = and-both (same_type a.first b.first) (same_type a.second b.second) s.0 in
      let types = array-type x r found a.first a.second (given-some (variable_type dev.table x) (set_type (pair_type a.first a.second)) a.operand) in
      let parts = pair-gives (kind w.index) (kind w.value) b.first b.second (single-gives (pair_role (kind w.index) (kind w.value)) (pair_type b.first b.second) b.operand) in
      inl (record {
        index = w.index;
        value = w.value;
        is = w.is;
        is_index = typed-expression w.index (index_type r.domain) (parts.0 ∙ ap gives (sym (same_type-then a.first b.first both.0) ∙ sym types.0)) w.is_index;
        is_value = typed-expression w.value (cell_type dev x) (parts.1 ∙ ap gives (sym (same_type-then a.second b.second both.1) ∙ sym types.1)) w.is_value;
      })
  typed-term x t own f h (Some r) found (inr w) =
      let g : kind (binary Times w.domain (unary Single w.value)) ≡ gives t = subst (λ k. kind k ≡ gives t) w.is h in
      let p = product-gives (kind w.domain) (if_value (λ u. gives (set_type u)) (kind w.value)) t g in
      let types = array-type x r found p.first p.second (own ∙ ap Some (sym p.result)) in
      inr (record {
        domain = w.domain;
        value = w.value;
        is = w.is;
        is_domain = fill-indices x w.domain r found w.is_declared;
        plain = fill-plain w.value w.is_value;
        is_value = typed-expression w.value (cell_type dev x) (single-gives (kind w.value) p.second p.right ∙ ap gives (sym types.1)) (fill-expression w.value w.is_value);
      })

  typed-assignment : (ps : List (ℕ × Formula)) → AreTypedTerms dev.table ps → IsAssignment dev ps → IsTypedAssignment dev ps
  typed-assignment [] h b = absurd b
  typed-assignment (p ∷ q ∷ ps) h b = absurd b
  typed-assignment (p ∷ []) h b = typed-term p.0 h.0.0 h.0.1 p.1 h.0.2 (row_of (arrays_of dev) p.0) refl b

  no-arrays : (zs : List ℕ) → Each (IsScalarName dev) zs → AreNoArrays dev zs
  no-arrays [] h = tt
  no-arrays (z ∷ zs) h = (h.0.0, no-arrays zs h.1)

  pub typed-b0 : (s : Substitution) → Types dev.table s → IsB0 dev s → IsTypedB0 dev s
  typed-b0 skip h b = tt
  typed-b0 (assign ps) h b = typed-assignment ps h b
  typed-b0 (seq s t) h b = (typed-b0 s h.0 b.0, typed-b0 t h.1 b.1)
  typed-b0 (any zs s) h b = (no-arrays zs b.0, typed-b0 s h.1 b.1)
  typed-b0 (assert p s) h b = typed-b0 s h.1 b
  typed-b0 (if_else p s t) h b = (typed-condition p h.0 b.0, typed-b0 s h.1 b.1, typed-b0 t h.2 b.2)
  typed-b0 (loop p s i v) h b = (typed-condition p h.0 b.0, typed-b0 s h.1 b.1)
  typed-b0 s h b = absurd b
