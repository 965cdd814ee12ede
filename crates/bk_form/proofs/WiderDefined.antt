-- Over a wider table a formula that types is defined, and fits the machine, as before.
use Rattle.std.proofs.Common.{◌≡◌, List, map, refl, sym, ◌∙◌, ap, subst, true}
use Rattle.bk_val.specs.Value.{MathValue}
use Rattle.bk_val.specs.ValueType.{ValueType, pair_type, set_type}
use Rattle.bk_form.specs.Table.{Table, IsWellFormed}
use Rattle.bk_form.specs.ArrayTable.{ArrayTable}
use Rattle.bk_form.specs.Formula.{Formula, unary, binary, for_all, for_some, comprehension, lambda, Formulas, no_formulas, formula_and}
use Rattle.bk_form.specs.Search.{Finder}
use Rattle.bk_form.specs.Environment.{Environment, State, Binding, bindings}
use Rattle.bk_form.specs.Role.{gives, predicate, if_predicate, if_value, all_listed, role, roles, bind, are_ranges, element_types, tuple_type}
use Rattle.bk_form.specs.Operators.{choices}
use Rattle.bk_form.specs.Meaning.{Meaning, meanings, range_types}
use Rattle.bk_form.specs.Defined.{Defined, AreDefined, Fits, LeftToRight, IsChoice, unary_inside, binary_inside, binary_fits}
use Rattle.bk_form.specs.Wider.{IsWider, IsTypedRole}
use Rattle.bk_form.proofs.Roles.{meanings-role}
use Rattle.bk_form.proofs.Operands.{holds-op, predicate-op, value-op, unary-op, binary-op}
use Rattle.bk_form.proofs.Widening.{types_in, types-same, around, ranges-typed, meaning-wider, meanings-wider, AreTypedRoles}
use Rattle.bk_form.specs.Laws.{WideningKeepsDefined}

module _ (small large : Table) (well : IsWellFormed small) (wider : IsWider small large) (find : Finder) (e : State) where
  abbrev wide_at : List Binding → Environment
  wide_at b = record { table = large; state = e; bound = b }

  abbrev here_at : List Binding → Environment
  here_at b = record { table = small; state = e; bound = b }

  at : (b : List Binding) (f : Formula) → IsTypedRole (role small (types_in b) f) → Rattle.bk_form.specs.Meaning.meaning find (wide_at b) f ≡ Rattle.bk_form.specs.Meaning.meaning find (here_at b) f
  at b f h = meaning-wider small large well wider find e e (λ n t q. refl) b f h

  inside : (ts : List ValueType) (vs : List MathValue) (b : List Binding) (p : Formula) → IsTypedRole (role small (bind ts (types_in b)) p) → IsTypedRole (role small (types_in (bind (bindings ts vs) b)) p)
  inside ts vs b p h = around small large well wider find e e (λ n t q. refl) ts vs b p h

  mutual
    pub defined-wider : (b : List Binding) (f : Formula) → IsTypedRole (role small (types_in b) f) → Defined find (wide_at b) f ≡ Defined find (here_at b) f
    defined-wider b (unary o f) h = let k = unary-op o (role small (types_in b) f) h in λ i. defined-wider b f k i × (unary_inside o (at b f k i).value ≡ true)
    defined-wider b (binary o f g) h =
        let k = binary-op o (role small (types_in b) f) (role small (types_in b) g) h in
        λ i. LeftToRight o (at b f k.0 i).truth (defined-wider b f k.0 i) (defined-wider b g k.1 i) (binary_inside o (at b f k.0 i).value (at b g k.1 i).value)
    defined-wider b (for_all ts p) h =
        let body = role small (bind ts (types_in b)) p in
        let k = holds-op (all_listed small ts) (if_predicate predicate body) h in
        let n = (predicate-op predicate body k.1).0 in
        λ i. (vs : List MathValue) → types-same small large well wider ts k.0 vs i ≡ true → defined-wider (bind (bindings ts vs) b) p (inside ts vs b p n) i
    defined-wider b (for_some ts p) h =
        let body = role small (bind ts (types_in b)) p in
        let k = holds-op (all_listed small ts) (if_predicate predicate body) h in
        let n = (predicate-op predicate body k.1).0 in
        λ i. (vs : List MathValue) → types-same small large well wider ts k.0 vs i ≡ true → defined-wider (bind (bindings ts vs) b) p (inside ts vs b p n) i
    defined-wider b (comprehension rs p) h =
        let rr = roles small (types_in b) rs in
        let ts = element_types rr in
        let k = holds-op (are_ranges rr) (if_predicate (gives (set_type (tuple_type ts))) (role small (bind ts (types_in b)) p)) h in
        let n = (predicate-op (gives (set_type (tuple_type ts))) (role small (bind ts (types_in b)) p) k.1).0 in
        let typed = ranges-typed small large well wider find e e (λ n t q. refl) rr k.0 in
        let r = meanings-wider small large well wider find e e (λ n t q. refl) b rs typed in
        let ms = meanings find (here_at b) rs in
        let us = range_types ms in
        let m = subst (λ x. IsTypedRole (role small (bind x (types_in b)) p)) (sym (ap element_types (meanings-role find (here_at b) rs))) n in
        let rest : ((vs : List MathValue) → IsChoice (choices (map (λ m. m.value) (meanings find (wide_at b) rs))) vs → Defined find (wide_at (bind (bindings (range_types (meanings find (wide_at b) rs)) vs) b)) p) ≡ ((vs : List MathValue) → IsChoice (choices (map (λ m. m.value) ms)) vs → Defined find (here_at (bind (bindings us vs) b)) p) =
        ap (λ (x : List Meaning). (vs : List MathValue) → IsChoice (choices (map (λ m. m.value) x)) vs → Defined find (wide_at (bind (bindings (range_types x) vs) b)) p) r
        ∙ λ i. (vs : List MathValue) → IsChoice (choices (map (λ m. m.value) ms)) vs → defined-wider (bind (bindings us vs) b) p (inside us vs b p m) i in
        λ i. all-defined-wider b rs typed i × rest i
    defined-wider b (lambda rs p v) h =
        let rr = roles small (types_in b) rs in
        let ts = element_types rr in
        let image = role small (bind ts (types_in b)) v in
        let body = role small (bind ts (types_in b)) p in
        let k = holds-op (are_ranges rr) (if_predicate (if_value (λ u. gives (set_type (pair_type (tuple_type ts) u))) image) body) h in
        let n = predicate-op (if_value (λ u. gives (set_type (pair_type (tuple_type ts) u))) image) body k.1 in
        let q = (value-op (λ u. gives (set_type (pair_type (tuple_type ts) u))) image n.1).0 in
        let typed = ranges-typed small large well wider find e e (λ n t q. refl) rr k.0 in
        let r = meanings-wider small large well wider find e e (λ n t q. refl) b rs typed in
        let ms = meanings find (here_at b) rs in
        let us = range_types ms in
        let y = sym (ap element_types (meanings-role find (here_at b) rs)) in
        let m = subst (λ x. IsTypedRole (role small (bind x (types_in b)) p)) y n.0 in
        let l = subst (λ x. IsTypedRole (role small (bind x (types_in b)) v)) y q in
        let rest : ((vs : List MathValue) → IsChoice (choices (map (λ m. m.value) (meanings find (wide_at b) rs))) vs → Defined find (wide_at (bind (bindings (range_types (meanings find (wide_at b) rs)) vs) b)) p × (Rattle.bk_form.specs.Meaning.truth find (wide_at (bind (bindings (range_types (meanings find (wide_at b) rs)) vs) b)) p ≡ true → Defined find (wide_at (bind (bindings (range_types (meanings find (wide_at b) rs)) vs) b)) v))
        ≡ ((vs : List MathValue) → IsChoice (choices (map (λ m. m.value) ms)) vs → Defined find (here_at (bind (bindings us vs) b)) p × (Rattle.bk_form.specs.Meaning.truth find (here_at (bind (bindings us vs) b)) p ≡ true → Defined find (here_at (bind (bindings us vs) b)) v)) =
        ap (λ (x : List Meaning). (vs : List MathValue) → IsChoice (choices (map (λ m. m.value) x)) vs → Defined find (wide_at (bind (bindings (range_types x) vs) b)) p × (Rattle.bk_form.specs.Meaning.truth find (wide_at (bind (bindings (range_types x) vs) b)) p ≡ true → Defined find (wide_at (bind (bindings (range_types x) vs) b)) v)) r
        ∙ λ i. (vs : List MathValue) → IsChoice (choices (map (λ m. m.value) ms)) vs → defined-wider (bind (bindings us vs) b) p (inside us vs b p m) i × ((at (bind (bindings us vs) b) p (inside us vs b p m) i).truth ≡ true → defined-wider (bind (bindings us vs) b) v (inside us vs b v l) i) in
        λ i. all-defined-wider b rs typed i × rest i
    defined-wider b _ h = refl

    all-defined-wider : (b : List Binding) (fs : Formulas) → AreTypedRoles small large well wider find e e (λ n t q. refl) (roles small (types_in b) fs) → AreDefined find (wide_at b) fs ≡ AreDefined find (here_at b) fs
    all-defined-wider b no_formulas h = refl
    all-defined-wider b (formula_and f fs) h = λ i. defined-wider b f h.0 i × all-defined-wider b fs h.1 i

  pub fits-wider : (arrays : ArrayTable) (b : List Binding) (f : Formula) → IsTypedRole (role small (types_in b) f) → Fits find (wide_at b) arrays f ≡ Fits find (here_at b) arrays f
  fits-wider arrays b (unary o f) h = fits-wider arrays b f (unary-op o (role small (types_in b) f) h)
  fits-wider arrays b (binary o f g) h =
      let k = binary-op o (role small (types_in b) f) (role small (types_in b) g) h in
      λ i. LeftToRight o (at b f k.0 i).truth (fits-wider arrays b f k.0 i) (fits-wider arrays b g k.1 i) (binary_fits arrays o f (at b f k.0 i).value (at b g k.1 i).value (at b (binary o f g) h i).value)
  fits-wider arrays b (for_all ts p) h =
      let body = role small (bind ts (types_in b)) p in
      let k = holds-op (all_listed small ts) (if_predicate predicate body) h in
      let n = (predicate-op predicate body k.1).0 in
      λ i. (vs : List MathValue) → types-same small large well wider ts k.0 vs i ≡ true → fits-wider arrays (bind (bindings ts vs) b) p (inside ts vs b p n) i
  fits-wider arrays b (for_some ts p) h =
      let body = role small (bind ts (types_in b)) p in
      let k = holds-op (all_listed small ts) (if_predicate predicate body) h in
      let n = (predicate-op predicate body k.1).0 in
      λ i. (vs : List MathValue) → types-same small large well wider ts k.0 vs i ≡ true → fits-wider arrays (bind (bindings ts vs) b) p (inside ts vs b p n) i
  fits-wider arrays b _ h = refl

-- ---- the two directions
moved : {A B : Type 0} → A ≡ B → (A → B) × (B → A)
moved {A} {B} p = ((λ a. subst (λ X. X) p a), (λ b. subst (λ X. X) (sym p) b))

pub widening_defined : WideningKeepsDefined
widening_defined = record {
  defined = λ small large well wider find e b f h. moved (defined-wider small large well wider find e b f h);
  fits = λ small large well wider find e b arrays f h. moved (fits-wider small large well wider find e arrays b f h);
}
