-- A sequent is valid over a wider table exactly where it is over the narrower one: fresh variables take any value of their types, and
-- each type has one.
use Rattle.std.proofs.Common.{◌≡◌, ℕ, List, [], ◌∷◌, refl, sym, ◌∙◌, ap, subst, true, cond}
use Rattle.std.specs.Prelude.{Option, Some, None, is_some, unwrap_or}
use Rattle.bk_val.specs.ValueType.{ValueType, bool_type, base_of, is_value_of}
use Rattle.bk_form.specs.Table.{Table, set_size, variable_type, IsWellFormed}
use Rattle.bk_form.specs.Formula.{Formula}
use Rattle.bk_form.specs.Search.{Finder}
use Rattle.bk_form.specs.Environment.{State, at_state, IsTypedState}
use Rattle.bk_form.specs.Meaning.{truth}
use Rattle.bk_form.proofs.Valued.{base-of}
use Rattle.bk_form.specs.Predicates.{IsPredicate, AllHold}
use Rattle.bk_bind.specs.Valid.{IsValid}
use Rattle.bk_form.specs.Wider.{IsWider, IsTypedRole}
use Rattle.bk_form.proofs.Widening.{variable-wider, variables_listed, value-same, meaning-wider, type-listed}
use Rattle.bk_form.specs.Each.{Each}
use Rattle.bk_seq.specs.Laws.{ValidityWidens}

module _ (small large : Table) (well : IsWellFormed small) (fine : IsWellFormed large) (wider : IsWider small large) where
  same-truth : (find : Finder) (d s : State) → ((n : ℕ) (t : ValueType) → variable_type small n ≡ Some t → d n ≡ s n) → (p : Formula) → IsPredicate small p → truth find (at_state large d) p ≡ truth find (at_state small s) p
  same-truth find d s same p h = ap (λ m. m.truth) (meaning-wider small large well wider find d s same [] p (subst IsTypedRole (sym h) tt))

  all-down : (find : Finder) (d s : State) → ((n : ℕ) (t : ValueType) → variable_type small n ≡ Some t → d n ≡ s n) → (ps : List Formula) → Each (IsPredicate small) ps → AllHold find (at_state large d) ps → AllHold find (at_state small s) ps
  all-down find d s same [] w h = tt
  all-down find d s same (p ∷ ps) w h = (sym (same-truth find d s same p w.0) ∙ h.0, all-down find d s same ps w.1 h.1)

  all-up : (find : Finder) (d s : State) → ((n : ℕ) (t : ValueType) → variable_type small n ≡ Some t → d n ≡ s n) → (ps : List Formula) → Each (IsPredicate small) ps → AllHold find (at_state small s) ps → AllHold find (at_state large d) ps
  all-up find d s same [] w h = tt
  all-up find d s same (p ∷ ps) w h = (same-truth find d s same p w.0 ∙ h.0, all-up find d s same ps w.1 h.1)

  -- base values for the variables that the narrower table does not list
  abbrev pub filled : State → State
  filled s n = cond (is_some (variable_type small n)) (s n) (base_of (unwrap_or (variable_type large n) bool_type))

  filled-same : (s : State) (n : ℕ) (t : ValueType) → variable_type small n ≡ Some t → filled s n ≡ s n
  filled-same s n t q = ap (λ o. cond (is_some o) (s n) (base_of (unwrap_or (variable_type large n) bool_type))) q

  filled-typed : (s : State) → IsTypedState small s → IsTypedState large (filled s)
  filled-typed s h = record { typed = λ n t q. at n t q (variable_type small n) refl }
    where
      at : (n : ℕ) (t : ValueType) → variable_type large n ≡ Some t → (o : Option ValueType) → variable_type small n ≡ o → is_value_of (set_size large) t (cond (is_some o) (s n) (base_of (unwrap_or (variable_type large n) bool_type))) ≡ true
      at n t q None r = subst (λ o. is_value_of (set_size large) t (base_of (unwrap_or o bool_type)) ≡ true) (sym q) (base-of large fine t (type-listed large fine n t q))
      at n t q (Some u) r =
          let e : Some t ≡ Some u = sym q ∙ variable-wider small large well wider n u r in
          let k : t ≡ u = cc in
          value-same small large well wider t (subst (λ x. Rattle.bk_form.specs.Table.lists_type small x ≡ true) (sym k) (variables_listed small large well wider n u r)) (s n)
          ∙ h.typed n t (r ∙ ap Some (sym k))

  up-typed : (d : State) → IsTypedState large d → IsTypedState small d
  up-typed d h = record { typed = λ n t q. sym (value-same small large well wider t (variables_listed small large well wider n t q) (d n)) ∙ h.typed n t (variable-wider small large well wider n t q) }

  valid-down : (hyps : List Formula) (goal : Formula) → Each (IsPredicate small) hyps → IsPredicate small goal → IsValid large hyps goal → IsValid small hyps goal
  valid-down hyps goal w g valid find law s t h =
      sym (same-truth find (filled s) s (filled-same s) goal g) ∙ valid find law (filled s) (filled-typed s t) (all-up find (filled s) s (filled-same s) hyps w h)

  valid-up : (hyps : List Formula) (goal : Formula) → Each (IsPredicate small) hyps → IsPredicate small goal → IsValid small hyps goal → IsValid large hyps goal
  valid-up hyps goal w g valid find law d t h =
      same-truth find d d (λ n t q. refl) goal g ∙ valid find law d (up-typed d t) (all-down find d d (λ n t q. refl) hyps w h)

pub validity_widens : ValidityWidens
validity_widens small large well fine wider s w = (valid-up small large well fine wider s.0 s.1 w.0 w.1, valid-down small large well fine wider s.0 s.1 w.0 w.1)
