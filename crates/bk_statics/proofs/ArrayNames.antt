-- Which variables of an implementation are scalars, and which are arrays.
use Rattle.std.proofs.Common.{◌≡◌, ℕ, List, [], ◌∷◌, refl, sym, ◌∙◌, ap, subst, Bool, true, false, ◌||◌, cond, nat_eq}
use Rattle.std.specs.Prelude.{Option, None, Some, find}
use Rattle.std.specs.List.{cons_option, filter_map}
use Rattle.std.specs.Option.{unwrap_or}
use Rattle.bk_val.specs.ValueType.{ValueType, int_type, bool_type, enum_type, pair_type, set_type}
use Rattle.bk_form.specs.Table.{variable_type}
use Rattle.bk_form.specs.ArrayTable.{row_of}
use Rattle.bk_form.specs.Formula.{binary}
use Rattle.bk_form.specs.declared.operator.BinOp.TheVariants.{TotalFunctions}
use Rattle.bk_form.specs.declared.arrays.ArrayRow.{ArrayRow}
use Rattle.bk_form.specs.declared.arrays.ArrayDomain.{ArrayDomain}
use Rattle.bk_gsl.specs.State.{among}
use Rattle.bk_gsl.proofs.States.{nat_eq-same, nat_eq-self}
use Rattle.bk_dev.specs.Development.{Development, int_max, level_at, last}
use Rattle.bk_dev.specs.Layout.{Clue, in_domain, typing_clue, reversed, array_row, row_by, indices_of, arrays_of, has_scalars, is_scalar}
use Rattle.bk_dev.specs.B0.{IsScalarName}

-- ---- rows
rows-from : (F : ℕ → Option ArrayRow) → ((y : ℕ) (r : ArrayRow) → F y ≡ Some r → r.var ≡ y) → (xs : List ℕ) (x : ℕ) (r : ArrayRow) → find (λ q. nat_eq q.var x) (filter_map F xs) ≡ Some r → F x ≡ Some r
rows-from F own [] x r h = absurd (cc)
rows-from F own (y ∷ ys) x r h = by_row (rows-from F own ys x r) (F y) refl h
  where
    by_test : (q : ArrayRow) → F y ≡ Some q → (b : Bool) → nat_eq q.var x ≡ b → (find (λ p. nat_eq p.var x) (filter_map F ys) ≡ Some r → F x ≡ Some r) → cond b (Some q) (find (λ p. nat_eq p.var x) (filter_map F ys)) ≡ Some r → F x ≡ Some r
    by_test q e true k rest g =
        let same : y ≡ x = sym (own y q e) ∙ nat_eq-same q.var x k in
        subst (λ n. F n ≡ Some q) same e ∙ g
    by_test q e false k rest g = rest g

    by_row : (find (λ p. nat_eq p.var x) (filter_map F ys) ≡ Some r → F x ≡ Some r) → (o : Option ArrayRow) → F y ≡ o → find (λ q. nat_eq q.var x) (cons_option o (filter_map F ys)) ≡ Some r → F x ≡ Some r
    by_row on None e g = on g
    by_row on (Some q) e g = by_test q e (nat_eq q.var x) refl on g

module _ (dev : Development) where
  row-own : (x : ℕ) (c : Clue) (r : ArrayRow) → row_by dev x c ≡ Some r → r.var ≡ x
  row-own x (in_domain (binary TotalFunctions d e)) r h = by_test (has_scalars (variable_type dev.table x)) h
    where
      by_domain : (o : Option ArrayDomain) → array_row x o ≡ Some r → r.var ≡ x
      by_domain None k = absurd (cc)
      by_domain (Some i) k = let same : record { var = x; domain = i } ≡ r = cc in ap (λ (q : ArrayRow). q.var) (sym same)

      by_test : (b : Bool) → cond b (array_row x (indices_of (int_max dev) dev.values d)) None ≡ Some r → r.var ≡ x
      by_test true k = by_domain (indices_of (int_max dev) dev.values d) k
      by_test false k = absurd (cc)
  row-own x c r h = absurd (cc)

  row-scalars : (x : ℕ) (c : Clue) (r : ArrayRow) → row_by dev x c ≡ Some r → has_scalars (variable_type dev.table x) ≡ true
  row-scalars x (in_domain (binary TotalFunctions d e)) r h = by_test (has_scalars (variable_type dev.table x)) refl h
    where
      by_test : (b : Bool) → has_scalars (variable_type dev.table x) ≡ b → cond b (array_row x (indices_of (int_max dev) dev.values d)) None ≡ Some r → has_scalars (variable_type dev.table x) ≡ true
      by_test true q k = q
      by_test false q k = absurd (cc)
  row-scalars x c r h = absurd (cc)

  -- an array holds scalars
  pub array-scalars : (x : ℕ) (r : ArrayRow) → row_of (arrays_of dev) x ≡ Some r → has_scalars (variable_type dev.table x) ≡ true
  array-scalars x r h =
      row-scalars x (typing_clue (Some x) (reversed dev.levels [])) r
      (rows-from (λ y. row_by dev y (typing_clue (Some y) (reversed dev.levels []))) (λ y q k. row-own y (typing_clue (Some y) (reversed dev.levels [])) q k) (level_at dev (last dev)).vars x r h)

  rows-among : (F : ℕ → Option ArrayRow) → ((y : ℕ) (r : ArrayRow) → F y ≡ Some r → r.var ≡ y) → (xs : List ℕ) (x : ℕ) (r : ArrayRow) → find (λ q. nat_eq q.var x) (filter_map F xs) ≡ Some r → among xs x ≡ true
  rows-among F own [] x r h = absurd (cc)
  rows-among F own (y ∷ ys) x r h = by_row (rows-among F own ys x r) (F y) refl h
    where
      further : (b : Bool) → among ys x ≡ true → (b || among ys x) ≡ true
      further true k = refl
      further false k = k

      by_test : (q : ArrayRow) → F y ≡ Some q → (b : Bool) → nat_eq q.var x ≡ b → (find (λ p. nat_eq p.var x) (filter_map F ys) ≡ Some r → among ys x ≡ true) → cond b (Some q) (find (λ p. nat_eq p.var x) (filter_map F ys)) ≡ Some r → among (y ∷ ys) x ≡ true
      by_test q e true k rest g =
          let same : x ≡ y = sym (nat_eq-same q.var x k) ∙ own y q e in
          ap (λ (b : Bool). b || among ys x) (subst (λ n. nat_eq x n ≡ true) same (nat_eq-self x))
      by_test q e false k rest g = further (nat_eq x y) (rest g)

      by_row : (find (λ p. nat_eq p.var x) (filter_map F ys) ≡ Some r → among ys x ≡ true) → (o : Option ArrayRow) → F y ≡ o → find (λ q. nat_eq q.var x) (cons_option o (filter_map F ys)) ≡ Some r → among (y ∷ ys) x ≡ true
      by_row on None e g = further (nat_eq x y) (on g)
      by_row on (Some q) e g = by_test q e (nat_eq q.var x) refl on g

  -- an array is one of the last level's variables
  pub array-among : (x : ℕ) (r : ArrayRow) → row_of (arrays_of dev) x ≡ Some r → among (level_at dev (last dev)).vars x ≡ true
  array-among x r h = rows-among (λ y. row_by dev y (typing_clue (Some y) (reversed dev.levels []))) (λ y q k. row-own y (typing_clue (Some y) (reversed dev.levels [])) q k) (level_at dev (last dev)).vars x r h

  -- ---- scalars
  none-scalars : (u : ValueType) → is_scalar u ≡ true → has_scalars (Some u) ≡ false
  none-scalars int_type h = refl
  none-scalars bool_type h = refl
  none-scalars (enum_type s) h = refl
  none-scalars (pair_type t u) h = absurd (cc)
  none-scalars (set_type t) h = absurd (cc)

  scalar-none : (x : ℕ) (u : ValueType) → variable_type dev.table x ≡ Some u → is_scalar u ≡ true → row_of (arrays_of dev) x ≡ None
  scalar-none x u e h = by_row (row_of (arrays_of dev) x) refl
    where
      by_row : (o : Option ArrayRow) → row_of (arrays_of dev) x ≡ o → row_of (arrays_of dev) x ≡ None
      by_row None k = k
      by_row (Some r) k =
          let yes : has_scalars (Some u) ≡ true = subst (λ o. has_scalars o ≡ true) e (array-scalars x r k) in
          let no : has_scalars (Some u) ≡ false = none-scalars u h in
          let clash : true ≡ false = sym yes ∙ no in
          absurd (cc)

  -- a variable of a scalar type is one by its name
  pub scalar-name : (x : ℕ) (u : ValueType) → variable_type dev.table x ≡ Some u → is_scalar u ≡ true → IsScalarName dev x
  scalar-name x u e h = (scalar-none x u e h, subst (λ o. is_scalar (unwrap_or o bool_type) ≡ true) (sym e) h)
