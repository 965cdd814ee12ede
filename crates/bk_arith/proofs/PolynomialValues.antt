-- Terms with equal polynomials are equal.
use Rattle.std.proofs.Common.{◌≡◌, ℤ, pos, negsuc, ◌+ℤ◌, ◌-ℤ◌, ◌*ℤ◌, List, [], ◌∷◌, ◌++◌, refl, sym, ◌∙◌, ap, Bool, true, false, cond, arith}
use Rattle.std.proofs.Math.IntN.{*ℤ_comm, *ℤ-zero, zero-*ℤ}
use Rattle.std.proofs.lemmas.Int.{ints}
use Rattle.std.specs.Prelude.{Option, Some, None}
use Rattle.std.specs.List.{list_all}
use Rattle.std.specs.Ordering.{int_eq}
use Rattle.std.specs.Option.{option_map, option_and_then}
use Rattle.bk_lin.proofs.Whole.{+ℤ-*ℤ, *ℤ-+ℤ}
use Rattle.bk_arith.proofs.Products.{*ℤ_assoc}
use Rattle.bk_arith.proofs.SameFormula.{same-then}
use Rattle.bk_arith.specs.ClosedSum.{if_fits}
use Rattle.bk_arith.specs.Same.{is_same}
use Rattle.bk_val.specs.Value.{fits_i128}
use Rattle.bk_form.specs.Formula.{Formula, literal, unary, binary}
use Rattle.bk_form.specs.Search.{Finder}
use Rattle.bk_form.specs.Environment.{Environment}
use Rattle.bk_form.specs.Operators.{number_in}
use Rattle.bk_form.specs.Meaning.{value}
use Rattle.bk_form.specs.declared.operator.UnOp.{UnOp}
use Rattle.bk_form.specs.declared.operator.UnOp.TheVariants.{Neg}
use Rattle.bk_form.specs.declared.operator.BinOp.{BinOp}
use Rattle.bk_form.specs.declared.operator.BinOp.TheVariants.{Add, Sub, Mul}
use Rattle.bk_form.proofs.Members.{and-both}
use Rattle.bk_arith.specs.Polynomials.{Monomial, removed, left_over, same_atoms, added, subtracted, all_subtracted, times_each, product, multiple, atom, unary_polynomial, both, binary_polynomial, polynomial, taken, is_zero, same_polynomials, are_same, equal_polynomials}
use Rattle.bk_arith.proofs.Options.{chained, mapped, cond-then, some-same}

fits-same : (y z : ℤ) → if_fits y ≡ Some z → y ≡ z
fits-same y z h = (cond-then (fits_i128 y) y z h).1

left-over-then : {A : Type 0} (test : A → Bool) (o : Option A) → left_over test o ≡ true → (x : A) × (o ≡ Some x) × (test x ≡ true)
left-over-then test (Some x) h = (x, refl, h)
left-over-then test None h = absurd (cc)

int_eq-then : (x y : ℤ) → int_eq x y ≡ true → x ≡ y
int_eq-then x y h = grind (arith, ints)

one-times : (x : ℤ) → pos 1 *ℤ x ≡ x
one-times x = omega (arith, ints)

module _ (find : Finder) (e : Environment) where
  abbrev pub num : Formula → ℤ
  num f = number_in (value find e f)

  -- the product of some atoms
  abbrev atoms : List Formula → ℤ
  atoms [] = pos 1
  atoms (f ∷ fs) = num f *ℤ atoms fs

  abbrev term : Monomial → ℤ
  term t = t.0 *ℤ atoms t.1

  abbrev total : List Monomial → ℤ
  total [] = pos 0
  total (t ∷ ts) = term t +ℤ total ts

  swapped : (x y z : ℤ) → x *ℤ (y *ℤ z) ≡ y *ℤ (x *ℤ z)
  swapped x y z = *ℤ_assoc x y z ∙ ap (λ w. w *ℤ z) (*ℤ_comm x y) ∙ sym (*ℤ_assoc y x z)

  atoms-append : (fs gs : List Formula) → atoms (fs ++ gs) ≡ atoms fs *ℤ atoms gs
  atoms-append [] gs = sym (one-times (atoms gs))
  atoms-append (f ∷ fs) gs = ap (λ x. num f *ℤ x) (atoms-append fs gs) ∙ *ℤ_assoc (num f) (atoms fs) (atoms gs)

  removed-atoms : (f : Formula) (gs rest : List Formula) → removed f gs ≡ Some rest → atoms gs ≡ num f *ℤ atoms rest
  removed-atoms f [] rest h = absurd (cc)
  removed-atoms f (g ∷ gs) rest h = at (is_same f g) refl h (λ r k. removed-atoms f gs r k)
    where
      at : (b : Bool) → is_same f g ≡ b → cond b (Some gs) (option_map (λ r. g ∷ r) (removed f gs)) ≡ Some rest → ((r : List Formula) → removed f gs ≡ Some r → atoms gs ≡ num f *ℤ atoms r) → num g *ℤ atoms gs ≡ num f *ℤ atoms rest
      at true q k on = λ i. num (sym (same-then f g q) i) *ℤ atoms (some-same gs rest k i)
      at false q k on =
          let w = mapped (λ r. g ∷ r) (removed f gs) rest k in
          ap (λ x. num g *ℤ x) (on w.0 w.1) ∙ swapped (num g) (num f) (atoms w.0) ∙ ap (λ x. num f *ℤ atoms x) w.2

  same-product : (fs gs : List Formula) → same_atoms fs gs ≡ true → atoms fs ≡ atoms gs
  same-product [] [] h = refl
  same-product [] (g ∷ gs) h = absurd (cc)
  same-product (f ∷ fs) gs h =
      let w = left-over-then (same_atoms fs) (removed f gs) h in
      ap (λ x. num f *ℤ x) (same-product fs w.0 w.2) ∙ sym (removed-atoms f gs w.0 w.1)

  added-total : (t : Monomial) (us r : List Monomial) → added t us ≡ Some r → total r ≡ term t +ℤ total us
  added-total t [] r h = ap total (sym (some-same (t ∷ []) r h))
  added-total t (u ∷ us) r h = at (same_atoms t.1 u.1) refl h (λ x k. added-total t us x k)
    where
      joined : (a b x y z : ℤ) → x ≡ y → (a +ℤ b) *ℤ y +ℤ z ≡ a *ℤ x +ℤ (b *ℤ y +ℤ z)
      joined a b x y z q = ap (λ w. w +ℤ z) (+ℤ-*ℤ a b y) ∙ regrouped (a *ℤ y) (b *ℤ y) z ∙ ap (λ w. a *ℤ w +ℤ (b *ℤ y +ℤ z)) (sym q)
        where
          regrouped : (p q r : ℤ) → (p +ℤ q) +ℤ r ≡ p +ℤ (q +ℤ r)
          regrouped p q r = omega (arith, ints)

      turned : (p q r : ℤ) → p +ℤ (q +ℤ r) ≡ q +ℤ (p +ℤ r)
      turned p q r = omega (arith, ints)

      merged : (c : ℤ) → if_fits (t.0 +ℤ u.0) ≡ Some c → same_atoms t.1 u.1 ≡ true → total ((c, u.1) ∷ us) ≡ term t +ℤ total (u ∷ us)
      merged c k q = ap (λ x. x *ℤ atoms u.1 +ℤ total us) (sym (fits-same (t.0 +ℤ u.0) c k)) ∙ joined t.0 u.0 (atoms t.1) (atoms u.1) (total us) (same-product t.1 u.1 q)

      at : (b : Bool) → same_atoms t.1 u.1 ≡ b → cond b (option_map (λ c. (c, u.1) ∷ us) (if_fits (t.0 +ℤ u.0))) (option_map (λ x. u ∷ x) (added t us)) ≡ Some r → ((x : List Monomial) → added t us ≡ Some x → total x ≡ term t +ℤ total us) → total r ≡ term t +ℤ total (u ∷ us)
      at true q k on =
          let w = mapped (λ (c : ℤ). (let m : List Monomial = (c, u.1) ∷ us in m)) (if_fits (t.0 +ℤ u.0)) r k in
          ap total (sym w.2) ∙ merged w.0 w.1 q
      at false q k on =
          let w = mapped (λ x. u ∷ x) (added t us) r k in
          ap total (sym w.2) ∙ ap (λ x. term u +ℤ x) (on w.0 w.1) ∙ turned (term u) (term t) (total us)

  -- what a coefficient is a difference of
  less-times : (d u t a : ℤ) → u -ℤ t ≡ d → t *ℤ a +ℤ d *ℤ a ≡ u *ℤ a
  less-times d u t a h =
      let e : t +ℤ d ≡ u = omega (arith, ints, h) in
      sym (+ℤ-*ℤ t d a) ∙ ap (λ x. x *ℤ a) e

  subtracted-total : (t : Monomial) (us r : List Monomial) → subtracted t us ≡ Some r → total us ≡ term t +ℤ total r
  subtracted-total t [] r h =
      let w = mapped (λ (c : ℤ). (let m : List Monomial = (c, t.1) ∷ [] in m)) (if_fits (pos 0 -ℤ t.0)) r h in
      sym (zero-*ℤ (atoms t.1))
      ∙ sym (less-times w.0 (pos 0) t.0 (atoms t.1) (fits-same (pos 0 -ℤ t.0) w.0 w.1))
      ∙ ap (λ x. term t +ℤ x) (alone (w.0 *ℤ atoms t.1))
      ∙ ap (λ x. term t +ℤ total x) w.2
    where
      alone : (x : ℤ) → x ≡ x +ℤ pos 0
      alone x = omega (arith, ints)
  subtracted-total t (u ∷ us) r h = at (same_atoms t.1 u.1) refl h (λ x k. subtracted-total t us x k)
    where
      turned : (p q r : ℤ) → p +ℤ (q +ℤ r) ≡ q +ℤ (p +ℤ r)
      turned p q r = omega (arith, ints)

      regrouped : (p q r : ℤ) → (p +ℤ q) +ℤ r ≡ p +ℤ (q +ℤ r)
      regrouped p q r = omega (arith, ints)

      parted : (c : ℤ) → if_fits (u.0 -ℤ t.0) ≡ Some c → same_atoms t.1 u.1 ≡ true → total (u ∷ us) ≡ term t +ℤ total ((c, u.1) ∷ us)
      parted c k q =
          ap (λ x. x +ℤ total us) (sym (less-times c u.0 t.0 (atoms u.1) (fits-same (u.0 -ℤ t.0) c k)))
          ∙ regrouped (t.0 *ℤ atoms u.1) (c *ℤ atoms u.1) (total us)
          ∙ ap (λ x. t.0 *ℤ x +ℤ (c *ℤ atoms u.1 +ℤ total us)) (sym (same-product t.1 u.1 q))

      at : (b : Bool) → same_atoms t.1 u.1 ≡ b → cond b (option_map (λ c. (c, u.1) ∷ us) (if_fits (u.0 -ℤ t.0))) (option_map (λ x. u ∷ x) (subtracted t us)) ≡ Some r → ((x : List Monomial) → subtracted t us ≡ Some x → total us ≡ term t +ℤ total x) → total (u ∷ us) ≡ term t +ℤ total r
      at true q k on =
          let w = mapped (λ (c : ℤ). (let m : List Monomial = (c, u.1) ∷ us in m)) (if_fits (u.0 -ℤ t.0)) r k in
          parted w.0 w.1 q ∙ ap (λ x. term t +ℤ total x) w.2
      at false q k on =
          let w = mapped (λ x. u ∷ x) (subtracted t us) r k in
          ap (λ x. term u +ℤ x) (on w.0 w.1) ∙ turned (term u) (term t) (total w.0) ∙ ap (λ x. term t +ℤ total x) w.2

  all-subtracted-total : (ts us r : List Monomial) → all_subtracted ts us ≡ Some r → total us ≡ total ts +ℤ total r
  all-subtracted-total [] us r h = ap total (some-same us r h) ∙ alone (total r)
    where
      alone : (x : ℤ) → x ≡ pos 0 +ℤ x
      alone x = omega (arith, ints)
  all-subtracted-total (t ∷ ts) us r h =
      let k = chained (all_subtracted ts) (subtracted t us) r h in
      subtracted-total t us k.0 k.1
      ∙ ap (λ x. term t +ℤ x) (all-subtracted-total ts k.0 r k.2)
      ∙ regrouped (term t) (total ts) (total r)
    where
      regrouped : (p q r : ℤ) → p +ℤ (q +ℤ r) ≡ (p +ℤ q) +ℤ r
      regrouped p q r = omega (arith, ints)

  -- a product of two monomials
  four : (a b x y : ℤ) → (a *ℤ b) *ℤ (x *ℤ y) ≡ (a *ℤ x) *ℤ (b *ℤ y)
  four a b x y = sym (*ℤ_assoc a b (x *ℤ y)) ∙ ap (λ w. a *ℤ w) (swapped b x y) ∙ *ℤ_assoc a x (b *ℤ y)

  sum-first : (p q r s : ℤ) → p +ℤ (q +ℤ r) ≡ (q +ℤ p) +ℤ r
  sum-first p q r s = omega (arith, ints)

  times-total : (t : Monomial) (us q r : List Monomial) → times_each t us q ≡ Some r → total r ≡ term t *ℤ total us +ℤ total q
  times-total t [] q r h = ap total (sym (some-same q r h)) ∙ alone (total q) ∙ ap (λ w. w +ℤ total q) (sym (*ℤ-zero (term t)))
    where
      alone : (x : ℤ) → x ≡ pos 0 +ℤ x
      alone x = omega (arith, ints)
  times-total t (u ∷ us) q r h =
      let k = chained (λ c. option_and_then (times_each t us) (added (c, t.1 ++ u.1) q)) (if_fits (t.0 *ℤ u.0)) r h in
      let m = chained (times_each t us) (added (k.0, t.1 ++ u.1) q) r k.2 in
      let one : k.0 *ℤ atoms (t.1 ++ u.1) ≡ term t *ℤ term u = (λ i. sym (fits-same (t.0 *ℤ u.0) k.0 k.1) i *ℤ atoms-append t.1 u.1 i) ∙ four t.0 u.0 (atoms t.1) (atoms u.1) in
      times-total t us m.0 r m.2
      ∙ ap (λ w. term t *ℤ total us +ℤ w) (added-total (k.0, t.1 ++ u.1) q m.0 m.1 ∙ ap (λ w. w +ℤ total q) one)
      ∙ sum-first (term t *ℤ total us) (term t *ℤ term u) (total q) (pos 0)
      ∙ ap (λ w. w +ℤ total q) (sym (*ℤ-+ℤ (term t) (term u) (total us)))

  product-total : (ts us q r : List Monomial) → product ts us q ≡ Some r → total r ≡ total ts *ℤ total us +ℤ total q
  product-total [] us q r h = ap total (sym (some-same q r h)) ∙ alone (total q) ∙ ap (λ w. w +ℤ total q) (sym (zero-*ℤ (total us)))
    where
      alone : (x : ℤ) → x ≡ pos 0 +ℤ x
      alone x = omega (arith, ints)
  product-total (t ∷ ts) us q r h =
      let k = chained (product ts us) (times_each t us q) r h in
      product-total ts us k.0 r k.2
      ∙ ap (λ w. total ts *ℤ total us +ℤ w) (times-total t us q k.0 k.1)
      ∙ sum-first (total ts *ℤ total us) (term t *ℤ total us) (total q) (pos 0)
      ∙ ap (λ w. w +ℤ total q) (sym (+ℤ-*ℤ (term t) (total ts) (total us)))

  multiple-total : (z : ℤ) (p q r : List Monomial) → multiple z p q ≡ Some r → total r ≡ z *ℤ total p +ℤ total q
  multiple-total z p q r h = product-total ((z, []) ∷ []) p q r h ∙ ap (λ w. w *ℤ total p +ℤ total q) (single z)
    where
      single : (z : ℤ) → z *ℤ pos 1 +ℤ pos 0 ≡ z
      single z = omega (arith, ints)

  -- ---- terms
  atom-total : (f : Formula) (p : List Monomial) → atom f ≡ Some p → total p ≡ num f
  atom-total f p h = ap total (sym (some-same ((pos 1, f ∷ []) ∷ []) p h)) ∙ single (num f)
    where
      single : (x : ℤ) → pos 1 *ℤ (x *ℤ pos 1) +ℤ pos 0 ≡ x
      single x = omega (arith, ints)

  both-then : (f : List Monomial → List Monomial → Option (List Monomial)) (p q : Option (List Monomial)) (r : List Monomial) → both f p q ≡ Some r → (x : List Monomial) × (y : List Monomial) × (p ≡ Some x) × (q ≡ Some y) × (f x y ≡ Some r)
  both-then f p q r h =
      let k = chained (λ p. option_and_then (f p) q) p r h in
      let m = chained (f k.0) q r k.2 in
      (k.0, m.0, k.1, m.1, m.2)

  unary-total : (o : UnOp) (a : Formula) (p : List Monomial) → ((q : List Monomial) → polynomial a ≡ Some q → total q ≡ num a) → unary_polynomial o (polynomial a) (unary o a) ≡ Some p → total p ≡ num (unary o a)
  unary-total Neg a p on h =
      let k = chained (λ q. multiple (negsuc 0) q []) (polynomial a) p h in
      multiple-total (negsuc 0) k.0 [] p k.2 ∙ ap (λ x. negsuc 0 *ℤ x +ℤ pos 0) (on k.0 k.1) ∙ negative (num a)
    where
      negative : (x : ℤ) → negsuc 0 *ℤ x +ℤ pos 0 ≡ pos 0 -ℤ x
      negative x = omega (arith, ints)
  unary-total o a p on h = atom-total (unary o a) p h

  binary-total : (o : BinOp) (a b : Formula) (r : List Monomial) → ((q : List Monomial) → polynomial a ≡ Some q → total q ≡ num a) → ((q : List Monomial) → polynomial b ≡ Some q → total q ≡ num b) → binary_polynomial o (polynomial a) (polynomial b) (binary o a b) ≡ Some r → total r ≡ num (binary o a b)
  binary-total Add a b r f g h =
      let k = both-then (λ p q. multiple (pos 1) q p) (polynomial a) (polynomial b) r h in
      multiple-total (pos 1) k.1 k.0 r k.4 ∙ (λ i. pos 1 *ℤ g k.1 k.3 i +ℤ f k.0 k.2 i) ∙ sum (num a) (num b)
    where
      sum : (x y : ℤ) → pos 1 *ℤ y +ℤ x ≡ x +ℤ y
      sum x y = omega (arith, ints)
  binary-total Sub a b r f g h =
      let k = both-then (λ p q. all_subtracted q p) (polynomial a) (polynomial b) r h in
      difference (num a) (num b) (total r) (sym (f k.0 k.2) ∙ all-subtracted-total k.1 k.0 r k.4 ∙ ap (λ x. x +ℤ total r) (g k.1 k.3))
    where
      difference : (x y z : ℤ) → x ≡ y +ℤ z → z ≡ x -ℤ y
      difference x y z e = omega (arith, ints, e)
  binary-total Mul a b r f g h =
      let k = both-then (λ p q. product p q []) (polynomial a) (polynomial b) r h in
      product-total k.0 k.1 [] r k.4 ∙ (λ i. f k.0 k.2 i *ℤ g k.1 k.3 i +ℤ pos 0) ∙ plain (num a *ℤ num b)
    where
      plain : (x : ℤ) → x +ℤ pos 0 ≡ x
      plain x = omega (arith, ints)
  binary-total o a b r f g h = atom-total (binary o a b) r h

  pub polynomial-total : (f : Formula) (p : List Monomial) → polynomial f ≡ Some p → total p ≡ num f
  polynomial-total (literal z) p h =
      let k = mapped (λ (c : ℤ). (let m : List Monomial = (c, []) ∷ [] in m)) (if_fits z) p h in
      ap total (sym k.2) ∙ single k.0 ∙ sym (fits-same z k.0 k.1)
    where
      single : (x : ℤ) → x *ℤ pos 1 +ℤ pos 0 ≡ x
      single x = omega (arith, ints)
  polynomial-total (unary o a) p h = unary-total o a p (polynomial-total a) h
  polynomial-total (binary o a b) p h = binary-total o a b p (polynomial-total a) (polynomial-total b) h
  polynomial-total f p h = atom-total f p h

  -- ---- equal coefficients
  zero-total : (q : List Monomial) → list_all is_zero q ≡ true → total q ≡ pos 0
  zero-total [] h = refl
  zero-total (t ∷ ts) h =
      let k = and-both (is_zero t) (list_all is_zero ts) h in
      (λ i. int_eq-then t.0 (pos 0) k.0 i *ℤ atoms t.1 +ℤ zero-total ts k.1 i) ∙ ap (λ x. x +ℤ pos 0) (zero-*ℤ (atoms t.1))

  taken-total : (t : Monomial) (us r : List Monomial) → taken t us ≡ Some r → total us ≡ term t +ℤ total r
  taken-total t [] r h = absurd (cc)
  taken-total t (u ∷ us) r h = at (same_atoms t.1 u.1) refl h (λ x k. taken-total t us x k)
    where
      turned : (p q r : ℤ) → p +ℤ (q +ℤ r) ≡ q +ℤ (p +ℤ r)
      turned p q r = omega (arith, ints)

      at : (b : Bool) → same_atoms t.1 u.1 ≡ b → cond b (cond (int_eq t.0 u.0) (Some us) None) (option_map (λ x. u ∷ x) (taken t us)) ≡ Some r → ((x : List Monomial) → taken t us ≡ Some x → total us ≡ term t +ℤ total x) → total (u ∷ us) ≡ term t +ℤ total r
      at true q k on =
          let w = cond-then (int_eq t.0 u.0) us r k in
          λ i. (sym (int_eq-then t.0 u.0 w.0) i *ℤ sym (same-product t.1 u.1 q) i) +ℤ total (w.1 i)
      at false q k on =
          let w = mapped (λ x. u ∷ x) (taken t us) r k in
          ap (λ x. term u +ℤ x) (on w.0 w.1) ∙ turned (term u) (term t) (total w.0) ∙ ap (λ x. term t +ℤ total x) w.2

  same-total : (p q : List Monomial) → same_polynomials p q ≡ true → total p ≡ total q
  same-total [] q h = sym (zero-total q h)
  same-total (t ∷ ts) q h = at (is_zero t) refl h (same-total ts q) (λ r. same-total ts r)
    where
      nothing : (x : ℤ) → pos 0 +ℤ x ≡ x
      nothing x = omega (arith, ints)

      at : (b : Bool) → is_zero t ≡ b → cond b (same_polynomials ts q) (left_over (same_polynomials ts) (taken t q)) ≡ true → (same_polynomials ts q ≡ true → total ts ≡ total q) → ((r : List Monomial) → same_polynomials ts r ≡ true → total ts ≡ total r) → term t +ℤ total ts ≡ total q
      at true z k on all = (λ i. int_eq-then t.0 (pos 0) z i *ℤ atoms t.1 +ℤ on k i) ∙ ap (λ x. x +ℤ total q) (zero-*ℤ (atoms t.1)) ∙ nothing (total q)
      at false z k on all =
          let w = left-over-then (same_polynomials ts) (taken t q) k in
          ap (λ x. term t +ℤ x) (all w.0 w.2) ∙ sym (taken-total t q w.0 w.1)

  are-same-then : (p q : Option (List Monomial)) → are_same p q ≡ true → (x : List Monomial) × (y : List Monomial) × (p ≡ Some x) × (q ≡ Some y) × (same_polynomials x y ≡ true)
  are-same-then (Some x) (Some y) h = (x, y, refl, refl, h)
  are-same-then _ _ h = absurd (cc)

  pub equal-numbers : (a b : Formula) → equal_polynomials a b ≡ true → num a ≡ num b
  equal-numbers a b h =
      let k = are-same-then (polynomial a) (polynomial b) h in
      sym (polynomial-total a k.0 k.2) ∙ same-total k.0 k.1 k.4 ∙ polynomial-total b k.1 k.3
