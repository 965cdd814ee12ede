-- A term's linear form has the term's value.
use Rattle.std.proofs.Common.{◌≡◌, ◌<◌, ℕ, zero, suc, ℤ, pos, negsuc, ◌+ℤ◌, ◌-ℤ◌, ◌*ℤ◌, List, [], ◌∷◌, get_or, length, refl, ap, sym, subst, ◌∙◌, arith, Bool, true, false, cond, Option, Some, None}
use Rattle.std.specs.List.{list_all, flat_map}
use Rattle.std.proofs.Math.IntN.{*ℤ_comm, +ℤ_idr}
use Rattle.bk_val.specs.Value.{MathValue}
use Rattle.bk_val.specs.ValueType.{base_of}
use Rattle.bk_form.specs.Formula.{Formula, literal, bfalse, unary, binary}
use Rattle.bk_form.specs.Search.{Finder}
use Rattle.bk_form.specs.Environment.{Environment}
use Rattle.bk_form.specs.Role.{binary_role}
use Rattle.bk_form.specs.Operators.{number_in, unary_value, binary_value}
use Rattle.bk_form.specs.Meaning.{meaning, value, truth, type_in}
use Rattle.bk_form.specs.declared.operator.UnOp.{UnOp}
use Rattle.bk_form.specs.declared.operator.UnOp.TheVariants.{Neg}
use Rattle.bk_form.specs.declared.operator.BinOp.{BinOp}
use Rattle.bk_form.specs.declared.operator.BinOp.TheVariants.{Add, Sub, Mul}
use Rattle.bk_lin.specs.Inequality.{Inequality, dot, plus, times, is_narrow}
use Rattle.bk_arith.specs.ClosedSum.{closed_sum}
use Rattle.bk_arith.specs.Reading.{occurrences, unary_atoms, binary_atoms, atoms_of, reading, if_narrow, number_over, atom_over, sum_read, difference_read, multiple_read, unary_read, binary_read}
use Rattle.bk_arith.specs.Laws.{atom_values, ReadingMeans}
use Rattle.bk_arith.proofs.ClosedValues.{closed-value}
use Rattle.bk_arith.proofs.Products.{form_value, value-plus, value-times, value-difference, value-negative, value-number}
use Rattle.bk_arith.proofs.AtomLists.{stands, IsOnce, atoms-once, atoms-has, all-append, present}
use Rattle.bk_form.proofs.Members.{and-both}

-- a form that is narrow is the form itself
read_some : (b : Bool) (p q : Inequality) → cond b (Some p) None ≡ Some q → p ≡ q
read_some true p q h = cc
read_some false p q h = absurd (cc)

narrow_then : (p q : Inequality) → if_narrow p ≡ Some q → p ≡ q
narrow_then p q h = read_some (is_narrow p) p q h

some_then : (p q : Inequality) → Some p ≡ Some q → p ≡ q
some_then p q h = cc

-- whether each of the atoms stands in the list
abbrev all_stand : List Formula → List Formula → Type 0
all_stand atoms xs = list_all (stands atoms) xs ≡ true

module _ (x : ℕ → ℤ) where
  -- what is read has this value
  abbrev Has : Option Inequality → ℤ → Type 0
  Has o z = (p : Inequality) → o ≡ Some p → form_value x p ≡ z

  has-sum : (o q : Option Inequality) (y z : ℤ) → Has o y → Has q z → Has (sum_read o q) (y +ℤ z)
  has-sum (Some a) (Some b) y z f g p h =
      ap (form_value x) (sym (narrow_then (plus a b) p h)) ∙ value-plus x a b
      ∙ ap (λ s. s +ℤ form_value x b) (f a refl) ∙ ap (λ s. y +ℤ s) (g b refl)
  has-sum _ _ y z f g p h = absurd (cc)

  has-difference : (o q : Option Inequality) (y z : ℤ) → Has o y → Has q z → Has (difference_read o q) (y -ℤ z)
  has-difference (Some a) (Some b) y z f g p h =
      ap (form_value x) (sym (narrow_then (plus a (times (negsuc 0) b)) p h)) ∙ value-difference x a b
      ∙ ap (λ s. s -ℤ form_value x b) (f a refl) ∙ ap (λ s. y -ℤ s) (g b refl)
  has-difference _ _ y z f g p h = absurd (cc)

  has-multiple : (m : ℤ) (o : Option Inequality) (z : ℤ) → Has o z → Has (multiple_read m o) (m *ℤ z)
  has-multiple m (Some a) z f p h =
      ap (form_value x) (sym (narrow_then (times m a) p h)) ∙ value-times x m a ∙ ap (λ s. m *ℤ s) (f a refl)
  has-multiple m None z f p h = absurd (cc)

  has-negative : (o : Option Inequality) (z : ℤ) → Has o z → Has (multiple_read (negsuc 0) o) (pos 0 -ℤ z)
  has-negative (Some a) z f p h =
      ap (form_value x) (sym (narrow_then (times (negsuc 0) a) p h)) ∙ value-negative x a ∙ ap (λ s. pos 0 -ℤ s) (f a refl)
  has-negative None z f p h = absurd (cc)

module _ (find : Finder) (e : Environment) (atoms : List Formula) (once : IsOnce atoms) where
  abbrev values : ℕ → ℤ
  values = atom_values find e atoms

  abbrev number_of : Formula → ℤ
  number_of a = number_in (value find e a)

  at_atom : (a : Formula) → all_stand atoms (a ∷ []) → Has values (Some (atom_over atoms a)) (number_of a)
  at_atom a h p k =
      ap (form_value values) (sym (some_then (atom_over atoms a) p k))
      ∙ +ℤ_idr (dot (atom_over atoms a).coefs values)
      ∙ present number_of bfalse a atoms once (and-both (stands atoms a) true h).0

  at_unary : (o : UnOp) (r : Option Inequality) (v : MathValue) (b : Bool) (xs : List Formula) (whole : Formula) → (all_stand atoms xs → Has values r (number_in v)) → (all_stand atoms (whole ∷ []) → Has values (Some (atom_over atoms whole)) (number_in (unary_value o v b))) → all_stand atoms (unary_atoms o xs whole) → Has values (unary_read o r (atom_over atoms whole)) (number_in (unary_value o v b))
  at_unary Neg r v b xs whole f g h = has-negative values r (number_in v) (f h)
  at_unary _ r v b xs whole f g h = g h

  swapped : (m : ℤ) (r : Option Inequality) (y : ℤ) → Has values r y → Has values (multiple_read m r) (y *ℤ m)
  swapped m r y f p h = has-multiple values m r y f p h ∙ *ℤ_comm m y

  at_product : (m n : Option ℤ) (r s : Option Inequality) (y z : ℤ) (xs ys : List Formula) (whole : Formula) → ((k : ℤ) → m ≡ Some k → y ≡ k) → ((k : ℤ) → n ≡ Some k → z ≡ k) → (all_stand atoms xs → Has values r y) → (all_stand atoms ys → Has values s z) → (all_stand atoms (whole ∷ []) → Has values (Some (atom_over atoms whole)) (y *ℤ z)) → all_stand atoms (binary_atoms Mul m n xs ys whole) → Has values (binary_read Mul m n r s (atom_over atoms whole)) (y *ℤ z)
  at_product (Some m) n r s y z xs ys whole c d f g w h =
      subst (λ k. Has values (multiple_read m s) (k *ℤ z)) (sym (c m refl)) (has-multiple values m s z (g h))
  at_product None (Some n) r s y z xs ys whole c d f g w h =
      subst (λ k. Has values (multiple_read n r) (y *ℤ k)) (sym (d n refl)) (swapped n r y (f h))
  at_product None None r s y z xs ys whole c d f g w h = w h

  at_binary : (o : BinOp) (m n : Option ℤ) (r s : Option Inequality) (base v u : MathValue) (xs ys : List Formula) (whole : Formula) → ((k : ℤ) → m ≡ Some k → number_in v ≡ k) → ((k : ℤ) → n ≡ Some k → number_in u ≡ k) → (all_stand atoms xs → Has values r (number_in v)) → (all_stand atoms ys → Has values s (number_in u)) → (all_stand atoms (whole ∷ []) → Has values (Some (atom_over atoms whole)) (number_in (binary_value o base v u))) → all_stand atoms (binary_atoms o m n xs ys whole) → Has values (binary_read o m n r s (atom_over atoms whole)) (number_in (binary_value o base v u))
  at_binary Add m n r s base v u xs ys whole c d f g w h =
      let k = all-append (stands atoms) xs ys h in has-sum values r s (number_in v) (number_in u) (f k.0) (g k.1)
  at_binary Sub m n r s base v u xs ys whole c d f g w h =
      let k = all-append (stands atoms) xs ys h in has-difference values r s (number_in v) (number_in u) (f k.0) (g k.1)
  at_binary Mul m n r s base v u xs ys whole c d f g w h = at_product m n r s (number_in v) (number_in u) xs ys whole c d f g w h
  at_binary _ m n r s base v u xs ys whole c d f g w h = w h

  closed-number : (a : Formula) (k : ℤ) → closed_sum a ≡ Some k → number_of a ≡ k
  closed-number a k h = ap number_in (closed-value find e a k h)

  pub has-value : (t : Formula) → all_stand atoms (occurrences t) → Has values (reading atoms t) (number_of t)
  has-value (literal z) h = λ p k.
      ap (form_value values) (sym (narrow_then (number_over atoms z) p k)) ∙ value-number values (length atoms) z
  has-value (unary o a) h =
      at_unary o (reading atoms a) (value find e a) (truth find e a) (occurrences a) (unary o a) (has-value a) (at_atom (unary o a)) h
  has-value (binary o a b) h =
      at_binary o (closed_sum a) (closed_sum b) (reading atoms a) (reading atoms b) (base_of (type_in (binary_role o (meaning find e a).role (meaning find e b).role))) (value find e a) (value find e b)
      (occurrences a) (occurrences b) (binary o a b) (closed-number a) (closed-number b) (has-value a) (has-value b) (at_atom (binary o a b)) h
  has-value t h = at_atom t h

-- ---- over the atoms of some terms
each-stands : (atoms terms : List Formula) (k : ℕ) → list_all (stands atoms) (flat_map occurrences terms) ≡ true → k < length terms → all_stand atoms (occurrences (get_or terms k bfalse))
each-stands atoms [] k h l = absurd (omega arith)
each-stands atoms (t ∷ ts) zero h l = (all-append (stands atoms) (occurrences t) (flat_map occurrences ts) h).0
each-stands atoms (t ∷ ts) (suc k) h l =
    each-stands atoms ts k (all-append (stands atoms) (occurrences t) (flat_map occurrences ts) h).1 (omega arith)

pub reading_means : ReadingMeans
reading_means find e terms k p l h =
    has-value find e (atoms_of terms) (atoms-once terms) (get_or terms k bfalse)
    (each-stands (atoms_of terms) terms k (atoms-has terms) l) p h
