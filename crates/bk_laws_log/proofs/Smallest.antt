-- The rows of the smallest number of a set.
use Rattle.std.proofs.Common.{◌≡◌, ◌⊎◌, inl, inr, refl, sym, ◌∙◌, ap, subst, Bool, true, false, not, cond, ℤ, ◌≤ℤ◌, ℕ, arith, List, [], ◌∷◌}
use Rattle.std.specs.Prelude.{int_lt}
use Rattle.std.proofs.lemmas.Int.{ints}
use Rattle.bk_val.specs.Value.{MathValue, int, set, none, more, list_of}
use Rattle.bk_val.specs.ValueType.{int_type, set_type}
use Rattle.bk_form.specs.Table.{set_size}
use Rattle.bk_form.specs.Formula.{unary}
use Rattle.bk_form.specs.Environment.{bound_types}
use Rattle.bk_form.specs.Role.{role}
use Rattle.bk_form.specs.Operators.{is_equal, number_in, elements, fold_numbers, smaller, extreme}
use Rattle.bk_form.specs.Meaning.{value}
use Rattle.bk_form.specs.declared.operator.UnOp.TheVariants.{Min, Single}
use Rattle.bk_form.proofs.Members.{Has, has-then, has-if}
use Rattle.bk_form.proofs.Typed.{Of, elements-of}
use Rattle.bk_form.proofs.Valued.{sound_typing}
use Rattle.bk_laws.specs.Rows.{built}
use Rattle.bk_laws.specs.Laws.{IsTrueRow}
use Rattle.bk_form.specs.Settings.{GivesIn}
use Rattle.bk_form.proofs.RoleParts.{extreme-parts, comparison-parts}
use Rattle.bk_form.proofs.Forms.{member}
use Rattle.bk_form.proofs.SetMembers.{in-parts}
use Rattle.bk_laws.proofs.Numbers.{is-number, number-of, le-if}
use Rattle.bk_laws.proofs.ByForm.{by_truth, by_value}
use Rattle.bk_laws_log.specs.Order.{o18, o19, o21}

smaller-is : (a b : ℤ) → (smaller a b ≡ a) ⊎ (smaller a b ≡ b)
smaller-is a b = by_test (int_lt b a) refl
  where
    by_test : (t : Bool) → int_lt b a ≡ t → (cond t b a ≡ a) ⊎ (cond t b a ≡ b)
    by_test true h = inr refl
    by_test false h = inl refl

smaller-below : (a b : ℤ) → (smaller a b ≤ℤ a) × (smaller a b ≤ℤ b)
smaller-below a b = by_test (int_lt b a) refl
  where
    less : (a b : ℤ) → int_lt b a ≡ true → b ≤ℤ a
    less a b h = grind (arith, ints)

    not-less : (a b : ℤ) → int_lt b a ≡ false → a ≤ℤ b
    not-less a b h = grind (arith, ints)

    by_test : (t : Bool) → int_lt b a ≡ t → (cond t b a ≤ℤ a) × (cond t b a ≤ℤ b)
    by_test true h = (less a b h, omega (arith, ints))
    by_test false h = (omega (arith, ints), not-less a b h)

fold-in : (z : ℤ) (vs : List MathValue) → ((v : MathValue) → Has v vs → v ≡ int (number_in v)) → Has (int (fold_numbers smaller z vs)) (int z ∷ vs)
fold-in z [] h = inl refl
fold-in z (v ∷ vs) h = elim (fold-in (smaller z (number_in v)) vs (λ w k. h w (inr k))) [
  | inl e ↦ elim (smaller-is z (number_in v)) [ inl g ↦ inl (e ∙ ap int g) | inr g ↦ inr (inl (e ∙ ap int g ∙ sym (h v (inl refl)))) ]
  | inr k ↦ inr (inr k)
]

fold-below : (z : ℤ) (vs : List MathValue) → (fold_numbers smaller z vs ≤ℤ z) × ((v : MathValue) → Has v vs → fold_numbers smaller z vs ≤ℤ number_in v)
fold-below z [] = (omega (arith, ints), λ v h. absurd h)
fold-below z (v ∷ vs) =
    let k = fold-below (smaller z (number_in v)) vs in
    let m = smaller-below z (number_in v) in (
      below-both z (smaller z (number_in v)) (fold_numbers smaller (smaller z (number_in v)) vs) m.0 k.0,
      (λ w h. elim h [ inl e ↦ subst (λ x. fold_numbers smaller (smaller z (number_in v)) vs ≤ℤ number_in x) (sym e) (below-both (number_in v) (smaller z (number_in v)) (fold_numbers smaller (smaller z (number_in v)) vs) m.1 k.0) | inr g ↦ k.1 w g ]),
    )
  where
    below-both : (a b c : ℤ) → b ≤ℤ a → c ≤ℤ b → c ≤ℤ a
    below-both a b c h k = omega (arith, ints)

smallest-in : (sizes : ℕ → ℕ) (s : MathValue) → Of sizes (set_type int_type) s → not (is_equal s (set none)) ≡ true → Has (int (extreme smaller (elements s))) (elements s)
smallest-in sizes (set none) o h = absurd (cc)
smallest-in sizes (set (more v vs)) o h =
    let all = λ (w : MathValue) (k : Has w (v ∷ list_of vs)). is-number sizes w (elements-of sizes int_type (set (more v vs)) w o k) in
    subst (λ x. Has (int (fold_numbers smaller (number_in v) (list_of vs))) (x ∷ list_of vs)) (sym (all v (inl refl))) (fold-in (number_in v) (list_of vs) (λ w k. all w (inr k)))
smallest-in sizes _ o h = absurd (cc)

smallest-below : (s v : MathValue) → Has v (elements s) → extreme smaller (elements s) ≤ℤ number_in v
smallest-below (set none) v h = absurd h
smallest-below (set (more w ws)) v (inl h) = subst (λ x. fold_numbers smaller (number_in w) (list_of ws) ≤ℤ number_in x) (sym h) (fold-below (number_in w) (list_of ws)).0
smallest-below (set (more w ws)) v (inr h) = (fold-below (number_in w) (list_of ws)).1 v h
smallest-below _ v h = absurd h

pub true-o18 : IsTrueRow o18
true-o18 picks = by_truth (built o18 picks) refl (λ find e c l r s.
    let a = picks 0 in
    let k = in-parts find e (unary Min a) a l in
    let p = extreme-parts (role e.table (bound_types e) a) k.0 k.1 in
    let xs = elements (value find e a) in
    member find e a int_type p.0 (int (extreme smaller xs)) ∙ has-if (int (extreme smaller xs)) xs (smallest-in (set_size e.table) (value find e a) (sound_typing.typed find e c.well c.typed a (set_type int_type) p.0) s.1))

pub true-o19 : IsTrueRow o19
true-o19 picks = by_truth (built o19 picks) refl (λ find e c l r s.
    let a = picks 0 in let x = picks 1 in
    let k = comparison-parts (role e.table (bound_types e) (unary Min a)) (role e.table (bound_types e) x) l in
    let p = extreme-parts (role e.table (bound_types e) a) int_type k.0 in
    let xs = elements (value find e a) in
    le-if (extreme smaller xs) (number_in (value find e x)) (smallest-below (value find e a) (value find e x) (has-then (value find e x) xs (sym (member find e a int_type p.0 (value find e x)) ∙ s.1))))

pub true-o21 : IsTrueRow o21
true-o21 picks = by_value (built o21 picks) refl (λ find e c t l r s.
    let a = picks 0 in
    let k = extreme-parts (role e.table (bound_types e) (unary Single a)) t l in
    sym (number-of find e c a (subst (λ u. GivesIn e a u) k.1 r)))
