-- The rows of the largest number of a set.
use Rattle.std.proofs.Common.{◌≡◌, ◌⊎◌, inl, inr, refl, sym, ◌∙◌, ap, subst, Bool, true, false, not, cond, ℤ, ◌≤ℤ◌, ℕ, arith, List, [], ◌∷◌}
use Rattle.std.specs.Prelude.{int_lt}
use Rattle.std.proofs.lemmas.Int.{ints}
use Rattle.bk_val.specs.Value.{MathValue, int, set, none, more, list_of}
use Rattle.bk_val.specs.ValueType.{int_type, set_type}
use Rattle.bk_form.specs.Formula.{unary}
use Rattle.bk_form.specs.Environment.{bound_types}
use Rattle.bk_form.specs.Role.{role}
use Rattle.bk_form.specs.Table.{set_size}
use Rattle.bk_form.specs.Operators.{is_equal, number_in, elements, fold_numbers, larger, extreme}
use Rattle.bk_form.specs.Meaning.{value}
use Rattle.bk_form.specs.declared.operator.UnOp.TheVariants.{Max, Single}
use Rattle.bk_form.proofs.Members.{Has, has-then, has-if}
use Rattle.bk_form.proofs.Typed.{Of, elements-of}
use Rattle.bk_form.proofs.Valued.{sound_typing}
use Rattle.bk_laws.specs.Rows.{built}
use Rattle.bk_laws.specs.Laws.{IsTrueRow}
use Rattle.bk_form.specs.Settings.{GivesIn}
use Rattle.bk_form.proofs.RoleParts.{extreme-parts, comparison-parts}
use Rattle.bk_form.proofs.Forms.{member}
use Rattle.bk_form.proofs.SetMembers.{in-parts}
use Rattle.bk_laws.proofs.Numbers.{is-number, number-of, le-if}
use Rattle.bk_laws.proofs.ByForm.{by_truth, by_value}
use Rattle.bk_laws_log.specs.Order.{o16, o17, o20}

larger-is : (a b : ℤ) → (larger a b ≡ a) ⊎ (larger a b ≡ b)
larger-is a b = by_test (int_lt a b) refl
  where
    by_test : (t : Bool) → int_lt a b ≡ t → (cond t b a ≡ a) ⊎ (cond t b a ≡ b)
    by_test true h = inr refl
    by_test false h = inl refl

larger-above : (a b : ℤ) → (a ≤ℤ larger a b) × (b ≤ℤ larger a b)
larger-above a b = by_test (int_lt a b) refl
  where
    less : (a b : ℤ) → int_lt a b ≡ true → a ≤ℤ b
    less a b h = grind (arith, ints)

    not-less : (a b : ℤ) → int_lt a b ≡ false → b ≤ℤ a
    not-less a b h = grind (arith, ints)

    by_test : (t : Bool) → int_lt a b ≡ t → (a ≤ℤ cond t b a) × (b ≤ℤ cond t b a)
    by_test true h = (less a b h, omega (arith, ints))
    by_test false h = (omega (arith, ints), not-less a b h)

fold-in : (z : ℤ) (vs : List MathValue) → ((v : MathValue) → Has v vs → v ≡ int (number_in v)) → Has (int (fold_numbers larger z vs)) (int z ∷ vs)
fold-in z [] h = inl refl
fold-in z (v ∷ vs) h = elim (fold-in (larger z (number_in v)) vs (λ w k. h w (inr k))) [
  | inl e ↦ elim (larger-is z (number_in v)) [ inl g ↦ inl (e ∙ ap int g) | inr g ↦ inr (inl (e ∙ ap int g ∙ sym (h v (inl refl)))) ]
  | inr k ↦ inr (inr k)
]

fold-above : (z : ℤ) (vs : List MathValue) → (z ≤ℤ fold_numbers larger z vs) × ((v : MathValue) → Has v vs → number_in v ≤ℤ fold_numbers larger z vs)
fold-above z [] = (omega (arith, ints), λ v h. absurd h)
fold-above z (v ∷ vs) =
    let k = fold-above (larger z (number_in v)) vs in
    let m = larger-above z (number_in v) in (
      above-both z (larger z (number_in v)) (fold_numbers larger (larger z (number_in v)) vs) m.0 k.0,
      (λ w h. elim h [ inl e ↦ subst (λ x. number_in x ≤ℤ fold_numbers larger (larger z (number_in v)) vs) (sym e) (above-both (number_in v) (larger z (number_in v)) (fold_numbers larger (larger z (number_in v)) vs) m.1 k.0) | inr g ↦ k.1 w g ]),
    )
  where
    above-both : (a b c : ℤ) → a ≤ℤ b → b ≤ℤ c → a ≤ℤ c
    above-both a b c h k = omega (arith, ints)

largest-in : (sizes : ℕ → ℕ) (s : MathValue) → Of sizes (set_type int_type) s → not (is_equal s (set none)) ≡ true → Has (int (extreme larger (elements s))) (elements s)
largest-in sizes (set none) o h = absurd (cc)
largest-in sizes (set (more v vs)) o h =
    let all = λ (w : MathValue) (k : Has w (v ∷ list_of vs)). is-number sizes w (elements-of sizes int_type (set (more v vs)) w o k) in
    subst (λ x. Has (int (fold_numbers larger (number_in v) (list_of vs))) (x ∷ list_of vs)) (sym (all v (inl refl))) (fold-in (number_in v) (list_of vs) (λ w k. all w (inr k)))
largest-in sizes _ o h = absurd (cc)

largest-above : (s v : MathValue) → Has v (elements s) → number_in v ≤ℤ extreme larger (elements s)
largest-above (set none) v h = absurd h
largest-above (set (more w ws)) v (inl h) = subst (λ x. number_in x ≤ℤ fold_numbers larger (number_in w) (list_of ws)) (sym h) (fold-above (number_in w) (list_of ws)).0
largest-above (set (more w ws)) v (inr h) = (fold-above (number_in w) (list_of ws)).1 v h
largest-above _ v h = absurd h

pub true-o16 : IsTrueRow o16
true-o16 picks = by_truth (built o16 picks) refl (λ find e c l r s.
    let a = picks 0 in
    let k = in-parts find e (unary Max a) a l in
    let p = extreme-parts (role e.table (bound_types e) a) k.0 k.1 in
    let xs = elements (value find e a) in
    member find e a int_type p.0 (int (extreme larger xs)) ∙ has-if (int (extreme larger xs)) xs (largest-in (set_size e.table) (value find e a) (sound_typing.typed find e c.well c.typed a (set_type int_type) p.0) s.1))

pub true-o17 : IsTrueRow o17
true-o17 picks = by_truth (built o17 picks) refl (λ find e c l r s.
    let x = picks 0 in let a = picks 1 in
    let k = comparison-parts (role e.table (bound_types e) x) (role e.table (bound_types e) (unary Max a)) l in
    let p = extreme-parts (role e.table (bound_types e) a) int_type k.1 in
    let xs = elements (value find e a) in
    le-if (number_in (value find e x)) (extreme larger xs) (largest-above (value find e a) (value find e x) (has-then (value find e x) xs (sym (member find e a int_type p.0 (value find e x)) ∙ s.1))))

pub true-o20 : IsTrueRow o20
true-o20 picks = by_value (built o20 picks) refl (λ find e c t l r s.
    let a = picks 0 in
    let k = extreme-parts (role e.table (bound_types e) (unary Single a)) t l in
    sym (number-of find e c a (subst (λ u. GivesIn e a u) k.1 r)))
