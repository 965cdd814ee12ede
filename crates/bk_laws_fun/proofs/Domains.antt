-- The rows of domains and ranges.
use Rattle.std.proofs.Common.{refl, sym, ◌∙◌, ap, ◌&&◌, ◌||◌, not, inl, inr}
use Rattle.bk_val.specs.Value.{MathValue, pair}
use Rattle.bk_val.specs.ValueType.{pair_type}
use Rattle.bk_form.specs.Formula.{unary, binary}
use Rattle.bk_form.specs.Role.{unary_role}
use Rattle.bk_form.specs.Meaning.{within}
use Rattle.bk_form.specs.declared.operator.UnOp.TheVariants.{Dom, Ran, Id, Inverse}
use Rattle.bk_form.specs.declared.operator.BinOp.TheVariants.{Union, DomRes, Over, Times, DomSub, RanRes, RanSub}
use Rattle.bk_form.proofs.Members.{both_ways, and-both, and-true, or-left, or-right, or-cases}
use Rattle.bk_form.proofs.SetMembers.{dom-part, dom-part-of, two-sets, in-dom, in-union, ran-part, ran-part-of, in-ran, in-inverse, in-dom-res, in-inter, in-dom-sub, in-minus, in-ran-res, in-ran-sub, two-relations, in-over, in-power, in-power-parts, in-id}
use Rattle.bk_laws.specs.Laws.{IsTrueRow}
use Rattle.bk_laws.specs.Rows.{built}
use Rattle.bk_laws.proofs.ByForm.{by_members, by_truth}
use Rattle.bk_laws_fun.specs.Relations.{m10, m11, m12, m13, m14, m15, m16, m17, m18, m19, m20, m21, m22, m23, m24, m25, m26}
use Rattle.bk_laws_fun.proofs.Parts.{inverse-part, id-part, product-part, some-in}
use Rattle.bk_laws_fun.proofs.Truths.{or-either}

pub true-m10 : IsTrueRow m10
true-m10 picks = by_members (built m10 picks) refl (λ find e c t l r s v o. refl)

pub true-m11 : IsTrueRow m11
true-m11 picks = by_members (built m11 picks) refl (λ find e c t l r s v o. refl)

pub true-m12 : IsTrueRow m12
true-m12 picks = by_members (built m12 picks) refl (λ find e c t l r s v o. refl)

pub true-m13 : IsTrueRow m13
true-m13 picks = by_members (built m13 picks) refl (λ find e c t l r s v o. refl)

pub true-m14 : IsTrueRow m14
true-m14 picks = by_members (built m14 picks) refl (λ find e c t l r s x o.
    let f = picks 0 in let g = picks 1 in
    let part = dom-part-of find e c (binary Union f g) t l in
    let types = two-sets find e f g (pair_type t part.0) part.1 in
    let whole = in-dom find e c (binary Union f g) t part.0 part.1 x in
    let first = in-dom find e c f t part.0 types.0 x in
    let second = in-dom find e c g t part.0 types.1 x in
    let each = λ (y : MathValue). in-union find e f g (pair_type t part.0) part.1 (pair x y) in
    let in_f = within find e x (unary Dom f) in
    let in_g = within find e x (unary Dom g) in
    both_ways (within find e x (unary Dom (binary Union f g))) (in_f || in_g)
    (λ h. let w = whole.0 h in elim (or-cases (within find e (pair x w.0) f) (within find e (pair x w.0) g) (sym (each w.0) ∙ w.1)) [
      | inl m ↦ or-left in_f in_g (first.1 (w.0, m))
      | inr m ↦ or-right in_f in_g (second.1 (w.0, m))
    ])
    (λ h. elim (or-cases in_f in_g h) [
      | inl m ↦ let w = first.0 m in whole.1 (w.0, each w.0 ∙ or-left (within find e (pair x w.0) f) (within find e (pair x w.0) g) w.1)
      | inr m ↦ let w = second.0 m in whole.1 (w.0, each w.0 ∙ or-right (within find e (pair x w.0) f) (within find e (pair x w.0) g) w.1)
    ])
    ∙ sym (in-union find e (unary Dom f) (unary Dom g) t r x))

pub true-m15 : IsTrueRow m15
true-m15 picks = by_members (built m15 picks) refl (λ find e c u l r s y o.
    let f = picks 0 in let g = picks 1 in
    let part = ran-part-of find e c (binary Union f g) u l in
    let types = two-sets find e f g (pair_type part.0 u) part.1 in
    let whole = in-ran find e c (binary Union f g) part.0 u part.1 y in
    let first = in-ran find e c f part.0 u types.0 y in
    let second = in-ran find e c g part.0 u types.1 y in
    let each = λ (x : MathValue). in-union find e f g (pair_type part.0 u) part.1 (pair x y) in
    let in_f = within find e y (unary Ran f) in
    let in_g = within find e y (unary Ran g) in
    both_ways (within find e y (unary Ran (binary Union f g))) (in_f || in_g)
    (λ h. let w = whole.0 h in elim (or-cases (within find e (pair w.0 y) f) (within find e (pair w.0 y) g) (sym (each w.0) ∙ w.1)) [
      | inl m ↦ or-left in_f in_g (first.1 (w.0, m))
      | inr m ↦ or-right in_f in_g (second.1 (w.0, m))
    ])
    (λ h. elim (or-cases in_f in_g h) [
      | inl m ↦ let w = first.0 m in whole.1 (w.0, each w.0 ∙ or-left (within find e (pair w.0 y) f) (within find e (pair w.0 y) g) w.1)
      | inr m ↦ let w = second.0 m in whole.1 (w.0, each w.0 ∙ or-right (within find e (pair w.0 y) f) (within find e (pair w.0 y) g) w.1)
    ])
    ∙ sym (in-union find e (unary Ran f) (unary Ran g) u r y))

pub true-m16 : IsTrueRow m16
true-m16 picks = by_members (built m16 picks) refl (λ find e c t l r s x o.
    let f = picks 0 in
    let part = dom-part-of find e c (unary Inverse f) t l in
    let types = inverse-part find e f t part.0 part.1 in
    let left = in-dom find e c (unary Inverse f) t part.0 part.1 x in
    let right = in-ran find e c f part.0 t types x in
    let turn = λ (y : MathValue). in-inverse find e c f part.0 t types y x in
    both_ways (within find e x (unary Dom (unary Inverse f))) (within find e x (unary Ran f))
    (λ h. let w = left.0 h in right.1 (w.0, sym (turn w.0) ∙ w.1))
    (λ h. let w = right.0 h in left.1 (w.0, turn w.0 ∙ w.1)))

pub true-m17 : IsTrueRow m17
true-m17 picks = by_members (built m17 picks) refl (λ find e c t l r s x o.
    let f = picks 0 in
    let part = ran-part-of find e c (unary Inverse f) t l in
    let types = inverse-part find e f part.0 t part.1 in
    let left = in-ran find e c (unary Inverse f) part.0 t part.1 x in
    let right = in-dom find e c f t part.0 types x in
    let turn = λ (y : MathValue). in-inverse find e c f t part.0 types x y in
    both_ways (within find e x (unary Ran (unary Inverse f))) (within find e x (unary Dom f))
    (λ h. let w = left.0 h in right.1 (w.0, sym (turn w.0) ∙ w.1))
    (λ h. let w = right.0 h in left.1 (w.0, turn w.0 ∙ w.1)))

pub true-m18 : IsTrueRow m18
true-m18 picks = by_members (built m18 picks) refl (λ find e c t l r s x o.
    let a = picks 0 in let f = picks 1 in
    let part = dom-part-of find e c (binary DomRes a f) t l in
    let types = dom-part find e a f t part.0 part.1 in
    let left = in-dom find e c (binary DomRes a f) t part.0 part.1 x in
    let right = in-dom find e c f t part.0 types.1 x in
    let each = λ (y : MathValue). in-dom-res find e a f t part.0 part.1 x y in
    both_ways (within find e x (unary Dom (binary DomRes a f))) (within find e x a && within find e x (unary Dom f))
    (λ h. let w = left.0 h in let k = and-both (within find e (pair x w.0) f) (within find e x a) (sym (each w.0) ∙ w.1) in and-true (within find e x a) (within find e x (unary Dom f)) k.1 (right.1 (w.0, k.0)))
    (λ h. let k = and-both (within find e x a) (within find e x (unary Dom f)) h in let w = right.0 k.1 in left.1 (w.0, each w.0 ∙ and-true (within find e (pair x w.0) f) (within find e x a) w.1 k.0))
    ∙ sym (in-inter find e a (unary Dom f) t r x))

pub true-m19 : IsTrueRow m19
true-m19 picks = by_members (built m19 picks) refl (λ find e c t l r s x o.
    let a = picks 0 in let f = picks 1 in
    let part = dom-part-of find e c (binary DomSub a f) t l in
    let types = dom-part find e a f t part.0 part.1 in
    let left = in-dom find e c (binary DomSub a f) t part.0 part.1 x in
    let right = in-dom find e c f t part.0 types.1 x in
    let each = λ (y : MathValue). in-dom-sub find e a f t part.0 part.1 x y in
    both_ways (within find e x (unary Dom (binary DomSub a f))) (within find e x (unary Dom f) && not (within find e x a))
    (λ h. let w = left.0 h in let k = and-both (within find e (pair x w.0) f) (not (within find e x a)) (sym (each w.0) ∙ w.1) in and-true (within find e x (unary Dom f)) (not (within find e x a)) (right.1 (w.0, k.0)) k.1)
    (λ h. let k = and-both (within find e x (unary Dom f)) (not (within find e x a)) h in let w = right.0 k.0 in left.1 (w.0, each w.0 ∙ and-true (within find e (pair x w.0) f) (not (within find e x a)) w.1 k.1))
    ∙ sym (in-minus find e (unary Dom f) a t r x))

pub true-m20 : IsTrueRow m20
true-m20 picks = by_members (built m20 picks) refl (λ find e c u l r s y o.
    let f = picks 0 in let a = picks 1 in
    let part = ran-part-of find e c (binary RanRes f a) u l in
    let types = ran-part find e f a part.0 u part.1 in
    let left = in-ran find e c (binary RanRes f a) part.0 u part.1 y in
    let right = in-ran find e c f part.0 u types.0 y in
    let each = λ (x : MathValue). in-ran-res find e f a part.0 u part.1 x y in
    both_ways (within find e y (unary Ran (binary RanRes f a))) (within find e y (unary Ran f) && within find e y a)
    (λ h. let w = left.0 h in let k = and-both (within find e (pair w.0 y) f) (within find e y a) (sym (each w.0) ∙ w.1) in and-true (within find e y (unary Ran f)) (within find e y a) (right.1 (w.0, k.0)) k.1)
    (λ h. let k = and-both (within find e y (unary Ran f)) (within find e y a) h in let w = right.0 k.0 in left.1 (w.0, each w.0 ∙ and-true (within find e (pair w.0 y) f) (within find e y a) w.1 k.1))
    ∙ sym (in-inter find e (unary Ran f) a u r y))

pub true-m21 : IsTrueRow m21
true-m21 picks = by_members (built m21 picks) refl (λ find e c u l r s y o.
    let f = picks 0 in let a = picks 1 in
    let part = ran-part-of find e c (binary RanSub f a) u l in
    let types = ran-part find e f a part.0 u part.1 in
    let left = in-ran find e c (binary RanSub f a) part.0 u part.1 y in
    let right = in-ran find e c f part.0 u types.0 y in
    let each = λ (x : MathValue). in-ran-sub find e f a part.0 u part.1 x y in
    both_ways (within find e y (unary Ran (binary RanSub f a))) (within find e y (unary Ran f) && not (within find e y a))
    (λ h. let w = left.0 h in let k = and-both (within find e (pair w.0 y) f) (not (within find e y a)) (sym (each w.0) ∙ w.1) in and-true (within find e y (unary Ran f)) (not (within find e y a)) (right.1 (w.0, k.0)) k.1)
    (λ h. let k = and-both (within find e y (unary Ran f)) (not (within find e y a)) h in let w = right.0 k.0 in left.1 (w.0, each w.0 ∙ and-true (within find e (pair w.0 y) f) (not (within find e y a)) w.1 k.1))
    ∙ sym (in-minus find e (unary Ran f) a u r y))

pub true-m22 : IsTrueRow m22
true-m22 picks = by_members (built m22 picks) refl (λ find e c t l r s x o.
    let f = picks 0 in let g = picks 1 in
    let part = dom-part-of find e c (binary Over f g) t l in
    let types = two-relations find e f g t part.0 part.1 in
    let whole = in-dom find e c (binary Over f g) t part.0 part.1 x in
    let first = in-dom find e c f t part.0 types.0 x in
    let second = in-dom find e c g t part.0 types.1 x in
    let each = λ (y : MathValue). in-over find e c f g t part.0 part.1 x y in
    let in_f = within find e x (unary Dom f) in
    let in_g = within find e x (unary Dom g) in
    both_ways (within find e x (unary Dom (binary Over f g))) (in_f || in_g)
    (λ h. let w = whole.0 h in elim (or-cases (within find e (pair x w.0) f && not in_g) (within find e (pair x w.0) g) (sym (each w.0) ∙ w.1)) [
      | inl m ↦ or-left in_f in_g (first.1 (w.0, (and-both (within find e (pair x w.0) f) (not in_g) m).0))
      | inr m ↦ or-right in_f in_g (second.1 (w.0, m))
    ])
    (λ h. elim (or-either in_f in_g h) [
      | inl m ↦ let w = second.0 m in whole.1 (w.0, each w.0 ∙ or-right (within find e (pair x w.0) f && not in_g) (within find e (pair x w.0) g) w.1)
      | inr m ↦ let w = first.0 m.0 in whole.1 (w.0, each w.0 ∙ or-left (within find e (pair x w.0) f && not in_g) (within find e (pair x w.0) g) (and-true (within find e (pair x w.0) f) (not in_g) w.1 m.1))
    ])
    ∙ sym (in-union find e (unary Dom f) (unary Dom g) t r x))

pub true-m23 : IsTrueRow m23
true-m23 picks = by_truth (built m23 picks) refl (λ find e c l r s.
    let f = picks 0 in let g = picks 1 in let a = picks 2 in
    let k = in-power-parts find e (unary Ran (binary Over f g)) a l in
    let u = k.0 in
    let part = ran-part-of find e c (binary Over f g) u k.1 in
    let types = two-relations find e f g part.0 u part.1 in
    let from-f = (in-power find e c (unary Ran f) a u (ap (unary_role Ran) types.0)).0 s.1 in
    let from-g = (in-power find e c (unary Ran g) a u (ap (unary_role Ran) types.1)).0 s.2.1 in
    (in-power find e c (unary Ran (binary Over f g)) a u k.1).1 (λ y h.
    let w = (in-ran find e c (binary Over f g) part.0 u part.1 y).0 h in
    let in_f = within find e (pair w.0 y) f in
    let outside = not (within find e w.0 (unary Dom g)) in
    elim (or-cases (in_f && outside) (within find e (pair w.0 y) g) (sym (in-over find e c f g part.0 u part.1 w.0 y) ∙ w.1)) [
      | inl m ↦ from-f y ((in-ran find e c f part.0 u types.0 y).1 (w.0, (and-both in_f outside m).0))
      | inr m ↦ from-g y ((in-ran find e c g part.0 u types.1 y).1 (w.0, m))
    ]))

pub true-m24 : IsTrueRow m24
true-m24 picks = by_members (built m24 picks) refl (λ find e c t l r s x o.
    let a = picks 0 in
    let part = dom-part-of find e c (unary Id a) t l in
    let types = id-part find e a t part.0 part.1 in
    let left = in-dom find e c (unary Id a) t part.0 part.1 x in
    both_ways (within find e x (unary Dom (unary Id a))) (within find e x a)
    (λ h. let w = left.0 h in ((in-id find e c a t types.0 x w.0).0 w.1).0)
    (λ h. left.1 (x, (in-id find e c a t types.0 x x).1 (h, refl))))

pub true-m25 : IsTrueRow m25
true-m25 picks = by_members (built m25 picks) refl (λ find e c t l r s x o.
    let a = picks 0 in let b = picks 1 in
    let part = dom-part-of find e c (binary Times a b) t l in
    let types = product-part find e a b t part.0 part.1 in
    let left = in-dom find e c (binary Times a b) t part.0 part.1 x in
    let some = some-in find e c b part.0 types.1 s.1 in
    both_ways (within find e x (unary Dom (binary Times a b))) (within find e x a)
    (λ h. let w = left.0 h in (and-both (within find e x a) (within find e w.0 b) w.1).0)
    (λ h. left.1 (some.0, and-true (within find e x a) (within find e some.0 b) h some.1)))

pub true-m26 : IsTrueRow m26
true-m26 picks = by_members (built m26 picks) refl (λ find e c u l r s y o.
    let a = picks 0 in let b = picks 1 in
    let part = ran-part-of find e c (binary Times a b) u l in
    let types = product-part find e a b part.0 u part.1 in
    let left = in-ran find e c (binary Times a b) part.0 u part.1 y in
    let some = some-in find e c a part.0 types.0 s.1 in
    both_ways (within find e y (unary Ran (binary Times a b))) (within find e y b)
    (λ h. let w = left.0 h in (and-both (within find e w.0 a) (within find e y b) w.1).1)
    (λ h. left.1 (some.0, and-true (within find e some.0 a) (within find e y b) some.1 h)))
