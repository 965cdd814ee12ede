-- The rows of what a function gives.
use Rattle.std.proofs.Common.{◌≡◌, refl, sym, ◌∙◌, ap, subst, true, false, not, inl, inr}
use Rattle.bk_val.specs.Value.{MathValue, pair}
use Rattle.bk_val.specs.ValueType.{pair_type}
use Rattle.bk_val.specs.CmpLaws.{same_value, value_eq-self}
use Rattle.bk_form.specs.Formula.{unary, binary}
use Rattle.bk_form.specs.Environment.{bound_types}
use Rattle.bk_form.specs.Role.{role, gives}
use Rattle.bk_form.specs.Operators.{is_equal}
use Rattle.bk_form.specs.Meaning.{value, within, truth}
use Rattle.bk_form.specs.declared.operator.UnOp.TheVariants.{Single, Dom, Id}
use Rattle.bk_form.specs.declared.operator.BinOp.TheVariants.{Union, Maps, DomRes, Over, Comp, Eq, Apply, Times}
use Rattle.bk_form.specs.Settings.{GivesIn}
use Rattle.bk_form.proofs.Members.{both_ways, and-both, and-true}
use Rattle.bk_form.proofs.Valued.{sound_typing}
use Rattle.bk_form.proofs.ArrowMembers.{arrow-in-parts, partial-means, apply-means, total-means, update-new, update-cases, update-old}
use Rattle.bk_form.proofs.SetMembers.{in-parts, in-dom, two-relations, in-over, two-sets, in-union, dom-part, in-dom-res, in-single, in-id, comp-parts, in-comp}
use Rattle.bk_form.proofs.RoleParts.{application-parts}
use Rattle.bk_laws.specs.Laws.{IsTrueRow}
use Rattle.bk_laws.specs.Rows.{built}
use Rattle.bk_laws.proofs.ByForm.{by_truth, by_value}
use Rattle.bk_laws_fun.specs.Functions.{m46, m47, m48, m49, m50, m51, m52, m53, m54, m55, m56, m57}
use Rattle.bk_laws_fun.proofs.Parts.{one-over, id-part}
use Rattle.bk_laws_fun.proofs.Applications.{apply-same}
use Rattle.bk_laws_fun.proofs.Truths.{over-new, over-old, or-old, and-one}

pub true-m46 : IsTrueRow m46
true-m46 picks = by_truth (built m46 picks) refl (λ find e c l r s.
    let f = picks 0 in let x = picks 1 in let b = picks 2 in let a = picks 3 in
    let vx = value find e x in
    let k = arrow-in-parts find e f a b s.0 in
    let p = (partial-means find e c f k.0 k.1 k.2 a b).0 s.1 in
    let w = (in-dom find e c f k.0 k.1 k.2 vx).0 s.2.1 in
    let is = apply-means find e c f k.0 k.1 k.2 x w.0 w.1 (λ z h. p.1 vx z w.0 h w.1) in
    subst (λ z. within find e z b ≡ true) (sym is) (p.0 vx w.0 w.1).1)

pub true-m47 : IsTrueRow m47
true-m47 picks = by_truth (built m47 picks) refl (λ find e c l r s.
    let f = picks 0 in let x = picks 1 in let y = picks 2 in let a = picks 3 in let b = picks 4 in
    let k = arrow-in-parts find e f a b s.0 in
    let once = ((partial-means find e c f k.0 k.1 k.2 a b).0 s.1).1 in
    let w = (in-dom find e c f k.0 k.1 k.2 (value find e x)).0 s.2.1 in
    let is = apply-means find e c f k.0 k.1 k.2 x w.0 w.1 (λ z h. once (value find e x) z w.0 h w.1) in
    both_ways (truth find e (binary Eq (binary Apply f x) y)) (within find e (value find e (binary Maps x y)) f)
    (λ h. subst (λ z. within find e (pair (value find e x) z) f ≡ true) (sym is ∙ same_value (value find e (binary Apply f x)) (value find e y) h) w.1)
    (λ h. subst (λ z. is_equal (value find e (binary Apply f x)) z ≡ true) (is ∙ once (value find e x) w.0 (value find e y) w.1 h) (value_eq-self (value find e (binary Apply f x)))))

pub true-m48 : IsTrueRow m48
true-m48 picks = by_truth (built m48 picks) refl (λ find e c l r s.
    let f = picks 0 in let x = picks 1 in let b = picks 2 in let a = picks 3 in
    let vx = value find e x in
    let k = arrow-in-parts find e f a b s.0 in
    let p = (total-means find e c f k.0 k.1 k.2 a b k.3).0 s.1 in
    let q = in-parts find e x a s.2.0 in
    let types : GivesIn e x k.0 = q.1 ∙ ap gives (one-over (role e.table (bound_types e) a) q.0 k.0 q.2 k.3) in
    let w = p.2 vx (sound_typing.typed find e c.well c.typed x k.0 types) s.2.1 in
    let is = apply-means find e c f k.0 k.1 k.2 x w.0 w.1 (λ z h. p.1 vx z w.0 h w.1) in
    subst (λ z. within find e z b ≡ true) (sym is) (p.0 vx w.0 w.1).1)

pub true-m49 : IsTrueRow m49
true-m49 picks = by_value (built m49 picks) refl (λ find e c t l r s.
    let f = picks 0 in let x = picks 1 in let y = picks 2 in
    let after = binary Over f (unary Single (binary Maps x y)) in
    let k = application-parts (role e.table (bound_types e) after) (role e.table (bound_types e) x) t l in
    apply-means find e c after k.0 t k.1 x (value find e y) (update-new find e c f x y k.0 t k.1)
    (λ z h. elim (update-cases find e c f x y k.0 t k.1 (value find e x) z h) [ inl w ↦ absurd (w.0 refl) | inr w ↦ w.1 ]))

pub true-m50 : IsTrueRow m50
true-m50 picks = by_value (built m50 picks) refl (λ find e c t l r s.
    let f = picks 0 in let x = picks 1 in let y = picks 2 in let z = picks 3 in
    let after = binary Over f (unary Single (binary Maps x y)) in
    let k = application-parts (role e.table (bound_types e) after) (role e.table (bound_types e) z) t l in
    let old = two-relations find e f (unary Single (binary Maps x y)) k.0 t k.1 in
    let other = λ (h : value find e z ≡ value find e x). not-equal (value find e z) (value find e x) s.1 h in
    apply-same find e c after z f z k.0 k.0 t k.1 old.0 l r (λ v. both_ways (within find e (pair (value find e z) v) after) (within find e (pair (value find e z) v) f)
    (λ h. elim (update-cases find e c f x y k.0 t k.1 (value find e z) v h) [ inl m ↦ m.1 | inr m ↦ absurd (other m.0) ])
    (λ h. update-old find e c f x y k.0 t k.1 (value find e z) v other h)))
  where
    not-equal : (v w : MathValue) → not (is_equal v w) ≡ true → v ≡ w → ⊥
    not-equal v w h q = let p : true ≡ false = sym h ∙ ap not (subst (λ u. is_equal v u ≡ true) q (value_eq-self v)) in cc

pub true-m51 : IsTrueRow m51
true-m51 picks = by_value (built m51 picks) refl (λ find e c t l r s.
    let f = picks 0 in let g = picks 1 in let x = picks 2 in
    let vx = value find e x in
    let k = application-parts (role e.table (bound_types e) (binary Over f g)) (role e.table (bound_types e) x) t l in
    let types = two-relations find e f g k.0 t k.1 in
    apply-same find e c (binary Over f g) x g x k.0 k.0 t k.1 types.1 l r (λ z.
    in-over find e c f g k.0 t k.1 vx z ∙ over-new (within find e (pair vx z) f) (within find e vx (unary Dom g)) (within find e (pair vx z) g) s.1))

pub true-m52 : IsTrueRow m52
true-m52 picks = by_value (built m52 picks) refl (λ find e c t l r s.
    let f = picks 0 in let g = picks 1 in let x = picks 2 in
    let vx = value find e x in
    let k = application-parts (role e.table (bound_types e) (binary Over f g)) (role e.table (bound_types e) x) t l in
    let types = two-relations find e f g k.0 t k.1 in
    apply-same find e c (binary Over f g) x f x k.0 k.0 t k.1 types.0 l r (λ z.
    in-over find e c f g k.0 t k.1 vx z ∙ over-old (within find e (pair vx z) f) (within find e vx (unary Dom g)) (within find e (pair vx z) g) s.1 (λ h. (in-dom find e c g k.0 t types.1 vx).1 (z, h))))

pub true-m53 : IsTrueRow m53
true-m53 picks = by_value (built m53 picks) refl (λ find e c t l r s.
    let f = picks 0 in let g = picks 1 in let x = picks 2 in
    let vx = value find e x in
    let k = application-parts (role e.table (bound_types e) (binary Union f g)) (role e.table (bound_types e) x) t l in
    let types = two-sets find e f g (pair_type k.0 t) k.1 in
    apply-same find e c (binary Union f g) x f x k.0 k.0 t k.1 types.0 l r (λ z.
    in-union find e f g (pair_type k.0 t) k.1 (pair vx z) ∙ or-old (within find e (pair vx z) f) (within find e vx (unary Dom g)) (within find e (pair vx z) g) s.1 (λ h. (in-dom find e c g k.0 t types.1 vx).1 (z, h))))

pub true-m54 : IsTrueRow m54
true-m54 picks = by_value (built m54 picks) refl (λ find e c t l r s.
    let a = picks 0 in let f = picks 1 in let x = picks 2 in
    let vx = value find e x in
    let k = application-parts (role e.table (bound_types e) (binary DomRes a f)) (role e.table (bound_types e) x) t l in
    let types = dom-part find e a f k.0 t k.1 in
    apply-same find e c (binary DomRes a f) x f x k.0 k.0 t k.1 types.1 l r (λ z.
    in-dom-res find e a f k.0 t k.1 vx z ∙ and-one (within find e (pair vx z) f) (within find e vx a) s.1))

pub true-m55 : IsTrueRow m55
true-m55 picks = by_value (built m55 picks) refl (λ find e c t l r s.
    let a = picks 0 in let y = picks 1 in let x = picks 2 in
    let vx = value find e x in let vy = value find e y in
    let f = binary Times a (unary Single y) in
    let k = application-parts (role e.table (bound_types e) f) (role e.table (bound_types e) x) t l in
    apply-means find e c f k.0 t k.1 x vy
    (and-true (within find e vx a) (within find e vy (unary Single y)) s.1 ((in-single find e c y vy).1 refl))
    (λ z h. (in-single find e c y z).0 (and-both (within find e vx a) (within find e z (unary Single y)) h).1))

pub true-m56 : IsTrueRow m56
true-m56 picks = by_value (built m56 picks) refl (λ find e c t l r s.
    let a = picks 0 in let x = picks 1 in
    let vx = value find e x in
    let k = application-parts (role e.table (bound_types e) (unary Id a)) (role e.table (bound_types e) x) t l in
    let types = (id-part find e a k.0 t k.1).0 in
    apply-means find e c (unary Id a) k.0 t k.1 x vx
    ((in-id find e c a k.0 types vx vx).1 (s.1, refl))
    (λ z h. sym ((in-id find e c a k.0 types vx z).0 h).1))

pub true-m57 : IsTrueRow m57
true-m57 picks = by_value (built m57 picks) refl (λ find e c t l r s.
    let f = picks 0 in let g = picks 1 in let x = picks 2 in
    let k = application-parts (role e.table (bound_types e) (binary Comp f g)) (role e.table (bound_types e) x) t l in
    let q = comp-parts find e c f g k.0 t k.1 in
    let once = ((partial-means find e c f k.0 q.0 q.1 (picks 3) (picks 4)).0 s.1).1 in
    let w = (in-dom find e c f k.0 q.0 q.1 (value find e x)).0 s.2.1 in
    let is = apply-means find e c f k.0 q.0 q.1 x w.0 w.1 (λ z h. once (value find e x) z w.0 h w.1) in
    apply-same find e c (binary Comp f g) x g (binary Apply f x) k.0 q.0 t k.1 q.2 l r (λ z.
    let comp = in-comp find e c f g k.0 t k.1 (value find e x) z in
    both_ways (within find e (pair (value find e x) z) (binary Comp f g)) (within find e (pair (value find e (binary Apply f x)) z) g)
    (λ h. let m = comp.0 h in subst (λ y. within find e (pair y z) g ≡ true) (once (value find e x) m.0 w.0 m.1 w.1 ∙ sym is) m.2)
    (λ h. comp.1 (w.0, w.1, subst (λ y. within find e (pair y z) g ≡ true) is h))))
