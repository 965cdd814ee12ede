-- The rows of what is a function again.
use Rattle.std.proofs.Common.{◌≡◌, refl, sym, ◌∙◌, ap, subst, true, ◌&&◌, not, inl, inr}
use Rattle.bk_val.specs.Value.{MathValue, pair, set, none}
use Rattle.bk_val.specs.ValueType.{pair_type}
use Rattle.bk_val.specs.Sets.{second_of}
use Rattle.bk_val.specs.CmpLaws.{same_value}
use Rattle.bk_form.specs.Formula.{unary, binary, empty_set}
use Rattle.bk_form.specs.Environment.{bound_types}
use Rattle.bk_form.specs.Role.{role, unary_role}
use Rattle.bk_form.specs.Operators.{is_element, first_part}
use Rattle.bk_form.specs.Meaning.{value, within, truth}
use Rattle.bk_form.specs.declared.operator.UnOp.TheVariants.{Single, Dom, Ran}
use Rattle.bk_form.specs.declared.operator.BinOp.TheVariants.{Union, Inter, In, Maps, DomRes, Over, PartialFunctions, Times, DomSub}
use Rattle.bk_form.proofs.Members.{both_ways, and-both, and-true, or-cases}
use Rattle.bk_form.proofs.ArrowMembers.{arrow-in-parts, update-cases, total-means, update-new, update-old, partial-means}
use Rattle.bk_form.proofs.SetMembers.{two-relations, in-over, in-dom, in-single, dom-part, in-dom-res, in-dom-sub, two-sets, in-inter, in-union, in-power, in-ran}
use Rattle.bk_form.proofs.RoleParts.{equality-parts}
use Rattle.bk_form.proofs.Forms.{set-form}
use Rattle.bk_laws.specs.Laws.{IsTrueRow}
use Rattle.bk_laws.specs.Rows.{built}
use Rattle.bk_laws.specs.Patterns.{empty_type}
use Rattle.bk_laws.proofs.ByForm.{by_truth}
use Rattle.bk_laws.proofs.Truths.{apart}
use Rattle.bk_laws_fun.specs.Functions.{m58, m59, m60, m61, m62, m63, m64, m65}
use Rattle.bk_laws_fun.proofs.Parts.{same-or-not, gives-typed}
use Rattle.bk_laws_fun.proofs.Truths.{not-both, one-truth}

pub true-m58 : IsTrueRow m58
true-m58 picks = by_truth (built m58 picks) refl (λ find e c l r s.
    let f = picks 0 in let x = picks 1 in let y = picks 2 in let a = picks 3 in let b = picks 4 in
    let vx = value find e x in let vy = value find e y in
    let k = arrow-in-parts find e (binary Over f (unary Single (binary Maps x y))) a b l in
    let t = k.0 in let u = k.1 in
    let cases = update-cases find e c f x y t u k.2 in
    let old = (total-means find e c f t u (two-relations find e f (unary Single (binary Maps x y)) t u k.2).0 a b k.3).0 s.1 in
    (total-means find e c (binary Over f (unary Single (binary Maps x y))) t u k.2 a b k.3).1 (
      (λ v w h. elim (cases v w h) [
        | inl m ↦ old.0 v w m.1
        | inr m ↦ (subst (λ z. within find e z a ≡ true) (sym m.0) s.2.1, subst (λ z. within find e z b ≡ true) (sym m.1) s.2.2.1)
      ]),
      (λ v w z h g. elim (cases v w h) [
        | inl m ↦ elim (cases v z g) [ inl n ↦ old.1 v w z m.1 n.1 | inr n ↦ absurd (m.0 n.0) ]
        | inr m ↦ elim (cases v z g) [ inl n ↦ absurd (n.0 m.0) | inr n ↦ m.1 ∙ sym n.1 ]
      ]),
      (λ v o m. elim (same-or-not v vx) [
        | inl q ↦ (vy, subst (λ z. within find e (pair z vy) (binary Over f (unary Single (binary Maps x y))) ≡ true) (sym q) (update-new find e c f x y t u k.2))
        | inr q ↦ let w = old.2 v o m in (w.0, update-old find e c f x y t u k.2 v w.0 q w.1)
      ]),
    ))

pub true-m59 : IsTrueRow m59
true-m59 picks = by_truth (built m59 picks) refl (λ find e c l r s.
    let f = picks 0 in let g = picks 1 in let a = picks 2 in let b = picks 3 in
    let k = arrow-in-parts find e (binary Over f g) a b l in
    let t = k.0 in let u = k.1 in
    let types = two-relations find e f g t u k.2 in
    let pf = (partial-means find e c f t u types.0 a b).0 s.1 in
    let pg = (partial-means find e c g t u types.1 a b).0 s.2.1 in
    let outside = λ (x : MathValue). not (within find e x (unary Dom g)) in
    let cases = λ (x y : MathValue) (h : within find e (pair x y) (binary Over f g) ≡ true). or-cases (within find e (pair x y) f && outside x) (within find e (pair x y) g) (sym (in-over find e c f g t u k.2 x y) ∙ h) in
    let old = λ (x y : MathValue) (h : (within find e (pair x y) f && outside x) ≡ true). and-both (within find e (pair x y) f) (outside x) h in
    let clash = λ (x y z : MathValue) (h : (within find e (pair x y) f && outside x) ≡ true) (n : within find e (pair x z) g ≡ true). not-both (within find e x (unary Dom g)) ((in-dom find e c g t u types.1 x).1 (z, n)) (old x y h).1 in
    (partial-means find e c (binary Over f g) t u k.2 a b).1 (
      (λ x y h. elim (cases x y h) [ inl m ↦ pf.0 x y (old x y m).0 | inr m ↦ pg.0 x y m ]),
      (λ x y z h n. elim (cases x y h) [
        | inl m ↦ elim (cases x z n) [ inl o ↦ pf.1 x y z (old x y m).0 (old x z o).0 | inr o ↦ absurd (clash x y z m o) ]
        | inr m ↦ elim (cases x z n) [ inl o ↦ absurd (clash x z y o m) | inr o ↦ pg.1 x y z m o ]
      ]),
    ))

pub true-m60 : IsTrueRow m60
true-m60 picks = by_truth (built m60 picks) refl (λ find e c l r s.
    let a = picks 0 in let y = picks 1 in let b = picks 2 in
    let vy = value find e y in
    let f = binary Times a (unary Single y) in
    let k = arrow-in-parts find e f a b l in
    let ends = λ (v w : MathValue) (h : within find e (pair v w) f ≡ true). (in-single find e c y w).0 (and-both (within find e v a) (within find e w (unary Single y)) h).1 in
    (total-means find e c f k.0 k.1 k.2 a b k.3).1 (
      (λ v w h. ((and-both (within find e v a) (within find e w (unary Single y)) h).0, subst (λ z. within find e z b ≡ true) (sym (ends v w h)) s.1)),
      (λ v w z h n. ends v w h ∙ sym (ends v z n)),
      (λ v o m. (vy, and-true (within find e v a) (within find e vy (unary Single y)) m ((in-single find e c y vy).1 refl))),
    ))

pub true-m61 : IsTrueRow m61
true-m61 picks = by_truth (built m61 picks) refl (λ find e c l r s.
    let d = picks 0 in let f = picks 1 in let a = picks 2 in let b = picks 3 in
    let k = arrow-in-parts find e (binary DomRes d f) a b l in
    let t = k.0 in let u = k.1 in
    let p = (partial-means find e c f t u (dom-part find e d f t u k.2).1 a b).0 s.1 in
    let old = λ (x y : MathValue) (h : within find e (pair x y) (binary DomRes d f) ≡ true). (and-both (within find e (pair x y) f) (within find e x d) (sym (in-dom-res find e d f t u k.2 x y) ∙ h)).0 in
    (partial-means find e c (binary DomRes d f) t u k.2 a b).1 (
      (λ x y h. p.0 x y (old x y h)),
      (λ x y z h n. p.1 x y z (old x y h) (old x z n)),
    ))

pub true-m62 : IsTrueRow m62
true-m62 picks = by_truth (built m62 picks) refl (λ find e c l r s.
    let d = picks 0 in let f = picks 1 in let a = picks 2 in let b = picks 3 in
    let k = arrow-in-parts find e (binary DomSub d f) a b l in
    let t = k.0 in let u = k.1 in
    let p = (partial-means find e c f t u (dom-part find e d f t u k.2).1 a b).0 s.1 in
    let old = λ (x y : MathValue) (h : within find e (pair x y) (binary DomSub d f) ≡ true). (and-both (within find e (pair x y) f) (not (within find e x d)) (sym (in-dom-sub find e d f t u k.2 x y) ∙ h)).0 in
    (partial-means find e c (binary DomSub d f) t u k.2 a b).1 (
      (λ x y h. p.0 x y (old x y h)),
      (λ x y z h n. p.1 x y z (old x y h) (old x z n)),
    ))

pub true-m63 : IsTrueRow m63
true-m63 picks = by_truth (built m63 picks) refl (λ find e c l r s.
    let f = picks 0 in let g = picks 1 in let a = picks 2 in let b = picks 3 in
    let k = arrow-in-parts find e (binary Union f g) a b l in
    let t = k.0 in let u = k.1 in
    let types = two-sets find e f g (pair_type t u) k.2 in
    let pf = (partial-means find e c f t u types.0 a b).0 s.1 in
    let pg = (partial-means find e c g t u types.1 a b).0 s.2.1 in
    let both = binary Inter (unary Dom f) (unary Dom g) in
    let q = equality-parts (role e.table (bound_types e) both) (role e.table (bound_types e) (empty_set (empty_type (picks 4)))) s.2.2.0 in
    let w = set-form e both refl (gives-typed (role e.table (bound_types e) both) q.0 q.1) in
    let none-in = λ (x : MathValue). sym (in-inter find e (unary Dom f) (unary Dom g) w.0 w.1 x) ∙ ap (is_element x) (same_value (value find e both) (set none) s.2.2.1) in
    let cases = λ (x y : MathValue) (h : within find e (pair x y) (binary Union f g) ≡ true). or-cases (within find e (pair x y) f) (within find e (pair x y) g) (sym (in-union find e f g (pair_type t u) k.2 (pair x y)) ∙ h) in
    let clash = λ (x y z : MathValue) (h : within find e (pair x y) f ≡ true) (n : within find e (pair x z) g ≡ true).
    let no = apart (within find e x (unary Dom f)) (within find e x (unary Dom g)) (none-in x) ((in-dom find e c f t u types.0 x).1 (y, h)) in
    one-truth (within find e x (unary Dom g)) ((in-dom find e c g t u types.1 x).1 (z, n)) no in
    (partial-means find e c (binary Union f g) t u k.2 a b).1 (
      (λ x y h. elim (cases x y h) [ inl m ↦ pf.0 x y m | inr m ↦ pg.0 x y m ]),
      (λ x y z h n. elim (cases x y h) [
        | inl m ↦ elim (cases x z n) [ inl o ↦ pf.1 x y z m o | inr o ↦ absurd (clash x y z m o) ]
        | inr m ↦ elim (cases x z n) [ inl o ↦ absurd (clash x z y o m) | inr o ↦ pg.1 x y z m o ]
      ]),
    ))

pub true-m64 : IsTrueRow m64
true-m64 picks = by_truth (built m64 picks) refl (λ find e c l r s.
    let x = picks 0 in let y = picks 1 in let a = picks 2 in let b = picks 3 in
    let vx = value find e x in let vy = value find e y in
    let f = unary Single (binary Maps x y) in
    let k = arrow-in-parts find e f a b l in
    let p = partial-means find e c f k.0 k.1 k.2 a b in
    let is = λ (v w : MathValue). in-single find e c (binary Maps x y) (pair v w) in
    both_ways (truth find e (binary In f (binary PartialFunctions a b))) (within find e vx a && within find e vy b)
    (λ h. let m = (p.0 h).0 vx vy ((is vx vy).1 refl) in and-true (within find e vx a) (within find e vy b) m.0 m.1)
    (λ h.
    let m = and-both (within find e vx a) (within find e vy b) h in
    p.1 (
      (λ v w n. let q = (is v w).0 n in (subst (λ z. within find e z a ≡ true) (sym (ap first_part q)) m.0, subst (λ z. within find e z b ≡ true) (sym (ap second_of q)) m.1)),
      (λ v w z n o. ap second_of ((is v w).0 n) ∙ sym (ap second_of ((is v z).0 o))),
    )))

pub true-m65 : IsTrueRow m65
true-m65 picks = by_truth (built m65 picks) refl (λ find e c l r s.
    let f = picks 0 in let d = picks 1 in let b = picks 2 in let a = picks 3 in
    let k = arrow-in-parts find e f d b l in
    let old = (total-means find e c f k.0 k.1 k.2 d a k.3).0 s.1 in
    let ends = (in-power find e c (unary Ran f) b k.1 (ap (unary_role Ran) k.2)).0 s.2.1 in
    (total-means find e c f k.0 k.1 k.2 d b k.3).1 (
      (λ x y h. ((old.0 x y h).0, ends y ((in-ran find e c f k.0 k.1 k.2 y).1 (x, h)))),
      old.1,
      old.2,
    ))
