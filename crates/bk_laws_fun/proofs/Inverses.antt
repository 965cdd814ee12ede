-- The rows of inverses and compositions.
use Rattle.std.proofs.Common.{refl, sym, ◌∙◌, ◌||◌}
use Rattle.bk_val.specs.Value.{MathValue, pair}
use Rattle.bk_val.specs.ValueType.{pair_type}
use Rattle.bk_form.specs.Formula.{unary, binary}
use Rattle.bk_form.specs.Meaning.{within}
use Rattle.bk_form.specs.declared.operator.UnOp.TheVariants.{Inverse}
use Rattle.bk_form.specs.declared.operator.BinOp.TheVariants.{Union, Comp}
use Rattle.bk_form.proofs.Members.{both_ways}
use Rattle.bk_form.proofs.SetMembers.{in-inverse, two-sets, in-union, comp-parts, in-comp}
use Rattle.bk_laws.specs.Laws.{IsTrueRow}
use Rattle.bk_laws.specs.Rows.{built}
use Rattle.bk_laws.proofs.ByForm.{by_pairs}
use Rattle.bk_laws_fun.specs.Relations.{m27, m28, m29, m30}
use Rattle.bk_laws_fun.proofs.Parts.{inverse-part}

pub true-m27 : IsTrueRow m27
true-m27 picks = by_pairs (built m27 picks) refl refl (λ find e c t u l r s x y.
    let f = picks 0 in
    in-inverse find e c (unary Inverse f) u t (inverse-part find e (unary Inverse f) t u l) y x ∙ in-inverse find e c f t u r x y)

pub true-m28 : IsTrueRow m28
true-m28 picks = by_pairs (built m28 picks) refl refl (λ find e c t u l r s x y.
    let f = picks 0 in let g = picks 1 in
    let types = inverse-part find e (binary Union f g) t u l in
    let two = two-sets find e f g (pair_type u t) types in
    in-inverse find e c (binary Union f g) u t types y x
    ∙ in-union find e f g (pair_type u t) types (pair y x)
    ∙ (λ i. sym (in-inverse find e c f u t two.0 y x) i || sym (in-inverse find e c g u t two.1 y x) i)
    ∙ sym (in-union find e (unary Inverse f) (unary Inverse g) (pair_type t u) r (pair x y)))

pub true-m29 : IsTrueRow m29
true-m29 picks = by_pairs (built m29 picks) refl refl (λ find e c t u l r s x z.
    let f = picks 0 in let g = picks 1 in
    let types = inverse-part find e (binary Comp f g) t u l in
    let parts = comp-parts find e c f g u t types in
    let left = in-comp find e c f g u t types z x in
    let right = in-comp find e c (unary Inverse g) (unary Inverse f) t u r x z in
    let turn-f = λ (y : MathValue). in-inverse find e c f u parts.0 parts.1 z y in
    let turn-g = λ (y : MathValue). in-inverse find e c g parts.0 t parts.2 y x in
    in-inverse find e c (binary Comp f g) u t types z x
    ∙ both_ways (within find e (pair z x) (binary Comp f g)) (within find e (pair x z) (binary Comp (unary Inverse g) (unary Inverse f)))
    (λ h. let w = left.0 h in right.1 (w.0, turn-g w.0 ∙ w.2, turn-f w.0 ∙ w.1))
    (λ h. let w = right.0 h in left.1 (w.0, sym (turn-f w.0) ∙ w.2, sym (turn-g w.0) ∙ w.1)))

pub true-m30 : IsTrueRow m30
true-m30 picks = by_pairs (built m30 picks) refl refl (λ find e c t u l r s x z.
    let f = picks 0 in let g = picks 1 in let h = picks 2 in
    let a = comp-parts find e c (binary Comp f g) h t u l in
    let b = comp-parts find e c f (binary Comp g h) t u r in
    let left = in-comp find e c (binary Comp f g) h t u l x z in
    let right = in-comp find e c f (binary Comp g h) t u r x z in
    let first = λ (y : MathValue). in-comp find e c f g t a.0 a.1 x y in
    let second = λ (y : MathValue). in-comp find e c g h b.0 u b.2 y z in
    both_ways (within find e (pair x z) (binary Comp (binary Comp f g) h)) (within find e (pair x z) (binary Comp f (binary Comp g h)))
    (λ k. let w = left.0 k in let v = (first w.0).0 w.1 in right.1 (v.0, v.1, (second v.0).1 (w.0, v.2, w.2)))
    (λ k. let w = right.0 k in let v = (second w.0).0 w.2 in left.1 (v.0, (first v.0).1 (w.0, w.1, v.1), v.2)))
