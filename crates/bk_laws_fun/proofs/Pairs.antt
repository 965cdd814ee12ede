-- The rows of pairs in a relation.
use Rattle.std.proofs.Common.{refl, ◌∙◌, subst, ◌&&◌, not}
use Rattle.bk_val.specs.Value.{pair}
use Rattle.bk_val.specs.ValueType.{set_type}
use Rattle.bk_val.specs.CmpLaws.{same_value}
use Rattle.bk_form.specs.Formula.{unary, binary}
use Rattle.bk_form.specs.Environment.{bound_types}
use Rattle.bk_form.specs.Role.{role}
use Rattle.bk_form.specs.Operators.{is_equal}
use Rattle.bk_form.specs.Meaning.{value, within}
use Rattle.bk_form.specs.declared.operator.UnOp.TheVariants.{Dom, Ran, Id, Inverse}
use Rattle.bk_form.specs.declared.operator.BinOp.TheVariants.{Maps, DomRes, Over, DomSub, RanRes, RanSub}
use Rattle.bk_form.specs.Settings.{GivesIn}
use Rattle.bk_form.proofs.Members.{both_ways, and-both, and-true}
use Rattle.bk_form.proofs.SetMembers.{in-inverse, in-dom, in-dom-res, in-dom-sub, in-ran, in-ran-res, in-ran-sub, in-id, in-set-parts, in-over, dom-part-of, ran-part-of}
use Rattle.bk_form.proofs.RoleParts.{pair-parts}
use Rattle.bk_laws.specs.Laws.{IsTrueRow}
use Rattle.bk_laws.specs.Rows.{built}
use Rattle.bk_laws.proofs.ByForm.{by_truth}
use Rattle.bk_laws.proofs.Truths.{and-swap, or-swap}
use Rattle.bk_laws_fun.specs.Relations.{m1, m2, m3, m4, m5, m6, m7, m8, m9}
use Rattle.bk_laws_fun.proofs.Parts.{pair-in, inverse-part, id-part, equal-if}

pub true-m1 : IsTrueRow m1
true-m1 picks = by_truth (built m1 picks) refl (λ find e c l r s.
    let x = picks 0 in let y = picks 1 in let f = picks 2 in
    let k = pair-in find e x y (unary Inverse f) refl l in
    in-inverse find e c f k.1 k.0 (inverse-part find e f k.0 k.1 k.4) (value find e y) (value find e x))

pub true-m2 : IsTrueRow m2
true-m2 picks = by_truth (built m2 picks) refl (λ find e c l r s.
    let x = picks 0 in let y = picks 1 in let a = picks 2 in let f = picks 3 in
    let k = pair-in find e x y (binary DomRes a f) refl l in
    in-dom-res find e a f k.0 k.1 k.4 (value find e x) (value find e y)
    ∙ and-swap (within find e (pair (value find e x) (value find e y)) f) (within find e (value find e x) a))

pub true-m3 : IsTrueRow m3
true-m3 picks = by_truth (built m3 picks) refl (λ find e c l r s.
    let x = picks 0 in let y = picks 1 in let a = picks 2 in let f = picks 3 in
    let k = pair-in find e x y (binary DomSub a f) refl l in
    in-dom-sub find e a f k.0 k.1 k.4 (value find e x) (value find e y)
    ∙ and-swap (within find e (pair (value find e x) (value find e y)) f) (not (within find e (value find e x) a)))

pub true-m4 : IsTrueRow m4
true-m4 picks = by_truth (built m4 picks) refl (λ find e c l r s.
    let x = picks 0 in let y = picks 1 in let f = picks 2 in let a = picks 3 in
    let k = pair-in find e x y (binary RanRes f a) refl l in
    in-ran-res find e f a k.0 k.1 k.4 (value find e x) (value find e y))

pub true-m5 : IsTrueRow m5
true-m5 picks = by_truth (built m5 picks) refl (λ find e c l r s.
    let x = picks 0 in let y = picks 1 in let f = picks 2 in let a = picks 3 in
    let k = pair-in find e x y (binary RanSub f a) refl l in
    in-ran-sub find e f a k.0 k.1 k.4 (value find e x) (value find e y))

pub true-m6 : IsTrueRow m6
true-m6 picks = by_truth (built m6 picks) refl (λ find e c l r s.
    let x = picks 0 in let y = picks 1 in let a = picks 2 in
    let vx = value find e x in let vy = value find e y in
    let k = pair-in find e x y (unary Id a) refl l in
    let m = in-id find e c a k.0 (id-part find e a k.0 k.1 k.4).0 vx vy in
    both_ways (within find e (pair vx vy) (unary Id a)) (within find e vx a && is_equal vx vy)
    (λ h. let w = m.0 h in and-true (within find e vx a) (is_equal vx vy) w.0 (equal-if vx vy w.1))
    (λ h. let w = and-both (within find e vx a) (is_equal vx vy) h in m.1 (w.0, same_value vx vy w.1)))

pub true-m7 : IsTrueRow m7
true-m7 picks = by_truth (built m7 picks) refl (λ find e c l r s.
    let x = picks 0 in let y = picks 1 in let f = picks 2 in let g = picks 3 in
    let k = in-set-parts find e (binary Maps x y) (binary Over f g) refl l in
    let p = pair-parts (role e.table (bound_types e) x) (role e.table (bound_types e) y) k.0 k.1 in
    let v = value find e (binary Maps x y) in
    in-over find e c f g p.0 p.1 (subst (λ t. GivesIn e (binary Over f g) (set_type t)) p.4 k.2) (value find e x) (value find e y)
    ∙ or-swap (within find e v f && not (within find e (value find e x) (unary Dom g))) (within find e v g))

pub true-m8 : IsTrueRow m8
true-m8 picks = by_truth (built m8 picks) refl (λ find e c l r s.
    let x = picks 0 in let f = picks 1 in let y = picks 2 in
    let k = in-set-parts find e x (unary Dom f) refl l in
    let p = dom-part-of find e c f k.0 k.2 in
    (in-dom find e c f k.0 p.0 p.1 (value find e x)).1 (value find e y, s.1))

pub true-m9 : IsTrueRow m9
true-m9 picks = by_truth (built m9 picks) refl (λ find e c l r s.
    let y = picks 0 in let f = picks 1 in let x = picks 2 in
    let k = in-set-parts find e y (unary Ran f) refl l in
    let p = ran-part-of find e c f k.0 k.2 in
    (in-ran find e c f p.0 k.0 p.1 (value find e y)).1 (value find e x, s.1))
