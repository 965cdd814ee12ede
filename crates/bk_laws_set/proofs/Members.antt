-- The rows of what is a member.
use Rattle.std.proofs.Common.{◌≡◌, refl, ◌∙◌, ap, subst, true, ◌&&◌, [], ◌∷◌}
use Rattle.bk_val.specs.Value.{MathValue, pair}
use Rattle.bk_val.specs.Sets.{second_of}
use Rattle.bk_val.specs.CmpLaws.{same_value, value_eq-self}
use Rattle.bk_form.specs.Formula.{binary}
use Rattle.bk_form.specs.Operators.{is_equal, first_part}
use Rattle.bk_form.specs.Meaning.{value}
use Rattle.bk_form.specs.declared.operator.BinOp.TheVariants.{Union, Inter, Minus}
use Rattle.bk_form.proofs.Members.{both_ways, and-both, and-true, element-set_value}
use Rattle.bk_form.proofs.SetMembers.{in-set-parts, in-union, in-inter, in-minus}
use Rattle.bk_laws.specs.Laws.{IsTrueRow}
use Rattle.bk_laws.specs.Rows.{built}
use Rattle.bk_laws.proofs.ByForm.{by_truth}
use Rattle.bk_laws.proofs.Truths.{or-none}
use Rattle.bk_laws_set.specs.Sets.{s1, s2, s3, s4, s5, s6, s7}

pub pair-equal : (x y z w : MathValue) → is_equal (pair x y) (pair z w) ≡ (is_equal x z && is_equal y w)
pair-equal x y z w =
    both_ways (is_equal (pair x y) (pair z w)) (is_equal x z && is_equal y w)
    (λ h. let q = same_value (pair x y) (pair z w) h in and-true (is_equal x z) (is_equal y w) (subst (λ v. is_equal x v ≡ true) (ap first_part q) (value_eq-self x)) (subst (λ v. is_equal y v ≡ true) (ap second_of q) (value_eq-self y)))
    (λ h.
    let k = and-both (is_equal x z) (is_equal y w) h in
    let p = same_value x z k.0 in
    let q = same_value y w k.1 in
    subst (λ v. is_equal (pair x y) v ≡ true) (λ i. pair (p i) (q i)) (value_eq-self (pair x y)))

pub true-s1 : IsTrueRow s1
true-s1 picks = by_truth (built s1 picks) refl (λ find e c l r s.
    let k = in-set-parts find e (picks 0) (binary Union (picks 1) (picks 2)) refl l in
    in-union find e (picks 1) (picks 2) k.0 k.2 (value find e (picks 0)))

pub true-s2 : IsTrueRow s2
true-s2 picks = by_truth (built s2 picks) refl (λ find e c l r s.
    let k = in-set-parts find e (picks 0) (binary Inter (picks 1) (picks 2)) refl l in
    in-inter find e (picks 1) (picks 2) k.0 k.2 (value find e (picks 0)))

pub true-s3 : IsTrueRow s3
true-s3 picks = by_truth (built s3 picks) refl (λ find e c l r s.
    let k = in-set-parts find e (picks 0) (binary Minus (picks 1) (picks 2)) refl l in
    in-minus find e (picks 1) (picks 2) k.0 k.2 (value find e (picks 0)))

pub true-s4 : IsTrueRow s4
true-s4 picks = by_truth (built s4 picks) refl (λ find e c l r s. refl)

pub true-s5 : IsTrueRow s5
true-s5 picks = by_truth (built s5 picks) refl (λ find e c l r s.
    let v = value find e (picks 0) in let w = value find e (picks 1) in
    element-set_value (w ∷ []) v ∙ or-none (is_equal v w))

pub true-s6 : IsTrueRow s6
true-s6 picks = by_truth (built s6 picks) refl (λ find e c l r s. refl)

pub true-s7 : IsTrueRow s7
true-s7 picks = by_truth (built s7 picks) refl (λ find e c l r s. pair-equal (value find e (picks 0)) (value find e (picks 1)) (value find e (picks 2)) (value find e (picks 3)))
