-- The rows of subsets.
use Rattle.std.proofs.Common.{◌≡◌, refl, sym, ◌∙◌, ap, subst, true, ◌&&◌, not, inl, inr}
use Rattle.bk_val.specs.Value.{MathValue, set, none}
use Rattle.bk_val.specs.ValueType.{set_type}
use Rattle.bk_val.specs.CmpLaws.{same_value, value_eq-self}
use Rattle.bk_form.specs.Formula.{unary, binary}
use Rattle.bk_form.specs.Environment.{bound_types}
use Rattle.bk_form.specs.Role.{role}
use Rattle.bk_form.specs.Operators.{is_equal, is_empty}
use Rattle.bk_form.specs.Meaning.{value, within, truth}
use Rattle.bk_form.specs.declared.operator.UnOp.TheVariants.{Pow, Single}
use Rattle.bk_form.specs.declared.operator.BinOp.TheVariants.{Union, Inter, In, Minus, Eq}
use Rattle.bk_form.proofs.Members.{both_ways, and-both, and-true, or-left, or-right, or-cases}
use Rattle.bk_form.proofs.SetMembers.{and-parts, in-power, in-power-parts, from-gives, two-sets, in-union, in-single, over-typed, in-inter, in-minus, in-parts}
use Rattle.bk_form.proofs.RoleParts.{equality-parts}
use Rattle.bk_form.proofs.Forms.{set-form}
use Rattle.bk_laws.specs.Laws.{IsTrueRow}
use Rattle.bk_laws.specs.Rows.{built}
use Rattle.bk_laws.proofs.ByForm.{by_truth}
use Rattle.bk_laws.proofs.SetEquality.{equal-means}
use Rattle.bk_laws_set.specs.Sets.{s8, s9, s10, s11, s12, s13, s14, s15, s16, s17, s18}

empty-then : (v : MathValue) → is_empty v ≡ true → v ≡ set none
empty-then (set none) h = refl
empty-then _ h = absurd (cc)

pub empty-is : (v : MathValue) → is_empty v ≡ is_equal v (set none)
empty-is v =
    both_ways (is_empty v) (is_equal v (set none))
    (λ h. subst (λ w. is_equal v w ≡ true) (empty-then v h) (value_eq-self v))
    (λ h. ap is_empty (same_value v (set none) h))

pub true-s8 : IsTrueRow s8
true-s8 picks = by_truth (built s8 picks) refl (λ find e c l r s.
    let a = picks 0 in let b = picks 1 in
    let parts = and-parts find e (binary In a (unary Pow b)) (binary In b (unary Pow a)) r in
    let k = in-power-parts find e a b parts.0 in
    let q = equality-parts (role e.table (bound_types e) a) (role e.table (bound_types e) b) l in
    let type-b = from-gives e b k.0 q.0 k.2 q.2 in
    let equal = equal-means find e c a b k.0 k.1 type-b in
    let left = in-power find e c a b k.0 k.1 in
    let right = in-power find e c b a k.0 type-b in
    let in_b = truth find e (binary In a (unary Pow b)) in
    let in_a = truth find e (binary In b (unary Pow a)) in
    both_ways (truth find e (binary Eq a b)) (in_b && in_a)
    (λ h. and-true in_b in_a (left.1 (λ x m. sym (equal.0 h x) ∙ m)) (right.1 (λ x m. equal.0 h x ∙ m)))
    (λ h. let m = and-both in_b in_a h in equal.1 (λ x. both_ways (within find e x a) (within find e x b) (left.0 m.0 x) (right.0 m.1 x))))

pub true-s9 : IsTrueRow s9
true-s9 picks = by_truth (built s9 picks) refl (λ find e c l r s.
    let k = in-power-parts find e (picks 0) (picks 0) l in
    (in-power find e c (picks 0) (picks 0) k.0 k.1).1 (λ x m. m))

pub true-s10 : IsTrueRow s10
true-s10 picks = by_truth (built s10 picks) refl (λ find e c l r s. refl)

pub true-s11 : IsTrueRow s11
true-s11 picks = by_truth (built s11 picks) refl (λ find e c l r s.
    let a = picks 0 in let b = picks 1 in let d = picks 2 in
    let k = in-power-parts find e (binary Union a b) d l in
    let types = two-sets find e a b k.0 k.1 in
    let both = in-power find e c (binary Union a b) d k.0 k.1 in
    let left = in-power find e c a d k.0 types.0 in
    let right = in-power find e c b d k.0 types.1 in
    let in_a = truth find e (binary In a (unary Pow d)) in
    let in_b = truth find e (binary In b (unary Pow d)) in
    both_ways (truth find e (binary In (binary Union a b) (unary Pow d))) (in_a && in_b)
    (λ h. and-true in_a in_b
    (left.1 (λ x m. both.0 h x (in-union find e a b k.0 k.1 x ∙ or-left (within find e x a) (within find e x b) m)))
    (right.1 (λ x m. both.0 h x (in-union find e a b k.0 k.1 x ∙ or-right (within find e x a) (within find e x b) m))))
    (λ h. let m = and-both in_a in_b h in
    both.1 (λ x n. elim (or-cases (within find e x a) (within find e x b) (sym (in-union find e a b k.0 k.1 x) ∙ n)) [ inl q ↦ left.0 m.0 x q | inr q ↦ right.0 m.1 x q ])))

pub true-s12 : IsTrueRow s12
true-s12 picks = by_truth (built s12 picks) refl (λ find e c l r s.
    let x = picks 0 in let d = picks 1 in
    let k = in-power-parts find e (unary Single x) d l in
    let only = in-power find e c (unary Single x) d k.0 k.1 in
    both_ways (truth find e (binary In (unary Single x) (unary Pow d))) (truth find e (binary In x d))
    (λ h. only.0 h (value find e x) ((in-single find e c x (value find e x)).1 refl))
    (λ h. only.1 (λ y m. subst (λ z. within find e z d ≡ true) (sym ((in-single find e c x y).0 m)) h)))

pub true-s13 : IsTrueRow s13
true-s13 picks = by_truth (built s13 picks) refl (λ find e c l r s.
    let a = picks 0 in let b = picks 1 in let d = picks 2 in
    let k = in-power-parts find e a (binary Inter b d) l in
    let w = set-form e (binary Inter b d) refl (over-typed (role e.table (bound_types e) (binary Inter b d)) k.0 k.2) in
    let meet = from-gives e (binary Inter b d) k.0 (set_type w.0) k.2 w.1 in
    let both = in-power find e c a (binary Inter b d) k.0 k.1 in
    let left = in-power find e c a b k.0 k.1 in
    let right = in-power find e c a d k.0 k.1 in
    let in_b = truth find e (binary In a (unary Pow b)) in
    let in_d = truth find e (binary In a (unary Pow d)) in
    both_ways (truth find e (binary In a (unary Pow (binary Inter b d)))) (in_b && in_d)
    (λ h. and-true in_b in_d
    (left.1 (λ x m. (and-both (within find e x b) (within find e x d) (sym (in-inter find e b d k.0 meet x) ∙ both.0 h x m)).0))
    (right.1 (λ x m. (and-both (within find e x b) (within find e x d) (sym (in-inter find e b d k.0 meet x) ∙ both.0 h x m)).1)))
    (λ h. let m = and-both in_b in_d h in
    both.1 (λ x n. in-inter find e b d k.0 meet x ∙ and-true (within find e x b) (within find e x d) (left.0 m.0 x n) (right.0 m.1 x n))))

pub true-s14 : IsTrueRow s14
true-s14 picks = by_truth (built s14 picks) refl (λ find e c l r s.
    let a = picks 0 in let b = picks 1 in let d = picks 2 in
    let k = in-power-parts find e (binary Inter a b) d l in
    let types = two-sets find e a b k.0 k.1 in
    (in-power find e c (binary Inter a b) d k.0 k.1).1 (λ x m. (in-power find e c a d k.0 types.0).0 s.1 x (and-both (within find e x a) (within find e x b) (sym (in-inter find e a b k.0 k.1 x) ∙ m)).0))

pub true-s15 : IsTrueRow s15
true-s15 picks = by_truth (built s15 picks) refl (λ find e c l r s.
    let a = picks 0 in let b = picks 1 in let d = picks 2 in
    let k = in-power-parts find e (binary Minus a b) d l in
    let types = two-sets find e a b k.0 k.1 in
    (in-power find e c (binary Minus a b) d k.0 k.1).1 (λ x m. (in-power find e c a d k.0 types.0).0 s.1 x (and-both (within find e x a) (not (within find e x b)) (sym (in-minus find e a b k.0 k.1 x) ∙ m)).0))

pub true-s16 : IsTrueRow s16
true-s16 picks = by_truth (built s16 picks) refl (λ find e c l r s.
    let a = picks 0 in let d = picks 1 in let b = picks 2 in
    let k = in-power-parts find e a d l in
    let m = in-power-parts find e b d s.2.0 in
    (in-power find e c a d k.0 k.1).1 (λ x n. (in-power find e c b d m.0 m.1).0 s.2.1 x ((in-power find e c a b k.0 k.1).0 s.1 x n)))

pub true-s17 : IsTrueRow s17
true-s17 picks = by_truth (built s17 picks) refl (λ find e c l r s. ap (λ b. truth find e (binary In (picks 0) (unary Pow (picks 1))) && not b) (empty-is (value find e (picks 0))))

pub true-s18 : IsTrueRow s18
true-s18 picks = by_truth (built s18 picks) refl (λ find e c l r s.
    let k = in-parts find e (picks 0) (picks 2) s.0 in
    let m = in-parts find e (picks 2) (unary Pow (picks 1)) s.2.0 in
    (in-power find e c (picks 2) (picks 1) k.0 (from-gives e (picks 2) k.0 m.0 k.2 m.1)).0 s.2.1 (value find e (picks 0)) s.1)
