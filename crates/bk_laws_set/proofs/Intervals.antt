-- The rows of intervals.
use Rattle.std.proofs.Common.{◌≡◌, refl, sym, ◌∙◌, ap, subst, true, false, ◌&&◌, ◌||◌, ℤ, pos, ◌+ℤ◌, arith}
use Rattle.std.specs.Prelude.{int_le, int_lt}
use Rattle.std.proofs.lemmas.Int.{ints}
use Rattle.bk_val.specs.Value.{MathValue, int}
use Rattle.bk_val.specs.ValueType.{ValueType, int_type, set_type}
use Rattle.bk_form.specs.Formula.{unary, binary, literal}
use Rattle.bk_form.specs.Environment.{bound_types}
use Rattle.bk_form.specs.Role.{role}
use Rattle.bk_form.specs.Operators.{number_in}
use Rattle.bk_form.specs.Meaning.{value, within}
use Rattle.bk_form.specs.declared.operator.UnOp.TheVariants.{Single}
use Rattle.bk_form.specs.declared.operator.BinOp.TheVariants.{Union, Range, Add}
use Rattle.bk_form.specs.Table.{set_size}
use Rattle.bk_form.proofs.Domains.{interval-members}
use Rattle.bk_form.proofs.Typed.{Of}
use Rattle.bk_form.proofs.Members.{both_ways, and-both, and-true}
use Rattle.bk_form.proofs.Valued.{sound_typing}
use Rattle.bk_form.proofs.RoleParts.{interval-parts}
use Rattle.bk_form.proofs.SetMembers.{in-single, two-sets, in-union, in-power, in-power-parts, member-of}
use Rattle.bk_laws.specs.Laws.{IsTrueRow}
use Rattle.bk_laws.specs.Rows.{built}
use Rattle.bk_laws.proofs.Numbers.{le-then, le-if, in-range, range-number, is-number}
use Rattle.bk_laws.proofs.ByForm.{by_members, by_truth}
use Rattle.bk_laws_set.specs.Sets.{s36, s37, s38, s39}

cut : (a b c z : ℤ) → int_le a (c +ℤ pos 1) ≡ true → int_le c b ≡ true → (int_le a z && int_le z b) ≡ ((int_le a z && int_le z c) || (int_le (c +ℤ pos 1) z && int_le z b))
cut a b c z h k = grind (arith, ints)

set-same : (t u : ValueType) → set_type t ≡ set_type u → t ≡ u
set-same t u h = cc

none-between : (a b z : ℤ) → int_lt b a ≡ true → (int_le a z && int_le z b) ≡ false
none-between a b z h = grind (arith, ints)

between-same : (a z : ℤ) → (int_le a z && int_le z a) ≡ true → z ≡ a
between-same a z h = let k = and-both (int_le a z) (int_le z a) h in let p = le-then a z k.0 in let q = le-then z a k.1 in omega (arith, ints)

same-between : (a z : ℤ) → z ≡ a → (int_le a z && int_le z a) ≡ true
same-between a z h = and-true (int_le a z) (int_le z a) (le-if a z (omega (arith, ints))) (le-if z a (omega (arith, ints)))

wider : (a b c d z : ℤ) → int_le c a ≡ true → int_le b d ≡ true → (int_le a z && int_le z b) ≡ true → (int_le c z && int_le z d) ≡ true
wider a b c d z h k m = grind (arith, ints)

pub true-s36 : IsTrueRow s36
true-s36 picks = by_members (built s36 picks) refl (λ find e c t l r s v o.
    let a = picks 0 in let b = picks 1 in
    in-range find e a b v (range-number find e a b t l v o) ∙ none-between (number_in (value find e a)) (number_in (value find e b)) (number_in v) s.1)

pub true-s37 : IsTrueRow s37
true-s37 picks = by_members (built s37 picks) refl (λ find e c t l r s v o.
    let a = picks 0 in
    let w = value find e a in
    let number = range-number find e a a t l v o in
    let k = interval-parts (role e.table (bound_types e) a) (role e.table (bound_types e) a) (set_type t) l in
    let is = is-number (set_size e.table) w (sound_typing.typed find e c.well c.typed a int_type k.0) in
    both_ways (within find e v (binary Range a a)) (within find e v (unary Single a))
    (λ h. (in-single find e c a v).1 (number ∙ ap int (between-same (number_in w) (number_in v) (sym (in-range find e a a v number) ∙ h)) ∙ sym is))
    (λ h. in-range find e a a v number ∙ same-between (number_in w) (number_in v) (ap number_in ((in-single find e c a v).0 h))))

pub true-s38 : IsTrueRow s38
true-s38 picks = by_members (built s38 picks) refl (λ find e c t l r s v o.
    let a = picks 0 in let b = picks 1 in let d = picks 2 in
    let types = two-sets find e (binary Range a d) (binary Range (binary Add d (literal (pos 1))) b) t r in
    let int-type = set-same t int_type (interval-parts (role e.table (bound_types e) a) (role e.table (bound_types e) b) (set_type t) l).2 in
    let number = is-number (set_size e.table) v (subst (λ x. Of (set_size e.table) x v) int-type o) in
    let z = number_in v in
    let P : MathValue → Type 0 = λ w. within find e w (binary Range a b) ≡ within find e w (binary Union (binary Range a d) (binary Range (binary Add d (literal (pos 1))) b)) in
    subst P (sym number)
    (interval-members.numbers find e a b z
    ∙ cut (number_in (value find e a)) (number_in (value find e b)) (number_in (value find e d)) z s.1 s.2.1
    ∙ sym (in-union find e (binary Range a d) (binary Range (binary Add d (literal (pos 1))) b) t r (int z) ∙ (λ i. interval-members.numbers find e a d z i || interval-members.numbers find e (binary Add d (literal (pos 1))) b z i))))

pub true-s39 : IsTrueRow s39
true-s39 picks = by_truth (built s39 picks) refl (λ find e c l r s.
    let a = picks 0 in let b = picks 1 in let d = picks 2 in let q = picks 3 in
    let k = in-power-parts find e (binary Range a b) (binary Range d q) l in
    (in-power find e c (binary Range a b) (binary Range d q) k.0 k.1).1 (λ x m.
    let number = range-number find e a b k.0 k.1 x (member-of find e c (binary Range a b) k.0 k.1 x m) in
    in-range find e d q x number ∙ wider (number_in (value find e a)) (number_in (value find e b)) (number_in (value find e d)) (number_in (value find e q)) (number_in x) s.1 s.2.1 (sym (in-range find e a b x number) ∙ m)))
