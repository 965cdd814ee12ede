-- The rows of logic.
use Rattle.std.proofs.Common.{◌≡◌, refl, Bool, true, false, ◌&&◌, ◌||◌, ◌∙◌, ap, subst, ℕ, not}
use Rattle.bk_val.specs.Value.{bool, MathValue}
use Rattle.bk_form.specs.Operators.{is_equal, implies}
use Rattle.bk_form.specs.Meaning.{truth, value}
use Rattle.bk_val.specs.ValueType.{ValueType, bool_type}
use Rattle.bk_val.specs.CmpLaws.{same_value, value_eq-self}
use Rattle.bk_form.specs.Table.{set_size}
use Rattle.bk_form.specs.Formula.{truth_value}
use Rattle.bk_form.specs.Environment.{bound_types}
use Rattle.bk_form.specs.Role.{gives, role}
use Rattle.bk_form.proofs.Members.{both_ways}
use Rattle.bk_form.proofs.Typed.{Of}
use Rattle.bk_form.proofs.Valued.{sound_typing}
use Rattle.bk_laws.specs.Rows.{built}
use Rattle.bk_laws.specs.Laws.{IsTrueRow}
use Rattle.bk_form.proofs.RoleParts.{equality-parts}
use Rattle.bk_laws.proofs.Truths.{and-swap, or-swap, and-assoc, or-assoc, and-or, or-and, and-self}
use Rattle.bk_laws.proofs.ByForm.{by_truth}
use Rattle.bk_laws_log.specs.Logic.{g1, g2, g3, g4, g5, g6, g7, g8, g9, g10, g11, g12, g13, g14, g15, g16, g17, g18, g19, g20, g21, g22, g23, g24, g25, g26, g27, g28}

not-not : (a : Bool) → not (not a) ≡ a
not-not true = refl
not-not false = refl

not-and : (a b : Bool) → not (a && b) ≡ (not a || not b)
not-and true b = refl
not-and false b = refl

not-or : (a b : Bool) → not (a || b) ≡ (not a && not b)
not-or true b = refl
not-or false b = refl

not-implies : (a b : Bool) → not (implies a b) ≡ (a && not b)
not-implies true b = refl
not-implies false b = refl

implies-true : (a : Bool) → implies a true ≡ true
implies-true true = refl
implies-true false = refl

curried : (a b c : Bool) → implies a (implies b c) ≡ implies (a && b) c
curried true b c = refl
curried false b c = refl

bool-false : (a : Bool) → is_equal (bool a) (bool false) ≡ not a
bool-false true = refl
bool-false false = refl

bool-true : (a : Bool) → is_equal (bool a) (bool true) ≡ a
bool-true true = refl
bool-true false = refl

turned : (v w : MathValue) → is_equal v w ≡ true → is_equal w v ≡ true
turned v w h = subst (λ x. is_equal x v ≡ true) (same_value v w h) (value_eq-self v)

pub equal-swap : (v w : MathValue) → is_equal v w ≡ is_equal w v
equal-swap v w = both_ways (is_equal v w) (is_equal w v) (turned v w) (turned w v)

not-true-is : (sizes : ℕ → ℕ) (v : MathValue) → Of sizes bool_type v → not (is_equal v (bool true)) ≡ is_equal v (bool false)
not-true-is sizes (bool true) h = refl
not-true-is sizes (bool false) h = refl
not-true-is sizes _ h = absurd (cc)

not-false-is : (sizes : ℕ → ℕ) (v : MathValue) → Of sizes bool_type v → not (is_equal v (bool false)) ≡ is_equal v (bool true)
not-false-is sizes (bool true) h = refl
not-false-is sizes (bool false) h = refl
not-false-is sizes _ h = absurd (cc)

gives-bool : (t : ValueType) → gives bool_type ≡ gives t → t ≡ bool_type
gives-bool t h = cc

pub true-g1 : IsTrueRow g1
true-g1 picks = by_truth (built g1 picks) refl (λ find e c l r s. not-not (truth find e (picks 0)))

pub true-g2 : IsTrueRow g2
true-g2 picks = by_truth (built g2 picks) refl (λ find e c l r s. not-and (truth find e (picks 0)) (truth find e (picks 1)))

pub true-g3 : IsTrueRow g3
true-g3 picks = by_truth (built g3 picks) refl (λ find e c l r s. not-or (truth find e (picks 0)) (truth find e (picks 1)))

pub true-g4 : IsTrueRow g4
true-g4 picks = by_truth (built g4 picks) refl (λ find e c l r s. not-implies (truth find e (picks 0)) (truth find e (picks 1)))

pub true-g5 : IsTrueRow g5
true-g5 picks = by_truth (built g5 picks) refl (λ find e c l r s. refl)

pub true-g6 : IsTrueRow g6
true-g6 picks = by_truth (built g6 picks) refl (λ find e c l r s. refl)

pub true-g7 : IsTrueRow g7
true-g7 picks = by_truth (built g7 picks) refl (λ find e c l r s. and-swap (truth find e (picks 0)) (truth find e (picks 1)))

pub true-g8 : IsTrueRow g8
true-g8 picks = by_truth (built g8 picks) refl (λ find e c l r s. or-swap (truth find e (picks 0)) (truth find e (picks 1)))

pub true-g9 : IsTrueRow g9
true-g9 picks = by_truth (built g9 picks) refl (λ find e c l r s. and-assoc (truth find e (picks 0)) (truth find e (picks 1)) (truth find e (picks 2)))

pub true-g10 : IsTrueRow g10
true-g10 picks = by_truth (built g10 picks) refl (λ find e c l r s. or-assoc (truth find e (picks 0)) (truth find e (picks 1)) (truth find e (picks 2)))

pub true-g11 : IsTrueRow g11
true-g11 picks = by_truth (built g11 picks) refl (λ find e c l r s. and-or (truth find e (picks 0)) (truth find e (picks 1)) (truth find e (picks 2)))

pub true-g12 : IsTrueRow g12
true-g12 picks = by_truth (built g12 picks) refl (λ find e c l r s. or-and (truth find e (picks 0)) (truth find e (picks 1)) (truth find e (picks 2)))

pub true-g13 : IsTrueRow g13
true-g13 picks = by_truth (built g13 picks) refl (λ find e c l r s. refl)

pub true-g14 : IsTrueRow g14
true-g14 picks = by_truth (built g14 picks) refl (λ find e c l r s. refl)

pub true-g15 : IsTrueRow g15
true-g15 picks = by_truth (built g15 picks) refl (λ find e c l r s. refl)

pub true-g16 : IsTrueRow g16
true-g16 picks = by_truth (built g16 picks) refl (λ find e c l r s. refl)

pub true-g17 : IsTrueRow g17
true-g17 picks = by_truth (built g17 picks) refl (λ find e c l r s. refl)

pub true-g18 : IsTrueRow g18
true-g18 picks = by_truth (built g18 picks) refl (λ find e c l r s. implies-true (truth find e (picks 0)))

pub true-g19 : IsTrueRow g19
true-g19 picks = by_truth (built g19 picks) refl (λ find e c l r s. refl)

pub true-g20 : IsTrueRow g20
true-g20 picks = by_truth (built g20 picks) refl (λ find e c l r s. refl)

pub true-g21 : IsTrueRow g21
true-g21 picks = by_truth (built g21 picks) refl (λ find e c l r s. and-self (truth find e (picks 0)))

pub true-g22 : IsTrueRow g22
true-g22 picks = by_truth (built g22 picks) refl (λ find e c l r s. equal-swap (value find e (picks 0)) (value find e (picks 1)))

pub true-g23 : IsTrueRow g23
true-g23 picks = by_truth (built g23 picks) refl (λ find e c l r s. value_eq-self (value find e (picks 0)))

pub true-g24 : IsTrueRow g24
true-g24 picks = by_truth (built g24 picks) refl (λ find e c l r s. bool-true (truth find e (picks 0)))

pub true-g25 : IsTrueRow g25
true-g25 picks = by_truth (built g25 picks) refl (λ find e c l r s. bool-false (truth find e (picks 0)))

pub true-g26 : IsTrueRow g26
true-g26 picks = by_truth (built g26 picks) refl (λ find e c l r s.
    let k = equality-parts (role e.table (bound_types e) (picks 0)) (role e.table (bound_types e) (truth_value false)) r in
    not-true-is (set_size e.table) (value find e (picks 0)) (sound_typing.typed find e c.well c.typed (picks 0) bool_type (k.1 ∙ ap gives (gives-bool k.0 k.2))))

pub true-g27 : IsTrueRow g27
true-g27 picks = by_truth (built g27 picks) refl (λ find e c l r s.
    let k = equality-parts (role e.table (bound_types e) (picks 0)) (role e.table (bound_types e) (truth_value true)) r in
    not-false-is (set_size e.table) (value find e (picks 0)) (sound_typing.typed find e c.well c.typed (picks 0) bool_type (k.1 ∙ ap gives (gives-bool k.0 k.2))))

pub true-g28 : IsTrueRow g28
true-g28 picks = by_truth (built g28 picks) refl (λ find e c l r s. curried (truth find e (picks 0)) (truth find e (picks 1)) (truth find e (picks 2)))
