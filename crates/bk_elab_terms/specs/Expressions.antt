-- The size of an expression, and its code, by which a proof tells two apart.
use Rattle.std.specs.Prelude.{◌≡◌, ℕ, zero, suc, ◌+◌, refl}
use Rattle.std.proofs.Common.{ap, sym, ◌∙◌}
use Rattle.std.specs.Coded.{Coded}
use base.Stored.{Gv, gnil, gnum, gcons}
use Rattle.bk_val.specs.ValueType.{type_code, type_back, type_back-code}
use Rattle.bk_form.specs.Codes.FormulaCodes.{formula_code, formula_back, formula_back-code}
use Rattle.bk_raw.specs.Meaning.Outcome.{Joint, union_joint, inter_joint, minus_joint, over_joint}
use Rattle.bk_raw.specs.Meaning.Outcome.{Partial, whole, hollow, single_of, pair_of, joint_of}

-- how many nodes it has, formulas aside
abbrev pub expression_size : Partial → ℕ
expression_size (whole f t) = 1
expression_size hollow = 1
expression_size (single_of p) = expression_size p + 1
expression_size (pair_of p q) = expression_size p + expression_size q + 1
expression_size (joint_of j p q) = expression_size p + expression_size q + 1

-- ---- codes
-- the number of an operator that joins two sets or relations
abbrev pub joint_code : Joint → ℕ
joint_code union_joint = 0
joint_code inter_joint = 1
joint_code minus_joint = 2
joint_code over_joint = 3

-- the operator that has this code
abbrev pub joint_back : ℕ → Joint
joint_back zero = union_joint
joint_back (suc zero) = inter_joint
joint_back (suc (suc zero)) = minus_joint
joint_back _ = over_joint

-- a code gives its operator back
pub joint_back-code : (j : Joint) → joint_back (joint_code j) ≡ j
joint_back-code union_joint = refl
joint_back-code inter_joint = refl
joint_back-code minus_joint = refl
joint_back-code over_joint = refl

-- an expression as a tree of numbers
abbrev pub expression_code : Partial → Gv
expression_code (whole f t) = gcons (gnum 0) (gcons (formula_code f) (type_code t))
expression_code hollow = gnil
expression_code (single_of p) = gcons (gnum 1) (expression_code p)
expression_code (pair_of p q) = gcons (gnum 2) (gcons (expression_code p) (expression_code q))
expression_code (joint_of j p q) = gcons (gnum 3) (gcons (gnum (joint_code j)) (gcons (expression_code p) (expression_code q)))

-- the expression that has this code; what it gives for other trees does not matter
abbrev pub expression_back : Gv → Partial
expression_back (gcons (gnum zero) (gcons f t)) = whole (formula_back f) (type_back t)
expression_back (gcons (gnum (suc zero)) p) = single_of (expression_back p)
expression_back (gcons (gnum (suc (suc zero))) (gcons p q)) = pair_of (expression_back p) (expression_back q)
expression_back (gcons (gnum (suc (suc (suc n)))) (gcons (gnum j) (gcons p q))) =
    joint_of (joint_back j) (expression_back p) (expression_back q)
expression_back _ = hollow

-- a code gives its expression back
pub expression_back-code : (p : Partial) → expression_back (expression_code p) ≡ p
expression_back-code (whole f t) = λ i. whole (formula_back-code f i) (type_back-code t i)
expression_back-code hollow = refl
expression_back-code (single_of p) = λ i. single_of (expression_back-code p i)
expression_back-code (pair_of p q) = λ i. pair_of (expression_back-code p i) (expression_back-code q i)
expression_back-code (joint_of j p q) = λ i. joint_of (joint_back-code j i) (expression_back-code p i) (expression_back-code q i)

-- so expressions can be told apart by their codes
abbrev pub coded_expression : Coded Partial
coded_expression =
    record { code = expression_code; inj = λ p q e. sym (expression_back-code p) ∙ ap expression_back e ∙ expression_back-code q }
