-- What a rule adds to a sequent, and how the rules look at formulas.
use Rattle.std.specs.Prelude.{nat_eq, Bool, cond, List, [], ◌∷◌, ◌++◌, Option, Some, None}
use Rattle.bk_val.specs.ValueType.{ValueType}
use Rattle.bk_form.specs.Each.{Each}
use Rattle.bk_form.specs.Formula.{Formula, unary, binary, for_all, for_some}
use Rattle.bk_form.specs.Codes.OperatorCodes.{unary_code, binary_code}
use Rattle.bk_form.specs.declared.operator.UnOp.{UnOp}
use Rattle.bk_form.specs.declared.operator.BinOp.{BinOp}
use Rattle.bk_bind.specs.Limits.{IsWithinLimits}
use Rattle.bk_seq.specs.Sequents.{Sequent}

-- what a new sequent has besides the hypotheses that there were: more of them, and its goal
abbrev pub Branch : Type 0
Branch = List Formula × Formula

-- the sequent of a branch: its hypotheses come last
abbrev pub extended : Sequent → Branch → Sequent
extended s b = (s.0 ++ b.0, b.1)

-- the same goal under more hypotheses
abbrev pub more : Sequent → List Formula → List Branch
more s ps = (ps, s.1) ∷ []

-- another goal
abbrev pub goal : Formula → Branch
goal p = ([], p)

-- what is new in the branch is within the limits of an obligation's formulas
abbrev pub IsWithinBranch : Branch → Type 0
IsWithinBranch b = Each IsWithinLimits b.0 × IsWithinLimits b.1

-- ---- tests
-- something, where the test passes
abbrev pub when : {A : Type 0} → Bool → A → Option A
when b x = cond b (Some x) None

-- nothing is left to prove, where the test passes
abbrev pub closed_if : Bool → Option (List Branch)
closed_if b = when b []

-- ---- views
-- the sides of a formula of this operator
abbrev pub sides : BinOp → Formula → Option (Formula × Formula)
sides o (binary p a b) = cond (nat_eq (binary_code p) (binary_code o)) (Some (a, b)) None
sides o _ = None

-- the operand of a formula of this operator
abbrev pub operand : UnOp → Formula → Option Formula
operand o (unary p a) = cond (nat_eq (unary_code p) (unary_code o)) (Some a) None
operand o _ = None

-- the types and the body of a `!`
abbrev pub universal : Formula → Option (List ValueType × Formula)
universal (for_all ts p) = Some (ts, p)
universal _ = None

-- the types and the body of a `#`
abbrev pub existential : Formula → Option (List ValueType × Formula)
existential (for_some ts p) = Some (ts, p)
existential _ = None
