-- Sequents as a hypothesis list and a goal, and what is asked of their formulas.
-- Source: B-Book, sequents.
use Rattle.std.specs.Prelude.{ℕ, List, [], ◌∷◌, ◌++◌}
use Rattle.bk_form.specs.Table.{Table}
use Rattle.bk_form.specs.Formula.{Formula, binary, btrue}
use Rattle.bk_bind.specs.Limits.{IsWithinLimits}
use Rattle.bk_bind.specs.Valid.{IsValid}
use Rattle.bk_seq.specs.declared.sequent.Sequent.{Sequent as StoredSequent}
use Rattle.bk_form.specs.Predicates.{IsPredicate, conjuncts}
use Rattle.bk_form.specs.Each.{Each}
use Rattle.bk_form.specs.Sized.{with_sizes, AreSizes}
use Rattle.bk_form.specs.declared.operator.BinOp.TheVariants.{And, Imp}

-- hypotheses and a goal
abbrev pub Sequent : Type 0
Sequent = List Formula × Formula

-- the sequent that the program holds
abbrev pub sequent_of : StoredSequent → Sequent
sequent_of s = (s.hyps.items, s.goal)

-- its formulas are predicates over the table
abbrev pub Types : Table → Sequent → Type 0
Types table s = Each (IsPredicate table) s.0 × IsPredicate table s.1

-- its formulas are within the limits of an obligation's formulas
abbrev pub IsWithin : Sequent → Type 0
IsWithin s = Each IsWithinLimits s.0 × IsWithinLimits s.1

-- in every typed state in which the hypotheses are true, the goal is true; of sets with sizes
abbrev pub IsValidSequent : Table → Sequent → Type 0
IsValidSequent table s = IsValid table s.0 s.1

-- and so whatever sizes those sets have that have none yet, at least one element each
abbrev pub IsValidForAllSizes : Table → Sequent → Type 0
IsValidForAllSizes table s = (sizes : ℕ → ℕ) → AreSizes sizes → IsValidSequent (with_sizes sizes table) s

-- ---- goals taken apart
-- a goal taken apart: both sides of a conjunction, the right side of an implication under the conjuncts of the left one, nothing for btrue
abbrev pub split : List Formula → Formula → List Sequent
split hyps (binary And p q) = split hyps p ++ split hyps q
split hyps (binary Imp p q) = split (hyps ++ conjuncts p) q
split hyps btrue = []
split hyps p = (hyps, p) ∷ []
