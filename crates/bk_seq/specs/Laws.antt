-- Laws of validity, as statements.
-- Source: B-Book, sequents.
use Rattle.std.specs.Prelude.{ℕ, List, ◌∷◌, ◌↔◌}
use Rattle.bk_form.specs.Table.{Table, IsWellFormed}
use Rattle.bk_form.specs.Formula.{Formula, bfalse, unary}
use Rattle.bk_form.specs.declared.operator.UnOp.TheVariants.{Not}
use Rattle.bk_bind.specs.Valid.{IsValid}
use Rattle.bk_form.specs.Each.{Each}
use Rattle.bk_seq.specs.Sequents.{IsValidSequent, IsValidForAllSizes, Sequent, Types, split}
use Rattle.bk_form.specs.Wider.{IsWider}
use Rattle.bk_form.specs.Sized.{with_sizes, HasSizes}

-- a goal that is the first hypothesis
abbrev pub IsAssumed : Type 0
IsAssumed = (table : Table) (p : Formula) (hyps : List Formula) → IsValid table (p ∷ hyps) p

-- a further hypothesis keeps a sequent valid
abbrev pub Weakens : Type 0
Weakens = (table : Table) (p goal : Formula) (hyps : List Formula) → IsValid table hyps goal → IsValid table (p ∷ hyps) goal

-- where the negated goal leads to what is never true, the goal holds
abbrev pub Contradicts : Type 0
Contradicts = (table : Table) (goal : Formula) (hyps : List Formula) →
    IsValid table (unary Not goal ∷ hyps) bfalse → IsValid table hyps goal

-- a sequent over a table is valid there exactly where it is valid over a wider one
abbrev pub ValidityWidens : Type 0
ValidityWidens = (small large : Table) → IsWellFormed small → IsWellFormed large → IsWider small large →
    (s : Sequent) → Types small s → IsValidSequent small s ↔ IsValidSequent large s

-- a sequent is valid exactly where each sequent is that its goal is taken apart into
abbrev pub SplitKeepsValidity : Type 0
SplitKeepsValidity = (table : Table) (hyps : List Formula) (goal : Formula) →
    IsValid table hyps goal ↔ Each (IsValidSequent table) (split hyps goal)

-- ---- sets without sizes
-- what sizes leave of sequents
pub record SizesKeepSequents : Type 0 where
  -- a sequent that types does with any sizes
  pub types : (sizes : ℕ → ℕ) (table : Table) (s : Sequent) → Types table s → Types (with_sizes sizes table) s
  -- where each set has a size, there is one choice of them
  pub whole : (table : Table) → HasSizes table.sets → (s : Sequent) → IsValidForAllSizes table s ↔ IsValidSequent table s
  -- a wider table makes no difference
  pub wider : (small large : Table) → IsWellFormed small → IsWellFormed large → IsWider small large →
      (s : Sequent) → Types small s → IsValidForAllSizes small s ↔ IsValidForAllSizes large s
  -- nor does it that goals are taken apart
  pub split : (table : Table) (s : Sequent) → IsValidForAllSizes table s ↔ Each (IsValidForAllSizes table) (split s.0 s.1)
