-- What the program holds of branches and of instances of laws, and when something that it would make is too large.
use Rattle.std.specs.Prelude.{◌≡◌, List, map, Option, Some}
use Rattle.std.specs.Option.{option_map}
use Rattle.std.specs.Borrow.{Bor}
use Rattle.std.specs.Global.{Vec}
use Rattle.bk_val.specs.ValueType.{ValueType}
use Rattle.bk_form.specs.Each.{Each}
use Rattle.bk_form.specs.Formula.{Formula}
use Rattle.bk_form.specs.Table.{Table}
use Rattle.bk_form.specs.Predicates.{IsPredicate}
use Rattle.bk_bind.specs.Limits.{IsWithinLimits}
use Rattle.bk_bind.specs.declared.law.LawInstance.{LawInstance}
use Rattle.bk_seq.specs.Sequents.{Sequent}
use Rattle.bk_laws.specs.Rows.{Instance}
use Rattle.bk_laws_log.specs.Rows.{instance_of}
use Rattle.bk_kernel.specs.declared.branch.Branch.{Branch as StoredBranch}
use Rattle.bk_kernel.specs.Branches.{Branch, extended, IsWithinBranch}

-- ---- branches
-- the branch that the program holds
abbrev pub branch_of : StoredBranch → Branch
branch_of b = (b.more.items, b.goal)

-- the branches that it holds, if any
abbrev pub held : Option (Vec StoredBranch) → Option (List Branch)
held o = option_map (λ v. map branch_of v.items) o

-- it is a predicate over the table, and within the limits
abbrev pub IsGood : Table → Formula → Type 0
IsGood table p = IsPredicate table p × IsWithinLimits p

-- each formula that is new in the branch is
abbrev pub IsFine : Table → Branch → Type 0
IsFine table b = Each (IsGood table) b.0 × IsGood table b.1

-- the sequents of what a rule adds, where all that is new is fine
abbrev pub IsExtension : Table → Sequent → Option (List Branch) → List Sequent → Type 0
IsExtension table s entry news = (bs : List Branch) × (entry ≡ Some bs) × Each (IsFine table) bs × (news ≡ map (extended s) bs)

-- nothing that the rule adds is fine
abbrev pub HasNoFine : Table → Option (List Branch) → Type 0
HasNoFine table entry = (bs : List Branch) → entry ≡ Some bs → Each (IsFine table) bs → ⊥

-- whatever the rule adds, some formula of it is too large
abbrev pub IsTooLarge : Option (List Branch) → Type 0
IsTooLarge entry = (bs : List Branch) → entry ≡ Some bs → Each IsWithinBranch bs → ⊥

-- ---- parts of formulas
-- two formulas that are looked at
abbrev pub pair_in : Option (Bor Formula × Bor Formula) → Option (Formula × Formula)
pair_in o = option_map (λ x. (x.0.now, x.1.now)) o

-- one
abbrev pub form_in : Option (Bor Formula) → Option Formula
form_in o = option_map (λ x. x.now) o

-- the types and the body of a quantifier
abbrev pub binder_in : Option (Bor (List ValueType) × Bor Formula) → Option (List ValueType × Formula)
binder_in o = option_map (λ x. (x.0.now, x.1.now)) o

-- several formulas that it holds
abbrev pub list_in : Option (Vec Formula) → Option (List Formula)
list_in o = option_map (λ v. v.items) o

-- ---- instances of laws
-- the instance that it holds
abbrev pub instance_in : Option LawInstance → Option Instance
instance_in o = option_map instance_of o

-- all its formulas are within the limits
abbrev pub IsWithinInstance : Instance → Type 0
IsWithinInstance i = Each IsWithinLimits i.sides × IsWithinLimits i.left × IsWithinLimits i.right

-- whatever the instance is, some formula of it is too large
abbrev pub HasLarge : Option Instance → Type 0
HasLarge entry = (i : Instance) → entry ≡ Some i → IsWithinInstance i → ⊥

-- whatever the formula is, it is too large
abbrev pub IsLarge : Option Formula → Type 0
IsLarge entry = (f : Formula) → entry ≡ Some f → IsWithinLimits f → ⊥

-- ---- what comes at a place
-- the sides and the formula that it holds
abbrev pub replaced_in : Option (Vec Formula × Formula) → Option (List Formula × Formula)
replaced_in o = option_map (λ x. (x.0.items, x.1)) o

-- whatever comes, a side or the formula is too large
abbrev pub HasLargePart : Option (List Formula × Formula) → Type 0
HasLargePart entry = (x : List Formula × Formula) → entry ≡ Some x → Each IsWithinLimits x.0 → IsWithinLimits x.1 → ⊥
