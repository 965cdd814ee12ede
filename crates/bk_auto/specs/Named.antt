-- What rules name: variables that are new, and terms that are parts of the goal.
use Rattle.std.specs.Prelude.{◌≡◌, ◌⊎◌, ℕ, zero, suc, ◌+◌, ◌≤◌, true, List, [], ◌∷◌, length, None}
use Rattle.std.specs.List.{flat_map}
use Rattle.bk_form.specs.Table.{Table}
use Rattle.bk_form.specs.Wider.{IsWider}
use Rattle.bk_form.specs.Each.{Each}
use Rattle.bk_form.specs.Formula.{Formula, binary, for_all}
use Rattle.bk_val.specs.ValueType.{ValueType}
use Rattle.bk_bind.specs.Opening.{opened}
use Rattle.bk_lin.specs.declared.fact.Line.{Line}
use Rattle.bk_arith.specs.Decision.{is_accepted}
use Rattle.bk_kernel.specs.declared.rule.Rule.{Rule}
use Rattle.bk_kernel.specs.declared.rule.Rule.TheVariants.{Hyp, True, Same, Eval, And, Imp, Fix, Split, OpenSome, Law, TypeOf, Lin}
use Rattle.bk_kernel.specs.declared.rule.Place.TheVariants.{Goal}
use Rattle.bk_kernel.specs.Naming.{give_each, names_of}

-- ---- variables
-- so many numbers from this one on
abbrev pub numbers_from : ℕ → ℕ → List ℕ
numbers_from n zero = []
numbers_from n (suc k) = n ∷ numbers_from (suc n) k

-- the variables that a rule brings
abbrev pub brought_by : Rule → List ℕ
brought_by (Fix names) = names.items
brought_by (OpenSome i names) = names.items
brought_by _ = []

-- those that rules bring, in order
abbrev pub brought : List Rule → List ℕ
brought rules = flat_map brought_by rules

-- ---- parts of a formula
-- the parts of a formula of two sides, and of one with quantified variables, where Is says which are parts already: for the quantified
-- variables stand others of the table, which have their types and follow each other from some number on, not below the first
abbrev pub PartBy : (Formula → Formula → Type 0) → Table → (first : ℕ) → Formula → Formula → Type 0
PartBy Is table first (binary o p q) f = Is p f ⊎ Is q f
PartBy Is table first (for_all ts body) f = (k : ℕ) × (first ≤ k) × (give_each table ts (names_of (numbers_from k (length ts))) ≡ true)
    × Is (opened (names_of (numbers_from k (length ts))) body) f
PartBy Is table first _ f = ⊥

-- f is a part of g by fewer than so many steps: it is g, or a part of a part
abbrev pub IsPartIn : ℕ → Table → ℕ → Formula → Formula → Type 0
IsPartIn zero table first g f = ⊥
IsPartIn (suc n) table first g f = (g ≡ f) ⊎ PartBy (IsPartIn n table first) table first g f

-- f is a part of g
abbrev pub IsPart : Table → (first : ℕ) → Formula → Formula → Type 0
IsPart table first g f = (n : ℕ) × IsPartIn n table first g f

-- ---- rules
-- one line, which shows that some hypotheses and a denied goal contradict each other
abbrev pub IsCertificate : List Line → Type 0
IsCertificate lines = (line : Line) × (lines ≡ line ∷ []) × (hyps : List Formula) × (goal : Formula) × (is_accepted hyps goal lines ≡ true)

-- a rule that names nothing but hypotheses, and the goal as a whole
abbrev pub IsBare : Rule → Type 0
IsBare (Hyp i) = Unit {0}
IsBare True = Unit {0}
IsBare Same = Unit {0}
IsBare (Eval None) = Unit {0}
IsBare And = Unit {0}
IsBare Imp = Unit {0}
IsBare (Split i) = Unit {0}
IsBare (TypeOf (Goal path)) = path.items ≡ []
IsBare (Lin numbers lines) = IsCertificate lines.items
IsBare _ = ⊥

-- such a rule; or one of the two laws that make orders of a goal, for parts of it; or one that brings a variable for each one of a
-- quantified part
abbrev pub NamesParts : Table → (first : ℕ) → (goal : Formula) → Rule → Type 0
NamesParts table first goal (Law law picks (Goal path)) =
    ((law ≡ 101) ⊎ (law ≡ 105)) × Each (IsPart table first goal) picks.items × (path.items ≡ [])
NamesParts table first goal (Fix names) = (ts : List ValueType) × (body : Formula) × (k : ℕ) × (first ≤ k)
    × (names.items ≡ numbers_from k (length ts)) × (give_each table ts (names_of names.items) ≡ true) × IsPart table first goal (for_all ts body)
NamesParts table first goal r = IsBare r

-- the rules bring the variables that the large table has besides those of the small one, each once and in order; and they name nothing
-- else but parts of the goal, over each table that has the variables of the large one
pub record Brings (small large : Table) (goal : Formula) (rules : List Rule) : Type 0 where
  pub count : ℕ
  pub longer : length large.variables ≡ length small.variables + count
  pub brought_are : brought rules ≡ numbers_from (length small.variables) count
  pub each : (first : ℕ) → first ≤ length small.variables → (wide : Table) → IsWider large wide → Each (NamesParts wide first goal) rules
