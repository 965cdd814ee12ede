-- A family of developments for tests, one for each statement of the operation `step`. The implementation has the numbers i and j,
-- the truth value b and the array f : 0..2; step has an input k and, after its statement, answers i, j, b and the elements of f.
-- The machine does nothing.
use Rattle.std.specs.Prelude.{◌≡◌, ◌≤◌, ◌<◌, ℕ, suc, pos, Bool, true, false, ◌||◌, List, [], ◌∷◌, take, codes}
use Rattle.bk_val.specs.ValueType.{int_type, bool_type, pair_type, set_type}
use Rattle.bk_form.specs.Table.{Table, VariableEntry}
use Rattle.bk_form.specs.Formula.{Formula, variable, literal, truth_value, named, btrue, unary, binary}
use Rattle.bk_form.specs.Predicates.{IsPredicate}
use Rattle.bk_form.specs.declared.operator.UnOp.TheVariants.{Single}
use Rattle.bk_form.specs.declared.operator.BinOp.{BinOp}
use Rattle.bk_form.specs.declared.operator.BinOp.TheVariants.{And, Or, Eq, Lt, Le, In, Add, Sub, Mul, Div, Mod}
use Rattle.bk_form.specs.declared.operator.BinOp.TheVariants.{TotalFunctions, Range, Times, Apply, Over, Maps}
use Rattle.bk_form.specs.declared.operator.Domain.TheVariants.{Integer}
use Rattle.bk_gsl.specs.Flat.{copied}
use Rattle.bk_gsl.specs.State.{among}
use Rattle.bk_gsl.specs.Substitution.{Substitution, skip, assign, any, seq, loop}
use Rattle.bk_gsl.specs.Typed.{IsTerm, Types}
use Rattle.bk_dev.specs.declared.kind.Home.{Home}
use Rattle.bk_dev.specs.declared.kind.Kind.TheVariants.{Machine, Implementation}
use Rattle.bk_dev.specs.declared.kind.Home.TheVariants.{Input, Concrete, Inner}
use Rattle.bk_dev.specs.B0.{IsExpression, IsCondition, IsB0, operators_down, EvaluatesShallow}
use Rattle.bk_dev.specs.Development.{Level, Development, default_max}
use Rattle.bk_dev.specs.Facts.{Names, StaysIn, binders, LoopsStandIn, MayStandIn, names_joined, names_own, writes_own}
use Rattle.bk_dev.specs.Layout.{arrays_of}

-- ---- the table
abbrev pub number_named : List ℕ → VariableEntry
number_named text = record { text = text; of_type = int_type }

abbrev pub truth_named : List ℕ → VariableEntry
truth_named text = record { text = text; of_type = bool_type }

-- i, j, b and f are 0 to 3, k is 4, the machine's outputs are 5 to 10, the implementation's 11 to 16, and eight locals are 17 to 24
abbrev pub family_table : Table
family_table = record {
  sets = [];
  variables = number_named (codes "i") ∷ number_named (codes "j") ∷ truth_named (codes "b") ∷
      record { text = codes "f"; of_type = set_type (pair_type int_type int_type) } ∷ number_named (codes "k")
      ∷ number_named (codes "p$0") ∷ number_named (codes "q$0") ∷ truth_named (codes "r$0") ∷
      number_named (codes "s$0") ∷ number_named (codes "t$0") ∷ number_named (codes "u$0")
      ∷ number_named (codes "p$1") ∷ number_named (codes "q$1") ∷ truth_named (codes "r$1") ∷
      number_named (codes "s$1") ∷ number_named (codes "t$1") ∷ number_named (codes "u$1")
      ∷ number_named (codes "l0") ∷ number_named (codes "l1") ∷ number_named (codes "l2") ∷ number_named (codes "l3") ∷
      number_named (codes "l4") ∷ number_named (codes "l5") ∷ number_named (codes "l6") ∷ number_named (codes "l7") ∷ [];
}

-- its first variables
abbrev pub first_rows : ℕ → Table
first_rows n = record { sets = []; variables = take n family_table.variables }

abbrev pub family_homes : List Home
family_homes = Concrete 1 ∷ Concrete 1 ∷ Concrete 1 ∷ Concrete 1 ∷ Input
    ∷ Inner 0 ∷ Inner 0 ∷ Inner 0 ∷ Inner 0 ∷ Inner 0 ∷ Inner 0
    ∷ Inner 1 ∷ Inner 1 ∷ Inner 1 ∷ Inner 1 ∷ Inner 1 ∷ Inner 1
    ∷ Inner 1 ∷ Inner 1 ∷ Inner 1 ∷ Inner 1 ∷ Inner 1 ∷ Inner 1 ∷ Inner 1 ∷ Inner 1 ∷ []

-- the machine sees the first eleven, and the implementation all
abbrev pub family_extents : List (ℕ × ℕ)
family_extents = (0, 11) ∷ (0, 25) ∷ []

-- ---- the components
abbrev pub machine_outputs : List ℕ
machine_outputs = 5 ∷ 6 ∷ 7 ∷ 8 ∷ 9 ∷ 10 ∷ []

abbrev pub code_outputs : List ℕ
code_outputs = 11 ∷ 12 ∷ 13 ∷ 14 ∷ 15 ∷ 16 ∷ []

-- one variable becomes the value of a term
abbrev pub set_to : ℕ → Formula → Substitution
set_to x f = assign ((x, f) ∷ [])

-- the domain of f
abbrev pub zero_to_two : Formula
zero_to_two = binary Range (literal (pos 0)) (literal (pos 2))

-- f(n)
abbrev pub element_at : ℕ → Formula
element_at n = binary Apply (variable 3) (literal (pos n))

-- the outputs become i, j, b, f(0), f(1) and f(2)
abbrev pub answering : Substitution
answering = seq (set_to 11 (variable 0)) (seq (set_to 12 (variable 1))
    (seq (set_to 13 (variable 2)) (seq (set_to 14 (element_at 0)) (seq (set_to 15 (element_at 1)) (set_to 16 (element_at 2))))))

-- f : 0..2 --> INTEGER
abbrev pub is_array : Formula
is_array = binary In (variable 3) (binary TotalFunctions zero_to_two (named Integer))

-- 0..2 * {0}
abbrev pub all_zero : Formula
all_zero = binary Times zero_to_two (unary Single (literal (pos 0)))

-- i := 0 ; j := 0 ; b := FALSE ; f := 0..2 * {0}
abbrev pub starting : Substitution
starting = seq (set_to 0 (literal (pos 0))) (seq (set_to 1 (literal (pos 0))) (seq (set_to 2 (truth_value false)) (set_to 3 all_zero)))

abbrev pub family_machine : Level
family_machine = record {
  name = codes "Family";
  kind = Machine;
  vars = [];
  properties = btrue;
  invariant = btrue;
  links = [];
  assertions = [];
  init = skip;
  bodies = record { condition = btrue; sub = skip; outputs = machine_outputs } ∷ [];
}

abbrev pub family_code : Substitution → Level
family_code s = record {
  name = codes "Family_i";
  kind = Implementation;
  vars = 0 ∷ 1 ∷ 2 ∷ 3 ∷ [];
  properties = btrue;
  invariant = is_array;
  links = [];
  assertions = [];
  init = starting;
  bodies = record { condition = btrue; sub = seq s answering; outputs = code_outputs } ∷ [];
}

-- the development whose step does s
abbrev pub family : Substitution → Development
family s = record {
  max = default_max;
  table = family_table;
  homes = family_homes;
  sets = [];
  heads = record { name = codes "step"; inputs = 4 ∷ []; outputs = 6 } ∷ [];
  levels = family_machine ∷ family_code s ∷ [];
  values = [];
  extents = family_extents;
}

-- ---- what is drawn
-- what a term may name where these locals are visible, the innermost first
abbrev pub seen : List ℕ → ℕ → Bool
seen [] n = names_own (family skip) 1 (4 ∷ []) code_outputs n
seen (z ∷ zs) n = among (z ∷ []) n || seen zs n

-- what a statement may write there
abbrev pub writable : List ℕ → ℕ → Bool
writable [] n = writes_own (family skip) 1 code_outputs n
writable (z ∷ zs) n = among (z ∷ []) n || writable zs n

-- locals from 17 up to this number, without it
abbrev pub AreLocals : List ℕ → ℕ → Type 0
AreLocals zs end = (n : ℕ) → among zs n ≡ true → (17 ≤ n) × (n < end)

-- ---- operators
-- an operator on two numbers that gives a number
abbrev pub IsArithmetic : BinOp → Type 0
IsArithmetic Add = Unit {0}
IsArithmetic Sub = Unit {0}
IsArithmetic Mul = Unit {0}
IsArithmetic Div = Unit {0}
IsArithmetic Mod = Unit {0}
IsArithmetic _ = ⊥

-- a comparison of numbers
abbrev pub IsComparison : BinOp → Type 0
IsComparison Eq = Unit {0}
IsComparison Lt = Unit {0}
IsComparison Le = Unit {0}
IsComparison _ = ⊥

-- & and or
abbrev pub IsConnective : BinOp → Type 0
IsConnective And = Unit {0}
IsConnective Or = Unit {0}
IsConnective _ = ⊥

-- numbers that rise from low on, and stay below high
abbrev pub Rise : ℕ → ℕ → List ℕ → Type 0
Rise low high [] = low ≤ high
Rise low high (n ∷ ns) = (low ≤ n) × Rise (suc n) high ns

-- a number that every development of the family may execute, with at most so many operators on one way down
pub record IsNumber (locals : List ℕ) (d : ℕ) (f : Formula) : Type 0 where
  pub term : IsTerm family_table int_type f
  pub names : Names (seen locals) f
  pub executed : (t : Substitution) → IsExpression (family t) f
  pub depth : operators_down f ≤ d

-- a condition that they may execute, with at most so many operators on one way down
pub record IsTest (locals : List ℕ) (d : ℕ) (p : Formula) : Type 0 where
  pub predicate : IsPredicate family_table p
  pub names : Names (seen locals) p
  pub executed : (t : Substitution) → IsCondition (family t) p
  pub depth : operators_down p ≤ d

-- a statement of their B0 over these locals, which binds others from `from` up to `end`, without `end`
pub record IsDrawn (locals : List ℕ) (from end : ℕ) (s : Substitution) : Type 0 where
  pub types : Types family_table s
  pub stays : StaysIn (seen locals) (names_joined (family skip) 1) (writable locals) s
  pub loops : LoopsStandIn Implementation s
  pub shape : MayStandIn Implementation s
  pub binds : Rise from end (binders s)
  pub flat : copied s ≡ []
  pub b0 : (t : Substitution) → IsB0 (family t) s
  pub shallow : EvaluatesShallow (arrays_of (family skip)) s

-- a number that names no local, over any locals
abbrev pub IsNumberAnywhere : Formula → Type 0
IsNumberAnywhere f = (locals : List ℕ) (d : ℕ) → IsNumber locals d f

-- VAR z IN z := start ; s END
abbrev pub local_block : ℕ → Formula → Substitution → Substitution
local_block z start s = any (z ∷ []) (seq (set_to z start) s)

-- 0 < z
abbrev pub is_left : ℕ → Formula
is_left z = binary Lt (literal (pos 0)) (variable z)

-- VAR z IN z := turns ; WHILE 0 < z DO s ; z := z - 1 INVARIANT btrue VARIANT z END END
abbrev pub counted_turns : ℕ → Formula → Substitution → Substitution
counted_turns z turns s =
    local_block z turns (loop (is_left z) (seq s (set_to z (binary Sub (variable z) (literal (pos 1))))) btrue (variable z))

-- f(index) := value
abbrev pub element_write : Formula → Formula → Substitution
element_write index value = set_to 3 (binary Over (variable 3) (unary Single (binary Maps index value)))

-- it is one of the family, with a statement that is drawn
pub record IsFamily (dev : Development) : Type 0 where
  pub step : Substitution
  pub drawn : IsDrawn [] 17 25 step
  pub is : dev ≡ family step
