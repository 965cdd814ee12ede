-- A counter and its implementation, to be checked by hand: reset sets n to 0, setmax to 10, get answers n.
use Rattle.std.specs.Prelude.{ℕ, pos, List, [], ◌∷◌}
use Rattle.bk_val.specs.ValueType.{int_type}
use Rattle.bk_form.specs.Table.{Table, VariableEntry}
use Rattle.bk_form.specs.Formula.{Formula, variable, literal, binary, btrue, bfalse}
use Rattle.bk_form.specs.declared.operator.BinOp.TheVariants.{In, Range}
use Rattle.bk_gsl.specs.Substitution.{assign}
use Rattle.bk_dev.specs.declared.kind.Kind.{Kind}
use Rattle.bk_dev.specs.declared.kind.Kind.TheVariants.{Machine, Implementation}
use Rattle.bk_dev.specs.declared.kind.Home.TheVariants.{Abstract, Inner, Concrete}
use Rattle.bk_dev.specs.Development.{Body, Level, Development, default_max}
use Rattle.bk_dev.specs.Machine.{Call}

-- a number of a level, whose text is its name, a dollar sign and the level
abbrev pub number_at : ℕ → ℕ → VariableEntry
number_at name level = record { text = name ∷ 36 ∷ level ∷ []; of_type = int_type }

-- n$0 of the machine, n$1 of the implementation, and their outputs r$0 and r$1
abbrev pub counter_table : Table
counter_table = record {
  sets = [];
  variables = number_at 110 48 ∷ number_at 110 49 ∷ number_at 114 48 ∷ number_at 114 49 ∷ [];
}

-- Counter, Counter_i, reset, setmax and get
abbrev pub machine_name : List ℕ
machine_name = 67 ∷ 111 ∷ 117 ∷ 110 ∷ 116 ∷ 101 ∷ 114 ∷ []

-- Counter_i
abbrev pub implementation_name : List ℕ
implementation_name = 67 ∷ 111 ∷ 117 ∷ 110 ∷ 116 ∷ 101 ∷ 114 ∷ 95 ∷ 105 ∷ []

-- reset
abbrev pub reset_name : List ℕ
reset_name = 114 ∷ 101 ∷ 115 ∷ 101 ∷ 116 ∷ []

-- setmax
abbrev pub setmax_name : List ℕ
setmax_name = 115 ∷ 101 ∷ 116 ∷ 109 ∷ 97 ∷ 120 ∷ []

-- get
abbrev pub get_name : List ℕ
get_name = 103 ∷ 101 ∷ 116 ∷ []

-- an operation with this precondition that sets variable x
abbrev pub setting : Formula → ℕ → Formula → Body
setting condition x f = record { condition = condition; sub = assign ((x, f) ∷ []); outputs = [] }

-- one level, with n and r by their numbers, and the precondition of setmax
abbrev pub counter_level : Formula → List ℕ → Kind → ℕ → ℕ → List (ℕ × ℕ) → Level
counter_level condition name kind n r links = record {
  name = name;
  kind = kind;
  vars = n ∷ [];
  properties = btrue;
  invariant = binary In (variable n) (binary Range (literal (pos 0)) (literal (pos 10)));
  links = links;
  assertions = [];
  init = assign ((n, literal (pos 0)) ∷ []);
  bodies =
      setting btrue n (literal (pos 0))
      ∷ setting condition n (literal (pos 10))
      ∷ record { condition = btrue; sub = assign ((r, variable n) ∷ []); outputs = r ∷ [] }
      ∷ [];
}

-- the counter whose setmax has this precondition
abbrev pub counter_with : Formula → Development
counter_with condition = record {
  max = default_max;
  table = counter_table;
  homes = Abstract 0 ∷ Concrete 1 ∷ Inner 0 ∷ Inner 1 ∷ [];
  sets = [];
  heads =
      record { name = reset_name; inputs = []; outputs = 0 }
      ∷ record { name = setmax_name; inputs = []; outputs = 0 }
      ∷ record { name = get_name; inputs = []; outputs = 1 }
      ∷ [];
  levels =
      counter_level condition machine_name Machine 0 2 []
      ∷ counter_level btrue implementation_name Implementation 1 3 ((1, 0) ∷ [])
      ∷ [];
  values = [];
  extents = (0, 3) ∷ (0, 4) ∷ [];
}

-- the counter whose setmax may always be called
abbrev pub counter : Development
counter = counter_with btrue

-- the counter whose setmax must never be called
abbrev pub forbidden : Development
forbidden = counter_with bfalse

-- a call of setmax, which takes no arguments
abbrev pub setmax : Call
setmax = record { op = 1; args = [] }

-- a call of get, which takes no arguments
abbrev pub get : Call
get = record { op = 2; args = [] }
