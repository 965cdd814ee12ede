-- What small developments and substitutions are translated to, as statements.
use Rattle.std.specs.Prelude.{◌≡◌, ℕ, ◌<◌, ◌≤◌, pos, neg_ℤ, ◌≤ℤ◌, List, [], ◌∷◌, length}
use Rattle.bk_limits.specs.declared.TheConstants.{MOST_INSTRUCTIONS, MOST_CELLS}
use Rattle.bk_form.specs.Table.{set_size}
use Rattle.bk_form.specs.Formula.{variable, literal, binary, btrue}
use Rattle.bk_form.specs.declared.operator.BinOp.TheVariants.{And, Or, Lt as Below, Add as Plus, Sub as Less, In, Range}
use Rattle.bk_gsl.specs.Substitution.{Substitution, skip, assign, if_else, loop}
use Rattle.bk_dev.specs.declared.kind.Kind.{Kind}
use Rattle.bk_dev.specs.declared.kind.Kind.TheVariants.{Machine, Implementation}
use Rattle.bk_dev.specs.declared.kind.Home.TheVariants.{Input, Abstract, Concrete}
use Rattle.bk_dev.specs.B0.{IsB0Development}
use Rattle.bk_dev.specs.Development.{Level, Development, int_max, default_max}
use Rattle.bk_dev.specs.Layout.{cell_count}
use Rattle.bk_dev.specs.Counter.{number_at, counter, reset_name, setmax_name, get_name}
use Rattle.bk_code.specs.Checks.{IsLoadable}
use Rattle.bk_code.specs.declared.image.CellKind.TheVariants.{Integer}
use Rattle.bk_code.specs.declared.instruction.Inst.TheVariants.{Push, Load, Store, Add, Sub, Lt, Jump, JumpZero, Ret}
use Rattle.bk_b0.specs.Translation.{value_code, statement_code, translation}
use Rattle.bk_dev.specs.Facts.{IsLawful, LastIsFlat}
use Rattle.bk_dev.specs.Flattened.{flattened}

-- the counter's code: the initialisation, reset, setmax and get
abbrev pub CounterCode : Type 0
CounterCode = translation counter ≡ record {
  max = default_max;
  cells = 2;
  sets = [];
  ops = record { name = reset_name; start = 3; inputs = []; outputs = [] }
      ∷ record { name = setmax_name; start = 6; inputs = []; outputs = [] }
      ∷ record { name = get_name; start = 9; inputs = []; outputs = record { kind = Integer; slot = 1 } ∷ [] }
      ∷ [];
  code = Push (pos 0) ∷ Store 0 ∷ Ret
      ∷ Push (pos 0) ∷ Store 0 ∷ Ret
      ∷ Push (pos 10) ∷ Store 0 ∷ Ret
      ∷ Load 0 ∷ Store 1 ∷ Ret
      ∷ [];
}

-- the operation add
abbrev pub add_name : List ℕ
add_name = 97 ∷ 100 ∷ 100 ∷ []

-- a level of the adder: n is 0 at first, and add has this body
abbrev pub adder_level : List ℕ → Kind → ℕ → List (ℕ × ℕ) → Substitution → Level
adder_level name kind n links body = record {
  name = name;
  kind = kind;
  vars = n ∷ [];
  properties = btrue;
  invariant = binary In (variable n) (binary Range (literal (pos 0)) (literal (pos 20)));
  links = links;
  assertions = [];
  init = assign ((n, literal (pos 0)) ∷ []);
  bodies = record { condition = btrue; sub = body; outputs = [] } ∷ [];
}

-- IF n < 10 THEN n := n + k END
abbrev pub adding : ℕ → ℕ → Substitution
adding n k = if_else (binary Below (variable n) (literal (pos 10))) (assign ((n, binary Plus (variable n) (variable k)) ∷ [])) skip

-- A and A_i with n$0 and n$1; add(k) adds its input to an n below 10
abbrev pub adder : Development
adder = record {
  max = default_max;
  table = record { sets = []; variables = number_at 110 48 ∷ number_at 110 49 ∷ number_at 107 48 ∷ [] };
  homes = Abstract 0 ∷ Concrete 1 ∷ Input ∷ [];
  sets = [];
  heads = record { name = add_name; inputs = 2 ∷ []; outputs = 0 } ∷ [];
  levels =
      adder_level (65 ∷ []) Machine 0 [] (adding 0 2) ∷ adder_level (65 ∷ 95 ∷ 105 ∷ []) Implementation 1 ((1, 0) ∷ []) (adding 1 2) ∷ [];
  values = [];
  extents = (0, 3) ∷ (0, 3) ∷ [];
}

-- n of the implementation is in cell 0, and the input in cell 1
abbrev pub AdderCode : Type 0
AdderCode = translation adder ≡ record {
  max = default_max;
  cells = 2;
  sets = [];
  ops = record { name = add_name; start = 3; inputs = record { kind = Integer; slot = 1 } ∷ []; outputs = [] } ∷ [];
  code = Push (pos 0) ∷ Store 0 ∷ Ret
      ∷ Load 0 ∷ Push (pos 10) ∷ Lt ∷ JumpZero (pos 6) ∷ Load 0 ∷ Load 1 ∷ Add ∷ Store 0 ∷ Jump (pos 1) ∷ Ret
      ∷ [];
}

-- 0 < n & n < 10, where n is the counter's number, and the same with or
pub record TestsCode : Type 0 where
  pub both : value_code counter (binary And (binary Below (literal (pos 0)) (variable 1)) (binary Below (variable 1) (literal (pos 10)))) ≡
      Push (pos 0) ∷ Load 0 ∷ Lt ∷ JumpZero (pos 5) ∷ Load 0 ∷ Push (pos 10) ∷ Lt ∷ Jump (pos 2) ∷ Push (pos 0) ∷ []
  pub either : value_code counter (binary Or (binary Below (literal (pos 0)) (variable 1)) (binary Below (variable 1) (literal (pos 10)))) ≡
      Push (pos 0) ∷ Load 0 ∷ Lt ∷ JumpZero (pos 3) ∷ Push (pos 1) ∷ Jump (pos 4) ∷ Load 0 ∷ Push (pos 10) ∷ Lt ∷ []
  -- IF 0 < n THEN n := 0 ELSE skip END
  pub branches : statement_code counter (if_else (binary Below (literal (pos 0)) (variable 1)) (assign ((1, literal (pos 0)) ∷ [])) skip) ≡
      Push (pos 0) ∷ Load 0 ∷ Lt ∷ JumpZero (pos 4) ∷ Push (pos 0) ∷ Store 0 ∷ Jump (pos 1) ∷ []

-- WHILE 0 < n DO n := n - 1 END: the last Jump leads back to the test
abbrev pub LoopCode : Type 0
LoopCode = statement_code counter (loop (binary Below (literal (pos 0)) (variable 1))
    (assign ((1, binary Less (variable 1) (literal (pos 1))) ∷ [])) btrue (variable 1)) ≡
    Push (pos 0) ∷ Load 0 ∷ Lt ∷ JumpZero (pos 6) ∷ Load 0 ∷ Push (pos 1) ∷ Sub ∷ Store 0 ∷ Jump (neg_ℤ (pos 8)) ∷ []

-- where no || stands in the last level, the translation of the flattened development is that of the development
abbrev pub FlattenedKeepsCode : Type 0
FlattenedKeepsCode = (dev : Development) → IsLawful dev → LastIsFlat dev → translation (flattened dev) ≡ translation dev

-- the indices of all elements are numbers of the machine
abbrev pub HasElementsInRange : Development → Type 0
HasElementsInRange dev = (s i : ℕ) → i < set_size dev.table s → pos i ≤ℤ int_max dev

-- a lawful development in B0 with at most MOST_CELLS cells and MOST_INSTRUCTIONS instructions
pub record IsWithinLoader (dev : Development) : Type 0 where
  pub lawful : IsLawful dev
  pub in_b0 : IsB0Development dev
  pub elements : HasElementsInRange dev
  pub cells : cell_count dev ≤ MOST_CELLS
  pub code : length (translation dev).code ≤ MOST_INSTRUCTIONS

-- the translation of a lawful development in B0 passes the loader's checks, where it has at most MOST_CELLS cells and
-- MOST_INSTRUCTIONS instructions
abbrev pub TranslationsLoad : Type 0
TranslationsLoad = (dev : Development) → IsWithinLoader dev → IsLoadable (translation dev)
