-- The code of each construct, and of two small implementations, to be checked by hand against the table of code.
use Rattle.std.specs.Prelude.{◌≡◌, ℕ, suc, pos, neg_ℤ, nat_eq, cond, true, false, List, [], ◌∷◌, Some, None, codes}
use Rattle.bk_limits.specs.declared.TheConstants.{MOST_CELLS}
use Rattle.bk_val.specs.ValueType.{ValueType, int_type, enum_type, pair_type, set_type}
use Rattle.bk_form.specs.Table.{VariableEntry}
use Rattle.bk_form.specs.Formula.{Formula, variable, literal, truth_value, element, named, btrue, unary, binary}
use Rattle.bk_form.specs.declared.arrays.ArrayDomain.TheVariants.{Interval}
use Rattle.bk_form.specs.declared.operator.UnOp.TheVariants.{Not, BoolOf, Neg as Negative, Single}
use Rattle.bk_form.specs.declared.operator.BinOp.TheVariants.{And, Or, Eq as Equal, Lt as Less, Le as LessOrEqual, Add as Sum}
use Rattle.bk_form.specs.declared.operator.BinOp.TheVariants.{Sub as Difference, Mul as Product, Div as Quotient, Mod as Remainder}
use Rattle.bk_form.specs.declared.operator.BinOp.TheVariants.{Apply, Times, Over, Maps, In, Range, TotalFunctions}
use Rattle.bk_form.specs.declared.operator.Domain.TheVariants.{Integer as Numbers, Enum}
use Rattle.bk_gsl.specs.Substitution.{Substitution, skip, assign, if_else, any, seq, assert, loop}
use Rattle.bk_dev.specs.declared.kind.Kind.{Kind}
use Rattle.bk_dev.specs.declared.kind.Kind.TheVariants.{Machine, Implementation}
use Rattle.bk_dev.specs.declared.kind.Home.TheVariants.{Input, Abstract, Inner, Concrete}
use Rattle.bk_dev.specs.Development.{Body, Level, Development, default_max}
use Rattle.bk_code.specs.declared.image.CellKind.TheVariants.{Integer, Set}
use Rattle.bk_code.specs.declared.instruction.Inst.TheVariants.{Push, Load, Store, ALoad, AStore, Add, Sub, Mul, Div, Mod}
use Rattle.bk_code.specs.declared.instruction.Inst.TheVariants.{Neg, Eq, Lt, Le, Not as Invert, Jump, JumpZero, Ret}
use Rattle.bk_b0.specs.Places.{Places, placed_value, placed_statement}
use Rattle.bk_b0.specs.Translation.{translation}
use Rattle.bk_b0.specs.CodeUnit.{unit_of, slots_cells, unit_places}
use Rattle.bk_gen.specs.Sizes.{block_size}

-- ---- each construct
-- the constant 0 is 5, and 3 is an array over 2..5 in the cells 3 to 6
abbrev pub sample_places : Places
sample_places = record {
  values = (0, literal (pos 5)) ∷ [];
  row = λ x. cond (nat_eq x 3) (Some (record { var = 3; domain = Interval (pos 2) (pos 5) })) None;
  first_cell = λ x. x;
  cells = λ x. cond (nat_eq x 3) 4 1;
  kind = λ x. Integer;
}

-- the scalars x and y, and the condition x < y
abbrev pub first_number : Formula
first_number = variable 7

-- the second number of the samples
abbrev pub second_number : Formula
second_number = variable 8

-- the first number is less than the second
abbrev pub is_below : Formula
is_below = binary Less first_number second_number

-- x := 1, and y := 2
abbrev pub set_one : Substitution
set_one = assign ((7, literal (pos 1)) ∷ [])

-- the second number becomes 2
abbrev pub set_two : Substitution
set_two = assign ((8, literal (pos 2)) ∷ [])

-- each construct with its code
pub record ConstructsCode : Type 0 where
  pub number : placed_value sample_places (literal (neg_ℤ (pos 7))) ≡ Push (neg_ℤ (pos 7)) ∷ []
  pub falsity : placed_value sample_places (truth_value false) ≡ Push (pos 0) ∷ []
  pub truth : placed_value sample_places (truth_value true) ≡ Push (pos 1) ∷ []
  pub third : placed_value sample_places (element 0 2) ≡ Push (pos 2) ∷ []
  pub constant : placed_value sample_places (variable 0) ≡ Push (pos 5) ∷ []
  pub name : placed_value sample_places first_number ≡ Load 7 ∷ []
  pub read : placed_value sample_places (binary Apply (variable 3) first_number) ≡ Load 7 ∷ ALoad 3 (pos 2) 4 ∷ []
  pub sum : placed_value sample_places (binary Sum first_number second_number) ≡ Load 7 ∷ Load 8 ∷ Add ∷ []
  pub difference : placed_value sample_places (binary Difference first_number second_number) ≡ Load 7 ∷ Load 8 ∷ Sub ∷ []
  pub product : placed_value sample_places (binary Product first_number second_number) ≡ Load 7 ∷ Load 8 ∷ Mul ∷ []
  pub quotient : placed_value sample_places (binary Quotient first_number second_number) ≡ Load 7 ∷ Load 8 ∷ Div ∷ []
  pub remainder : placed_value sample_places (binary Remainder first_number second_number) ≡ Load 7 ∷ Load 8 ∷ Mod ∷ []
  pub negative : placed_value sample_places (unary Negative first_number) ≡ Load 7 ∷ Neg ∷ []
  pub boolean : placed_value sample_places (unary BoolOf is_below) ≡ Load 7 ∷ Load 8 ∷ Lt ∷ []
  pub equal : placed_value sample_places (binary Equal first_number second_number) ≡ Load 7 ∷ Load 8 ∷ Eq ∷ []
  pub less : placed_value sample_places is_below ≡ Load 7 ∷ Load 8 ∷ Lt ∷ []
  pub at_most : placed_value sample_places (binary LessOrEqual first_number second_number) ≡ Load 7 ∷ Load 8 ∷ Le ∷ []
  pub opposite : placed_value sample_places (unary Not is_below) ≡ Load 7 ∷ Load 8 ∷ Lt ∷ Invert ∷ []
  pub both : placed_value sample_places (binary And is_below is_below) ≡
      Load 7 ∷ Load 8 ∷ Lt ∷ JumpZero (pos 5) ∷ Load 7 ∷ Load 8 ∷ Lt ∷ Jump (pos 2) ∷ Push (pos 0) ∷ []
  pub either : placed_value sample_places (binary Or is_below is_below) ≡
      Load 7 ∷ Load 8 ∷ Lt ∷ JumpZero (pos 3) ∷ Push (pos 1) ∷ Jump (pos 4) ∷ Load 7 ∷ Load 8 ∷ Lt ∷ []
  pub set : placed_statement sample_places set_one ≡ Push (pos 1) ∷ Store 7 ∷ []
  pub element_set : placed_statement sample_places
      (assign ((3, binary Over (variable 3) (unary Single (binary Maps first_number second_number))) ∷ [])) ≡
      Load 7 ∷ Load 8 ∷ AStore 3 (pos 2) 4 ∷ []
  pub filled : placed_statement sample_places
      (assign ((3, binary Times (binary Range (literal (pos 2)) (literal (pos 5))) (unary Single (variable 0))) ∷ [])) ≡
      Push (pos 5) ∷ Store 3 ∷ Push (pos 5) ∷ Store 4 ∷ Push (pos 5) ∷ Store 5 ∷ Push (pos 5) ∷ Store 6 ∷ []
  pub nothing : placed_statement sample_places skip ≡ []
  pub sequence : placed_statement sample_places (seq set_one set_two) ≡ Push (pos 1) ∷ Store 7 ∷ Push (pos 2) ∷ Store 8 ∷ []
  pub local : placed_statement sample_places (any (7 ∷ []) set_one) ≡ Push (pos 1) ∷ Store 7 ∷ []
  pub assertion : placed_statement sample_places (assert is_below set_one) ≡ Push (pos 1) ∷ Store 7 ∷ []
  pub branches : placed_statement sample_places (if_else is_below set_one set_two) ≡
      Load 7 ∷ Load 8 ∷ Lt ∷ JumpZero (pos 4) ∷ Push (pos 1) ∷ Store 7 ∷ Jump (pos 3) ∷ Push (pos 2) ∷ Store 8 ∷ []
  pub repetition : placed_statement sample_places (loop is_below set_one btrue first_number) ≡
      Load 7 ∷ Load 8 ∷ Lt ∷ JumpZero (pos 4) ∷ Push (pos 1) ∷ Store 7 ∷ Jump (neg_ℤ (pos 6)) ∷ []

-- ---- a table of ten numbers
-- (0..9) * {n}
abbrev pub filled_with : ℕ → Formula
filled_with n = binary Times (binary Range (literal (pos 0)) (literal (pos 9))) (unary Single (literal (pos n)))

-- a variable of the table: its name and its type
abbrev pub named_entry : List ℕ → ValueType → VariableEntry
named_entry text t = record { text = text; of_type = t }

-- arrays of numbers over an interval
abbrev pub array_type : ValueType
array_type = set_type (pair_type int_type int_type)

-- f : 0..9 --> INTEGER
abbrev pub is_array : ℕ → Formula
is_array f = binary In (variable f) (binary TotalFunctions (binary Range (literal (pos 0)) (literal (pos 9))) (named Numbers))

-- a level without links, properties and assertions
abbrev pub plain_level : List ℕ → Kind → ℕ → Formula → Substitution → List Body → Level
plain_level name kind v invariant init bodies = record {
  name = name;
  kind = kind;
  vars = v ∷ [];
  properties = btrue;
  invariant = invariant;
  links = [];
  assertions = [];
  init = init;
  bodies = bodies;
}

-- a body without a precondition
abbrev pub plain_body : Substitution → List ℕ → Body
plain_body s outputs = record { condition = btrue; sub = s; outputs = outputs }

-- VAR i IN i := 0 ; WHILE i < 10 DO tab(i) := 7 ; i := i + 1 END END, with tab and i by these numbers
abbrev pub filling : ℕ → ℕ → Substitution
filling tab i = any (i ∷ []) (seq (assign ((i, literal (pos 0)) ∷ []))
    (loop (binary Less (variable i) (literal (pos 10)))
    (seq (assign ((tab, binary Over (variable tab) (unary Single (binary Maps (variable i) (literal (pos 7))))) ∷ []))
    (assign ((i, binary Sum (variable i) (literal (pos 1))) ∷ [])))
    btrue (binary Difference (literal (pos 10)) (variable i))))

-- f is the variable 0, and tab the variable 1; fill has the local 2, read(i) the input 3 and the outputs 4 and 5
abbrev pub numbers : Development
numbers = record {
  max = default_max;
  table = record {
    sets = [];
    variables = named_entry (codes "f$0") array_type ∷ named_entry (codes "tab$1") array_type ∷ named_entry (codes "$1") int_type ∷
        named_entry (codes "i") int_type ∷ named_entry (codes "r$0") int_type ∷ named_entry (codes "r$1") int_type ∷ [];
  };
  homes = Abstract 0 ∷ Concrete 1 ∷ Inner 1 ∷ Input ∷ Inner 0 ∷ Inner 1 ∷ [];
  sets = [];
  heads = record { name = codes "fill"; inputs = []; outputs = 0 } ∷ record { name = codes "read"; inputs = 3 ∷ []; outputs = 1 } ∷ [];
  levels =
      plain_level (codes "Table") Machine 0 (is_array 0) (assign ((0, filled_with 0) ∷ [])) (plain_body
      (assign ((0, filled_with 7) ∷ [])) [] ∷ plain_body (assign ((4, binary Apply (variable 0) (variable 3)) ∷ [])) (4 ∷ []) ∷ [])
      ∷ plain_level (codes "Table_i") Implementation 1
      (binary And (is_array 1) (binary Equal (variable 1) (variable 0))) (assign ((1, filled_with 0) ∷ []))
      (plain_body (filling 1 2) [] ∷ plain_body (assign ((5, binary Apply (variable 1) (variable 3)) ∷ [])) (5 ∷ []) ∷ [])
      ∷ [];
  values = [];
  extents = (0, 5) ∷ (0, 6) ∷ [];
}

-- tab is in the cells 0 to 9, the local of fill in 10, the input of read in 11 and its output in 12
abbrev pub TableCode : Type 0
TableCode = translation numbers ≡ record {
  max = default_max;
  cells = 13;
  sets = [];
  ops = record { name = codes "fill"; start = 21; inputs = []; outputs = [] }
      ∷ record {
        name = codes "read";
        start = 36;
        inputs = record { kind = Integer; slot = 11 } ∷ [];
        outputs = record { kind = Integer; slot = 12 } ∷ [];
      }
      ∷ [];
  code = Push (pos 0) ∷ Store 0 ∷ Push (pos 0) ∷ Store 1 ∷ Push (pos 0) ∷ Store 2 ∷ Push (pos 0) ∷ Store 3 ∷ Push (pos 0) ∷ Store 4
      ∷ Push (pos 0) ∷ Store 5 ∷ Push (pos 0) ∷ Store 6 ∷ Push (pos 0) ∷ Store 7 ∷ Push (pos 0) ∷ Store 8 ∷ Push (pos 0) ∷ Store 9 ∷ Ret
      ∷ Push (pos 0) ∷ Store 10
      ∷ Load 10 ∷ Push (pos 10) ∷ Lt ∷ JumpZero (pos 9)
      ∷ Load 10 ∷ Push (pos 7) ∷ AStore 0 (pos 0) 10 ∷ Load 10 ∷ Push (pos 1) ∷ Add ∷ Store 10 ∷ Jump (neg_ℤ (pos 11)) ∷ Ret
      ∷ Load 11 ∷ ALoad 0 (pos 0) 10 ∷ Store 12 ∷ Ret
      ∷ [];
}

-- ---- a lamp of three colours
-- red, amber and green
abbrev pub colour : ℕ → Formula
colour n = element 0 n

-- c := colour n
abbrev pub shows : ℕ → ℕ → Substitution
shows c n = assign ((c, colour n) ∷ [])

-- IF c = red THEN c := green ELSIF c = green THEN c := amber ELSE c := red END
abbrev pub turning : ℕ → Substitution
turning c =
    if_else (binary Equal (variable c) (colour 0)) (shows c 2) (if_else (binary Equal (variable c) (colour 2)) (shows c 1) (shows c 0))

-- a level of the lamp
abbrev pub lamp_level : List ℕ → Kind → ℕ → ℕ → Level
lamp_level name kind c output = plain_level name kind c (binary In (variable c) (named (Enum 0))) (shows c 0)
    (plain_body (turning c) [] ∷ plain_body (assign ((output, variable c) ∷ [])) (output ∷ []) ∷ [])

-- col is the variable 0 above and 1 below; show has the outputs 2 and 3
abbrev pub lamp : Development
lamp = record {
  max = default_max;
  table = record {
    sets = record { name = codes "COLOR"; elements = codes "red" ∷ codes "amber" ∷ codes "green" ∷ []; size = 3 } ∷ [];
    variables = named_entry (codes "col$0") (enum_type 0) ∷ named_entry (codes "col$1") (enum_type 0) ∷
        named_entry (codes "cc$0") (enum_type 0) ∷ named_entry (codes "cc$1") (enum_type 0) ∷ [];
  };
  homes = Abstract 0 ∷ Concrete 1 ∷ Inner 0 ∷ Inner 1 ∷ [];
  sets = record { name = codes "COLOR"; elements = codes "red" ∷ codes "amber" ∷ codes "green" ∷ []; size = 3 } ∷ [];
  heads = record { name = codes "next"; inputs = []; outputs = 0 } ∷ record { name = codes "show"; inputs = []; outputs = 1 } ∷ [];
  levels = lamp_level (codes "Lamp") Machine 0 2 ∷ lamp_level (codes "Lamp_i") Implementation 1 3 ∷ [];
  values = [];
  extents = (1, 3) ∷ (1, 4) ∷ [];
}

-- col is in the cell 0, and the output in 1; a colour is its number from 0
abbrev pub LampCode : Type 0
LampCode = translation lamp ≡ record {
  max = default_max;
  cells = 2;
  sets = (codes "red" ∷ codes "amber" ∷ codes "green" ∷ []) ∷ [];
  ops = record { name = codes "next"; start = 3; inputs = []; outputs = [] }
      ∷ record { name = codes "show"; start = 20; inputs = []; outputs = record { kind = Set 0; slot = 1 } ∷ [] }
      ∷ [];
  code = Push (pos 0) ∷ Store 0 ∷ Ret
      ∷ Load 0 ∷ Push (pos 0) ∷ Eq ∷ JumpZero (pos 4) ∷ Push (pos 2) ∷ Store 0 ∷ Jump (pos 10)
      ∷ Load 0 ∷ Push (pos 2) ∷ Eq ∷ JumpZero (pos 4) ∷ Push (pos 1) ∷ Store 0 ∷ Jump (pos 3) ∷ Push (pos 0) ∷ Store 0 ∷ Ret
      ∷ Load 0 ∷ Store 1 ∷ Ret
      ∷ [];
}

-- ---- limits
-- f : 0..999999 --> INTEGER
abbrev pub is_large : ℕ → Formula
is_large f = binary In (variable f) (binary TotalFunctions (binary Range (literal (pos 0)) (literal (pos 999999))) (named Numbers))

-- a level with a large array and a number
abbrev pub large_level : List ℕ → Kind → ℕ → ℕ → Substitution → Level
large_level name kind f n init = record (plain_level name kind f (is_large f) init []) { vars = f ∷ n ∷ [] }

-- the array is the variable 0 above and 2 below, the number 1 and 3; the implementation is initialised so
abbrev pub large : Substitution → Development
large init = record {
  max = default_max;
  table = record {
    sets = [];
    variables = named_entry (codes "f$0") array_type ∷ named_entry (codes "n$0") int_type ∷
        named_entry (codes "f$1") array_type ∷ named_entry (codes "n$1") int_type ∷ [];
  };
  homes = Abstract 0 ∷ Abstract 0 ∷ Concrete 1 ∷ Concrete 1 ∷ [];
  sets = [];
  heads = [];
  levels = large_level (codes "Large") Machine 0 1 skip ∷ large_level (codes "Large_i") Implementation 2 3 init ∷ [];
  values = [];
  extents = (0, 2) ∷ (0, 4) ∷ [];
}

-- f := (0..999999) * {0}
abbrev pub large_fill : Substitution
large_fill = assign ((2, binary Times (binary Range (literal (pos 0)) (literal (pos 999999))) (unary Single (literal (pos 0)))) ∷ [])

-- with skip there is a cell more than MOST_CELLS and one instruction; a fill has two instructions for each cell of the array
pub record LimitsCode : Type 0 where
  pub cells : slots_cells (unit_of (large skip)).slots ≡ suc MOST_CELLS
  pub few : block_size (unit_places (unit_of (large skip))) skip ≡ 1
  pub many : block_size (unit_places (unit_of (large large_fill))) large_fill ≡ 2000001
