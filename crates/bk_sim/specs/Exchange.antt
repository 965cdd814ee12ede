-- A small development with ||, a fill, VAR, a loop and an array that is read, to be checked by hand: swap exchanges x and y.
use Rattle.std.specs.Prelude.{ℕ, pos, List, [], ◌∷◌, codes}
use Rattle.bk_val.specs.ValueType.{int_type, pair_type, set_type}
use Rattle.bk_form.specs.Table.{Table, VariableEntry}
use Rattle.bk_form.specs.Formula.{Formula, variable, literal, named, btrue, unary, binary}
use Rattle.bk_form.specs.declared.operator.UnOp.TheVariants.{Single}
use Rattle.bk_form.specs.declared.operator.BinOp.TheVariants.{And, Lt, Le, In, TotalFunctions, Range, Times, Sub, Apply}
use Rattle.bk_form.specs.declared.operator.Domain.TheVariants.{Integer}
use Rattle.bk_gsl.specs.Substitution.{Substitution, assign, any, seq, par, loop}
use Rattle.bk_dev.specs.declared.kind.Kind.TheVariants.{Machine, Implementation}
use Rattle.bk_dev.specs.declared.kind.Home.TheVariants.{Abstract, Concrete, Inner}
use Rattle.bk_dev.specs.Development.{Level, Development, default_max}

-- a variable that holds a whole number
abbrev pub number_named : List ℕ → VariableEntry
number_named text = record { text = text; of_type = int_type }

-- x$0 and y$0 of the machine, x$1, y$1 and the array f$1 of the implementation, and the local t
abbrev pub exchange_table : Table
exchange_table = record {
  sets = [];
  variables = number_named (codes "x$0") ∷ number_named (codes "y$0") ∷ number_named (codes "x$1") ∷ number_named (codes "y$1") ∷
      record { text = codes "f$1"; of_type = set_type (pair_type int_type int_type) } ∷ number_named (codes "t") ∷ [];
}

-- one variable becomes the value of a term
abbrev pub set_to : ℕ → Formula → Substitution
set_to x f = assign ((x, f) ∷ [])

-- the domain of f
abbrev pub zero_to_two : Formula
zero_to_two = binary Range (literal (pos 0)) (literal (pos 2))

-- x := 0 || y := 0 initially, and x := y || y := x
abbrev pub machine_level : Level
machine_level = record {
  name = codes "Exchange";
  kind = Machine;
  vars = 0 ∷ 1 ∷ [];
  properties = btrue;
  invariant = btrue;
  links = [];
  assertions = [];
  init = par (set_to 0 (literal (pos 0))) (set_to 1 (literal (pos 0)));
  bodies = record { condition = btrue; sub = par (set_to 0 (variable 1)) (set_to 1 (variable 0)); outputs = [] } ∷ [];
}

-- 0 < t
abbrev pub is_positive : Formula
is_positive = binary Lt (literal (pos 0)) (variable 5)

-- 0 <= t & t <= 5
abbrev pub is_up_to_five : Formula
is_up_to_five = binary And (binary Le (literal (pos 0)) (variable 5)) (binary Le (variable 5) (literal (pos 5)))

-- t - 1
abbrev pub one_less : Formula
one_less = binary Sub (variable 5) (literal (pos 1))

-- WHILE 0 < t DO t := t - 1 INVARIANT 0 <= t & t <= 5 VARIANT t END
abbrev pub counting_down : Substitution
counting_down = loop is_positive (set_to 5 one_less) is_up_to_five (variable 5)

-- t := x ; x := y ; y := t ; t := f(1) ; t := 5 ; WHILE .. END
abbrev pub swapping_steps : Substitution
swapping_steps = seq (set_to 5 (variable 2)) (seq (set_to 2 (variable 3)) (seq (set_to 3 (variable 5))
    (seq (set_to 5 (binary Apply (variable 4) (literal (pos 1)))) (seq (set_to 5 (literal (pos 5))) counting_down))))

-- VAR t IN these END
abbrev pub swapping : Substitution
swapping = any (5 ∷ []) swapping_steps

-- 0..2 * {0}
abbrev pub all_zero : Formula
all_zero = binary Times zero_to_two (unary Single (literal (pos 0)))

-- f : 0..2 --> INTEGER; x := 0 ; y := 0 ; f := 0..2 * {0} initially
abbrev pub code_level : Level
code_level = record {
  name = codes "Exchange_i";
  kind = Implementation;
  vars = 2 ∷ 3 ∷ 4 ∷ [];
  properties = btrue;
  invariant = binary In (variable 4) (binary TotalFunctions zero_to_two (named Integer));
  links = (2, 0) ∷ (3, 1) ∷ [];
  assertions = [];
  init = seq (set_to 2 (literal (pos 0))) (seq (set_to 3 (literal (pos 0))) (set_to 4 all_zero));
  bodies = record { condition = btrue; sub = swapping; outputs = [] } ∷ [];
}

-- the machine with || and its implementation
abbrev pub exchange : Development
exchange = record {
  max = default_max;
  table = exchange_table;
  homes = Abstract 0 ∷ Abstract 0 ∷ Concrete 1 ∷ Concrete 1 ∷ Concrete 1 ∷ Inner 1 ∷ [];
  sets = [];
  heads = record { name = codes "swap"; inputs = []; outputs = 0 } ∷ [];
  levels = machine_level ∷ code_level ∷ [];
  values = [];
  extents = (0, 2) ∷ (0, 6) ∷ [];
}
