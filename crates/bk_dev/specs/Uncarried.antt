-- Two developments whose implementation does not carry the machine, to be checked by hand. Each level has the numbers n and r, from 0 and
-- 1 on, which the implementation links to the machine's, and one operation, turn.
use Rattle.std.specs.Prelude.{ℕ, pos, List, [], ◌∷◌}
use Rattle.bk_form.specs.Formula.{Formula, variable, literal, binary, btrue}
use Rattle.bk_form.specs.declared.operator.BinOp.TheVariants.{Eq}
use Rattle.bk_gsl.specs.Substitution.{Substitution, assign, if_else, seq, par, assert}
use Rattle.bk_dev.specs.declared.kind.Kind.{Kind}
use Rattle.bk_dev.specs.declared.kind.Kind.TheVariants.{Machine, Implementation}
use Rattle.bk_dev.specs.declared.kind.Home.TheVariants.{Abstract, Concrete}
use Rattle.bk_dev.specs.Development.{Level, Development, default_max}
use Rattle.bk_dev.specs.Counter.{counter_table, machine_name, implementation_name}

-- a level with these two variables, whose operation does this
abbrev pub turning_level : List ℕ → Kind → ℕ → ℕ → List (ℕ × ℕ) → Substitution → Level
turning_level name kind n r links turn = record {
  name = name;
  kind = kind;
  vars = n ∷ r ∷ [];
  properties = btrue;
  invariant = btrue;
  links = links;
  assertions = [];
  init = assign ((n, literal (pos 0)) ∷ (r, literal (pos 1)) ∷ []);
  bodies = record { condition = btrue; sub = turn; outputs = [] } ∷ [];
}

-- a machine and its implementation whose operations do these
abbrev pub turning : Substitution → Substitution → Development
turning above below = record {
  max = default_max;
  table = counter_table;
  homes = Abstract 0 ∷ Concrete 1 ∷ Abstract 0 ∷ Concrete 1 ∷ [];
  sets = [];
  heads = record { name = 116 ∷ 117 ∷ 114 ∷ 110 ∷ []; inputs = []; outputs = 0 } ∷ [];
  levels =
      turning_level machine_name Machine 0 2 [] above
      ∷ turning_level implementation_name Implementation 1 3 ((1, 0) ∷ (3, 2) ∷ []) below
      ∷ [];
  values = [];
  extents = (0, 3) ∷ (0, 4) ∷ [];
}

-- the variable is 5
abbrev pub is_five : ℕ → Formula
is_five n = binary Eq (variable n) (literal (pos 5))

-- n := 0
abbrev pub to_zero : ℕ → Substitution
to_zero n = assign ((n, literal (pos 0)) ∷ [])

-- the machine asserts that n = 5, so that it ends only there, and then sets n to 0; the implementation does so there, and sets n to 3
-- everywhere else
abbrev pub eager : Development
eager = turning (assert (is_five 0) (to_zero 0)) (if_else (is_five 1) (to_zero 1) (assign ((1, literal (pos 3)) ∷ [])))

-- n := r || r := n at the machine, and n := r ; r := n at the implementation
abbrev pub one_after_the_other : Development
one_after_the_other =
    turning
    (par (assign ((0, variable 2) ∷ [])) (assign ((2, variable 0) ∷ [])))
    (seq (assign ((1, variable 3) ∷ [])) (assign ((3, variable 1) ∷ [])))
