-- A small chain in which an implementation stands below an implementation, to be checked by hand: its operation sets n to 10 at each level.
use Rattle.std.specs.Prelude.{ℕ, pos, List, [], ◌∷◌, codes}
use Rattle.bk_form.specs.Table.{Table}
use Rattle.bk_form.specs.Formula.{literal, btrue}
use Rattle.bk_dev.specs.declared.kind.Kind.{Kind}
use Rattle.bk_dev.specs.declared.kind.Kind.TheVariants.{Machine, Implementation}
use Rattle.bk_dev.specs.declared.kind.Home.TheVariants.{Abstract, Concrete}
use Rattle.bk_dev.specs.Development.{Level, Development, default_max}
use Rattle.bk_sim.specs.Exchange.{number_named, set_to}

-- n$0 of the machine, n$1 of the implementation and n$2 of the one below it
abbrev pub tower_table : Table
tower_table = record { sets = []; variables = number_named (codes "n$0") ∷ number_named (codes "n$1") ∷ number_named (codes "n$2") ∷ [] }

-- one level, with n by its number: n := 0 initially, and n := 10
abbrev pub tower_level : List ℕ → Kind → ℕ → List (ℕ × ℕ) → Level
tower_level name kind n links = record {
  name = name;
  kind = kind;
  vars = n ∷ [];
  properties = btrue;
  invariant = btrue;
  links = links;
  assertions = [];
  init = set_to n (literal (pos 0));
  bodies = record { condition = btrue; sub = set_to n (literal (pos 10)); outputs = [] } ∷ [];
}

-- the machine, its implementation, and one more implementation
abbrev pub tower : Development
tower = record {
  max = default_max;
  table = tower_table;
  homes = Abstract 0 ∷ Concrete 1 ∷ Concrete 2 ∷ [];
  sets = [];
  heads = record { name = codes "fill"; inputs = []; outputs = 0 } ∷ [];
  levels = tower_level (codes "Tower") Machine 0 [] ∷ tower_level (codes "Tower_i") Implementation 1 ((1, 0) ∷ []) ∷
      tower_level (codes "Tower_j") Implementation 2 ((2, 1) ∷ []) ∷ [];
  values = [];
  extents = (0, 1) ∷ (0, 2) ∷ (0, 3) ∷ [];
}
