-- An adder and a stepper with their implementations, to be checked by hand: inc(k) adds k to n, where
-- that is allowed, and inc of the stepper adds 1 to n below 10; get answers n, which stays from 0 to 10.
use Rattle.std.specs.Prelude.{◌≡◌, ℕ, pos, neg_ℤ, List, [], ◌∷◌, codes, slice_get, Some}
use Rattle.bk_limits.specs.declared.TheConstants.{MAXINT}
use Rattle.bk_val.specs.ValueType.{int_type}
use Rattle.bk_form.specs.Table.{Table}
use Rattle.bk_form.specs.Formula.{Formula, variable, literal, binary, btrue}
use Rattle.bk_form.specs.declared.operator.BinOp.TheVariants.{And, Eq, Lt, Le, In, Range, Add}
use Rattle.bk_gsl.specs.Substitution.{skip, assign, if_else}
use Rattle.bk_dev.specs.declared.kind.Kind.{Kind}
use Rattle.bk_dev.specs.declared.kind.Kind.TheVariants.{Machine, Implementation}
use Rattle.bk_dev.specs.declared.kind.Home.TheVariants.{Input, Abstract, Inner, Concrete}
use Rattle.bk_dev.specs.Development.{Head, Body, Level, Development, default_max}
use Rattle.bk_dev.specs.Counter.{number_at, counter_table, setting}
use Rattle.bk_po.specs.Obligations.{numbered_obligations}

-- f : low..high
abbrev pub between : Formula → ℕ → ℕ → Formula
between f low high = binary In f (binary Range (literal (pos low)) (literal (pos high)))

-- f + g
abbrev pub plus : Formula → Formula → Formula
plus f g = binary Add f g

-- get : r := n
abbrev pub getting : ℕ → ℕ → Body
getting r n = record { condition = btrue; sub = assign ((r, variable n) ∷ []); outputs = r ∷ [] }

-- a level whose variable n starts at 0, with inc and get
abbrev pub small_level : List ℕ → Kind → ℕ → List (ℕ × ℕ) → Body → Body → Level
small_level name kind n links inc get = record {
  name = name;
  kind = kind;
  vars = n ∷ [];
  properties = btrue;
  invariant = between (variable n) 0 10;
  links = links;
  assertions = [];
  init = assign ((n, literal (pos 0)) ∷ []);
  bodies = inc ∷ get ∷ [];
}

-- inc, which gives nothing back
abbrev pub inc_head : List ℕ → Head
inc_head inputs = record { name = codes "inc"; inputs = inputs; outputs = 0 }

-- get, which takes nothing and gives one number back
abbrev pub get_head : Head
get_head = record { name = codes "get"; inputs = []; outputs = 1 }

-- ---- the adder
-- n$0 of the machine, n$1 of the implementation, their outputs r$0 and r$1, and the input k
abbrev pub tally_table : Table
tally_table = record {
  sets = [];
  variables =
      number_at 110 48 ∷ number_at 110 49 ∷ number_at 114 48 ∷ number_at 114 49 ∷ record { text = codes "k"; of_type = int_type } ∷ [];
}

-- k : 1..10 & n + k <= 10
abbrev pub may_add : Formula
may_add = binary And (between (variable 4) 1 10) (binary Le (plus (variable 0) (variable 4)) (literal (pos 10)))

-- n := n + k
abbrev pub adding : Formula → ℕ → Body
adding condition n = setting condition n (plus (variable n) (variable 4))

-- the machine Tally, whose inc(k) adds k to n, and its implementation
abbrev pub tally : Development
tally = record {
  max = default_max;
  table = tally_table;
  homes = Abstract 0 ∷ Concrete 1 ∷ Inner 0 ∷ Inner 1 ∷ Input ∷ [];
  sets = [];
  heads = inc_head (4 ∷ []) ∷ get_head ∷ [];
  levels = small_level (codes "Tally") Machine 0 [] (adding may_add 0) (getting 2 0) ∷
      small_level (codes "Tally_i") Implementation 1 ((1, 0) ∷ []) (adding btrue 1) (getting 3 1) ∷ [];
  values = [];
  extents = (0, 5) ∷ (0, 5) ∷ [];
}

-- ---- the stepper
-- IF n < 10 THEN n := n + 1 END
abbrev pub stepping : ℕ → Body
stepping n = record {
  condition = btrue;
  sub = if_else (binary Lt (variable n) (literal (pos 10))) (assign ((n, plus (variable n) (literal (pos 1))) ∷ [])) skip;
  outputs = [];
}

-- the machine Stepper, whose inc adds 1 to n below 10, and its implementation
abbrev pub stepper : Development
stepper = record {
  max = default_max;
  table = counter_table;
  homes = Abstract 0 ∷ Concrete 1 ∷ Inner 0 ∷ Inner 1 ∷ [];
  sets = [];
  heads = inc_head [] ∷ get_head ∷ [];
  levels = small_level (codes "Stepper") Machine 0 [] (stepping 0) (getting 2 0) ∷
      small_level (codes "Stepper_i") Implementation 1 ((1, 0) ∷ []) (stepping 1) (getting 3 1) ∷ [];
  values = [];
  extents = (0, 3) ∷ (0, 4) ∷ [];
}

-- ---- what the adder asks
-- what is known where inc of the adder's implementation begins
abbrev pub known_at_inc : List Formula
known_at_inc =
    between (variable 0) 0 10 ∷ between (variable 1) 0 10 ∷ binary Eq (variable 1) (variable 0) ∷
    between (variable 4) 1 10 ∷ binary Le (plus (variable 0) (variable 4)) (literal (pos 10)) ∷
    binary In (variable 4) (binary Range (literal (neg_ℤ MAXINT)) (literal MAXINT)) ∷ []

-- three obligations of the adder, whole
pub record TallyAsks : Type 0 where
  -- n$1 + k : 0..10
  pub kept : slice_get (numbered_obligations tally) 5 ≡
      Some (codes "Tally_i.inc.1", (known_at_inc, between (plus (variable 1) (variable 4)) 0 10))
  -- MININT <= n$1 + k
  pub not_below : slice_get (numbered_obligations tally) 10 ≡
      Some (codes "Tally_i.inc.chk.1", (known_at_inc, binary Le (literal (neg_ℤ MAXINT)) (plus (variable 1) (variable 4))))
  -- n$1 + k <= MAXINT
  pub not_above : slice_get (numbered_obligations tally) 11 ≡
      Some (codes "Tally_i.inc.chk.2", (known_at_inc, binary Le (plus (variable 1) (variable 4)) (literal MAXINT)))
