-- A development whose code is easily got wrong, and three wrong codes, to be
-- checked by hand: both operations set n to 10, one by a local and one by a loop.
use Rattle.std.specs.Prelude.{ℕ, ℤ, pos, negsuc, List, [], ◌∷◌, ◌++◌, codes}
use Rattle.bk_form.specs.Table.{Table}
use Rattle.bk_form.specs.Formula.{variable, literal, btrue, binary}
use Rattle.bk_form.specs.declared.operator.BinOp.TheVariants.{And, Lt, Le, Add as Plus, Sub as Less}
use Rattle.bk_gsl.specs.Substitution.{Substitution, any, seq, loop}
use Rattle.bk_dev.specs.declared.kind.Kind.{Kind}
use Rattle.bk_dev.specs.declared.kind.Kind.TheVariants.{Machine, Implementation}
use Rattle.bk_dev.specs.declared.kind.Home.TheVariants.{Abstract, Concrete, Inner}
use Rattle.bk_dev.specs.Development.{Level, Development, default_max}
use Rattle.bk_dev.specs.Machine.{Call}
use Rattle.bk_code.specs.declared.image.Image.{Image}
use Rattle.bk_code.specs.declared.image.OpEntry.{OpEntry}
use Rattle.bk_code.specs.declared.instruction.Inst.{Inst}
use Rattle.bk_code.specs.declared.instruction.Inst.TheVariants.{Push, Load, Store, Add, Lt as Below, Jump, JumpZero, Ret}
use Rattle.bk_sim.specs.CounterCode.{entry_at}
use Rattle.bk_sim.specs.Exchange.{number_named, set_to}

-- n$0 of the machine, n$1 of the implementation and the local t
abbrev pub settling_table : Table
settling_table = record { sets = []; variables = number_named (codes "n$0") ∷ number_named (codes "n$1") ∷ number_named (codes "t") ∷ [] }

-- one level, with n by its number; two operations without outputs
abbrev pub settling_level : List ℕ → Kind → ℕ → List (ℕ × ℕ) → Substitution → Substitution → Level
settling_level name kind n links by_local by_loop = record {
  name = name;
  kind = kind;
  vars = n ∷ [];
  properties = btrue;
  invariant = btrue;
  links = links;
  assertions = [];
  init = set_to n (literal (pos 0));
  bodies = record { condition = btrue; sub = by_local; outputs = [] } ∷ record { condition = btrue; sub = by_loop; outputs = [] } ∷ [];
}

-- VAR t IN t := 10 ; n := t END
abbrev pub by_local : Substitution
by_local = any (2 ∷ []) (seq (set_to 2 (literal (pos 10))) (set_to 1 (variable 2)))

-- n := 0 ; WHILE n < 10 DO n := n + 1 INVARIANT 0 <= n & n <= 10 VARIANT 10 - n END
abbrev pub by_loop : Substitution
by_loop = seq (set_to 1 (literal (pos 0)))
    (loop (binary Lt (variable 1) (literal (pos 10))) (set_to 1 (binary Plus (variable 1) (literal (pos 1))))
    (binary And (binary Le (literal (pos 0)) (variable 1)) (binary Le (variable 1) (literal (pos 10))))
    (binary Less (literal (pos 10)) (variable 1)))

-- the development whose second operation has this body at the implementation; at the machine both are n := 10
abbrev pub settling_by : Substitution → Development
settling_by second = record {
  max = default_max;
  table = settling_table;
  homes = Abstract 0 ∷ Concrete 1 ∷ Inner 1 ∷ [];
  sets = [];
  heads = record { name = codes "by_local"; inputs = []; outputs = 0 } ∷ record { name = codes "by_loop"; inputs = []; outputs = 0 } ∷ [];
  levels = settling_level (codes "Settling") Machine 0 [] (set_to 0 (literal (pos 10))) (set_to 0 (literal (pos 10))) ∷
      settling_level (codes "Settling_i") Implementation 1 ((1, 0) ∷ []) by_local second ∷ [];
  values = [];
  extents = (0, 1) ∷ (0, 3) ∷ [];
}

-- by the local and by the loop
abbrev pub settling : Development
settling = settling_by by_loop

-- a call of the first operation, which takes no arguments
abbrev pub call_by_local : Call
call_by_local = record { op = 0; args = [] }

-- a call of the second, which takes none either
abbrev pub call_by_loop : Call
call_by_loop = record { op = 1; args = [] }

-- the first operation, whose code begins at place 3
abbrev pub local_entry : OpEntry
local_entry = entry_at (codes "by_local") 3 []

-- the second, whose code begins at place 8
abbrev pub loop_entry : OpEntry
loop_entry = entry_at (codes "by_loop") 8 []

-- n is in cell 0 and t in cell 1; the first operation has these four instructions, and the loop's way back goes this far
abbrev pub settling_code : List Inst → ℤ → Image
settling_code settle back = record {
  max = default_max;
  cells = 2;
  sets = [];
  ops = local_entry ∷ loop_entry ∷ [];
  code = Push (pos 0) ∷ Store 0 ∷ Ret ∷ (settle ++ (Ret ∷ Push (pos 0) ∷ Store 0 ∷ Load 0 ∷ Push (pos 10) ∷
      Below ∷ JumpZero (pos 6) ∷ Load 0 ∷ Push (pos 1) ∷ Add ∷ Store 0 ∷ Jump back ∷ Ret ∷ []));
}

-- t := 10 ; n := t
abbrev pub settled : List Inst
settled = Push (pos 10) ∷ Store 1 ∷ Load 1 ∷ Store 0 ∷ []

-- the value that t had before it was set goes to n
abbrev pub unsettled : List Inst
unsettled = Load 1 ∷ Push (pos 10) ∷ Store 1 ∷ Store 0 ∷ []

-- the jump back over eight instructions, to the start of the test
abbrev pub to_the_test : ℤ
to_the_test = negsuc 7

-- the jump back over seven, one instruction after it
abbrev pub behind_the_start : ℤ
behind_the_start = negsuc 6

-- no jump back, but one to the next instruction, as after IF: the loop's body is run once at most
abbrev pub onwards : ℤ
onwards = pos 1
