use Rattle.std.proofs.Common.{◌≡◌, ◌≤◌, length, drop}
use Rattle.bk_form.specs.Wider.{IsWider}
use Rattle.bk_par.specs.Copies.{with_copies}
use Rattle.bk_par.proofs.copies.add_entries.Given as goal

-- the entries so far and those of the rest are all
abbrev pub invariant-loop-variable : goal.invariant-loop-variable
invariant-loop-variable l = record {
  all : with_copies l.table l.listed (drop l.variable-index l.variables) ≡ with_copies l.fn.table l.listed l.variables;
  enough : l.listed ≤ length l.table.variables;
  wider : IsWider l.fn.table l.table;
  sets : l.table.sets ≡ l.fn.table.sets;
}
