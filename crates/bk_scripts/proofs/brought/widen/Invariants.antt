use Rattle.std.proofs.Common.{◌≡◌, ◌++◌, map, take, length}
use Rattle.bk_scripts.specs.Brought.{widened_by, type_in, numbered_names}
use Rattle.bk_scripts.proofs.brought.widen.Given as goal

abbrev pub invariant-loop-name : goal.invariant-loop-name
invariant-loop-name l = record {
  table : l.table ≡ widened_by (type_in l.over l.types) l.fn.table (map (λ x. x.now) (take l.name-index l.names));
  scope : l.scope ≡ record { max = l.fn.scope.max; names = l.fn.scope.names ++ numbered_names (type_in l.over l.types) (length l.fn.table.variables) (map (λ x. x.now) (take l.name-index l.names)) };
}
