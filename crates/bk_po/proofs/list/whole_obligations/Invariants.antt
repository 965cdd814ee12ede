use Rattle.std.proofs.Common.{◌≡◌, ◌-◌, ◌++◌, length}
use Rattle.std.specs.List.{flat_map}
use Rattle.bk_dev.specs.Hypotheses.{properties_of, facts_of}
use Rattle.bk_po.specs.Obligations.{level_obligations, flat_obligations}
use Rattle.bk_po.specs.Limits.{first_too_large}
use Rattle.bk_po.proofs.Laying.{from_on}
use Rattle.bk_po.proofs.list.whole_obligations.Given as goal

abbrev pub invariant-loop-level : goal.invariant-loop-level
invariant-loop-level l = record {
  added : l.list.items ++ flat_map (level_obligations l.dev) (from_on l.level (length l.dev.levels - l.level)) ≡ flat_obligations l.dev;
  sizes : first_too_large (flat_map (level_obligations l.dev) (from_on l.level (length l.dev.levels - l.level))) ≡ first_too_large (flat_obligations l.dev);
  properties : l.properties.items ≡ properties_of l.dev l.level;
  facts : l.facts.items ≡ facts_of l.dev l.level;
}
