use Rattle.std.proofs.Common.{◌≡◌, ◌++◌, drop}
use Rattle.std.specs.List.{flat_map}
use Rattle.bk_dev.specs.Development.{body_of}
use Rattle.bk_form.specs.Predicates.{conjuncts}
use Rattle.bk_po.proofs.hypotheses.add_conditions.Given as goal

abbrev pub invariant-loop-level : goal.invariant-loop-level
invariant-loop-level l = l.hyps.items ++ flat_map (λ m. conjuncts (body_of m l.operation).condition) (drop l.level-index l.levels) ≡ l.initial.hyps.items ++ flat_map (λ m. conjuncts (body_of m l.operation).condition) l.levels
