use Rattle.std.proofs.Common.{◌≡◌, ◌++◌, drop, map}
use Rattle.bk_po.specs.Obligations.{obligation_of}
use Rattle.bk_po.specs.Limits.{first_too_large}
use Rattle.bk_po.proofs.list.add_clauses.Given as goal

abbrev pub invariant-loop-clause : goal.invariant-loop-clause
invariant-loop-clause l = record {
  added : l.list.items ++ map (obligation_of l.dev l.level) (drop l.clause-index l.clauses) ≡ l.initial.list.items ++ map (obligation_of l.dev l.level) l.clauses;
  sizes : first_too_large (map (obligation_of l.dev l.level) (drop l.clause-index l.clauses)) ≡ first_too_large (map (obligation_of l.dev l.level) l.clauses);
}
