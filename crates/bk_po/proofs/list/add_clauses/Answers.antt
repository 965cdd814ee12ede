use Rattle.std.proofs.Common.{map}
use Rattle.bk_po.specs.Obligations.{obligation_of}
use Rattle.bk_po.specs.Limits.{IsFaultAmong}
use Rattle.bk_po.specs.Supposed.{FitsClause}
use Rattle.bk_po.proofs.Laying.{next_clause, next_clause_size, found_clause_fault, each_item, handed_on}
use Rattle.bk_po.proofs.list.add_clauses.Goals as goal

pub stated-requires-clause-fits : goal.stated-requires-clause-fits
stated-requires-clause-fits c = each_item (FitsClause c.args.dev.now) c.args.clauses.now c.loop-clause.clause-index _ c.loop-clause-test.true c.requires.fit

pub loop-clause-preserved : goal.loop-clause-preserved
loop-clause-preserved c = record {
  added = next_clause (obligation_of c.args.dev.now c.args.level) _ _ _ c.args.clauses.now c.loop-clause.clause-index _ _ c.loop-clause-test.true c.loop-clause.invariant.added c.in_ok-push.ensures.items c.in_ok-stated.ensures.value;
  sizes = next_clause_size (obligation_of c.args.dev.now c.args.level) _ c.args.clauses.now c.loop-clause.clause-index _ c.loop-clause-test.true c.loop-clause.invariant.sizes c.in_ok-stated.ensures.size;
}

pub returns-in_err-stated-clause-fault : goal.returns-in_err-stated-clause-fault
returns-in_err-stated-clause-fault c =
    handed_on c.from_residual.result _ (IsFaultAmong (map (obligation_of c.args.dev.now c.args.level) c.args.clauses.now)) c.from_residual.ensures.1
    (found_clause_fault (obligation_of c.args.dev.now c.args.level) (map (obligation_of c.args.dev.now c.args.level) c.args.clauses.now) c.args.clauses.now c.loop-clause.clause-index _ _ c.loop-clause-test.true c.loop-clause.invariant.sizes c.in_err-stated.ensures.fault)
