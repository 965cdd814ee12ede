use Rattle.std.proofs.Common.{List, ap, subst}
use Rattle.bk_ops.specs.declared.sign.TheConstants.{SEMICOLON}
use Rattle.bk_raw.specs.Grammar.ComponentSpelling.{Operation}
use Rattle.bk_raw.specs.Trees.ComponentTree.{RawOperation, clause_operations}
use Rattle.bk_raw.specs.Grammar.Pieces.{Divided}
use Rattle.bk_p_expr.specs.Fronts.{Longest}
use Rattle.bk_p_expr.proofs.Choices.{if_none, if_some}
use Rattle.bk_p_comp.specs.Parts.{AreOperations}
use Rattle.bk_p_comp.proofs.Standings.{no_operations, operations_stand}
use Rattle.bk_p_comp.proofs.parts.all_operations.Goals as goal

pub returns-in_default-clause-found : goal.returns-in_default-clause-found
returns-in_default-clause-found c = no_operations c.args.tokens.now (if_none _ _ _ c.in_ok-all.ensures.found c.in_default.is)

pub returns-in-Built-clause-found : goal.returns-in-Built-clause-found
returns-in-Built-clause-found c =
    let f : (os : List RawOperation) × Longest (Divided SEMICOLON Operation) c.args.tokens.now os c.in-Some.rest.now × AreOperations os c.in-Some.all = if_some _ _ _ _ c.in_ok-all.ensures.found c.in-Some.is in
    let k = subst (λ p. AreOperations f.0 p) c.in-Built.is f.2 in
    (clause_operations f.0, operations_stand c.args.tokens.now c.in-Some.rest.now f.0 f.1, (ap clause_operations k.0, k.1))

pub returns-in-High-clause-found : goal.returns-in-High-clause-found
returns-in-High-clause-found c =
    let f : (os : List RawOperation) × Longest (Divided SEMICOLON Operation) c.args.tokens.now os c.in-Some.rest.now × AreOperations os c.in-Some.all = if_some _ _ _ _ c.in_ok-all.ensures.found c.in-Some.is in
    (clause_operations f.0, operations_stand c.args.tokens.now c.in-Some.rest.now f.0 f.1, subst (λ p. AreOperations f.0 p) c.in-High.is f.2)
