use Rattle.std.proofs.Common.{List, ap, subst}
use Rattle.bk_ops.specs.declared.sign.TheConstants.{SEMICOLON}
use Rattle.bk_raw.specs.Grammar.ComponentSpelling.{Value}
use Rattle.bk_raw.specs.Trees.ComponentTree.{clause_values}
use Rattle.bk_raw.specs.Grammar.Pieces.{Divided}
use Rattle.bk_raw.specs.declared.component.RawValue.{RawValue}
use Rattle.bk_p_expr.specs.Fronts.{Longest}
use Rattle.bk_p_expr.proofs.Choices.{if_none, if_some}
use Rattle.bk_p_comp.specs.Parts.{AreValues}
use Rattle.bk_p_comp.proofs.Standings.{no_values, values_stand}
use Rattle.bk_p_comp.proofs.parts.all_values.Goals as goal

pub returns-in_default-clause-found : goal.returns-in_default-clause-found
returns-in_default-clause-found c = no_values c.args.tokens.now (if_none _ _ _ c.in_ok-all.ensures.found c.in_default.is)

pub returns-in-Built-clause-found : goal.returns-in-Built-clause-found
returns-in-Built-clause-found c =
    let f : (vs : List RawValue) × Longest (Divided SEMICOLON Value) c.args.tokens.now vs c.in-Some.rest.now × AreValues vs c.in-Some.all = if_some _ _ _ _ c.in_ok-all.ensures.found c.in-Some.is in
    let k = subst (λ p. AreValues f.0 p) c.in-Built.is f.2 in
    (clause_values f.0, values_stand c.args.tokens.now c.in-Some.rest.now f.0 f.1, (ap clause_values k.0, k.1))

pub returns-in-High-clause-found : goal.returns-in-High-clause-found
returns-in-High-clause-found c =
    let f : (vs : List RawValue) × Longest (Divided SEMICOLON Value) c.args.tokens.now vs c.in-Some.rest.now × AreValues vs c.in-Some.all = if_some _ _ _ _ c.in_ok-all.ensures.found c.in-Some.is in
    (clause_values f.0, values_stand c.args.tokens.now c.in-Some.rest.now f.0 f.1, subst (λ p. AreValues f.0 p) c.in-High.is f.2)
