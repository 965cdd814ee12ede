use Rattle.std.proofs.Common.{List, map, subst}
use Rattle.bk_raw.specs.Trees.ScriptTree.{PartKind}
use Rattle.bk_raw.specs.Grammar.ScriptSpelling.{Ruled}
use Rattle.bk_raw.specs.Codes.ScriptView.{part_of}
use Rattle.bk_p_expr.specs.Fronts.{Longest}
use Rattle.bk_p_expr.proofs.Choices.{if_some}
use Rattle.bk_p_proof.proofs.RulesRead.{rule_found, rule_kept}
use Rattle.bk_p_proof.proofs.rule.rule.Goals as goal

pub returns-clause-found : goal.returns-clause-found
returns-clause-found c =
    let f = if_some _ _ _ _ c.in_ok-parts.ensures.found c.in-Some-2.is in (
      record { word = c.in-Some-word_of.word; at = c.in-Some.first.now.start; parts = f.0 },
      rule_found c.args.tokens.now c.in-Some.behind.now c.in-Some-2.rest.now c.in-Some.first.now c.in-Some-word_of.word f.0 c.in-Some.ensures c.in-Some-word_of.ensures (subst (λ (ks : List PartKind). Longest (Ruled ks) c.in-Some.behind.now f.0 c.in-Some-2.rest.now) c.shape.ensures.shape f.1),
      rule_kept c.in-Some-word_of.word c.in-Some.first.now.start f.0 (map part_of c.in-Some-2.parts.items) c.in-Some-2.is_high f.2,
    )
