use Rattle.std.proofs.Common.{rules, ◌∷◌}
use Rattle.bk_p_proof.specs.declared.part.PartKind.TheVariants.{Number}
use Rattle.bk_p_expr.proofs.Choices.{if_none, if_some}
use Rattle.bk_p_proof.proofs.PartsRead.{others_nothing, all_found, all_kept}
use Rattle.bk_p_proof.proofs.part.+parts.Goals as goal

pub returns-in_default-3-clause-found : goal.returns-in_default-3-clause-found
returns-in_default-3-clause-found t c =
    let f = if_some _ _ _ _ c.in_ok-part.ensures.found c.in-Some.is in
    others_nothing c.args.kinds.now Number c.in-len1-up.len_at_least c.requires c.args.tokens.now c.in-Some.behind.now f.0 f.1 (if_none _ _ _ c.in_ok-others.ensures.found c.in_default-3.is)

pub returns-clause-found : goal.returns-clause-found
returns-clause-found t c =
    let f = if_some _ _ _ _ c.in_ok-part.ensures.found c.in-Some.is in
    let g = if_some _ _ _ _ c.in_ok-others.ensures.found c.in-Some-2.is in (
      f.0 ∷ g.0,
      all_found c.args.kinds.now Number c.in-len1-up.len_at_least c.requires c.args.tokens.now c.in-Some.behind.now c.in-Some-2.rest.now f.0 g.0 f.1 g.1,
      all_kept f.0 g.0 c.in-Some.part c.in-Some-2.others.items c.insert.new.self.items c.in-Some.is_high c.in-Some-2.are_high c.if-is_high.result f.2 g.2 (search rules) (search rules),
    )
