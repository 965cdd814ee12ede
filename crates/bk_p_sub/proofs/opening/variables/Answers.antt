use Rattle.std.proofs.Common.{◌<◌, length, refl, arith}
use Rattle.bk_form.specs.declared.token.TokenKind.TheVariants.{Word}
use Rattle.bk_ops.specs.declared.word.TheConstants.{IN}
use Rattle.bk_raw.specs.Grammar.Spelling.{Names}
use Rattle.bk_raw.specs.Trees.SubTree.{sub_var}
use Rattle.bk_p_expr.proofs.Choices.{if_none, if_some}
use Rattle.bk_p_sub.specs.Found.{Before}
use Rattle.bk_p_sub.proofs.Openings.{var_opens, var_nothing}
use Rattle.bk_p_sub.proofs.opening.variables.Goals as goal

pub returns-in_default-clause-found : goal.returns-in_default-clause-found
returns-in_default-clause-found c calls = var_nothing calls c.args.first.now c.args.tokens.now c.requires (if_none _ _ _ c.in_ok-names.ensures.found c.in_default.is)

pub returns-clause-found : goal.returns-clause-found
returns-clause-found c calls =
    let f : Before Names (Word IN) c.args.tokens.now c.in-Some.names.items c.in-Some.rest.now = if_some _ _ _ _ c.in_ok-names.ensures.found c.in-Some.is in
    let l : length c.in-Some.rest.now < length c.args.tokens.now = if_some _ _ _ _ c.in_ok-names.ensures.shorter c.in-Some.is in
    (sub_var c.in-Some.names.items, refl, var_opens calls c.args.first.now c.args.tokens.now c.in-Some.rest.now c.in-Some.names.items (omega (arith, l)) c.requires f)
