use Rattle.std.proofs.Common.{rules}
use Rattle.bk_raw.specs.Trees.RawTree.{RawTree}
use Rattle.bk_raw.specs.Grammar.Spelling.{Spells}
use Rattle.bk_p_expr.specs.Fronts.{Longest}
use Rattle.bk_p_expr.specs.Pieces.{IsPiece}
use Rattle.bk_p_expr.specs.declared.piece.Terms.TheVariants.{Built as BuiltTerms}
use Rattle.bk_p_expr.proofs.Choices.{if_none, if_some}
use Rattle.bk_p_proof.proofs.TermLists.{terms_begin, terms_go_on, terms_end, terms_end_before, terms_fail}
use Rattle.bk_p_proof.proofs.terms.terms.Goals as goal

pub returns-in_default-clause-found : goal.returns-in_default-clause-found
returns-in_default-clause-found c = terms_fail c.args.tokens.now (if_none _ _ _ c.in_ok-first.ensures.found c.in_default.is)

pub loop-behind-init : goal.loop-behind-init
loop-behind-init c =
    let f : (t : RawTree) × Longest Spells c.args.tokens.now t c.in-Some.after.now × IsPiece t c.in-Some.first = if_some _ _ _ _ c.in_ok-first.ensures.found c.in-Some.is in
    terms_begin c.args.tokens.now c.in-Some.after.now c.in-Some.first (BuiltTerms c.new.result 0) c.in_ok-all.all f (search rules) c.in_ok-all.ensures (if_some _ _ _ _ c.in_ok-first.ensures.shorter c.in-Some.is)

pub loop-behind-preserved : goal.loop-behind-preserved
loop-behind-preserved c =
    let f : (t : RawTree) × Longest Spells c.in-Some-after_sign.behind.now t c.in-Some-2.after.now × IsPiece t c.in-Some-2.term = if_some _ _ _ _ c.in_ok-term.ensures.found c.in-Some-2.is in
    terms_go_on c.args.tokens.now c.loop-behind.rest.now c.in-Some-after_sign.behind.now c.in-Some-2.after.now c.in-Some-2.term c.loop-behind.all c.in_ok-all-2.all c.loop-behind.invariant c.in-Some-after_sign.ensures.found f c.in_ok-all-2.ensures (if_some _ _ _ _ c.in_ok-term.ensures.shorter c.in-Some-2.is)

pub returns-in_default-2-clause-found : goal.returns-in_default-2-clause-found
returns-in_default-2-clause-found c = terms_end_before c.args.tokens.now c.loop-behind.rest.now c.in-Some-after_sign.behind.now c.loop-behind.all c.loop-behind.invariant c.in-Some-after_sign.ensures.found (if_none _ _ _ c.in_ok-term.ensures.found c.in_default-2.is)

pub returns-clause-found : goal.returns-clause-found
returns-clause-found c = terms_end c.args.tokens.now c.loop-behind.rest.now c.loop-behind.all c.loop-behind.invariant c.in_default-after_sign.ensures.found

pub returns-in_default-2-clause-shorter : goal.returns-in_default-2-clause-shorter
returns-in_default-2-clause-shorter c = c.loop-behind.invariant.row.shorter

pub returns-clause-shorter : goal.returns-clause-shorter
returns-clause-shorter c = c.loop-behind.invariant.row.shorter
