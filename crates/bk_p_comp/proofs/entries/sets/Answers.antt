use Rattle.std.proofs.Common.{◌≡◌, [], ◌∷◌, ◌++◌, ◌∙◌, List, ap, sym, subst}
use Rattle.bk_form.specs.declared.token.Token.{Token}
use Rattle.bk_ops.specs.declared.sign.TheConstants.{SEMICOLON}
use Rattle.bk_raw.specs.Trees.ComponentTree.{RawSet}
use Rattle.bk_raw.specs.Grammar.Pieces.{Divided}
use Rattle.bk_p_expr.specs.Fronts.{Longest}
use Rattle.bk_p_expr.proofs.Choices.{if_none, if_some}
use Rattle.bk_p_comp.specs.Entries.{CompleteSet}
use Rattle.bk_p_comp.proofs.EntryRows.{FoundEntries, complete_leads, entries_begin, entries_end, entries_end_before, entries_fail, entries_go_on, one_complete}
use Rattle.bk_p_comp.proofs.entries.sets.Goals as goal

-- the list itself is what is kept
same_list : (tokens : List Token) (all : List RawSet) (rest : List Token) → FoundEntries CompleteSet (λ xs ys. ys ≡ xs) tokens all rest → Longest (Divided SEMICOLON CompleteSet) tokens all rest
same_list tokens all rest f = subst (λ xs. Longest (Divided SEMICOLON CompleteSet) tokens xs rest) (sym f.2) f.1

pub returns-in_default-clause-found : goal.returns-in_default-clause-found
returns-in_default-clause-found c = entries_fail CompleteSet c.args.tokens.now (if_none _ _ _ c.in_ok-first.ensures.found c.in_default.is)

pub loop-behind-init : goal.loop-behind-init
loop-behind-init c = entries_begin CompleteSet (λ xs ys. ys ≡ xs) complete_leads one_complete c.args.tokens.now c.in-Some.after.now c.in-Some.first c.push.new.self.items (if_some _ _ _ _ c.in_ok-first.ensures.found c.in-Some.is) (c.in_ok-push.ensures.items ∙ ap (λ xs. xs ++ c.in-Some.first ∷ []) c.new-all.ensures.items) (if_some _ _ _ _ c.in_ok-first.ensures.shorter c.in-Some.is)

pub loop-behind-preserved : goal.loop-behind-preserved
loop-behind-preserved c = entries_go_on CompleteSet (λ xs ys. ys ≡ xs) complete_leads one_complete c.args.tokens.now c.loop-behind.rest.now c.in-Some-after_sign.behind.now c.in-Some-2.after.now c.in-Some-2.set c.loop-behind.all.items c.push-in-Some-after_sign.new.self.items c.loop-behind.invariant c.in-Some-after_sign.ensures.found (if_some _ _ _ _ c.in_ok-set.ensures.found c.in-Some-2.is) (λ xs h. c.in_ok-push-2.ensures.items ∙ ap (λ ys. ys ++ c.in-Some-2.set ∷ []) h) (if_some _ _ _ _ c.in_ok-set.ensures.shorter c.in-Some-2.is)

pub returns-in_default-2-clause-found : goal.returns-in_default-2-clause-found
returns-in_default-2-clause-found c = same_list c.args.tokens.now c.loop-behind.all.items c.loop-behind.rest.now (entries_end_before CompleteSet (λ xs ys. ys ≡ xs) complete_leads one_complete c.args.tokens.now c.loop-behind.rest.now c.in-Some-after_sign.behind.now c.loop-behind.all.items c.loop-behind.invariant c.in-Some-after_sign.ensures.found (if_none _ _ _ c.in_ok-set.ensures.found c.in_default-2.is))

pub returns-clause-found : goal.returns-clause-found
returns-clause-found c = same_list c.args.tokens.now c.loop-behind.all.items c.loop-behind.rest.now (entries_end CompleteSet (λ xs ys. ys ≡ xs) complete_leads one_complete c.args.tokens.now c.loop-behind.rest.now c.loop-behind.all.items c.loop-behind.invariant c.in_default-after_sign.ensures.found)

pub returns-in_default-2-clause-shorter : goal.returns-in_default-2-clause-shorter
returns-in_default-2-clause-shorter c = c.loop-behind.invariant.shorter

pub returns-clause-shorter : goal.returns-clause-shorter
returns-clause-shorter c = c.loop-behind.invariant.shorter
