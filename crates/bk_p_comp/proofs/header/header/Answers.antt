use Rattle.std.proofs.Common.{◌≡◌, ◌≢◌, ◌∙◌, Some, None, ap, sym, subst, rules}
use Rattle.bk_form.specs.declared.token.TokenKind.TheVariants.{Word}
use Rattle.bk_raw.specs.Trees.ComponentTree.{kind_number}
use Rattle.bk_raw.specs.Grammar.Reading.{name}
use Rattle.bk_raw.specs.declared.component.ComponentKind.TheVariants.{Machine}
use Rattle.bk_p_expr.proofs.Choices.{if_none, if_some}
use Rattle.bk_p_comp.specs.Clauses.{IsHeaded}
use Rattle.bk_p_comp.proofs.Headers.{header_in_none, header_no_kind, header_no_name, header_no_refines, header_no_refined, headed_machine, headed_below}
use Rattle.bk_p_comp.proofs.header.header.Goals as goal

pub returns-in_default-clause-found : goal.returns-in_default-clause-found
returns-in_default-clause-found c = header_in_none c.args.tokens.now c.in_default.ensures

pub returns-in_default-kind_of-clause-found : goal.returns-in_default-kind_of-clause-found
returns-in_default-kind_of-clause-found c = header_no_kind c.args.tokens.now c.in-Some.behind.now c.in-Some.first.now c.in-Some.ensures c.in_default-kind_of.ensures

pub returns-in_default-2-clause-found : goal.returns-in_default-2-clause-found
returns-in_default-2-clause-found c = header_no_name c.args.tokens.now c.in-Some.behind.now c.in-Some.first.now c.in-Some.ensures (if_none _ _ _ c.in_ok-name.ensures.found c.in_default-2.is)

pub returns-then-is_machine-clause-found : goal.returns-then-is_machine-clause-found
returns-then-is_machine-clause-found c =
    let n : name c.in-Some.behind.now ≡ Some (c.in-Some-2.name, c.in-Some-2.behind.now) = if_some _ _ _ _ c.in_ok-name.ensures.found c.in-Some-2.is in
    let m : c.in-Some-kind_of.kind ≡ Machine = search rules in
    subst (λ k. IsHeaded c.args.tokens.now (record { at = c.in-Some.first.now.start; kind = k; name = c.in-Some-2.name; refines = None }) c.in-Some-2.behind.now) (sym m) (headed_machine c.args.tokens.now c.in-Some.behind.now c.in-Some-2.behind.now c.in-Some.first.now c.in-Some-2.name c.in-Some.ensures (ap (λ k. Word (kind_number k)) (sym m) ∙ c.in-Some-kind_of.ensures) n)

pub returns-in_default-after_word-clause-found : goal.returns-in_default-after_word-clause-found
returns-in_default-after_word-clause-found c =
    let n : name c.in-Some.behind.now ≡ Some (c.in-Some-2.name, c.in-Some-2.behind.now) = if_some _ _ _ _ c.in_ok-name.ensures.found c.in-Some-2.is in
    let m : c.in-Some-kind_of.kind ≢ Machine = search rules in
    header_no_refines c.args.tokens.now c.in-Some.behind.now c.in-Some-2.behind.now c.in-Some.first.now c.in-Some-kind_of.kind c.in-Some-2.name c.in-Some.ensures c.in-Some-kind_of.ensures n m c.in_default-after_word.ensures.found

pub returns-in_default-3-clause-found : goal.returns-in_default-3-clause-found
returns-in_default-3-clause-found c =
    let n : name c.in-Some.behind.now ≡ Some (c.in-Some-2.name, c.in-Some-2.behind.now) = if_some _ _ _ _ c.in_ok-name.ensures.found c.in-Some-2.is in
    let m : c.in-Some-kind_of.kind ≢ Machine = search rules in
    header_no_refined c.args.tokens.now c.in-Some.behind.now c.in-Some-2.behind.now c.in-Some-after_word.behind.now c.in-Some.first.now c.in-Some-kind_of.kind c.in-Some-2.name c.in-Some.ensures c.in-Some-kind_of.ensures n m c.in-Some-after_word.ensures.found (if_none _ _ _ c.in_ok-refined.ensures.found c.in_default-3.is)

pub returns-clause-found : goal.returns-clause-found
returns-clause-found c =
    let n : name c.in-Some.behind.now ≡ Some (c.in-Some-2.name, c.in-Some-2.behind.now) = if_some _ _ _ _ c.in_ok-name.ensures.found c.in-Some-2.is in
    let m : c.in-Some-kind_of.kind ≢ Machine = search rules in
    headed_below c.args.tokens.now c.in-Some.behind.now c.in-Some-2.behind.now c.in-Some-after_word.behind.now c.in-Some-3.rest.now c.in-Some.first.now c.in-Some-kind_of.kind c.in-Some-2.name c.in-Some-3.refined c.in-Some.ensures c.in-Some-kind_of.ensures n m c.in-Some-after_word.ensures.found (if_some _ _ _ _ c.in_ok-refined.ensures.found c.in-Some-3.is)
