use Rattle.std.proofs.Common.{[], ◌∷◌, subst}
use Rattle.bk_raw.specs.Trees.RawTree.{RawTree}
use Rattle.bk_raw.specs.Grammar.Reading.{start}
use Rattle.bk_raw.specs.Grammar.Spelling.{Names, Spells}
use Rattle.bk_raw.specs.Trees.SubTree.{sub, sub_assign, sub_assign_at, sub_member, sub_such}
use Rattle.bk_p_expr.specs.Fronts.{Longest}
use Rattle.bk_p_expr.proofs.Choices.{if_none, if_some}
use Rattle.bk_p_sub.specs.Found.{FoundEnclosed, FoundTerms}
use Rattle.bk_p_sub.specs.Statements.{IsTerm, IsStatement}
use Rattle.bk_p_sub.proofs.Targets.{names_there, assign_found, assign_none, such_found, such_none, member_found, member_none, at_found, at_none_value, at_none_sign, no_names, no_target}
use Rattle.bk_p_sub.proofs.target.target.Goals as goal

pub returns-in_default-clause-found : goal.returns-in_default-clause-found
returns-in_default-clause-found c = absurd (names_there c.args.tokens.now c.requires (if_none _ _ _ c.in_ok-names.ensures.found c.in_default.is))

pub returns-in_default-2-clause-found : goal.returns-in_default-2-clause-found
returns-in_default-2-clause-found c =
    let n : Longest Names c.args.tokens.now c.in-Some.names.items c.in-Some.rest.now = if_some _ _ _ _ c.in_ok-names.ensures.found c.in-Some.is in
    assign_none c.args.tokens.now c.in-Some.rest.now c.in-Some-after_sign.behind.now c.in-Some.names.items n c.in-Some-after_sign.ensures.found (if_none _ _ _ c.in_ok-values.ensures.found c.in_default-2.is)

pub returns-in-Some-after_sign-clause-found : goal.returns-in-Some-after_sign-clause-found
returns-in-Some-after_sign-clause-found c =
    let n : Longest Names c.args.tokens.now c.in-Some.names.items c.in-Some.rest.now = if_some _ _ _ _ c.in_ok-names.ensures.found c.in-Some.is in
    let v : FoundTerms c.in-Some-after_sign.behind.now c.in-Some-2.values c.in-Some-2.rest.now = if_some _ _ _ _ c.in_ok-values.ensures.found c.in-Some-2.is in
    (sub (start c.args.tokens.now) (sub_assign c.in-Some.names.items v.0), assign_found c.args.tokens.now c.in-Some.rest.now c.in-Some-after_sign.behind.now c.in-Some-2.rest.now c.in-Some.names.items v.0 n c.in-Some-after_sign.ensures.found v.1, subst (λ k. IsStatement (sub k (sub_assign c.in-Some.names.items v.0)) c.in_ok-assign.field-0) c.start_of-at.ensures (c.in_ok-assign.ensures v.0 v.2))

pub returns-in_default-3-clause-found : goal.returns-in_default-3-clause-found
returns-in_default-3-clause-found c =
    let n : Longest Names c.args.tokens.now c.in-Some.names.items c.in-Some.rest.now = if_some _ _ _ _ c.in_ok-names.ensures.found c.in-Some.is in
    such_none c.args.tokens.now c.in-Some.rest.now c.in-Some-after_sign-2.behind.now c.in-Some.names.items n c.in-Some-after_sign-2.ensures.found (if_none _ _ _ c.in_ok-predicate.ensures.found c.in_default-3.is)

pub returns-in-Some-after_sign-2-clause-found : goal.returns-in-Some-after_sign-2-clause-found
returns-in-Some-after_sign-2-clause-found c =
    let n : Longest Names c.args.tokens.now c.in-Some.names.items c.in-Some.rest.now = if_some _ _ _ _ c.in_ok-names.ensures.found c.in-Some.is in
    let p : FoundEnclosed c.in-Some-after_sign-2.behind.now c.in-Some-3.predicate c.in-Some-3.rest.now = if_some _ _ _ _ c.in_ok-predicate.ensures.found c.in-Some-3.is in
    (sub (start c.args.tokens.now) (sub_such c.in-Some.names.items p.0), such_found c.args.tokens.now c.in-Some.rest.now c.in-Some-after_sign-2.behind.now c.in-Some-3.rest.now c.in-Some.names.items p.0 n c.in-Some-after_sign-2.ensures.found p.1, subst (λ k. IsStatement (sub k (sub_such c.in-Some.names.items p.0)) c.in_ok-such.field-0) c.start_of-at.ensures (c.in_ok-such.ensures p.0 p.2))

pub returns-in_default-only-clause-found : goal.returns-in_default-only-clause-found
returns-in_default-only-clause-found c =
    let n : Longest Names c.args.tokens.now c.in-Some.names.items c.in-Some.rest.now = if_some _ _ _ _ c.in_ok-names.ensures.found c.in-Some.is in
    no_names c.args.tokens.now c.in-Some.rest.now c.in-Some.names.items c.requires n c.in_default-after_sign.ensures.found c.in_default-after_sign-2.ensures.found c.in_default-only.ensures

pub returns-in_default-4-clause-found : goal.returns-in_default-4-clause-found
returns-in_default-4-clause-found c =
    let n : Longest Names c.args.tokens.now c.in-Some.names.items c.in-Some.rest.now = if_some _ _ _ _ c.in_ok-names.ensures.found c.in-Some.is in
    let one : Longest Names c.args.tokens.now (c.in-Some-only.name ∷ []) c.in-Some.rest.now = subst (λ xs. Longest Names c.args.tokens.now xs c.in-Some.rest.now) c.in-Some-only.ensures n in
    member_none c.args.tokens.now c.in-Some.rest.now c.in-Some-after_sign-3.behind.now c.in-Some-only.name one c.in-Some-after_sign-3.ensures.found (if_none _ _ _ c.in_ok-set.ensures.found c.in_default-4.is)

pub returns-in-Some-after_sign-3-clause-found : goal.returns-in-Some-after_sign-3-clause-found
returns-in-Some-after_sign-3-clause-found c =
    let n : Longest Names c.args.tokens.now c.in-Some.names.items c.in-Some.rest.now = if_some _ _ _ _ c.in_ok-names.ensures.found c.in-Some.is in
    let one : Longest Names c.args.tokens.now (c.in-Some-only.name ∷ []) c.in-Some.rest.now = subst (λ xs. Longest Names c.args.tokens.now xs c.in-Some.rest.now) c.in-Some-only.ensures n in
    let e : (t : RawTree) × Longest Spells c.in-Some-after_sign-3.behind.now t c.in-Some-4.rest.now × IsTerm t c.in-Some-4.set = if_some _ _ _ _ c.in_ok-set.ensures.found c.in-Some-4.is in
    (sub (start c.args.tokens.now) (sub_member c.in-Some-only.name e.0), member_found c.args.tokens.now c.in-Some.rest.now c.in-Some-after_sign-3.behind.now c.in-Some-4.rest.now c.in-Some-only.name e.0 one c.in-Some-after_sign-3.ensures.found e.1, subst (λ k. IsStatement (sub k (sub_member c.in-Some-only.name e.0)) c.in_ok-member.field-0) c.start_of-at.ensures (c.in_ok-member.ensures e.0 e.2))

pub returns-in_default-5-clause-found : goal.returns-in_default-5-clause-found
returns-in_default-5-clause-found c =
    let n : Longest Names c.args.tokens.now c.in-Some.names.items c.in-Some.rest.now = if_some _ _ _ _ c.in_ok-names.ensures.found c.in-Some.is in
    let one : Longest Names c.args.tokens.now (c.in-Some-only.name ∷ []) c.in-Some.rest.now = subst (λ xs. Longest Names c.args.tokens.now xs c.in-Some.rest.now) c.in-Some-only.ensures n in
    no_target c.args.tokens.now c.in-Some.rest.now c.in-Some-only.name c.requires one c.in_default-after_sign.ensures.found c.in_default-after_sign-2.ensures.found c.in_default-after_sign-3.ensures.found (if_none _ _ _ c.in_ok-place.ensures.found c.in_default-5.is)

pub returns-in_default-after_sign-4-clause-found : goal.returns-in_default-after_sign-4-clause-found
returns-in_default-after_sign-4-clause-found c =
    let n : Longest Names c.args.tokens.now c.in-Some.names.items c.in-Some.rest.now = if_some _ _ _ _ c.in_ok-names.ensures.found c.in-Some.is in
    let one : Longest Names c.args.tokens.now (c.in-Some-only.name ∷ []) c.in-Some.rest.now = subst (λ xs. Longest Names c.args.tokens.now xs c.in-Some.rest.now) c.in-Some-only.ensures n in
    let p : FoundEnclosed c.in-Some.rest.now c.in-Some-5.place c.in-Some-5.behind.now = if_some _ _ _ _ c.in_ok-place.ensures.found c.in-Some-5.is in
    at_none_sign c.args.tokens.now c.in-Some.rest.now c.in-Some-5.behind.now c.in-Some-only.name p.0 one p.1 c.in_default-after_sign-4.ensures.found

pub returns-in_default-6-clause-found : goal.returns-in_default-6-clause-found
returns-in_default-6-clause-found c =
    let n : Longest Names c.args.tokens.now c.in-Some.names.items c.in-Some.rest.now = if_some _ _ _ _ c.in_ok-names.ensures.found c.in-Some.is in
    let one : Longest Names c.args.tokens.now (c.in-Some-only.name ∷ []) c.in-Some.rest.now = subst (λ xs. Longest Names c.args.tokens.now xs c.in-Some.rest.now) c.in-Some-only.ensures n in
    let p : FoundEnclosed c.in-Some.rest.now c.in-Some-5.place c.in-Some-5.behind.now = if_some _ _ _ _ c.in_ok-place.ensures.found c.in-Some-5.is in
    at_none_value c.args.tokens.now c.in-Some.rest.now c.in-Some-5.behind.now c.in-Some-after_sign-4.behind.now c.in-Some-only.name p.0 one p.1 c.in-Some-after_sign-4.ensures.found (if_none _ _ _ c.in_ok-value.ensures.found c.in_default-6.is)

pub returns-clause-found : goal.returns-clause-found
returns-clause-found c =
    let n : Longest Names c.args.tokens.now c.in-Some.names.items c.in-Some.rest.now = if_some _ _ _ _ c.in_ok-names.ensures.found c.in-Some.is in
    let one : Longest Names c.args.tokens.now (c.in-Some-only.name ∷ []) c.in-Some.rest.now = subst (λ xs. Longest Names c.args.tokens.now xs c.in-Some.rest.now) c.in-Some-only.ensures n in
    let p : FoundEnclosed c.in-Some.rest.now c.in-Some-5.place c.in-Some-5.behind.now = if_some _ _ _ _ c.in_ok-place.ensures.found c.in-Some-5.is in
    let e : (t : RawTree) × Longest Spells c.in-Some-after_sign-4.behind.now t c.in-Some-6.rest.now × IsTerm t c.in-Some-6.value = if_some _ _ _ _ c.in_ok-value.ensures.found c.in-Some-6.is in
    (sub (start c.args.tokens.now) (sub_assign_at c.in-Some-only.name p.0 e.0), at_found c.args.tokens.now c.in-Some.rest.now c.in-Some-5.behind.now c.in-Some-after_sign-4.behind.now c.in-Some-6.rest.now c.in-Some-only.name p.0 e.0 one p.1 c.in-Some-after_sign-4.ensures.found e.1, subst (λ k. IsStatement (sub k (sub_assign_at c.in-Some-only.name p.0 e.0)) c.in_ok-assign_at.field-0) c.start_of-at.ensures (c.in_ok-assign_at.ensures p.0 e.0 p.2 e.2))
