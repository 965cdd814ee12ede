use Rattle.std.proofs.Common.{◌≡◌, ◌+◌, ◌-◌, ◌++◌, take, drop, length, length-drop, sym, ap, ◌∙◌, arith, rules, tests}
use Rattle.std.proofs.lemmas.List.{take_all}
use Rattle.std.specs.Prelude.{Some}
use Rattle.std.specs.List.{position_from}
use Rattle.std.proofs.lemmas.Iterator.{YieldsList-from_slice}
use Rattle.std.proofs.lemmas.Iterator.Search.{position_from_yields_List}
use Rattle.std.proofs.lemmas.Iterator.Adapters.{position_from-zero}
use Rattle.bk_arith.specs.Same.{is_same}
use Rattle.bk_arith.proofs.AtomPlaces.{removed-found, removed-not_found}
use Rattle.bk_arith.proofs.multiplying.removed.Goals as goal

pub returns-in_default : goal.returns-in_default
returns-in_default c =
    let place : c.position.result ≡ position_from (is_same c.args.form.now) 0 c.args.list.now =
    position_from_yields_List (is_same c.args.form.now) _ _ c.position.result c.position.ensures.ran (YieldsList-from_slice _ c.iter.ensures.rest) (λ x b q k. search (rules, tests))
    ∙ position_from-zero (is_same c.args.form.now) c.args.list.now in
    sym (removed-not_found c.args.form.now c.args.list.now 0 (sym place ∙ c.in_default.is))

pub returns : goal.returns
returns c =
    let place : c.position.result ≡ position_from (is_same c.args.form.now) 0 c.args.list.now =
    position_from_yields_List (is_same c.args.form.now) _ _ c.position.result c.position.ensures.ran (YieldsList-from_slice _ c.iter.ensures.rest) (λ x b q k. search (rules, tests))
    ∙ position_from-zero (is_same c.args.form.now) c.args.list.now in
    let i = c.in-Some.index in
    let rest = removed-found c.args.form.now c.args.list.now i (sym place ∙ c.in-Some.is) in
    let behind = take_all (length c.args.list.now - (i + 1)) (drop (i + 1) c.args.list.now) (omega (arith, length-drop (i + 1) c.args.list.now)) in
    ap (λ l. Some l) (c.in_ok-joined.ensures ∙ ap (λ l. take i c.args.list.now ++ l) behind) ∙ sym rest.1
