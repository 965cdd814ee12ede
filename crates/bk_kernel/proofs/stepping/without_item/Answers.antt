use Rattle.std.proofs.Common.{◌≡◌, ◌+◌, ◌-◌, ◌++◌, List, take, drop, length, length-drop, ◌∙◌, ap, arith}
use Rattle.std.proofs.lemmas.List.{take_all}
use Rattle.bk_form.specs.Formula.{Formula}
use Rattle.bk_kernel.proofs.Steps.{item-dropped}
use Rattle.bk_kernel.proofs.stepping.without_item.Goals as goal

pub returns : goal.returns
returns c =
    let xs = c.args.forms.now in
    let i = c.in-Some.index in
    let behind = take_all (length xs - (i + 1)) (drop (i + 1) xs) (omega (arith, length-drop (i + 1) xs)) in
    let made : c.push_all.new.forms.items ≡ take i xs ++ drop (i + 1) xs =
    c.in_ok-push_all.ensures
    ∙ ap (λ (l : List Formula). l ++ take (length xs - (i + 1)) (drop (i + 1) xs)) c.in_ok-kept.ensures
    ∙ ap (λ (l : List Formula). take i xs ++ l) behind in
    item-dropped c.args.number i xs c.push_all.new.forms.items c.in-Some.ensures.0 c.in-Some.ensures.1 c.if-index-forms.false made
