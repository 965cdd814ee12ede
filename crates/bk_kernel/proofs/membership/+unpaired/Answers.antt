use Rattle.std.proofs.Common.{◌∷◌, ◌++◌, [], sym, ◌∙◌, ap, arith}
use Rattle.std.specs.Prelude.{Option, Some}
use Rattle.std.specs.Option.{option_map}
use Rattle.std.specs.Global.{Vec}
use Rattle.bk_form.specs.Formula.{Formula}
use Rattle.bk_kernel.specs.Held.{list_in}
use Rattle.bk_kernel.proofs.Tuplings.{pair-taken}
use Rattle.bk_kernel.proofs.membership.+unpaired.Goals as goal

pub returns-in_default-2 : goal.returns-in_default-2
returns-in_default-2 t c =
    let last = c.in-Some.right.now in
    ap (λ (o : Option (Vec Formula)). option_map (λ es. es ++ last ∷ []) (list_in o)) (sym c.in_default-2.is) ∙ pair-taken c.args.pairs c.args.form.now c.in-Some.left.now last (list_in c.in_ok-terms.field-0) (omega arith) c.in-Some.ensures c.in_ok-terms.ensures

pub returns : goal.returns
returns t c =
    let last = c.in-Some.right.now in
    let terms = c.in-Some-2.terms.items in
    ap Some (c.in_ok-append.ensures ∙ ap (λ (x : Formula). terms ++ x ∷ []) c.in_ok-copy-2.ensures)
    ∙ ap (λ (o : Option (Vec Formula)). option_map (λ es. es ++ last ∷ []) (list_in o)) (sym c.in-Some-2.is)
    ∙ pair-taken c.args.pairs c.args.form.now c.in-Some.left.now last (list_in c.in_ok-terms.field-0) (omega arith) c.in-Some.ensures c.in_ok-terms.ensures
