use Rattle.std.proofs.Common.{ℕ, List, [], ◌∷◌, sym, ap, ◌∙◌, subst, All}
use Rattle.bk_form.specs.Formula.{Formula}
use Rattle.bk_b0.specs.CodeUnit.{unit_places}
use Rattle.bk_gen.specs.Executed.{HasLeafCode, constant_or_cell}
use Rattle.bk_gen.proofs.Operated.{named_is}
use Rattle.bk_gen.proofs.leaf.name.Goals as goal

pub named-requires : goal.named-requires
named-requires c = subst (λ (cs : List (ℕ × Formula)). All (λ x. HasLeafCode x.1) cs) (sym c.values.ensures) c.requires.ready.values

pub returns : goal.returns
returns c =
    let p = unit_places c.args.unit.now in
    let own = c.args.unit.now.values in
    ap (λ inst. inst ∷ []) (c.named.ensures ∙ (λ i. constant_or_cell (c.slot_of-slot.ensures.value i) c.args.variable (c.values.ensures i))) ∙ named_is p c.args.variable own
