use Rattle.std.proofs.Common.{◌≤◌, sym, ap, ◌∙◌, subst}
use Rattle.bk_limits.specs.declared.TheConstants.{MOST_CELLS}
use Rattle.bk_b0.specs.CodeUnit.{first_of, slots_cells}
use Rattle.bk_gen.proofs.leaf.slot_of.Goals as goal

pub first_cell-requires : goal.first_cell-requires
first_cell-requires c = subst (λ ss. slots_cells ss ≤ MOST_CELLS) (sym c.slots.ensures) c.requires.few

pub returns-clause-value : goal.returns-clause-value
returns-clause-value c = c.first_cell.ensures.value ∙ ap (first_of c.args.variable) c.slots.ensures
