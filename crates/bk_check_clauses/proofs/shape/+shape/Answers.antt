use Rattle.std.specs.Option.{option_copied}
use Rattle.std.proofs.Common.{◌∙◌}
use Rattle.bk_elab_terms.specs.Shown.{told}
use Rattle.bk_check_clauses.proofs.Shapes.{branches-told, choices-told}
use Rattle.bk_check_clauses.proofs.shape.+shape.Goals as goal

pub branches_shape-returns : goal.branches_shape-returns
branches_shape-returns t c =
    c.earlier.ensures
    ∙ branches-told c.args.kind c.args.inside c.args.branches.now (option_copied c.args.last) c.branch-item.result (told c.shape_fault-fault.result) (told c.branches_shape.result) c.in-len1-up.len_at_least c.branch-item.is c.shape_fault-fault.ensures c.branches_shape.ensures

pub choices_shape-returns : goal.choices_shape-returns
choices_shape-returns t c =
    c.earlier.ensures
    ∙ choices-told c.args.kind c.args.inside c.args.choices.now c.choice-item.result (told c.shape_fault-fault.result) (told c.choices_shape.result) c.in-len1-up.len_at_least c.choice-item.is c.shape_fault-fault.ensures c.choices_shape.ensures
