use Rattle.std.proofs.Common.{◌≡◌, [], length, min, ◌∙◌, sym, ap}
use Rattle.bk_seq.specs.Sequents.{split}
use Rattle.bk_po.proofs.Sequents.{implied-count}
use Rattle.bk_po.proofs.splits.+count.Goals as goal

pub returns-in-Bin-Imp-default-default : goal.returns-in-Bin-Imp-default-default
returns-in-Bin-Imp-default-default t c =
    let arm = c.in-Bin-Imp-default-default in
    let same : length (split [] c.args.goal.now) ≡ length (split [] arm.right.now) = implied-count c.args.goal.now arm.field-1.now arm.right.now arm.field-0 arm.field-0-is arm.ensures in
    c.count-in-Bin-Imp-default-default.ensures ∙ ap (λ n. min n 18446744073709551615) (sym same)
