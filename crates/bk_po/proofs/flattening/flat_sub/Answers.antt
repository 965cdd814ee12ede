use Rattle.std.proofs.Common.{◌≡◌, [], ◌∙◌, ap}
use Rattle.bk_par.specs.Overlaps.{overlaps}
use Rattle.bk_po.proofs.Overlapping.{no_least}
use Rattle.bk_po.proofs.flattening.flat_sub.Goals as goal

pub unreachable-requires : goal.unreachable-requires
unreachable-requires c =
    let v = c.in-Err-Overlap.field-0-0 in
    let none : overlaps c.in_ok-copy.field-0 ≡ [] = ap overlaps c.in_ok-copy.ensures ∙ c.requires in
    no_least (overlaps c.in_ok-copy.field-0) v none (c.flatten.ensures.overlap v (cc (c.in-Err-Overlap.is, c.in-Err-Overlap.field-0-is)))
