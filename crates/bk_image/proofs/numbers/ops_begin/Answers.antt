use Rattle.std.proofs.Common.{arith, ap, length}
use Rattle.std.specs.List.{flat_map}
use Rattle.bk_image.specs.Spelling.{set}
use Rattle.bk_image.proofs.Sizes.{sets_end}
use Rattle.bk_image.proofs.numbers.ops_begin.Goals as goal

pub sets_end-requires : goal.sets_end-requires
sets_end-requires c = omega (arith, c.requires, c.cells_begin.ensures.place, sets_end c.args.version c.args.image.now, ap (λ ss. length (flat_map set ss)) c.as_slice.ensures)

pub overflow_add-result : goal.overflow_add-result
overflow_add-result c = omega (arith, c.requires, c.cells_begin.ensures.place, sets_end c.args.version c.args.image.now, ap (λ ss. length (flat_map set ss)) c.as_slice.ensures, c.sets_end.ensures)

pub returns : goal.returns
returns c = omega (arith, c.cells_begin.ensures.place, sets_end c.args.version c.args.image.now, ap (λ ss. length (flat_map set ss)) c.as_slice.ensures, c.sets_end.ensures)
