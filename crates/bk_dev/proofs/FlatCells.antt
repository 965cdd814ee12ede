-- Of a last level without || flattening leaves the arrays and the cells.
use Rattle.bk_dev.specs.Laws.{FlattenedKeepsCells}
use Rattle.bk_dev.proofs.FlatSame.{low-same, arrays-same, cell-same, cells-same, count-same}
use Rattle.bk_dev.proofs.InTable.{low-vars}

pub flattened_keeps_cells : FlattenedKeepsCells
flattened_keeps_cells = record {
  level = λ dev f b. low-same dev f.some_level b.init b.bodies;
  arrays = λ dev f b. arrays-same dev f.some_level b.init b.bodies (low-vars dev f);
  cells = λ dev f b x. (cell-same dev f.some_level b.init b.bodies (low-vars dev f) x, cells-same dev f.some_level b.init b.bodies (low-vars dev f) x);
  count = λ dev f b. count-same dev f.some_level b.init b.bodies (low-vars dev f);
}
