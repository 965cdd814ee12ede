use Rattle.std.proofs.Common.{ap, ◌∙◌, arith}
use Rattle.bk_dev.specs.Layout.{index_count}
use Rattle.bk_gen.proofs.array.cells_of.Goals as goal

pub overflow_cast-result : goal.overflow_cast-result
overflow_cast-result c = omega (arith, c.requires, c.index_count.ensures ∙ ap (λ t. index_count t c.args.domain) c.table.ensures)

pub returns : goal.returns
returns c = c.index_count.ensures ∙ ap (λ t. index_count t c.args.domain) c.table.ensures
