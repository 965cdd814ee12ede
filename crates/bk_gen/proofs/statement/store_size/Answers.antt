use Rattle.std.proofs.Common.{rules, ◌≡◌, ◌-◌, ◌^◌, min, Some, sym, ap, ◌∙◌}
use Rattle.bk_form.specs.ArrayTable.{row_of}
use Rattle.bk_dev.specs.Layout.{index_count, row_cells}
use Rattle.bk_gen.specs.Sizes.{written_size, store_size}
use Rattle.bk_gen.proofs.statement.store_size.Goals as goal

pub returns-in-Some : goal.returns-in-Some
returns-in-Some c =
    let u = c.args.unit.now in
    let term = c.args.term.now in
    let found : row_of u.arrays c.args.variable ≡ Some c.in-Some.row.now = search rules in
    c.written_size.ensures ∙ (ap (λ n. min (written_size n term) (2 ^ 64 - 1)) (c.index_count.ensures ∙ ap (λ t. index_count t c.in-Some.row.now.domain) c.table.ensures) ∙
    ap (λ o. min (store_size (row_cells u.table o) o term) (2 ^ 64 - 1)) (sym found))
