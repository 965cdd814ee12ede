use Rattle.std.proofs.Common.{◌≡◌, ◌<◌, ◌∙◌, sym, ap, subst, length, slice_index_or}
use Rattle.bk_form.specs.Table.{SetEntry, Table, with_size}
use Rattle.bk_form.proofs.Tables.{size-written, deferred-listed}
use Rattle.bk_form.proofs.table.VarTable.give_size.Goals as goal

pub returns : goal.returns
returns c =
    let t : Table = record { sets = c.self.inside.sets.items; variables = c.self.inside.variables.items } in
    let listed : c.args.set < length t.sets = subst (λ (t : Table). c.args.set < length t.sets) (sym c.self.view_is) (deferred-listed c.args.self.now c.args.set c.requires.deferred) in
    let row : SetEntry = record { name = c.behind-self.inside.name; elements = c.behind-self.inside.elements.items; size = c.behind-self.inside.size } in
    let was : row ≡ slice_index_or t.sets c.args.set row = c.behind-self.view_is ∙ c.index_mut.ensures.value ∙ ap (slice_index_or t.sets c.args.set) (sym c.behind-self.view_is) in
    size-written t c.args.set c.args.size row listed was ∙ ap (λ (t : Table). with_size t c.args.set c.args.size) c.self.view_is
