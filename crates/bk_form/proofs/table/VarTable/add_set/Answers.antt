use Rattle.std.proofs.Common.{◌≡◌, ◌++◌, ◌∷◌, [], rules, ◌<◌, ◌^◌, length}
use Rattle.bk_form.proofs.Tables.{with_set-well_formed, with_set-numberable}
use Rattle.bk_form.proofs.table.VarTable.add_set.Goals as goal

pub invariant_of-self-2 : goal.invariant_of-self-2
invariant_of-self-2 c =
    let more : c.push.new.self.items ≡ c.self.inside.sets.items ++ record { name = c.args.name; elements = c.args.elements.items; size = c.args.size } ∷ [] = search rules in
    let few : length c.self.inside.sets.items < 2 ^ 32 = search rules in
    rw more (
      with_set-well_formed (record { sets = c.self.inside.sets.items; variables = c.self.inside.variables.items }) _ c.self.invariant.0 c.requires.counted,
      with_set-numberable (record { sets = c.self.inside.sets.items; variables = c.self.inside.variables.items }) _ c.self.invariant.1 few,
    )
