use Rattle.std.proofs.Common.{◌≡◌, ◌+◌, ◌≤◌, ◌++◌, [], ◌∷◌, length, ap, ◌∙◌, arith, append_assoc}
use Rattle.bk_limits.specs.declared.TheConstants.{MOST_INSTRUCTIONS}
use Rattle.bk_b0.specs.CodeUnit.{unit_places}
use Rattle.bk_b0.specs.Places.{placed_value, placed_write}
use Rattle.bk_gen.specs.Sizes.{value_size}
use Rattle.bk_gen.proofs.Lengths.{longer, value_long}
use Rattle.bk_gen.proofs.Operated.{written_is}
use Rattle.bk_gen.proofs.statement.add_element_write.Goals as goal

pub add_value-requires-2-clause-short : goal.add_value-requires-2-clause-short
add_value-requires-2-clause-short c =
    let p = unit_places c.args.unit.now in
    let fits : length c.args.code.now.items + (value_size c.args.index.now + value_size c.args.value.now + 1) ≤ MOST_INSTRUCTIONS = c.requires.short in
    let e1 : c.add_value.new.code.items ≡ c.args.code.now.items ++ placed_value p c.args.index.now = c.in_ok-add_value.ensures in
    let l1 : length c.add_value.new.code.items ≡ length c.args.code.now.items + value_size c.args.index.now = longer c.args.code.now.items (placed_value p c.args.index.now) c.add_value.new.code.items (value_size c.args.index.now) e1 (value_long p c.args.index.now c.requires.has_index) in
    omega arith

pub storing-requires-clause-few : goal.storing-requires-clause-few
storing-requires-clause-few c =
    let few = c.requires.ready.arrays c.args.variable c.args.row.now c.requires.found in
    few

pub returns : goal.returns
returns c =
    let p = unit_places c.args.unit.now in
    let e1 : c.add_value.new.code.items ≡ c.args.code.now.items ++ placed_value p c.args.index.now = c.in_ok-add_value.ensures in
    let e2 : c.add_value-2.new.code.items ≡ c.add_value.new.code.items ++ placed_value p c.args.value.now = c.in_ok-add_value-2.ensures in
    let e3 : c.push.new.self.items ≡ c.add_value-2.new.code.items ++ placed_write p c.args.variable c.args.row.now = c.in_ok-push.ensures.items ∙ (ap (λ inst. c.add_value-2.new.code.items ++ inst ∷ []) c.storing.ensures ∙ ap (λ xs. c.add_value-2.new.code.items ++ xs) (written_is c.args.unit.now c.args.variable c.args.row.now c.requires.found)) in
    e3 ∙ (ap (λ xs. xs ++ placed_write p c.args.variable c.args.row.now) (e2 ∙ ap (λ xs. xs ++ placed_value p c.args.value.now) e1) ∙
    (ap (λ xs. xs ++ placed_write p c.args.variable c.args.row.now) (append_assoc c.args.code.now.items (placed_value p c.args.index.now) (placed_value p c.args.value.now)) ∙ append_assoc c.args.code.now.items (placed_value p c.args.index.now ++ placed_value p c.args.value.now) (placed_write p c.args.variable c.args.row.now)))
