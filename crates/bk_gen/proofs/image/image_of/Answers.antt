use Rattle.std.proofs.Common.{◌≡◌, ◌+◌, ◌++◌, List, map, length, sym, ◌∙◌, ap, subst, arith, All}
use Rattle.bk_dev.specs.Development.{Body}
use Rattle.bk_form.specs.Table.{element_texts}
use Rattle.bk_b0.specs.CodeUnit.{unit_places}
use Rattle.bk_b0.specs.Places.{placed_block, placed_entries, placed_bodies}
use Rattle.bk_gen.specs.Executed.{HasStatementCode}
use Rattle.bk_gen.specs.Sizes.{block_size, blocks_size}
use Rattle.bk_gen.proofs.Lengths.{block_long}
use Rattle.std.proofs.Common.{to_z, of_z}
use Rattle.std.specs.Int.{w64}
use Rattle.std.proofs.lemmas.Int.{to_z-of_z}
use Rattle.bk_dev.specs.Development.{IsRange}
use Rattle.bk_gen.proofs.Spellings.{range-fits}
use Rattle.bk_gen.proofs.image.image_of.Goals as goal

pub add_block-requires-clause-has : goal.add_block-requires-clause-has
add_block-requires-clause-has c = subst (HasStatementCode (unit_places c.args.unit.now)) (sym c.init.ensures) c.requires.init

pub add_block-requires-clause-short : goal.add_block-requires-clause-short
add_block-requires-clause-short c =
    let p = unit_places c.args.unit.now in
    omega (arith, c.requires.short, ap (block_size p) c.init.ensures, ap length c.new-code.ensures.items)

pub add_operations-requires-clause-short : goal.add_operations-requires-clause-short
add_operations-requires-clause-short c =
    let u = c.args.unit.now in
    let p = unit_places u in
    let first : c.add_block.new.code.items ≡ placed_block p u.init = c.in_ok-add_block.ensures ∙ (λ i. c.new-code.ensures.items i ++ placed_block p (c.init.ensures i)) in
    let long : length c.add_block.new.code.items ≡ block_size p u.init = ap length first ∙ block_long p u.init c.requires.init in
    omega (arith, c.requires.short, long, ap (blocks_size p) c.bodies.ensures)

pub add_operations-requires-clause-has : goal.add_operations-requires-clause-has
add_operations-requires-clause-has c = subst (λ (bs : List Body). All (λ b. HasStatementCode (unit_places c.args.unit.now) b.sub) bs) (sym c.bodies.ensures) c.requires.bodies

pub add_operations-requires-clause-paired : goal.add_operations-requires-clause-paired
add_operations-requires-clause-paired c = ap length c.heads.ensures ∙ (c.requires.paired ∙ sym (ap length c.bodies.ensures))

pub returns : goal.returns
returns c =
    let u = c.args.unit.now in
    let p = unit_places u in
    let first : c.add_block.new.code.items ≡ placed_block p u.init = c.in_ok-add_block.ensures ∙ (λ i. c.new-code.ensures.items i ++ placed_block p (c.init.ensures i)) in
    let code : c.add_operations.new.code.items ≡ placed_block p u.init ++ placed_bodies p u.bodies = c.in_ok-ops.ensures.code ∙ (λ i. first i ++ placed_bodies p (c.bodies.ensures i)) in
    let ops : c.in_ok-ops.ops.items ≡ placed_entries p (length (placed_block p u.init)) u.heads u.bodies = c.in_ok-ops.ensures.entries ∙ (λ i. placed_entries p (length (first i)) (c.heads.ensures i) (c.bodies.ensures i)) in
    let most : to_z w64 (of_z w64 c.max_of.result) ≡ u.arrays.max = to_z-of_z w64 c.max_of.result (range-fits c.max_of.result (subst IsRange (sym c.max_of.ensures) c.requires.range)) ∙ c.max_of.ensures in
    λ i. record { max = most i; cells = c.few_cells.ensures i; sets = (c.from_vec.ensures ∙ (c.in_ok-sets.ensures ∙ ap (map element_texts) c.sets.ensures)) i; ops = (c.from_vec-2.ensures ∙ ops) i; code = (c.from_vec-3.ensures ∙ code) i }
