use Rattle.std.proofs.Common.{suc, ◌≡◌, ◌<◌, ◌+◌, ◌≤◌, ◌++◌, [], ◌∷◌, map, length, drop, ap, sym, ◌∙◌, subst, arith, drop-cons, append_assoc}
use Rattle.std.proofs.lemmas.List.{length-append}
use Rattle.bk_limits.specs.declared.TheConstants.{MOST_INSTRUCTIONS}
use Rattle.bk_dev.specs.Development.{Body}
use Rattle.bk_code.specs.declared.image.OpEntry.{OpEntry}
use Rattle.bk_b0.specs.CodeUnit.{unit_places}
use Rattle.bk_b0.specs.Places.{placed_parameter, placed_block, placed_entries, placed_bodies}
use Rattle.bk_gen.specs.Executed.{HasStatementCode}
use Rattle.bk_gen.specs.Sizes.{block_size, blocks_size}
use Rattle.bk_gen.proofs.Lengths.{block_long}
use Rattle.bk_gen.proofs.image.add_operations.Goals as goal

pub loop-number-preserved : goal.loop-number-preserved
loop-number-preserved c =
    let p = unit_places c.args.unit.now in
    let i = c.loop-number.number in
    let b = c.index-bodies-number.result in
    let h = c.index-heads-number.result in
    let block = placed_block p b.sub in
    let before = c.loop-number.code.items in
    let after = c.add_block.new.code.items in
    let below : i < length c.args.bodies.now = c.loop-number-test.true in
    let paired : length c.args.heads.now ≡ length c.args.bodies.now = c.requires.paired in
    let next : suc i ≡ i + 1 = omega arith in
    let same : c.body.inside.sub ≡ b.sub = ap (λ (x : Body). x.sub) c.body.view_is in
    let grown : after ≡ before ++ block = c.in_ok-add_block.ensures ∙ ap (λ s. before ++ placed_block p s) same in
    let has : HasStatementCode p b.sub = subst (λ (x : Body). HasStatementCode p x.sub) (sym c.index-bodies-number.is) (c.requires.has i b below) in
    let long : length after ≡ length before + length block = ap length grown ∙ length-append before block in
    let size : length block ≡ block_size p b.sub = block_long p b.sub has in
    let bodies : drop i c.args.bodies.now ≡ b ∷ drop (i + 1) c.args.bodies.now = drop-cons c.args.bodies.now i b below ∙ (λ j. sym c.index-bodies-number.is j ∷ drop (next j) c.args.bodies.now) in
    let heads : drop i c.args.heads.now ≡ h ∷ drop (i + 1) c.args.heads.now = drop-cons c.args.heads.now i h (omega arith) ∙ (λ j. sym c.index-heads-number.is j ∷ drop (next j) c.args.heads.now) in
    let place : c.len.result ≡ length before = omega (arith, c.len.ensures, c.loop-number.code.ok) in
    let entry : OpEntry = record { name = h.name; start = length before; inputs = map (placed_parameter p) h.inputs; outputs = map (placed_parameter p) b.outputs } in
    let entered : c.in_ok-entry_of.field-0 ≡ entry = c.in_ok-entry_of.ensures ∙ (λ j. record { name = h.name; start = place j; inputs = map (placed_parameter p) h.inputs; outputs = map (placed_parameter p) b.outputs }) in
    let rest = placed_entries p (length after) (drop (i + 1) c.args.heads.now) (drop (i + 1) c.args.bodies.now) in
    let count : length before + blocks_size p (b ∷ drop (i + 1) c.args.bodies.now) ≤ MOST_INSTRUCTIONS = subst (λ bs. length before + blocks_size p bs ≤ MOST_INSTRUCTIONS) bodies c.loop-number.invariant.short in
    record {
      code = ap (λ xs. xs ++ placed_bodies p (drop (i + 1) c.args.bodies.now)) grown ∙ (append_assoc before block (placed_bodies p (drop (i + 1) c.args.bodies.now)) ∙
          (ap (λ bs. before ++ placed_bodies p bs) (sym bodies) ∙ c.loop-number.invariant.code));
      entries = ap (λ xs. xs ++ rest) (c.in_ok-push.ensures.items ∙ ap (λ x. c.loop-number.ops.items ++ x ∷ []) entered) ∙ (append_assoc c.loop-number.ops.items (entry ∷ []) rest ∙
          (ap (λ n. c.loop-number.ops.items ++ entry ∷ placed_entries p n (drop (i + 1) c.args.heads.now) (drop (i + 1) c.args.bodies.now)) long ∙
          ((λ j. c.loop-number.ops.items ++ placed_entries p (length before) (sym heads j) (sym bodies j)) ∙ c.loop-number.invariant.entries)));
      short = omega arith;
    }
