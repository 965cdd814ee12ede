use Rattle.std.proofs.Common.{ℕ, List, ◌++◌, ◌∙◌, ap, length, map, subst, sym}
use Rattle.bk_seq.specs.Sequents.{sequent_of}
use Rattle.bk_goal.specs.Shown.{ShowsFrom}
use Rattle.bk_goal.proofs.Lines.{length_held, sequents_turn, sequents_all}
use Rattle.bk_goal.proofs.sequents.sequents_text.Goals as goal

pub loop-index-preserved : goal.loop-index-preserved
loop-index-preserved c =
    let l = c.loop-index in
    let written = c.in_ok-extend_from_slice.ensures.items ∙ ap (λ (xs : List ℕ). l.text.items ++ xs) c.deref.ensures.value in
    sequents_turn c.args.table.now c.args.brought (length c.args.open.now) c.args.open.now l.index c.index-open-index.result l.text.items c.in_ok-block.block.items c.extend_from_slice.new.self.items c.loop-index-test.true c.index-open-index.is l.invariant
    c.old_at-old.result c.old_at-old.ensures c.in_ok-block.ensures written

pub returns : goal.returns
returns c =
    let l = c.loop-index in
    let table = c.args.table.now in
    let held = c.args.open.now in
    let all = sequents_all table c.args.brought (length held) held l.index l.text.items c.loop-index-test.false l.invariant in
    subst (λ n. ShowsFrom table c.args.brought n 1 (map sequent_of held) l.text.items) (sym (length_held held)) all
