use Rattle.std.proofs.Common.{◌≤◌, length, take, subst, ap, ◌∙◌, All, slice_index_or, arith, rules}
use Rattle.std.proofs.lemmas.List.{take_all}
use Rattle.std.proofs.lemmas.List.Elements.{All-more, All-weaker}
use Rattle.bk_verbs.proofs.session.most_outputs.Goals as goal

pub loop-entry-preserved : goal.loop-entry-preserved
loop-entry-preserved c =
    All-more (λ e. length e.outputs ≤ c.max-most.result) c.args.image.now.ops c.loop-entry.entry-index c.entry-item.result (search rules)
    (All-weaker (λ e. length e.outputs ≤ c.loop-entry.most) (λ e. length e.outputs ≤ c.max-most.result) (λ e h. omega (arith, h, c.max-most.ensures)) (take c.loop-entry.entry-index c.args.image.now.ops) c.loop-entry.invariant)
    (subst (λ e. length e.outputs ≤ c.max-most.result) (c.entry-item.is ∙ ap (λ l. slice_index_or l c.loop-entry.entry-index c.entry-item.result) c.as_slice-entry-items.ensures) (omega (arith, c.max-most.ensures, ap length c.as_slice.ensures)))

pub returns : goal.returns
returns c = subst (All (λ e. length e.outputs ≤ c.loop-entry.most)) (take_all c.loop-entry.entry-index c.args.image.now.ops (search rules)) c.loop-entry.invariant
