use Rattle.std.proofs.Common.{[], ◌∷◌, map, sym, ◌∙◌, true≢false, arith, rules}
use Rattle.bk_form.proofs.Pools.Placed.{later, pushed, pushed-differ, pushed-number}
use Rattle.bk_form.proofs.pool.type_lists.type_number.Goals as goal

pub loop-i-preserved : goal.loop-i-preserved
loop-i-preserved c = later (λ ts. ts.items) c.args.types.now.items c.args.list.now c.loop-i.i c.index.result.now c.index.ensures (grind (arith, rules)) (λ e. true≢false (sym (c.if-equal_all.ensures.1 (c.deref.ensures.value ∙ e)))) c.loop-i.invariant

pub returns-clause-differ : goal.returns-clause-differ
returns-clause-differ c = pushed-differ (λ ts. ts.items) c.args.types.now.items c.args.list.now c.requires c.loop-i.i (grind (arith, rules)) c.loop-i.invariant (map (λ ts. ts.items) c.push.new.self.items) (pushed (λ ts. ts.items) c.args.types.now.items c.args.list.now c.in_ok-copy.copy c.push.new.self.items c.in_ok-push.ensures.items c.in_ok-copy.ensures)

pub returns-clause-grows : goal.returns-clause-grows
returns-clause-grows c = (c.args.list.now ∷ [], pushed (λ ts. ts.items) c.args.types.now.items c.args.list.now c.in_ok-copy.copy c.push.new.self.items c.in_ok-push.ensures.items c.in_ok-copy.ensures)

pub returns-clause-number : goal.returns-clause-number
returns-clause-number c = pushed-number (λ ts. ts.items) c.args.types.now.items c.args.list.now (map (λ ts. ts.items) c.push.new.self.items) (pushed (λ ts. ts.items) c.args.types.now.items c.args.list.now c.in_ok-copy.copy c.push.new.self.items c.in_ok-push.ensures.items c.in_ok-copy.ensures) c.len-n.result (grind (arith, rules))
