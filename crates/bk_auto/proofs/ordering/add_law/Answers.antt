use Rattle.std.proofs.Common.{◌≡◌, ◌∙◌, map, ap}
use Rattle.std.proofs.lemmas.List.{take_all}
use Rattle.std.proofs.lemmas.Result.{on_ok_weaker}
use Rattle.std.specs.Borrow.{Bor}
use Rattle.bk_form.specs.Formula.{Formula}
use Rattle.bk_auto.proofs.ordering.add_law.Goals as goal

pub returns : goal.returns
returns c =
    on_ok_weaker c.add.result
    (λ e. record {
      terms = c.loop-pick.list;
      path = c.new.result;
      same = e;
      are_picks = c.loop-pick.invariant ∙ ap (map (λ (f : Bor Formula). f.now)) (take_all c.loop-pick.pick-index c.args.picks.now c.loop-pick-test.false);
      whole = c.new.ensures.items;
    })
    c.add.ensures
