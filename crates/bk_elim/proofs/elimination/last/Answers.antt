use Rattle.std.proofs.Common.{◌≡◌, ℤ, take, All, sym, rules, arith, subst, ◌+◌}
use Rattle.std.proofs.lemmas.Int.{ints}
use Rattle.std.specs.Global.{Vec}
use Rattle.std.specs.Int.{w128, cast_signed, cast_unsigned}
use Rattle.bk_lin.proofs.Adding.{back}
use Rattle.bk_lin.specs.Certificate.{inequalities}
use Rattle.bk_elim.specs.declared.bounds.Bounds.{Bounds}
use Rattle.bk_elim.specs.Elimination.{entry}
use Rattle.bk_elim.specs.Rows.{IsRow}
use Rattle.bk_elim.specs.Bounds.{AreBounds}
use Rattle.bk_elim.specs.Layout.{list_in}
use Rattle.bk_elim.proofs.Steps.{all_of, at_index, from_all}
use Rattle.bk_elim.proofs.Ending.{IsLeveled, IsPassed, IsCrossed, Keeps, leveled_kept, passed_more, ended}
use Rattle.bk_elim.proofs.elimination.last.Goals.{then-index-gt0+in_ok-found-2+in-None-2, else-index-gt0}
use Rattle.bk_elim.proofs.elimination.last.Goals as goal

pub loop-up-preserved : goal.loop-up-preserved
loop-up-preserved c =
    let row : IsRow (inequalities c.args.facts.now) 2 c.up-item.result.items =
    from_all (λ (v : Vec ℤ). IsRow (inequalities c.args.facts.now) 2 v.items) c.args.rows.now c.loop-up.up-index c.up-item.result c.loop-up-test.true c.up-item.is c.requires.rows in
    let read : c.index.result.now ≡ entry c.up-item.result.items 2 = at_index c.up-item.result.items 2 c.index.result.now (let e = row.wide in omega arith) c.index.ensures in
    let same : cast_signed w128 (cast_unsigned w128 c.index.result.now) ≡ c.index.result.now = back c.index.result.now (search rules) in
    elim c.if-index-gt0.branch [
      | then-index-gt0+in_ok-found-2+in-None-2 w ↦
          let found : AreBounds (inequalities c.args.facts.now) (list_in w.take_joined.new.bounds.low) (list_in w.take_joined.new.bounds.high)
          × All (IsCrossed w.deref.result.now (list_in w.take_joined.new.bounds.low) (list_in w.take_joined.new.bounds.high)) c.args.rows.now
          × Keeps (list_in c.loop-up.bounds.low) (list_in c.loop-up.bounds.high) (list_in w.take_joined.new.bounds.low) (list_in w.take_joined.new.bounds.high) = rw w.in-None-2.is at w.in_ok-found-2.ensures in
          let here : IsPassed c.args.rows.now (list_in w.take_joined.new.bounds.low) (list_in w.take_joined.new.bounds.high) c.up-item.result =
          λ up. subst (λ p. All (IsCrossed p (list_in w.take_joined.new.bounds.low) (list_in w.take_joined.new.bounds.high)) c.args.rows.now) w.deref.ensures.value found.1 in
          record {
            bounds = subst (λ (b : Bounds). AreBounds (inequalities c.args.facts.now) (list_in b.low) (list_in b.high)) (sym w.bounds-is) found.0;
            level = subst (λ (b : Bounds). All (IsLeveled (list_in b.low) (list_in b.high)) c.args.rows.now) (sym w.bounds-is)
                (leveled_kept (list_in c.loop-up.bounds.low) (list_in c.loop-up.bounds.high) (list_in w.take_joined.new.bounds.low) (list_in w.take_joined.new.bounds.high) c.args.rows.now found.2 c.loop-up.invariant.level);
            passed = subst (λ (b : Bounds). All (IsPassed c.args.rows.now (list_in b.low) (list_in b.high)) (take (c.loop-up.up-index + 1) c.args.rows.now)) (sym w.bounds-is)
                (passed_more (list_in c.loop-up.bounds.low) (list_in c.loop-up.bounds.high) (list_in w.take_joined.new.bounds.low) (list_in w.take_joined.new.bounds.high) c.args.rows.now c.loop-up.up-index c.up-item.result found.2 c.loop-up-test.true c.up-item.is c.loop-up.invariant.passed here);
          }
      | else-index-gt0 w ↦
          record {
            bounds = subst (λ (b : Bounds). AreBounds (inequalities c.args.facts.now) (list_in b.low) (list_in b.high)) (sym w.bounds-is) c.loop-up.invariant.bounds;
            level = subst (λ (b : Bounds). All (IsLeveled (list_in b.low) (list_in b.high)) c.args.rows.now) (sym w.bounds-is) c.loop-up.invariant.level;
            passed = subst (λ (b : Bounds). All (IsPassed c.args.rows.now (list_in b.low) (list_in b.high)) (take (c.loop-up.up-index + 1) c.args.rows.now)) (sym w.bounds-is)
                (passed_more (list_in c.loop-up.bounds.low) (list_in c.loop-up.bounds.high) (list_in c.loop-up.bounds.low) (list_in c.loop-up.bounds.high) c.args.rows.now c.loop-up.up-index c.up-item.result (λ h k x. x) c.loop-up-test.true c.up-item.is c.loop-up.invariant.passed (λ up. absurd (omega (arith, ints))));
          }
    ]

pub returns : goal.returns
returns c = ended (inequalities c.args.facts.now) (list_in c.loop-up.bounds.low) (list_in c.loop-up.bounds.high) c.args.rows.now c.loop-up.invariant.bounds c.loop-up.invariant.level (all_of (IsPassed c.args.rows.now (list_in c.loop-up.bounds.low) (list_in c.loop-up.bounds.high)) c.args.rows.now c.loop-up.up-index (omega arith) c.loop-up.invariant.passed)
