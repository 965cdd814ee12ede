use Rattle.std.proofs.Common.{◌<ℤ◌, pos, ◌≡◌, ℤ, take, All, sym, rules, arith, subst, ◌+◌}
use Rattle.std.proofs.lemmas.Int.{ints}
use Rattle.std.specs.Global.{Vec}
use Rattle.std.specs.Int.{w128, cast_signed, cast_unsigned}
use Rattle.bk_lin.proofs.Adding.{back}
use Rattle.bk_lin.specs.Certificate.{inequalities}
use Rattle.bk_elim.specs.declared.bounds.Bounds.{Bounds}
use Rattle.bk_elim.specs.Elimination.{entry, joined}
use Rattle.bk_elim.specs.Rows.{IsRow}
use Rattle.bk_elim.specs.Bounds.{AreBounds, IsTaken}
use Rattle.bk_elim.specs.Layout.{list_in}
use Rattle.bk_elim.proofs.Steps.{all_of, at_index, from_all}
use Rattle.bk_elim.proofs.Ending.{IsCrossed, Keeps, crossed_more}
use Rattle.bk_elim.proofs.elimination.take_joined.Goals.{then-index-lt0+in_ok-found+in-None, else-index-lt0}
use Rattle.bk_elim.proofs.elimination.take_joined.Goals as goal

pub take_one-requires : goal.take_one-requires
take_one-requires c =
    let row : IsRow (inequalities c.args.facts.now) 2 c.down-item.result.items =
    from_all (λ (v : Vec ℤ). IsRow (inequalities c.args.facts.now) 2 v.items) c.args.rows.now c.loop-down.down-index c.down-item.result c.loop-down-test.true c.down-item.is c.requires.rows in
    let read : c.index.result.now ≡ entry c.down-item.result.items 2 = at_index c.down-item.result.items 2 c.index.result.now (let e = row.wide in omega arith) c.index.ensures in
    let same : cast_signed w128 (cast_unsigned w128 c.index.result.now) ≡ c.index.result.now = back c.index.result.now (search rules) in
    let down : entry c.down-item.result.items 2 <ℤ pos 0 = omega (arith, ints) in
    record {
      up_row = c.requires.up_row;
      down_row = subst (IsRow (inequalities c.args.facts.now) 2) (sym c.deref.ensures.value) row;
      up = c.requires.up;
      down = subst (λ r. entry r 2 <ℤ pos 0) (sym c.deref.ensures.value) down;
      bounds = c.loop-down.invariant.bounds;
    }

pub loop-down-preserved : goal.loop-down-preserved
loop-down-preserved c =
    elim c.if-index-lt0.branch [
      | then-index-lt0+in_ok-found+in-None w ↦
          let first : IsTaken (inequalities c.args.facts.now) (list_in c.loop-down.bounds.low) (list_in c.loop-down.bounds.high) (list_in w.take_one.new.bounds.low) (list_in w.take_one.new.bounds.high) (entry (joined 2 c.args.up.now w.deref.result.now) 3) (entry (joined 2 c.args.up.now w.deref.result.now) 4) =
          rw w.in-None.is at w.in_ok-found.ensures in
          let taken : IsTaken (inequalities c.args.facts.now) (list_in c.loop-down.bounds.low) (list_in c.loop-down.bounds.high) (list_in w.take_one.new.bounds.low) (list_in w.take_one.new.bounds.high) (entry (joined 2 c.args.up.now c.down-item.result.items) 3) (entry (joined 2 c.args.up.now c.down-item.result.items) 4) =
          subst (λ r. IsTaken (inequalities c.args.facts.now) (list_in c.loop-down.bounds.low) (list_in c.loop-down.bounds.high) (list_in w.take_one.new.bounds.low) (list_in w.take_one.new.bounds.high) (entry (joined 2 c.args.up.now r) 3) (entry (joined 2 c.args.up.now r) 4)) w.deref.ensures.value first in
          record {
            bounds = subst (λ (b : Bounds). AreBounds (inequalities c.args.facts.now) (list_in b.low) (list_in b.high)) (sym w.bounds-is) taken.bounds;
            crossed = subst (λ (b : Bounds). All (IsCrossed c.args.up.now (list_in b.low) (list_in b.high)) (take (c.loop-down.down-index + 1) c.args.rows.now)) (sym w.bounds-is)
                (crossed_more c.args.up.now (list_in c.loop-down.bounds.low) (list_in c.loop-down.bounds.high) (list_in w.take_one.new.bounds.low) (list_in w.take_one.new.bounds.high) c.args.rows.now c.loop-down.down-index c.down-item.result taken.kept c.loop-down-test.true c.down-item.is c.loop-down.invariant.crossed (λ down. taken.covered));
            kept = subst (λ (b : Bounds). Keeps (list_in c.args.bounds.now.low) (list_in c.args.bounds.now.high) (list_in b.low) (list_in b.high)) (sym w.bounds-is) (λ h k x. taken.kept h k (c.loop-down.invariant.kept h k x));
          }
      | else-index-lt0 w ↦
          let row : IsRow (inequalities c.args.facts.now) 2 c.down-item.result.items =
          from_all (λ (v : Vec ℤ). IsRow (inequalities c.args.facts.now) 2 v.items) c.args.rows.now c.loop-down.down-index c.down-item.result c.loop-down-test.true c.down-item.is c.requires.rows in
          let read : c.index.result.now ≡ entry c.down-item.result.items 2 = at_index c.down-item.result.items 2 c.index.result.now (let e = row.wide in omega arith) c.index.ensures in
          let same : cast_signed w128 (cast_unsigned w128 c.index.result.now) ≡ c.index.result.now = back c.index.result.now (search rules) in
          record {
            bounds = subst (λ (b : Bounds). AreBounds (inequalities c.args.facts.now) (list_in b.low) (list_in b.high)) (sym w.bounds-is) c.loop-down.invariant.bounds;
            crossed = subst (λ (b : Bounds). All (IsCrossed c.args.up.now (list_in b.low) (list_in b.high)) (take (c.loop-down.down-index + 1) c.args.rows.now)) (sym w.bounds-is)
                (crossed_more c.args.up.now (list_in c.loop-down.bounds.low) (list_in c.loop-down.bounds.high) (list_in c.loop-down.bounds.low) (list_in c.loop-down.bounds.high) c.args.rows.now c.loop-down.down-index c.down-item.result (λ h k x. x) c.loop-down-test.true c.down-item.is c.loop-down.invariant.crossed (λ down. absurd (omega (arith, ints))));
            kept = subst (λ (b : Bounds). Keeps (list_in c.args.bounds.now.low) (list_in c.args.bounds.now.high) (list_in b.low) (list_in b.high)) (sym w.bounds-is) c.loop-down.invariant.kept;
          }
    ]

pub returns : goal.returns
returns c = (c.loop-down.invariant.bounds, all_of (IsCrossed c.args.up.now (list_in c.loop-down.bounds.low) (list_in c.loop-down.bounds.high)) c.args.rows.now c.loop-down.down-index (omega arith) c.loop-down.invariant.crossed, c.loop-down.invariant.kept)
