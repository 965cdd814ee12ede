use Rattle.std.proofs.Common.{◌≡◌, ℤ, take, All, sym, rules, ◌∙◌, arith, subst, ◌+◌}
use Rattle.std.proofs.lemmas.Int.{ints}
use Rattle.std.specs.Global.{Vec}
use Rattle.std.specs.Int.{w128, cast_signed, cast_unsigned}
use Rattle.bk_lin.proofs.Adding.{back}
use Rattle.bk_lin.specs.Certificate.{inequalities}
use Rattle.bk_elim.specs.declared.bounds.Bounds.{Bounds}
use Rattle.bk_elim.specs.Elimination.{entry}
use Rattle.bk_elim.specs.Rows.{IsRow}
use Rattle.bk_elim.specs.Bounds.{AreBounds, IsTaken}
use Rattle.bk_elim.specs.Layout.{list_in}
use Rattle.bk_elim.proofs.Steps.{all_of, at_index, from_all}
use Rattle.bk_elim.proofs.Ending.{IsLeveled, leveled_more}
use Rattle.bk_elim.proofs.elimination.take_level.Goals.{then-index-eq0+in_ok-copy_row+in_ok-found+in-None, else-index-eq0}
use Rattle.bk_elim.proofs.elimination.take_level.Goals as goal

pub loop-row-preserved : goal.loop-row-preserved
loop-row-preserved c =
    let row : IsRow (inequalities c.args.facts.now) 2 c.row-item.result.items =
    from_all (λ (v : Vec ℤ). IsRow (inequalities c.args.facts.now) 2 v.items) c.args.rows.now c.loop-row.row-index c.row-item.result c.loop-row-test.true c.row-item.is c.requires.rows in
    let read : c.index.result.now ≡ entry c.row-item.result.items 2 = at_index c.row-item.result.items 2 c.index.result.now (let e = row.wide in omega arith) c.index.ensures in
    let same : cast_signed w128 (cast_unsigned w128 c.index.result.now) ≡ c.index.result.now = back c.index.result.now (search rules) in
    elim c.if-index-eq0.branch [
      | then-index-eq0+in_ok-copy_row+in_ok-found+in-None w ↦
          let copied : w.in_ok-copy_row.field-0.items ≡ c.row-item.result.items = w.in_ok-copy_row.ensures ∙ w.deref.ensures.value in
          let first : IsTaken (inequalities c.args.facts.now) (list_in c.loop-row.bounds.low) (list_in c.loop-row.bounds.high) (list_in w.take.new.self.low) (list_in w.take.new.self.high) (entry w.in_ok-copy_row.field-0.items 3) (entry w.in_ok-copy_row.field-0.items 4) =
          rw w.in-None.is at w.in_ok-found.ensures in
          let taken : IsTaken (inequalities c.args.facts.now) (list_in c.loop-row.bounds.low) (list_in c.loop-row.bounds.high) (list_in w.take.new.self.low) (list_in w.take.new.self.high) (entry c.row-item.result.items 3) (entry c.row-item.result.items 4) =
          subst (λ r. IsTaken (inequalities c.args.facts.now) (list_in c.loop-row.bounds.low) (list_in c.loop-row.bounds.high) (list_in w.take.new.self.low) (list_in w.take.new.self.high) (entry r 3) (entry r 4)) copied first in
          record {
            bounds = subst (λ (b : Bounds). AreBounds (inequalities c.args.facts.now) (list_in b.low) (list_in b.high)) (sym w.bounds-is) taken.bounds;
            level = subst (λ (b : Bounds). All (IsLeveled (list_in b.low) (list_in b.high)) (take (c.loop-row.row-index + 1) c.args.rows.now)) (sym w.bounds-is)
                (leveled_more (list_in c.loop-row.bounds.low) (list_in c.loop-row.bounds.high) (list_in w.take.new.self.low) (list_in w.take.new.self.high) c.args.rows.now c.loop-row.row-index c.row-item.result taken.kept c.loop-row-test.true c.row-item.is c.loop-row.invariant.level (λ none. taken.covered));
          }
      | else-index-eq0 w ↦
          record {
            bounds = subst (λ (b : Bounds). AreBounds (inequalities c.args.facts.now) (list_in b.low) (list_in b.high)) (sym w.bounds-is) c.loop-row.invariant.bounds;
            level = subst (λ (b : Bounds). All (IsLeveled (list_in b.low) (list_in b.high)) (take (c.loop-row.row-index + 1) c.args.rows.now)) (sym w.bounds-is)
                (leveled_more (list_in c.loop-row.bounds.low) (list_in c.loop-row.bounds.high) (list_in c.loop-row.bounds.low) (list_in c.loop-row.bounds.high) c.args.rows.now c.loop-row.row-index c.row-item.result (λ h k x. x) c.loop-row-test.true c.row-item.is c.loop-row.invariant.level (λ none. absurd (omega (arith, ints))));
          }
    ]

pub returns : goal.returns
returns c = (c.loop-row.invariant.bounds, all_of (IsLeveled (list_in c.loop-row.bounds.low) (list_in c.loop-row.bounds.high)) c.args.rows.now c.loop-row.row-index (omega arith) c.loop-row.invariant.level)
