use Rattle.std.proofs.Common.{◌≡◌, suc, ℤ, take, All, sym, rules, ap, arith, subst, length, ◌+◌, ◌<◌}
use Rattle.std.proofs.lemmas.List.Elements.{All-same}
use Rattle.std.proofs.lemmas.Int.{ints}
use Rattle.std.specs.Global.{Vec}
use Rattle.std.specs.Int.{w128, cast_signed, cast_unsigned}
use Rattle.bk_lin.proofs.Adding.{back}
use Rattle.bk_lin.specs.Certificate.{inequalities}
use Rattle.bk_elim.specs.Elimination.{entry}
use Rattle.bk_elim.specs.Rows.{IsRow}
use Rattle.bk_elim.proofs.Steps.{IsKept, IsJoined, all_of, at_index, from_all}
use Rattle.bk_elim.proofs.Ending.{IsPaired, eliminated_by, paired_more, kept_still}
use Rattle.bk_elim.proofs.elimination.eliminate.Goals.{then-index-gt0+in_ok-join_each, else-index-gt0}
use Rattle.bk_elim.proofs.elimination.eliminate.Goals as goal

pub returns-clause-gone : goal.returns-clause-gone
returns-clause-gone c = eliminated_by c.args.atom c.args.rows.now c.loop-up.out.items c.loop-up.invariant.level (all_of (IsPaired c.args.atom c.args.rows.now c.loop-up.out.items) c.args.rows.now c.loop-up.up-index (omega arith) c.loop-up.invariant.pair)

pub loop-up-preserved : goal.loop-up-preserved
loop-up-preserved c =
    let row : IsRow (inequalities c.args.facts.now) c.args.atom c.up-item.result.items =
    from_all (λ (v : Vec ℤ). IsRow (inequalities c.args.facts.now) c.args.atom v.items) c.args.rows.now c.loop-up.up-index c.up-item.result c.loop-up-test.true c.up-item.is c.requires.rows in
    let wide : c.args.atom < length c.up-item.result.items = (let e = row.wide in let f = c.requires.atom in omega arith) in
    let read : c.index.result.now ≡ entry c.up-item.result.items c.args.atom = at_index c.up-item.result.items c.args.atom c.index.result.now wide c.index.ensures in
    let same : cast_signed w128 (cast_unsigned w128 c.index.result.now) ≡ c.index.result.now = back c.index.result.now (search rules) in
    elim c.if-index-gt0.branch [
      | then-index-gt0+in_ok-join_each w ↦
          let out : c.if-index-gt0.out.items ≡ w.join_each.new.out.items = ap (λ (v : Vec (Vec ℤ)). v.items) w.out-is in
          let here : IsPaired c.args.atom c.args.rows.now w.join_each.new.out.items c.up-item.result =
          λ up. subst (λ p. All (IsJoined c.args.atom p w.join_each.new.out.items) c.args.rows.now) w.deref.ensures.value w.in_ok-join_each.ensures.joined in
          record {
            level = subst (λ xs. All (IsKept c.args.atom xs) c.args.rows.now) (sym out) (kept_still c.args.atom c.args.rows.now c.loop-up.out.items w.join_each.new.out.items w.in_ok-join_each.ensures.kept c.loop-up.invariant.level);
            pair = subst (λ xs. All (IsPaired c.args.atom c.args.rows.now xs) (take (c.loop-up.up-index + 1) c.args.rows.now)) (sym out)
                (paired_more c.args.atom c.args.rows.now c.loop-up.out.items w.join_each.new.out.items c.loop-up.up-index c.up-item.result w.in_ok-join_each.ensures.kept c.loop-up-test.true c.up-item.is c.loop-up.invariant.pair here);
            rows = All-same (λ (v : Vec ℤ). IsRow (inequalities c.args.facts.now) (suc c.args.atom) v.items) c.if-index-gt0.out.items w.join_each.new.out.items out w.in_ok-join_each.ensures.rows;
          }
      | else-index-gt0 w ↦
          let out : c.if-index-gt0.out.items ≡ c.loop-up.out.items = ap (λ (v : Vec (Vec ℤ)). v.items) w.out-is in
          let here : IsPaired c.args.atom c.args.rows.now c.loop-up.out.items c.up-item.result = λ up. absurd (omega (arith, ints)) in
          record {
            level = subst (λ xs. All (IsKept c.args.atom xs) c.args.rows.now) (sym out) c.loop-up.invariant.level;
            pair = subst (λ xs. All (IsPaired c.args.atom c.args.rows.now xs) (take (c.loop-up.up-index + 1) c.args.rows.now)) (sym out)
                (paired_more c.args.atom c.args.rows.now c.loop-up.out.items c.loop-up.out.items c.loop-up.up-index c.up-item.result (λ r h. h) c.loop-up-test.true c.up-item.is c.loop-up.invariant.pair here);
            rows = All-same (λ (v : Vec ℤ). IsRow (inequalities c.args.facts.now) (suc c.args.atom) v.items) c.if-index-gt0.out.items c.loop-up.out.items out c.loop-up.invariant.rows;
          }
    ]
