use Rattle.std.proofs.Common.{◌≡◌, suc, ℤ, pos, ◌<ℤ◌, take, All, sym, rules, ap, ◌∙◌, arith, [], ◌∷◌, ◌++◌, subst, length, ◌+◌, ◌<◌}
use Rattle.std.proofs.lemmas.List.Elements.{All-same}
use Rattle.std.proofs.lemmas.Int.{ints}
use Rattle.std.specs.List.{Contains}
use Rattle.std.specs.Global.{Vec}
use Rattle.std.specs.Int.{w128, cast_signed, cast_unsigned}
use Rattle.bk_lin.proofs.Adding.{back}
use Rattle.bk_lin.specs.Certificate.{inequalities}
use Rattle.bk_elim.specs.Elimination.{entry, joined}
use Rattle.bk_elim.specs.Rows.{IsRow}
use Rattle.bk_elim.specs.Layout.{lists, CanJoin}
use Rattle.bk_elim.proofs.Rows.{IsRow-joined}
use Rattle.bk_elim.proofs.Fitting.{can_join}
use Rattle.bk_elim.proofs.Steps.{joined_more_rows, joined_skip, all_of, IsJoined, at_index, from_all, pushed_all, still_there}
use Rattle.bk_elim.proofs.elimination.join_each.Goals.{then-index-lt0+in_ok-join+in_ok-push, else-index-lt0}
use Rattle.bk_elim.proofs.elimination.join_each.Goals as goal

pub join-requires-clause-fits : goal.join-requires-clause-fits
join-requires-clause-fits c =
    let row : IsRow (inequalities c.args.facts.now) c.args.atom c.down-item.result.items =
    from_all (λ (v : Vec ℤ). IsRow (inequalities c.args.facts.now) c.args.atom v.items) c.args.rows.now c.loop-down.down-index c.down-item.result c.loop-down-test.true c.down-item.is c.requires.rows in
    subst (CanJoin c.args.atom c.args.up.now) (sym c.deref.ensures.value) (can_join (inequalities c.args.facts.now) c.args.atom c.args.up.now c.down-item.result.items c.requires.atom c.requires.up_row row)

pub loop-down-preserved : goal.loop-down-preserved
loop-down-preserved c =
    let row : IsRow (inequalities c.args.facts.now) c.args.atom c.down-item.result.items =
    from_all (λ (v : Vec ℤ). IsRow (inequalities c.args.facts.now) c.args.atom v.items) c.args.rows.now c.loop-down.down-index c.down-item.result c.loop-down-test.true c.down-item.is c.requires.rows in
    let wide : c.args.atom < length c.down-item.result.items = (let e = row.wide in let f = c.requires.atom in omega arith) in
    let read : c.index.result.now ≡ entry c.down-item.result.items c.args.atom = at_index c.down-item.result.items c.args.atom c.index.result.now wide c.index.ensures in
    let same : cast_signed w128 (cast_unsigned w128 c.index.result.now) ≡ c.index.result.now = back c.index.result.now (search rules) in
    elim c.if-index-lt0.branch [
      | then-index-lt0+in_ok-join+in_ok-push w ↦
          let made : w.in_ok-join.field-0.items ≡ joined c.args.atom c.args.up.now c.down-item.result.items = w.in_ok-join.ensures ∙ ap (joined c.args.atom c.args.up.now) w.deref.ensures.value in
          let pushed : c.if-index-lt0.out.items ≡ c.loop-down.out.items ++ w.in_ok-join.field-0 ∷ [] = ap (λ (v : Vec (Vec ℤ)). v.items) w.out-is ∙ w.in_ok-push.ensures.items in
          let down : entry c.down-item.result.items c.args.atom <ℤ pos 0 = omega (arith, ints) in
          record {
            kept = λ r h. still_there c.loop-down.out.items c.if-index-lt0.out.items w.in_ok-join.field-0 r pushed (c.loop-down.invariant.kept r h);
            joined = joined_more_rows c.args.atom c.args.up.now c.args.rows.now c.loop-down.out.items c.if-index-lt0.out.items c.loop-down.down-index c.down-item.result w.in_ok-join.field-0 c.loop-down-test.true c.down-item.is c.loop-down.invariant.joined pushed made;
            rows = pushed_all (λ (v : Vec ℤ). IsRow (inequalities c.args.facts.now) (suc c.args.atom) v.items) c.loop-down.out.items c.if-index-lt0.out.items w.in_ok-join.field-0 pushed c.loop-down.invariant.rows
                (subst (IsRow (inequalities c.args.facts.now) (suc c.args.atom)) (sym made) (IsRow-joined (inequalities c.args.facts.now) c.args.atom c.args.up.now c.down-item.result.items c.requires.atom c.requires.up_row row c.requires.up down));
          }
      | else-index-lt0 w ↦
          let kept : c.if-index-lt0.out.items ≡ c.loop-down.out.items = ap (λ (v : Vec (Vec ℤ)). v.items) w.out-is in
          let other : entry c.down-item.result.items c.args.atom <ℤ pos 0 → ⊥ = λ h. omega (arith, ints) in
          record {
            kept = λ r h. subst (λ xs. Contains (lists xs) r) (sym kept) (c.loop-down.invariant.kept r h);
            joined = subst (λ xs. All (IsJoined c.args.atom c.args.up.now xs) (take (c.loop-down.down-index + 1) c.args.rows.now)) (sym kept) (joined_skip c.args.atom c.args.up.now c.args.rows.now c.loop-down.out.items c.loop-down.down-index c.down-item.result c.loop-down-test.true c.down-item.is c.loop-down.invariant.joined other);
            rows = All-same (λ (v : Vec ℤ). IsRow (inequalities c.args.facts.now) (suc c.args.atom) v.items) c.if-index-lt0.out.items c.loop-down.out.items kept c.loop-down.invariant.rows;
          }
    ]

pub returns-clause-joined : goal.returns-clause-joined
returns-clause-joined c = all_of (IsJoined c.args.atom c.args.up.now c.loop-down.out.items) c.args.rows.now c.loop-down.down-index (omega arith) c.loop-down.invariant.joined
