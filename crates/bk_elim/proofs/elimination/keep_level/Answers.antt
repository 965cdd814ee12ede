use Rattle.std.proofs.Common.{◌≡◌, suc, ℤ, pos, take, All, sym, rules, ap, ◌∙◌, arith, [], ◌∷◌, ◌++◌, subst, ◌+◌, length, ◌<◌}
use Rattle.std.proofs.lemmas.List.Elements.{All-same}
use Rattle.std.proofs.lemmas.Int.{ints}
use Rattle.std.specs.Int.{w128, cast_signed, cast_unsigned}
use Rattle.bk_lin.proofs.Adding.{back}
use Rattle.bk_lin.specs.Certificate.{inequalities}
use Rattle.bk_elim.specs.Elimination.{entry}
use Rattle.bk_elim.specs.Rows.{IsRow}
use Rattle.bk_elim.proofs.Rows.{IsRow-level}
use Rattle.std.specs.Global.{Vec}
use Rattle.bk_elim.proofs.Steps.{kept_more, kept_skip, all_of, IsKept, at_index, from_all, pushed_all}
use Rattle.bk_elim.proofs.elimination.keep_level.Goals.{then-index-eq0+in_ok-copy_row+in_ok-push, else-index-eq0}
use Rattle.bk_elim.proofs.elimination.keep_level.Goals as goal

pub loop-row-preserved : goal.loop-row-preserved
loop-row-preserved c =
    let row : IsRow (inequalities c.args.facts.now) c.args.atom c.row-item.result.items =
    from_all (λ (v : Vec ℤ). IsRow (inequalities c.args.facts.now) c.args.atom v.items) c.args.rows.now c.loop-row.row-index c.row-item.result c.loop-row-test.true c.row-item.is c.requires.rows in
    let wide : c.args.atom < length c.row-item.result.items = (let e = row.wide in let f = c.requires.atom in omega arith) in
    let read : c.index.result.now ≡ entry c.row-item.result.items c.args.atom = at_index c.row-item.result.items c.args.atom c.index.result.now wide c.index.ensures in
    let same : cast_signed w128 (cast_unsigned w128 c.index.result.now) ≡ c.index.result.now = back c.index.result.now (search rules) in
    elim c.if-index-eq0.branch [
      | then-index-eq0+in_ok-copy_row+in_ok-push w ↦
          let copied : w.in_ok-copy_row.field-0.items ≡ c.row-item.result.items = w.in_ok-copy_row.ensures ∙ w.deref.ensures.value in
          let pushed : c.if-index-eq0.out.items ≡ c.loop-row.out.items ++ w.in_ok-copy_row.field-0 ∷ [] = ap (λ (v : Vec (Vec ℤ)). v.items) w.out-is ∙ w.in_ok-push.ensures.items in
          let none : entry c.row-item.result.items c.args.atom ≡ pos 0 = omega (arith, ints) in
          record {
            level = kept_more c.args.atom c.args.rows.now c.loop-row.out.items c.if-index-eq0.out.items c.loop-row.row-index c.row-item.result w.in_ok-copy_row.field-0 c.loop-row-test.true c.row-item.is c.loop-row.invariant.level pushed copied;
            rows = pushed_all (λ (v : Vec ℤ). IsRow (inequalities c.args.facts.now) (suc c.args.atom) v.items) c.loop-row.out.items c.if-index-eq0.out.items w.in_ok-copy_row.field-0 pushed c.loop-row.invariant.rows
                (subst (IsRow (inequalities c.args.facts.now) (suc c.args.atom)) (sym copied) (IsRow-level (inequalities c.args.facts.now) c.args.atom c.row-item.result.items row none));
          }
      | else-index-eq0 w ↦
          let kept : c.if-index-eq0.out.items ≡ c.loop-row.out.items = ap (λ (v : Vec (Vec ℤ)). v.items) w.out-is in
          let other : entry c.row-item.result.items c.args.atom ≡ pos 0 → ⊥ = λ h. omega (arith, ints) in
          record {
            level = subst (λ xs. All (IsKept c.args.atom xs) (take (c.loop-row.row-index + 1) c.args.rows.now)) (sym kept) (kept_skip c.args.atom c.args.rows.now c.loop-row.out.items c.loop-row.row-index c.row-item.result c.loop-row-test.true c.row-item.is c.loop-row.invariant.level other);
            rows = All-same (λ (v : Vec ℤ). IsRow (inequalities c.args.facts.now) (suc c.args.atom) v.items) c.if-index-eq0.out.items c.loop-row.out.items kept c.loop-row.invariant.rows;
          }
    ]

pub returns-clause-level : goal.returns-clause-level
returns-clause-level c = all_of (IsKept c.args.atom c.loop-row.out.items) c.args.rows.now c.loop-row.row-index (omega arith) c.loop-row.invariant.level
