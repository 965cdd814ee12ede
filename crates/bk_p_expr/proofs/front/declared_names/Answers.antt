use Rattle.std.proofs.Common.{◌≡◌, ◌<◌, length, arith, sym, subst}
use Rattle.bk_raw.specs.Grammar.Reading.{names}
use Rattle.bk_p_expr.proofs.Choices.{if_some}
use Rattle.bk_p_expr.proofs.Lists.{put_all_before, names_goes_on}
use Rattle.bk_p_expr.proofs.front.declared_names.Goals as goal

pub loop-all-preserved : goal.loop-all-preserved
loop-all-preserved c =
    let l : length c.in-Some.after.now < length c.loop-all.rest.now = if_some _ _ _ _ c.in_ok-name.ensures.shorter c.in-Some.is in
    record {
      same = subst (λ xs. names c.args.tokens.now ≡ put_all_before xs (names c.in-Some-after_sign.more.now)) (sym c.in_ok-push.ensures.items) (names_goes_on (names c.args.tokens.now) c.loop-all.all.items c.loop-all.rest.now c.in-Some.name c.in-Some.after.now c.in-Some-after_sign.field-0-0.now c.in-Some-after_sign.more.now c.loop-all.invariant.same (if_some _ _ _ _ c.in_ok-name.ensures.found c.in-Some.is) c.in-Some-after_sign.ensures.begins c.in-Some-after_sign.ensures.found);
      shorter = omega (arith, c.loop-all.invariant.shorter, l, c.in-Some-after_sign.ensures.shorter);
    }
