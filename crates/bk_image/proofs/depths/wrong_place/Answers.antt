use Rattle.std.proofs.Common.{◌<◌, ◌≤◌, ◌∙◌, sym, subst, ap, length, get_or, arith, pos}
use Rattle.std.proofs.lemmas.List.{get_or_default}
use Rattle.std.proofs.lemmas.Option.{slice_get-get_or}
use Rattle.bk_code.specs.declared.instruction.Inst.{Inst}
use Rattle.bk_code.specs.declared.instruction.Inst.TheVariants.{Push}
use Rattle.bk_image.specs.declared.depths.Depth.TheVariants.{Unknown}
use Rattle.bk_image.specs.Spelling.{inst}
use Rattle.bk_image.specs.Progress.{IsRight, IsWrong}
use Rattle.bk_image.proofs.FaultLists.{place_more, place_within}
use Rattle.bk_image.proofs.Judging.{right_more}
use Rattle.bk_image.proofs.depths.wrong_place.Goals as goal

none : Inst
none = Push (pos 0)

pub returns-then-not-is_right : goal.returns-then-not-is_right
unfolding none
returns-then-not-is_right c =
    let code = c.args.image.now.code in
    let known = c.args.depths.now.known.items in
    let n = c.loop-from.from in
    let stands = subst (λ is. n < length is) c.as_slice-inst-items.ensures c.loop-from-test.true in
    let depth = c.index.ensures ∙ get_or_default known n c.index.result.now Unknown (subst (λ m. n < m) (sym c.requires.long) stands) in
    let wrong = subst (λ is. IsWrong (get_or is n none) c.index.result.now) c.as_slice-inst-items.ensures c.if-not-is_right.ensures in
    record {
      at = n;
      inst = get_or code n none;
      get = slice_get-get_or code n none stands;
      wrong = subst (IsWrong (get_or code n none)) depth wrong;
      before = c.loop-from.invariant.right;
      place = c.loop-from.invariant.here;
    }

pub overflow_add-place : goal.overflow_add-place
unfolding none
overflow_add-place c =
    let code = c.args.image.now.code in
    let n = c.loop-from.from in
    let same = ap (λ is. length (inst (get_or is n none))) c.as_slice-inst-items.ensures in
    let stands = subst (λ is. n < length is) c.as_slice-inst-items.ensures c.loop-from-test.true in
    omega (arith, c.requires.room, c.loop-from.invariant.here, same, c.inst_size-place.ensures, place_within inst c.args.at code n (get_or code n none) (slice_get-get_or code n none stands))

pub loop-from-preserved : goal.loop-from-preserved
unfolding none
loop-from-preserved c =
    let code = c.args.image.now.code in
    let known = c.args.depths.now.known.items in
    let n = c.loop-from.from in
    let same = ap (λ is. length (inst (get_or is n none))) c.as_slice-inst-items.ensures in
    let stands = subst (λ is. n < length is) c.as_slice-inst-items.ensures c.loop-from-test.true in
    let get = slice_get-get_or code n none stands in
    let depth = c.index.ensures ∙ get_or_default known n c.index.result.now Unknown (subst (λ m. n < m) (sym c.requires.long) stands) in
    let right = subst (λ is. IsRight (get_or is n none) c.index.result.now) c.as_slice-inst-items.ensures c.if-not-is_right.ensures in
    record {
      here = omega (arith, c.loop-from.invariant.here, same, c.inst_size-place.ensures, place_more inst c.args.at code n (get_or code n none) get);
      right = right_more code known n (get_or code n none) c.loop-from.invariant.right get (subst (IsRight (get_or code n none)) depth right);
    }

pub returns : goal.returns
returns c k d lt = c.loop-from.invariant.right k d (let h = subst (λ is. length is ≤ c.loop-from.from) c.as_slice-inst-items.ensures c.loop-from-test.false in omega (arith, lt, h))
