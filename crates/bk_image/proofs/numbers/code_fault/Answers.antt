use Rattle.std.proofs.Common.{arith, subst, ap, length, get_or, pos, ◌<◌}
use Rattle.std.proofs.lemmas.Option.{slice_get-get_or}
use Rattle.bk_code.specs.declared.instruction.Inst.{Inst}
use Rattle.bk_code.specs.declared.instruction.Inst.TheVariants.{Push}
use Rattle.bk_image.specs.Spelling.{inst}
use Rattle.bk_image.specs.Faults.{IsOneInstFault, IsFirst}
use Rattle.bk_image.specs.Soundness.{IsSound}
use Rattle.bk_image.proofs.FaultLists.{first_in, good_more, place_more, place_within}
use Rattle.bk_image.proofs.Judged.{inst_judges}
use Rattle.bk_image.proofs.numbers.code_fault.Goals as goal

none : Inst
none = Push (pos 0)

pub inst_fault-requires-clause-room : goal.inst_fault-requires-clause-room
unfolding none
inst_fault-requires-clause-room c =
    let code = c.args.image.now.code in
    let n = c.loop-from.from in
    let same = ap (λ is. length (inst (get_or is n none))) c.as_slice-inst-items.ensures in
    let stands = subst (λ is. n < length is) c.as_slice-inst-items.ensures c.loop-from-test.true in
    omega (arith, c.requires.room, c.loop-from.invariant.here, same, place_within inst c.args.at code n (get_or code n none) (slice_get-get_or code n none stands))

pub returns-in-Some : goal.returns-in-Some
unfolding none
returns-in-Some c =
    let image = c.args.image.now in
    let n = c.loop-from.from in
    let stands = subst (λ is. n < length is) c.as_slice-inst-items.ensures c.loop-from-test.true in
    let first = subst (λ is. IsFirst (IsOneInstFault image n c.loop-from.place (get_or is n none)) c.in-Some.fault) c.as_slice-inst-items.ensures c.in-Some.ensures in
    first_in inst (IsOneInstFault image) (IsSound image) (inst_judges image) c.args.at image.code n (get_or image.code n none) c.in-Some.fault
    c.loop-from.invariant.sound (slice_get-get_or image.code n none stands)
    (subst (λ at. IsFirst (IsOneInstFault image n at (get_or image.code n none)) c.in-Some.fault) c.loop-from.invariant.here first)

pub overflow_add-place : goal.overflow_add-place
unfolding none
overflow_add-place c =
    let code = c.args.image.now.code in
    let n = c.loop-from.from in
    let same = ap (λ is. length (inst (get_or is n none))) c.as_slice-inst-items.ensures in
    let stands = subst (λ is. n < length is) c.as_slice-inst-items.ensures c.loop-from-test.true in
    omega (arith, c.requires.room, c.loop-from.invariant.here, same, c.inst_size-place.ensures, place_within inst c.args.at code n (get_or code n none) (slice_get-get_or code n none stands))

pub loop-from-preserved : goal.loop-from-preserved
unfolding none
loop-from-preserved c =
    let image = c.args.image.now in
    let n = c.loop-from.from in
    let same = ap (λ is. length (inst (get_or is n none))) c.as_slice-inst-items.ensures in
    let stands = subst (λ is. n < length is) c.as_slice-inst-items.ensures c.loop-from-test.true in
    let get = slice_get-get_or image.code n none stands in
    record {
      here = omega (arith, c.loop-from.invariant.here, same, c.inst_size-place.ensures, place_more inst c.args.at image.code n (get_or image.code n none) get);
      sound = good_more (IsSound image) image.code n (get_or image.code n none) c.loop-from.invariant.sound get
          (subst (λ is. IsSound image n (get_or is n none)) c.as_slice-inst-items.ensures c.in_default.ensures);
    }
