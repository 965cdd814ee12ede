use Rattle.std.proofs.Common.{◌+◌, arith, subst, get_or}
use Rattle.std.proofs.lemmas.Option.{slice_get-get_or}
use Rattle.bk_code.specs.declared.image.Parameter.{Parameter}
use Rattle.bk_code.specs.declared.image.CellKind.TheVariants.{Integer}
use Rattle.bk_code.specs.Checks.{IsGoodParameter}
use Rattle.bk_image.specs.Spelling.{parameter}
use Rattle.bk_image.specs.Faults.{IsParameterFault, IsFirst}
use Rattle.bk_image.proofs.FaultLists.{first_in, good_more, place_more, place_within}
use Rattle.bk_image.proofs.Judged.{parameter_judges}
use Rattle.bk_image.proofs.Sizes.{parameters_size, parameter_sizes, parameter_size}
use Rattle.bk_image.proofs.numbers.parameters_fault.Goals as goal

none : Parameter
none = record { kind = Integer; slot = 0 }

pub overflow_add-place : goal.overflow_add-place
overflow_add-place c = omega (arith, c.requires, parameters_size c.args.parameters.now)

pub parameter_fault-requires : goal.parameter_fault-requires
unfolding none
parameter_fault-requires c =
    let n = c.loop-parameter.parameter-index in
    omega (
      arith,
      c.requires,
      c.loop-parameter.invariant.here,
      parameters_size c.args.parameters.now,
      parameter_sizes c.args.parameters.now,
      place_within parameter (c.args.at + 2) c.args.parameters.now n (get_or c.args.parameters.now n none) (slice_get-get_or c.args.parameters.now n none c.loop-parameter-test.true),
    )

pub returns-in-Some : goal.returns-in-Some
unfolding none
returns-in-Some c =
    let n = c.loop-parameter.parameter-index in
    let p = get_or c.args.parameters.now n none in
    first_in parameter (IsParameterFault c.args.image.now) (λ k p. IsGoodParameter c.args.image.now p) (parameter_judges c.args.image.now) (c.args.at + 2) c.args.parameters.now n p c.in-Some.fault
    c.loop-parameter.invariant.good (slice_get-get_or c.args.parameters.now n none c.loop-parameter-test.true)
    (subst (λ at. IsFirst (IsParameterFault c.args.image.now 0 at p) c.in-Some.fault) c.loop-parameter.invariant.here (c.in-Some.ensures))

pub overflow_add-place-in-loop-parameter : goal.overflow_add-place-in-loop-parameter
unfolding none
overflow_add-place-in-loop-parameter c =
    let n = c.loop-parameter.parameter-index in
    let p = get_or c.args.parameters.now n none in
    omega (
      arith,
      c.requires,
      c.loop-parameter.invariant.here,
      parameters_size c.args.parameters.now,
      parameter_sizes c.args.parameters.now,
      parameter_size p,
      place_within parameter (c.args.at + 2) c.args.parameters.now n p (slice_get-get_or c.args.parameters.now n none c.loop-parameter-test.true),
    )

pub loop-parameter-preserved : goal.loop-parameter-preserved
unfolding none
loop-parameter-preserved c =
    let n = c.loop-parameter.parameter-index in
    let p = get_or c.args.parameters.now n none in
    let get = slice_get-get_or c.args.parameters.now n none c.loop-parameter-test.true in
    record {
      here = omega (arith, c.loop-parameter.invariant.here, place_more parameter (c.args.at + 2) c.args.parameters.now n p get, parameter_size p);
      good = good_more (λ k q. IsGoodParameter c.args.image.now q) c.args.parameters.now n p c.loop-parameter.invariant.good get c.in_default.ensures;
    }
