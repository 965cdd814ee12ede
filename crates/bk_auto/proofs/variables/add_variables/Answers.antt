use Rattle.std.proofs.Common.{◌≡◌, ℕ, length, take, arith}
use Rattle.std.proofs.lemmas.List.{length-take-le}
use Rattle.bk_auto.proofs.Wider.{has_new-trans}
use Rattle.bk_auto.proofs.Loops.{listed_still, numbers_pushed, grew_step}
use Rattle.bk_auto.proofs.variables.add_variables.Goals as goal

pub add_variable-requires : goal.add_variable-requires
add_variable-requires c =
    listed_still c.args.types.now c.loop-ty.types (take c.loop-ty.ty-index c.args.bound.now) c.args.bound.now c.loop-ty.ty-index c.ty-item.result c.loop-ty.invariant.grew c.requires c.loop-ty-test.true c.ty-item.is

pub returns-in_err-add_variable-clause-new : goal.returns-in_err-add_variable-clause-new
returns-in_err-add_variable-clause-new c = has_new-trans c.args.types.now c.loop-ty.types c.add_variable.new.types c.loop-ty.invariant.new c.add_variable.ensures.new

pub returns-in_err-push-clause-new : goal.returns-in_err-push-clause-new
returns-in_err-push-clause-new c = has_new-trans c.args.types.now c.loop-ty.types c.add_variable.new.types c.loop-ty.invariant.new c.add_variable.ensures.new

pub loop-ty-preserved : goal.loop-ty-preserved
loop-ty-preserved c =
    let count : length (take c.loop-ty.ty-index c.args.bound.now) ≡ c.loop-ty.ty-index = length-take-le c.loop-ty.ty-index c.args.bound.now (let h = c.loop-ty-test.true in omega arith) in
    record {
      new = has_new-trans c.args.types.now c.loop-ty.types c.add_variable.new.types c.loop-ty.invariant.new c.add_variable.ensures.new;
      grew = grew_step c.args.types.now c.loop-ty.types c.add_variable.new.types c.args.bound.now c.loop-ty.ty-index c.ty-item.result c.loop-ty.invariant.grew c.in_ok-add_variable.ensures.grew c.loop-ty-test.true c.ty-item.is;
      numbers = numbers_pushed c.args.types.now c.loop-ty.types (take c.loop-ty.ty-index c.args.bound.now) c.loop-ty.names.items c.push.new.self.items c.loop-ty.ty-index c.in_ok-add_variable.field-0 c.loop-ty.invariant.grew count c.loop-ty.invariant.numbers c.in_ok-add_variable.ensures.number c.in_ok-push.ensures.items;
    }
