use Rattle.std.proofs.Common.{◌∙◌}
use Rattle.std.proofs.lemmas.Iterator.Adapters.{YieldsList-from_vec}
use Rattle.std.proofs.lemmas.Iterator.Consumers.{YieldsList-turn}
use Rattle.bk_elab.proofs.Assembling.{variable-listed, variable-few, variable-more}
use Rattle.bk_elab.proofs.levels.add_variables.Goals as goal

pub add_variable-requires-clause-listed : goal.add_variable-requires-clause-listed
add_variable-requires-clause-listed c =
    let t = YieldsList-turn (YieldsList-from_vec c.args.variables.items c.into_iter-text-iterator.ensures.into_iter_gives.0 (c.into_iter-text-iterator.ensures.into_iter_gives.1 ∙ c.args.variables.ok.0)) c.loop-text.yielded c.loop-text.text-iterator c.loop-text.yielded_by c.next.result c.next.new.self (c.in-Some.text, c.in-Some.ty) c.in-Some.is c.next.ensures.steps in
    variable-listed c.args.table.now c.args.variables.items c.loop-text.yielded (c.in-Some.text, c.in-Some.ty) c.loop-text.table c.loop-text.invariant c.requires.listed t.0 t.1

pub add_variable-requires-clause-few : goal.add_variable-requires-clause-few
add_variable-requires-clause-few c =
    let t = YieldsList-turn (YieldsList-from_vec c.args.variables.items c.into_iter-text-iterator.ensures.into_iter_gives.0 (c.into_iter-text-iterator.ensures.into_iter_gives.1 ∙ c.args.variables.ok.0)) c.loop-text.yielded c.loop-text.text-iterator c.loop-text.yielded_by c.next.result c.next.new.self (c.in-Some.text, c.in-Some.ty) c.in-Some.is c.next.ensures.steps in
    variable-few c.args.table.now c.args.variables.items c.loop-text.yielded c.loop-text.table c.loop-text.invariant t.0 c.requires.few

pub loop-text-preserved : goal.loop-text-preserved
loop-text-preserved c = variable-more c.args.table.now c.loop-text.yielded (c.in-Some.text, c.in-Some.ty) c.loop-text.table c.add_variable.new.self c.loop-text.invariant c.in_ok-add_variable.ensures.ok
