use Rattle.bk_elab_terms.specs.Shown.{told}
use Rattle.bk_scope.specs.Shown.{above_shown, component_shown}
use Rattle.bk_elab.proofs.FaultHomes.{planned}
use Rattle.bk_elab.proofs.static_fault.static_fault.Goals as goal

pub returns : goal.returns
returns c =
    planned c.args.typing c.args.plan.now (above_shown c.args.above) (component_shown c.args.component.now) c.requires.planned c.requires.all_at_home c.requires.homes
    (told c.in_ok-names.names) (told c.in_ok-clauses.clauses) (told c.in_ok-operations.operations) (told c.in_ok-start.start) (told c.in_ok-bodies.bodies) (told c.in_ok-values.values)
    (told c.earlier-written.result) (told c.earlier-started.result) (told c.earlier-shaped.result) (told c.earlier-stated.result) (told c.earlier.result)
    c.in_ok-names.ensures c.in_ok-clauses.ensures c.in_ok-operations.ensures c.in_ok-start.ensures c.in_ok-bodies.ensures c.in_ok-values.ensures
    c.earlier-written.ensures c.earlier-started.ensures c.earlier-shaped.ensures c.earlier-stated.ensures c.earlier.ensures
