use Rattle.std.proofs.Common.{◌≡◌, nat_eq, subst}
use Rattle.std.specs.Prelude.{IfOk}
use Rattle.std.specs.HashMap.{get}
use Rattle.bk_bind.proofs.Together.{small_together, closed_together}
use Rattle.bk_bind.proofs.closing.closed_over_each.Goals as goal

pub bound_together-requires : goal.bound_together-requires
bound_together-requires c = small_together (get nat_eq c.in_ok-places.places) c.args.form.now c.requires

pub returns : goal.returns
returns c =
    let same = closed_together (get nat_eq c.in_ok-places.places) c.args.variables.now c.args.form.now c.in_ok-places.ensures in
    subst (λ g. IfOk c.bound_together.result (λ f. f ≡ g)) same c.bound_together.ensures
