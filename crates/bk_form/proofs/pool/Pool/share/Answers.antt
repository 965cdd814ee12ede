use Rattle.std.proofs.Common.{subst}
use Rattle.bk_form.specs.Parts.{IsPart}
use Rattle.bk_form.specs.Pools.{IsShared}
use Rattle.bk_form.specs.PoolKeys.{held, AddsOnly}
use Rattle.bk_form.proofs.Pools.Shared.{shared, on-ok}
use Rattle.bk_form.proofs.pool.Pool.share.Goals as goal

pub returns-clause-list : goal.returns-clause-list
returns-clause-list c =
    on-ok c.copy.result (IsShared c.args.self.now c.args.form.now (held c.number.new.members.entries))
    (shared c.args.self.now c.args.form.now (held c.number.new.members.entries) c.number.ensures.held.pool (c.in_ok-n.n, c.in_ok-n.ensures.number)
    (subst (λ l. AddsOnly (λ g. IsPart g c.args.form.now) l (held c.number.new.members.entries)) c.self.view_is c.number.ensures.adds))
