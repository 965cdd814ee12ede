use Rattle.std.proofs.Common.{◌⊎◌, inl, inr}
use Rattle.bk_verbs.specs.Stops.{IsOutside, StopsAtProof}
use Rattle.bk_verbs.proofs.Stopping.{handed_on, widen, widen_ok, or_else_stops}
use Rattle.bk_verbs.proofs.proof.proved_table.Goals as goal

-- the obligations are asked for where the last component is an implementation
pub returns-in_err-check_complete-clause-cause : goal.returns-in_err-check_complete-clause-cause
returns-in_err-check_complete-clause-cause c =
    handed_on c.from_residual.result c.in_err-check_complete.field-0.0
    (λ stop. IsOutside stop ⊎ StopsAtProof c.args.name.now c.args.project.now.development c.args.project.now.scripts stop)
    c.from_residual.ensures.1
    (or_else_stops c.in_err-check_complete.field-0.0 _ _ c.in_err-check_complete.ensures.cause inl)

pub returns-clause-cause : goal.returns-clause-cause
returns-clause-cause c =
    widen c.closed_table.result _ _ c.closed_table.ensures.cause
    (λ stop h. or_else_stops stop _ _ h (λ k. inr (c.in_ok-check_complete.ensures.ok, k)))

pub returns-clause-ok : goal.returns-clause-ok
returns-clause-ok c =
    widen_ok c.closed_table.result _ _ c.closed_table.ensures.ok
    (λ proved. record { complete = c.in_ok-check_complete.ensures.ok; proved = proved })
