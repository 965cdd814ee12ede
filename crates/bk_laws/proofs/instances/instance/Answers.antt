use Rattle.std.proofs.Common.{refl, sym}
use Rattle.bk_laws.specs.Rows.{built, pick_at, instance_at}
use Rattle.bk_laws.specs.Tables.{row_of, rows_of}
use Rattle.bk_laws.proofs.Rowed.{no-row, no-fault-told, found-instance, is-row, told, not-told, made-value, made-law, made-picks}
use Rattle.bk_laws.proofs.instances.instance.Goals as goal

pub returns-in_default-clause-unknown : goal.returns-in_default-clause-unknown
returns-in_default-clause-unknown g c = (λ h. no-row c.args.pats.now c.args.laws.now c.args.name c.args.picks.now (sym c.in_default.ensures), λ h. refl)

pub returns-in_default-clause-picks : goal.returns-in_default-clause-picks
returns-in_default-clause-picks g c k = (
  (λ h. absurd (cc)),
  (λ w. absurd (no-fault-told c.args.pats.now c.args.laws.now c.args.name c.args.picks.now (sym c.in_default.ensures) k w)),
)

pub returns-in-Some-fault_of-clause-unknown : goal.returns-in-Some-fault_of-clause-unknown
returns-in-Some-fault_of-clause-unknown g c = (
  (λ h. absurd (cc)),
  (λ h. absurd (is-row c.args.pats.now c.args.laws.now c.args.name c.args.picks.now c.in-Some.law (sym c.in-Some.ensures) h)),
)

pub returns-in-Some-fault_of-clause-picks : goal.returns-in-Some-fault_of-clause-picks
returns-in-Some-fault_of-clause-picks g c k = told c.args.pats.now c.args.laws.now c.args.name c.args.picks.now c.in-Some.law (sym c.in-Some.ensures) c.in-Some-fault_of.k (sym c.in-Some-fault_of.ensures) k

pub returns-clause-value : goal.returns-clause-value
returns-clause-value g c =
    let pats = c.args.pats.now in
    let laws = c.args.laws.now in
    let picks = c.args.picks.now in
    let law = c.in-Some.law in
    let row = row_of pats law in
    made-value c.built.result (built row (pick_at picks)) (instance_at (rows_of pats laws) c.args.name picks)
    (found-instance pats laws c.args.name picks law (sym c.in-Some.ensures) (sym c.in_default-fault_of.ensures))
    c.built.ensures

pub returns-clause-unknown : goal.returns-clause-unknown
returns-clause-unknown g c = (
  (λ h. absurd (made-law c.built.result (built (row_of c.args.pats.now c.in-Some.law) (pick_at c.args.picks.now)) c.built.ensures h)),
  (λ h. absurd (is-row c.args.pats.now c.args.laws.now c.args.name c.args.picks.now c.in-Some.law (sym c.in-Some.ensures) h)),
)

pub returns-clause-picks : goal.returns-clause-picks
returns-clause-picks g c k = (
  (λ h. absurd (made-picks c.built.result (built (row_of c.args.pats.now c.in-Some.law) (pick_at c.args.picks.now)) k c.built.ensures h)),
  (λ w. absurd (not-told c.args.pats.now c.args.laws.now c.args.name c.args.picks.now c.in-Some.law (sym c.in-Some.ensures) (sym c.in_default-fault_of.ensures) k w)),
)
