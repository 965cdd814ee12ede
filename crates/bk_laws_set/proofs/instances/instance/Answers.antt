use Rattle.std.proofs.Common.{ℕ, Result, Ok, Err, ap, refl, arith}
use Rattle.bk_bind.specs.declared.law.LawInstance.{LawInstance}
use Rattle.bk_bind.specs.declared.law.LawFault.{LawFault}
use Rattle.bk_bind.specs.declared.law.LawFault.TheVariants.{Picks}
use Rattle.bk_laws.specs.Tables.{rows_of}
use Rattle.bk_laws.specs.Found.{found_instance}
use Rattle.bk_laws.proofs.Answered.{no-law, law-alone, picks-alone, are-wrong, over-rows, no-memory-law, no-memory-picks}
use Rattle.bk_laws.proofs.Rowed.{has-row, has-no-fault}
use Rattle.bk_laws_set.specs.Rows.{rows}
use Rattle.bk_laws_set.proofs.Answered.{small-picks, wrong-number}
use Rattle.bk_laws_set.proofs.True.{laws-are-true}
use Rattle.bk_laws_set.proofs.instances.instance.Goals as goal

pub instance-requires : goal.instance-requires
instance-requires c = (omega arith, (omega arith, small-picks c.args.picks.now c.requires))

pub returns-in-Ok-NoLaw-clause-unknown : goal.returns-in-Ok-NoLaw-clause-unknown
returns-in-Ok-NoLaw-clause-unknown c = (
  (λ h. no-law rows (rows_of c.all_laws-table.result.patterns.now c.all_laws-table.result.laws.now) c.all_laws-table.ensures c.args.law c.args.picks.now (Ok c.in-Ok-NoLaw.field-0) c.in-Ok-NoLaw.ensures.unknown (ap Ok c.in-Ok-NoLaw.field-0-is)),
  (λ h. refl),
)

pub returns-in-Ok-NoLaw-clause-picks : goal.returns-in-Ok-NoLaw-clause-picks
returns-in-Ok-NoLaw-clause-picks c k = (
  (λ h. absurd (cc)),
  (λ w. absurd (law-alone rows (rows_of c.all_laws-table.result.patterns.now c.all_laws-table.result.laws.now) c.all_laws-table.ensures c.args.law c.args.picks.now (Ok c.in-Ok-NoLaw.field-0) (ap Ok c.in-Ok-NoLaw.field-0-is) c.in-Ok-NoLaw.ensures.picks k w)),
)

pub returns-in-Ok-WrongPicks-clause-unknown : goal.returns-in-Ok-WrongPicks-clause-unknown
returns-in-Ok-WrongPicks-clause-unknown c = (
  (λ h. absurd (cc)),
  (λ h. absurd (picks-alone rows (rows_of c.all_laws-table.result.patterns.now c.all_laws-table.result.laws.now) c.all_laws-table.ensures c.args.law c.args.picks.now (Ok c.in-Ok-WrongPicks.field-0) c.in-Ok-WrongPicks.number (ap Ok c.in-Ok-WrongPicks.field-0-is) c.in-Ok-WrongPicks.ensures.unknown h)),
)

pub returns-in-Ok-WrongPicks-clause-picks : goal.returns-in-Ok-WrongPicks-clause-picks
returns-in-Ok-WrongPicks-clause-picks c k = are-wrong rows (rows_of c.all_laws-table.result.patterns.now c.all_laws-table.result.laws.now) c.all_laws-table.ensures c.args.law c.args.picks.now (Ok c.in-Ok-WrongPicks.field-0) (Result LawInstance LawFault) (λ (n : ℕ). Err (Picks n)) wrong-number c.in-Ok-WrongPicks.number (ap Ok c.in-Ok-WrongPicks.field-0-is) c.in-Ok-WrongPicks.ensures.picks k

pub returns-in-Ok-Made-clause-value : goal.returns-in-Ok-Made-clause-value
returns-in-Ok-Made-clause-value c = over-rows rows (rows_of c.all_laws-table.result.patterns.now c.all_laws-table.result.laws.now) c.all_laws-table.ensures c.args.law c.args.picks.now (Ok c.in-Ok-Made.field-0) c.in-Ok-Made.field-0 _ _ (ap found_instance c.in-Ok-Made.field-0-is) c.in-Ok-Made.ensures.value refl

pub returns-in-Ok-Made-clause-is_true : goal.returns-in-Ok-Made-clause-is_true
returns-in-Ok-Made-clause-is_true c = laws-are-true c.args.law c.args.picks.now _ (returns-in-Ok-Made-clause-value c)

pub returns-in-Ok-Made-clause-unknown : goal.returns-in-Ok-Made-clause-unknown
returns-in-Ok-Made-clause-unknown c = ((λ h. absurd (cc)), (λ h. absurd (has-row rows c.args.law c.args.picks.now _ (returns-in-Ok-Made-clause-value c) h)))

pub returns-in-Ok-Made-clause-picks : goal.returns-in-Ok-Made-clause-picks
returns-in-Ok-Made-clause-picks c k = ((λ h. absurd (cc)), (λ w. absurd (has-no-fault rows c.args.law c.args.picks.now _ (returns-in-Ok-Made-clause-value c) k w)))

pub returns-in-Err-clause-unknown : goal.returns-in-Err-clause-unknown
returns-in-Err-clause-unknown c = ((λ h. absurd (cc)), (λ h. absurd (no-memory-law rows (rows_of c.all_laws-table.result.patterns.now c.all_laws-table.result.laws.now) c.all_laws-table.ensures c.args.law c.args.picks.now c.in-Err.field-0 c.in-Err.ensures.unknown h)))

pub returns-in-Err-clause-picks : goal.returns-in-Err-clause-picks
returns-in-Err-clause-picks c k = ((λ h. absurd (cc)), (λ w. absurd (no-memory-picks rows (rows_of c.all_laws-table.result.patterns.now c.all_laws-table.result.laws.now) c.all_laws-table.ensures c.args.law c.args.picks.now c.in-Err.field-0 c.in-Err.ensures.picks k w)))
