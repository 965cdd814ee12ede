use Rattle.bk_statics.specs.Components.{component_of}
use Rattle.bk_statics.specs.Above.{above_of}
use Rattle.bk_phases.specs.DeclaredNames.{declares_too_many}
use Rattle.bk_phases.specs.LevelOf.{with_level}
use Rattle.bk_phases.specs.Resolved.{resolved_component}
use Rattle.bk_phases.specs.Types.{types_of}
use Rattle.bk_phases.specs.Verdict.{phases, verdict}
use Rattle.bk_phases.proofs.Faultless.{writes-right, types-right}
use Rattle.bk_phases.proofs.Verdicts.{right-then, none-then, fault-then, limit-then, past-then, within-then}
use Rattle.bk_phases.proofs.laws.verdicts.Goals as goal

pub returns-clause-right : goal.returns-clause-right
returns-clause-right c = record {
  right = λ max r dev h. right-then dev (with_level (types_of max r) r) (phases (types_of max r) r) h;
  without_fault = λ max r h. none-then (with_level (types_of max r) r) (phases (types_of max r) r) h;
  fault = λ max r kind p h. fault-then (with_level (types_of max r) r) kind p (phases (types_of max r) r) h;
  limit = λ max r n h. limit-then (with_level (types_of max r) r) n (phases (types_of max r) r) h;
}

pub returns-clause-none : goal.returns-clause-none
returns-clause-none c = record { writes = writes-right; types = types-right }

pub returns-clause-limits : goal.returns-clause-limits
returns-clause-limits c = record {
  past = λ max above written h. past-then (declares_too_many (component_of written)) (verdict max (resolved_component (above_of above) (component_of written))) h;
  within = λ max above written h. within-then (declares_too_many (component_of written)) (verdict max (resolved_component (above_of above) (component_of written))) h;
}
