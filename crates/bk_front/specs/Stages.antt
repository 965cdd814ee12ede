-- What is known of component files between two passes over them. Only private contracts cite it.
use Rattle.std.specs.Prelude.{◌≡◌, ◌<◌, ℕ, suc, ℤ, Bool, true, false, List, Option, None, Some}
use Rattle.bk_limits.specs.declared.TheConstants.{MOST_COMPONENTS}
use Rattle.bk_raw.specs.Trees.ComponentTree.{RawComponent}
use Rattle.bk_dev.specs.Development.{Development}
use Rattle.bk_statics.specs.Verdict.{verdict_of, AnswersFault}
use Rattle.bk_front.specs.Project.{IsLow, IsHigh}
use Rattle.bk_sources.specs.declared.fault.FileFault.{FileFault}
use Rattle.bk_sources.specs.declared.fault.FileFault.TheVariants.{Fault as FileAtFault, Limit as FilePastLimit, Memory as NoMemory}
use Rattle.bk_front.specs.declared.project_file.LineKind.{LineKind}
use Rattle.bk_front.specs.declared.project_file.LineKind.TheVariants.{Range as RangeLine}
use Rattle.bk_front.specs.declared.project_file.LineKind.TheVariants.{Machine as MachineLine, Refinement as RefinementLine}
use Rattle.bk_front.specs.declared.project_file.LineKind.TheVariants.{Implementation as ImplementationLine, Proofs as ProofsLine}
use Rattle.bk_front.specs.declared.reading.Read.{Read}
use Rattle.bk_front.specs.declared.reading.Read.TheVariants.{Component, High}
use Rattle.bk_front.specs.declared.refusal.Refusal.{Refusal}
use Rattle.bk_front.specs.declared.refusal.Refusal.TheVariants.{Fault, Limit, Memory}

-- what a text is read as
abbrev pub IsReadOf : List ℕ → Read → Type 0
IsReadOf text (Component c) = IsLow text c
IsReadOf text High = IsHigh text

-- what is told of a component of this file below these levels, where it keeps the limit of names
abbrev pub IsNextRefusal : ℤ → Option Development → RawComponent → ℕ → Refusal → Type 0
IsNextRefusal top above c file (Fault number told place) = (suc file ≡ told) × AnswersFault (verdict_of top above c) number place
IsNextRefusal top above c file (Limit number told) = ⊥
IsNextRefusal top above c file Memory = Unit {0}

-- whether a line of this kind may stand after lines of which this is the last that names no proof file
abbrev pub may_follow : Option LineKind → LineKind → Bool
may_follow last ProofsLine = true
may_follow None RangeLine = true
may_follow (Some RangeLine) RangeLine = false
may_follow (Some MachineLine) RangeLine = false
may_follow (Some RefinementLine) RangeLine = false
may_follow (Some ImplementationLine) RangeLine = false
may_follow (Some ProofsLine) RangeLine = false
may_follow (Some RangeLine) MachineLine = true
may_follow (Some RangeLine) RefinementLine = false
may_follow (Some RangeLine) ImplementationLine = false
may_follow None MachineLine = true
may_follow None RefinementLine = false
may_follow None ImplementationLine = false
may_follow (Some MachineLine) RefinementLine = true
may_follow (Some MachineLine) ImplementationLine = true
may_follow (Some RefinementLine) RefinementLine = true
may_follow (Some RefinementLine) ImplementationLine = true
may_follow (Some MachineLine) MachineLine = false
may_follow (Some RefinementLine) MachineLine = false
may_follow (Some ImplementationLine) MachineLine = false
may_follow (Some ImplementationLine) RefinementLine = false
may_follow (Some ImplementationLine) ImplementationLine = false
may_follow (Some ProofsLine) MachineLine = false
may_follow (Some ProofsLine) RefinementLine = false
may_follow (Some ProofsLine) ImplementationLine = false

-- whether no machine is named so far, where this is the last of the lines that name no proof file
abbrev pub lacks_machine : Option LineKind → Bool
lacks_machine None = true
lacks_machine (Some RangeLine) = true
lacks_machine (Some _) = false

-- the last line that names no proof file with one line more
abbrev pub last_after : Option LineKind → LineKind → Option LineKind
last_after last ProofsLine = last
last_after last kind = Some kind

-- it tells of one of the first MOST_COMPONENTS files
abbrev pub IsOfFew : FileFault → Type 0
IsOfFew (FileAtFault number file place) = file < MOST_COMPONENTS
IsOfFew (FilePastLimit number file) = file < MOST_COMPONENTS
IsOfFew NoMemory = Unit {0}
