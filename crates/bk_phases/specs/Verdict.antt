-- What a component below a development is answered: the development with one more level, or the first fault. Faults are asked kind by
-- kind; of the first kind of which there is one the smallest byte is told.
-- Source: this project.
use Rattle.std.specs.Prelude.{ℕ, ℤ, cond, nat_le, List, [], ◌∷◌, Option, None, Some}
use Rattle.bk_dev.specs.Development.{Development}
use Rattle.bk_raw.specs.declared.fault.FaultKind.{FaultKind}
use Rattle.bk_raw.specs.declared.fault.FaultKind.TheVariants.{TwiceNamed, UnknownName, NotPredicate, NoType, WrongOperation}
use Rattle.bk_raw.specs.declared.fault.FaultKind.TheVariants.{WrongWrite, WrongValue, NotB0}
use Rattle.bk_raw.specs.Trees.ComponentTree.{RawComponent}
use Rattle.bk_raw.specs.Errors.Faults.{Fault}
use Rattle.bk_statics.specs.Components.{component_of}
use Rattle.bk_statics.specs.Above.{above_of}
use Rattle.bk_statics.specs.Verdict.{Verdict, judged, limited}
use Rattle.bk_phases.specs.Resolved.{Resolved, resolved_component}
use Rattle.bk_phases.specs.Types.{Types, types_of}
use Rattle.bk_phases.specs.TwiceNamed.{twice_named}
use Rattle.bk_phases.specs.UnknownNames.{unknown_names}
use Rattle.bk_phases.specs.NotPredicate.{wrong_sorts}
use Rattle.bk_phases.specs.NoType.{without_type}
use Rattle.bk_phases.specs.Operations.{wrong_operations}
use Rattle.bk_phases.specs.Writes.{wrong_writes}
use Rattle.bk_phases.specs.Values.{wrong_values}
use Rattle.bk_phases.specs.B0.{not_b0}
use Rattle.bk_phases.specs.LevelOf.{with_level}
use Rattle.bk_phases.specs.DeclaredNames.{declares_too_many}

-- the smaller of two bytes
abbrev pub smaller : ℕ → ℕ → ℕ
smaller p q = cond (nat_le p q) p q

-- the smallest of these bytes
abbrev pub smallest : ℕ → List ℕ → ℕ
smallest p [] = p
smallest p (q ∷ qs) = smaller p (smallest q qs)

-- a phase: a kind of faults, and the bytes of those that there are
abbrev pub Phase : Type 0
Phase = FaultKind × List ℕ

-- the first kind of which there are faults, with the smallest of their bytes
abbrev pub first_fault : List Phase → Option Fault
first_fault [] = None
first_fault ((kind, []) ∷ rest) = first_fault rest
first_fault ((kind, p ∷ ps) ∷ rest) = Some (kind, smallest p ps)

-- the phases, each with its faults. A phase is asked where those before found none: it may take for granted that there are none
abbrev pub phases : Types → Resolved → List Phase
phases types r =
    (TwiceNamed, twice_named r)
    ∷ (UnknownName, unknown_names r)
    ∷ (NotPredicate, wrong_sorts r)
    ∷ (NoType, without_type types r)
    ∷ (WrongOperation, wrong_operations r)
    ∷ (WrongWrite, wrong_writes r)
    ∷ (WrongValue, wrong_values types r)
    ∷ (NotB0, not_b0 types (with_level types r) r)
    ∷ []

-- the answer of a component whose names are resolved
abbrev pub verdict : ℤ → Resolved → Verdict
verdict max r = let types = types_of max r in judged (with_level types r) (first_fault (phases types r))

-- the answer of a component as it is written, below a development, or below none if it is a machine; the limit of names is asked first
abbrev pub verdict_of : ℤ → Option Development → RawComponent → Verdict
verdict_of max above raw =
    let c = component_of raw in
    limited (declares_too_many c) (verdict max (resolved_component (above_of above) c))
