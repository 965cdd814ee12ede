-- What a level with no fault is: a development, below which the next may stand.
use Rattle.std.proofs.Common.{◌≡◌, ℤ, refl, sym, ◌∙◌, ap, subst, false, length}
use Rattle.std.specs.Prelude.{Option, None, Some}
use Rattle.bk_dev.specs.Development.{Development}
use Rattle.bk_dev.specs.B0.{IsB0Development}
use Rattle.bk_dev.specs.Facts.{IsDevelopment, HomesAreThere}
use Rattle.bk_raw.specs.Errors.Blame.{blame}
use Rattle.bk_raw.specs.Trees.ComponentTree.{RawComponent}
use Rattle.bk_raw.specs.declared.component.ComponentKind.{ComponentKind}
use Rattle.bk_raw.specs.declared.component.ComponentKind.TheVariants.{Machine, Refinement, Implementation}
use Rattle.bk_raw.specs.Errors.Limits.{IsLowComponent}
use Rattle.bk_statics.specs.Above.{above_of}
use Rattle.bk_statics.specs.Components.{Component, component_of, is_machine}
use Rattle.bk_statics.specs.DeclaredNames.{declares_too_many}
use Rattle.bk_statics.specs.Verdict.{accepted, all_faults, level_below, verdict_of}
use Rattle.bk_statics.specs.VerdictLaws.{MayStandAbove, IsRangeBelow, HasRoom}
use Rattle.bk_statics.proofs.B0Levels.{always-b0}
use Rattle.bk_statics.proofs.Developments.{always-development}
use Rattle.bk_elab.specs.Answered.{development_below, with_level, IsAddedBy}
use Rattle.bk_elab.specs.declared.levels.Added.{Added}
use Rattle.bk_elab.proofs.Assembling.{level-told, with-level-is, room-made}

-- each variable above has a home
pub at-home : (kind : ComponentKind) (above : Option Development) → MayStandAbove kind above → length (above_of above).homes ≡ length (above_of above).table.variables
at-home Machine None may = refl
at-home Machine (Some dev) may = absurd may
at-home Refinement None may = absurd may
at-home Refinement (Some dev) may = may.0.lawful.homes
at-home Implementation None may = absurd may
at-home Implementation (Some dev) may = may.0.lawful.homes

-- at a level that is there
pub at-levels : (kind : ComponentKind) (above : Option Development) → MayStandAbove kind above → HomesAreThere (above_of above)
at-levels Machine None may = λ n. tt
at-levels Machine (Some dev) may = absurd may
at-levels Refinement None may = absurd may
at-levels Refinement (Some dev) may = may.0.homes_there
at-levels Implementation None may = absurd may
at-levels Implementation (Some dev) may = may.0.homes_there

-- the sets are those of the table
pub at-sets : (kind : ComponentKind) (above : Option Development) → MayStandAbove kind above → (above_of above).sets ≡ (above_of above).table.sets
at-sets Machine None may = refl
at-sets Machine (Some dev) may = absurd may
at-sets Refinement None may = absurd may
at-sets Refinement (Some dev) may = may.0.lawful.sets
at-sets Implementation None may = absurd may
at-sets Implementation (Some dev) may = may.0.lawful.sets

-- what is said of the answer
pub record IsLevelled (max : ℤ) (above : Option Development) (raw : RawComponent) (new : Development) : Type 0 where
  pub verdict : verdict_of max above raw ≡ accepted new
  pub development : IsDevelopment new
  pub room : HasRoom new
  pub executable : raw.kind ≡ Implementation → IsLowComponent raw → IsB0Development new

-- with what a component without faults adds, where it is counted
levelled-at : (max : ℤ) (above : Option Development) (raw : RawComponent) (k : Component) (dev : Development) (a : Added) → k ≡ component_of raw → dev ≡ above_of above → MayStandAbove raw.kind above → IsRangeBelow max above →
    false ≡ declares_too_many k → None ≡ blame (all_faults max dev k) → IsAddedBy max a dev (is_machine k.kind) (level_below max dev k) →
    HasRoom (development_below max (above_of above) a) → IsLevelled max above raw (with_level max above a)
levelled-at max above raw k dev a shown higher may range few none added room =
    let told : IsAddedBy max a (above_of above) (is_machine (component_of raw).kind) (level_below max dev k) = subst (λ (P : Type 0). P) (λ i. IsAddedBy max a (higher i) (is_machine (shown i).kind) (level_below max dev k)) added in
    let is : with_level max above a ≡ level_below max dev k = with-level-is max raw.kind above a (level_below max dev k) may told in
    let answer : verdict_of max above raw ≡ accepted (with_level max above a) = level-told max above raw k dev shown higher few none ∙ ap accepted (sym is) in
    let counted : HasRoom (with_level max above a) = room-made max raw.kind above a may room in
    record {
      verdict = answer;
      development = always-development max above raw (with_level max above a) may range answer counted;
      room = counted;
      executable = λ kind low. always-b0 max above raw (with_level max above a) may range kind low answer;
    }

-- the same, where MAXINT is given by 64 bits
pub levelled : (max m : ℤ) (above : Option Development) (raw : RawComponent) (k : Component) (dev : Development) (a : Added) → m ≡ max → k ≡ component_of raw → dev ≡ above_of above → MayStandAbove raw.kind above → IsRangeBelow max above →
    false ≡ declares_too_many k → None ≡ blame (all_faults m dev k) → IsAddedBy m a dev (is_machine k.kind) (level_below m dev k) →
    HasRoom (development_below m (above_of above) a) → IsLevelled max above raw (with_level m above a)
levelled max m above raw k dev a same-max shown higher may range few none added room =
    subst (λ (n : ℤ). IsLevelled n above raw (with_level m above a)) same-max
    (levelled-at m above raw k dev a shown higher may (subst (λ (n : ℤ). IsRangeBelow n above) (sym same-max) range) few none added room)
