-- Where each obligation of a development is obvious or derived by rules, each is valid.
use Rattle.std.proofs.Common.{inl, inr, ℕ, List, [], ◌∷◌}
use Rattle.bk_form.specs.Table.{Table, IsWellFormed}
use Rattle.bk_dev.specs.Flattened.{flattened}
use Rattle.bk_form.specs.Each.{Each}
use Rattle.bk_dev.proofs.Room.{development-formed}
use Rattle.bk_seq.specs.Sequents.{Sequent, Types}
use Rattle.bk_kernel.proofs.SizedRules.{sound_for_all_sizes, obvious_for_all_sizes}
use Rattle.bk_po.specs.Obligations.{AreValidForAllSizes, numbered_obligations}
use Rattle.bk_po.proofs.TypedSequents.{obligations_type}
use Rattle.bk_status.specs.Obvious.{AreObvious, IsShown}
use Rattle.bk_status.specs.Laws.{ShownObligationsAreValid, ObviousObligationsAreValid}

module _ (table : Table) where
  shown-valid : IsWellFormed table → (ss : List (List ℕ × Sequent)) → Each (λ s. Types table s.1) ss → Each (λ s. IsShown table s.1) ss → AreValidForAllSizes table ss
  shown-valid formed [] h o = tt
  shown-valid formed (s ∷ ss) h o = (
    elim o.0 [
      | inl plain ↦ obvious_for_all_sizes table formed s.1.0 s.1.1 h.0.1 plain
      | inr d ↦ sound_for_all_sizes.wider table d.wide d.rules s.1
          (record { small_formed = formed; large_formed = d.formed; wider = d.wider; types = h.0; derives = d.derives })
    ],
    shown-valid formed ss h.1 o.1,
  )

  obvious-shown : (ss : List (List ℕ × Sequent)) → AreObvious ss → Each (λ s. IsShown table s.1) ss
  obvious-shown [] h = tt
  obvious-shown (s ∷ ss) h = (inl h.0, obvious-shown ss h.1)

pub shown_obligations_are_valid : ShownObligationsAreValid
shown_obligations_are_valid dev d shown = shown-valid (flattened dev).table (development-formed dev d) (numbered_obligations dev) (obligations_type dev d) shown

pub obvious_obligations_are_valid : ObviousObligationsAreValid
obvious_obligations_are_valid dev d obvious = shown_obligations_are_valid dev d (obvious-shown (flattened dev).table (numbered_obligations dev) obvious)
