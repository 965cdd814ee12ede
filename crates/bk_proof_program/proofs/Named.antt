-- What is told of an obligation, or of a proof file, that has a name, and of none.
use Rattle.std.proofs.Common.{◌≡◌, ℕ, List, Option, Some, None, refl, subst}
use Rattle.bk_dev.specs.Development.{Development}
use Rattle.bk_io.specs.Files.{Files}
use Rattle.bk_raw.specs.Trees.ScriptTree.{RawScript}
use Rattle.bk_seq.specs.Sequents.{Sequent}
use Rattle.bk_verbs.specs.declared.status.Status.{Status}
use Rattle.bk_verbs.specs.declared.status.Status.TheVariants.{Usage}
use Rattle.bk_proof_program.specs.Goals.{ShowsNamed}
use Rattle.bk_proof_program.specs.Prunes.{IsPruned, IsPrunedIfNamed}

-- ---- obligations
module _ (dev : Development) (scripts : List RawScript) (name : List ℕ) (at : Option ℕ) (o : Option (List ℕ × Sequent)) (text : List ℕ) where
  pub none_named : None ≡ o → ShowsNamed dev scripts name at o text Usage
  none_named e = subst (λ (x : Option (List ℕ × Sequent)). ShowsNamed dev scripts name at x text Usage) e refl

  pub one_named : (one : List ℕ × Sequent) (status : Status) → Some one ≡ o → ShowsNamed dev scripts name at (Some one) text status → ShowsNamed dev scripts name at o text status
  one_named one status e h = subst (λ (x : Option (List ℕ × Sequent)). ShowsNamed dev scripts name at x text status) e h

-- ---- files
module _ (files : Files) (dev : Development) (file : List ℕ) (o : Option (List ℕ)) (text : List ℕ) where
  pub no_file : None ≡ o → IsPrunedIfNamed files dev file o text Usage
  no_file e = subst (λ (x : Option (List ℕ)). IsPrunedIfNamed files dev file x text Usage) e refl

  pub one_file : (one : List ℕ) (status : Status) → Some one ≡ o → IsPruned files dev file text status → IsPrunedIfNamed files dev file o text status
  one_file one status e h = subst (λ (x : Option (List ℕ)). IsPrunedIfNamed files dev file x text status) e h
