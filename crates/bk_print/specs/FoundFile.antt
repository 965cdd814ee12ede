-- The text of what is found, as a proof file.
use Rattle.std.specs.Prelude.{◌≡◌, ◌≢◌, ◌⊎◌, ◌<◌, ◌^◌, ℕ, false, List, [], ◌∷◌, length}
use Rattle.bk_form.specs.Each.{Each}
use Rattle.bk_form.specs.declared.token.Token.{Token}
use Rattle.bk_lex.specs.Lexis.{AreTokens}
use Rattle.bk_seq.specs.Sequents.{Sequent}
use Rattle.bk_raw.specs.Trees.ScriptTree.{RawScript}
use Rattle.bk_raw.specs.Grammar.ScriptSpelling.{SpellsScripts}
use Rattle.bk_kernel.specs.Obvious.{is_obvious}
use Rattle.bk_dev.specs.Development.{Development}
use Rattle.bk_p_proof.specs.Files.{AreScriptsOf}
use Rattle.bk_status.specs.declared.state.State.TheVariants.{Proved}
use Rattle.bk_status.specs.declared.table.Row.{Row}
use Rattle.bk_status.specs.States.{IsState}
use Rattle.bk_print.specs.declared.outcome.Outcome.{Outcome}
use Rattle.bk_print.specs.declared.outcome.Outcome.TheVariants.{Script}
use Rattle.bk_print.specs.InScope.{IsReadInScope, IsFull}
use Rattle.bk_print.specs.Laws.{AreWithinLimits}
use Rattle.bk_print.specs.Found.{IsTextOfProof, AreFound, found_text}

-- no two obligations have one name
abbrev pub HaveDifferentNames : List (List ℕ × Sequent) → Type 0
HaveDifferentNames [] = Unit {0}
HaveDifferentNames (o ∷ os) = Each (λ p. p.0 ≢ o.0) os × HaveDifferentNames os

-- each obligation for which a script is written reads back in its scope, and is not obvious
abbrev pub AreReadInScope : Development → List (List ℕ × Sequent) → List Outcome → Type 0
AreReadInScope dev (o ∷ os) (Script text ∷ xs) = IsReadInScope dev o × (is_obvious o.1.0 o.1.1 ≡ false) × AreReadInScope dev os xs
AreReadInScope dev (o ∷ os) (_ ∷ xs) = AreReadInScope dev os xs
AreReadInScope dev _ _ = Unit {0}

-- each of these is proved where these are the scripts of the proof files
abbrev pub AreProvedBy : Development → List RawScript → List (List ℕ × Sequent) → List Outcome → Type 0
AreProvedBy dev scripts (o ∷ os) (Script text ∷ xs) = IsState dev scripts o.0 o.1 Proved × AreProvedBy dev scripts os xs
AreProvedBy dev scripts (o ∷ os) (_ ∷ xs) = AreProvedBy dev scripts os xs
AreProvedBy dev scripts _ _ = Unit {0}

-- for one of these so many variables are brought that no number is left
abbrev pub IsSomeFull : Development → List (List ℕ × Sequent) → List Outcome → Type 0
IsSomeFull dev (o ∷ os) (Script text ∷ xs) = ((proof : IsTextOfProof dev o text.items) × IsFull proof.table) ⊎ IsSomeFull dev os xs
IsSomeFull dev (o ∷ os) (_ ∷ xs) = IsSomeFull dev os xs
IsSomeFull dev _ _ = ⊥

-- the text that is found has tokens that spell scripts, by which all obligations are proved for which one is written; where it passes no
-- limit, they are the scripts of the text as the only proof file
pub record FoundFileProves (dev : Development) (os : List (List ℕ × Sequent)) (outcomes : List Outcome) : Type 0 where
  pub tokens : List Token
  pub scripts : List RawScript
  pub cut : AreTokens (found_text outcomes) tokens
  pub spelled : SpellsScripts scripts tokens
  pub proved : AreProvedBy dev scripts os outcomes
  pub read : AreWithinLimits tokens scripts → AreScriptsOf (found_text outcomes ∷ []) scripts

-- what is found proves as one file
abbrev pub FoundFilesProve : Type 0
FoundFilesProve = (dev : Development) (os : List (List ℕ × Sequent)) (rows : List Row) (outcomes : List Outcome) →
    AreFound dev os rows outcomes → AreReadInScope dev os outcomes → HaveDifferentNames os → length outcomes < 2 ^ 64 →
    FoundFileProves dev os outcomes ⊎ IsSomeFull dev os outcomes
