-- What the grammar implies.
use Rattle.std.specs.Prelude.{◌≡◌, ◌⊎◌, ◌≤◌, ◌+◌, ℕ, true, List, [], ◌∷◌, ◌++◌, length}
use Rattle.bk_form.specs.declared.token.Token.{Token}
use Rattle.bk_form.specs.declared.token.TokenKind.TheVariants.{Word}
use Rattle.bk_ops.specs.declared.word.TheConstants.{END}
use Rattle.bk_raw.specs.Grammar.Brackets.{opens, closes, count_open}
use Rattle.bk_raw.specs.Trees.RawTree.{RawTree}
use Rattle.bk_raw.specs.Grammar.Spelling.{Spells}
use Rattle.bk_raw.specs.Trees.SubTree.{SubTree}
use Rattle.bk_raw.specs.Grammar.SubSpelling.{SpellsSub}
use Rattle.bk_raw.specs.Trees.ComponentTree.{RawClause, RawComponent, is_component_word}
use Rattle.bk_raw.specs.Grammar.ComponentSpelling.{Clause, Header, SpellsComponent}
use Rattle.bk_raw.specs.Trees.ScriptTree.{RawScript}
use Rattle.bk_raw.specs.Grammar.ScriptSpelling.{OpensScript, Scripted, SpellsScripts, IsWholeScripts, IsOpenOrNone}
use Rattle.bk_raw.specs.Errors.Places.{IsWholeComponent, IsLongestWhole, IsComponentFault}
use Rattle.bk_raw.specs.Errors.Places.{IsComponentFaultAt, IsScriptFault, IsScriptFaultAt, AreReadOn}

-- ---- one tree for the tokens
-- two terms that are written as the same tokens are the same
abbrev pub TermsAreOne : Type 0
TermsAreOne = (tokens : List Token) (one other : RawTree) → Spells one tokens → Spells other tokens → one ≡ other

-- two substitutions that are written as the same tokens are the same
abbrev pub SubstitutionsAreOne : Type 0
SubstitutionsAreOne = (tokens : List Token) (one other : SubTree) → SpellsSub one tokens → SpellsSub other tokens → one ≡ other

-- two components that are written as the same tokens are the same
abbrev pub ComponentsAreOne : Type 0
ComponentsAreOne = (tokens : List Token) (one other : RawComponent) →
    SpellsComponent one tokens → SpellsComponent other tokens → one ≡ other

-- two proof files that are written as the same tokens are the same
abbrev pub ScriptsAreOne : Type 0
ScriptsAreOne = (tokens : List Token) (ones others : List RawScript) →
    SpellsScripts ones tokens → SpellsScripts others tokens → ones ≡ others

-- ---- the longest
-- a substitution in front of the tokens that no other one in front of them is longer than
pub record IsLongestSub (tokens : List Token) (s : SubTree) (written rest : List Token) : Type 0 where
  pub splits : tokens ≡ written ++ rest
  pub spelled : SpellsSub s written
  pub longest : (other : SubTree) (front after : List Token) →
      tokens ≡ front ++ after → SpellsSub other front → length front ≤ length written

-- at most one is the longest
abbrev pub LongestIsOne : Type 0
LongestIsOne = (tokens : List Token) (s t : SubTree) (w v r q : List Token) →
    IsLongestSub tokens s w r → IsLongestSub tokens t v q → (s ≡ t) × (w ≡ v) × (r ≡ q)

-- ---- inside a clause
-- no word of a component stands in a clause outside of brackets and blocks, but the clause's own first
abbrev pub NoWordInside : Type 0
NoWordInside = (c : RawClause) (first word : Token) (front back : List Token) → Clause c (first ∷ (front ++ word ∷ back)) →
    count_open opens closes 0 front ≡ 0 → is_component_word word.kind ≡ true → ⊥

-- ---- places of faults
-- tokens have at most one place of fault as a component, and so at most one byte of fault
abbrev pub PlacesAreOne : Type 0
PlacesAreOne =
    (tokens : List Token) →
    ((one other : ℕ) → IsComponentFault tokens one → IsComponentFault tokens other → one ≡ other)
    × ((text_length one other : ℕ) → IsComponentFaultAt text_length tokens one → IsComponentFaultAt text_length tokens other → one ≡ other)

-- they have none where they are written as a component: never both
abbrev pub FaultsExclude : Type 0
FaultsExclude = (tokens : List Token) (c : RawComponent) (place : ℕ) → SpellsComponent c tokens → IsComponentFault tokens place → ⊥

-- after the header clauses are read one after another, each the longest that can be the next one, until none can follow: the
-- longest whole front ends after what is read, and one token later where END stands there
abbrev pub ReadingTellsPlace : Type 0
ReadingTellsPlace =
    (c : RawComponent) (tokens header behind rest : List Token) (place : ℕ) →
    tokens ≡ header ++ behind → Header c header → AreReadOn c.kind [] c.clauses behind rest →
    (((t : Token) (ts : List Token) → rest ≡ t ∷ ts → t.kind ≡ Word END → ⊥) →
    place + length rest ≡ length tokens → IsLongestWhole IsWholeComponent tokens place)
    × ((t : Token) (ts : List Token) → rest ≡ t ∷ ts → t.kind ≡ Word END →
    place + length ts ≡ length tokens → IsLongestWhole IsWholeComponent tokens place)

-- where no header stands in front, the longest whole front is the empty one
abbrev pub NoHeaderTellsPlace : Type 0
NoHeaderTellsPlace = (tokens : List Token) → ((c : RawComponent) (header behind : List Token) →
    tokens ≡ header ++ behind → Header c header → ⊥) → IsLongestWhole IsWholeComponent tokens 0

-- as a proof file too tokens have at most one place of fault, and at most one byte
abbrev pub ScriptPlacesAreOne : Type 0
ScriptPlacesAreOne =
    (tokens : List Token) →
    ((one other : ℕ) → IsScriptFault tokens one → IsScriptFault tokens other → one ≡ other)
    × ((text_length one other : ℕ) → IsScriptFaultAt text_length tokens one → IsScriptFaultAt text_length tokens other → one ≡ other)

-- and none where they are written as one
abbrev pub ScriptFaultsExclude : Type 0
ScriptFaultsExclude = (tokens : List Token) (ss : List RawScript) (place : ℕ) → SpellsScripts ss tokens → IsScriptFault tokens place → ⊥

-- the tokens begin with whole scripts, after which no whole one stands, and after them with the longest script but for its
-- end, or with nothing
pub record BeginsWithScripts (tokens done open_one : List Token) : Type 0 where
  pub scripts : List RawScript
  pub are : SpellsScripts scripts done
  pub behind : List Token
  pub cut : tokens ≡ done ++ behind
  pub no_other : (s : RawScript) (front after : List Token) → behind ≡ front ++ after → Scripted s front → ⊥
  pub begins : IsOpenOrNone open_one
  pub rest : List Token
  pub cut_behind : behind ≡ open_one ++ rest
  pub longest : (s : RawScript) (front after : List Token) → behind ≡ front ++ after →
      OpensScript s front → length front ≤ length open_one

-- whole scripts in front, after which no whole one stands, and after them the longest one but for its end, or nothing, are
-- the longest whole front
abbrev pub ScriptsTellPlace : Type 0
ScriptsTellPlace = (tokens done open_one : List Token) → BeginsWithScripts tokens done open_one →
    IsLongestWhole IsWholeScripts tokens (length done + length open_one)

-- ---- one of both
-- something holds, or does not
abbrev pub IsDecided : Type 0 → Type 0
IsDecided A = A ⊎ (A → ⊥)

-- of each front of the tokens it is decided whether it is whole
abbrev pub AreFrontsDecided : (List Token → Type 0) → List Token → Type 0
AreFrontsDecided IsWhole tokens = (front after : List Token) → tokens ≡ front ++ after → IsDecided (IsWhole front)

-- where it is decided which fronts are whole, and whether a component is written so, one is or there is a place of fault
abbrev pub DecidedIsOneOfBoth : Type 0
DecidedIsOneOfBoth = (tokens : List Token) → AreFrontsDecided IsWholeComponent tokens → IsDecided ((c : RawComponent)
    × SpellsComponent c tokens) → ((c : RawComponent) × SpellsComponent c tokens) ⊎ ((place : ℕ) × IsComponentFault tokens place)

-- with no premise: it cannot be that no component is written so and there is no place of fault
abbrev pub OneOfBothHolds : Type 0
OneOfBothHolds = (tokens : List Token) → ((c : RawComponent) → SpellsComponent c tokens → ⊥) →
    ((place : ℕ) → IsComponentFault tokens place → ⊥) → ⊥

-- the same of proof files, where it is decided
abbrev pub DecidedScriptsAreOneOfBoth : Type 0
DecidedScriptsAreOneOfBoth = (tokens : List Token) → AreFrontsDecided IsWholeScripts tokens → IsDecided ((ss : List RawScript)
    × SpellsScripts ss tokens) → ((ss : List RawScript) × SpellsScripts ss tokens) ⊎ ((place : ℕ) × IsScriptFault tokens place)

-- and with no premise
abbrev pub OneOfBothHoldsOfScripts : Type 0
OneOfBothHoldsOfScripts = (tokens : List Token) → ((ss : List RawScript) → SpellsScripts ss tokens → ⊥) →
    ((place : ℕ) → IsScriptFault tokens place → ⊥) → ⊥
