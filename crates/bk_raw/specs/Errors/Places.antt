-- Where tokens that are written as no component, or as no proof file, are at fault: at the first token past their longest
-- whole front, or after all of them.
use Rattle.std.specs.Prelude.{◌≡◌, ◌⊎◌, ◌≤◌, ℕ, zero, suc, List, [], ◌∷◌, ◌++◌, length}
use Rattle.bk_form.specs.declared.token.Token.{Token}
use Rattle.bk_raw.specs.declared.component.ComponentKind.{ComponentKind}
use Rattle.bk_raw.specs.Trees.ComponentTree.{RawClause, RawComponent}
use Rattle.bk_raw.specs.Trees.ScriptTree.{RawScript}
use Rattle.bk_raw.specs.Grammar.ScriptSpelling.{SpellsScripts, IsWholeScripts}
use Rattle.bk_raw.specs.Grammar.ComponentSpelling.{Clause, AreClausesOf, OpensComponent, SpellsComponent}

-- a whole front of a component: nothing, or a header and clauses that such a component has, none twice, and perhaps END
abbrev pub IsWholeComponent : List Token → Type 0
IsWholeComponent tokens = (tokens ≡ []) ⊎ ((c : RawComponent) × (OpensComponent c tokens ⊎ SpellsComponent c tokens))

-- the longest whole front has so many tokens
pub record IsLongestWhole (IsWhole : List Token → Type 0) (tokens : List Token) (place : ℕ) : Type 0 where
  pub front : List Token
  pub rest : List Token
  pub splits : tokens ≡ front ++ rest
  pub ends : length front ≡ place
  pub whole : IsWhole front
  pub longest : (other after : List Token) → tokens ≡ other ++ after → IsWhole other → length other ≤ place

-- no component is written so, and so many tokens stand before the first one past the longest whole front; all of them where
-- the longest whole front is the whole list
pub record IsComponentFault (tokens : List Token) (place : ℕ) : Type 0 where
  pub none : (c : RawComponent) → SpellsComponent c tokens → ⊥
  pub first : IsLongestWhole IsWholeComponent tokens place

-- the same of proof files, of their spelling: that a name is written with two types in one script is another fault, which is
-- asked only where the whole file is spelled
pub record IsScriptFault (tokens : List Token) (place : ℕ) : Type 0 where
  pub none : (ss : List RawScript) → SpellsScripts ss tokens → ⊥
  pub first : IsLongestWhole IsWholeScripts tokens place

-- ---- in bytes
-- the byte where the token starts before which so many stand; after the last one the length of the text
abbrev pub byte_at : (text_length : ℕ) → List Token → ℕ → ℕ
byte_at text_length [] place = text_length
byte_at text_length (t ∷ ts) zero = t.start
byte_at text_length (t ∷ ts) (suc place) = byte_at text_length ts place

-- tokens of a text of this length are at fault as a component at this byte
abbrev pub IsComponentFaultAt : (text_length : ℕ) → List Token → (byte : ℕ) → Type 0
IsComponentFaultAt text_length tokens byte = (place : ℕ) × IsComponentFault tokens place × (byte ≡ byte_at text_length tokens place)

-- and as a proof file
abbrev pub IsScriptFaultAt : (text_length : ℕ) → List Token → (byte : ℕ) → Type 0
IsScriptFaultAt text_length tokens byte = (place : ℕ) × IsScriptFault tokens place × (byte ≡ byte_at text_length tokens place)

-- ---- reading clause by clause
-- after these clauses of a component of the kind, this clause can be the next one, and these are its tokens
abbrev pub CanFollow : ComponentKind → List RawClause → RawClause → List Token → List Token → Type 0
CanFollow kind done c tokens front = ((rest : List Token) × (tokens ≡ front ++ rest)) × Clause c front × AreClausesOf kind (done ++ c ∷ [])

-- after the first clauses these ones stand one after another, each the longest that can be the next one there, and after
-- them, where the last tokens are left, none can follow
abbrev pub AreReadOn : ComponentKind → List RawClause → List RawClause → List Token → List Token → Type 0
AreReadOn kind done [] tokens rest = (tokens ≡ rest) × AreClausesOf kind done
    × ((d : RawClause) (other : List Token) → CanFollow kind done d tokens other → ⊥)
AreReadOn kind done (c ∷ cs) tokens rest =
    (front back : List Token) × (tokens ≡ front ++ back) × Clause c front
    × ((d : RawClause) (other : List Token) → CanFollow kind done d tokens other → length other ≤ length front)
    × AreReadOn kind (done ++ c ∷ []) cs back rest
