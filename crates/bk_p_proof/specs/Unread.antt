-- The tokens that a proof file may be written as: those without signs and words of sequences, which are not read yet. As a part of
-- a script's name such a word stands directly behind the name proof or behind a dot.
use Rattle.std.specs.Prelude.{◌≡◌, ℕ, Bool, false, not, cond, ◌&&◌, nat_eq, List, [], ◌∷◌, codes}
use Rattle.std.specs.Str.{bytes_eq}
use Rattle.bk_form.specs.declared.token.Token.{Token}
use Rattle.bk_form.specs.declared.token.TokenKind.{TokenKind}
use Rattle.bk_form.specs.declared.token.TokenKind.TheVariants.{Name, Sign, Word}
use Rattle.bk_ops.specs.declared.sign.TheConstants.{DOT}
use Rattle.bk_raw.specs.Errors.Places.{IsLongestWhole, byte_at}
use Rattle.bk_raw.specs.Grammar.ScriptSpelling.{SpellsScripts, IsWholeScripts}
use Rattle.bk_raw.specs.Trees.Operators.{is_of_sequences}
use Rattle.bk_raw.specs.Trees.ScriptTree.{RawScript}

-- proof, and .
abbrev pub is_before_part : TokenKind → Bool
is_before_part (Name text) = bytes_eq text (codes "proof")
is_before_part (Sign op) = nat_eq op DOT
is_before_part _ = false

-- a sign of sequences, and a word of them that is no part of a name
abbrev pub is_unread : (is_part : Bool) → TokenKind → Bool
is_unread is_part (Sign op) = is_of_sequences (Sign op)
is_unread is_part (Word op) = not is_part && is_of_sequences (Word op)
is_unread is_part _ = false

-- the tokens before the first of them
abbrev pub before_sequences : (is_part : Bool) → List Token → List Token
before_sequences is_part [] = []
before_sequences is_part (t ∷ ts) = cond (is_unread is_part t.kind) [] (t ∷ before_sequences (is_before_part t.kind) ts)

-- there is none
abbrev pub IsWithoutSequences : List Token → Type 0
IsWithoutSequences tokens = before_sequences false tokens ≡ tokens

-- no scripts without them are written so. Of what stands before the first of them scripts are written up to this place, and no
-- further
pub record IsReadFault (tokens : List Token) (place : ℕ) : Type 0 where
  pub none : (ss : List RawScript) → SpellsScripts ss tokens → IsWithoutSequences tokens → ⊥
  pub first : IsLongestWhole IsWholeScripts (before_sequences false tokens) place

-- the same in bytes of a text that is so long
abbrev pub IsReadFaultAt : (text_length : ℕ) → List Token → (byte : ℕ) → Type 0
IsReadFaultAt text_length tokens byte = (place : ℕ) × IsReadFault tokens place × (byte ≡ byte_at text_length tokens place)
