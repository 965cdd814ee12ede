-- What the text of a script is worth, as statements.
use Rattle.std.specs.Prelude.{◌≡◌, ◌≢◌, ℕ, ◌≤◌, List, [], ◌∷◌, ◌++◌, map, length, All}
use Rattle.std.specs.List.{AllZip, AllPairs, flat_map}
use Rattle.bk_limits.specs.declared.TheConstants.{MOST_TOKENS}
use Rattle.bk_form.specs.Each.{Each}
use Rattle.bk_form.specs.Table.{Table, VariableEntry}
use Rattle.bk_form.specs.declared.token.Token.{Token}
use Rattle.bk_lex.specs.Lexis.{AreTokens}
use Rattle.bk_raw.specs.declared.script.NamePart.{NamePart}
use Rattle.bk_raw.specs.Trees.ScriptTree.{RawScript}
use Rattle.bk_raw.specs.Grammar.ScriptSpelling.{SpellsScripts}
use Rattle.bk_raw.specs.Errors.Limits.{IsShallow, IsLowFile}
use Rattle.bk_kernel.specs.declared.rule.Rule.{Rule}
use Rattle.bk_dev.specs.Development.{Development}
use Rattle.bk_p_proof.specs.Unread.{IsWithoutSequences}
use Rattle.bk_p_proof.specs.TypedNames.{script_names, AreOfOneType}
use Rattle.bk_p_proof.specs.Files.{IsShort, IsProofFile, AreScriptsOf}
use Rattle.bk_scripts.specs.Grounding.{IsGrounded}
use Rattle.bk_status.specs.States.{name_text}
use Rattle.bk_print.specs.Text.{script_text}
use Rattle.bk_print.specs.Readable.{with_new, ScriptReads, PrintedScript, IsCommentLine}

-- the limits of a proof file: its tokens, brackets open at one place, the height of terms, and rules
pub record IsWithinLimits (tokens : List Token) (script : RawScript) : Type 0 where
  pub few : length tokens ≤ MOST_TOKENS
  pub shallow : IsShallow tokens
  pub low : IsLowFile (script ∷ [])
  pub short : IsShort script

-- the text has tokens, none of sequences, that spell one script with this name, no name in which is written with two types; and its rules over the
-- development's table are these, over this table. Where it passes no limit, it is a proof file with this script
pub record ReadsBack (dev : Development) (name : List NamePart) (rules : List Rule) (table : Table) (text : List ℕ) : Type 0 where
  pub tokens : List Token
  pub script : RawScript
  pub cut : AreTokens text tokens
  pub spelled : SpellsScripts (script ∷ []) tokens
  pub plain : IsWithoutSequences tokens
  pub typed : AreOfOneType (script_names script)
  pub named : script.name ≡ name
  pub grounded : IsGrounded dev script rules table
  pub read : IsWithinLimits tokens script → IsProofFile text (script ∷ [])

-- the text of a script reads back as the same rules
abbrev pub ScriptsReadBack : Type 0
ScriptsReadBack = (dev : Development) (name : List NamePart) (rules : List Rule) (new : List VariableEntry) →
    ScriptReads dev name rules new →
    ReadsBack dev name rules (with_new dev.table new) (script_text (with_new dev.table new) (name_text name) rules)

-- ---- several scripts
-- the limits of a proof file with these scripts
pub record AreWithinLimits (tokens : List Token) (scripts : List RawScript) : Type 0 where
  pub few : length tokens ≤ MOST_TOKENS
  pub shallow : IsShallow tokens
  pub low : IsLowFile scripts
  pub short : All IsShort scripts

-- the text of a script
abbrev pub text_of_script : Development → PrintedScript → List ℕ
text_of_script dev s = script_text (with_new dev.table s.new) (name_text s.name) s.rules

-- the text has tokens that spell scripts with these names, and the rules of each over the development's table are these. Where it passes no
-- limit, they are the scripts of the text as the only proof file
pub record FileReadsBack (dev : Development) (printed : List PrintedScript) (text : List ℕ) : Type 0 where
  pub tokens : List Token
  pub scripts : List RawScript
  pub cut : AreTokens text tokens
  pub spelled : SpellsScripts scripts tokens
  pub named : map (λ s. s.name) scripts ≡ map (λ s. s.name) printed
  pub grounded : AllZip (λ s p. IsGrounded dev s p.rules (with_new dev.table p.new)) scripts printed
  pub read : AreWithinLimits tokens scripts → AreScriptsOf (text ∷ []) scripts

-- the texts of scripts with different names, one after another and then a comment, read back as these scripts
abbrev pub FilesReadBack : Type 0
FilesReadBack = (dev : Development) (printed : List PrintedScript) (comment : List ℕ) →
    Each (λ s. ScriptReads dev s.name s.rules s.new) printed → AllPairs (λ a b. a ≢ b) (map (λ s. s.name) printed) → IsCommentLine comment →
    FileReadsBack dev printed (flat_map (text_of_script dev) printed ++ comment)
