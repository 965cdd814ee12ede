-- What is shown of printed formulas.
use Rattle.std.specs.Prelude.{◌≡◌, ◌≢◌, ℕ, ℤ, List, []}
use Rattle.bk_form.specs.Table.{Table}
use Rattle.bk_form.specs.Formula.{Formula}
use Rattle.bk_form.specs.Role.{Role, gives, ranges_over, predicate, untyped, role}
use Rattle.bk_form.specs.declared.token.Token.{Token}
use Rattle.bk_lex.specs.Lexis.{AreTokens}
use Rattle.bk_raw.specs.Trees.RawTree.{RawTree}
use Rattle.bk_raw.specs.Grammar.Spelling.{Spells}
use Rattle.bk_raw.specs.Meaning.Names.{Names}
use Rattle.bk_raw.specs.Meaning.Outcome.{Reading, plainly, giving, ranging, holding, answered}
use Rattle.bk_raw.specs.Meaning.TermReading.{reading}
use Rattle.bk_raw.specs.Meaning.ScopeReading.{ScopeNames, names_in, formula_in}
use Rattle.bk_show.specs.Shown.{shown}
use Rattle.bk_show.specs.Binders.{Binds}
use Rattle.bk_show.specs.Readable.{IsReadable}
use Rattle.bk_show.specs.Stands.{HasNoLocals, Stands}

-- without a fault, as this formula with its type, as a domain over its type, or as a predicate
abbrev pub ReadsAs : Role → Formula → Reading → Type 0
ReadsAs (gives t) f r = r ≡ giving f t
ReadsAs (ranges_over t) f r = (there : ℕ) × (r ≡ plainly (ranging f t there))
ReadsAs predicate f r = r ≡ plainly (holding f)
ReadsAs untyped f r = ⊥

-- the text of a formula has one list of tokens, and one tree spells these. The tree reads as the formula wherever each text of a
-- variable, a set or an element in the formula names what it stands for; so it does in a scope
pub record ReadsBack (table : Table) (f : Formula) : Type 0 where
  pub tokens : List Token
  pub tree : RawTree
  pub cut : AreTokens (shown table f) tokens
  pub one_cut : (others : List Token) → AreTokens (shown table f) others → others ≡ tokens
  pub spelled : Spells tree tokens
  pub one_tree : (other : RawTree) → Spells other tokens → other ≡ tree
  pub reads : (max : ℤ) (names : Names) → HasNoLocals names → Stands table names f → ReadsAs (role table [] f) f (reading max names tree)
  pub reads_in : (scope : ScopeNames) → Stands table (names_in table scope) f → formula_in table scope tree ≡ answered f

-- what is printed of a formula reads back, if the formula types, each of its binders binds something, and its names, numbers and
-- bound variables can be written
abbrev pub ShownReadsBack : Type 0
ShownReadsBack = (table : Table) (f : Formula) → role table [] f ≢ untyped → Binds f → IsReadable table 0 f → ReadsBack table f
