-- The script that the tokens of a printed text spell.
use Rattle.std.specs.Prelude.{ℕ, ◌+◌, ℤ, pos, negsuc, List, [], ◌∷◌, ◌++◌, map, length, codes, Option, Some, None}
use Rattle.bk_val.specs.ValueType.{ValueType}
use Rattle.bk_form.specs.Table.{Table, variable_type}
use Rattle.bk_form.specs.Formula.{Formula}
use Rattle.bk_form.specs.declared.token.Token.{Token}
use Rattle.bk_form.specs.declared.token.TokenKind.{TokenKind}
use Rattle.bk_form.specs.declared.token.TokenKind.TheVariants.{Name, Number, Word}
use Rattle.bk_ops.specs.declared.sign.TheConstants.{DOT}
use Rattle.bk_lex.specs.Lexis.{word_number}
use Rattle.bk_lin.specs.declared.fact.Line.{Line}
use Rattle.bk_lin.specs.declared.fact.Line.TheVariants.{Sum, Div}
use Rattle.bk_raw.specs.Trees.RawTree.{RawTree}
use Rattle.bk_raw.specs.Trees.WrittenType.{WrittenType, written_integer}
use Rattle.bk_raw.specs.declared.script.NamePart.{NamePart}
use Rattle.bk_raw.specs.declared.script.NamePart.TheVariants.{Letters, Numeral}
use Rattle.bk_raw.specs.declared.script.RuleWord.{RuleWord}
use Rattle.bk_raw.specs.declared.script.RuleWord.TheVariants.{Hyp as HypWord}
use Rattle.bk_raw.specs.declared.script.RawMultiple.{RawMultiple}
use Rattle.bk_raw.specs.declared.script.RawTyped.{RawTyped}
use Rattle.bk_raw.specs.Trees.ScriptTree.{RawPlace, in_goal, in_hypothesis, RawLine, multiples, quotient, RulePart, part_number, part_term, part_terms, part_place, part_no_place, part_typed, part_law, part_certificate, RawRule, RawScript}
use Rattle.bk_kernel.specs.declared.rule.Place.{Place}
use Rattle.bk_kernel.specs.declared.rule.Place.TheVariants.{Goal, Hyp as InHyp}
use Rattle.bk_kernel.specs.declared.rule.Rule.{Rule}
use Rattle.bk_show.specs.Items.{Item, blank, lexeme, plain, sign}
use Rattle.bk_show.specs.Shown.{name_of_variable, items}
use Rattle.bk_show.proofs.Tokens.{after, tokens_from}
use Rattle.bk_show.proofs.Trees.{written_type, shown_tree}
use Rattle.bk_print.specs.Written.{Part, a_number, a_term, some_terms, a_place, no_place, some_names, a_law, a_certificate, Parts, none, one, two, word_of, parts_of}
use Rattle.bk_print.specs.Readable.{with_new, PrintedScript}
use Rattle.bk_print.specs.Text.{divided, comma, name_items, law_name, part_items, word_items, rule_items, semicolon_before, rule_lines}

-- ---- lists, from a byte on
-- what stands behind others, with such items between
abbrev pub more_at : {A B : Type 0} → (ℕ → A → B) → (A → List Item) → List Item → ℕ → List A → List B
more_at raw its sep p [] = []
more_at raw its sep p (x ∷ xs) = raw (after p sep) x ∷ more_at raw its sep (after (after p sep) (its x)) xs

abbrev pub list_at : {A B : Type 0} → (ℕ → A → B) → (A → List Item) → List Item → ℕ → List A → List B
list_at raw its sep p [] = []
list_at raw its sep p (x ∷ xs) = raw p x ∷ more_at raw its sep (after p (its x)) xs

-- ---- parts
abbrev pub tree_at : Table → ℕ → Formula → RawTree
tree_at table p f = shown_tree table 0 p f

abbrev pub trees_at : Table → ℕ → List Formula → List RawTree
trees_at table p fs = list_at (tree_at table) (items table 0) comma p fs

abbrev pub raw_place : Place → RawPlace
raw_place (Goal path) = in_goal path.items
raw_place (InHyp i path) = in_hypothesis i path.items

abbrev pub type_text : Table → Option ValueType → WrittenType
type_text table None = written_integer
type_text table (Some t) = written_type table t

abbrev pub raw_name : Table → ℕ → ℕ → RawTyped
raw_name table p n = record { name = record { at = p; text = name_of_variable table n }; ty = type_text table (variable_type table n) }

abbrev pub names_at : Table → ℕ → List ℕ → List RawTyped
names_at table p ns = list_at (raw_name table) (name_items table) comma p ns

abbrev pub raw_multiple : ℤ × ℕ → RawMultiple
raw_multiple m = record { multiplier = m.0; fact = m.1 }

abbrev pub digits_of : ℤ → ℕ
digits_of (pos n) = n
digits_of (negsuc n) = 0

abbrev pub raw_line : Line → RawLine
raw_line (Sum ms) = multiples (map raw_multiple ms.items)
raw_line (Div fact by) = quotient fact (digits_of by)

-- a part, the blank before which stands at this byte
abbrev pub raw_part : Table → ℕ → Part → RulePart
raw_part table p (a_number n) = part_number n
raw_part table p (a_term f) = part_term (tree_at table (p + 1) f)
raw_part table p (some_terms fs) = part_terms (trees_at table (p + 1) fs)
raw_part table p (a_place place) = part_place (raw_place place)
raw_part table p no_place = part_no_place
raw_part table p (some_names ns) = part_typed (names_at table (p + 1) ns)
raw_part table p (a_law law fs) = part_law (law_name law) (trees_at table (p + 1 + length (law_name law) + 1) fs)
raw_part table p (a_certificate ks ls) = part_certificate ks (map raw_line ls)

abbrev pub raw_parts : Table → ℕ → Parts → List RulePart
raw_parts table p none = []
raw_parts table p (one x) = raw_part table p x ∷ []
raw_parts table p (two x y) = raw_part table p x ∷ raw_part table (after p (part_items table x)) y ∷ []

-- ---- rules
abbrev pub the_word : Option RuleWord → RuleWord
the_word None = HypWord
the_word (Some w) = w

abbrev pub raw_rule : Table → ℕ → Rule → RawRule
raw_rule table p r = record { word = the_word (word_of r); at = p; parts = raw_parts table (after p (word_items (word_of r))) (parts_of r) }

-- the line of a rule, without its end
abbrev pub line_of : Table → Rule → List Rule → List Item
line_of table r rs = blank ∷ blank ∷ (rule_items table r ++ semicolon_before rs)

abbrev pub rules_at : Table → ℕ → List Rule → List RawRule
rules_at table p [] = []
rules_at table p (r ∷ rs) = raw_rule table (p + 1 + 1) r ∷ rules_at table (after p (line_of table r rs) + 1) rs

-- ---- lines
-- the tokens of lines, each with its end
abbrev pub tokens_of_lines : ℕ → List (List Item) → List Token
tokens_of_lines p [] = []
tokens_of_lines p (l ∷ ls) = tokens_from p l ++ tokens_of_lines (after p l + 1) ls

-- a part of a name as one item
abbrev pub letters_kind : List ℕ → Option ℕ → TokenKind
letters_kind text None = Name text
letters_kind text (Some op) = Word op

abbrev pub part_item : NamePart → Item
part_item (Letters text) = lexeme (letters_kind text (word_number text)) text
part_item (Numeral n) = plain (Number (pos n))

abbrev pub dotted : List NamePart → List Item
dotted name = divided (sign DOT ∷ []) (map (λ x. part_item x ∷ []) name)

abbrev pub head_line : List NamePart → List Item
head_line name = plain (Name (codes "proof")) ∷ blank ∷ dotted name

abbrev pub last_line : List Item
last_line = plain (Name (codes "end")) ∷ []

-- all lines of a script, and others behind them
abbrev pub lines_of : Table → List NamePart → List Rule → List (List Item) → List (List Item)
lines_of table name rules tail = head_line name ∷ (rule_lines table rules ++ last_line ∷ tail)

-- the byte behind lines
abbrev pub past_lines : ℕ → List (List Item) → ℕ
past_lines p [] = p
past_lines p (l ∷ ls) = past_lines (after p l + 1) ls

-- the byte behind a script's lines
abbrev pub past_script : Table → ℕ → List NamePart → List Rule → ℕ
past_script table p name rules = after (past_lines (after p (head_line name) + 1) (rule_lines table rules)) last_line + 1

-- ---- the script
-- its first line begins at this byte
abbrev pub raw_script : Table → ℕ → List NamePart → List Rule → RawScript
raw_script table p name rules = record {
  at = p;
  name_at = after p (plain (Name (codes "proof")) ∷ blank ∷ []);
  name = name;
  rules = rules_at table (after p (head_line name) + 1) rules;
}

-- ---- files
-- the lines of scripts, one script after another
abbrev pub file_lines : Table → List PrintedScript → List (List Item)
file_lines table [] = []
file_lines table (s ∷ ss) = lines_of (with_new table s.new) s.name s.rules (file_lines table ss)

abbrev pub file_scripts : Table → ℕ → List PrintedScript → List RawScript
file_scripts table p [] = []
file_scripts table p (s ∷ ss) = raw_script (with_new table s.new) p s.name s.rules ∷ file_scripts table (past_script (with_new table s.new) p s.name s.rules) ss
