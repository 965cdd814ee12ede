-- The text of a script of proof: a line with its name, a line for each of its rules, and a line for its end. The form of the text is this
-- project's own; formulas and types stand in it as they are printed elsewhere.
use Rattle.std.specs.Prelude.{ℕ, ◌%◌, ℤ, pos, cond, nat_lt, List, [], ◌∷◌, ◌++◌, map, codes, decimal, Option, Some, None}
use Rattle.bk_val.specs.ValueType.{ValueType}
use Rattle.bk_form.specs.Table.{Table, variable_type}
use Rattle.bk_form.specs.Formula.{Formula}
use Rattle.bk_form.specs.declared.token.TokenKind.TheVariants.{Name, Number}
use Rattle.bk_ops.specs.declared.sign.TheConstants.{COMMA, MEMBER, TIMES, PLUS, DIVIDE, BAR, SEMICOLON}
use Rattle.bk_lin.specs.declared.fact.Line.{Line}
use Rattle.bk_lin.specs.declared.fact.Line.TheVariants.{Sum, Div}
use Rattle.bk_raw.specs.declared.script.RuleWord.{RuleWord}
use Rattle.bk_raw.specs.Trees.ScriptTree.{rule_kind}
use Rattle.bk_kernel.specs.declared.rule.Place.{Place}
use Rattle.bk_kernel.specs.declared.rule.Place.TheVariants.{Goal, Hyp as InHyp}
use Rattle.bk_kernel.specs.declared.rule.Rule.{Rule}
use Rattle.bk_show.specs.Items.{Item, blank, plain, sign, text_of}
use Rattle.bk_show.specs.Shown.{name_of_variable, enclosed, type_items, literal_items, items}
use Rattle.bk_print.specs.Written.{Part, a_number, a_term, some_terms, a_place, no_place, some_names, a_law, a_certificate}
use Rattle.bk_print.specs.Written.{Parts, none, one, two, word_of, parts_of}

-- ---- lists
-- each of these after that
abbrev pub behind_each : List Item → List (List Item) → List Item
behind_each between [] = []
behind_each between (x ∷ xs) = between ++ (x ++ behind_each between xs)

-- these with that between
abbrev pub divided : List Item → List (List Item) → List Item
divided between [] = []
divided between (x ∷ xs) = x ++ behind_each between xs

-- a comma and a blank
abbrev pub comma : List Item
comma = sign COMMA ∷ blank ∷ []

-- a sign with a blank on each side
abbrev pub spaced : ℕ → List Item
spaced op = blank ∷ sign op ∷ blank ∷ []

-- ---- parts
abbrev pub number_items : ℕ → List Item
number_items n = plain (Number (pos n)) ∷ []

-- numbers, each after a blank
abbrev pub numbers_behind : List ℕ → List Item
numbers_behind ns = behind_each (blank ∷ []) (map number_items ns)

-- `goal` or `hyp i`, and the numbers of the children on the way down
abbrev pub place_items : Place → List Item
place_items (Goal path) = plain (Name (codes "goal")) ∷ numbers_behind path.items
place_items (InHyp i path) = plain (Name (codes "hyp")) ∷ blank ∷ plain (Number (pos i)) ∷ numbers_behind path.items

-- `x, y`
abbrev pub terms_items : Table → List Formula → List Item
terms_items table fs = divided comma (map (items table 0) fs)

-- the type of a variable, where the table has it
abbrev pub some_type_items : Table → Option ValueType → List Item
some_type_items table None = []
some_type_items table (Some t) = type_items table t

-- `u : INTEGER`
abbrev pub name_items : Table → ℕ → List Item
name_items table n =
    plain (Name (name_of_variable table n)) ∷ blank ∷ sign MEMBER ∷ blank ∷ some_type_items table (variable_type table n)

-- the letter of a law: those of logic, of order and counting, of sets, of relations and functions have a hundred numbers each
abbrev pub series_letter : ℕ → ℕ
series_letter law = cond (nat_lt law 100) 71 (cond (nat_lt law 200) 79 (cond (nat_lt law 300) 83 77))

-- `O5`
abbrev pub law_name : ℕ → List ℕ
law_name law = series_letter law ∷ decimal (law % 100)

-- the terms that a law takes, in parentheses where there are some
abbrev pub picks_items : Table → List Formula → List Item
picks_items table [] = []
picks_items table (f ∷ fs) = enclosed (terms_items table (f ∷ fs))

-- `O5(n$0 + k, 0, 10)`
abbrev pub law_items : Table → ℕ → List Formula → List Item
law_items table law fs = plain (Name (law_name law)) ∷ picks_items table fs

-- `3 * 1`: a multiplier and the number of a fact
abbrev pub multiple_items : ℤ × ℕ → List Item
multiple_items m = literal_items m.0 ++ (spaced TIMES ++ number_items m.1)

-- `3 * 1 + 1 * 2`, or `4 / 2`: a fact's number and what it is divided by
abbrev pub line_items : Line → List Item
line_items (Sum ms) = divided (spaced PLUS) (map multiple_items ms.items)
line_items (Div fact by) = number_items fact ++ (spaced DIVIDE ++ literal_items by)

-- `1, 2 ` before the colon, where there are hypotheses
abbrev pub facts_items : List ℕ → List Item
facts_items [] = []
facts_items (k ∷ ks) = divided comma (map number_items (k ∷ ks)) ++ blank ∷ []

-- `1, 2 : 3 * 1 + 1 * 2 | 4 / 2`
abbrev pub certificate_items : List ℕ → List Line → List Item
certificate_items facts lines = facts_items facts ++ (sign MEMBER ∷ blank ∷ divided (spaced BAR) (map line_items lines))

-- a part with a blank before it; no place is nothing
abbrev pub part_items : Table → Part → List Item
part_items table (a_number n) = blank ∷ number_items n
part_items table (a_term f) = blank ∷ items table 0 f
part_items table (some_terms fs) = blank ∷ terms_items table fs
part_items table (a_place p) = blank ∷ place_items p
part_items table no_place = []
part_items table (some_names ns) = blank ∷ divided comma (map (name_items table) ns)
part_items table (a_law law fs) = blank ∷ law_items table law fs
part_items table (a_certificate facts lines) = blank ∷ certificate_items facts lines

-- ---- rules
abbrev pub parts_items : Table → Parts → List Item
parts_items table none = []
parts_items table (one p) = part_items table p
parts_items table (two p q) = part_items table p ++ part_items table q

-- the word of a rule, where it has one
abbrev pub word_items : Option RuleWord → List Item
word_items None = []
word_items (Some w) = plain (rule_kind w) ∷ []

-- `law O5(n$0 + k, 0, 10) goal`
abbrev pub rule_items : Table → Rule → List Item
rule_items table r = word_items (word_of r) ++ parts_items table (parts_of r)

-- ---- lines
-- a semicolon after all rules but the last
abbrev pub semicolon_before : List Rule → List Item
semicolon_before [] = []
semicolon_before (r ∷ rs) = blank ∷ sign SEMICOLON ∷ []

-- a line for each rule, after two blanks
abbrev pub rule_lines : Table → List Rule → List (List Item)
rule_lines table [] = []
rule_lines table (r ∷ rs) = (blank ∷ blank ∷ (rule_items table r ++ semicolon_before rs)) ∷ rule_lines table rs

-- lines one after another, each with its end
abbrev pub lines_text : List (List Item) → List ℕ
lines_text [] = []
lines_text (l ∷ ls) = text_of l ++ (codes "\n" ++ lines_text ls)

-- the text of a script for the obligation with this name
abbrev pub script_text : Table → (name : List ℕ) → List Rule → List ℕ
script_text table name rules = codes "proof " ++ name ++ codes "\n" ++ lines_text (rule_lines table rules) ++ codes "end\n"
