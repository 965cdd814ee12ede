-- What is asked of rules, and of what is in scope of their script, so that their text reads back as these rules.
use Rattle.std.specs.Prelude.{◌≡◌, ◌≢◌, ◌<◌, ◌^◌, ℕ, suc, ℤ, pos, false, IsTrue, List, [], ◌∷◌, ◌++◌, map, length, codes}
use Rattle.std.specs.Prelude.{Option, Some, None}
use Rattle.std.specs.List.{flat_map, list_all}
use Rattle.std.specs.Str.{IsUtf8}
use Rattle.bk_val.specs.ValueType.{ValueType}
use Rattle.bk_form.specs.Each.{Each}
use Rattle.bk_form.specs.Table.{Table, VariableEntry, variable_type}
use Rattle.bk_form.specs.Formula.{Formula, variable}
use Rattle.bk_form.specs.Role.{role, untyped}
use Rattle.bk_lex.specs.Lexis.{IsIdentifier, stays_in_line}
use Rattle.bk_lin.specs.declared.fact.Line.{Line}
use Rattle.bk_lin.specs.declared.fact.Line.TheVariants.{Sum, Div}
use Rattle.bk_raw.specs.declared.script.NamePart.{NamePart}
use Rattle.bk_raw.specs.declared.script.NamePart.TheVariants.{Letters, Numeral}
use Rattle.bk_raw.specs.declared.script.RuleWord.{RuleWord}
use Rattle.bk_raw.specs.Meaning.Names.{Names, seen, found}
use Rattle.bk_raw.specs.Meaning.ScopeReading.{ScopeNames, names_in}
use Rattle.bk_kernel.specs.declared.rule.Place.{Place}
use Rattle.bk_kernel.specs.declared.rule.Place.TheVariants.{Goal, Hyp as InHyp}
use Rattle.bk_kernel.specs.declared.rule.Rule.{Rule}
use Rattle.bk_dev.specs.Development.{Development, int_max}
use Rattle.bk_scripts.specs.LawNames.{law_number}
use Rattle.bk_scripts.specs.Sight.{level_of, operation_of, no_variable, outer_scope, parameter_scope}
use Rattle.bk_scripts.specs.Brought.{is_in_scope}
use Rattle.bk_auto.specs.Found.{numbers_from}
use Rattle.bk_show.specs.Shown.{name_of_variable}
use Rattle.bk_show.specs.Binders.{Binds}
use Rattle.bk_show.specs.Readable.{IsPlainName, IsSmall, SetsAreNamed, IsReadable}
use Rattle.bk_show.specs.Stands.{Stands, TypeStands}
use Rattle.bk_print.specs.Written.{Part, a_number, a_term, some_terms, a_place, no_place, some_names, a_law, a_certificate}
use Rattle.bk_print.specs.Written.{Parts, none, one, two, word_of, parts_of}
use Rattle.bk_print.specs.Text.{law_name}

-- ---- lists
-- there is one at least
abbrev pub HasSome : {A : Type 0} → List A → Type 0
HasSome [] = ⊥
HasSome (x ∷ xs) = Unit {0}

-- ---- parts
-- a number of a hypothesis, a child or a fact
abbrev pub IsNumber : ℕ → Type 0
IsNumber n = n < 2 ^ 32

-- a formula that types, whose binders bind something, whose names and numbers can be written, and each text in which names what it
-- stands for
pub record ReadsIn (table : Table) (names : Names) (f : Formula) : Type 0 where
  pub typed : role table [] f ≢ untyped
  pub binds : Binds f
  pub readable : IsReadable table 0 f
  pub stands : Stands table names f

-- a variable with a plain name that names it, and with a type whose sets have plain names that name them
pub record NameReads (table : Table) (names : Names) (n : ℕ) : Type 0 where
  pub of_type : ValueType
  pub has_type : variable_type table n ≡ Some of_type
  pub plain : IsPlainName (name_of_variable table n)
  pub sets : SetsAreNamed table of_type
  pub named : found 0 names (name_of_variable table n) ≡ seen (variable n) of_type
  pub stands : TypeStands table names of_type

-- a place by such numbers
abbrev pub PlaceReads : Place → Type 0
PlaceReads (Goal path) = Each IsNumber path.items
PlaceReads (InHyp i path) = IsNumber i × Each IsNumber path.items

-- a multiplier and a fact's number
abbrev pub MultipleReads : ℤ × ℕ → Type 0
MultipleReads m = IsSmall m.0 × IsNumber m.1

-- one multiple or more, or a fact and what it is divided by, a number of the notation
abbrev pub LineReads : Line → Type 0
LineReads (Sum ms) = HasSome ms.items × Each MultipleReads ms.items
LineReads (Div fact by) = IsNumber fact × ((g : ℕ) × (by ≡ pos g) × (g < 2 ^ 127))

-- lists of terms, of names and of lines have one at least; the name of a law is that of the law
abbrev pub PartReads : Table → Names → Part → Type 0
PartReads table names (a_number n) = IsNumber n
PartReads table names (a_term f) = ReadsIn table names f
PartReads table names (some_terms fs) = HasSome fs × Each (ReadsIn table names) fs
PartReads table names (a_place p) = PlaceReads p
PartReads table names no_place = Unit {0}
PartReads table names (some_names ns) = HasSome ns × Each (NameReads table names) ns
PartReads table names (a_law law fs) = (law_number (law_name law) ≡ Some law) × Each (ReadsIn table names) fs
PartReads table names (a_certificate ks ls) = Each IsNumber ks × HasSome ls × Each LineReads ls

abbrev pub PartsRead : Table → Names → Parts → Type 0
PartsRead table names none = Unit {0}
PartsRead table names (one p) = PartReads table names p
PartsRead table names (two p q) = PartReads table names p × PartReads table names q

-- ---- rules
-- any but one that was not read
abbrev pub HasWord : Option RuleWord → Type 0
HasWord None = ⊥
HasWord (Some w) = Unit {0}

abbrev pub RuleReads : Table → Names → Rule → Type 0
RuleReads table names r = HasWord (word_of r) × PartsRead table names (parts_of r)

-- the variables that a part brings
abbrev pub names_of_part : Part → List ℕ
names_of_part (some_names ns) = ns
names_of_part _ = []

abbrev pub names_of_parts : Parts → List ℕ
names_of_parts none = []
names_of_parts (one p) = names_of_part p
names_of_parts (two p q) = names_of_part p ++ names_of_part q

-- those that rules bring, in order
abbrev pub names_brought : List Rule → List ℕ
names_brought rules = flat_map (λ r. names_of_parts (parts_of r)) rules

-- ---- new variables, and what is in scope
-- a table with new variables after its own
abbrev pub with_new : Table → List VariableEntry → Table
with_new table new = record table { variables = table.variables ++ new }

-- the texts of new variables with their numbers, from this one on
abbrev pub numbered : ℕ → List VariableEntry → List (List ℕ × ℕ)
numbered n [] = []
numbered n (v ∷ vs) = (v.text, n) ∷ numbered (suc n) vs

-- no two have one text
abbrev pub AreApart : List VariableEntry → Type 0
AreApart [] = Unit {0}
AreApart (v ∷ vs) = Each (λ w. w.text ≢ v.text) vs × AreApart vs

-- what a script with this name has in scope of its component, and of its operation
abbrev pub outside : Development → List NamePart → List (List ℕ × ℕ)
outside dev name = outer_scope dev.table dev (level_of dev name)

abbrev pub parameters : Development → List NamePart → List (List ℕ × ℕ)
parameters dev name = parameter_scope dev.table dev (level_of dev name) (operation_of dev name)

-- all names in scope of a script that brings these variables
abbrev pub scope_with : Development → List NamePart → List VariableEntry → ScopeNames
scope_with dev name new =
    record { max = int_max dev; names = outside dev name ++ (parameters dev name ++ numbered (length dev.table.variables) new) }

abbrev pub names_with : Development → List NamePart → List VariableEntry → Names
names_with dev name new = names_in (with_new dev.table new) (scope_with dev name new)

-- and those in which the types of these are read, where their own names mean nothing
abbrev pub names_of_types : Development → List NamePart → List VariableEntry → Names
names_of_types dev name new = names_in dev.table
    (record { max = int_max dev; names = outside dev name ++ (parameters dev name ++ map (λ v. (v.text, no_variable)) new) })

-- ---- scripts
-- a part of a script's name
abbrev pub NamePartReads : NamePart → Type 0
NamePartReads (Letters text) = IsIdentifier text
NamePartReads (Numeral n) = n < 2 ^ 127

-- rules of a script with this name, which bring these new variables, each once and in order
pub record ScriptReads (dev : Development) (name : List NamePart) (rules : List Rule) (new : List VariableEntry) : Type 0 where
  pub some_part : HasSome name
  pub parts : Each NamePartReads name
  pub room : length (with_new dev.table new).variables < 2 ^ 32
  pub rules_read : Each (RuleReads (with_new dev.table new) (names_with dev name new)) rules
  pub brought : names_brought rules ≡ numbers_from (length dev.table.variables) (length new)
  pub apart : AreApart new
  pub no_parameters : Each (λ v. is_in_scope (parameters dev name) v.text ≡ false) new
  pub types : Each (λ v. TypeStands dev.table (names_of_types dev name new) v.of_type) new

-- ---- several scripts
-- a script: its name, its rules, and the new variables that they bring
pub record PrintedScript : Type 0 where
  pub name : List NamePart
  pub rules : List Rule
  pub new : List VariableEntry

-- a comment up to the end of its line
abbrev pub IsCommentLine : List ℕ → Type 0
IsCommentLine text = (body : List ℕ) × (text ≡ codes "//" ++ body ++ codes "\n") × IsTrue (list_all stays_in_line body) × IsUtf8 body
