-- What tokens a component is written as: its words, its signs and its parts' tokens in order.
-- Source: B Language Reference Manual.
use Rattle.std.specs.Prelude.{◌≡◌, ◌≢◌, true, false, List, [], ◌∷◌, Option, None, Some, All, map}
use Rattle.bk_form.specs.declared.token.Token.{Token}
use Rattle.bk_form.specs.declared.token.TokenKind.TheVariants.{Word}
use Rattle.bk_ops.specs.declared.sign.TheConstants.{EQUAL, SEMICOLON, OUTPUTS, OPEN_PAREN, CLOSE_PAREN, OPEN_BRACE, CLOSE_BRACE}
use Rattle.bk_ops.specs.declared.word.TheConstants.{REFINES, END}
use Rattle.bk_raw.specs.Grammar.Pieces.{Never, Absent, JustAt, JustSign, JustWord, ◌⌢◌, Divided, InRow}
use Rattle.bk_raw.specs.Grammar.Spelling.{Declared, Names, Term}
use Rattle.bk_raw.specs.declared.term.RawName.{RawName}
use Rattle.bk_raw.specs.Grammar.SubSpelling.{Sub}
use Rattle.bk_raw.specs.Trees.Additions.{HasNoAddition, SubHasNoAddition}
use Rattle.bk_raw.specs.Trees.Numbers.{Differ}
use Rattle.bk_raw.specs.declared.component.ComponentKind.{ComponentKind}
use Rattle.bk_raw.specs.declared.component.ComponentKind.TheVariants.{Machine}
use Rattle.bk_raw.specs.declared.component.ClauseWord.{ClauseWord}
use Rattle.bk_raw.specs.declared.component.ClauseWord.TheVariants.{Sets, Constants, ConcreteConstants, Properties, Variables}
use Rattle.bk_raw.specs.declared.component.ClauseWord.TheVariants.{AbstractVariables, ConcreteVariables, Invariant}
use Rattle.bk_raw.specs.declared.component.ClauseWord.TheVariants.{Assertions, Values, Initialisation, Operations, Imports}
use Rattle.bk_raw.specs.Trees.ComponentTree.{RawSet, RawOperation, ClauseParts, clause_sets, clause_names, clause_term}
use Rattle.bk_raw.specs.Trees.ComponentTree.{clause_terms, clause_values, clause_sub, clause_operations, RawClause}
use Rattle.bk_raw.specs.Trees.ComponentTree.{RawComponent, kind_number, word_number, clause_number, is_allowed}
use Rattle.bk_raw.specs.declared.component.RawValue.{RawValue}

-- ---- parts of clauses
-- = { a, b } after a set's name, or nothing
abbrev pub Elements : List RawName → List Token → Type 0
Elements [] = Absent
Elements (x ∷ xs) = JustSign EQUAL ⌢ JustSign OPEN_BRACE ⌢ Names (x ∷ xs) ⌢ JustSign CLOSE_BRACE

-- NAME = { a, b }, or NAME alone
abbrev pub Set : RawSet → List Token → Type 0
Set s = Declared s.name ⌢ Elements s.elements

-- name = term
abbrev pub Value : RawValue → List Token → Type 0
Value v = Declared v.name ⌢ JustSign EQUAL ⌢ Term v.value 0

-- outs <--, or nothing where there are none
abbrev pub Outputs : List RawName → List Token → Type 0
Outputs [] = Absent
Outputs (x ∷ xs) = Names (x ∷ xs) ⌢ JustSign OUTPUTS

-- (ins), or nothing where there are none
abbrev pub Inputs : List RawName → List Token → Type 0
Inputs [] = Absent
Inputs (x ∷ xs) = JustSign OPEN_PAREN ⌢ Names (x ∷ xs) ⌢ JustSign CLOSE_PAREN

-- outs <-- name(ins) = body, where no semicolon joins substitutions outside of the body's blocks. No component calls
-- operations yet
abbrev pub Operation : RawOperation → List Token → Type 0
Operation o = Outputs o.outputs ⌢ Declared o.name ⌢ Inputs o.inputs ⌢ JustSign EQUAL ⌢ Sub false o.body 1

-- ---- clauses
-- what stands after the word of a clause
abbrev pub Parts : ClauseWord → ClauseParts → List Token → Type 0
Parts Sets (clause_sets ss) = Divided SEMICOLON Set ss
Parts Constants (clause_names xs) = Names xs
Parts ConcreteConstants (clause_names xs) = Names xs
Parts Properties (clause_term t) = Term t 0
Parts Variables (clause_names xs) = Names xs
Parts AbstractVariables (clause_names xs) = Names xs
Parts ConcreteVariables (clause_names xs) = Names xs
Parts Invariant (clause_term t) = Term t 0
Parts Assertions (clause_terms ts) = Divided SEMICOLON (λ t. Term t 0) ts
Parts Values (clause_values vs) = Divided SEMICOLON Value vs
Parts Initialisation (clause_sub s) = Sub false s 0
Parts Operations (clause_operations os) = Divided SEMICOLON Operation os
Parts Imports (clause_names xs) = Names xs
Parts _ _ = Never

-- a clause: its word, and what stands after it
abbrev pub Clause : RawClause → List Token → Type 0
Clause c = JustAt c.at (Word (word_number c.word)) ⌢ Parts c.word c.parts

-- ---- components
-- REFINES and a name, below a machine
abbrev pub Refined : ComponentKind → Option RawName → List Token → Type 0
Refined Machine None = Absent
Refined Machine (Some x) = Never
Refined kind None = Never
Refined kind (Some x) = JustWord REFINES ⌢ Declared x

-- the header: the word of the kind, the component's name, and what it refines
abbrev pub Header : RawComponent → List Token → Type 0
Header c = JustAt c.at (Word (kind_number c.kind)) ⌢ Declared c.name ⌢ Refined c.kind c.refines

-- the set has elements
abbrev pub HasElements : RawSet → Type 0
HasElements s = s.elements ≢ []

-- none of the additions of printed formulas stands in the clause, nor a sign or word of sequences, which are not read yet,
-- and no set is a name alone, since there are no deferred sets yet
abbrev pub ArePlain : ClauseParts → Type 0
ArePlain (clause_sets ss) = All HasElements ss
ArePlain (clause_names xs) = Unit {0}
ArePlain (clause_term t) = HasNoAddition t
ArePlain (clause_terms ts) = All HasNoAddition ts
ArePlain (clause_values vs) = All (λ v. HasNoAddition v.value) vs
ArePlain (clause_sub s) = SubHasNoAddition s
ArePlain (clause_operations os) = All (λ o. SubHasNoAddition o.body) os

-- each clause is one that a component of the kind has, all are plain, and no clause stands twice; their order is free
pub record AreClausesOf (kind : ComponentKind) (clauses : List RawClause) : Type 0 where
  pub allowed : All (λ c. is_allowed kind c.word ≡ true) clauses
  pub plain : All (λ c. ArePlain c.parts) clauses
  pub once : Differ (map (λ c. clause_number c.word) clauses)

-- the tokens are those of the component but for its END: the header, and the clauses one after another
pub record OpensComponent (c : RawComponent) (tokens : List Token) : Type 0 where
  pub written : (Header c ⌢ InRow Clause c.clauses) tokens
  pub made : AreClausesOf c.kind c.clauses

-- the tokens are those of the component
pub record SpellsComponent (c : RawComponent) (tokens : List Token) : Type 0 where
  pub written : ((Header c ⌢ InRow Clause c.clauses) ⌢ JustWord END) tokens
  pub made : AreClausesOf c.kind c.clauses
