-- A clause closes what it opens, and no word of a component but its own first stands in it outside of brackets and blocks.
use Rattle.std.proofs.Common.{true, false, List, [], ◌∷◌, refl}
use Rattle.std.specs.Prelude.{nat_eq, ◌||◌}
use Rattle.bk_form.specs.declared.token.TokenKind.TheVariants.{Sign, Word}
use Rattle.bk_ops.specs.declared.sign.TheConstants.{EQUAL, SEMICOLON, OUTPUTS, OPEN_PAREN, CLOSE_PAREN, OPEN_BRACE, CLOSE_BRACE}
use Rattle.bk_ops.specs.declared.word.TheConstants.{THEN, ELSIF, ELSE, WHEN, OR_BRANCH, WHERE, BE, IN, DO, VARIANT}
use Rattle.bk_raw.specs.Grammar.Pieces.{JustSign, ◌⌢◌, Divided}
use Rattle.bk_raw.specs.Trees.RawTree.{RawTree}
use Rattle.bk_raw.specs.Grammar.Spelling.{Declared, Names, Term}
use Rattle.bk_raw.specs.declared.term.RawName.{RawName}
use Rattle.bk_raw.specs.Grammar.SubSpelling.{Sub}
use Rattle.bk_raw.specs.declared.component.ClauseWord.{ClauseWord}
use Rattle.bk_raw.specs.declared.component.ClauseWord.TheVariants.{Sets, Constants, ConcreteConstants, Properties, Variables, AbstractVariables, ConcreteVariables, Invariant, Assertions, Values, Initialisation, Operations, Imports}
use Rattle.bk_raw.specs.Trees.ComponentTree.{RawSet, RawOperation, ClauseParts, clause_sets, clause_names, clause_term, clause_terms, clause_values, clause_sub, clause_operations}
use Rattle.bk_raw.specs.declared.component.RawValue.{RawValue}
use Rattle.bk_raw.specs.Grammar.ComponentSpelling.{Elements, Set, Value, Outputs, Inputs, Operation, Parts}
use Rattle.bk_raw.proofs.Steps.{Piece, Stopper, nothing, Leads, leads-join, leads-just, leads-never, leads-in, Fewer, leads-fewer}
use Rattle.bk_raw.proofs.TermRuns.{begins_clause, ends_term, or-left, fewer-terms, term, flat-names, flat-declared}
use Rattle.bk_raw.proofs.SubParts.{ends_piece, fewer-piece, fewer-atom}
use Rattle.bk_raw.proofs.SubRuns.{ends_at, sub-leads}
use Rattle.bk_raw.proofs.Lists.{divided-leads, leads-absent}

-- what ends a clause, and what ends what stands between semicolons
abbrev pub ends_clause : Stopper
ends_clause b (Word op) = begins_clause op
ends_clause b _ = false

abbrev pub ends_division : Stopper
ends_division b (Word op) = begins_clause op
ends_division b (Sign op) = nat_eq op SEMICOLON
ends_division b _ = false

fewer-clause : Fewer ends_clause ends_division
fewer-clause b (Word op) h = h
fewer-clause b _ h = refl

fewer-division : Fewer ends_division ends_piece
fewer-division b (Word op) h = or-left (begins_clause op) (nat_eq op THEN || nat_eq op ELSIF || nat_eq op ELSE || nat_eq op WHEN || nat_eq op OR_BRANCH || nat_eq op WHERE || nat_eq op BE || nat_eq op IN || nat_eq op DO || nat_eq op VARIANT) h
fewer-division b (Sign op) h = h
fewer-division b _ h = refl

fewer-division-term : Fewer ends_division ends_term
fewer-division-term b kind h = fewer-division b kind (fewer-piece b kind (fewer-atom b kind (fewer-terms b kind h)))

fewer-clause-list : Fewer ends_clause (ends_at 0)
fewer-clause-list b (Word op) h = or-left (begins_clause op) (nat_eq op THEN || nat_eq op ELSIF || nat_eq op ELSE || nat_eq op WHEN || nat_eq op OR_BRANCH || nat_eq op WHERE || nat_eq op BE || nat_eq op IN || nat_eq op DO || nat_eq op VARIANT) h
fewer-clause-list b _ h = refl

-- ---- divisions
pub division-term : (t : RawTree) → Leads ends_division (0, false) (0, true) (Term t 0)
division-term t = leads-fewer ends_division ends_term (0, false) (0, true) (Term t 0) fewer-division-term (term t 0)

equal : Leads ends_division (0, true) (0, false) (JustSign EQUAL)
equal = leads-just ends_division 0 true (0, false) (Sign EQUAL) refl

name-of : (x : RawName) → Leads ends_division (0, false) (0, true) (Declared x)
name-of x = flat-declared ends_division (λ y. refl) x

inner-names : (xs : List RawName) → Leads nothing (0, false) (0, true) (Names xs)
inner-names xs = flat-names nothing (λ y. refl) refl xs

elements : (xs : List RawName) → Leads ends_division (0, true) (0, true) (Elements xs)
elements [] = leads-absent ends_division (0, true)
elements (x ∷ xs) =
    leads-join ends_division (0, true) (0, false) (0, true) (JustSign EQUAL) (JustSign OPEN_BRACE ⌢ Names (x ∷ xs) ⌢ JustSign CLOSE_BRACE) equal
    (leads-in ends_division false true (Sign OPEN_BRACE) (Sign CLOSE_BRACE) (Names (x ∷ xs)) refl refl (inner-names (x ∷ xs)))

pub set-leads : (s : RawSet) → Leads ends_division (0, false) (0, true) (Set s)
set-leads s = leads-join ends_division (0, false) (0, true) (0, true) (Declared s.name) (Elements s.elements) (name-of s.name) (elements s.elements)

pub value-leads : (v : RawValue) → Leads ends_division (0, false) (0, true) (Value v)
value-leads v =
    leads-join ends_division (0, false) (0, true) (0, true) (Declared v.name) (JustSign EQUAL ⌢ Term v.value 0) (name-of v.name)
    (leads-join ends_division (0, true) (0, false) (0, true) (JustSign EQUAL) (Term v.value 0) equal (division-term v.value))

outputs : (xs : List RawName) → Leads ends_division (0, false) (0, false) (Outputs xs)
outputs [] = leads-absent ends_division (0, false)
outputs (x ∷ xs) =
    leads-join ends_division (0, false) (0, true) (0, false) (Names (x ∷ xs)) (JustSign OUTPUTS) (flat-names ends_division (λ y. refl) refl (x ∷ xs))
    (leads-just ends_division 0 true (0, false) (Sign OUTPUTS) refl)

inputs : (xs : List RawName) → Leads ends_division (0, true) (0, true) (Inputs xs)
inputs [] = leads-absent ends_division (0, true)
inputs (x ∷ xs) = leads-in ends_division true true (Sign OPEN_PAREN) (Sign CLOSE_PAREN) (Names (x ∷ xs)) refl refl (inner-names (x ∷ xs))

pub operation-leads : (o : RawOperation) → Leads ends_division (0, false) (0, true) (Operation o)
operation-leads o =
    leads-join ends_division (0, false) (0, false) (0, true) (Outputs o.outputs) (Declared o.name ⌢ Inputs o.inputs ⌢ JustSign EQUAL ⌢ Sub false o.body 1) (outputs o.outputs)
    (leads-join ends_division (0, false) (0, true) (0, true) (Declared o.name) (Inputs o.inputs ⌢ JustSign EQUAL ⌢ Sub false o.body 1) (name-of o.name)
    (leads-join ends_division (0, true) (0, true) (0, true) (Inputs o.inputs) (JustSign EQUAL ⌢ Sub false o.body 1) (inputs o.inputs)
    (leads-join ends_division (0, true) (0, false) (0, true) (JustSign EQUAL) (Sub false o.body 1) equal
    (leads-fewer ends_division ends_piece (0, false) (0, true) (Sub false o.body 1) fewer-division (sub-leads false o.body 1)))))

-- ---- clauses
abbrev Ends : Piece → Type 0
Ends A = Leads ends_clause (0, false) (0, true) A

many : {A : Type 0} (W : A → Piece) → ((x : A) → Leads ends_division (0, false) (0, true) (W x)) → (xs : List A) → Ends (Divided SEMICOLON W xs)
many W f xs = divided-leads SEMICOLON W ends_clause (λ x. leads-fewer ends_clause ends_division (0, false) (0, true) (W x) fewer-clause (f x)) refl xs

names-end : (xs : List RawName) → Ends (Names xs)
names-end xs = flat-names ends_clause (λ y. refl) refl xs

term-ends : (t : RawTree) → Ends (Term t 0)
term-ends t = leads-fewer ends_clause ends_division (0, false) (0, true) (Term t 0) fewer-clause (division-term t)

pub parts-lead : (w : ClauseWord) (p : ClauseParts) → Leads ends_clause (0, false) (0, true) (Parts w p)
parts-lead Sets (clause_sets ss) = many Set set-leads ss
parts-lead Constants (clause_names xs) = names-end xs
parts-lead ConcreteConstants (clause_names xs) = names-end xs
parts-lead Properties (clause_term t) = term-ends t
parts-lead Variables (clause_names xs) = names-end xs
parts-lead AbstractVariables (clause_names xs) = names-end xs
parts-lead ConcreteVariables (clause_names xs) = names-end xs
parts-lead Invariant (clause_term t) = term-ends t
parts-lead Assertions (clause_terms ts) = many (λ t. Term t 0) division-term ts
parts-lead Values (clause_values vs) = many Value value-leads vs
parts-lead Initialisation (clause_sub s) = leads-fewer ends_clause (ends_at 0) (0, false) (0, true) (Sub false s 0) fewer-clause-list (sub-leads false s 0)
parts-lead Operations (clause_operations os) = many Operation operation-leads os
parts-lead Imports (clause_names xs) = names-end xs
parts-lead _ _ = leads-never ends_clause (0, false) (0, true)
