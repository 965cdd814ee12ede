-- Components as pairs and lists, by which a proof tells them apart.
use Rattle.std.specs.Prelude.{◌≡◌, ℕ, zero, suc, List, [], ◌∷◌, Option, Some, None, refl}
use Rattle.std.proofs.Common.{get_or}
use Rattle.std.specs.Coded.{Coded, code_by, coded×, coded_ℕ, coded_list}
use Rattle.bk_raw.specs.Trees.RawTree.{RawTree}
use Rattle.bk_raw.specs.Codes.RawCodes.{coded_name, coded_tree}
use Rattle.bk_raw.specs.Trees.SubTree.{SubTree}
use Rattle.bk_raw.specs.Codes.SubCodes.{coded_sub}
use Rattle.bk_raw.specs.Trees.ComponentTree.{RawSet, RawOperation, ClauseParts, clause_sets, clause_names, clause_term}
use Rattle.bk_raw.specs.Trees.ComponentTree.{clause_terms, clause_values, clause_sub, clause_operations, RawClause, RawComponent}
use Rattle.bk_raw.specs.declared.term.RawName.{RawName}
use Rattle.bk_raw.specs.declared.component.ComponentKind.{ComponentKind}
use Rattle.bk_raw.specs.declared.component.ComponentKind.TheVariants.{Machine, Refinement, Implementation}
use Rattle.bk_raw.specs.declared.component.ClauseWord.{ClauseWord}
use Rattle.bk_raw.specs.declared.component.ClauseWord.TheVariants.{Sets, Constants, ConcreteConstants, Properties, Variables}
use Rattle.bk_raw.specs.declared.component.ClauseWord.TheVariants.{AbstractVariables, ConcreteVariables, Invariant}
use Rattle.bk_raw.specs.declared.component.ClauseWord.TheVariants.{Assertions, Values, Initialisation, Operations, Imports}
use Rattle.bk_raw.specs.declared.component.RawValue.{RawValue}

-- ---- words
-- the kinds of components
abbrev pub component_kinds : List ComponentKind
component_kinds = Machine ∷ Refinement ∷ Implementation ∷ []

-- the place of a kind among them
abbrev pub kind_code : ComponentKind → ℕ
kind_code Machine = 0
kind_code Refinement = 1
kind_code Implementation = 2

-- a kind is told by it
pub kind_back-code : (k : ComponentKind) → get_or component_kinds (kind_code k) Machine ≡ k
kind_back-code Machine = refl
kind_back-code Refinement = refl
kind_back-code Implementation = refl

-- kinds are told apart by their places
abbrev pub coded_kind : Coded ComponentKind
coded_kind = code_by ℕ coded_ℕ kind_code (λ n. get_or component_kinds n Machine) kind_back-code

-- the words of clauses
abbrev pub clause_words : List ClauseWord
clause_words = Sets ∷ Constants ∷ ConcreteConstants ∷ Properties ∷ Variables ∷ AbstractVariables ∷
    ConcreteVariables ∷ Invariant ∷ Assertions ∷ Values ∷ Initialisation ∷ Operations ∷ Imports ∷ []

-- the place of a word among them
abbrev pub word_code : ClauseWord → ℕ
word_code Sets = 0
word_code Constants = 1
word_code ConcreteConstants = 2
word_code Properties = 3
word_code Variables = 4
word_code AbstractVariables = 5
word_code ConcreteVariables = 6
word_code Invariant = 7
word_code Assertions = 8
word_code Values = 9
word_code Initialisation = 10
word_code Operations = 11
word_code Imports = 12

-- a word is told by it
pub word_back-code : (w : ClauseWord) → get_or clause_words (word_code w) Sets ≡ w
word_back-code Sets = refl
word_back-code Constants = refl
word_back-code ConcreteConstants = refl
word_back-code Properties = refl
word_back-code Variables = refl
word_back-code AbstractVariables = refl
word_back-code ConcreteVariables = refl
word_back-code Invariant = refl
word_back-code Assertions = refl
word_back-code Values = refl
word_back-code Initialisation = refl
word_back-code Operations = refl
word_back-code Imports = refl

-- words of clauses are told apart by their places
abbrev pub coded_word : Coded ClauseWord
coded_word = code_by ℕ coded_ℕ word_code (λ n. get_or clause_words n Sets) word_back-code

-- ---- parts
-- a set by its name and its elements
abbrev pub coded_set : Coded RawSet
coded_set = code_by (RawName × List RawName) (coded× coded_name (coded_list coded_name))
    (λ s. (s.name, s.elements)) (λ p. record { name = p.0; elements = p.1 }) (λ _. refl)

-- an entry of VALUES by its name and its term
abbrev pub coded_value : Coded RawValue
coded_value = code_by (RawName × RawTree) (coded× coded_name coded_tree)
    (λ v. (v.name, v.value)) (λ p. record { name = p.0; value = p.1 }) (λ _. refl)

-- an operation by its outputs, its name, its inputs and its body
abbrev pub coded_operation : Coded RawOperation
coded_operation = code_by (List RawName × (RawName × (List RawName × SubTree)))
    (coded× (coded_list coded_name) (coded× coded_name (coded× (coded_list coded_name) coded_sub))) (λ o.
    (o.outputs, (o.name, (o.inputs, o.body)))) (λ p. record { outputs = p.0; name = p.1.0; inputs = p.1.1.0; body = p.1.1.1 }) (λ _. refl)

-- which parts they are, and their lists, of which one counts
abbrev Lists : Type 0
Lists = ℕ × (List RawSet × (List RawName × (List RawTree × (List RawValue × (List SubTree × List RawOperation)))))

-- the lists of what stands after a clause's word
abbrev parts_lists : ClauseParts → Lists
parts_lists (clause_sets ss) = (0, (ss, ([], ([], ([], ([], []))))))
parts_lists (clause_names xs) = (1, ([], (xs, ([], ([], ([], []))))))
parts_lists (clause_term t) = (2, ([], ([], (t ∷ [], ([], ([], []))))))
parts_lists (clause_terms ts) = (3, ([], ([], (ts, ([], ([], []))))))
parts_lists (clause_values vs) = (4, ([], ([], ([], (vs, ([], []))))))
parts_lists (clause_sub s) = (5, ([], ([], ([], ([], (s ∷ [], []))))))
parts_lists (clause_operations os) = (6, ([], ([], ([], ([], ([], os))))))

-- what these lists are of
abbrev parts_back : Lists → ClauseParts
parts_back (zero, (ss, _)) = clause_sets ss
parts_back (suc zero, (_, (xs, _))) = clause_names xs
parts_back (suc (suc zero), (_, (_, (t ∷ _, _)))) = clause_term t
parts_back (suc (suc (suc zero)), (_, (_, (ts, _)))) = clause_terms ts
parts_back (suc (suc (suc (suc zero))), (_, (_, (_, (vs, _))))) = clause_values vs
parts_back (suc (suc (suc (suc (suc zero)))), (_, (_, (_, (_, (s ∷ _, _)))))) = clause_sub s
parts_back (suc (suc (suc (suc (suc (suc n))))), (_, (_, (_, (_, (_, os)))))) = clause_operations os
parts_back _ = clause_names []

-- the lists of parts give the parts back
pub parts_back-lists : (p : ClauseParts) → parts_back (parts_lists p) ≡ p
parts_back-lists (clause_sets ss) = refl
parts_back-lists (clause_names xs) = refl
parts_back-lists (clause_term t) = refl
parts_back-lists (clause_terms ts) = refl
parts_back-lists (clause_values vs) = refl
parts_back-lists (clause_sub s) = refl
parts_back-lists (clause_operations os) = refl

-- what stands after words is told apart by its lists
abbrev coded_parts : Coded ClauseParts
coded_parts = code_by Lists (coded× coded_ℕ (coded× (coded_list coded_set) (coded× (coded_list coded_name)
    (coded× (coded_list coded_tree) (coded× (coded_list coded_value) (coded× (coded_list coded_sub) (coded_list coded_operation)))))))
    parts_lists parts_back parts_back-lists

-- ---- clauses and components
-- a clause by its word, its byte and its parts
abbrev pub coded_clause : Coded RawClause
coded_clause = code_by (ClauseWord × (ℕ × ClauseParts)) (coded× coded_word (coded× coded_ℕ coded_parts))
    (λ c. (c.word, (c.at, c.parts))) (λ p. record { word = p.0; at = p.1.0; parts = p.1.1 }) (λ _. refl)

-- no name, or one, as a list
abbrev names_of : Option RawName → List RawName
names_of None = []
names_of (Some x) = x ∷ []

-- the first name of a list
abbrev name_of : List RawName → Option RawName
name_of [] = None
name_of (x ∷ xs) = Some x

-- a name or none is told by the list
abbrev coded_some : Coded (Option RawName)
coded_some = code_by (List RawName) (coded_list coded_name) names_of name_of (elim [ None ↦ refl | Some x ↦ refl ])

-- a component by its byte, its kind, its names and its clauses
abbrev pub coded_component : Coded RawComponent
coded_component = code_by (ℕ × (ComponentKind × (RawName × (Option RawName × List RawClause)))) (coded× coded_ℕ (coded× coded_kind
    (coded× coded_name (coded× coded_some (coded_list coded_clause))))) (λ c. (c.at, (c.kind, (c.name, (c.refines, c.clauses)))))
    (λ p. record { at = p.0; kind = p.1.0; name = p.1.1.0; refines = p.1.1.1.0; clauses = p.1.1.1.1 }) (λ _. refl)
