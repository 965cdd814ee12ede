-- The mathematical parts of a clause that its raw parts stand for.
use Rattle.bk_raw.specs.Trees.ComponentTree.{ClauseParts as WrittenParts, clause_sets, clause_names, clause_term}
use Rattle.bk_raw.specs.Trees.ComponentTree.{clause_terms, clause_values, clause_sub, clause_operations}
use Rattle.bk_raw.specs.declared.component.ClauseParts.{ClauseParts}
use Rattle.bk_raw.specs.declared.component.ClauseParts.TheVariants.{Sets, Names, Term, Terms, Values, Substitution, Operations}

-- what stands after the word of a clause
abbrev pub parts_of : ClauseParts → WrittenParts
parts_of (Sets ss) = clause_sets ss.items
parts_of (Names xs) = clause_names xs.items
parts_of (Term t) = clause_term t
parts_of (Terms ts) = clause_terms ts.items
parts_of (Values vs) = clause_values vs.items
parts_of (Substitution s) = clause_sub s
parts_of (Operations os) = clause_operations os.items
