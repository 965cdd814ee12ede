-- What stands after the word of a clause, on the way to being built.
use Rattle.std.specs.Prelude.{◌≡◌, ◌<◌, ◌≤◌, List, All, Option, Result, IfOk, MatchOption}
use denote.Ref.{Bor}
use Rattle.bk_limits.specs.declared.TheConstants.{GREATEST_TREE_HEIGHT}
use Rattle.bk_form.specs.declared.token.Token.{Token}
use Rattle.bk_raw.specs.Trees.ComponentTree.{ClauseParts, clause_sets, clause_values, clause_operations, parts_height, RawOperation}
use Rattle.bk_raw.specs.Codes.ComponentView.{parts_of}
use Rattle.bk_raw.specs.Grammar.ComponentSpelling.{Parts, HasElements}
use Rattle.bk_raw.specs.declared.component.ClauseWord.{ClauseWord}
use Rattle.bk_raw.specs.declared.component.RawValue.{RawValue}
use Rattle.bk_p_expr.specs.Fronts.{Longest, Nothing}
use Rattle.bk_p_comp.specs.declared.parts.Behind.{Behind}
use Rattle.bk_p_comp.specs.declared.parts.Behind.TheVariants.{Built, High}
use Rattle.bk_p_comp.specs.declared.entries.ValueEntries.{ValueEntries}
use Rattle.bk_p_comp.specs.declared.entries.ValueEntries.TheVariants.{Built as BuiltValues, High as HighValues}
use Rattle.bk_p_comp.specs.declared.entries.OperationEntries.{OperationEntries}
use Rattle.bk_p_comp.specs.declared.entries.OperationEntries.TheVariants.{Built as BuiltOperations, High as HighOperations}

-- each set has elements
abbrev pub IsComplete : ClauseParts → Type 0
IsComplete (clause_sets ss) = All HasElements ss
IsComplete _ = Unit {0}

-- what may stand after this word
abbrev pub Standing : ClauseWord → ClauseParts → List Token → Type 0
Standing word parts tokens = Parts word parts tokens × IsComplete parts

-- these parts are kept, or that one of their terms or substitutions is more than GREATEST_TREE_HEIGHT high
abbrev pub AreKept : ClauseParts → Behind → Type 0
AreKept parts (Built kept) = (parts_of kept ≡ parts) × (parts_height parts ≤ GREATEST_TREE_HEIGHT)
AreKept parts High = GREATEST_TREE_HEIGHT < parts_height parts

-- the same of entries of VALUES
abbrev pub AreValues : List RawValue → ValueEntries → Type 0
AreValues vs (BuiltValues all) = (all.items ≡ vs) × (parts_height (clause_values vs) ≤ GREATEST_TREE_HEIGHT)
AreValues vs HighValues = GREATEST_TREE_HEIGHT < parts_height (clause_values vs)

-- and of operations
abbrev pub AreOperations : List RawOperation → OperationEntries → Type 0
AreOperations os (BuiltOperations all) = (all.items ≡ os) × (parts_height (clause_operations os) ≤ GREATEST_TREE_HEIGHT)
AreOperations os HighOperations = GREATEST_TREE_HEIGHT < parts_height (clause_operations os)

-- the answer is the longest that may stand after the word in front of the tokens, or that none is
abbrev pub ReadsParts : {E : Type 0} → ClauseWord → List Token → Result (Option (Behind × Bor (List Token))) E → Type 0
ReadsParts word tokens result = IfOk result (λ r.
    MatchOption r (Nothing (Standing word) tokens) (λ p. (x : ClauseParts) × Longest (Standing word) tokens x p.1.now × AreKept x p.0))
