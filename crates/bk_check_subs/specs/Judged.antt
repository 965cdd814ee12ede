-- The faults of a substitution, under what it is judged by.
use Rattle.std.specs.Prelude.{ℕ, zero, suc, ◌+◌, List, [], ◌∷◌, ◌++◌, length, Option, None, Some}
use Rattle.bk_val.specs.ValueType.{ValueType}
use Rattle.bk_form.specs.Role.{bind}
use Rattle.bk_raw.specs.declared.term.RawName.{RawName}
use Rattle.bk_raw.specs.Trees.RawTree.{RawTree, RawTrees, no_trees, tree_and}
use Rattle.bk_raw.specs.Trees.SubTree.{SubTree, SubNode, sub_assign_at, sub_member, sub_such, sub_while, sub_parallel, Branches, Choices}
use Rattle.bk_raw.specs.Meaning.Names.{Names}
use Rattle.bk_raw.specs.Meaning.Binders.{twice}
use Rattle.bk_raw.specs.Errors.Faults.{Fault, wrong_write}
use Rattle.bk_elab_terms.specs.Visible.{typing_of, visible_names}
use Rattle.bk_statics.specs.Typings.{Typing, numbered, target, type_at}
use Rattle.bk_statics.specs.SubFaults.{predicate_faults, term_faults, declared_faults, writable_within}
use Rattle.bk_statics.specs.SubFaults.{sub_faults, node_faults, branches_faults, choices_faults}
use Rattle.bk_check_subs.specs.Written.{writable_by}
use Rattle.bk_check_subs.specs.declared.judging.Judge.{Judge}

-- the types that it goes by
abbrev pub typing_by : Judge → Typing
typing_by j = typing_of j.typing.types.now

-- the names in scope
abbrev pub names_by : Judge → Names
names_by j = visible_names j.names.now

-- the faults of a substitution
abbrev pub faults_by : Judge → SubTree → List Fault
faults_by j s = sub_faults j.typing.max (typing_by j) (visible_names j.above.now) (names_by j) (writable_by j.writable.now) j.first s

-- those by its form
abbrev pub node_by : Judge → SubNode → List Fault
node_by j node = node_faults j.typing.max (typing_by j) (visible_names j.above.now) (names_by j) (writable_by j.writable.now) j.first node

-- those of further branches
abbrev pub branches_by : Judge → Branches → List Fault
branches_by j bs =
    branches_faults j.typing.max (typing_by j) (visible_names j.above.now) (names_by j) (writable_by j.writable.now) j.first bs

-- those of further choices
abbrev pub choices_by : Judge → Choices → List Fault
choices_by j cs = choices_faults j.typing.max (typing_by j) (visible_names j.above.now) (names_by j) (writable_by j.writable.now) j.first cs

-- those of a predicate, if there is one, under names
abbrev pub stated_by : Judge → Names → Option RawTree → List Fault
stated_by j names None = []
stated_by j names (Some p) = predicate_faults j.typing.max (typing_by j) names p

-- those of a predicate, if there is one
abbrev pub condition_by : Judge → Option RawTree → List Fault
condition_by j p = stated_by j (names_by j) p

-- those of ANY and LET, where there is a predicate, or else of VAR
abbrev pub binder_by : Judge → List RawName → Option RawTree → SubTree → List Fault
binder_by j xs p s =
    twice [] xs
    ++ (declared_faults (typing_by j) j.first xs
    ++ (stated_by j (bind (numbered j.first xs) (names_by j)) p
    ++ sub_faults j.typing.max (typing_by j) (visible_names j.above.now) (bind (numbered j.first xs) (names_by j))
    (writable_within j.first (length xs) (writable_by j.writable.now)) (j.first + length xs) s))

-- those of a loop
abbrev pub loop_by : Judge → RawTree → SubTree → RawTree → RawTree → List Fault
loop_by j p s i v = node_by j (sub_while p s i v)

-- those of ||
abbrev pub parallel_by : Judge → SubTree → SubTree → List Fault
parallel_by j s t = node_by j (sub_parallel s t)

-- those of a term that takes a type, or that is a value of any where the place has none
abbrev pub term_by : Judge → Option ValueType → RawTree → List Fault
term_by j t e = term_faults j.typing.max (typing_by j) (names_by j) t e

-- those of written names with their terms; where a term is missing the first name is at fault
abbrev pub paired_by : Judge → ℕ → List RawName → RawTrees → List Fault
paired_by j first [] es = []
paired_by j first (x ∷ xs) (tree_and e es) =
    term_faults j.typing.max (typing_by j) (names_by j) (type_at (typing_by j) (target (names_by j) x.text)) e ++ paired_by j first xs es
paired_by j first (x ∷ xs) no_trees = wrong_write first ∷ []

-- those of the terms after the first so many, for which there is no name
abbrev pub unpaired_by : Judge → ℕ → ℕ → RawTrees → List Fault
unpaired_by j first n no_trees = []
unpaired_by j first zero (tree_and e es) =
    wrong_write first ∷ (term_faults j.typing.max (typing_by j) (names_by j) None e ++ unpaired_by j first zero es)
unpaired_by j first (suc n) (tree_and e es) = unpaired_by j first n es

-- those of f(e) := v
abbrev pub element_by : Judge → RawName → RawTree → RawTree → List Fault
element_by j f e v = node_by j (sub_assign_at f e v)

-- those of x :: E
abbrev pub member_by : Judge → RawName → RawTree → List Fault
member_by j x e = node_by j (sub_member x e)

-- those of x :(P)
abbrev pub such_by : Judge → List RawName → RawTree → List Fault
such_by j xs p = node_by j (sub_such xs p)
