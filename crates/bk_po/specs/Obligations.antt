-- The proof obligations of a development (B-Book, Theory of Abstract Machines and Refinement).
use Rattle.std.specs.Prelude.{ℕ, zero, suc, not, cond, List, [], ◌∷◌, ◌++◌, map, take, length, codes, decimal, slice_index_or}
use Rattle.std.specs.List.{filter, flat_map}
use Rattle.bk_form.specs.Formula.{Formula, binary, btrue}
use Rattle.bk_form.specs.Replacement.{replaced, looked_up}
use Rattle.bk_form.specs.declared.operator.BinOp.TheVariants.{And, Imp}
use Rattle.bk_form.specs.Table.{Table}
use Rattle.bk_dev.specs.Development.{Level, Development, level_at, body_at, is_implementation, is_btrue, whole}
use Rattle.bk_form.specs.Each.{Each}
use Rattle.bk_dev.specs.Flattened.{flattened}
use Rattle.bk_dev.specs.Hypotheses.{size_equations, properties_hypotheses, invariant_hypotheses}
use Rattle.bk_dev.specs.Hypotheses.{assertion_hypotheses, init_hypotheses, body_hypotheses, operation_hypotheses}
use Rattle.bk_form.specs.Predicates.{equation}
use Rattle.bk_dev.specs.Claims.{arrays_at, beside}
use Rattle.bk_gsl.specs.Substitution.{Substitution}
use Rattle.bk_wd.specs.Joining.{both, where_true}
use Rattle.bk_wd.specs.WellDefined.{defined}
use Rattle.bk_wp.specs.Box.{box, diamond}
use Rattle.bk_wp.specs.Guarded.{guarded}
use Rattle.bk_seq.specs.Sequents.{Sequent, IsValidSequent, IsValidForAllSizes, split}
use Rattle.bk_po.specs.declared.clause.Clause.{Clause}
use Rattle.bk_po.specs.declared.clause.Clause.TheVariants.{PropertiesDefined, ValuesMeet, InvariantDefined, AssertionsDefined}
use Rattle.bk_po.specs.declared.clause.Clause.TheVariants.{AssertionsHold, Initialisation, InitialisationDefined, Operation}
use Rattle.bk_po.specs.declared.clause.Clause.TheVariants.{OperationDefined}

-- what is to be shown, before it is taken apart
pub record Obligation : Type 0 where
  pub name : List ℕ
  pub hypotheses : List Formula
  pub goal : Formula

-- ---- goals
-- p & q & r .., joined to the left
abbrev pub joined_onto : Formula → List Formula → Formula
joined_onto p [] = p
joined_onto p (q ∷ qs) = joined_onto (binary And p q) qs

-- their conjunction, joined to the left, and btrue of none
abbrev pub joined_all : List Formula → Formula
joined_all [] = btrue
joined_all (p ∷ ps) = joined_onto p ps

-- their conjunction, joined to the left, without btrue; btrue where nothing is left
abbrev pub conjunction : List Formula → Formula
conjunction ps = joined_all (filter (λ p. not (is_btrue p)) ps)

-- the first, and each other where those before it are true: A & (A => (B & (B => C)))
abbrev pub each_after : List Formula → Formula
each_after [] = btrue
each_after (p ∷ []) = p
each_after (p ∷ q ∷ qs) = binary And p (binary Imp p (each_after (q ∷ qs)))

-- that each of these formulas is defined where those before it are true: WD(A) & (A => (WD(B) & (B => WD(C))))
abbrev pub defined_in_turn : Table → List Formula → Formula
defined_in_turn table [] = btrue
defined_in_turn table (p ∷ ps) = both (defined table [] p) (where_true p (defined_in_turn table ps))

-- that what a substitution of level k meets is defined or, in an implementation, that what it executes fits the machine
abbrev pub evaluation_goal : Development → ℕ → Substitution → Formula
evaluation_goal dev k s = guarded dev.table (arrays_at dev k) s

-- all properties of the levels down to k, with the constants' values for the constants
abbrev pub values_goal : Development → ℕ → Formula
values_goal dev k = replaced (looked_up dev.values) (conjunction (map (λ l. l.properties) (take (suc k) dev.levels)))

-- the invariant of a level, its links, and the equality of the outputs with those above
abbrev pub joined_goal : Level → List ℕ → List ℕ → Formula
joined_goal l outputs above =
    conjunction (l.invariant ∷ conjunction (map equation l.links) ∷ conjunction (map equation (beside outputs above)) ∷ [])

-- the same by the number of the level
abbrev pub joining_goal : Development → ℕ → List ℕ → List ℕ → Formula
joining_goal dev k outputs above = joined_goal (level_at dev k) outputs above

-- the machine's initialisation meets its invariant; each other is answered by the one above
abbrev pub init_goal : Development → ℕ → Formula
init_goal dev zero = box dev.table (level_at dev zero).init (level_at dev zero).invariant
init_goal dev (suc j) = box dev.table (level_at dev (suc j)).init (diamond dev.table (level_at dev j).init (joining_goal dev (suc j) [] []))

-- the machine's body, without its outermost precondition, keeps the invariant; below it each whole body is answered by the body above,
-- which is taken without its outermost precondition
abbrev pub operation_goal : Development → ℕ → ℕ → Formula
operation_goal dev zero o = box dev.table (body_at dev zero o).sub (level_at dev zero).invariant
operation_goal dev (suc j) o = box dev.table (whole (body_at dev (suc j) o))
    (diamond dev.table (body_at dev j o).sub (joining_goal dev (suc j) (body_at dev (suc j) o).outputs (body_at dev j o).outputs))

-- ---- the list
-- 0 to n - 1
abbrev pub numbers_below : ℕ → List ℕ
numbers_below zero = []
numbers_below (suc n) = numbers_below n ++ n ∷ []

-- what is asked of a component, in this order: VALUES at an implementation alone, and operations in the machine's order
abbrev pub clauses_of : Development → ℕ → List Clause
clauses_of dev k =
    PropertiesDefined ∷ [] ++ cond (is_implementation (level_at dev k)) (ValuesMeet ∷ []) [] ++
    InvariantDefined ∷ AssertionsDefined ∷ AssertionsHold ∷ Initialisation ∷ InitialisationDefined ∷ [] ++
    map Operation (numbers_below (length dev.heads)) ++ map OperationDefined (numbers_below (length dev.heads))

-- the name of operation o
abbrev pub head_name : Development → ℕ → List ℕ
head_name dev o = (slice_index_or dev.heads o (record { name = []; inputs = []; outputs = 0 })).name

-- the definedness of what is met is named .wd, and that what is executed fits .chk
abbrev pub suffix : Level → List ℕ
suffix l = cond (is_implementation l) (codes ".chk") (codes ".wd")

-- what stands in the name after the component
abbrev pub clause_name : Development → ℕ → Clause → List ℕ
clause_name dev k PropertiesDefined = codes "PROPERTIES.wd"
clause_name dev k ValuesMeet = codes "VALUES"
clause_name dev k InvariantDefined = codes "INVARIANT.wd"
clause_name dev k AssertionsDefined = codes "ASSERTIONS.wd"
clause_name dev k AssertionsHold = codes "ASSERTIONS"
clause_name dev k Initialisation = codes "INITIALISATION"
clause_name dev k InitialisationDefined = codes "INITIALISATION" ++ suffix (level_at dev k)
clause_name dev k (Operation o) = head_name dev o
clause_name dev k (OperationDefined o) = head_name dev o ++ suffix (level_at dev k)

-- under what it is to be shown
abbrev pub hypotheses_of : Development → ℕ → Clause → List Formula
hypotheses_of dev k PropertiesDefined = properties_hypotheses dev k
hypotheses_of dev k ValuesMeet = size_equations dev
hypotheses_of dev k InvariantDefined = invariant_hypotheses dev k
hypotheses_of dev k AssertionsDefined = assertion_hypotheses dev k
hypotheses_of dev k AssertionsHold = assertion_hypotheses dev k
hypotheses_of dev k Initialisation = init_hypotheses dev k
hypotheses_of dev k InitialisationDefined = init_hypotheses dev k
hypotheses_of dev k (Operation o) = operation_hypotheses dev k o
hypotheses_of dev k (OperationDefined o) = body_hypotheses dev k o

-- and what is to be shown
abbrev pub goal_of : Development → ℕ → Clause → Formula
goal_of dev k PropertiesDefined = defined dev.table [] (level_at dev k).properties
goal_of dev k ValuesMeet = values_goal dev k
goal_of dev k InvariantDefined = defined dev.table [] (level_at dev k).invariant
goal_of dev k AssertionsDefined = defined_in_turn dev.table (level_at dev k).assertions
goal_of dev k AssertionsHold = each_after (level_at dev k).assertions
goal_of dev k Initialisation = init_goal dev k
goal_of dev k InitialisationDefined = evaluation_goal dev k (level_at dev k).init
goal_of dev k (Operation o) = operation_goal dev k o
goal_of dev k (OperationDefined o) = evaluation_goal dev k (whole (body_at dev k o))

-- an obligation of these three parts
abbrev pub obligation : List ℕ → List Formula → Formula → Obligation
obligation name hypotheses goal = record { name = name; hypotheses = hypotheses; goal = goal }

-- the obligation of a clause at level k, named Component.clause
abbrev pub obligation_of : Development → ℕ → Clause → Obligation
obligation_of dev k clause =
    obligation ((level_at dev k).name ++ codes "." ++ clause_name dev k clause) (hypotheses_of dev k clause) (goal_of dev k clause)

-- of one level
abbrev pub level_obligations : Development → ℕ → List Obligation
level_obligations dev k = map (obligation_of dev k) (clauses_of dev k)

-- of a development whose substitutions are flat: by levels and clauses
abbrev pub flat_obligations : Development → List Obligation
flat_obligations dev = flat_map (level_obligations dev) (numbers_below (length dev.levels))

-- of every development
abbrev pub obligations : Development → List Obligation
obligations dev = flat_obligations (flattened dev)

-- name.k, name.k+1 and so on
abbrev pub numbered_from : ℕ → List ℕ → List Sequent → List (List ℕ × Sequent)
numbered_from k name [] = []
numbered_from k name (s ∷ ss) = (name ++ codes "." ++ decimal k, s) ∷ numbered_from (suc k) name ss

-- the sequents of obligations, those of each numbered from 1
abbrev pub numbered_sequents : List Obligation → List (List ℕ × Sequent)
numbered_sequents os = flat_map (λ o. numbered_from 1 o.name (split o.hypotheses o.goal)) os

-- the sequents of each name, numbered from 1
abbrev pub numbered_obligations : Development → List (List ℕ × Sequent)
numbered_obligations dev = numbered_sequents (obligations dev)

-- each is valid, of sets with sizes
abbrev pub AreValid : Table → List (List ℕ × Sequent) → Type 0
AreValid table ss = Each (λ s. IsValidSequent table s.1) ss

-- each is valid whatever sizes those sets have that have none yet
abbrev pub AreValidForAllSizes : Table → List (List ℕ × Sequent) → Type 0
AreValidForAllSizes table ss = Each (λ s. IsValidForAllSizes table s.1) ss

-- all sequents of the development are valid, over the table with all copies
abbrev pub HasValidObligations : Development → Type 0
HasValidObligations dev = AreValidForAllSizes (flattened dev).table (numbered_obligations dev)
