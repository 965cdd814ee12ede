-- Heights of substitutions on the way to being built.
use Rattle.std.specs.Prelude.{◌≡◌, ℕ, ◌+◌, ◌<◌, ◌≤◌, max, Bool, true, false, List, [], ◌∷◌, ◌++◌, Option, Some, None, refl}
use Rattle.std.proofs.Common.{Box, Vec, Global, arith, sym, ◌∙◌, subst}
use Rattle.bk_limits.specs.declared.TheConstants.{GREATEST_TREE_HEIGHT}
use Rattle.bk_raw.specs.Trees.RawTree.{RawTree, RawTrees, tree_height, trees_height}
use Rattle.bk_raw.specs.Trees.SubTree.{SubTree, sub, SubNode, sub_if, sub_select, sub_height, sub_node_height, Branches, no_branches, else_branch, branch_and, branches_height, Choices, no_choices, choice_and, choices_height}
use Rattle.bk_raw.specs.Codes.SubView.{branches_of, choices_of, sub_node_of}
use Rattle.bk_raw.specs.declared.substitution.RawBranch.{RawBranch}
use Rattle.bk_raw.specs.declared.substitution.RawSubNode.TheVariants.{If as RawIf, Select as RawSelect}
use Rattle.bk_raw.specs.Trees.FreeNames.{conjuncts}
use Rattle.bk_p_expr.specs.Conjuncts.{AreConjuncts}
use Rattle.bk_p_expr.specs.declared.free.Conjunct.{Conjunct}
use Rattle.bk_p_expr.specs.Pieces.{IsTerms}
use Rattle.bk_p_sub.specs.declared.term.Term.{Term}
use Rattle.bk_p_sub.specs.declared.term.Term.TheVariants.{Built as BuiltTerm, High as HighTerm}
use Rattle.bk_p_expr.specs.declared.piece.Terms.{Terms}
use Rattle.bk_p_expr.specs.declared.piece.Terms.TheVariants.{Built as BuiltTerms, High as HighTerms}
use Rattle.bk_p_sub.specs.Statements.{IsStatement, IsTerm, IsAround, IsBranches, IsChoices, followed_by, chosen_then, head_node, joint_node, tested_node}
use Rattle.bk_p_sub.specs.declared.statement.Statement.{Statement}
use Rattle.bk_p_sub.specs.declared.statement.Statement.TheVariants.{High}
use Rattle.bk_p_sub.specs.declared.statement.Around.{Around}
use Rattle.bk_p_sub.specs.declared.statement.Around.TheVariants.{Begin, Var, Under}
use Rattle.bk_p_sub.specs.declared.statement.Head.{Head}
use Rattle.bk_p_sub.specs.declared.statement.Head.TheVariants.{Pre, Assert, Any, Let}
use Rattle.bk_p_sub.specs.declared.statement.Joint.{Joint}
use Rattle.bk_p_sub.specs.declared.statement.Joint.TheVariants.{Parallel, Sequence}
use Rattle.bk_p_sub.specs.declared.statement.Test.{Test}
use Rattle.bk_p_sub.specs.declared.statement.Test.TheVariants.{If, Select}
use Rattle.bk_p_sub.specs.declared.branches.Branches.{Branches as BuiltOnes}
use Rattle.bk_p_sub.specs.declared.branches.Branches.TheVariants.{Built as BuiltBranches, High as HighBranches}
use Rattle.bk_p_sub.specs.declared.branches.Choices.{Choices as BuiltOthers}
use Rattle.bk_p_sub.specs.declared.branches.Choices.TheVariants.{High as HighChoices}

true_false : true ≡ false → ⊥
true_false e = cc

-- ---- what is too high stays so
pub high_statement : (self : Statement) (s : SubTree) → self ≡ High → IsStatement s self → GREATEST_TREE_HEIGHT < sub_height s
high_statement self s e h = subst (λ t. IsStatement s t) e h

-- whether a term is built, and whether terms are
abbrev pub is_built : Term → Bool
is_built (BuiltTerm term height) = true
is_built (HighTerm known) = false

abbrev pub are_built : Terms → Bool
are_built (BuiltTerms terms height) = true
are_built (HighTerms free) = false

pub high_term : (self : Term) (p : RawTree) → is_built self ≡ false → IsTerm p self → GREATEST_TREE_HEIGHT < tree_height p
high_term (BuiltTerm term height) p n h = absurd (true_false n)
high_term (HighTerm known) p n h = h.0

-- what is known of a term that is not built
abbrev pub known_of : Term → List Conjunct
known_of (BuiltTerm term height) = []
known_of (HighTerm known) = known.items

pub high_known : (p : RawTree) (self : Term) → is_built self ≡ false → IsTerm p self → AreConjuncts (conjuncts p) (known_of self)
high_known p (BuiltTerm term height) n h = absurd (true_false n)
high_known p (HighTerm known) n h = h.1

pub high_terms : (self : Terms) (us : RawTrees) → are_built self ≡ false → IsTerms us self → GREATEST_TREE_HEIGHT < trees_height us
high_terms (BuiltTerms terms height) us n h = absurd (true_false n)
high_terms (HighTerms free) us n h = h.0

pub high_branches : (self : BuiltOnes) (bs : Branches) → self ≡ HighBranches → IsBranches bs self → GREATEST_TREE_HEIGHT < branches_height bs
high_branches self bs e h = subst (λ b. IsBranches bs b) e h

pub high_choices : (self : BuiltOthers) (cs : Choices) → self ≡ HighChoices → IsChoices cs self → GREATEST_TREE_HEIGHT < choices_height cs
high_choices self cs e h = subst (λ c. IsChoices cs c) e h

-- ---- nodes
pub head_height : (head : Head) (p : RawTree) (s : SubTree) → sub_node_height (head_node head p s) ≡ max (tree_height p) (sub_height s) + 1
head_height Pre p s = refl
head_height Assert p s = refl
head_height (Any xs) p s = refl
head_height (Let xs) p s = refl

pub joint_height : (joint : Joint) (s t : SubTree) → sub_node_height (joint_node joint s t) ≡ max (sub_height s) (sub_height t) + 1
joint_height Parallel s t = refl
joint_height Sequence s t = refl

pub tested_height : (test : Test) (p : RawTree) (s : SubTree) (bs : Branches) → sub_node_height (tested_node test p s bs) ≡ max (max (tree_height p) (sub_height s)) (branches_height bs) + 1
tested_height If p s bs = refl
tested_height Select p s bs = refl

-- ---- blocks
-- a block is higher than the substitution in it
around_higher : (block : Around) (form : SubTree → SubNode) (s : SubTree) → IsAround form block → sub_height s ≤ sub_node_height (form s)
around_higher Begin form s e = subst (λ f. sub_height s ≤ sub_node_height (f s)) (sym e) (omega arith)
around_higher (Var xs) form s e = subst (λ f. sub_height s ≤ sub_node_height (f s)) (sym e) (omega arith)
around_higher (Under head test) form s w = subst (λ f. sub_height s ≤ sub_node_height (f s)) (sym w.1) (omega (arith, head_height head w.0 s))

pub around_too_high : (at : ℕ) (block : Around) (form : SubTree → SubNode) (self : Statement) (s : SubTree) → self ≡ High → IsStatement s self → IsAround form block → GREATEST_TREE_HEIGHT < sub_height (sub at (form s))
around_too_high at block form self s e h w =
    let k : GREATEST_TREE_HEIGHT < sub_height s = high_statement self s e h in
    let l : sub_height s ≤ sub_node_height (form s) = around_higher block form s w in
    let m : GREATEST_TREE_HEIGHT < sub_node_height (form s) = omega (arith, k, l) in
    m

-- and than its predicate
pub under_too_high : (at : ℕ) (head : Head) (form : SubTree → SubNode) (test : Term) (p : RawTree) (s : SubTree) → is_built test ≡ false → form ≡ head_node head p → IsTerm p test → GREATEST_TREE_HEIGHT < sub_height (sub at (form s))
under_too_high at head form test p s e f h =
    let k : GREATEST_TREE_HEIGHT < tree_height p = high_term test p e h in
    subst (λ g. GREATEST_TREE_HEIGHT < sub_node_height (g s)) (sym f) (omega (arith, k, head_height head p s))

-- what is built is the block, where it is one around that substitution
pub built_around : (at : ℕ) (other : SubTree → SubNode) (form : SubTree → SubNode) (b s : SubTree) (height : ℕ) (new : Statement) → form ≡ other → b ≡ s → sub_node_height (other s) ≡ height + 1 → ((t : SubTree) → sub at (other b) ≡ t → sub_height t ≡ height + 1 → IsStatement t new) → IsStatement (sub at (form s)) new
built_around at other form b s height new e k h made = made (sub at (form s)) (λ i. sub at (sym e i (k i))) ((λ i. sub_node_height (e i s)) ∙ h)

-- ---- branches, one list behind another
pub followed_at_least : (bs cs : Branches) → branches_height bs ≤ branches_height (followed_by bs cs)
followed_at_least no_branches cs = omega arith
followed_at_least (else_branch s) cs = omega arith
followed_at_least (branch_and p s bs) cs = let h : branches_height bs ≤ branches_height (followed_by bs cs) = followed_at_least bs cs in omega (arith, h)

open_height : (all : List RawBranch) (cs : Branches) → branches_height (followed_by (branches_of all no_branches) cs) ≡ max (branches_height (branches_of all no_branches)) (branches_height cs)
open_height [] cs = omega arith
open_height (b ∷ bs) cs = let h : branches_height (followed_by (branches_of bs no_branches) cs) ≡ max (branches_height (branches_of bs no_branches)) (branches_height cs) = open_height bs cs in omega (arith, h)

-- where the first ones are these, with no ELSE
pub followed_height : (all : List RawBranch) (bs cs : Branches) → branches_of all no_branches ≡ bs → branches_height (followed_by bs cs) ≡ max (branches_height bs) (branches_height cs)
followed_height all bs cs e = subst (λ b. branches_height (followed_by b cs) ≡ max (branches_height b) (branches_height cs)) e (open_height all cs)

pub branches_too_high : (self : BuiltOnes) (bs cs : Branches) → self ≡ HighBranches → IsBranches bs self → GREATEST_TREE_HEIGHT < branches_height (followed_by bs cs)
branches_too_high self bs cs e h =
    let k : GREATEST_TREE_HEIGHT < branches_height bs = high_branches self bs e h in
    omega (arith, k, followed_at_least bs cs)

pub branches_with_high : (all : List RawBranch) (bs cs : Branches) → branches_of all no_branches ≡ bs → GREATEST_TREE_HEIGHT < branches_height cs → GREATEST_TREE_HEIGHT < branches_height (followed_by bs cs)
branches_with_high all bs cs e l = omega (arith, l, followed_height all bs cs e)

pub branches_of_last : (all : List RawBranch) (b : RawBranch) → branches_of (all ++ b ∷ []) no_branches ≡ followed_by (branches_of all no_branches) (branch_and b.condition b.body no_branches)
branches_of_last [] b = refl
branches_of_last (a ∷ all) b = λ i. branch_and a.condition a.body (branches_of_last all b i)

pub branches_of_else : (all : List RawBranch) (s : SubTree) → branches_of all (else_branch s) ≡ followed_by (branches_of all no_branches) (else_branch s)
branches_of_else [] s = refl
branches_of_else (a ∷ all) s = λ i. branch_and a.condition a.body (branches_of_else all s i)

-- the height that is kept is that of the branches: the branches are built with a last one or none
abbrev pub kept_height : BuiltOnes → ℕ
kept_height (BuiltBranches all last h) = h
kept_height HighBranches = 0

abbrev pub is_high : BuiltOnes → Bool
is_high (BuiltBranches all last h) = false
is_high HighBranches = true

pub is_high_enough : (bs : Branches) (self : BuiltOnes) (height : ℕ) → kept_height self ≡ height → is_high self ≡ false → IsBranches bs self → height ≡ branches_height bs
is_high_enough bs (BuiltBranches all None h) height e n b = sym e ∙ b.1
is_high_enough bs (BuiltBranches all (Some last) h) height e n b = sym e ∙ b.1
is_high_enough bs HighBranches height e n b = absurd (true_false n)

-- ---- choices, one list behind another
pub chosen_height : (cs ds : Choices) → choices_height (chosen_then cs ds) ≡ max (choices_height cs) (choices_height ds)
chosen_height no_choices ds = omega arith
chosen_height (choice_and s cs) ds = let h : choices_height (chosen_then cs ds) ≡ max (choices_height cs) (choices_height ds) = chosen_height cs ds in omega (arith, h)

pub choices_too_high : (self : BuiltOthers) (cs ds : Choices) → self ≡ HighChoices → IsChoices cs self → GREATEST_TREE_HEIGHT < choices_height (chosen_then cs ds)
choices_too_high self cs ds e h =
    let k : GREATEST_TREE_HEIGHT < choices_height cs = high_choices self cs e h in
    omega (arith, k, chosen_height cs ds)

pub choices_of_last : (all : List SubTree) (s : SubTree) → choices_of (all ++ s ∷ []) ≡ chosen_then (choices_of all) (choice_and s no_choices)
choices_of_last [] s = refl
choices_of_last (t ∷ all) s = λ i. choice_and t (choices_of_last all s i)

-- ---- the nodes of tests
pub if_node : (p : RawTree) (body : Box SubTree Global) (all : Vec RawBranch Global) (last : Option (Box SubTree Global)) (bs : Branches) (height : ℕ) → IsBranches bs (BuiltBranches all last height) → sub_node_of (RawIf p body all last) ≡ sub_if p body.value bs
if_node p body all None bs height h = λ i. sub_if p body.value (h.0 i)
if_node p body all (Some last) bs height h = λ i. sub_if p body.value (h.0 i)

pub select_node : (p : RawTree) (body : Box SubTree Global) (all : Vec RawBranch Global) (last : Option (Box SubTree Global)) (bs : Branches) (height : ℕ) → IsBranches bs (BuiltBranches all last height) → sub_node_of (RawSelect p body all last) ≡ sub_select p body.value bs
select_node p body all None bs height h = λ i. sub_select p body.value (h.0 i)
select_node p body all (Some last) bs height h = λ i. sub_select p body.value (h.0 i)
