use Rattle.std.proofs.Common.{◌≡◌, ◌+◌, ◌*◌, drop}
use Rattle.bk_raw.specs.Trees.RawTree.{tree_size, trees_size, trees_of}
use Rattle.bk_raw.specs.Errors.Blame.{blame, earlier}
use Rattle.bk_elab_terms.specs.Shown.{told}
use Rattle.bk_statics.specs.Executable.{all_expression_faults}
use Rattle.bk_check_b0.specs.Executed.{meant_by, names_of}
use Rattle.bk_check_b0.proofs.executable.Executing.+expressions.Given as goal

abbrev pub decreases-expression : goal.decreases-expression
decreases-expression l = 4 * tree_size l.term.now

abbrev pub decreases-expressions : goal.decreases-expressions
decreases-expressions l = 4 * (tree_size l.left.now + tree_size l.right.now) + 2

abbrev pub decreases-all_expressions : goal.decreases-all_expressions
decreases-all_expressions l = 4 * trees_size (trees_of l.terms.now) + 2

abbrev pub decreases-application : goal.decreases-application
decreases-application l = 4 * (tree_size l.function.now + tree_size l.index.now) + 3

abbrev pub decreases-condition : goal.decreases-condition
decreases-condition l = 4 * tree_size l.term.now + 1

abbrev pub decreases-comparison : goal.decreases-comparison
decreases-comparison l = 4 * (tree_size l.left.now + tree_size l.right.now) + 3

abbrev pub decreases-conditions : goal.decreases-conditions
decreases-conditions l = 4 * (tree_size l.left.now + tree_size l.right.now) + 2

-- what is told so far and that of those that are left is that of all
abbrev pub invariant-all_expressions-loop-term : goal.invariant-all_expressions-loop-term
invariant-all_expressions-loop-term l = earlier (told l.fault) (blame (all_expression_faults (meant_by l.self) (names_of l.self) (trees_of (drop l.term-index l.terms)))) ≡ blame (all_expression_faults (meant_by l.self) (names_of l.self) (trees_of l.terms))
