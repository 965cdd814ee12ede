-- The mathematical expression that one of the program stands for.
use Rattle.bk_raw.specs.Meaning.Outcome.{Partial, whole, hollow, single_of, pair_of, joint_of}
use Rattle.bk_elab_terms.specs.Joins.{joint_of_join}
use Rattle.bk_elab_terms.specs.declared.partial.Node.{Node}
use Rattle.bk_elab_terms.specs.declared.partial.Node.TheVariants.{Whole, Empty, Single, Pair, Joined}

-- the expression that a node stands for
abbrev pub expression_of : Node → Partial
expression_of (Whole f t) = whole f t
expression_of Empty = hollow
expression_of (Single e) = single_of e.value
expression_of (Pair a b) = pair_of a.value b.value
expression_of (Joined j a b) = joint_of (joint_of_join j) a.value b.value
