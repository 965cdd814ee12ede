-- What comparisons of whole numbers say: each fact is a term that is at least 0.
use Rattle.std.specs.Prelude.{pos, List, [], ◌∷◌, Option, Some, None}
use Rattle.bk_form.specs.Formula.{Formula, literal, named, bfalse, unary, binary}
use Rattle.bk_form.specs.declared.operator.UnOp.{UnOp}
use Rattle.bk_form.specs.declared.operator.UnOp.TheVariants.{Not}
use Rattle.bk_form.specs.declared.operator.BinOp.{BinOp}
use Rattle.bk_form.specs.declared.operator.BinOp.TheVariants.{Eq, Lt, Le, In, Range, Sub}
use Rattle.bk_form.specs.declared.operator.Domain.TheVariants.{Natural, Natural1}

-- a - 1
abbrev pub one_less : Formula → Formula
one_less a = binary Sub a (literal (pos 1))

-- `a <= b` says 0 <= b - a
abbrev pub at_most : Formula → Formula → Formula
at_most a b = binary Sub b a

-- `a < b` says 0 <= b - a - 1
abbrev pub below : Formula → Formula → Formula
below a b = one_less (binary Sub b a)

-- `a : NATURAL` says 0 <= a, `a : NATURAL1` says 0 <= a - 1, and `a : l .. h` says 0 <= a - l and 0 <= h - a
abbrev pub terms_of_member : Formula → Formula → Option (List Formula)
terms_of_member a (named Natural) = Some (a ∷ [])
terms_of_member a (named Natural1) = Some (one_less a ∷ [])
terms_of_member a (binary Range l h) = Some (at_most l a ∷ at_most a h ∷ [])
terms_of_member a _ = None

-- `a = b` says 0 <= b - a and 0 <= a - b
abbrev pub terms_of_comparison : BinOp → Formula → Formula → Option (List Formula)
terms_of_comparison Le a b = Some (at_most a b ∷ [])
terms_of_comparison Lt a b = Some (below a b ∷ [])
terms_of_comparison Eq a b = Some (at_most a b ∷ at_most b a ∷ [])
terms_of_comparison In a b = terms_of_member a b
terms_of_comparison _ a b = None

-- what is so where the formula is not: without `a <= b` it is 0 <= a - b - 1, and without `a < b` it is 0 <= a - b
abbrev pub terms_of_denied : Formula → Option (List Formula)
terms_of_denied (binary Le a b) = Some (below b a ∷ [])
terms_of_denied (binary Lt a b) = Some (at_most b a ∷ [])
terms_of_denied _ = None

-- the facts of not p, where p is such a comparison
abbrev pub terms_of_negation : UnOp → Formula → Option (List Formula)
terms_of_negation Not p = terms_of_denied p
terms_of_negation _ p = None

-- the facts of a hypothesis; none of a formula that is no comparison of these
abbrev pub terms_of_hypothesis : Formula → Option (List Formula)
terms_of_hypothesis (binary o a b) = terms_of_comparison o a b
terms_of_hypothesis (unary o p) = terms_of_negation o p
terms_of_hypothesis _ = None

-- the facts of the negated goal: no fact where the goal is `bfalse`
abbrev pub terms_of_goal : Formula → Option (List Formula)
terms_of_goal bfalse = Some []
terms_of_goal p = terms_of_denied p
