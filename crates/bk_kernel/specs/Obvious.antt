-- Sequents that need no proof.
use Rattle.std.specs.Prelude.{ℤ, pos, int_lt, int_le, Bool, true, false, ◌&&◌, ◌||◌, List, Option, Some}
use Rattle.std.specs.List.{list_any}
use Rattle.std.specs.Ordering.{int_eq}
use Rattle.bk_form.specs.Formula.{Formula, named, binary}
use Rattle.bk_form.specs.declared.operator.BinOp.{BinOp}
use Rattle.bk_form.specs.declared.operator.BinOp.TheVariants.{Eq, Lt, Le, In, Range}
use Rattle.bk_form.specs.declared.operator.Domain.TheVariants.{Integer, Natural, Natural1, Bool as Booleans, Enum}
use Rattle.bk_arith.specs.ClosedSum.{closed_sum}
use Rattle.bk_arith.specs.Same.{is_same}

-- ---- obvious predicates
-- both are there, and pass the test
abbrev pub both_pass : (ℤ → ℤ → Bool) → Option ℤ → Option ℤ → Bool
both_pass test (Some x) (Some y) = test x y
both_pass test _ _ = false

-- the sets that have every value of a type
abbrev pub has_all : Formula → Bool
has_all (named Integer) = true
has_all (named Booleans) = true
has_all (named (Enum n)) = true
has_all _ = false

-- a closed sum in NATURAL, NATURAL1 or an interval of closed sums
abbrev pub has_number : Option ℤ → Formula → Bool
has_number z (named Natural) = both_pass int_le (Some (pos 0)) z
has_number z (named Natural1) = both_pass int_le (Some (pos 1)) z
has_number z (binary Range a b) = both_pass int_le (closed_sum a) z && both_pass int_le z (closed_sum b)
has_number z _ = false

-- E = E and true comparisons of closed sums; E : N for N a set with every value, and true memberships of closed sums
abbrev pub holds_plainly : BinOp → Formula → Formula → Bool
holds_plainly Eq a b = is_same a b || both_pass int_eq (closed_sum a) (closed_sum b)
holds_plainly Lt a b = both_pass int_lt (closed_sum a) (closed_sum b)
holds_plainly Le a b = both_pass int_le (closed_sum a) (closed_sum b)
holds_plainly In a b = has_all b || has_number (closed_sum a) b
holds_plainly _ a b = false

-- whether it is an equation, a comparison or a membership that needs no hypothesis
abbrev pub is_plain : Formula → Bool
is_plain (binary o a b) = holds_plainly o a b
is_plain _ = false

-- the goal is a hypothesis, or is obvious by itself
abbrev pub is_obvious : List Formula → Formula → Bool
is_obvious hyps goal = list_any (is_same goal) hyps || is_plain goal
