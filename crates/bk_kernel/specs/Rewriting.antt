-- What may come for a formula where it stands in a sequent: for each way of rewriting the law at that formula.
-- Source: after the B-Book.
use Rattle.std.specs.Prelude.{ℕ, nat_lt, Bool, true, false, ◌&&◌, cond, List, [], ◌∷◌, ◌++◌, map, Option, Some, None, is_some}
use Rattle.std.specs.Option.{option_map, option_and_then}
use Rattle.bk_val.specs.ValueType.{ValueType, set_type, pair_type}
use Rattle.bk_form.specs.Table.{Table}
use Rattle.bk_form.specs.Formula.{Formula, bound, btrue, unary, binary, for_all, for_some}
use Rattle.bk_form.specs.Role.{Role, gives, ranges_over, predicate, same_type, role}
use Rattle.bk_form.specs.declared.operator.UnOp.TheVariants.{Not, Dom, Ran, Pow}
use Rattle.bk_form.specs.declared.operator.BinOp.TheVariants.{And, Imp, Iff, Eq, In, Maps, Image, Apply, Comp}
use Rattle.bk_seq.specs.Paths.{numbered_item, sub_at, put_at}
use Rattle.bk_seq.specs.Sequents.{Sequent}
use Rattle.bk_arith.specs.Same.{is_same}
use Rattle.bk_laws.specs.Rows.{Instance, instance_at}
use Rattle.bk_laws_log.specs.Rows.{rows as logic_and_order}
use Rattle.bk_laws_set.specs.Rows.{rows as sets}
use Rattle.bk_laws_fun.specs.Rows.{rows as functions}
use Rattle.bk_kernel.specs.declared.rule.Place.{Place}
use Rattle.bk_kernel.specs.declared.rule.Place.TheVariants.{Goal, Hyp as InHyp}
use Rattle.bk_kernel.specs.Obvious.{has_all}
use Rattle.bk_kernel.specs.Branches.{Branch, when, sides, operand}
use Rattle.bk_kernel.specs.Deciding.{decided, equal_constants, constant}
use Rattle.bk_kernel.specs.Membership.{met_by, applied_to}

-- the ways of rewriting a formula
pub data Rewriting : Type 0 where
  -- that hypothesis is E = F: F for E, and E for F
  eq_to : ℕ → Rewriting
  eq_from : ℕ → Rewriting
  -- the right side of a law at some picks for its left side, and its left side for its right side
  law_to : ℕ → List Formula → Rewriting
  law_from : ℕ → List Formula → Rewriting
  -- btrue or bfalse for a comparison or membership that is decided
  deciding : Rewriting
  -- btrue for the membership in a set with every value of a type
  typing : Rewriting
  -- the other quantifier of `not` for `not` of a quantifier
  negating : Rewriting
  -- what the terms meet for a membership in a comprehension or lambda
  belonging : Rewriting
  -- the value for a lambda applied
  applying : Rewriting
  -- that they have the same members for an equality of sets
  extending : Rewriting
  -- that each member is one of A for S : POW(A)
  including : Rewriting
  -- that there is what makes it a member
  witnessing : Rewriting

-- ---- instances
-- one formula for another, under no condition
abbrev pub becomes : Formula → Formula → Instance
becomes old new = record { sides = []; left = old; right = new }

-- the instance read from the right
abbrev pub turned : Instance → Instance
turned i = record { sides = i.sides; left = i.right; right = i.left }

-- the law of this number at these picks: those of logic, order and counting have the numbers below 200, those of sets 200 and more,
-- those of relations and functions 300 and more
abbrev pub law_instance : ℕ → List Formula → Option Instance
law_instance n picks = cond (nat_lt n 200) (instance_at logic_and_order n picks)
    (cond (nat_lt n 300) (instance_at sets n picks) (instance_at functions n picks))

-- ---- what comes for formulas of one kind
-- `not` of a quantifier: the other one of `not`
abbrev pub negated : Formula → Option Formula
negated (for_all ts p) = Some (for_some ts (unary Not p))
negated (for_some ts p) = Some (for_all ts (unary Not p))
negated _ = None

-- the type of the elements of a set value
abbrev pub set_of_type : Role → Option ValueType
set_of_type (gives (set_type t)) = Some t
set_of_type _ = None

-- the types of the first and second parts of a relation
abbrev pub relation_of_types : Role → Option (ValueType × ValueType)
relation_of_types (gives (set_type (pair_type t u))) = Some (t, u)
relation_of_types _ = None

-- S = T as sets: they have the same members
abbrev pub same_members : Formula → Formula → ValueType → Formula
same_members a b t = for_all (t ∷ []) (binary Iff (binary In (bound 0) a) (binary In (bound 0) b))

-- S : POW(A): each member of S is one of A
abbrev pub all_within : Formula → Formula → ValueType → Formula
all_within a b t = for_all (t ∷ []) (binary Imp (binary In (bound 0) a) (binary In (bound 0) b))

-- a member of a domain, a range, an image, or a pair of a composition: there is what makes it one
abbrev pub witness : Table → Formula → Formula → Option Formula
witness table x (unary Dom r) =
    option_map (λ w. for_some (w.1 ∷ []) (binary In (binary Maps x (bound 0)) r)) (relation_of_types (role table [] r))
witness table x (unary Ran r) =
    option_map (λ w. for_some (w.0 ∷ []) (binary In (binary Maps (bound 0) x) r)) (relation_of_types (role table [] r))
witness table x (binary Image r a) = option_map (λ w.
    for_some (w.0 ∷ []) (binary And (binary In (bound 0) a) (binary In (binary Maps (bound 0) x) r))) (relation_of_types (role table [] r))
witness table x (binary Comp r q) = option_and_then (λ y.
    option_map (λ w. for_some (w.1 ∷ []) (binary And (binary In (binary Maps y.0 (bound 0)) r) (binary In (binary Maps (bound 0) y.1) q)))
    (relation_of_types (role table [] r))) (sides Maps x)
witness table x _ = None

-- the law at the formula that stands at the place
abbrev pub instance_for : Table → List Formula → Rewriting → Formula → Option Instance
instance_for table hyps (eq_to i) old = option_and_then (λ h. option_map (λ x. becomes x.0 x.1) (sides Eq h)) (numbered_item hyps i)
instance_for table hyps (eq_from i) old = option_and_then (λ h. option_map (λ x. becomes x.1 x.0) (sides Eq h)) (numbered_item hyps i)
instance_for table hyps (law_to n picks) old = law_instance n picks
instance_for table hyps (law_from n picks) old = option_map turned (law_instance n picks)
instance_for table hyps deciding old = option_map (λ b. becomes old (constant b))
    (cond (is_some (decided old)) (decided old) (option_and_then (λ x. equal_constants x.0 x.1) (sides Eq old)))
instance_for table hyps typing old = option_and_then (λ x. when (has_all x.1) (becomes old btrue)) (sides In old)
instance_for table hyps negating old = option_and_then (λ p. option_map (becomes old) (negated p)) (operand Not old)
instance_for table hyps belonging old = option_and_then (λ x. option_map (becomes old) (met_by x.0 x.1)) (sides In old)
instance_for table hyps applying old = option_and_then (λ x. applied_to old x.0 x.1) (sides Apply old)
instance_for table hyps extending old =
    option_and_then (λ x. option_map (λ t. becomes old (same_members x.0 x.1 t)) (set_of_type (role table [] x.0))) (sides Eq old)
instance_for table hyps including old = option_and_then (λ x. option_and_then
    (λ a. option_map (λ t. becomes old (all_within x.0 a t)) (set_of_type (role table [] x.0))) (operand Pow x.1)) (sides In old)
instance_for table hyps witnessing old = option_and_then (λ x. option_map (becomes old) (witness table x.0 x.1)) (sides In old)

-- ---- places
-- whether two formulas that type stand for the same kind of thing
abbrev pub same_role : Role → Role → Bool
same_role (gives t) (gives u) = same_type t u
same_role (ranges_over t) (ranges_over u) = same_type t u
same_role predicate predicate = true
same_role _ _ = false

-- the left formula is the one that stands there, and the right one has its role
abbrev pub stands_for : Table → Formula → Instance → Bool
stands_for table old i = is_same i.left old && same_role (role table [] i.left) (role table [] i.right)

-- the sides, and the formula with the right side at the path
abbrev pub part_rewritten : Table → List Formula → Rewriting → Formula → List ℕ → Option (List Formula × Formula)
part_rewritten table hyps r f path = option_and_then (λ old.
    option_and_then (λ i. when (stands_for table old i) (i.sides, put_at f path i.right)) (instance_for table hyps r old)) (sub_at f path)

-- these as goals in order, then one more branch
abbrev pub goals_then : List Formula → Branch → List Branch
goals_then ps last = map (λ p. ([], p)) ps ++ last ∷ []

-- the sides as goals, then the changed goal
abbrev pub goal_changed : Option (List Formula × Formula) → Option (List Branch)
goal_changed o = option_map (λ x. goals_then x.0 ([], x.1)) o

-- the sides as goals, then the same goal with the changed hypothesis as one more
abbrev pub hypothesis_changed : Formula → Option (List Formula × Formula) → Option (List Branch)
hypothesis_changed goal o = option_map (λ x. goals_then x.0 (x.1 ∷ [], goal)) o

-- at the goal the goal changes, and at a hypothesis the changed formula is one more hypothesis
abbrev pub rewritten : Table → Sequent → Rewriting → Place → Option (List Branch)
rewritten table s r (Goal path) = goal_changed (part_rewritten table s.0 r s.1 path.items)
rewritten table s r (InHyp i path) = option_and_then (λ h. hypothesis_changed s.1 (part_rewritten table s.0 r h path.items)) (numbered_item s.0 i)
