-- Right sides of conjuncts that were read for the types or ranges of bound names, and are kept for the body.
use Rattle.std.specs.Prelude.{◌≡◌, ◌+◌, ℤ, ℕ, nat_eq, nat_le, nat_lt, Bool, true, false, cond}
use Rattle.std.specs.Prelude.{not, ◌&&◌, ◌||◌, List, [], ◌∷◌, Option, None, Some, MatchOption}
use Rattle.bk_val.specs.ValueType.{ValueType, set_type}
use Rattle.bk_raw.specs.declared.operator.Constant.{Constant}
use Rattle.bk_raw.specs.declared.operator.Constant.TheVariants.{Integer, Natural, Natural1}
use Rattle.bk_raw.specs.declared.operator.InfixOp.{InfixOp}
use Rattle.bk_raw.specs.declared.operator.InfixOp.TheVariants.{Member, Relations, PartialFunctions, TotalFunctions, PartialInjections}
use Rattle.bk_raw.specs.declared.operator.InfixOp.TheVariants.{TotalInjections, PartialSurjections, TotalSurjections, Bijections}
use Rattle.bk_raw.specs.declared.operator.InfixOp.TheVariants.{Union, Intersection, Minus, Override, Maplet, Times}
use Rattle.bk_raw.specs.declared.operator.WordOp.{WordOp}
use Rattle.bk_raw.specs.declared.operator.WordOp.TheVariants.{Pow, Pow1, Fin, Fin1}
use Rattle.bk_raw.specs.Trees.RawTree.{RawTree, raw, RawTreeNode, raw_name, raw_level_name, raw_bound_name, raw_number, raw_constant}
use Rattle.bk_raw.specs.Trees.RawTree.{raw_word, raw_negative, raw_infix, raw_inverse, raw_image, raw_apply, raw_composition}
use Rattle.bk_raw.specs.Trees.RawTree.{raw_pair, raw_empty_set, raw_extension, raw_comprehension, raw_lambda, raw_for_all, raw_exists}
use Rattle.bk_raw.specs.Trees.RawTree.{raw_typed_empty, raw_typed_for_all, raw_typed_exists, raw_ranged_comprehension, raw_ranged_lambda}
use Rattle.bk_raw.specs.Trees.RawTree.{RawTrees, no_trees, tree_and, RawRanges, no_ranges, range_and}
use Rattle.bk_raw.specs.declared.term.RawName.{RawName}
use Rattle.bk_raw.specs.Trees.FreeNames.{stands_free}
use Rattle.bk_raw.specs.Meaning.Names.{Names}
use Rattle.bk_raw.specs.Meaning.Outcome.{whole, Outcome, partial, silent, Reading}
use Rattle.bk_raw.specs.Meaning.Binders.{Bound, inside, has_type}
use Rattle.bk_raw.specs.Meaning.TermReading.{reading, place_of, is_predicate}
use Rattle.bk_elab_terms.specs.Conjuncts.{infix_sides}
use Rattle.bk_elab_terms.specs.declared.form.TwoParts.TheVariants.{Infix}
use Rattle.bk_elab_terms.specs.declared.outcome.Step.{Step}
use Rattle.bk_elab_terms.specs.Forms.{two_reading}
use Rattle.bk_elab_terms.specs.Shown.{IsRead}

-- ---- names that get types
-- a type that is there stays
abbrev pub TypeGrows : Option ValueType → Option ValueType → Type 0
TypeGrows None u = Unit {0}
TypeGrows (Some t) u = u ≡ Some t

-- the same names, some of which may have got types
abbrev pub Grows : List Bound → List Bound → Type 0
Grows [] [] = Unit {0}
Grows (b ∷ bs) (c ∷ cs) = (c.text ≡ b.text) × TypeGrows b.of_type c.of_type × Grows bs cs
Grows _ _ = ⊥

-- whether one of the names that have no type stands free in the term
abbrev pub names_untyped : List Bound → RawTree → Bool
names_untyped [] t = false
names_untyped (b ∷ bs) t = (not (has_type b.of_type) && stands_free b.text t) || names_untyped bs t

-- ---- names with a dollar sign
-- whether a dollar sign stands in the text
abbrev pub has_dollar : List ℕ → Bool
has_dollar [] = false
has_dollar (x ∷ xs) = nat_eq x 36 || has_dollar xs

-- whether one stands in a name that has no type
abbrev pub dollar_untyped : List Bound → Bool
dollar_untyped [] = false
dollar_untyped (b ∷ bs) = (not (has_type b.of_type) && has_dollar b.text) || dollar_untyped bs

-- whether $k is one of so many bound variables after the first ones
abbrev pub is_own : ℕ → ℕ → ℕ → Bool
is_own first count k = nat_lt first k && nat_le k (first + count)

-- whether one of those stands in the term by its number, or a name at a level where names have dollar signs
abbrev mutual
  pub has_unsettled : ℕ → ℕ → Bool → RawTree → Bool
  has_unsettled first count dollar (raw at node) = node_has_unsettled first count dollar node

  pub node_has_unsettled : ℕ → ℕ → Bool → RawTreeNode → Bool
  node_has_unsettled first count dollar (raw_name x) = false
  node_has_unsettled first count dollar (raw_level_name x n) = dollar
  node_has_unsettled first count dollar (raw_bound_name k) = is_own first count k
  node_has_unsettled first count dollar (raw_number z) = false
  node_has_unsettled first count dollar (raw_constant c) = false
  node_has_unsettled first count dollar (raw_word o a) = has_unsettled first count dollar a
  node_has_unsettled first count dollar (raw_negative a) = has_unsettled first count dollar a
  node_has_unsettled first count dollar (raw_infix o a b) = has_unsettled first count dollar a || has_unsettled first count dollar b
  node_has_unsettled first count dollar (raw_inverse a) = has_unsettled first count dollar a
  node_has_unsettled first count dollar (raw_image a b) = has_unsettled first count dollar a || has_unsettled first count dollar b
  node_has_unsettled first count dollar (raw_apply a b) = has_unsettled first count dollar a || has_unsettled first count dollar b
  node_has_unsettled first count dollar (raw_composition a b) = has_unsettled first count dollar a || has_unsettled first count dollar b
  node_has_unsettled first count dollar (raw_pair a b) = has_unsettled first count dollar a || has_unsettled first count dollar b
  node_has_unsettled first count dollar raw_empty_set = false
  node_has_unsettled first count dollar (raw_extension ts) = some_have_unsettled first count dollar ts
  node_has_unsettled first count dollar (raw_comprehension xs p) = has_unsettled first count dollar p
  node_has_unsettled first count dollar (raw_lambda xs p e) = has_unsettled first count dollar p || has_unsettled first count dollar e
  node_has_unsettled first count dollar (raw_for_all xs p) = has_unsettled first count dollar p
  node_has_unsettled first count dollar (raw_exists xs p) = has_unsettled first count dollar p
  node_has_unsettled first count dollar (raw_typed_empty t) = false
  node_has_unsettled first count dollar (raw_typed_for_all bs p) = has_unsettled first count dollar p
  node_has_unsettled first count dollar (raw_typed_exists bs p) = has_unsettled first count dollar p
  node_has_unsettled first count dollar (raw_ranged_comprehension rs p) =
      ranges_have_unsettled first count dollar rs || has_unsettled first count dollar p
  node_has_unsettled first count dollar (raw_ranged_lambda rs p e) =
      ranges_have_unsettled first count dollar rs || (has_unsettled first count dollar p || has_unsettled first count dollar e)

  pub some_have_unsettled : ℕ → ℕ → Bool → RawTrees → Bool
  some_have_unsettled first count dollar no_trees = false
  some_have_unsettled first count dollar (tree_and t ts) = has_unsettled first count dollar t || some_have_unsettled first count dollar ts

  pub ranges_have_unsettled : ℕ → ℕ → Bool → RawRanges → Bool
  ranges_have_unsettled first count dollar no_ranges = false
  ranges_have_unsettled first count dollar (range_and at n d rs) =
      has_unsettled first count dollar d || ranges_have_unsettled first count dollar rs

-- ---- additions
-- whether a dollar sign stands in one of these names
abbrev pub names_dollar : List RawName → Bool
names_dollar [] = false
names_dollar (x ∷ xs) = has_dollar x.text || names_dollar xs

-- whether $k, a written type, or a binder of numbered variables stands in the term, or a name at a level where names have dollar signs
abbrev mutual
  pub has_additions : Bool → RawTree → Bool
  has_additions dollar (raw at node) = node_has_additions dollar node

  pub node_has_additions : Bool → RawTreeNode → Bool
  node_has_additions dollar (raw_name x) = false
  node_has_additions dollar (raw_level_name x n) = dollar
  node_has_additions dollar (raw_bound_name k) = true
  node_has_additions dollar (raw_number z) = false
  node_has_additions dollar (raw_constant c) = false
  node_has_additions dollar (raw_word o a) = has_additions dollar a
  node_has_additions dollar (raw_negative a) = has_additions dollar a
  node_has_additions dollar (raw_infix o a b) = has_additions dollar a || has_additions dollar b
  node_has_additions dollar (raw_inverse a) = has_additions dollar a
  node_has_additions dollar (raw_image a b) = has_additions dollar a || has_additions dollar b
  node_has_additions dollar (raw_apply a b) = has_additions dollar a || has_additions dollar b
  node_has_additions dollar (raw_composition a b) = has_additions dollar a || has_additions dollar b
  node_has_additions dollar (raw_pair a b) = has_additions dollar a || has_additions dollar b
  node_has_additions dollar raw_empty_set = false
  node_has_additions dollar (raw_extension ts) = some_have_additions dollar ts
  node_has_additions dollar (raw_comprehension xs p) = has_additions dollar p
  node_has_additions dollar (raw_lambda xs p e) = has_additions dollar p || has_additions dollar e
  node_has_additions dollar (raw_for_all xs p) = has_additions dollar p
  node_has_additions dollar (raw_exists xs p) = has_additions dollar p
  node_has_additions dollar (raw_typed_empty t) = true
  node_has_additions dollar (raw_typed_for_all bs p) = true
  node_has_additions dollar (raw_typed_exists bs p) = true
  node_has_additions dollar (raw_ranged_comprehension rs p) = true
  node_has_additions dollar (raw_ranged_lambda rs p e) = true

  pub some_have_additions : Bool → RawTrees → Bool
  some_have_additions dollar no_trees = false
  some_have_additions dollar (tree_and t ts) = has_additions dollar t || some_have_additions dollar ts

-- ---- what is kept
-- what is made of a reading of the left side and of this one, kept for the right side, is the reading of the whole
abbrev pub JoinsTo : ℤ → Names → Step → ℕ → InfixOp × RawTree × RawTree → Reading → Type 0
JoinsTo m names side at p read = (one all : Step) → IsRead one (reading m names p.1) →
    ((r q : Reading) → IsRead one r → IsRead side q → IsRead all (two_reading (Infix p.0) at p.1 p.2 r q)) → IsRead all read

-- the right side of a conjunct between two parts that was kept for it, if one was
abbrev pub IsKept : ℤ → Names → Option Step → RawTree → Type 0
IsKept m names None t = Unit {0}
IsKept m names (Some side) t = MatchOption (infix_sides t) ⊥ (λ p. JoinsTo m names side (place_of t) p (reading m names t))

-- those of conjuncts, one each
abbrev pub AreKept : ℤ → Names → List (Option Step) → List RawTree → Type 0
AreKept m names [] [] = Unit {0}
AreKept m names (k ∷ ks) (t ∷ ts) = IsKept m names k t × AreKept m names ks ts
AreKept m names _ _ = ⊥

-- the same whatever types the bound names still get
abbrev pub StaysKept : ℤ → Names → List Bound → Option Step → RawTree → Type 0
StaysKept m names bs k t = (cs : List Bound) → Grows bs cs → IsKept m (inside cs names) k t

-- what is kept of these terms stays right where more bound names get their types
abbrev pub StayKept : ℤ → Names → List Bound → List (Option Step) → List RawTree → Type 0
StayKept m names bs ks ts = (cs : List Bound) → Grows bs cs → AreKept m (inside cs names) ks ts

-- ---- right sides that give no range
-- the words INTEGER, NATURAL and NATURAL1
abbrev pub is_domain_word : Constant → Bool
is_domain_word Integer = true
is_domain_word Natural = true
is_domain_word Natural1 = true
is_domain_word _ = false

-- POW, POW1, FIN and FIN1
abbrev pub makes_power : WordOp → Bool
makes_power Pow = true
makes_power Pow1 = true
makes_power Fin = true
makes_power Fin1 = true
makes_power _ = false

-- the operators that make domains of relations and functions
abbrev pub makes_arrow : InfixOp → Bool
makes_arrow Relations = true
makes_arrow PartialFunctions = true
makes_arrow TotalFunctions = true
makes_arrow PartialInjections = true
makes_arrow TotalInjections = true
makes_arrow PartialSurjections = true
makes_arrow TotalSurjections = true
makes_arrow Bijections = true
makes_arrow _ = false

-- whether it is *
abbrev pub is_times : InfixOp → Bool
is_times Times = true
is_times _ = false

-- the operators that make one set of two
abbrev pub makes_joint : InfixOp → Bool
makes_joint Union = true
makes_joint Intersection = true
makes_joint Minus = true
makes_joint Override = true
makes_joint _ = false

-- whether it is |->
abbrev pub is_maplet : InfixOp → Bool
is_maplet Maplet = true
is_maplet _ = false

-- whether a term of this form is a domain that is no value, where it is anything
abbrev pub is_domain : RawTree → Bool
is_domain (raw at (raw_constant c)) = is_domain_word c
is_domain (raw at (raw_word o a)) = makes_power o
is_domain (raw at (raw_infix o a b)) = makes_arrow o || (is_times o && (is_domain a || is_domain b))
is_domain _ = false

-- whether a term of this form is an expression that gives no type, for the `{}` in it, where it is anything
abbrev mutual
  pub is_hollow : RawTree → Bool
  is_hollow (raw at node) = is_hollow_node node

  pub is_hollow_node : RawTreeNode → Bool
  is_hollow_node raw_empty_set = true
  is_hollow_node (raw_extension ts) = are_hollow ts
  is_hollow_node (raw_pair a b) = is_hollow a || is_hollow b
  is_hollow_node (raw_infix o a b) = cond (is_maplet o) (is_hollow a || is_hollow b) (makes_joint o && (is_hollow a && is_hollow b))
  is_hollow_node _ = false

  pub are_hollow : RawTrees → Bool
  are_hollow no_trees = true
  are_hollow (tree_and t ts) = is_hollow t && are_hollow ts

-- whether a right side gives no range by its form alone
abbrev pub gives_no_range : RawTree → Bool
gives_no_range t = is_predicate t || (is_domain t || is_hollow t)

-- whether the type is that of sets
abbrev pub is_set_type : ValueType → Bool
is_set_type (set_type t) = true
is_set_type _ = false

-- whether what a right side turned out to be gives no range, and nothing that is made of it depends on its formula
abbrev pub is_lasting : InfixOp → Outcome → Bool
is_lasting o silent = true
is_lasting Member (partial (whole f t)) = not (is_set_type t)
is_lasting _ _ = false
