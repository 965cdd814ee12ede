-- Which forms are predicates, sets, relations or values wherever they type; a predicate means no more than its truth, and sets with
-- the same members are equal.
use Rattle.std.proofs.Common.{◌≡◌, ◌≢◌, ◌⊎◌, inl, inr, ℕ, List, ◌∷◌, refl, sym, ◌∙◌, ap, Bool, true, false, ◌&&◌}
use Rattle.bk_val.specs.Value.{MathValue, MathValues, pair, set, none, more, list_of, values_of, is_below, rises_from, is_rising, value_cmp, IsStrictlySorted}
use Rattle.bk_val.specs.ValueType.{ValueType, int_type, bool_type, enum_type, pair_type, set_type, is_value_of, are_values_of}
use Rattle.bk_val.specs.Sets.{has}
use Rattle.std.specs.List.Sorted.{IsStrictlySortedBy}
use Rattle.std.specs.declared.cmp.Ordering.{Ordering}
use Rattle.std.specs.declared.cmp.Ordering.TheVariants.{Less, Equal, Greater}
use Rattle.bk_val.proofs.Elements.{same_elements}
use Rattle.bk_val.proofs.SortedLists.{Below, below_all}
use Rattle.bk_form.specs.Table.{Table, listed_size, set_size, variable_type, lists_type}
use Rattle.bk_form.specs.Formula.{Formula, variable, bound, literal, truth_value, element, empty_set, named, btrue, bfalse, unary, binary, for_all, for_some, comprehension, lambda}
use Rattle.bk_form.specs.declared.operator.Domain.{Domain}
use Rattle.bk_form.specs.declared.operator.Domain.TheVariants.{Bool as Booleans, Enum}
use Rattle.std.specs.Prelude.{Option, Some, None, slice_get, nat_lt}
use Rattle.bk_form.specs.Search.{Finder}
use Rattle.bk_form.specs.Environment.{Environment, Binding, bound_types}
use Rattle.bk_form.specs.Role.{Role, gives, ranges_over, predicate, untyped, if_predicate, if_number, if_value, if_set, if_relation, if_domain, if_holds, same_type, role, unary_role, binary_role, numbers_role, connective_role, sets_role, product_role, arrow_role, domain_part_role, range_part_role, given_by, named_role, empty_role}
use Rattle.bk_form.specs.Operators.{elements, is_element}
use Rattle.bk_form.specs.Meaning.{Meaning, meaning, value, truth, within, of_value, of_truth, unary_meaning, binary_meaning, bound_meaning}
use Rattle.bk_form.specs.declared.operator.UnOp.{UnOp}
use Rattle.bk_form.specs.declared.operator.UnOp.TheVariants.{Not, BoolOf, Neg, Card, Min, Max, Dom, Ran, Id, Inverse, Single, Pow, Pow1}
use Rattle.bk_form.specs.declared.operator.BinOp.{BinOp}
use Rattle.bk_form.specs.declared.operator.BinOp.TheVariants.{And, Or, Imp, Iff, Eq, Lt, Le, In, Union, Inter, Minus, Times, DomRes, RanRes, DomSub, RanSub, Over, Maps, Range, Add, Sub, Mul, Div, Mod, Power, Image, Apply, Comp}
use Rattle.bk_form.proofs.Members.{has-then, and-both}
use Rattle.bk_form.proofs.Roles.{meaning-role}
use Rattle.bk_form.proofs.Givers.{value-meaning}
use Rattle.bk_form.proofs.Typed.{Of, elements-of}
use Rattle.bk_form.proofs.Valued.{sound_typing}
use Rattle.bk_form.proofs.RoleParts.{inverse-parts, id-parts, domain_part-parts, range_part-parts, override-parts, composition-parts}
use Rattle.bk_form.specs.Settings.{IsPredicateIn, GivesIn}
use Rattle.bk_form.specs.MemberLaws.{MeaningIsKnown}

-- ---- predicates mean no more than their truth
-- a form that is a predicate or nothing
abbrev pub is_predicate_form : Formula → Bool
is_predicate_form (unary Not a) = true
is_predicate_form (binary And a b) = true
is_predicate_form (binary Or a b) = true
is_predicate_form (binary Imp a b) = true
is_predicate_form (binary Iff a b) = true
is_predicate_form (binary Eq a b) = true
is_predicate_form (binary Lt a b) = true
is_predicate_form (binary Le a b) = true
is_predicate_form (binary In a b) = true
is_predicate_form _ = false

-- a role is one of four, and some rules give only a predicate or nothing
abbrev pub IsOneOf : Role → Role → Type 0
IsOneOf r s = (s ≡ r) ⊎ (s ≡ untyped)

if_holds-one : (b : Bool) (r : Role) → IsOneOf r (if_holds b r)
if_holds-one true r = inl refl
if_holds-one false r = inr refl

if_predicate-one : (q r a : Role) → IsOneOf q r → IsOneOf q (if_predicate r a)
if_predicate-one q r predicate h = h
if_predicate-one q r _ h = inr refl

if_number-one : (q r a : Role) → IsOneOf q r → IsOneOf q (if_number r a)
if_number-one q r (gives int_type) h = h
if_number-one q r _ h = inr refl

if_value-one : (q : Role) (f : ValueType → Role) (a : Role) → ((t : ValueType) → IsOneOf q (f t)) → IsOneOf q (if_value f a)
if_value-one q f (gives t) h = h t
if_value-one q f _ h = inr refl

if_domain-one : (q : Role) (f : ValueType → Role) (a : Role) → ((t : ValueType) → IsOneOf q (f t)) → IsOneOf q (if_domain f a)
if_domain-one q f (gives (set_type t)) h = h t
if_domain-one q f (ranges_over t) h = h t
if_domain-one q f _ h = inr refl

connective-one : (a b : Role) → IsOneOf predicate (connective_role a b)
connective-one a b = if_predicate-one predicate (if_predicate predicate b) a (if_predicate-one predicate predicate b (inl refl))

numbers-one : (q a b : Role) → IsOneOf q (numbers_role q a b)
numbers-one q a b = if_number-one q (if_number q b) a (if_number-one q q b (inl refl))

pub form-one : (table : Table) (around : List ValueType) (f : Formula) → is_predicate_form f ≡ true → IsOneOf predicate (role table around f)
form-one table around (unary Not a) h = if_predicate-one predicate predicate (role table around a) (inl refl)
form-one table around (binary And a b) h = connective-one (role table around a) (role table around b)
form-one table around (binary Or a b) h = connective-one (role table around a) (role table around b)
form-one table around (binary Imp a b) h = connective-one (role table around a) (role table around b)
form-one table around (binary Iff a b) h = connective-one (role table around a) (role table around b)
form-one table around (binary Eq a b) h = if_value-one predicate (λ t. if_value (λ u. if_holds (same_type t u) predicate) (role table around b)) (role table around a) (λ t. if_value-one predicate (λ u. if_holds (same_type t u) predicate) (role table around b) (λ u. if_holds-one (same_type t u) predicate))
form-one table around (binary Lt a b) h = numbers-one predicate (role table around a) (role table around b)
form-one table around (binary Le a b) h = numbers-one predicate (role table around a) (role table around b)
form-one table around (binary In a b) h = if_value-one predicate (λ t. if_domain (λ u. if_holds (same_type t u) predicate) (role table around b)) (role table around a) (λ t. if_domain-one predicate (λ u. if_holds (same_type t u) predicate) (role table around b) (λ u. if_holds-one (same_type t u) predicate))
form-one table around f h = absurd (cc)

-- ---- forms that are never a predicate
abbrev IsNone : Role → Type 0
IsNone r = r ≡ predicate → ⊥

if_holds-none : (b : Bool) (r : Role) → IsNone r → IsNone (if_holds b r)
if_holds-none true r h = h
if_holds-none false r h = λ k. cc

if_predicate-none : (r a : Role) → IsNone r → IsNone (if_predicate r a)
if_predicate-none r predicate h = h
if_predicate-none r _ h = λ k. cc

if_number-none : (r a : Role) → IsNone r → IsNone (if_number r a)
if_number-none r (gives int_type) h = h
if_number-none r _ h = λ k. cc

if_value-none : (f : ValueType → Role) (a : Role) → ((t : ValueType) → IsNone (f t)) → IsNone (if_value f a)
if_value-none f (gives t) h = h t
if_value-none f _ h = λ k. cc

if_set-none : (f : ValueType → Role) (a : Role) → ((t : ValueType) → IsNone (f t)) → IsNone (if_set f a)
if_set-none f (gives (set_type t)) h = h t
if_set-none f _ h = λ k. cc

if_relation-none : (f : ValueType → ValueType → Role) (a : Role) → ((t u : ValueType) → IsNone (f t u)) → IsNone (if_relation f a)
if_relation-none f (gives (set_type (pair_type t u))) h = h t u
if_relation-none f _ h = λ k. cc

if_domain-none : (f : ValueType → Role) (a : Role) → ((t : ValueType) → IsNone (f t)) → IsNone (if_domain f a)
if_domain-none f (gives (set_type t)) h = h t
if_domain-none f (ranges_over t) h = h t
if_domain-none f _ h = λ k. cc

gives-none : (t : ValueType) → IsNone (gives t)
gives-none t = λ k. cc

over-none : (t : ValueType) → IsNone (ranges_over t)
over-none t = λ k. cc

unary-none : (o : UnOp) (r : Role) → ((o ≡ Not) → ⊥) → IsNone (unary_role o r)
unary-none Not r h = absurd (h refl)
unary-none BoolOf r h = if_predicate-none (gives bool_type) r (gives-none bool_type)
unary-none Neg r h = if_number-none (gives int_type) r (gives-none int_type)
unary-none Card r h = if_set-none (λ t. gives int_type) r (λ t. gives-none int_type)
unary-none Min r h = if_set-none (λ t. if_holds (same_type t int_type) (gives int_type)) r (λ t. if_holds-none (same_type t int_type) (gives int_type) (gives-none int_type))
unary-none Max r h = if_set-none (λ t. if_holds (same_type t int_type) (gives int_type)) r (λ t. if_holds-none (same_type t int_type) (gives int_type) (gives-none int_type))
unary-none Dom r h = if_relation-none (λ t u. gives (set_type t)) r (λ t u. gives-none (set_type t))
unary-none Ran r h = if_relation-none (λ t u. gives (set_type u)) r (λ t u. gives-none (set_type u))
unary-none Id r h = if_set-none (λ t. gives (set_type (pair_type t t))) r (λ t. gives-none (set_type (pair_type t t)))
unary-none Inverse r h = if_relation-none (λ t u. gives (set_type (pair_type u t))) r (λ t u. gives-none (set_type (pair_type u t)))
unary-none Single r h = if_value-none (λ t. gives (set_type t)) r (λ t. gives-none (set_type t))
unary-none Pow r h = if_domain-none (λ t. ranges_over (set_type t)) r (λ t. over-none (set_type t))
unary-none Pow1 r h = if_domain-none (λ t. ranges_over (set_type t)) r (λ t. over-none (set_type t))

sets-none : (a b : Role) → IsNone (sets_role a b)
sets-none a b = if_set-none _ a (λ t. if_set-none _ b (λ u. if_holds-none (same_type t u) (gives (set_type t)) (gives-none (set_type t))))

numbers-none : (r a b : Role) → IsNone r → IsNone (numbers_role r a b)
numbers-none r a b h = if_number-none (if_number r b) a (if_number-none r b h)

arrow-none : (a b : Role) → IsNone (arrow_role a b)
arrow-none a b = if_domain-none _ a (λ t. if_domain-none _ b (λ u. over-none (set_type (pair_type t u))))

domains-none : (a b : Role) → IsNone (if_domain (λ t. if_domain (λ u. ranges_over (pair_type t u)) b) a)
domains-none a b = if_domain-none _ a (λ t. if_domain-none _ b (λ u. over-none (pair_type t u)))

product-none : (a b : Role) → IsNone (product_role a b)
product-none (gives (set_type t)) (gives (set_type u)) = gives-none (set_type (pair_type t u))
product-none a b = domains-none a b

domain_part-none : (r a : Role) → IsNone (domain_part_role r a)
domain_part-none r a = if_relation-none _ r (λ t u. if_set-none _ a (λ v. if_holds-none (same_type v t) (gives (set_type (pair_type t u))) (gives-none (set_type (pair_type t u)))))

range_part-none : (r a : Role) → IsNone (range_part_role r a)
range_part-none r a = if_relation-none _ r (λ t u. if_set-none _ a (λ v. if_holds-none (same_type v u) (gives (set_type (pair_type t u))) (gives-none (set_type (pair_type t u)))))

-- the operators on two formulas that make a predicate
abbrev is_relational : BinOp → Bool
is_relational And = true
is_relational Or = true
is_relational Imp = true
is_relational Iff = true
is_relational Eq = true
is_relational Lt = true
is_relational Le = true
is_relational In = true
is_relational _ = false

binary-none : (o : BinOp) (a b : Role) → is_relational o ≡ false → IsNone (binary_role o a b)
binary-none And a b h = absurd (cc)
binary-none Or a b h = absurd (cc)
binary-none Imp a b h = absurd (cc)
binary-none Iff a b h = absurd (cc)
binary-none Eq a b h = absurd (cc)
binary-none Lt a b h = absurd (cc)
binary-none Le a b h = absurd (cc)
binary-none In a b h = absurd (cc)
binary-none Union a b h = sets-none a b
binary-none Inter a b h = sets-none a b
binary-none Minus a b h = sets-none a b
binary-none Times a b h = product-none a b
binary-none DomRes a b h = domain_part-none b a
binary-none DomSub a b h = domain_part-none b a
binary-none RanRes a b h = range_part-none a b
binary-none RanSub a b h = range_part-none a b
binary-none Over a b h = if_relation-none _ a (λ t u. if_relation-none _ b (λ v w. if_holds-none (same_type t v && same_type u w) (gives (set_type (pair_type t u))) (gives-none (set_type (pair_type t u)))))
binary-none Maps a b h = if_value-none _ a (λ t. if_value-none _ b (λ u. gives-none (pair_type t u)))
binary-none Image a b h = if_relation-none _ a (λ t u. if_set-none _ b (λ v. if_holds-none (same_type v t) (gives (set_type u)) (gives-none (set_type u))))
binary-none Apply a b h = if_relation-none _ a (λ t u. if_value-none _ b (λ v. if_holds-none (same_type v t) (gives u) (gives-none u)))
binary-none Comp a b h = if_relation-none _ a (λ t u. if_relation-none _ b (λ v w. if_holds-none (same_type u v) (gives (set_type (pair_type t w))) (gives-none (set_type (pair_type t w)))))
binary-none Range a b h = numbers-none (gives (set_type int_type)) a b (gives-none (set_type int_type))
binary-none Add a b h = numbers-none (gives int_type) a b (gives-none int_type)
binary-none Sub a b h = numbers-none (gives int_type) a b (gives-none int_type)
binary-none Mul a b h = numbers-none (gives int_type) a b (gives-none int_type)
binary-none Div a b h = numbers-none (gives int_type) a b (gives-none int_type)
binary-none Mod a b h = numbers-none (gives int_type) a b (gives-none int_type)
binary-none Power a b h = numbers-none (gives int_type) a b (gives-none int_type)
binary-none _ a b h = arrow-none a b

-- ---- a predicate means no more than its truth
abbrev IsTruth : Meaning → Type 0
IsTruth m = m ≡ of_truth predicate m.truth

unary-truth : (o : UnOp) (m : Meaning) → unary_role o m.role ≡ predicate → IsTruth (unary_meaning o m)
unary-truth Not m h = ap (λ r. of_truth r (unary_meaning Not m).truth) h
unary-truth BoolOf m h = absurd (unary-none BoolOf m.role (λ e. cc) h)
unary-truth Neg m h = absurd (unary-none Neg m.role (λ e. cc) h)
unary-truth Card m h = absurd (unary-none Card m.role (λ e. cc) h)
unary-truth Min m h = absurd (unary-none Min m.role (λ e. cc) h)
unary-truth Max m h = absurd (unary-none Max m.role (λ e. cc) h)
unary-truth Dom m h = absurd (unary-none Dom m.role (λ e. cc) h)
unary-truth Ran m h = absurd (unary-none Ran m.role (λ e. cc) h)
unary-truth Id m h = absurd (unary-none Id m.role (λ e. cc) h)
unary-truth Inverse m h = absurd (unary-none Inverse m.role (λ e. cc) h)
unary-truth Single m h = absurd (unary-none Single m.role (λ e. cc) h)
unary-truth Pow m h = absurd (unary-none Pow m.role (λ e. cc) h)
unary-truth Pow1 m h = absurd (unary-none Pow1 m.role (λ e. cc) h)

binary-truth : (find : Finder) (sizes : ℕ → ℕ) (o : BinOp) (m n : Meaning) → binary_role o m.role n.role ≡ predicate → IsTruth (binary_meaning find sizes o m n)
binary-truth find sizes And m n h = ap (λ r. of_truth r (m.truth && n.truth)) h
binary-truth find sizes Or m n h = ap (λ r. of_truth r (binary_meaning find sizes Or m n).truth) h
binary-truth find sizes Imp m n h = ap (λ r. of_truth r (binary_meaning find sizes Imp m n).truth) h
binary-truth find sizes Iff m n h = ap (λ r. of_truth r (binary_meaning find sizes Iff m n).truth) h
binary-truth find sizes Eq m n h = ap (λ r. of_truth r (binary_meaning find sizes Eq m n).truth) h
binary-truth find sizes Lt m n h = ap (λ r. of_truth r (binary_meaning find sizes Lt m n).truth) h
binary-truth find sizes Le m n h = ap (λ r. of_truth r (binary_meaning find sizes Le m n).truth) h
binary-truth find sizes In m n h = ap (λ r. of_truth r (binary_meaning find sizes In m n).truth) h
binary-truth find sizes o m n h = absurd (binary-none o m.role n.role refl h)

given-none : (o : Option ValueType) → IsNone (given_by o)
given-none None = λ k. cc
given-none (Some t) = gives-none t

bound-none : (table : Table) (o : Option Binding) → IsNone (bound_meaning table o).role
bound-none table None = λ k. cc
bound-none table (Some b) = if_holds-none (lists_type table b.0) (gives b.0) (gives-none b.0)

empty-none : (table : Table) (t : ValueType) → IsNone (empty_role table t)
empty-none table (set_type t) = if_holds-none (lists_type table t) (gives (set_type t)) (gives-none (set_type t))
empty-none table _ = λ k. cc

named-none : (table : Table) (d : Domain) → IsNone (named_role table d)
named-none table Booleans = gives-none (set_type bool_type)
named-none table (Enum n) = if_holds-none (lists_type table (enum_type n)) (gives (set_type (enum_type n))) (gives-none (set_type (enum_type n)))
named-none table _ = over-none int_type

pub truth-meaning : (find : Finder) (e : Environment) (f : Formula) → (meaning find e f).role ≡ predicate → meaning find e f ≡ of_truth predicate (truth find e f)
truth-meaning find e (variable n) h = absurd (given-none (variable_type e.table n) h)
truth-meaning find e (bound n) h = absurd (bound-none e.table (slice_get e.bound n) h)
truth-meaning find e (literal z) h = absurd (gives-none int_type h)
truth-meaning find e (truth_value b) h = absurd (gives-none bool_type h)
truth-meaning find e (element s i) h = absurd (if_holds-none (nat_lt i (listed_size e.table s)) (gives (enum_type s)) (gives-none (enum_type s)) h)
truth-meaning find e (empty_set t) h = absurd (empty-none e.table t h)
truth-meaning find e (named d) h = absurd (named-none e.table d h)
truth-meaning find e btrue h = refl
truth-meaning find e bfalse h = refl
truth-meaning find e (unary o a) h = unary-truth o (meaning find e a) h
truth-meaning find e (binary o a b) h = binary-truth find (set_size e.table) o (meaning find e a) (meaning find e b) h
truth-meaning find e (for_all ts p) h = ap (λ r. of_truth r (truth find e (for_all ts p))) h
truth-meaning find e (for_some ts p) h = ap (λ r. of_truth r (truth find e (for_some ts p))) h
truth-meaning find e (comprehension rs p) h = absurd (if_holds-none _ _ (if_predicate-none _ _ (gives-none _)) h)
truth-meaning find e (lambda rs p v) h = absurd (if_holds-none _ _ (if_predicate-none _ _ (if_value-none _ _ (λ u. gives-none _))) h)

-- ---- forms that are a set or nothing
abbrev IsSetOrNone : Role → Type 0
IsSetOrNone r = ((t : ValueType) × (r ≡ gives (set_type t))) ⊎ (r ≡ untyped)

if_holds-set : (b : Bool) (t : ValueType) → IsSetOrNone (if_holds b (gives (set_type t)))
if_holds-set true t = inl (t, refl)
if_holds-set false t = inr refl

if_value-set : (f : ValueType → Role) (a : Role) → ((t : ValueType) → IsSetOrNone (f t)) → IsSetOrNone (if_value f a)
if_value-set f (gives t) h = h t
if_value-set f _ h = inr refl

if_number-set : (r a : Role) → IsSetOrNone r → IsSetOrNone (if_number r a)
if_number-set r (gives int_type) h = h
if_number-set r _ h = inr refl

if_set-set : (f : ValueType → Role) (a : Role) → ((t : ValueType) → IsSetOrNone (f t)) → IsSetOrNone (if_set f a)
if_set-set f (gives (set_type t)) h = h t
if_set-set f _ h = inr refl

if_relation-set : (f : ValueType → ValueType → Role) (a : Role) → ((t u : ValueType) → IsSetOrNone (f t u)) → IsSetOrNone (if_relation f a)
if_relation-set f (gives (set_type (pair_type t u))) h = h t u
if_relation-set f _ h = inr refl

abbrev is_set_op : BinOp → Bool
is_set_op Union = true
is_set_op Inter = true
is_set_op Minus = true
is_set_op DomRes = true
is_set_op RanRes = true
is_set_op DomSub = true
is_set_op RanSub = true
is_set_op Over = true
is_set_op Image = true
is_set_op Comp = true
is_set_op Range = true
is_set_op _ = false

abbrev is_set_unary : UnOp → Bool
is_set_unary Dom = true
is_set_unary Ran = true
is_set_unary Id = true
is_set_unary Inverse = true
is_set_unary Single = true
is_set_unary _ = false

-- a form that gives a set or nothing
abbrev pub is_set_form : Formula → Bool
is_set_form (unary o a) = is_set_unary o
is_set_form (binary o a b) = is_set_op o
is_set_form _ = false

unary-set : (o : UnOp) (r : Role) → is_set_unary o ≡ true → IsSetOrNone (unary_role o r)
unary-set Dom r h = if_relation-set _ r (λ t u. inl (t, refl))
unary-set Ran r h = if_relation-set _ r (λ t u. inl (u, refl))
unary-set Id r h = if_set-set _ r (λ t. inl (pair_type t t, refl))
unary-set Inverse r h = if_relation-set _ r (λ t u. inl (pair_type u t, refl))
unary-set Single r h = if_value-set _ r (λ t. inl (t, refl))
unary-set _ r h = absurd (cc)

sets-set : (a b : Role) → IsSetOrNone (sets_role a b)
sets-set a b = if_set-set _ a (λ t. if_set-set _ b (λ u. if_holds-set (same_type t u) t))

domain_part-set : (r a : Role) → IsSetOrNone (domain_part_role r a)
domain_part-set r a = if_relation-set _ r (λ t u. if_set-set _ a (λ v. if_holds-set (same_type v t) (pair_type t u)))

range_part-set : (r a : Role) → IsSetOrNone (range_part_role r a)
range_part-set r a = if_relation-set _ r (λ t u. if_set-set _ a (λ v. if_holds-set (same_type v u) (pair_type t u)))

binary-set : (o : BinOp) (a b : Role) → is_set_op o ≡ true → IsSetOrNone (binary_role o a b)
binary-set Union a b h = sets-set a b
binary-set Inter a b h = sets-set a b
binary-set Minus a b h = sets-set a b
binary-set DomRes a b h = domain_part-set b a
binary-set DomSub a b h = domain_part-set b a
binary-set RanRes a b h = range_part-set a b
binary-set RanSub a b h = range_part-set a b
binary-set Over a b h = if_relation-set _ a (λ t u. if_relation-set _ b (λ v w. if_holds-set (same_type t v && same_type u w) (pair_type t u)))
binary-set Image a b h = if_relation-set _ a (λ t u. if_set-set _ b (λ v. if_holds-set (same_type v t) u))
binary-set Comp a b h = if_relation-set _ a (λ t u. if_relation-set _ b (λ v w. if_holds-set (same_type u v) (pair_type t w)))
binary-set Range a b h = if_number-set _ a (if_number-set _ b (inl (int_type, refl)))
binary-set _ a b h = absurd (cc)

not-none : (r : Role) → r ≢ untyped → IsSetOrNone r → (t : ValueType) × (r ≡ gives (set_type t))
not-none r h (inl w) = w
not-none r h (inr k) = absurd (h k)

pub set-form : (e : Environment) (f : Formula) → is_set_form f ≡ true → role e.table (bound_types e) f ≢ untyped → (t : ValueType) × GivesIn e f (set_type t)
set-form e (unary o a) h k = not-none (role e.table (bound_types e) (unary o a)) k (unary-set o (role e.table (bound_types e) a) h)
set-form e (binary o a b) h k = not-none (role e.table (bound_types e) (binary o a b)) k (binary-set o (role e.table (bound_types e) a) (role e.table (bound_types e) b) h)
set-form e _ h k = absurd (cc)

-- ---- sets with the same members are equal
first-below : (x : MathValue) (xs : List MathValue) → IsStrictlySorted (x ∷ xs) → Below x xs
unfolding IsStrictlySortedBy
first-below x xs t = t.0

rises-below : (v : MathValue) (vs : MathValues) → rises_from v vs ≡ true → IsStrictlySorted (list_of vs) → Below v (list_of vs)
rises-below v none h s = tt
rises-below v (more w ws) h s = below_all v w (list_of ws) (less (value_cmp v w) (and-both (is_below (value_cmp v w)) (rises_from w ws) h).0) (first-below w (list_of ws) s)
  where
    less : (o : Ordering) → is_below o ≡ true → o ≡ Less
    less Less e = refl
    less Equal e = absurd (cc)
    less Greater e = absurd (cc)

mutual
  rest-rises : (v : MathValue) (vs : MathValues) → rises_from v vs ≡ true → is_rising vs ≡ true
  rest-rises v none h = refl
  rest-rises v (more w ws) h = (and-both (is_below (value_cmp v w)) (rises_from w ws) h).1

pub rising-sorted : (vs : MathValues) → is_rising vs ≡ true → IsStrictlySorted (list_of vs)
unfolding IsStrictlySortedBy
rising-sorted none h = tt
rising-sorted (more v vs) h = let s = rising-sorted vs (rest-rises v vs h) in (rises-below v vs h s, s)

of-list : (vs : MathValues) → values_of (list_of vs) ≡ vs
of-list none = refl
of-list (more v vs) = ap (more v) (of-list vs)

module _ (sizes : ℕ → ℕ) where
  pub set-sorted : (t : ValueType) (v : MathValue) → Of sizes (set_type t) v → IsStrictlySorted (elements v)
  set-sorted t (set vs) h = rising-sorted vs (and-both (are_values_of sizes t vs) (is_rising vs) h).1
  set-sorted t _ h = absurd (cc)

  pub set-again : (t : ValueType) (v : MathValue) → Of sizes (set_type t) v → v ≡ set (values_of (elements v))
  set-again t (set vs) h = ap set (sym (of-list vs))
  set-again t _ h = absurd (cc)

  both-ways : (a b : Bool) → (a ≡ true → b ≡ true) → (b ≡ true → a ≡ true) → a ≡ b
  both-ways true b f g = sym (f refl)
  both-ways false true f g = g refl
  both-ways false false f g = refl

  -- two sets of one type with the same members of the type are equal
  pub same_members : (t : ValueType) (v w : MathValue) → Of sizes (set_type t) v → Of sizes (set_type t) w → ((x : MathValue) → Of sizes t x → is_element x v ≡ is_element x w) → v ≡ w
  same_members t v w h k same =
      let all : (x : MathValue) → has (elements v) x ≡ has (elements w) x = λ x. both-ways (has (elements v) x) (has (elements w) x)
      (λ m. sym (same x (elements-of sizes t v x h (has-then x (elements v) m))) ∙ m)
      (λ m. same x (elements-of sizes t w x k (has-then x (elements w) m)) ∙ m) in
      set-again t v h ∙ ap (λ xs. set (values_of xs)) (same_elements (elements v) (elements w) (set-sorted t v h) (set-sorted t w k) all) ∙ sym (set-again t w k)

-- ---- formulas that mean the same
pub same-truth : (find : Finder) (e : Environment) (a b : Formula) → IsPredicateIn e a → IsPredicateIn e b → truth find e a ≡ truth find e b → meaning find e a ≡ meaning find e b
same-truth find e a b l r h = truth-meaning find e a (meaning-role find e a ∙ l) ∙ ap (of_truth predicate) h ∙ sym (truth-meaning find e b (meaning-role find e b ∙ r))

pub same-value : (find : Finder) (e : Environment) (a b : Formula) (t : ValueType) → GivesIn e a t → GivesIn e b t → value find e a ≡ value find e b → meaning find e a ≡ meaning find e b
same-value find e a b t l r h = value-meaning find e a t (meaning-role find e a ∙ l) ∙ ap (of_value (gives t)) h ∙ sym (value-meaning find e b t (meaning-role find e b ∙ r))

-- which values are members
pub member : (find : Finder) (e : Environment) (f : Formula) (t : ValueType) → GivesIn e f (set_type t) → (v : MathValue) → within find e v f ≡ is_element v (value find e f)
member find e f t h v = sound_typing.members find e f (set_type t) h v

-- ---- forms that are a value or nothing, and relations
abbrev IsValueOrNone : Role → Type 0
IsValueOrNone r = ((t : ValueType) × (r ≡ gives t)) ⊎ (r ≡ untyped)

if_holds-value : (b : Bool) (t : ValueType) → IsValueOrNone (if_holds b (gives t))
if_holds-value true t = inl (t, refl)
if_holds-value false t = inr refl

if_value-value : (f : ValueType → Role) (a : Role) → ((t : ValueType) → IsValueOrNone (f t)) → IsValueOrNone (if_value f a)
if_value-value f (gives t) h = h t
if_value-value f _ h = inr refl

if_predicate-value : (r a : Role) → IsValueOrNone r → IsValueOrNone (if_predicate r a)
if_predicate-value r predicate h = h
if_predicate-value r _ h = inr refl

if_number-value : (r a : Role) → IsValueOrNone r → IsValueOrNone (if_number r a)
if_number-value r (gives int_type) h = h
if_number-value r _ h = inr refl

if_set-value : (f : ValueType → Role) (a : Role) → ((t : ValueType) → IsValueOrNone (f t)) → IsValueOrNone (if_set f a)
if_set-value f (gives (set_type t)) h = h t
if_set-value f _ h = inr refl

if_relation-value : (f : ValueType → ValueType → Role) (a : Role) → ((t u : ValueType) → IsValueOrNone (f t u)) → IsValueOrNone (if_relation f a)
if_relation-value f (gives (set_type (pair_type t u))) h = h t u
if_relation-value f _ h = inr refl

set-value : (r : Role) → IsSetOrNone r → IsValueOrNone r
set-value r (inl w) = inl (set_type w.0, w.1)
set-value r (inr h) = inr h

abbrev is_value_unary : UnOp → Bool
is_value_unary Not = false
is_value_unary Pow = false
is_value_unary Pow1 = false
is_value_unary _ = true

abbrev is_value_op : BinOp → Bool
is_value_op Maps = true
is_value_op Add = true
is_value_op Sub = true
is_value_op Mul = true
is_value_op Div = true
is_value_op Mod = true
is_value_op Power = true
is_value_op Apply = true
is_value_op o = is_set_op o

-- a form that gives a type or nothing
abbrev pub is_value_form : Formula → Bool
is_value_form (unary o a) = is_value_unary o
is_value_form (binary o a b) = is_value_op o
is_value_form _ = false

unary-value-form : (o : UnOp) (r : Role) → is_value_unary o ≡ true → IsValueOrNone (unary_role o r)
unary-value-form Not r h = absurd (cc)
unary-value-form Pow r h = absurd (cc)
unary-value-form Pow1 r h = absurd (cc)
unary-value-form BoolOf r h = if_predicate-value (gives bool_type) r (inl (bool_type, refl))
unary-value-form Neg r h = if_number-value (gives int_type) r (inl (int_type, refl))
unary-value-form Card r h = if_set-value _ r (λ t. inl (int_type, refl))
unary-value-form Min r h = if_set-value _ r (λ t. if_holds-value (same_type t int_type) int_type)
unary-value-form Max r h = if_set-value _ r (λ t. if_holds-value (same_type t int_type) int_type)
unary-value-form Dom r h = set-value (unary_role Dom r) (unary-set Dom r refl)
unary-value-form Ran r h = set-value (unary_role Ran r) (unary-set Ran r refl)
unary-value-form Id r h = set-value (unary_role Id r) (unary-set Id r refl)
unary-value-form Inverse r h = set-value (unary_role Inverse r) (unary-set Inverse r refl)
unary-value-form Single r h = set-value (unary_role Single r) (unary-set Single r refl)

arithmetic-value : (a b : Role) → IsValueOrNone (numbers_role (gives int_type) a b)
arithmetic-value a b = if_number-value _ a (if_number-value _ b (inl (int_type, refl)))

binary-value-form : (o : BinOp) (a b : Role) → is_value_op o ≡ true → IsValueOrNone (binary_role o a b)
binary-value-form Maps a b h = if_value-value _ a (λ t. if_value-value _ b (λ u. inl (pair_type t u, refl)))
binary-value-form Add a b h = arithmetic-value a b
binary-value-form Sub a b h = arithmetic-value a b
binary-value-form Mul a b h = arithmetic-value a b
binary-value-form Div a b h = arithmetic-value a b
binary-value-form Mod a b h = arithmetic-value a b
binary-value-form Power a b h = arithmetic-value a b
binary-value-form Apply a b h = if_relation-value _ a (λ t u. if_value-value _ b (λ v. if_holds-value (same_type v t) u))
binary-value-form o a b h = set-value (binary_role o a b) (binary-set o a b h)

not-none-value : (r : Role) → r ≢ untyped → IsValueOrNone r → (t : ValueType) × (r ≡ gives t)
not-none-value r h (inl w) = w
not-none-value r h (inr k) = absurd (h k)

pub value-form : (e : Environment) (f : Formula) → is_value_form f ≡ true → role e.table (bound_types e) f ≢ untyped → (t : ValueType) × GivesIn e f t
value-form e (unary o a) h k = not-none-value (role e.table (bound_types e) (unary o a)) k (unary-value-form o (role e.table (bound_types e) a) h)
value-form e (binary o a b) h k = not-none-value (role e.table (bound_types e) (binary o a b)) k (binary-value-form o (role e.table (bound_types e) a) (role e.table (bound_types e) b) h)
value-form e _ h k = absurd (cc)

-- a form that gives a relation or nothing
abbrev pub is_relation_form : Formula → Bool
is_relation_form (unary Inverse a) = true
is_relation_form (unary Id a) = true
is_relation_form (binary DomRes a b) = true
is_relation_form (binary DomSub a b) = true
is_relation_form (binary RanRes a b) = true
is_relation_form (binary RanSub a b) = true
is_relation_form (binary Over a b) = true
is_relation_form (binary Comp a b) = true
is_relation_form _ = false

set-same : (t u : ValueType) → set_type t ≡ set_type u → t ≡ u
set-same t u h = cc

pub relation-form : (e : Environment) (f : Formula) (t : ValueType) → is_relation_form f ≡ true → GivesIn e f (set_type t) → (u : ValueType) × (w : ValueType) × (t ≡ pair_type u w)
relation-form e (unary Inverse a) t h g = let k = inverse-parts (role e.table (bound_types e) a) (set_type t) g in (k.1, k.0, set-same t (pair_type k.1 k.0) k.3)
relation-form e (unary Id a) t h g = let k = id-parts (role e.table (bound_types e) a) (set_type t) g in (k.0, k.0, set-same t (pair_type k.0 k.0) k.2)
relation-form e (binary DomRes a b) t h g = let k = domain_part-parts (role e.table (bound_types e) b) (role e.table (bound_types e) a) (set_type t) g in (k.0, k.1, set-same t (pair_type k.0 k.1) k.4)
relation-form e (binary DomSub a b) t h g = let k = domain_part-parts (role e.table (bound_types e) b) (role e.table (bound_types e) a) (set_type t) g in (k.0, k.1, set-same t (pair_type k.0 k.1) k.4)
relation-form e (binary RanRes a b) t h g = let k = range_part-parts (role e.table (bound_types e) a) (role e.table (bound_types e) b) (set_type t) g in (k.0, k.1, set-same t (pair_type k.0 k.1) k.4)
relation-form e (binary RanSub a b) t h g = let k = range_part-parts (role e.table (bound_types e) a) (role e.table (bound_types e) b) (set_type t) g in (k.0, k.1, set-same t (pair_type k.0 k.1) k.4)
relation-form e (binary Over a b) t h g = let k = override-parts (role e.table (bound_types e) a) (role e.table (bound_types e) b) (set_type t) g in (k.0, k.1, set-same t (pair_type k.0 k.1) k.4)
relation-form e (binary Comp a b) t h g = let k = composition-parts (role e.table (bound_types e) a) (role e.table (bound_types e) b) (set_type t) g in (k.0, k.2, set-same t (pair_type k.0 k.2) k.5)
relation-form e _ t h g = absurd (cc)

-- a value of a pair type is a pair
pub record IsPairOf (sizes : ℕ → ℕ) (t u : ValueType) (v : MathValue) : Type 0 where
  pub left : MathValue
  pub right : MathValue
  pub is_pair : v ≡ pair left right
  pub left_of : Of sizes t left
  pub right_of : Of sizes u right

pub pair-of : (sizes : ℕ → ℕ) (t u : ValueType) (v : MathValue) → Of sizes (pair_type t u) v → IsPairOf sizes t u v
pair-of sizes t u (pair x y) h = let k = and-both (is_value_of sizes t x) (is_value_of sizes u y) h in record { left = x; right = y; is_pair = refl; left_of = k.0; right_of = k.1 }
pair-of sizes t u _ h = absurd (cc)

pub meaning_is_known : MeaningIsKnown
meaning_is_known = record {
  predicates = same-truth;
  sets = λ find e c a b t l r same.
      same-value find e a b (set_type t) l r
      (same_members (set_size e.table) t (value find e a) (value find e b) (sound_typing.typed find e c.well c.typed a (set_type t) l) (sound_typing.typed find e c.well c.typed b (set_type t) r)
      (λ x o. sym (member find e a t l x) ∙ same x o ∙ member find e b t r x));
}
