-- Where an operator types, what its operands stand for.
use Rattle.std.proofs.Common.{◌≡◌, inl, inr, refl, sym, ◌∙◌, ap, subst, Bool, true, false, ◌&&◌}
use Rattle.bk_val.specs.ValueType.{ValueType, int_type, bool_type, pair_type, set_type}
use Rattle.bk_form.specs.Role.{Role, gives, ranges_over, predicate, if_holds, if_predicate, if_number, if_value, if_set, if_relation, if_domain, same_type, unary_role, binary_role, product_role, connective_role, numbers_role, equality_role, membership_role, arrow_role, sets_role, domain_part_role, range_part_role, override_role, pair_role, image_role, application_role, composition_role, role}
use Rattle.bk_form.specs.Settings.{IsOver}
use Rattle.bk_form.specs.Wider.{IsTypedRole}
use Rattle.bk_form.specs.Operands.{IsOfOne, IsOfTwo, AreTwoPredicates, AreTwoNumbers, AreTwoValues, IsMembership, IsArrow, AreTwoSets, IsProduct, IsDomainPart, IsRangePart, IsOverriding, IsPair, IsImage, IsApplication, IsComposition, IsSetOf, IsRelationOf, OperandsAreTyped}
use Rattle.bk_form.specs.declared.operator.UnOp.{UnOp}
use Rattle.bk_form.specs.declared.operator.UnOp.TheVariants.{Not, BoolOf, Neg, Card, Min, Max, Dom, Ran, Id, Inverse, Single, Pow, Pow1}
use Rattle.bk_form.specs.declared.operator.BinOp.{BinOp}
use Rattle.bk_form.specs.declared.operator.BinOp.TheVariants.{And, Or, Imp, Iff, Eq, Lt, Le, In, Relations, PartialFunctions, TotalFunctions, PartialInjections, TotalInjections, PartialSurjections, TotalSurjections, Bijections, Union, Inter, Minus, Times, DomRes, RanRes, DomSub, RanSub, Over, Maps, Range, Add, Sub, Mul, Div, Mod, Power, Image, Apply, Comp}
use Rattle.bk_form.proofs.Roles.{same_type-then}
use Rattle.bk_form.proofs.Members.{and-both}

-- ---- what a rule asks of its operand, where it types
holds-is : (b : Bool) (r : Role) → IsTypedRole (if_holds b r) → (b ≡ true) × IsTypedRole r × (if_holds b r ≡ r)
holds-is true r h = (refl, h, refl)
holds-is false r h = absurd h

predicate-is : (r a : Role) → IsTypedRole (if_predicate r a) → (a ≡ predicate) × IsTypedRole r × (if_predicate r a ≡ r)
predicate-is r predicate h = (refl, h, refl)
predicate-is r _ h = absurd h

number-is : (r a : Role) → IsTypedRole (if_number r a) → (a ≡ gives int_type) × IsTypedRole r × (if_number r a ≡ r)
number-is r (gives int_type) h = (refl, h, refl)
number-is r _ h = absurd h

value-is : (f : ValueType → Role) (a : Role) → IsTypedRole (if_value f a) → (t : ValueType) × (a ≡ gives t) × IsTypedRole (f t) × (if_value f a ≡ f t)
value-is f (gives t) h = (t, refl, h, refl)
value-is f _ h = absurd h

set-is : (f : ValueType → Role) (a : Role) → IsTypedRole (if_set f a) → (t : ValueType) × IsSetOf t a × IsTypedRole (f t) × (if_set f a ≡ f t)
set-is f (gives (set_type t)) h = (t, refl, h, refl)
set-is f _ h = absurd h

relation-is : (f : ValueType → ValueType → Role) (a : Role) → IsTypedRole (if_relation f a) → (t : ValueType) × (u : ValueType) × IsRelationOf t u a × IsTypedRole (f t u) × (if_relation f a ≡ f t u)
relation-is f (gives (set_type (pair_type t u))) h = (t, u, refl, h, refl)
relation-is f _ h = absurd h

domain-is : (f : ValueType → Role) (a : Role) → IsTypedRole (if_domain f a) → (t : ValueType) × IsOver t a × IsTypedRole (f t) × (if_domain f a ≡ f t)
domain-is f (gives (set_type t)) h = (t, inl refl, h, refl)
domain-is f (ranges_over t) h = (t, inr refl, h, refl)
domain-is f _ h = absurd h

-- ---- one operand
extreme-one : (a : Role) → IsTypedRole (if_set (λ t. if_holds (same_type t int_type) (gives int_type)) a) → IsSetOf int_type a × (if_set (λ t. if_holds (same_type t int_type) (gives int_type)) a ≡ gives int_type)
extreme-one a h =
    let k = set-is (λ t. if_holds (same_type t int_type) (gives int_type)) a h in
    let m = holds-is (same_type k.0 int_type) (gives int_type) k.2 in
    (k.1 ∙ ap (λ t. gives (set_type t)) (same_type-then k.0 int_type m.0), k.3 ∙ m.2)

power-one : (a : Role) → IsTypedRole (if_domain (λ t. ranges_over (set_type t)) a) → (t : ValueType) × IsOver t a × (if_domain (λ t. ranges_over (set_type t)) a ≡ ranges_over (set_type t))
power-one a h = let k = domain-is (λ t. ranges_over (set_type t)) a h in (k.0, k.1, k.3)

of-one : (o : UnOp) (a : Role) → IsTypedRole (unary_role o a) → IsOfOne o a (unary_role o a)
of-one Not a h = let k = predicate-is predicate a h in (k.0, k.2)
of-one BoolOf a h = let k = predicate-is (gives bool_type) a h in (k.0, k.2)
of-one Neg a h = let k = number-is (gives int_type) a h in (k.0, k.2)
of-one Card a h = let k = set-is (λ t. gives int_type) a h in (k.0, k.1, k.3)
of-one Min a h = extreme-one a h
of-one Max a h = extreme-one a h
of-one Dom a h = let k = relation-is (λ t u. gives (set_type t)) a h in (k.0, k.1, k.2, k.4)
of-one Ran a h = let k = relation-is (λ t u. gives (set_type u)) a h in (k.0, k.1, k.2, k.4)
of-one Id a h = let k = set-is (λ t. gives (set_type (pair_type t t))) a h in (k.0, k.1, k.3)
of-one Inverse a h = let k = relation-is (λ t u. gives (set_type (pair_type u t))) a h in (k.0, k.1, k.2, k.4)
of-one Single a h = let k = value-is (λ t. gives (set_type t)) a h in (k.0, k.1, k.3)
of-one Pow a h = power-one a h
of-one Pow1 a h = power-one a h

-- ---- two operands
two-predicates : (a b : Role) → IsTypedRole (connective_role a b) → AreTwoPredicates a b (connective_role a b)
two-predicates a b h =
    let k = predicate-is (if_predicate predicate b) a h in
    let l = predicate-is predicate b k.1 in
    (k.0, l.0, k.2 ∙ l.2)

two-numbers : (r a b : Role) → IsTypedRole (numbers_role r a b) → AreTwoNumbers r a b (numbers_role r a b)
two-numbers r a b h =
    let k = number-is (if_number r b) a h in
    let l = number-is r b k.1 in
    (k.0, l.0, k.2 ∙ l.2)

two-values : (a b : Role) → IsTypedRole (equality_role a b) → AreTwoValues a b (equality_role a b)
two-values a b h =
    let k = value-is (λ t. if_value (λ u. if_holds (same_type t u) predicate) b) a h in
    let l = value-is (λ u. if_holds (same_type k.0 u) predicate) b k.2 in
    let m = holds-is (same_type k.0 l.0) predicate l.2 in
    (k.0, k.1, l.1 ∙ ap gives (sym (same_type-then k.0 l.0 m.0)), k.3 ∙ l.3 ∙ m.2)

membership : (a b : Role) → IsTypedRole (membership_role a b) → IsMembership a b (membership_role a b)
membership a b h =
    let k = value-is (λ t. if_domain (λ u. if_holds (same_type t u) predicate) b) a h in
    let l = domain-is (λ u. if_holds (same_type k.0 u) predicate) b k.2 in
    let m = holds-is (same_type k.0 l.0) predicate l.2 in
    (k.0, k.1, subst (λ t. IsOver t b) (sym (same_type-then k.0 l.0 m.0)) l.1, k.3 ∙ l.3 ∙ m.2)

arrow : (a b : Role) → IsTypedRole (arrow_role a b) → IsArrow a b (arrow_role a b)
arrow a b h =
    let k = domain-is (λ t. if_domain (λ u. ranges_over (set_type (pair_type t u))) b) a h in
    let l = domain-is (λ u. ranges_over (set_type (pair_type k.0 u))) b k.2 in
    (k.0, l.0, k.1, l.1, k.3 ∙ l.3)

two-sets : (a b : Role) → IsTypedRole (sets_role a b) → AreTwoSets a b (sets_role a b)
two-sets a b h =
    let k = set-is (λ t. if_set (λ u. if_holds (same_type t u) (gives (set_type t))) b) a h in
    let l = set-is (λ u. if_holds (same_type k.0 u) (gives (set_type k.0))) b k.2 in
    let m = holds-is (same_type k.0 l.0) (gives (set_type k.0)) l.2 in
    (k.0, k.1, l.1 ∙ ap (λ t. gives (set_type t)) (sym (same_type-then k.0 l.0 m.0)), k.3 ∙ l.3 ∙ m.2)

two-domains : (a b : Role) → IsTypedRole (if_domain (λ t. if_domain (λ u. ranges_over (pair_type t u)) b) a) →
    (t : ValueType) × (u : ValueType) × (IsOver t a × IsOver u b × (if_domain (λ t. if_domain (λ u. ranges_over (pair_type t u)) b) a ≡ ranges_over (pair_type t u)))
two-domains a b h =
    let k = domain-is (λ t. if_domain (λ u. ranges_over (pair_type t u)) b) a h in
    let l = domain-is (λ u. ranges_over (pair_type k.0 u)) b k.2 in
    (k.0, l.0, (k.1, l.1, k.3 ∙ l.3))

product : (a b : Role) → IsTypedRole (product_role a b) → IsProduct a b (product_role a b)
product (gives (set_type t)) (gives (set_type u)) h = (t, u, inl (refl, refl, refl))
product a b h = let k = two-domains a b h in (k.0, k.1, inr k.2)

domain-part : (r a : Role) → IsTypedRole (domain_part_role r a) → IsDomainPart r a (domain_part_role r a)
domain-part r a h =
    let k = relation-is (λ t u. if_set (λ v. if_holds (same_type v t) (gives (set_type (pair_type t u)))) a) r h in
    let l = set-is (λ v. if_holds (same_type v k.0) (gives (set_type (pair_type k.0 k.1)))) a k.3 in
    let m = holds-is (same_type l.0 k.0) (gives (set_type (pair_type k.0 k.1))) l.2 in
    (k.0, k.1, k.2, l.1 ∙ ap (λ t. gives (set_type t)) (same_type-then l.0 k.0 m.0), k.4 ∙ l.3 ∙ m.2)

range-part : (r a : Role) → IsTypedRole (range_part_role r a) → IsRangePart r a (range_part_role r a)
range-part r a h =
    let k = relation-is (λ t u. if_set (λ v. if_holds (same_type v u) (gives (set_type (pair_type t u)))) a) r h in
    let l = set-is (λ v. if_holds (same_type v k.1) (gives (set_type (pair_type k.0 k.1)))) a k.3 in
    let m = holds-is (same_type l.0 k.1) (gives (set_type (pair_type k.0 k.1))) l.2 in
    (k.0, k.1, k.2, l.1 ∙ ap (λ t. gives (set_type t)) (same_type-then l.0 k.1 m.0), k.4 ∙ l.3 ∙ m.2)

overriding : (a b : Role) → IsTypedRole (override_role a b) → IsOverriding a b (override_role a b)
overriding a b h =
    let k = relation-is (λ t u. if_relation (λ v w. if_holds (same_type t v && same_type u w) (gives (set_type (pair_type t u)))) b) a h in
    let l = relation-is (λ v w. if_holds (same_type k.0 v && same_type k.1 w) (gives (set_type (pair_type k.0 k.1)))) b k.3 in
    let m = holds-is (same_type k.0 l.0 && same_type k.1 l.1) (gives (set_type (pair_type k.0 k.1))) l.3 in
    let q = and-both (same_type k.0 l.0) (same_type k.1 l.1) m.0 in
    let e = same_type-then k.0 l.0 q.0 in
    let d = same_type-then k.1 l.1 q.1 in
    (k.0, k.1, k.2, l.2 ∙ (λ i. gives (set_type (pair_type (sym e i) (sym d i)))), k.4 ∙ l.4 ∙ m.2)

pair : (a b : Role) → IsTypedRole (pair_role a b) → IsPair a b (pair_role a b)
pair a b h =
    let k = value-is (λ t. if_value (λ u. gives (pair_type t u)) b) a h in
    let l = value-is (λ u. gives (pair_type k.0 u)) b k.2 in
    (k.0, l.0, k.1, l.1, k.3 ∙ l.3)

image : (r a : Role) → IsTypedRole (image_role r a) → IsImage r a (image_role r a)
image r a h =
    let k = relation-is (λ t u. if_set (λ v. if_holds (same_type v t) (gives (set_type u))) a) r h in
    let l = set-is (λ v. if_holds (same_type v k.0) (gives (set_type k.1))) a k.3 in
    let m = holds-is (same_type l.0 k.0) (gives (set_type k.1)) l.2 in
    (k.0, k.1, k.2, l.1 ∙ ap (λ t. gives (set_type t)) (same_type-then l.0 k.0 m.0), k.4 ∙ l.3 ∙ m.2)

application : (f a : Role) → IsTypedRole (application_role f a) → IsApplication f a (application_role f a)
application f a h =
    let k = relation-is (λ t u. if_value (λ v. if_holds (same_type v t) (gives u)) a) f h in
    let l = value-is (λ v. if_holds (same_type v k.0) (gives k.1)) a k.3 in
    let m = holds-is (same_type l.0 k.0) (gives k.1) l.2 in
    (k.0, k.1, k.2, l.1 ∙ ap gives (same_type-then l.0 k.0 m.0), k.4 ∙ l.3 ∙ m.2)

composition : (a b : Role) → IsTypedRole (composition_role a b) → IsComposition a b (composition_role a b)
composition a b h =
    let k = relation-is (λ t u. if_relation (λ v w. if_holds (same_type u v) (gives (set_type (pair_type t w)))) b) a h in
    let l = relation-is (λ v w. if_holds (same_type k.1 v) (gives (set_type (pair_type k.0 w)))) b k.3 in
    let m = holds-is (same_type k.1 l.0) (gives (set_type (pair_type k.0 l.1))) l.3 in
    (k.0, k.1, l.1, k.2, l.2 ∙ ap (λ t. gives (set_type (pair_type t l.1))) (sym (same_type-then k.1 l.0 m.0)), k.4 ∙ l.4 ∙ m.2)

of-two : (o : BinOp) (a b : Role) → IsTypedRole (binary_role o a b) → IsOfTwo o a b (binary_role o a b)
of-two And a b h = two-predicates a b h
of-two Or a b h = two-predicates a b h
of-two Imp a b h = two-predicates a b h
of-two Iff a b h = two-predicates a b h
of-two Eq a b h = two-values a b h
of-two Lt a b h = two-numbers predicate a b h
of-two Le a b h = two-numbers predicate a b h
of-two In a b h = membership a b h
of-two Relations a b h = arrow a b h
of-two PartialFunctions a b h = arrow a b h
of-two TotalFunctions a b h = arrow a b h
of-two PartialInjections a b h = arrow a b h
of-two TotalInjections a b h = arrow a b h
of-two PartialSurjections a b h = arrow a b h
of-two TotalSurjections a b h = arrow a b h
of-two Bijections a b h = arrow a b h
of-two Union a b h = two-sets a b h
of-two Inter a b h = two-sets a b h
of-two Minus a b h = two-sets a b h
of-two Times a b h = product a b h
of-two DomRes a b h = domain-part b a h
of-two DomSub a b h = domain-part b a h
of-two RanRes a b h = range-part a b h
of-two RanSub a b h = range-part a b h
of-two Over a b h = overriding a b h
of-two Maps a b h = pair a b h
of-two Range a b h = two-numbers (gives (set_type int_type)) a b h
of-two Add a b h = two-numbers (gives int_type) a b h
of-two Sub a b h = two-numbers (gives int_type) a b h
of-two Mul a b h = two-numbers (gives int_type) a b h
of-two Div a b h = two-numbers (gives int_type) a b h
of-two Mod a b h = two-numbers (gives int_type) a b h
of-two Power a b h = two-numbers (gives int_type) a b h
of-two Image a b h = image a b h
of-two Apply a b h = application a b h
of-two Comp a b h = composition a b h

pub operands_are_typed : OperandsAreTyped
operands_are_typed = record {
  one = λ table around o a h. of-one o (role table around a) h;
  two = λ table around o a b h. of-two o (role table around a) (role table around b) h;
}
