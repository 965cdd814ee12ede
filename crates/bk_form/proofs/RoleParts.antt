-- Where a rule of typing answers a predicate, a type or another domain, what its parts stand for.
use Rattle.std.proofs.Common.{◌≡◌, inl, inr, refl, sym, ◌∙◌, ap, subst, Bool, true, false, ◌&&◌}
use Rattle.bk_val.specs.ValueType.{ValueType, int_type, pair_type, set_type}
use Rattle.bk_form.specs.Role.{Role, gives, ranges_over, predicate, if_holds, if_predicate, if_number, if_value, if_set, if_relation, if_domain, same_type, unary_role, connective_role, numbers_role, equality_role, membership_role, arrow_role, sets_role, domain_part_role, range_part_role, override_role, pair_role, image_role, application_role, composition_role}
use Rattle.bk_form.specs.declared.operator.UnOp.TheVariants.{Card, Max, Dom, Ran, Id, Inverse, Pow}
use Rattle.bk_form.proofs.Roles.{if_holds-gives, if_number-gives, if_value-gives, if_set-gives, if_relation-gives, same_type-then}
use Rattle.bk_form.proofs.Members.{and-both}
use Rattle.bk_form.proofs.Listed.{gives-same}
use Rattle.bk_form.specs.Settings.{IsOver}

-- ---- the rules, where they give a predicate
pub if_holds-predicate : (b : Bool) (r : Role) → if_holds b r ≡ predicate → (b ≡ true) × (r ≡ predicate)
if_holds-predicate true r h = (refl, h)
if_holds-predicate false r h = absurd (cc)

pub if_predicate-predicate : (r a : Role) → if_predicate r a ≡ predicate → (a ≡ predicate) × (r ≡ predicate)
if_predicate-predicate r predicate h = (refl, h)
if_predicate-predicate r _ h = absurd (cc)

pub if_number-predicate : (r a : Role) → if_number r a ≡ predicate → (a ≡ gives int_type) × (r ≡ predicate)
if_number-predicate r (gives int_type) h = (refl, h)
if_number-predicate r _ h = absurd (cc)

pub if_value-predicate : (f : ValueType → Role) (a : Role) → if_value f a ≡ predicate → (t : ValueType) × (a ≡ gives t) × (f t ≡ predicate)
if_value-predicate f (gives t) h = (t, refl, h)
if_value-predicate f _ h = absurd (cc)

pub if_domain-predicate : (f : ValueType → Role) (a : Role) → if_domain f a ≡ predicate → (t : ValueType) × IsOver t a × (f t ≡ predicate)
if_domain-predicate f (gives (set_type t)) h = (t, inl refl, h)
if_domain-predicate f (ranges_over t) h = (t, inr refl, h)
if_domain-predicate f _ h = absurd (cc)

pub if_domain-over : (f : ValueType → Role) (a : Role) (u : ValueType) → if_domain f a ≡ ranges_over u → (t : ValueType) × IsOver t a × (f t ≡ ranges_over u)
if_domain-over f (gives (set_type t)) u h = (t, inl refl, h)
if_domain-over f (ranges_over t) u h = (t, inr refl, h)
if_domain-over f _ u h = absurd (cc)

pub connective-parts : (a b : Role) → connective_role a b ≡ predicate → (a ≡ predicate) × (b ≡ predicate)
connective-parts a b h = let k = if_predicate-predicate (if_predicate predicate b) a h in let l = if_predicate-predicate predicate b k.1 in (k.0, l.0)

pub comparison-parts : (a b : Role) → numbers_role predicate a b ≡ predicate → (a ≡ gives int_type) × (b ≡ gives int_type)
comparison-parts a b h = let k = if_number-predicate (if_number predicate b) a h in let l = if_number-predicate predicate b k.1 in (k.0, l.0)

pub equality-parts : (a b : Role) → equality_role a b ≡ predicate → (t : ValueType) × (a ≡ gives t) × (b ≡ gives t)
equality-parts a b h =
    let k = if_value-predicate (λ t. if_value (λ u. if_holds (same_type t u) predicate) b) a h in
    let l = if_value-predicate (λ u. if_holds (same_type k.0 u) predicate) b k.2 in
    let m = if_holds-predicate (same_type k.0 l.0) predicate l.2 in
    (k.0, k.1, l.1 ∙ ap gives (sym (same_type-then k.0 l.0 m.0)))

pub membership-parts : (a b : Role) → membership_role a b ≡ predicate → (t : ValueType) × (a ≡ gives t) × IsOver t b
membership-parts a b h =
    let k = if_value-predicate (λ t. if_domain (λ u. if_holds (same_type t u) predicate) b) a h in
    let l = if_domain-predicate (λ u. if_holds (same_type k.0 u) predicate) b k.2 in
    let m = if_holds-predicate (same_type k.0 l.0) predicate l.2 in
    (k.0, k.1, subst (λ t. IsOver t b) (sym (same_type-then k.0 l.0 m.0)) l.1)

-- ---- the rules, where they give a type
pub number-parts : (a b : Role) (t : ValueType) → numbers_role (gives int_type) a b ≡ gives t → (a ≡ gives int_type) × (b ≡ gives int_type) × (t ≡ int_type)
number-parts a b t h = let k = if_number-gives (if_number (gives int_type) b) a t h in let l = if_number-gives (gives int_type) b t k.1 in (k.0, l.0, sym (gives-same int_type t l.1))

pub interval-parts : (a b : Role) (t : ValueType) → numbers_role (gives (set_type int_type)) a b ≡ gives t → (a ≡ gives int_type) × (b ≡ gives int_type) × (t ≡ set_type int_type)
interval-parts a b t h = let k = if_number-gives (if_number (gives (set_type int_type)) b) a t h in let l = if_number-gives (gives (set_type int_type)) b t k.1 in (k.0, l.0, sym (gives-same (set_type int_type) t l.1))

pub sets-parts : (a b : Role) (t : ValueType) → sets_role a b ≡ gives t → (u : ValueType) × (a ≡ gives (set_type u)) × (b ≡ gives (set_type u)) × (t ≡ set_type u)
sets-parts a b t h =
    let k = if_set-gives (λ s. if_set (λ u. if_holds (same_type s u) (gives (set_type s))) b) a t h in
    let l = if_set-gives (λ u. if_holds (same_type k.0 u) (gives (set_type k.0))) b t k.2 in
    let m = if_holds-gives (same_type k.0 l.0) (gives (set_type k.0)) t l.2 in
    (k.0, k.1, l.1 ∙ ap (λ x. gives (set_type x)) (sym (same_type-then k.0 l.0 m.0)), sym (gives-same (set_type k.0) t m.1))

pub domain_part-parts : (r a : Role) (t : ValueType) → domain_part_role r a ≡ gives t → (u : ValueType) × (w : ValueType) × (r ≡ gives (set_type (pair_type u w))) × (a ≡ gives (set_type u)) × (t ≡ set_type (pair_type u w))
domain_part-parts r a t h =
    let k = if_relation-gives (λ u x. if_set (λ v. if_holds (same_type v u) (gives (set_type (pair_type u x)))) a) r t h in
    let l = if_set-gives (λ v. if_holds (same_type v k.first) (gives (set_type (pair_type k.first k.second)))) a t k.result in
    let m = if_holds-gives (same_type l.0 k.first) (gives (set_type (pair_type k.first k.second))) t l.2 in
    (k.first, k.second, k.operand, l.1 ∙ ap (λ x. gives (set_type x)) (same_type-then l.0 k.first m.0), sym (gives-same (set_type (pair_type k.first k.second)) t m.1))

pub range_part-parts : (r a : Role) (t : ValueType) → range_part_role r a ≡ gives t → (u : ValueType) × (w : ValueType) × (r ≡ gives (set_type (pair_type u w))) × (a ≡ gives (set_type w)) × (t ≡ set_type (pair_type u w))
range_part-parts r a t h =
    let k = if_relation-gives (λ u x. if_set (λ v. if_holds (same_type v x) (gives (set_type (pair_type u x)))) a) r t h in
    let l = if_set-gives (λ v. if_holds (same_type v k.second) (gives (set_type (pair_type k.first k.second)))) a t k.result in
    let m = if_holds-gives (same_type l.0 k.second) (gives (set_type (pair_type k.first k.second))) t l.2 in
    (k.first, k.second, k.operand, l.1 ∙ ap (λ x. gives (set_type x)) (same_type-then l.0 k.second m.0), sym (gives-same (set_type (pair_type k.first k.second)) t m.1))

pub override-parts : (a b : Role) (t : ValueType) → override_role a b ≡ gives t → (u : ValueType) × (w : ValueType) × (a ≡ gives (set_type (pair_type u w))) × (b ≡ gives (set_type (pair_type u w))) × (t ≡ set_type (pair_type u w))
override-parts a b t h =
    let k = if_relation-gives (λ u x. if_relation (λ y z. if_holds (same_type u y && same_type x z) (gives (set_type (pair_type u x)))) b) a t h in
    let l = if_relation-gives (λ y z. if_holds (same_type k.first y && same_type k.second z) (gives (set_type (pair_type k.first k.second)))) b t k.result in
    let m = if_holds-gives (same_type k.first l.first && same_type k.second l.second) (gives (set_type (pair_type k.first k.second))) t l.result in
    let q = and-both (same_type k.first l.first) (same_type k.second l.second) m.0 in
    let e = same_type-then k.first l.first q.0 in
    let d = same_type-then k.second l.second q.1 in
    (k.first, k.second, k.operand, l.operand ∙ (λ i. gives (set_type (pair_type (sym e i) (sym d i)))), sym (gives-same (set_type (pair_type k.first k.second)) t m.1))

pub pair-parts : (a b : Role) (t : ValueType) → pair_role a b ≡ gives t → (u : ValueType) × (w : ValueType) × (a ≡ gives u) × (b ≡ gives w) × (t ≡ pair_type u w)
pair-parts a b t h =
    let k = if_value-gives (λ u. if_value (λ x. gives (pair_type u x)) b) a t h in
    let l = if_value-gives (λ x. gives (pair_type k.0 x)) b t k.2 in
    (k.0, l.0, k.1, l.1, sym (gives-same (pair_type k.0 l.0) t l.2))

pub image-parts : (r a : Role) (t : ValueType) → image_role r a ≡ gives t → (u : ValueType) × (w : ValueType) × (r ≡ gives (set_type (pair_type u w))) × (a ≡ gives (set_type u)) × (t ≡ set_type w)
image-parts r a t h =
    let k = if_relation-gives (λ u x. if_set (λ v. if_holds (same_type v u) (gives (set_type x))) a) r t h in
    let l = if_set-gives (λ v. if_holds (same_type v k.first) (gives (set_type k.second))) a t k.result in
    let m = if_holds-gives (same_type l.0 k.first) (gives (set_type k.second)) t l.2 in
    (k.first, k.second, k.operand, l.1 ∙ ap (λ x. gives (set_type x)) (same_type-then l.0 k.first m.0), sym (gives-same (set_type k.second) t m.1))

pub application-parts : (f a : Role) (t : ValueType) → application_role f a ≡ gives t → (u : ValueType) × (f ≡ gives (set_type (pair_type u t))) × (a ≡ gives u)
application-parts f a t h =
    let k = if_relation-gives (λ u x. if_value (λ v. if_holds (same_type v u) (gives x)) a) f t h in
    let l = if_value-gives (λ v. if_holds (same_type v k.first) (gives k.second)) a t k.result in
    let m = if_holds-gives (same_type l.0 k.first) (gives k.second) t l.2 in
    (k.first, k.operand ∙ ap (λ x. gives (set_type (pair_type k.first x))) (gives-same k.second t m.1), l.1 ∙ ap gives (same_type-then l.0 k.first m.0))

pub composition-parts : (a b : Role) (t : ValueType) → composition_role a b ≡ gives t → (u : ValueType) × (v : ValueType) × (w : ValueType) × (a ≡ gives (set_type (pair_type u v))) × (b ≡ gives (set_type (pair_type v w))) × (t ≡ set_type (pair_type u w))
composition-parts a b t h =
    let k = if_relation-gives (λ t u. if_relation (λ v w. if_holds (same_type u v) (gives (set_type (pair_type t w)))) b) a t h in
    let l = if_relation-gives (λ v w. if_holds (same_type k.second v) (gives (set_type (pair_type k.first w)))) b t k.result in
    let m = if_holds-gives (same_type k.second l.first) (gives (set_type (pair_type k.first l.second))) t l.result in
    (k.first, k.second, l.second, k.operand, l.operand ∙ ap (λ x. gives (set_type (pair_type x l.second))) (sym (same_type-then k.second l.first m.0)), sym (gives-same (set_type (pair_type k.first l.second)) t m.1))

pub dom-parts : (r : Role) (t : ValueType) → unary_role Dom r ≡ gives t → (u : ValueType) × (w : ValueType) × (r ≡ gives (set_type (pair_type u w))) × (t ≡ set_type u)
dom-parts r t h = let k = if_relation-gives (λ u w. gives (set_type u)) r t h in (k.first, k.second, k.operand, sym (gives-same (set_type k.first) t k.result))

pub ran-parts : (r : Role) (t : ValueType) → unary_role Ran r ≡ gives t → (u : ValueType) × (w : ValueType) × (r ≡ gives (set_type (pair_type u w))) × (t ≡ set_type w)
ran-parts r t h = let k = if_relation-gives (λ u w. gives (set_type w)) r t h in (k.first, k.second, k.operand, sym (gives-same (set_type k.second) t k.result))

pub id-parts : (r : Role) (t : ValueType) → unary_role Id r ≡ gives t → (u : ValueType) × (r ≡ gives (set_type u)) × (t ≡ set_type (pair_type u u))
id-parts r t h = let k = if_set-gives (λ u. gives (set_type (pair_type u u))) r t h in (k.0, k.1, sym (gives-same (set_type (pair_type k.0 k.0)) t k.2))

pub inverse-parts : (r : Role) (t : ValueType) → unary_role Inverse r ≡ gives t → (u : ValueType) × (w : ValueType) × (r ≡ gives (set_type (pair_type u w))) × (t ≡ set_type (pair_type w u))
inverse-parts r t h = let k = if_relation-gives (λ u w. gives (set_type (pair_type w u))) r t h in (k.first, k.second, k.operand, sym (gives-same (set_type (pair_type k.second k.first)) t k.result))

pub card-parts : (r : Role) (t : ValueType) → unary_role Card r ≡ gives t → (u : ValueType) × (r ≡ gives (set_type u)) × (t ≡ int_type)
card-parts r t h = let k = if_set-gives (λ u. gives int_type) r t h in (k.0, k.1, sym (gives-same int_type t k.2))

-- ---- the rules, where they give another domain
over-same : (t u : ValueType) → ranges_over t ≡ ranges_over u → t ≡ u
over-same t u h = cc

pub arrow-parts : (a b : Role) (x : ValueType) → arrow_role a b ≡ ranges_over x → (t : ValueType) × (u : ValueType) × IsOver t a × IsOver u b × (x ≡ set_type (pair_type t u))
arrow-parts a b x h =
    let k = if_domain-over (λ t. if_domain (λ u. ranges_over (set_type (pair_type t u))) b) a x h in
    let l = if_domain-over (λ u. ranges_over (set_type (pair_type k.0 u))) b x k.2 in
    (k.0, l.0, k.1, l.1, sym (over-same (set_type (pair_type k.0 l.0)) x l.2))

pub power-parts : (a : Role) (x : ValueType) → unary_role Pow a ≡ ranges_over x → (t : ValueType) × IsOver t a × (x ≡ set_type t)
power-parts a x h = let k = if_domain-over (λ t. ranges_over (set_type t)) a x h in (k.0, k.1, sym (over-same (set_type k.0) x k.2))

pub extreme-parts : (r : Role) (t : ValueType) → unary_role Max r ≡ gives t → (r ≡ gives (set_type int_type)) × (t ≡ int_type)
extreme-parts r t h =
    let k = if_set-gives (λ u. if_holds (same_type u int_type) (gives int_type)) r t h in
    let m = if_holds-gives (same_type k.0 int_type) (gives int_type) t k.2 in
    (k.1 ∙ ap (λ u. gives (set_type u)) (same_type-then k.0 int_type m.0), sym (gives-same int_type t m.1))
