-- A formula that gives a type means no more than its value.
use Rattle.std.proofs.Common.{◌≡◌, ◌⊎◌, inl, inr, ℕ, List, [], refl, sym, ◌∙◌, ap, false}
use Rattle.std.specs.Prelude.{Option, Some, None, slice_get}
use Rattle.bk_val.specs.Value.{MathValue}
use Rattle.bk_val.specs.ValueType.{ValueType, pair_type, set_type}
use Rattle.bk_form.specs.Table.{Table, set_size}
use Rattle.bk_form.specs.Formula.{Formula, bound, named, btrue, bfalse, unary, binary, for_all, for_some}
use Rattle.bk_form.specs.Search.{Finder}
use Rattle.bk_form.specs.Environment.{Environment, Binding, under}
use Rattle.bk_form.specs.Role.{Role, gives, ranges_over, predicate, if_holds, if_predicate, if_number, if_value, if_domain, same_type, product_role, named_role, connective_role, numbers_role, equality_role, membership_role, arrow_role, unary_role, binary_role, quantifier_role, all_listed}
use Rattle.bk_form.specs.Operators.{elements, pairs_of, is_pair_of, is_element, set_value, named_value}
use Rattle.bk_form.specs.Meaning.{Meaning, meaning, value, of_value, bound_meaning, named_meaning, unary_meaning, binary_meaning}
use Rattle.bk_form.specs.declared.operator.UnOp.{UnOp}
use Rattle.bk_form.specs.declared.operator.UnOp.TheVariants.{Not, Pow, Pow1}
use Rattle.bk_form.specs.declared.operator.BinOp.{BinOp}
use Rattle.bk_form.specs.declared.operator.BinOp.TheVariants.{And, Or, Imp, Iff, Eq, Lt, Le, In, Relations, PartialFunctions, TotalFunctions, PartialInjections, TotalInjections, PartialSurjections, TotalSurjections, Bijections, Times}
use Rattle.bk_form.specs.declared.operator.Domain.{Domain}
use Rattle.bk_form.specs.declared.operator.Domain.TheVariants.{Bool as Booleans, Enum}
use Rattle.bk_form.proofs.Members.{element-set_value, product-has, named-has}
use Rattle.bk_form.proofs.Roles.{if_holds-gives, if_predicate-gives, if_number-gives, if_value-gives, if_domain-gives}

-- ---- rules that give no type
pub connective-gives : (a b : Role) (t : ValueType) → connective_role a b ≡ gives t → ⊥
connective-gives a b t h = let k = if_predicate-gives (if_predicate predicate b) a t h in let l = if_predicate-gives predicate b t k.1 in cc l.1

pub comparison-gives : (a b : Role) (t : ValueType) → numbers_role predicate a b ≡ gives t → ⊥
comparison-gives a b t h = let k = if_number-gives (if_number predicate b) a t h in let l = if_number-gives predicate b t k.1 in cc l.1

pub equality-gives : (a b : Role) (t : ValueType) → equality_role a b ≡ gives t → ⊥
equality-gives a b t h =
    let k = if_value-gives (λ s. if_value (λ u. if_holds (same_type s u) predicate) b) a t h in
    let l = if_value-gives (λ u. if_holds (same_type k.0 u) predicate) b t k.2 in
    let m = if_holds-gives (same_type k.0 l.0) predicate t l.2 in
    cc m.1

pub membership-gives : (a b : Role) (t : ValueType) → membership_role a b ≡ gives t → ⊥
membership-gives a b t h =
    let k = if_value-gives (λ s. if_domain (λ u. if_holds (same_type s u) predicate) b) a t h in
    if_domain-gives (λ u. if_holds (same_type k.0 u) predicate) b t (λ u g. let m = if_holds-gives (same_type k.0 u) predicate t g in cc m.1) k.2

ranges-gives : (u t : ValueType) → ranges_over u ≡ gives t → ⊥
ranges-gives u t h = cc

pub arrow-gives : (a b : Role) (t : ValueType) → arrow_role a b ≡ gives t → ⊥
arrow-gives a b t h = if_domain-gives (λ s. if_domain (λ u. ranges_over (set_type (pair_type s u))) b) a t (λ s g. if_domain-gives (λ u. ranges_over (set_type (pair_type s u))) b t (λ u k. ranges-gives (set_type (pair_type s u)) t k) g) h

pub power-gives : (a : Role) (t : ValueType) → if_domain (λ u. ranges_over (set_type u)) a ≡ gives t → ⊥
power-gives a t h = if_domain-gives (λ u. ranges_over (set_type u)) a t (λ u k. ranges-gives (set_type u) t k) h

pub quantifier-gives : (table : Table) (ts : List ValueType) (r : Role) (t : ValueType) → quantifier_role table ts r ≡ gives t → ⊥
quantifier-gives table ts r t h = let k = if_holds-gives (all_listed table ts) (if_predicate predicate r) t h in let l = if_predicate-gives predicate r t k.1 in cc l.1

domains-give : (a b : Role) (t : ValueType) → if_domain (λ s. if_domain (λ u. ranges_over (pair_type s u)) b) a ≡ gives t → ⊥
domains-give a b t h = if_domain-gives (λ s. if_domain (λ u. ranges_over (pair_type s u)) b) a t (λ s g. if_domain-gives (λ u. ranges_over (pair_type s u)) b t (λ u k. ranges-gives (pair_type s u) t k) g) h

-- a product that gives a type is of two set values
pub record ProductGives (a b : Role) (t : ValueType) : Type 0 where
  pub first : ValueType
  pub second : ValueType
  pub left : a ≡ gives (set_type first)
  pub right : b ≡ gives (set_type second)
  pub result : set_type (pair_type first second) ≡ t

pub product-gives : (a b : Role) (t : ValueType) → product_role a b ≡ gives t → ProductGives a b t
product-gives (gives (set_type u)) (gives (set_type v)) t h = record { first = u; second = v; left = refl; right = refl; result = cc }
product-gives a b t h = absurd (domains-give a b t h)

-- ---- the values in such a formula are the elements of its value
named-kind : (table : Table) (d : Domain) (t : ValueType) → named_role table d ≡ gives t → (d ≡ Booleans) ⊎ ((n : ℕ) × (d ≡ Enum n))
named-kind table Booleans t h = inl refl
named-kind table (Enum n) t h = inr (n, refl)
named-kind table _ t h = absurd (cc)

named-value : (table : Table) (d : Domain) (t : ValueType) → named_role table d ≡ gives t → named_meaning table d ≡ of_value (gives t) (named_value (set_size table) d)
named-value table d t h = λ i. record { role = h i; value = named_value (set_size table) d; truth = false; contains = λ v. named-has (set_size table) d (named-kind table d t h) v i }

unary-value : (o : UnOp) (m : Meaning) (t : ValueType) → unary_role o m.role ≡ gives t → unary_meaning o m ≡ of_value (gives t) (unary_meaning o m).value
unary-value Not m t h = let k = if_predicate-gives predicate m.role t h in absurd (cc k.1)
unary-value Pow m t h = absurd (power-gives m.role t h)
unary-value Pow1 m t h = absurd (power-gives m.role t h)
unary-value o m t h = ap (λ r. of_value r (unary_meaning o m).value) h

binary-value : (find : Finder) (sizes : ℕ → ℕ) (o : BinOp) (m n : Meaning) (t : ValueType) → ((u : ValueType) → m.role ≡ gives u → m ≡ of_value (gives u) m.value) → ((u : ValueType) → n.role ≡ gives u → n ≡ of_value (gives u) n.value) → binary_role o m.role n.role ≡ gives t → binary_meaning find sizes o m n ≡ of_value (gives t) (binary_meaning find sizes o m n).value
binary-value find sizes And m n t f g h = absurd (connective-gives m.role n.role t h)
binary-value find sizes Or m n t f g h = absurd (connective-gives m.role n.role t h)
binary-value find sizes Imp m n t f g h = absurd (connective-gives m.role n.role t h)
binary-value find sizes Iff m n t f g h = absurd (connective-gives m.role n.role t h)
binary-value find sizes Eq m n t f g h = absurd (equality-gives m.role n.role t h)
binary-value find sizes Lt m n t f g h = absurd (comparison-gives m.role n.role t h)
binary-value find sizes Le m n t f g h = absurd (comparison-gives m.role n.role t h)
binary-value find sizes In m n t f g h = absurd (membership-gives m.role n.role t h)
binary-value find sizes Relations m n t f g h = absurd (arrow-gives m.role n.role t h)
binary-value find sizes PartialFunctions m n t f g h = absurd (arrow-gives m.role n.role t h)
binary-value find sizes TotalFunctions m n t f g h = absurd (arrow-gives m.role n.role t h)
binary-value find sizes PartialInjections m n t f g h = absurd (arrow-gives m.role n.role t h)
binary-value find sizes TotalInjections m n t f g h = absurd (arrow-gives m.role n.role t h)
binary-value find sizes PartialSurjections m n t f g h = absurd (arrow-gives m.role n.role t h)
binary-value find sizes TotalSurjections m n t f g h = absurd (arrow-gives m.role n.role t h)
binary-value find sizes Bijections m n t f g h = absurd (arrow-gives m.role n.role t h)
binary-value find sizes Times m n t f g h =
    let k = product-gives m.role n.role t h in
    let a = f (set_type k.first) k.left in
    let b = g (set_type k.second) k.right in
    let same : (v : MathValue) → is_pair_of m.contains n.contains v ≡ is_element v (set_value (pairs_of (elements m.value) (elements n.value))) =
    λ v. (λ i. is_pair_of ((a i).contains) ((b i).contains) v) ∙ product-has (elements m.value) (elements n.value) v ∙ sym (element-set_value (pairs_of (elements m.value) (elements n.value)) v) in
    λ i. record { role = h i; value = set_value (pairs_of (elements m.value) (elements n.value)); truth = false; contains = λ v. same v i }
binary-value find sizes o m n t f g h = ap (λ r. of_value r (binary_meaning find sizes o m n).value) h

bound-value : (table : Table) (o : Option Binding) (t : ValueType) → (bound_meaning table o).role ≡ gives t → bound_meaning table o ≡ of_value (gives t) (bound_meaning table o).value
bound-value table None t h = absurd (cc)
bound-value table (Some b) t h = ap (λ r. of_value r b.1) h

module _ (find : Finder) where
  pub value-meaning : (e : Environment) (f : Formula) (t : ValueType) → (meaning find e f).role ≡ gives t → meaning find e f ≡ of_value (gives t) (value find e f)
  value-meaning e (bound n) t h = bound-value e.table (slice_get e.bound n) t h
  value-meaning e (named d) t h = named-value e.table d t h
  value-meaning e btrue t h = absurd (cc)
  value-meaning e bfalse t h = absurd (cc)
  value-meaning e (unary o a) t h = unary-value o (meaning find e a) t h
  value-meaning e (binary o a b) t h = binary-value find (set_size e.table) o (meaning find e a) (meaning find e b) t (value-meaning e a) (value-meaning e b) h
  value-meaning e (for_all ts p) t h = absurd (quantifier-gives e.table ts (meaning find (under e ts []) p).role t h)
  value-meaning e (for_some ts p) t h = absurd (quantifier-gives e.table ts (meaning find (under e ts []) p).role t h)
  value-meaning e f t h = ap (λ r. of_value r (value find e f)) h
