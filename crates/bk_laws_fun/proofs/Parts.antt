-- What a formula that types says of its parts, and values that are the same or not.
use Rattle.std.proofs.Common.{◌≡◌, refl, sym, ◌∙◌, ap, subst, Bool, true, false, not, ◌⊎◌, inl, inr}
use Rattle.bk_val.specs.Value.{MathValue, set, none, more, list_of}
use Rattle.bk_val.specs.ValueType.{ValueType, set_type, pair_type}
use Rattle.bk_val.specs.CmpLaws.{same_value, value_eq-self}
use Rattle.bk_form.specs.Formula.{unary, binary, Formula}
use Rattle.bk_form.specs.Environment.{bound_types, Environment}
use Rattle.bk_form.specs.Role.{role, Role, gives, untyped, ranges_over}
use Rattle.bk_form.specs.Operators.{is_equal, is_element}
use Rattle.bk_form.specs.Meaning.{value, within}
use Rattle.bk_form.specs.declared.operator.UnOp.TheVariants.{Id, Inverse}
use Rattle.bk_form.specs.declared.operator.BinOp.TheVariants.{In, Maps, Times}
use Rattle.bk_form.specs.Table.{set_size}
use Rattle.bk_form.specs.Search.{Finder}
use Rattle.bk_form.specs.Settings.{IsPredicateIn, GivesIn, IsSetting, IsOver}
use Rattle.bk_form.proofs.Typed.{Of}
use Rattle.bk_form.proofs.Members.{has-if}
use Rattle.bk_form.proofs.Valued.{sound_typing}
use Rattle.bk_form.proofs.Givers.{product-gives}
use Rattle.bk_form.proofs.Forms.{is_set_form, member}
use Rattle.bk_form.proofs.SetMembers.{in-set-parts}
use Rattle.bk_form.proofs.RoleParts.{pair-parts, inverse-parts, id-parts}

rel-same : (t u v w : ValueType) → set_type (pair_type t u) ≡ set_type (pair_type v w) → (t ≡ v) × (u ≡ w)
rel-same t u v w h = (cc, cc)

module _ (find : Finder) (e : Environment) where
  -- a pair in a form that is a set
  pub pair-in : (x y b : Formula) → is_set_form b ≡ true → IsPredicateIn e (binary In (binary Maps x y) b) → (t : ValueType) × (u : ValueType) × GivesIn e x t × GivesIn e y u × GivesIn e b (set_type (pair_type t u))
  pair-in x y b form h =
      let k = in-set-parts find e (binary Maps x y) b form h in
      let p = pair-parts (role e.table (bound_types e) x) (role e.table (bound_types e) y) k.0 k.1 in
      (p.0, p.1, p.2, p.3, subst (λ t. GivesIn e b (set_type t)) p.4 k.2)

  pub inverse-part : (r : Formula) (t u : ValueType) → GivesIn e (unary Inverse r) (set_type (pair_type t u)) → GivesIn e r (set_type (pair_type u t))
  inverse-part r t u h =
      let k = inverse-parts (role e.table (bound_types e) r) (set_type (pair_type t u)) h in
      let q = rel-same t u k.1 k.0 k.3 in
      k.2 ∙ (λ i. gives (set_type (pair_type (sym q.1 i) (sym q.0 i))))

  pub id-part : (a : Formula) (t u : ValueType) → GivesIn e (unary Id a) (set_type (pair_type t u)) → GivesIn e a (set_type t) × (t ≡ u)
  id-part a t u h =
      let k = id-parts (role e.table (bound_types e) a) (set_type (pair_type t u)) h in
      let q = rel-same t u k.0 k.0 k.2 in
      (k.1 ∙ ap (λ x. gives (set_type x)) (sym q.0), q.0 ∙ sym q.1)

  pub product-part : (a b : Formula) (t u : ValueType) → GivesIn e (binary Times a b) (set_type (pair_type t u)) → GivesIn e a (set_type t) × GivesIn e b (set_type u)
  product-part a b t u h =
      let k = product-gives (role e.table (bound_types e) a) (role e.table (bound_types e) b) (set_type (pair_type t u)) h in
      let q = rel-same k.first k.second t u k.result in
      (k.left ∙ ap (λ x. gives (set_type x)) q.0, k.right ∙ ap (λ x. gives (set_type x)) q.1)

-- a set that is not empty has an element
pub some-in : (find : Finder) (e : Environment) → IsSetting find e → (b : Formula) (u : ValueType) → GivesIn e b (set_type u) → not (is_equal (value find e b) (set none)) ≡ true → (y : MathValue) × (within find e y b ≡ true)
some-in find e c b u types h = by_form (value find e b) refl (sound_typing.typed find e c.well c.typed b (set_type u) types)
  where
    by_form : (v : MathValue) → value find e b ≡ v → Of (set_size e.table) (set_type u) v → (y : MathValue) × (within find e y b ≡ true)
    by_form (set none) q o = let p : false ≡ true = sym (ap not (ap (λ z. is_equal z (set none)) q ∙ value_eq-self (set none))) ∙ h in absurd (cc)
    by_form (set (more v vs)) q o = (v, member find e b u types v ∙ ap (is_element v) q ∙ has-if v (list_of (more v vs)) (inl refl))
    by_form _ q o = absurd (cc)

pub equal-if : (v w : MathValue) → v ≡ w → is_equal v w ≡ true
equal-if v w h = subst (λ z. is_equal v z ≡ true) h (value_eq-self v)

pub gives-typed : (r : Role) (t : ValueType) → r ≡ gives t → r ≡ untyped → ⊥
gives-typed r t h k = let q : gives t ≡ untyped = sym h ∙ k in cc

-- two values are the same or not
pub same-or-not : (v w : MathValue) → (v ≡ w) ⊎ (v ≡ w → ⊥)
same-or-not v w = by_test (is_equal v w) refl
  where
    by_test : (b : Bool) → is_equal v w ≡ b → (v ≡ w) ⊎ (v ≡ w → ⊥)
    by_test true h = inl (same_value v w h)
    by_test false h = inr (λ k. let q : true ≡ false = sym (value_eq-self v) ∙ ap (is_equal v) k ∙ h in cc)

-- a role is over one type
pub one-over : (r : Role) (t u : ValueType) → IsOver t r → IsOver u r → t ≡ u
one-over r t u (inl h) (inl k) = let q : gives (set_type t) ≡ gives (set_type u) = sym h ∙ k in cc
one-over r t u (inl h) (inr k) = let q : gives (set_type t) ≡ ranges_over u = sym h ∙ k in absurd (cc)
one-over r t u (inr h) (inl k) = let q : ranges_over t ≡ gives (set_type u) = sym h ∙ k in absurd (cc)
one-over r t u (inr h) (inr k) = let q : ranges_over t ≡ ranges_over u = sym h ∙ k in cc
