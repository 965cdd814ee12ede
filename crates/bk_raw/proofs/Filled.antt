-- What takes a type gives it.
use Rattle.std.proofs.Common.{◌≡◌, ℕ, List, refl, ◌∙◌, ap, Bool, true, false, ◌&&◌, arith, nat_eq}
use Rattle.std.specs.Prelude.{Option, None, Some}
use Rattle.std.proofs.lemmas.Bool.Decides.{nat_tests}
use Rattle.bk_val.specs.ValueType.{ValueType, int_type, bool_type, enum_type, pair_type, set_type}
use Rattle.bk_form.specs.Table.{Table, lists_type}
use Rattle.bk_form.specs.Formula.{Formula, binary}
use Rattle.bk_form.specs.Role.{role, gives, same_type}
use Rattle.bk_form.specs.declared.operator.BinOp.TheVariants.{Maps}
use Rattle.bk_form.proofs.Roles.{same_type-then}
use Rattle.bk_raw.specs.Meaning.Outcome.{Joint, union_joint, inter_joint, minus_joint, over_joint, joint_op, joins, Partial, whole, hollow, single_of, pair_of, joint_of, filled, where_holds, single_made, both_made}
use Rattle.bk_raw.specs.Meaning.RightReading.{Whenever, IsRightPartial}

nat_eq-self : (n : ℕ) → nat_eq n n ≡ true
nat_eq-self n = grind (arith, nat_tests)

pub and-true : (a b : Bool) → a ≡ true → b ≡ true → (a && b) ≡ true
and-true a b h k = rw (h, k) refl

pub and-both : (a b : Bool) → (a && b) ≡ true → (a ≡ true) × (b ≡ true)
and-both true b h = (refl, h)
and-both false b h = absurd (cc)

pub same_type-self : (t : ValueType) → same_type t t ≡ true
same_type-self int_type = refl
same_type-self bool_type = refl
same_type-self (enum_type n) = nat_eq-self n
same_type-self (pair_type t u) = and-true (same_type t t) (same_type u u) (same_type-self t) (same_type-self u)
same_type-self (set_type t) = same_type-self t

module _ (table : Table) (around : List ValueType) where
  abbrev pub Gives : ValueType → Formula → Type 0
  Gives t f = role table around f ≡ gives t

  where-whole : (b : Bool) (t u : ValueType) (f : Formula) → (b ≡ true → t ≡ u) → Gives t f → Whenever (Gives u) (where_holds b (Some f))
  where-whole true t u f e h = h ∙ ap gives (e refl)
  where-whole false t u f e h = tt

  single-gives : (t : ValueType) (f : Option Formula) → Whenever (Gives t) f → Whenever (Gives (set_type t)) (single_made f)
  single-gives t None h = tt
  single-gives t (Some f) h = rw h refl

  pair-gives : (t u : ValueType) (f g : Option Formula) → Whenever (Gives t) f → Whenever (Gives u) g → Whenever (Gives (pair_type t u)) (both_made Maps f g)
  pair-gives t u None g h k = tt
  pair-gives t u (Some f) None h k = tt
  pair-gives t u (Some f) (Some g) h k = rw (h, k) refl

  pub joint-gives : (j : Joint) (t : ValueType) (f g : Formula) → joins j t ≡ true → Gives t f → Gives t g → Gives t (binary (joint_op j) f g)
  joint-gives union_joint (set_type t) f g e h k = rw (h, k, same_type-self t) refl
  joint-gives inter_joint (set_type t) f g e h k = rw (h, k, same_type-self t) refl
  joint-gives minus_joint (set_type t) f g e h k = rw (h, k, same_type-self t) refl
  joint-gives over_joint (set_type (pair_type t u)) f g e h k = rw (h, k, same_type-self t, same_type-self u) refl
  joint-gives _ _ f g e h k = absurd (cc)

  joints-give : (b : Bool) (j : Joint) (t : ValueType) (f g : Option Formula) → (b ≡ true → joins j t ≡ true) → Whenever (Gives t) f → Whenever (Gives t) g → Whenever (Gives t) (where_holds b (both_made (joint_op j) f g))
  joints-give false j t f g e h k = tt
  joints-give true j t None g e h k = tt
  joints-give true j t (Some f) None e h k = tt
  joints-give true j t (Some f) (Some g) e h k = joint-gives j t f g (e refl) h k

  pub filled-gives : (p : Partial) (t : ValueType) → IsRightPartial table around p → lists_type table t ≡ true → Whenever (Gives t) (filled p t)
  filled-gives (whole f t) u h l = where-whole (same_type t u) t u f (same_type-then t u) h.0
  filled-gives hollow (set_type t) h l = rw l refl
  filled-gives hollow int_type h l = tt
  filled-gives hollow bool_type h l = tt
  filled-gives hollow (enum_type n) h l = tt
  filled-gives hollow (pair_type t u) h l = tt
  filled-gives (single_of p) (set_type t) h l = single-gives t (filled p t) (filled-gives p t h l)
  filled-gives (single_of p) int_type h l = tt
  filled-gives (single_of p) bool_type h l = tt
  filled-gives (single_of p) (enum_type n) h l = tt
  filled-gives (single_of p) (pair_type t u) h l = tt
  filled-gives (pair_of p q) (pair_type t u) h l = let m = and-both (lists_type table t) (lists_type table u) l in pair-gives t u (filled p t) (filled q u) (filled-gives p t h.0 m.0) (filled-gives q u h.1 m.1)
  filled-gives (pair_of p q) int_type h l = tt
  filled-gives (pair_of p q) bool_type h l = tt
  filled-gives (pair_of p q) (enum_type n) h l = tt
  filled-gives (pair_of p q) (set_type t) h l = tt
  filled-gives (joint_of j p q) t h l = joints-give (joins j t) j t (filled p t) (filled q t) (λ e. e) (filled-gives p t h.0 l) (filled-gives q t h.1 l)
