-- What comes for a formula means what the formula means, at a state where the sides hold.
use Rattle.std.proofs.Common.{◌≡◌, ◌≢◌, ◌↔◌, inl, inr, ℕ, suc, ◌+◌, ◌-◌, List, [], ◌∷◌, ◌++◌, length, map, refl, sym, ◌∙◌, ap, subst, Bool, true, false, ◌&&◌, cond, arith}
use Rattle.std.specs.Prelude.{Some, is_some}
use Rattle.std.specs.Option.{option_map, option_and_then}
use Rattle.bk_val.specs.Value.{MathValue, int, bool, elem, pair}
use Rattle.bk_val.specs.ValueType.{ValueType, int_type, bool_type, enum_type, pair_type, set_type, is_value_of, are_of_types}
use Rattle.bk_val.specs.CmpLaws.{same_value, value_eq-self}
use Rattle.bk_form.specs.Table.{Table, set_size, lists_type, IsWellFormed}
use Rattle.bk_form.specs.Formula.{Formula, bound, btrue, named, unary, binary, for_all, for_some, comprehension, lambda, Formulas, no_formulas, formula_and}
use Rattle.bk_form.specs.Search.{Finder, IsSearch}
use Rattle.bk_form.specs.Environment.{Environment, State, IsTyped, under, at_state}
use Rattle.bk_form.specs.Role.{Role, gives, ranges_over, predicate, untyped, if_holds, if_predicate, same_type, role, roles, membership_role, quantifier_role, each_gives_set, are_ranges}
use Rattle.bk_form.specs.Replacement.{count, IsClosed}
use Rattle.bk_form.specs.Operators.{implies, is_equal, is_in_named, tuple_of}
use Rattle.bk_form.specs.Meaning.{meaning, meanings, value, truth, within, range_types}
use Rattle.bk_form.specs.declared.operator.UnOp.TheVariants.{Not, Dom, Ran, Pow}
use Rattle.bk_form.specs.declared.operator.BinOp.TheVariants.{And, Iff, Imp, Eq, In, Maps, Image, Apply, Comp}
use Rattle.bk_form.specs.declared.operator.Domain.TheVariants.{Integer, Bool as Booleans, Enum}
use Rattle.bk_form.proofs.Members.{both_ways, and-true, and-both}
use Rattle.bk_form.proofs.Agreement.{meaning-closed}
use Rattle.bk_form.proofs.Truth.{for_all-true, for_some-true, classical}
use Rattle.bk_form.specs.Defined.{InRanges}
use Rattle.bk_form.specs.Laws.{TakesOneOfEach}
use Rattle.bk_form.specs.Role.{all_listed}
use Rattle.bk_form.proofs.Domains.{comprehension-has, lambda-has, choices-are}
use Rattle.bk_form.proofs.Valued.{typed-value}
use Rattle.bk_form.specs.Predicates.{AllHold}
use Rattle.bk_seq.specs.Paths.{numbered_item}
use Rattle.bk_laws.specs.Rows.{Instance}
use Rattle.bk_laws.specs.Laws.{SidesHold}
use Rattle.bk_kernel.proofs.LawTables.{laws-are-true}
use Rattle.bk_form.specs.Settings.{IsSetting, IsOver}
use Rattle.bk_form.proofs.RoleParts.{equality-parts, membership-parts, application-parts, image-parts, composition-parts}
use Rattle.bk_form.proofs.Forms.{same-truth, same-value, same_members as set-same-members, member, value-form, set-form}
use Rattle.bk_form.proofs.SetMembers.{member-of, in-dom, in-ran, in-comp, in-power, in-image}
use Rattle.bk_laws.proofs.SetEquality.{equal-means}
use Rattle.bk_form.proofs.ArrowMembers.{apply-means}
use Rattle.bk_bind.specs.Opening.{opened}
use Rattle.bk_bind.specs.Laws.{TermsGive}
use Rattle.bk_kernel.specs.Obvious.{has_all}
use Rattle.bk_kernel.specs.Branches.{sides, operand, when}
use Rattle.bk_kernel.specs.Deciding.{constant, decided, equal_constants}
use Rattle.bk_kernel.specs.Membership.{met_by, applied_to, conjunction, memberships, unpaired}
use Rattle.bk_kernel.specs.Rewriting.{Rewriting, eq_to, eq_from, law_to, law_from, deciding, typing, negating, belonging, applying, extending, including, witnessing, becomes, turned, law_instance, negated, set_of_type, relation_of_types, same_members, all_within, witness, instance_for}
use Rattle.bk_form.specs.Each.{Each}
use Rattle.bk_form.specs.Predicates.{IsPredicate}
use Rattle.bk_bind.proofs.UnderTerms.{opening_means}
use Rattle.bk_form.proofs.Closed.{term-closed, predicate-closed}
use Rattle.bk_kernel.proofs.Decided.{decided-true, constants-equal}
use Rattle.bk_kernel.proofs.Tuples.{val, tuple-same, length-takes, unpaired-then, conjunction-then, conjunction-if, hold-left, hold-right, give-terms, takes-then, takes-if, length-values, conjunction-parts}
use Rattle.bk_arith.proofs.Options.{chained, mapped, some-same}
use Rattle.bk_kernel.proofs.EachItem.{each-item, each-left, hold-item, hold-append}
use Rattle.bk_kernel.proofs.Viewed.{when-then, sides-then, operand-then}

gives-typed : (r : Role) (t : ValueType) → r ≡ gives t → r ≢ untyped
gives-typed r t h k = let never : gives t ≡ untyped = sym h ∙ k in absurd (cc)

holds-typed : (b : Bool) (r : Role) → if_holds b r ≢ untyped → (b ≡ true) × (r ≢ untyped)
holds-typed true r h = (refl, h)
holds-typed false r h = absurd (h refl)

-- ---- forms that are a predicate or nothing
quantifier-typed : (table : Table) (ts : List ValueType) (r : Role) → quantifier_role table ts r ≢ untyped → quantifier_role table ts r ≡ predicate
quantifier-typed table ts r h = at (all_listed table ts) r h
  where
    at : (b : Bool) (r : Role) → if_holds b (if_predicate predicate r) ≢ untyped → if_holds b (if_predicate predicate r) ≡ predicate
    at true predicate h = refl
    at true (gives t) h = absurd (h refl)
    at true (ranges_over t) h = absurd (h refl)
    at true untyped h = absurd (h refl)
    at false r h = absurd (h refl)

membership-typed : (r s : Role) → membership_role r s ≢ untyped → membership_role r s ≡ predicate
membership-typed (gives t) (gives (set_type u)) h = at (same_type t u) h
  where
    at : (b : Bool) → if_holds b predicate ≢ untyped → if_holds b predicate ≡ predicate
    at true h = refl
    at false h = absurd (h refl)
membership-typed (gives t) (ranges_over u) h = at (same_type t u) h
  where
    at : (b : Bool) → if_holds b predicate ≢ untyped → if_holds b predicate ≡ predicate
    at true h = refl
    at false h = absurd (h refl)
membership-typed (gives t) (gives _) h = absurd (h refl)
membership-typed (gives t) _ h = absurd (h refl)
membership-typed _ s h = absurd (h refl)

set_of_type-then : (r : Role) (t : ValueType) → set_of_type r ≡ Some t → r ≡ gives (set_type t)
set_of_type-then (gives (set_type u)) t h = ap (λ x. gives (set_type x)) (some-same u t h)
set_of_type-then _ t h = absurd (cc)

relation-then : (r : Role) (w : ValueType × ValueType) → relation_of_types r ≡ Some w → r ≡ gives (set_type (pair_type w.0 w.1))
relation-then (gives (set_type (pair_type t u))) w h = let k = some-same (t, u) w h in λ i. gives (set_type (pair_type ((k i).0) ((k i).1)))
relation-then _ w h = absurd (cc)

-- ---- sets with every value of a type
of-range : (r : Role) (t : ValueType) → membership_role r (ranges_over t) ≡ predicate → r ≡ gives t
of-range r t h =
    let k = membership-parts r (ranges_over t) h in
    let same : k.0 ≡ t = elim k.2 [ inl e ↦ absurd (cc e) | inr e ↦ cc e ] in
    k.1 ∙ ap gives same

of-set : (b : Bool) (r : Role) (t : ValueType) → membership_role r (if_holds b (gives (set_type t))) ≡ predicate → r ≡ gives t
of-set true r t h =
    let k = membership-parts r (gives (set_type t)) h in
    let same : k.0 ≡ t = elim k.2 [ inl e ↦ cc e | inr e ↦ absurd (cc e) ] in
    k.1 ∙ ap gives same
of-set false (gives u) t h = absurd (cc)
of-set false _ t h = absurd (cc)

in_integer : (sizes : ℕ → ℕ) (v : MathValue) → is_value_of sizes int_type v ≡ true → is_in_named sizes Integer v ≡ true
in_integer sizes (int z) h = refl
in_integer sizes _ h = absurd (cc)

in_bool : (sizes : ℕ → ℕ) (v : MathValue) → is_value_of sizes bool_type v ≡ true → is_in_named sizes Booleans v ≡ true
in_bool sizes (bool b) h = refl
in_bool sizes _ h = absurd (cc)

in_enum : (sizes : ℕ → ℕ) (n : ℕ) (v : MathValue) → is_value_of sizes (enum_type n) v ≡ true → is_in_named sizes (Enum n) v ≡ true
in_enum sizes n (elem s i) h = h
in_enum sizes n _ h = absurd (cc)

module _ (table : Table) (well : IsWellFormed table) (find : Finder) (law : IsSearch find) (st : State) (typed : IsTyped (at_state table st)) where
  abbrev here : Environment
  here = at_state table st

  setting : IsSetting find here
  setting = record { search = law; well = well; typed = typed }

  abbrev H : Formula → Type 0
  H p = truth find here p ≡ true

  abbrev v_of : Formula → MathValue
  v_of f = value find here f

  -- ---- typing
  member-of-all : (a b : Formula) → IsPredicate table (binary In a b) → has_all b ≡ true → H (binary In a b)
  member-of-all a (named Integer) r h = in_integer (set_size table) (v_of a) (typed-value find here well typed a int_type (of-range (role table [] a) int_type r))
  member-of-all a (named Booleans) r h = in_bool (set_size table) (v_of a) (typed-value find here well typed a bool_type (of-set true (role table [] a) bool_type r))
  member-of-all a (named (Enum n)) r h = in_enum (set_size table) n (v_of a) (typed-value find here well typed a (enum_type n) (of-set (lists_type table (enum_type n)) (role table [] a) (enum_type n) r))
  member-of-all a _ r h = absurd (cc)

  -- ---- one bound variable
  abbrev under_one : ValueType → MathValue → Environment
  under_one t v = under here (t ∷ []) (v ∷ [])

  alone : (t : ValueType) (v : MathValue) (f : Formula) → IsClosed 0 f → meaning find (under_one t v) f ≡ meaning find here f
  alone t v f c = meaning-closed find here ((t, v) ∷ []) [] f c

  one-of-type : (t : ValueType) (v : MathValue) → is_value_of (set_size table) t v ≡ true → are_of_types (set_size table) (t ∷ []) (v ∷ []) ≡ true
  one-of-type t v h = and-true (is_value_of (set_size table) t v) true h refl

  all-one : (t : ValueType) (p : Formula) → H (for_all (t ∷ []) p) ↔ ((v : MathValue) → is_value_of (set_size table) t v ≡ true → truth find (under_one t v) p ≡ true)
  all-one t p = ((λ h v o. (for_all-true find law here (t ∷ []) p).0 h (v ∷ []) (one-of-type t v o)), (λ h. (for_all-true find law here (t ∷ []) p).1 (each h)))
    where
      each : ((v : MathValue) → is_value_of (set_size table) t v ≡ true → truth find (under_one t v) p ≡ true) → (vs : List MathValue) → are_of_types (set_size table) (t ∷ []) vs ≡ true → truth find (under here (t ∷ []) vs) p ≡ true
      each h (v ∷ []) o = h v (and-both (is_value_of (set_size table) t v) true o).0
      each h [] o = absurd (cc)
      each h (v ∷ w ∷ vs) o = let never : false ≡ true = (and-both (is_value_of (set_size table) t v) false o).1 in absurd (cc)

  some-one : (t : ValueType) (p : Formula) → H (for_some (t ∷ []) p) ↔ ((v : MathValue) × (is_value_of (set_size table) t v ≡ true) × (truth find (under_one t v) p ≡ true))
  some-one t p = (
    (λ h. let w = (for_some-true find law here (t ∷ []) p).0 h in each w.0 w.1 w.2),
    (λ w. (for_some-true find law here (t ∷ []) p).1 (w.0 ∷ [], one-of-type t w.0 w.1, w.2)),
  )
    where
      each : (vs : List MathValue) → are_of_types (set_size table) (t ∷ []) vs ≡ true → truth find (under here (t ∷ []) vs) p ≡ true → (v : MathValue) × (is_value_of (set_size table) t v ≡ true) × (truth find (under_one t v) p ≡ true)
      each (v ∷ []) o h = (v, (and-both (is_value_of (set_size table) t v) true o).0, h)
      each [] o h = absurd (cc)
      each (v ∷ w ∷ vs) o h = let never : false ≡ true = (and-both (is_value_of (set_size table) t v) false o).1 in absurd (cc)

  -- memberships of the bound variable, and of pairs with it
  in-one : (t : ValueType) (v : MathValue) (a : Formula) → IsClosed 0 a → truth find (under_one t v) (binary In (bound 0) a) ≡ within find here v a
  in-one t v a c = λ i. (alone t v a c i).contains v

  pair-first : (t : ValueType) (v : MathValue) (x r : Formula) → IsClosed 0 x → IsClosed 0 r → truth find (under_one t v) (binary In (binary Maps x (bound 0)) r) ≡ within find here (pair (v_of x) v) r
  pair-first t v x r c d = λ i. (alone t v r d i).contains (pair ((alone t v x c i).value) v)

  pair-second : (t : ValueType) (v : MathValue) (x r : Formula) → IsClosed 0 x → IsClosed 0 r → truth find (under_one t v) (binary In (binary Maps (bound 0) x) r) ≡ within find here (pair v (v_of x)) r
  pair-second t v x r c d = λ i. (alone t v r d i).contains (pair v ((alone t v x c i).value))

  closed-of : (f : Formula) (t : ValueType) → role table [] f ≡ gives t → IsClosed 0 f
  closed-of f t h = term-closed table t f h

  -- ---- equality and inclusion
  iff-then : (a b : Bool) → (implies a b && implies b a) ≡ true → a ≡ b
  iff-then true true h = refl
  iff-then true false h = absurd (cc)
  iff-then false true h = absurd (cc)
  iff-then false false h = refl

  iff-if : (a b : Bool) → a ≡ b → (implies a b && implies b a) ≡ true
  iff-if true true h = refl
  iff-if true false h = absurd (cc)
  iff-if false true h = absurd (cc)
  iff-if false false h = refl

  implies-then : (a b : Bool) → implies a b ≡ true → a ≡ true → b ≡ true
  implies-then true b h k = h
  implies-then false b h k = absurd (cc)

  implies-if : (a b : Bool) → (a ≡ true → b ≡ true) → implies a b ≡ true
  implies-if true b h = h refl
  implies-if false b h = refl

  extends : (a b : Formula) (t : ValueType) → role table [] a ≡ gives (set_type t) → role table [] b ≡ gives (set_type t) → truth find here (binary Eq a b) ≡ truth find here (same_members a b t)
  extends a b t h k =
      let c = closed-of a (set_type t) h in
      let d = closed-of b (set_type t) k in
      let body = binary Iff (binary In (bound 0) a) (binary In (bound 0) b) in
      both_ways (truth find here (binary Eq a b)) (truth find here (same_members a b t))
      (λ e. (all-one t body).1 (λ v o. iff-if _ _ (in-one t v a c ∙ (equal-means find here setting a b t h k).0 e v ∙ sym (in-one t v b d))))
      (λ e.
      let each = λ (v : MathValue) (o : is_value_of (set_size table) t v ≡ true). sym (in-one t v a c) ∙ iff-then _ _ ((all-one t body).0 e v o) ∙ in-one t v b d in
      let same = set-same-members (set_size table) t (v_of a) (v_of b) (typed-value find here well typed a (set_type t) h) (typed-value find here well typed b (set_type t) k) (λ v o. sym (member find here a t h v) ∙ each v o ∙ member find here b t k v) in
      subst (λ z. is_equal (v_of a) z ≡ true) same (value_eq-self (v_of a)))

  includes : (a b : Formula) (t : ValueType) → role table [] a ≡ gives (set_type t) → IsClosed 0 b → truth find here (binary In a (unary Pow b)) ≡ truth find here (all_within a b t)
  includes a b t h d =
      let c = closed-of a (set_type t) h in
      let body = binary Imp (binary In (bound 0) a) (binary In (bound 0) b) in
      both_ways (truth find here (binary In a (unary Pow b))) (truth find here (all_within a b t))
      (λ e. (all-one t body).1 (λ v o. implies-if _ _ (λ q. in-one t v b d ∙ (in-power find here setting a b t h).0 e v (sym (in-one t v a c) ∙ q))))
      (λ e. (in-power find here setting a b t h).1 (λ v q. sym (in-one t v b d) ∙ implies-then _ _ ((all-one t body).0 e v (member-of find here setting a t h v q)) (in-one t v a c ∙ q)))

  -- ---- witnesses
  second-of-type : (r : Formula) (t u : ValueType) → role table [] r ≡ gives (set_type (pair_type t u)) → (v w : MathValue) → within find here (pair v w) r ≡ true → (is_value_of (set_size table) t v ≡ true) × (is_value_of (set_size table) u w ≡ true)
  second-of-type r t u h v w q = let k = and-both (is_value_of (set_size table) t v) (is_value_of (set_size table) u w) (member-of find here setting r (pair_type t u) h (pair v w) q) in (k.0, k.1)

  dom-witness : (x r : Formula) (t u : ValueType) → IsClosed 0 x → role table [] r ≡ gives (set_type (pair_type t u)) → truth find here (binary In x (unary Dom r)) ≡ truth find here (for_some (u ∷ []) (binary In (binary Maps x (bound 0)) r))
  dom-witness x r t u c h =
      let d = closed-of r (set_type (pair_type t u)) h in
      let m = in-dom find here setting r t u h (v_of x) in
      both_ways (truth find here (binary In x (unary Dom r))) (truth find here (for_some (u ∷ []) (binary In (binary Maps x (bound 0)) r)))
      (λ e. let w = m.0 e in (some-one u (binary In (binary Maps x (bound 0)) r)).1 (w.0, (second-of-type r t u h (v_of x) w.0 w.1).1, pair-first u w.0 x r c d ∙ w.1))
      (λ e. let w = (some-one u (binary In (binary Maps x (bound 0)) r)).0 e in m.1 (w.0, sym (pair-first u w.0 x r c d) ∙ w.2))

  ran-witness : (x r : Formula) (t u : ValueType) → IsClosed 0 x → role table [] r ≡ gives (set_type (pair_type t u)) → truth find here (binary In x (unary Ran r)) ≡ truth find here (for_some (t ∷ []) (binary In (binary Maps (bound 0) x) r))
  ran-witness x r t u c h =
      let d = closed-of r (set_type (pair_type t u)) h in
      let m = in-ran find here setting r t u h (v_of x) in
      both_ways (truth find here (binary In x (unary Ran r))) (truth find here (for_some (t ∷ []) (binary In (binary Maps (bound 0) x) r)))
      (λ e. let w = m.0 e in (some-one t (binary In (binary Maps (bound 0) x) r)).1 (w.0, (second-of-type r t u h w.0 (v_of x) w.1).0, pair-second t w.0 x r c d ∙ w.1))
      (λ e. let w = (some-one t (binary In (binary Maps (bound 0) x) r)).0 e in m.1 (w.0, sym (pair-second t w.0 x r c d) ∙ w.2))

  image-witness : (x r a : Formula) (t u : ValueType) → IsClosed 0 x → role table [] r ≡ gives (set_type (pair_type t u)) → role table [] a ≡ gives (set_type t) → truth find here (binary In x (binary Image r a)) ≡ truth find here (for_some (t ∷ []) (binary And (binary In (bound 0) a) (binary In (binary Maps (bound 0) x) r)))
  image-witness x r a t u c h k =
      let d = closed-of r (set_type (pair_type t u)) h in
      let l = closed-of a (set_type t) k in
      let body = binary And (binary In (bound 0) a) (binary In (binary Maps (bound 0) x) r) in
      let m = in-image find here r a t u h k (v_of x) in
      both_ways (truth find here (binary In x (binary Image r a))) (truth find here (for_some (t ∷ []) body))
      (λ e. let w = m.0 e in (some-one t body).1 (w.0, (second-of-type r t u h w.0 (v_of x) w.2).0, and-true _ _ (in-one t w.0 a l ∙ w.1) (pair-second t w.0 x r c d ∙ w.2)))
      (λ e. let w = (some-one t body).0 e in let both = and-both (truth find (under_one t w.0) (binary In (bound 0) a)) (truth find (under_one t w.0) (binary In (binary Maps (bound 0) x) r)) w.2 in m.1 (w.0, sym (in-one t w.0 a l) ∙ both.0, sym (pair-second t w.0 x r c d) ∙ both.1))

  comp-witness : (x z r q : Formula) (t v u : ValueType) → IsClosed 0 x → IsClosed 0 z → role table [] r ≡ gives (set_type (pair_type t v)) → role table [] q ≡ gives (set_type (pair_type v u)) → role table [] (binary Comp r q) ≡ gives (set_type (pair_type t u)) → truth find here (binary In (binary Maps x z) (binary Comp r q)) ≡ truth find here (for_some (v ∷ []) (binary And (binary In (binary Maps x (bound 0)) r) (binary In (binary Maps (bound 0) z) q)))
  comp-witness x z r q t v u c l h k g =
      let d = closed-of r (set_type (pair_type t v)) h in
      let f = closed-of q (set_type (pair_type v u)) k in
      let body = binary And (binary In (binary Maps x (bound 0)) r) (binary In (binary Maps (bound 0) z) q) in
      let m = in-comp find here setting r q t u g (v_of x) (v_of z) in
      both_ways (truth find here (binary In (binary Maps x z) (binary Comp r q))) (truth find here (for_some (v ∷ []) body))
      (λ e. let w = m.0 e in (some-one v body).1 (w.0, (second-of-type r t v h (v_of x) w.0 w.1).1, and-true _ _ (pair-first v w.0 x r c d ∙ w.1) (pair-second v w.0 z q l f ∙ w.2)))
      (λ e. let w = (some-one v body).0 e in let both = and-both (truth find (under_one v w.0) (binary In (binary Maps x (bound 0)) r)) (truth find (under_one v w.0) (binary In (binary Maps (bound 0) z) q)) w.2 in m.1 (w.0, sym (pair-first v w.0 x r c d) ∙ both.0, sym (pair-second v w.0 z q l f) ∙ both.1))

  -- ---- members of comprehensions and lambdas
  record Ranged (rs : Formulas) : Type 0 where
    each : each_gives_set (roles table [] rs) ≡ true
    some : count rs ≡ suc (count rs - 1)

  ranged : (rs : Formulas) → are_ranges (roles table [] rs) ≡ true → Ranged rs
  ranged no_formulas h = absurd (cc)
  ranged (formula_and r rs) h = record { each = h; some = omega arith }

  module _ (rs : Formulas) (e : Formula) (es : List Formula) (good : Ranged rs) (apart : unpaired (count rs - 1) e [] ≡ Some es) (types : Each (IsPredicate table) (memberships rs es)) where
    abbrev ts : List ValueType
    ts = range_types (meanings find here rs)

    abbrev ws : List MathValue
    ws = map (λ m. m.value) (meanings find here rs)

    abbrev terms : List MathValue
    terms = map (val find table st) es

    size : length es ≡ count rs
    size =
        let u = unpaired-then find table st (count rs - 1) e [] es apart in
        let d : suc ((count rs - 1) + 0) ≡ suc (count rs - 1) = omega arith in
        u.size ∙ d ∙ sym good.some

    tuple : tuple_of terms ≡ v_of e
    tuple = (unpaired-then find table st (count rs - 1) e [] es apart).is_tuple

    give : TermsGive table ts es
    give = give-terms find table st rs es size types good.each

    opened-true : (p : Formula) → truth find here (opened es p) ≡ truth find (under here ts terms) p
    opened-true p = ap (λ m. m.truth) (opening_means find table well st ts es give p)

    opened-value : (q : Formula) → v_of (opened es q) ≡ value find (under here ts terms) q
    opened-value q = ap (λ m. m.value) (opening_means find table well st ts es give q)

    length-terms : (xs : List Formula) → length (map (val find table st) xs) ≡ length xs
    length-terms [] = refl
    length-terms (x ∷ xs) = ap suc (length-terms xs)

    same-choice : (vs : List MathValue) → InRanges find here rs vs → v_of e ≡ tuple_of vs → vs ≡ terms
    same-choice vs h q =
        let takes = (choices-are ws vs).0 h in
        tuple-same (count rs - 1) vs terms (length-takes ws vs takes ∙ length-values find table st rs ∙ good.some) (length-terms es ∙ size ∙ good.some) (sym q ∙ sym tuple)

    -- the terms are chosen from the ranges where the memberships hold
    chosen-then : (vs : List MathValue) → InRanges find here rs vs → vs ≡ terms → AllHold find here (memberships rs es)
    chosen-then vs h q = takes-then find table st rs es good.each (subst (λ x. TakesOneOfEach ws x) q ((choices-are ws vs).0 h))

    chosen-if : AllHold find here (memberships rs es) → InRanges find here rs terms
    chosen-if h = (choices-are ws terms).1 (takes-if find table st rs es size good.each h)

    set-member : (p : Formula) → truth find here (binary In e (comprehension rs p)) ≡ truth find here (conjunction (memberships rs es ++ opened es p ∷ []))
    set-member p =
        let ps = memberships rs es ++ opened es p ∷ [] in
        let has = comprehension-has find here rs p (v_of e) in
        both_ways (truth find here (binary In e (comprehension rs p))) (truth find here (conjunction ps))
        (λ h.
        let w = has.0 h in
        let q = same-choice w.0 w.1 w.3 in
        conjunction-if find table st ps (hold-append find here (memberships rs es) (opened es p ∷ []) (chosen-then w.0 w.1 q) (opened-true p ∙ subst (λ x. truth find (under here ts x) p ≡ true) q w.2, tt)))
        (λ h.
        let all = conjunction-then find table st ps h in
        let body = (hold-right find table st (memberships rs es) (opened es p ∷ []) all).0 in
        has.1 (terms, chosen-if (hold-left find table st (memberships rs es) (opened es p ∷ []) all), sym (opened-true p) ∙ body, sym tuple))

    -- f is the value of the lambda there
    lambda-member : (p q : Formula) (z : MathValue) → (within find here (pair (v_of e) z) (lambda rs p q) ≡ true) ↔ (AllHold find here (memberships rs es) × (truth find here (opened es p) ≡ true) × (z ≡ v_of (opened es q)))
    lambda-member p q z =
        let has = lambda-has find here rs p q (pair (v_of e) z) in (
          (λ h.
              let w = has.0 h in
              let first : v_of e ≡ tuple_of w.0 = cc (w.3) in
              let second : z ≡ value find (under here ts w.0) q = cc (w.3) in
              let same = same-choice w.0 w.1 first in
              (chosen-then w.0 w.1 same, opened-true p ∙ subst (λ x. truth find (under here ts x) p ≡ true) same w.2, second ∙ ap (λ x. value find (under here ts x) q) same ∙ sym (opened-value q))),
          (λ w. has.1 (terms, chosen-if w.0, sym (opened-true p) ∙ w.1, λ i. pair (sym tuple i) ((w.2 ∙ opened-value q) i))),
        )

    pair-member : (f p q : Formula) → truth find here (binary In (binary Maps e f) (lambda rs p q)) ≡ truth find here (conjunction (memberships rs es ++ opened es p ∷ binary Eq f (opened es q) ∷ []))
    pair-member f p q =
        let rest = opened es p ∷ binary Eq f (opened es q) ∷ [] in
        let ps = memberships rs es ++ rest in
        let has = lambda-member p q (v_of f) in
        both_ways (truth find here (binary In (binary Maps e f) (lambda rs p q))) (truth find here (conjunction ps))
        (λ h.
        let w = has.0 h in
        conjunction-if find table st ps (hold-append find here (memberships rs es) rest w.0 (w.1, (subst (λ y. is_equal (v_of f) y ≡ true) w.2 (value_eq-self (v_of f)), tt))))
        (λ h.
        let all = conjunction-then find table st ps h in
        let more = hold-right find table st (memberships rs es) rest all in
        has.1 (hold-left find table st (memberships rs es) rest all, more.0, same_value (v_of f) (v_of (opened es q)) more.1.0))

    applied-value : (p q : Formula) (t u : ValueType) → role table [] (lambda rs p q) ≡ gives (set_type (pair_type t u)) → H (conjunction (memberships rs es ++ opened es p ∷ [])) → v_of (binary Apply (lambda rs p q) e) ≡ v_of (opened es q)
    applied-value p q t u g h =
        let all = conjunction-then find table st (memberships rs es ++ opened es p ∷ []) h in
        let y = v_of (opened es q) in
        let has = λ (z : MathValue). lambda-member p q z in
        apply-means find here setting (lambda rs p q) t u g e y ((has y).1 (hold-left find table st (memberships rs es) (opened es p ∷ []) all, (hold-right find table st (memberships rs es) (opened es p ∷ []) all).0, refl)) (λ z k. ((has z).0 k).2)

  -- ---- instance by instance
  abbrev Means : Instance → Type 0
  Means i = meaning find here i.right ≡ meaning find here i.left

  -- where both sides have one role and type, and the side conditions hold, both mean the same
  abbrev Sound : Instance → Type 0
  Sound i = role table [] i.left ≡ role table [] i.right → role table [] i.left ≢ untyped → Each (IsPredicate table) i.sides → AllHold find here i.sides → Means i

  by-truths : (a b : Formula) → role table [] a ≡ role table [] b → role table [] b ≡ predicate → truth find here a ≡ truth find here b → meaning find here b ≡ meaning find here a
  by-truths a b e p h = sym (same-truth find here a b (e ∙ p) p h)

  sides-hold : (ps : List Formula) → Each (IsPredicate table) ps → AllHold find here ps → SidesHold find here ps
  sides-hold [] h k = tt
  sides-hold (p ∷ ps) h k = (h.0, k.0, sides-hold ps h.1 k.1)

  equal-meanings : (a b : Formula) → IsPredicate table (binary Eq a b) → H (binary Eq a b) → meaning find here a ≡ meaning find here b
  equal-meanings a b p h =
      let k = equality-parts (role table [] a) (role table [] b) p in
      same-value find here a b k.0 k.1 k.2 (same_value (v_of a) (v_of b) h)

  law-means : (n : ℕ) (picks : List Formula) (i : Instance) → law_instance n picks ≡ Some i → role table [] i.left ≡ role table [] i.right → role table [] i.left ≢ untyped → Each (IsPredicate table) i.sides → AllHold find here i.sides → meaning find here i.left ≡ meaning find here i.right
  law-means n picks i e one types sides_type sides = laws-are-true n picks i e find here setting (record { types = types; one_role = one }) (sides-hold i.sides sides_type sides)

  decided-here : (old : Formula) (c b : Bool) → cond c (decided old) (option_and_then (λ x. equal_constants x.0 x.1) (sides Eq old)) ≡ Some b → truth find here old ≡ b
  decided-here old true b h = decided-true find here old b h
  decided-here old false b h =
      let k = chained (λ (x : Formula × Formula). equal_constants x.0 x.1) (sides Eq old) b h in
      ap (truth find here) (sides-then Eq old k.0 k.1) ∙ constants-equal find here k.0.0 k.0.1 b k.2

  constant-true : (b : Bool) → truth find here (constant b) ≡ b
  constant-true true = refl
  constant-true false = refl

  constant-role : (b : Bool) → role table [] (constant b) ≡ predicate
  constant-role true = refl
  constant-role false = refl

  negated-true : (p q : Formula) → negated p ≡ Some q → truth find here (unary Not p) ≡ truth find here q
  negated-true (for_all ts p) q h = classical.not_all find here ts p ∙ ap (truth find here) (some-same (for_some ts (unary Not p)) q h)
  negated-true (for_some ts p) q h = classical.not_some find law here ts p ∙ ap (truth find here) (some-same (for_all ts (unary Not p)) q h)
  negated-true _ q h = absurd (cc)

  negated-role : (p q : Formula) → negated p ≡ Some q → role table [] q ≢ untyped → role table [] q ≡ predicate
  negated-role (for_all ts p) q h = subst (λ f. role table [] f ≢ untyped → role table [] f ≡ predicate) (some-same (for_some ts (unary Not p)) q h) (quantifier-typed table ts _)
  negated-role (for_some ts p) q h = subst (λ f. role table [] f ≢ untyped → role table [] f ≡ predicate) (some-same (for_all ts (unary Not p)) q h) (quantifier-typed table ts _)
  negated-role _ q h = absurd (cc)

  over-typed : (t : ValueType) (r : Role) → IsOver t r → r ≢ untyped
  over-typed t r (inl h) k = gives-typed r (set_type t) h k
  over-typed t r (inr h) k = let never : ranges_over t ≡ untyped = sym h ∙ k in absurd (cc)

  met-true : (e c q : Formula) → met_by e c ≡ Some q → IsPredicate table (binary In e c) → IsPredicate table q → truth find here (binary In e c) ≡ truth find here q
  met-true e (comprehension rs p) q h l r =
      let made : List Formula → Formula = λ es. conjunction (memberships rs es ++ opened es p ∷ []) in
      let k = mapped made (unpaired (count rs - 1) e []) q h in
      let m = membership-parts (role table [] e) (role table [] (comprehension rs p)) l in
      let good = ranged rs (holds-typed _ _ (over-typed m.0 (role table [] (comprehension rs p)) m.2)).0 in
      let parts = conjunction-parts table (memberships rs k.0 ++ opened k.0 p ∷ []) (subst (IsPredicate table) (sym k.2) r) in
      set-member rs e k.0 good k.1 (each-left (IsPredicate table) (memberships rs k.0) (opened k.0 p ∷ []) parts) p ∙ ap (truth find here) k.2
  met-true e (lambda rs p v) q h l r =
      let made : Formula × Formula → List Formula → Formula = λ x es. conjunction (memberships rs es ++ opened es p ∷ binary Eq x.1 (opened es v) ∷ []) in
      let j = chained (λ x. option_map (made x) (unpaired (count rs - 1) x.0 [])) (sides Maps e) q h in
      let x = j.0 in
      let k = mapped (made x) (unpaired (count rs - 1) x.0 []) q j.2 in
      let m = membership-parts (role table [] e) (role table [] (lambda rs p v)) l in
      let good = ranged rs (holds-typed _ _ (over-typed m.0 (role table [] (lambda rs p v)) m.2)).0 in
      let rest = opened k.0 p ∷ binary Eq x.1 (opened k.0 v) ∷ [] in
      let parts = conjunction-parts table (memberships rs k.0 ++ rest) (subst (IsPredicate table) (sym k.2) r) in
      ap (λ f. truth find here (binary In f (lambda rs p v))) (sides-then Maps e x j.1)
      ∙ pair-member rs x.0 k.0 good k.1 (each-left (IsPredicate table) (memberships rs k.0) rest parts) x.1 p v
      ∙ ap (truth find here) k.2
  met-true e _ q h l r = absurd (cc)

  applied-sound : (old f e : Formula) (i : Instance) → old ≡ binary Apply f e → applied_to old f e ≡ Some i → Sound i
  applied-sound old (lambda rs p q) e i shape h =
      let made : List Formula → Instance = λ es. record { sides = conjunction (memberships rs es ++ opened es p ∷ []) ∷ []; left = old; right = opened es q } in
      let k = mapped made (unpaired (count rs - 1) e []) i h in
      subst Sound k.2 (λ one types sides_type sides.
      let typed_here = subst (λ x. role table [] x ≢ untyped) shape types in
      let w = value-form here (binary Apply (lambda rs p q) e) refl typed_here in
      let m = application-parts (role table [] (lambda rs p q)) (role table [] e) w.0 w.1 in
      let good = ranged rs (holds-typed _ _ (gives-typed (role table [] (lambda rs p q)) (set_type (pair_type m.0 w.0)) m.1)).0 in
      let parts = conjunction-parts table (memberships rs k.0 ++ opened k.0 p ∷ []) sides_type.0 in
      let values = applied-value rs e k.0 good k.1 (each-left (IsPredicate table) (memberships rs k.0) (opened k.0 p ∷ []) parts) p q m.0 w.0 m.1 sides.0 in
      let left_gives : role table [] old ≡ gives w.0 = ap (role table []) shape ∙ w.1 in
      same-value find here (opened k.0 q) old w.0 (sym one ∙ left_gives) left_gives (sym values ∙ ap v_of (sym shape)))
  applied-sound old _ e i shape h = absurd (cc)

  pair-types : (t u v w : ValueType) → gives (set_type (pair_type t u)) ≡ gives (set_type (pair_type v w)) → (t ≡ v) × (u ≡ w)
  pair-types t u v w h = (cc, cc)

  witnessed : (x c q : Formula) → witness table x c ≡ Some q → IsPredicate table (binary In x c) → truth find here (binary In x c) ≡ truth find here q
  witnessed x (unary Dom r) q h p =
      let k = mapped (λ w. for_some (w.1 ∷ []) (binary In (binary Maps x (bound 0)) r)) (relation_of_types (role table [] r)) q h in
      let m = membership-parts (role table [] x) (role table [] (unary Dom r)) p in
      dom-witness x r k.0.0 k.0.1 (closed-of x m.0 m.1) (relation-then (role table [] r) k.0 k.1) ∙ ap (truth find here) k.2
  witnessed x (unary Ran r) q h p =
      let k = mapped (λ w. for_some (w.0 ∷ []) (binary In (binary Maps (bound 0) x) r)) (relation_of_types (role table [] r)) q h in
      let m = membership-parts (role table [] x) (role table [] (unary Ran r)) p in
      ran-witness x r k.0.0 k.0.1 (closed-of x m.0 m.1) (relation-then (role table [] r) k.0 k.1) ∙ ap (truth find here) k.2
  witnessed x (binary Image r a) q h p =
      let k = mapped (λ w. for_some (w.0 ∷ []) (binary And (binary In (bound 0) a) (binary In (binary Maps (bound 0) x) r))) (relation_of_types (role table [] r)) q h in
      let m = membership-parts (role table [] x) (role table [] (binary Image r a)) p in
      let f = set-form here (binary Image r a) refl (over-typed m.0 (role table [] (binary Image r a)) m.2) in
      let w = image-parts (role table [] r) (role table [] a) (set_type f.0) f.1 in
      let rel = relation-then (role table [] r) k.0 k.1 in
      let same = pair-types w.0 w.1 k.0.0 k.0.1 (sym w.2 ∙ rel) in
      image-witness x r a k.0.0 k.0.1 (closed-of x m.0 m.1) rel (w.3 ∙ ap (λ t. gives (set_type t)) same.0) ∙ ap (truth find here) k.2
  witnessed x (binary Comp r s) q h p =
      let made : Formula × Formula → ValueType × ValueType → Formula = λ y w. for_some (w.1 ∷ []) (binary And (binary In (binary Maps y.0 (bound 0)) r) (binary In (binary Maps (bound 0) y.1) s)) in
      let j = chained (λ y. option_map (made y) (relation_of_types (role table [] r))) (sides Maps x) q h in
      let y = j.0 in
      let k = mapped (made y) (relation_of_types (role table [] r)) q j.2 in
      let shape = sides-then Maps x y j.1 in
      let m = membership-parts (role table [] x) (role table [] (binary Comp r s)) p in
      let closed : IsClosed 0 (binary Maps y.0 y.1) = subst (IsClosed 0) shape (closed-of x m.0 m.1) in
      let f = set-form here (binary Comp r s) refl (over-typed m.0 (role table [] (binary Comp r s)) m.2) in
      let w = composition-parts (role table [] r) (role table [] s) (set_type f.0) f.1 in
      let rel = relation-then (role table [] r) k.0 k.1 in
      let same = pair-types w.0 w.1 k.0.0 k.0.1 (sym w.3 ∙ rel) in
      let first : role table [] (binary Comp r s) ≡ gives (set_type (pair_type k.0.0 w.2)) = f.1 ∙ ap gives w.5 ∙ ap (λ t. gives (set_type (pair_type t w.2))) same.0 in
      ap (λ f. truth find here (binary In f (binary Comp r s))) shape
      ∙ comp-witness y.0 y.1 r s k.0.0 k.0.1 w.2 closed.0 closed.1 rel (w.4 ∙ ap (λ t. gives (set_type (pair_type t w.2))) same.1) first
      ∙ ap (truth find here) k.2
  witnessed x _ q h p = absurd (cc)

  witness-role : (x c q : Formula) → witness table x c ≡ Some q → role table [] q ≢ untyped → role table [] q ≡ predicate
  witness-role x (unary Dom r) q h =
      let k = mapped (λ w. for_some (w.1 ∷ []) (binary In (binary Maps x (bound 0)) r)) (relation_of_types (role table [] r)) q h in
      subst (λ f. role table [] f ≢ untyped → role table [] f ≡ predicate) k.2 (quantifier-typed table (k.0.1 ∷ []) _)
  witness-role x (unary Ran r) q h =
      let k = mapped (λ w. for_some (w.0 ∷ []) (binary In (binary Maps (bound 0) x) r)) (relation_of_types (role table [] r)) q h in
      subst (λ f. role table [] f ≢ untyped → role table [] f ≡ predicate) k.2 (quantifier-typed table (k.0.0 ∷ []) _)
  witness-role x (binary Image r a) q h =
      let k = mapped (λ w. for_some (w.0 ∷ []) (binary And (binary In (bound 0) a) (binary In (binary Maps (bound 0) x) r))) (relation_of_types (role table [] r)) q h in
      subst (λ f. role table [] f ≢ untyped → role table [] f ≡ predicate) k.2 (quantifier-typed table (k.0.0 ∷ []) _)
  witness-role x (binary Comp r s) q h =
      let made : Formula × Formula → ValueType × ValueType → Formula = λ y w. for_some (w.1 ∷ []) (binary And (binary In (binary Maps y.0 (bound 0)) r) (binary In (binary Maps (bound 0) y.1) s)) in
      let j = chained (λ y. option_map (made y) (relation_of_types (role table [] r))) (sides Maps x) q h in
      let k = mapped (made j.0) (relation_of_types (role table [] r)) q j.2 in
      subst (λ f. role table [] f ≢ untyped → role table [] f ≡ predicate) k.2 (quantifier-typed table (k.0.1 ∷ []) _)
  witness-role x _ q h = absurd (cc)

  pub instance-sound : (hyps : List Formula) → Each (IsPredicate table) hyps → AllHold find here hyps → (r : Rewriting) (old : Formula) (i : Instance) → instance_for table hyps r old ≡ Some i → Sound i
  instance-sound hyps types hold (eq_to n) old i e =
      let k = chained (λ h. option_map (λ x. becomes x.0 x.1) (sides Eq h)) (numbered_item hyps n) i e in
      let m = mapped (λ (x : Formula × Formula). becomes x.0 x.1) (sides Eq k.0) i k.2 in
      let shape = sides-then Eq k.0 m.0 m.1 in
      subst Sound m.2 (λ one t s h. sym (equal-meanings m.0.0 m.0.1 (subst (IsPredicate table) shape (each-item (IsPredicate table) hyps n k.0 types k.1)) (subst H shape (hold-item find here hyps n k.0 hold k.1))))
  instance-sound hyps types hold (eq_from n) old i e =
      let k = chained (λ h. option_map (λ x. becomes x.1 x.0) (sides Eq h)) (numbered_item hyps n) i e in
      let m = mapped (λ (x : Formula × Formula). becomes x.1 x.0) (sides Eq k.0) i k.2 in
      let shape = sides-then Eq k.0 m.0 m.1 in
      subst Sound m.2 (λ one t s h. equal-meanings m.0.0 m.0.1 (subst (IsPredicate table) shape (each-item (IsPredicate table) hyps n k.0 types k.1)) (subst H shape (hold-item find here hyps n k.0 hold k.1)))
  instance-sound hyps types hold (law_to n picks) old i e = λ one t s h. sym (law-means n picks i e one t s h)
  instance-sound hyps types hold (law_from n picks) old i e =
      let k = mapped turned (law_instance n picks) i e in
      subst Sound k.2 (λ one t s h. law-means n picks k.0 k.1 (sym one) (λ u. t (one ∙ u)) s h)
  instance-sound hyps types hold deciding old i e =
      let k = mapped (λ b. becomes old (constant b)) (cond (is_some (decided old)) (decided old) (option_and_then (λ x. equal_constants x.0 x.1) (sides Eq old))) i e in
      subst Sound k.2 (λ one t s h. by-truths old (constant k.0) one (constant-role k.0) (decided-here old (is_some (decided old)) k.0 k.1 ∙ sym (constant-true k.0)))
  instance-sound hyps types hold typing old i e =
      let k = chained (λ x. when (has_all x.1) (becomes old btrue)) (sides In old) i e in
      let m = when-then (has_all k.0.1) (becomes old btrue) i k.2 in
      let shape = sides-then In old k.0 k.1 in
      subst Sound m.1 (λ one t s h. by-truths old btrue one refl (ap (truth find here) shape ∙ member-of-all k.0.0 k.0.1 (ap (role table []) (sym shape) ∙ one) m.0))
  instance-sound hyps types hold negating old i e =
      let k = chained (λ p. option_map (becomes old) (negated p)) (operand Not old) i e in
      let m = mapped (becomes old) (negated k.0) i k.2 in
      subst Sound m.2 (λ one t s h. by-truths old m.0 one (negated-role k.0 m.0 m.1 (λ u. t (one ∙ u))) (ap (truth find here) (operand-then Not old k.0 k.1) ∙ negated-true k.0 m.0 m.1))
  instance-sound hyps types hold belonging old i e =
      let k = chained (λ x. option_map (becomes old) (met_by x.0 x.1)) (sides In old) i e in
      let m = mapped (becomes old) (met_by k.0.0 k.0.1) i k.2 in
      let shape = sides-then In old k.0 k.1 in
      subst Sound m.2 (λ one t s h.
      let l : IsPredicate table (binary In k.0.0 k.0.1) = membership-typed (role table [] k.0.0) (role table [] k.0.1) (subst (λ f. role table [] f ≢ untyped) shape t) in
      let r : IsPredicate table m.0 = sym one ∙ ap (role table []) shape ∙ l in
      by-truths old m.0 one r (ap (truth find here) shape ∙ met-true k.0.0 k.0.1 m.0 m.1 l r))
  instance-sound hyps types hold applying old i e =
      let k = chained (λ x. applied_to old x.0 x.1) (sides Apply old) i e in
      applied-sound old k.0.0 k.0.1 i (sides-then Apply old k.0 k.1) k.2
  instance-sound hyps types hold extending old i e =
      let k = chained (λ x. option_map (λ t. becomes old (same_members x.0 x.1 t)) (set_of_type (role table [] x.0))) (sides Eq old) i e in
      let a = k.0.0 in
      let b = k.0.1 in
      let m = mapped (λ t. becomes old (same_members a b t)) (set_of_type (role table [] a)) i k.2 in
      let shape = sides-then Eq old k.0 k.1 in
      let la = set_of_type-then (role table [] a) m.0 m.1 in
      subst Sound m.2 (λ one t s h.
      let r = quantifier-typed table (m.0 ∷ []) (role table (m.0 ∷ []) (binary Iff (binary In (bound 0) a) (binary In (bound 0) b))) (λ u. t (one ∙ u)) in
      let p = equality-parts (role table [] a) (role table [] b) (ap (role table []) (sym shape) ∙ one ∙ r) in
      by-truths old (same_members a b m.0) one r (ap (truth find here) shape ∙ extends a b m.0 la (p.2 ∙ sym p.1 ∙ la)))
  instance-sound hyps types hold including old i e =
      let k = chained (λ x. option_and_then (λ a. option_map (λ t. becomes old (all_within x.0 a t)) (set_of_type (role table [] x.0))) (operand Pow x.1)) (sides In old) i e in
      let a = k.0.0 in
      let j = chained (λ b. option_map (λ t. becomes old (all_within a b t)) (set_of_type (role table [] a))) (operand Pow k.0.1) i k.2 in
      let b = j.0 in
      let m = mapped (λ t. becomes old (all_within a b t)) (set_of_type (role table [] a)) i j.2 in
      let shape = sides-then In old k.0 k.1 ∙ ap (binary In a) (operand-then Pow k.0.1 b j.1) in
      let la = set_of_type-then (role table [] a) m.0 m.1 in
      subst Sound m.2 (λ one t s h.
      let r = quantifier-typed table (m.0 ∷ []) (role table (m.0 ∷ []) (binary Imp (binary In (bound 0) a) (binary In (bound 0) b))) (λ u. t (one ∙ u)) in
      by-truths old (all_within a b m.0) one r (ap (truth find here) shape ∙ includes a b m.0 la ((predicate-closed table (binary In a (unary Pow b)) (ap (role table []) (sym shape) ∙ one ∙ r)).1)))
  instance-sound hyps types hold witnessing old i e =
      let k = chained (λ x. option_map (becomes old) (witness table x.0 x.1)) (sides In old) i e in
      let m = mapped (becomes old) (witness table k.0.0 k.0.1) i k.2 in
      let shape = sides-then In old k.0 k.1 in
      subst Sound m.2 (λ one t s h.
      let r = witness-role k.0.0 k.0.1 m.0 m.1 (λ u. t (one ∙ u)) in
      by-truths old m.0 one r (ap (truth find here) shape ∙ witnessed k.0.0 k.0.1 m.0 m.1 (ap (role table []) (sym shape) ∙ one ∙ r)))
