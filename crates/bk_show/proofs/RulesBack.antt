-- Each operator of a printed formula reads back as itself.
use Rattle.std.proofs.Common.{◌≡◌, ℕ, Bool, true, false, cond, ◌&&◌, ◌∷◌, refl, ap, sym, ◌∙◌, arith, subst, inl, inr, ◌⊎◌, nat_eq}
use Rattle.std.proofs.lemmas.Bool.Decides.{nat_tests}
use Rattle.bk_val.specs.ValueType.{ValueType, int_type, bool_type, enum_type, pair_type, set_type}
use Rattle.bk_form.specs.Formula.{Formula, unary, binary}
use Rattle.bk_form.specs.Role.{Role, gives, ranges_over, predicate, untyped, same_type, if_holds, if_predicate, if_number, if_value, if_set, if_relation, if_domain, product_role, unary_role, binary_role, connective_role, numbers_role, equality_role, membership_role, arrow_role, sets_role, domain_part_role, range_part_role, override_role, pair_role, image_role, application_role, composition_role}
use Rattle.bk_form.proofs.Roles.{same_type-then}
use Rattle.bk_form.specs.declared.operator.UnOp.{UnOp}
use Rattle.bk_form.specs.declared.operator.UnOp.TheVariants.{Not as Negation, BoolOf as TruthOf, Neg, Card as CardOf, Min as MinOf, Max as MaxOf, Dom as DomainOf, Ran as RangeOf, Id as IdOf, Inverse as InverseOf, Single, Pow as PowerOf, Pow1 as Power1Of}
use Rattle.bk_form.specs.declared.operator.BinOp.{BinOp}
use Rattle.bk_form.specs.declared.operator.BinOp.TheVariants.{And as Conjunction, Or as Disjunction, Imp, Iff, Eq, Lt, Le, In, Union as Joining, Inter, Minus as Without, Times as Product, DomRes, RanRes, DomSub, RanSub, Over, Maps, Range, Add, Sub, Mul, Div, Mod as Remainder, Power as PowerTo, Image as ImageOf, Apply as ApplyTo, Comp, Relations as RelationsOf, PartialFunctions as PartialOf, TotalFunctions as TotalOf, PartialInjections as PartialInjectionsOf, TotalInjections as TotalInjectionsOf, PartialSurjections as PartialSurjectionsOf, TotalSurjections as TotalSurjectionsOf, Bijections as BijectionsOf}
use Rattle.bk_raw.specs.declared.operator.InfixOp.TheVariants.{And as WrittenAnd, AtMost as WrittenAtMost, Bijections as WrittenBijections, Divide as WrittenDivide, DomainRestriction as WrittenDomainRestriction, DomainSubtraction as WrittenDomainSubtraction, Equal as WrittenEqual, Equivalent as WrittenEquivalent, Implies as WrittenImplies, Intersection as WrittenIntersection, Interval as WrittenInterval, Less as WrittenLess, Maplet as WrittenMaplet, Member as WrittenMember, Minus as WrittenMinus, Mod as WrittenMod, Or as WrittenOr, Override as WrittenOverride, PartialFunctions as WrittenPartialFunctions, PartialInjections as WrittenPartialInjections, PartialSurjections as WrittenPartialSurjections, Plus as WrittenPlus, Power as WrittenPower, RangeRestriction as WrittenRangeRestriction, RangeSubtraction as WrittenRangeSubtraction, Relations as WrittenRelations, Times as WrittenTimes, TotalFunctions as WrittenTotalFunctions, TotalInjections as WrittenTotalInjections, TotalSurjections as WrittenTotalSurjections, Union as WrittenUnion}
use Rattle.bk_raw.specs.declared.operator.WordOp.TheVariants.{Not, BoolOf, Card, Min, Max, Dom, Ran, Id, Pow, Pow1}
use Rattle.bk_raw.specs.Trees.RawTree.{RawTree, RawTreeNode, raw_word, raw_negative, raw_infix, raw_inverse, raw_image, raw_apply, raw_composition, raw_extension, no_trees, tree_and}
use Rattle.bk_raw.specs.Meaning.Outcome.{Outcome, Reading, ranging, holding, silently, plainly, giving}
use Rattle.bk_raw.specs.Meaning.OperatorReadings.{infix_reading, word_reading, negative_reading, inverse_reading, image_reading, apply_reading, composition_reading, single_reading}
use Rattle.bk_raw.specs.Meaning.TermReading.{is_alike, is_predicate, is_predicate_node, place_of, part, from_one, from_two, spoilt_by, strict_faults, is_connective, takes_predicate}
use Rattle.bk_raw.specs.Errors.Faults.{not_predicate}
use Rattle.bk_show.specs.Shown.{UnaryForm, word_form, negative_form, inverse_form, single_form, unary_form, BinaryForm, infix_form, image_form, apply_form, composition_form, binary_form}

pub nat-self : (n : ℕ) → nat_eq n n ≡ true
nat-self n = grind (arith, nat_tests)

and-true : (a b : Bool) → a ≡ true → b ≡ true → (a && b) ≡ true
and-true a b h k = rw (h, k) refl

pub and-both : (a b : Bool) → (a && b) ≡ true → (a ≡ true) × (b ≡ true)
and-both true b h = (refl, h)
and-both false b h = absurd (cc)

pub same-self : (t : ValueType) → same_type t t ≡ true
same-self int_type = refl
same-self bool_type = refl
same-self (enum_type n) = nat-self n
same-self (pair_type t u) = and-true (same_type t t) (same_type u u) (same-self t) (same-self u)
same-self (set_type t) = same-self t

-- ---- what it means that a term, which is a predicate by its form or not, reads as a formula of this role
abbrev pub Reads : Role → Formula → Bool → Reading → Type 0
Reads (gives t) f b x = (x ≡ giving f t) × (b ≡ false)
Reads (ranges_over t) f b x = (there : ℕ) × (x ≡ plainly (ranging f t there)) × (b ≡ false)
Reads predicate f b x = (x ≡ plainly (holding f)) × (b ≡ true)
Reads untyped f b x = Unit {0}

-- ---- parts
module _ (r : Role) (f : Formula) (t : RawTree) (x : Reading) (h : Reads r f (is_predicate t) x) where
  pub value-part : (u : ValueType) → r ≡ gives u → part false t x ≡ giving f u
  value-part u e =
      let k : Reads (gives u) f (is_predicate t) x = subst (λ q. Reads q f (is_predicate t) x) e h in
      ap (λ b. cond (is_alike false b) x (silently (not_predicate (place_of t) ∷ x.faults))) k.1 ∙ k.0

  pub predicate-part : r ≡ predicate → part true t x ≡ plainly (holding f)
  predicate-part e =
      let k : Reads predicate f (is_predicate t) x = subst (λ q. Reads q f (is_predicate t) x) e h in
      ap (λ b. cond (is_alike true b) x (silently (not_predicate (place_of t) ∷ x.faults))) k.1 ∙ k.0

  abbrev pub AsDomain : ValueType → Type 0
  AsDomain u = (part false t x ≡ giving f (set_type u)) ⊎ ((there : ℕ) × (part false t x ≡ plainly (ranging f u there)))

  pub domain-part : (u : ValueType) → (r ≡ gives (set_type u)) ⊎ (r ≡ ranges_over u) → AsDomain u
  domain-part u w = elim w [
    | inl e ↦ inl (value-part (set_type u) e)
    | inr e ↦
        (let k : Reads (ranges_over u) f (is_predicate t) x = subst (λ q. Reads q f (is_predicate t) x) e h in
        inr (k.0, ap (λ b. cond (is_alike false b) x (silently (not_predicate (place_of t) ∷ x.faults))) k.2 ∙ k.1))
  ]

-- ---- rules by what they ask of a role
module _ (f : Formula) (b : Bool) (x : Reading) where
  pub on-held : (c : Bool) (r : Role) → (c ≡ true → Reads r f b x) → Reads (if_holds c r) f b x
  on-held true r h = h refl
  on-held false r h = tt

  pub on-predicate : (r a : Role) → (a ≡ predicate → Reads r f b x) → Reads (if_predicate r a) f b x
  on-predicate r predicate h = h refl
  on-predicate r _ h = tt

  on-number : (r a : Role) → (a ≡ gives int_type → Reads r f b x) → Reads (if_number r a) f b x
  on-number r (gives int_type) h = h refl
  on-number r _ h = tt

  pub on-value : (k : ValueType → Role) (a : Role) → ((t : ValueType) → a ≡ gives t → Reads (k t) f b x) → Reads (if_value k a) f b x
  on-value k (gives t) h = h t refl
  on-value k _ h = tt

  on-set : (k : ValueType → Role) (a : Role) → ((t : ValueType) → a ≡ gives (set_type t) → Reads (k t) f b x) → Reads (if_set k a) f b x
  on-set k (gives (set_type t)) h = h t refl
  on-set k _ h = tt

  on-relation : (k : ValueType → ValueType → Role) (a : Role) → ((t u : ValueType) → a ≡ gives (set_type (pair_type t u)) → Reads (k t u) f b x) → Reads (if_relation k a) f b x
  on-relation k (gives (set_type (pair_type t u))) h = h t u refl
  on-relation k _ h = tt

  on-domain : (k : ValueType → Role) (a : Role) → ((t : ValueType) → (a ≡ gives (set_type t)) ⊎ (a ≡ ranges_over t) → Reads (k t) f b x) → Reads (if_domain k a) f b x
  on-domain k (gives (set_type t)) h = h t (inl refl)
  on-domain k (ranges_over t) h = h t (inr refl)
  on-domain k _ h = tt

  on-product : (r s : Role) → ((t u : ValueType) → r ≡ gives (set_type t) → s ≡ gives (set_type u) → Reads (gives (set_type (pair_type t u))) f b x)
      → ((t u : ValueType) → r ≡ gives (set_type t) → s ≡ ranges_over u → Reads (ranges_over (pair_type t u)) f b x)
      → ((t u : ValueType) → r ≡ ranges_over t → (s ≡ gives (set_type u)) ⊎ (s ≡ ranges_over u) → Reads (ranges_over (pair_type t u)) f b x)
      → Reads (product_role r s) f b x
  on-product (gives (set_type t)) (gives (set_type u)) h k m = h t u refl refl
  on-product (gives (set_type t)) (ranges_over u) h k m = k t u refl refl
  on-product (ranges_over t) (gives (set_type u)) h k m = m t u refl (inl refl)
  on-product (ranges_over t) (ranges_over u) h k m = m t u refl (inr refl)
  on-product _ _ h k m = tt

-- ---- operators between two parts
module _ (a b : Formula) (ra rb : Role) (ta tb : RawTree) (xa xb : Reading) (ha : Reads ra a (is_predicate ta) xa) (hb : Reads rb b (is_predicate tb) xb) where
  both : (r : Role) (f : Formula) (c : Bool) (k : Outcome → Outcome → Reading) (wanted : Bool) (p q : Reading) → part wanted ta xa ≡ p → part wanted tb xb ≡ q → Reads r f c (from_two k p q) → Reads r f c (from_two k (part wanted ta xa) (part wanted tb xb))
  both r f c k wanted p q e g h = subst (Reads r f c) (λ i. from_two k (sym e i) (sym g i)) h

  connective-back : (f : Formula) (k : Outcome → Outcome → Reading) → from_two k (plainly (holding a)) (plainly (holding b)) ≡ plainly (holding f) → Reads (connective_role ra rb) f true (from_two k (part true ta xa) (part true tb xb))
  connective-back f k h =
      on-predicate f true (from_two k (part true ta xa) (part true tb xb)) (if_predicate predicate rb) ra (λ e.
      on-predicate f true (from_two k (part true ta xa) (part true tb xb)) predicate rb (λ g.
      both predicate f true k true (plainly (holding a)) (plainly (holding b)) (predicate-part ra a ta xa ha e) (predicate-part rb b tb xb hb g) (h, refl)))

  numbers-back : (r : Role) (f : Formula) (c : Bool) (k : Outcome → Outcome → Reading) → Reads r f c (from_two k (giving a int_type) (giving b int_type)) → Reads (numbers_role r ra rb) f c (from_two k (part false ta xa) (part false tb xb))
  numbers-back r f c k h =
      let x = from_two k (part false ta xa) (part false tb xb) in
      on-number f c x (if_number r rb) ra (λ e. on-number f c x r rb (λ g. both r f c k false (giving a int_type) (giving b int_type) (value-part ra a ta xa ha int_type e) (value-part rb b tb xb hb int_type g) h))

  equality-back : (f : Formula) (k : Outcome → Outcome → Reading) → ((t : ValueType) → Reads predicate f true (from_two k (giving a t) (giving b t))) → Reads (equality_role ra rb) f true (from_two k (part false ta xa) (part false tb xb))
  equality-back f k h =
      let x = from_two k (part false ta xa) (part false tb xb) in
      on-value f true x (λ t. if_value (λ u. if_holds (same_type t u) predicate) rb) ra (λ t e.
      on-value f true x (λ u. if_holds (same_type t u) predicate) rb (λ u g.
      on-held f true x (same_type t u) predicate (λ s.
      both predicate f true k false (giving a t) (giving b t) (value-part ra a ta xa ha t e) (value-part rb b tb xb hb t (g ∙ ap gives (sym (same_type-then t u s)))) (h t))))

  sets-back : (f : Formula) (k : Outcome → Outcome → Reading) → ((t : ValueType) → Reads (gives (set_type t)) f false (from_two k (giving a (set_type t)) (giving b (set_type t)))) → Reads (sets_role ra rb) f false (from_two k (part false ta xa) (part false tb xb))
  sets-back f k h =
      let x = from_two k (part false ta xa) (part false tb xb) in
      on-set f false x (λ t. if_set (λ u. if_holds (same_type t u) (gives (set_type t))) rb) ra (λ t e.
      on-set f false x (λ u. if_holds (same_type t u) (gives (set_type t))) rb (λ u g.
      on-held f false x (same_type t u) (gives (set_type t)) (λ s.
      both (gives (set_type t)) f false k false (giving a (set_type t)) (giving b (set_type t)) (value-part ra a ta xa ha (set_type t) e) (value-part rb b tb xb hb (set_type t) (g ∙ ap (λ v. gives (set_type v)) (sym (same_type-then t u s)))) (h t))))

  override-back : (f : Formula) (k : Outcome → Outcome → Reading) → ((t u : ValueType) → Reads (gives (set_type (pair_type t u))) f false (from_two k (giving a (set_type (pair_type t u))) (giving b (set_type (pair_type t u))))) → Reads (override_role ra rb) f false (from_two k (part false ta xa) (part false tb xb))
  override-back f k h =
      let x = from_two k (part false ta xa) (part false tb xb) in
      on-relation f false x (λ t u. if_relation (λ v w. if_holds (same_type t v && same_type u w) (gives (set_type (pair_type t u)))) rb) ra (λ t u e.
      on-relation f false x (λ v w. if_holds (same_type t v && same_type u w) (gives (set_type (pair_type t u)))) rb (λ v w g.
      on-held f false x (same_type t v && same_type u w) (gives (set_type (pair_type t u))) (λ s.
      let two = and-both (same_type t v) (same_type u w) s in
      let left = same_type-then t v two.0 in
      let right = same_type-then u w two.1 in
      both (gives (set_type (pair_type t u))) f false k false (giving a (set_type (pair_type t u))) (giving b (set_type (pair_type t u))) (value-part ra a ta xa ha (set_type (pair_type t u)) e) (value-part rb b tb xb hb (set_type (pair_type t u)) (g ∙ λ i. gives (set_type (pair_type (sym left i) (sym right i))))) (h t u))))

  -- the right side is a relation, and the left one a set of its first parts
  left-part-back : (f : Formula) (k : Outcome → Outcome → Reading) → ((t u : ValueType) → Reads (gives (set_type (pair_type t u))) f false (from_two k (giving a (set_type t)) (giving b (set_type (pair_type t u))))) → Reads (domain_part_role rb ra) f false (from_two k (part false ta xa) (part false tb xb))
  left-part-back f k h =
      let x = from_two k (part false ta xa) (part false tb xb) in
      on-relation f false x (λ t u. if_set (λ v. if_holds (same_type v t) (gives (set_type (pair_type t u)))) ra) rb (λ t u g.
      on-set f false x (λ v. if_holds (same_type v t) (gives (set_type (pair_type t u)))) ra (λ v e.
      on-held f false x (same_type v t) (gives (set_type (pair_type t u))) (λ s.
      both (gives (set_type (pair_type t u))) f false k false (giving a (set_type t)) (giving b (set_type (pair_type t u))) (value-part ra a ta xa ha (set_type t) (e ∙ ap (λ z. gives (set_type z)) (same_type-then v t s))) (value-part rb b tb xb hb (set_type (pair_type t u)) g) (h t u))))

  right-part-back : (f : Formula) (k : Outcome → Outcome → Reading) → ((t u : ValueType) → Reads (gives (set_type (pair_type t u))) f false (from_two k (giving a (set_type (pair_type t u))) (giving b (set_type u)))) → Reads (range_part_role ra rb) f false (from_two k (part false ta xa) (part false tb xb))
  right-part-back f k h =
      let x = from_two k (part false ta xa) (part false tb xb) in
      on-relation f false x (λ t u. if_set (λ v. if_holds (same_type v u) (gives (set_type (pair_type t u)))) rb) ra (λ t u e.
      on-set f false x (λ v. if_holds (same_type v u) (gives (set_type (pair_type t u)))) rb (λ v g.
      on-held f false x (same_type v u) (gives (set_type (pair_type t u))) (λ s.
      both (gives (set_type (pair_type t u))) f false k false (giving a (set_type (pair_type t u))) (giving b (set_type u)) (value-part ra a ta xa ha (set_type (pair_type t u)) e) (value-part rb b tb xb hb (set_type u) (g ∙ ap (λ z. gives (set_type z)) (same_type-then v u s))) (h t u))))

  image-back : (f : Formula) (k : Outcome → Outcome → Reading) → ((t u : ValueType) → Reads (gives (set_type u)) f false (from_two k (giving a (set_type (pair_type t u))) (giving b (set_type t)))) → Reads (image_role ra rb) f false (from_two k (part false ta xa) (part false tb xb))
  image-back f k h =
      let x = from_two k (part false ta xa) (part false tb xb) in
      on-relation f false x (λ t u. if_set (λ v. if_holds (same_type v t) (gives (set_type u))) rb) ra (λ t u e.
      on-set f false x (λ v. if_holds (same_type v t) (gives (set_type u))) rb (λ v g.
      on-held f false x (same_type v t) (gives (set_type u)) (λ s.
      both (gives (set_type u)) f false k false (giving a (set_type (pair_type t u))) (giving b (set_type t)) (value-part ra a ta xa ha (set_type (pair_type t u)) e) (value-part rb b tb xb hb (set_type t) (g ∙ ap (λ z. gives (set_type z)) (same_type-then v t s))) (h t u))))

  apply-back : (f : Formula) (k : Outcome → Outcome → Reading) → ((t u : ValueType) → Reads (gives u) f false (from_two k (giving a (set_type (pair_type t u))) (giving b t))) → Reads (application_role ra rb) f false (from_two k (part false ta xa) (part false tb xb))
  apply-back f k h =
      let x = from_two k (part false ta xa) (part false tb xb) in
      on-relation f false x (λ t u. if_value (λ v. if_holds (same_type v t) (gives u)) rb) ra (λ t u e.
      on-value f false x (λ v. if_holds (same_type v t) (gives u)) rb (λ v g.
      on-held f false x (same_type v t) (gives u) (λ s.
      both (gives u) f false k false (giving a (set_type (pair_type t u))) (giving b t) (value-part ra a ta xa ha (set_type (pair_type t u)) e) (value-part rb b tb xb hb t (g ∙ ap gives (same_type-then v t s))) (h t u))))

  composition-back : (f : Formula) (k : Outcome → Outcome → Reading) → ((t u w : ValueType) → Reads (gives (set_type (pair_type t w))) f false (from_two k (giving a (set_type (pair_type t u))) (giving b (set_type (pair_type u w))))) → Reads (composition_role ra rb) f false (from_two k (part false ta xa) (part false tb xb))
  composition-back f k h =
      let x = from_two k (part false ta xa) (part false tb xb) in
      on-relation f false x (λ t u. if_relation (λ v w. if_holds (same_type u v) (gives (set_type (pair_type t w)))) rb) ra (λ t u e.
      on-relation f false x (λ v w. if_holds (same_type u v) (gives (set_type (pair_type t w)))) rb (λ v w g.
      on-held f false x (same_type u v) (gives (set_type (pair_type t w))) (λ s.
      both (gives (set_type (pair_type t w))) f false k false (giving a (set_type (pair_type t u))) (giving b (set_type (pair_type u w))) (value-part ra a ta xa ha (set_type (pair_type t u)) e) (value-part rb b tb xb hb (set_type (pair_type u w)) (g ∙ ap (λ z. gives (set_type (pair_type z w))) (sym (same_type-then u v s)))) (h t u w))))

  pair-back : (f : Formula) (k : Outcome → Outcome → Reading) → ((t u : ValueType) → Reads (gives (pair_type t u)) f false (from_two k (giving a t) (giving b u))) → Reads (pair_role ra rb) f false (from_two k (part false ta xa) (part false tb xb))
  pair-back f k h =
      let x = from_two k (part false ta xa) (part false tb xb) in
      on-value f false x (λ t. if_value (λ u. gives (pair_type t u)) rb) ra (λ t e.
      on-value f false x (λ u. gives (pair_type t u)) rb (λ u g.
      both (gives (pair_type t u)) f false k false (giving a t) (giving b u) (value-part ra a ta xa ha t e) (value-part rb b tb xb hb u g) (h t u)))

  -- of a part that is a domain, both ways
  domains : (r : Role) (f : Formula) (c : Bool) (k : Outcome → Outcome → Reading) (t u : ValueType) → (ra ≡ gives (set_type t)) ⊎ (ra ≡ ranges_over t) → (rb ≡ gives (set_type u)) ⊎ (rb ≡ ranges_over u)
      → Reads r f c (from_two k (giving a (set_type t)) (giving b (set_type u))) → ((y : ℕ) → Reads r f c (from_two k (giving a (set_type t)) (plainly (ranging b u y))))
      → ((x : ℕ) → Reads r f c (from_two k (plainly (ranging a t x)) (giving b (set_type u)))) → ((x y : ℕ) → Reads r f c (from_two k (plainly (ranging a t x)) (plainly (ranging b u y))))
      → Reads r f c (from_two k (part false ta xa) (part false tb xb))
  domains r f c k t u e g h1 h2 h3 h4 = elim (domain-part ra a ta xa ha t e) [
    | inl p ↦
        (elim (domain-part rb b tb xb hb u g) [
          | inl q ↦ both r f c k false (giving a (set_type t)) (giving b (set_type u)) p q h1
          | inr q ↦ both r f c k false (giving a (set_type t)) (plainly (ranging b u q.0)) p q.1 (h2 q.0)
        ])
    | inr p ↦
        (elim (domain-part rb b tb xb hb u g) [
          | inl q ↦ both r f c k false (plainly (ranging a t p.0)) (giving b (set_type u)) p.1 q (h3 p.0)
          | inr q ↦ both r f c k false (plainly (ranging a t p.0)) (plainly (ranging b u q.0)) p.1 q.1 (h4 p.0 q.0)
        ])
  ]

  arrow-back : (f : Formula) (k : Outcome → Outcome → Reading)
      → ((t u : ValueType) → Reads (ranges_over (set_type (pair_type t u))) f false (from_two k (giving a (set_type t)) (giving b (set_type u))))
      → ((t u : ValueType) (y : ℕ) → Reads (ranges_over (set_type (pair_type t u))) f false (from_two k (giving a (set_type t)) (plainly (ranging b u y))))
      → ((t u : ValueType) (x : ℕ) → Reads (ranges_over (set_type (pair_type t u))) f false (from_two k (plainly (ranging a t x)) (giving b (set_type u))))
      → ((t u : ValueType) (x y : ℕ) → Reads (ranges_over (set_type (pair_type t u))) f false (from_two k (plainly (ranging a t x)) (plainly (ranging b u y))))
      → Reads (arrow_role ra rb) f false (from_two k (part false ta xa) (part false tb xb))
  arrow-back f k h1 h2 h3 h4 =
      let x = from_two k (part false ta xa) (part false tb xb) in
      on-domain f false x (λ t. if_domain (λ u. ranges_over (set_type (pair_type t u))) rb) ra (λ t e.
      on-domain f false x (λ u. ranges_over (set_type (pair_type t u))) rb (λ u g.
      domains (ranges_over (set_type (pair_type t u))) f false k t u e g (h1 t u) (h2 t u) (h3 t u) (h4 t u)))

  member-back : (f : Formula) (k : Outcome → Outcome → Reading) → ((t : ValueType) → Reads predicate f true (from_two k (giving a t) (giving b (set_type t)))) → ((t : ValueType) (y : ℕ) → Reads predicate f true (from_two k (giving a t) (plainly (ranging b t y)))) → Reads (membership_role ra rb) f true (from_two k (part false ta xa) (part false tb xb))
  member-back f k h1 h2 =
      let x = from_two k (part false ta xa) (part false tb xb) in
      on-value f true x (λ t. if_domain (λ u. if_holds (same_type t u) predicate) rb) ra (λ t e.
      on-domain f true x (λ u. if_holds (same_type t u) predicate) rb (λ u g.
      on-held f true x (same_type t u) predicate (λ s.
      let p = value-part ra a ta xa ha u (e ∙ ap gives (same_type-then t u s)) in
      elim (domain-part rb b tb xb hb u g) [
        | inl q ↦ both predicate f true k false (giving a u) (giving b (set_type u)) p q (h1 u)
        | inr q ↦ both predicate f true k false (giving a u) (plainly (ranging b u q.0)) p q.1 (h2 u q.0)
      ])))

  product-back : (f : Formula) (k : Outcome → Outcome → Reading)
      → ((t u : ValueType) → Reads (gives (set_type (pair_type t u))) f false (from_two k (giving a (set_type t)) (giving b (set_type u))))
      → ((t u : ValueType) (y : ℕ) → Reads (ranges_over (pair_type t u)) f false (from_two k (giving a (set_type t)) (plainly (ranging b u y))))
      → ((t u : ValueType) (x : ℕ) → Reads (ranges_over (pair_type t u)) f false (from_two k (plainly (ranging a t x)) (giving b (set_type u))))
      → ((t u : ValueType) (x y : ℕ) → Reads (ranges_over (pair_type t u)) f false (from_two k (plainly (ranging a t x)) (plainly (ranging b u y))))
      → Reads (product_role ra rb) f false (from_two k (part false ta xa) (part false tb xb))
  product-back f k h1 h2 h3 h4 =
      let x = from_two k (part false ta xa) (part false tb xb) in
      on-product f false x ra rb
      (λ t u e g. both (gives (set_type (pair_type t u))) f false k false (giving a (set_type t)) (giving b (set_type u)) (value-part ra a ta xa ha (set_type t) e) (value-part rb b tb xb hb (set_type u) g) (h1 t u))
      (λ t u e g. let s : Reads (ranges_over u) b (is_predicate tb) xb = subst (λ q. Reads q b (is_predicate tb) xb) g hb in
      both (ranges_over (pair_type t u)) f false k false (giving a (set_type t)) (plainly (ranging b u s.0)) (value-part ra a ta xa ha (set_type t) e) (ap (λ c. cond (is_alike false c) xb (silently (not_predicate (place_of tb) ∷ xb.faults))) s.2 ∙ s.1) (h2 t u s.0))
      (λ t u e g. let s : Reads (ranges_over t) a (is_predicate ta) xa = subst (λ q. Reads q a (is_predicate ta) xa) e ha in
      let p : part false ta xa ≡ plainly (ranging a t s.0) = ap (λ c. cond (is_alike false c) xa (silently (not_predicate (place_of ta) ∷ xa.faults))) s.2 ∙ s.1 in
      elim (domain-part rb b tb xb hb u g) [
        | inl q ↦ both (ranges_over (pair_type t u)) f false k false (plainly (ranging a t s.0)) (giving b (set_type u)) p q (h3 t u s.0)
        | inr q ↦ both (ranges_over (pair_type t u)) f false k false (plainly (ranging a t s.0)) (plainly (ranging b u q.0)) p q.1 (h4 t u s.0 q.0)
      ])

  abbrev pub form_tree : BinaryForm → RawTreeNode
  form_tree (infix_form o) = raw_infix o ta tb
  form_tree image_form = raw_image ta tb
  form_tree apply_form = raw_apply ta tb
  form_tree composition_form = raw_composition ta tb

  abbrev pub form_reading : BinaryForm → ℕ → Reading
  form_reading (infix_form o) p = spoilt_by (strict_faults o ta tb) (from_two (infix_reading o p (place_of ta) (place_of tb)) (part (is_connective o) ta xa) (part (is_connective o) tb xb))
  form_reading image_form p = from_two (image_reading (place_of ta) (place_of tb)) (part false ta xa) (part false tb xb)
  form_reading apply_form p = from_two (apply_reading (place_of ta) (place_of tb)) (part false ta xa) (part false tb xb)
  form_reading composition_form p = from_two (composition_reading p (place_of ta) (place_of tb)) (part false ta xa) (part false tb xb)

  pub binary-reads : (o : BinOp) (p : ℕ) → Reads (binary_role o ra rb) (binary o a b) (is_predicate_node (form_tree (binary_form o))) (form_reading (binary_form o) p)
  binary-reads Conjunction p = connective-back (binary Conjunction a b) (infix_reading WrittenAnd p (place_of ta) (place_of tb)) refl
  binary-reads Disjunction p = connective-back (binary Disjunction a b) (infix_reading WrittenOr p (place_of ta) (place_of tb)) refl
  binary-reads Imp p = connective-back (binary Imp a b) (infix_reading WrittenImplies p (place_of ta) (place_of tb)) refl
  binary-reads Iff p = connective-back (binary Iff a b) (infix_reading WrittenEquivalent p (place_of ta) (place_of tb)) refl
  binary-reads Eq p = equality-back (binary Eq a b) (infix_reading WrittenEqual p (place_of ta) (place_of tb)) (λ t. (rw (same-self t) refl, refl))
  binary-reads Lt p = numbers-back predicate (binary Lt a b) true (infix_reading WrittenLess p (place_of ta) (place_of tb)) (refl, refl)
  binary-reads Le p = numbers-back predicate (binary Le a b) true (infix_reading WrittenAtMost p (place_of ta) (place_of tb)) (refl, refl)
  binary-reads In p = member-back (binary In a b) (infix_reading WrittenMember p (place_of ta) (place_of tb)) (λ t. (rw (same-self t) refl, refl)) (λ t y. (rw (same-self t) refl, refl))
  binary-reads RelationsOf p = arrow-back (binary RelationsOf a b) (infix_reading WrittenRelations p (place_of ta) (place_of tb)) (λ t u. (_, refl, refl)) (λ t u y. (_, refl, refl)) (λ t u x. (_, refl, refl)) (λ t u x y. (_, refl, refl))
  binary-reads PartialOf p = arrow-back (binary PartialOf a b) (infix_reading WrittenPartialFunctions p (place_of ta) (place_of tb)) (λ t u. (_, refl, refl)) (λ t u y. (_, refl, refl)) (λ t u x. (_, refl, refl)) (λ t u x y. (_, refl, refl))
  binary-reads TotalOf p = arrow-back (binary TotalOf a b) (infix_reading WrittenTotalFunctions p (place_of ta) (place_of tb)) (λ t u. (_, refl, refl)) (λ t u y. (_, refl, refl)) (λ t u x. (_, refl, refl)) (λ t u x y. (_, refl, refl))
  binary-reads PartialInjectionsOf p = arrow-back (binary PartialInjectionsOf a b) (infix_reading WrittenPartialInjections p (place_of ta) (place_of tb)) (λ t u. (_, refl, refl)) (λ t u y. (_, refl, refl)) (λ t u x. (_, refl, refl)) (λ t u x y. (_, refl, refl))
  binary-reads TotalInjectionsOf p = arrow-back (binary TotalInjectionsOf a b) (infix_reading WrittenTotalInjections p (place_of ta) (place_of tb)) (λ t u. (_, refl, refl)) (λ t u y. (_, refl, refl)) (λ t u x. (_, refl, refl)) (λ t u x y. (_, refl, refl))
  binary-reads PartialSurjectionsOf p = arrow-back (binary PartialSurjectionsOf a b) (infix_reading WrittenPartialSurjections p (place_of ta) (place_of tb)) (λ t u. (_, refl, refl)) (λ t u y. (_, refl, refl)) (λ t u x. (_, refl, refl)) (λ t u x y. (_, refl, refl))
  binary-reads TotalSurjectionsOf p = arrow-back (binary TotalSurjectionsOf a b) (infix_reading WrittenTotalSurjections p (place_of ta) (place_of tb)) (λ t u. (_, refl, refl)) (λ t u y. (_, refl, refl)) (λ t u x. (_, refl, refl)) (λ t u x y. (_, refl, refl))
  binary-reads BijectionsOf p = arrow-back (binary BijectionsOf a b) (infix_reading WrittenBijections p (place_of ta) (place_of tb)) (λ t u. (_, refl, refl)) (λ t u y. (_, refl, refl)) (λ t u x. (_, refl, refl)) (λ t u x y. (_, refl, refl))
  binary-reads Joining p = sets-back (binary Joining a b) (infix_reading WrittenUnion p (place_of ta) (place_of tb)) (λ t. (rw (same-self t) refl, refl))
  binary-reads Inter p = sets-back (binary Inter a b) (infix_reading WrittenIntersection p (place_of ta) (place_of tb)) (λ t. (rw (same-self t) refl, refl))
  binary-reads Without p = sets-back (binary Without a b) (infix_reading WrittenMinus p (place_of ta) (place_of tb)) (λ t. (rw (same-self t) refl, refl))
  binary-reads Product p = product-back (binary Product a b) (infix_reading WrittenTimes p (place_of ta) (place_of tb)) (λ t u. (refl, refl)) (λ t u y. (_, refl, refl)) (λ t u x. (_, refl, refl)) (λ t u x y. (_, refl, refl))
  binary-reads DomRes p = left-part-back (binary DomRes a b) (infix_reading WrittenDomainRestriction p (place_of ta) (place_of tb)) (λ t u. (rw (same-self t) refl, refl))
  binary-reads RanRes p = right-part-back (binary RanRes a b) (infix_reading WrittenRangeRestriction p (place_of ta) (place_of tb)) (λ t u. (rw (same-self u) refl, refl))
  binary-reads DomSub p = left-part-back (binary DomSub a b) (infix_reading WrittenDomainSubtraction p (place_of ta) (place_of tb)) (λ t u. (rw (same-self t) refl, refl))
  binary-reads RanSub p = right-part-back (binary RanSub a b) (infix_reading WrittenRangeSubtraction p (place_of ta) (place_of tb)) (λ t u. (rw (same-self u) refl, refl))
  binary-reads Over p = override-back (binary Over a b) (infix_reading WrittenOverride p (place_of ta) (place_of tb)) (λ t u. (rw (same-self t, same-self u) refl, refl))
  binary-reads Maps p = pair-back (binary Maps a b) (infix_reading WrittenMaplet p (place_of ta) (place_of tb)) (λ t u. (refl, refl))
  binary-reads Range p = numbers-back (gives (set_type int_type)) (binary Range a b) false (infix_reading WrittenInterval p (place_of ta) (place_of tb)) (refl, refl)
  binary-reads Add p = numbers-back (gives int_type) (binary Add a b) false (infix_reading WrittenPlus p (place_of ta) (place_of tb)) (refl, refl)
  binary-reads Sub p = numbers-back (gives int_type) (binary Sub a b) false (infix_reading WrittenMinus p (place_of ta) (place_of tb)) (refl, refl)
  binary-reads Mul p = numbers-back (gives int_type) (binary Mul a b) false (infix_reading WrittenTimes p (place_of ta) (place_of tb)) (refl, refl)
  binary-reads Div p = numbers-back (gives int_type) (binary Div a b) false (infix_reading WrittenDivide p (place_of ta) (place_of tb)) (refl, refl)
  binary-reads Remainder p = numbers-back (gives int_type) (binary Remainder a b) false (infix_reading WrittenMod p (place_of ta) (place_of tb)) (refl, refl)
  binary-reads PowerTo p = numbers-back (gives int_type) (binary PowerTo a b) false (infix_reading WrittenPower p (place_of ta) (place_of tb)) (refl, refl)
  binary-reads ImageOf p = image-back (binary ImageOf a b) (image_reading (place_of ta) (place_of tb)) (λ t u. (rw (same-self t) refl, refl))
  binary-reads ApplyTo p = apply-back (binary ApplyTo a b) (apply_reading (place_of ta) (place_of tb)) (λ t u. (rw (same-self t) refl, refl))
  binary-reads Comp p = composition-back (binary Comp a b) (composition_reading p (place_of ta) (place_of tb)) (λ t u w. (rw (same-self u) refl, refl))

-- ---- operators on one part
module _ (a : Formula) (ra : Role) (ta : RawTree) (xa : Reading) (ha : Reads ra a (is_predicate ta) xa) where
  one : (r : Role) (f : Formula) (c : Bool) (k : Outcome → Reading) (wanted : Bool) (p : Reading) → part wanted ta xa ≡ p → Reads r f c (from_one k p) → Reads r f c (from_one k (part wanted ta xa))
  one r f c k wanted p e h = subst (Reads r f c) (λ i. from_one k (sym e i)) h

  predicate-back : (r : Role) (f : Formula) (c : Bool) (k : Outcome → Reading) → Reads r f c (from_one k (plainly (holding a))) → Reads (if_predicate r ra) f c (from_one k (part true ta xa))
  predicate-back r f c k h = on-predicate f c (from_one k (part true ta xa)) r ra (λ e. one r f c k true (plainly (holding a)) (predicate-part ra a ta xa ha e) h)

  number-back : (r : Role) (f : Formula) (c : Bool) (k : Outcome → Reading) → Reads r f c (from_one k (giving a int_type)) → Reads (if_number r ra) f c (from_one k (part false ta xa))
  number-back r f c k h = on-number f c (from_one k (part false ta xa)) r ra (λ e. one r f c k false (giving a int_type) (value-part ra a ta xa ha int_type e) h)

  value-back : (r : ValueType → Role) (f : Formula) (c : Bool) (k : Outcome → Reading) → ((t : ValueType) → Reads (r t) f c (from_one k (giving a t))) → Reads (if_value r ra) f c (from_one k (part false ta xa))
  value-back r f c k h = on-value f c (from_one k (part false ta xa)) r ra (λ t e. one (r t) f c k false (giving a t) (value-part ra a ta xa ha t e) (h t))

  set-back : (r : ValueType → Role) (f : Formula) (c : Bool) (k : Outcome → Reading) → ((t : ValueType) → Reads (r t) f c (from_one k (giving a (set_type t)))) → Reads (if_set r ra) f c (from_one k (part false ta xa))
  set-back r f c k h = on-set f c (from_one k (part false ta xa)) r ra (λ t e. one (r t) f c k false (giving a (set_type t)) (value-part ra a ta xa ha (set_type t) e) (h t))

  integers-back : (f : Formula) (k : Outcome → Reading) → Reads (gives int_type) f false (from_one k (giving a (set_type int_type))) → Reads (if_set (λ t. if_holds (same_type t int_type) (gives int_type)) ra) f false (from_one k (part false ta xa))
  integers-back f k h =
      let x = from_one k (part false ta xa) in
      on-set f false x (λ t. if_holds (same_type t int_type) (gives int_type)) ra (λ t e.
      on-held f false x (same_type t int_type) (gives int_type) (λ s.
      one (gives int_type) f false k false (giving a (set_type int_type)) (value-part ra a ta xa ha (set_type int_type) (e ∙ ap (λ z. gives (set_type z)) (same_type-then t int_type s))) h))

  relation-back : (r : ValueType → ValueType → Role) (f : Formula) (c : Bool) (k : Outcome → Reading) → ((t u : ValueType) → Reads (r t u) f c (from_one k (giving a (set_type (pair_type t u))))) → Reads (if_relation r ra) f c (from_one k (part false ta xa))
  relation-back r f c k h = on-relation f c (from_one k (part false ta xa)) r ra (λ t u e. one (r t u) f c k false (giving a (set_type (pair_type t u))) (value-part ra a ta xa ha (set_type (pair_type t u)) e) (h t u))

  domain-back : (r : ValueType → Role) (f : Formula) (c : Bool) (k : Outcome → Reading) → ((t : ValueType) → Reads (r t) f c (from_one k (giving a (set_type t)))) → ((t : ValueType) (y : ℕ) → Reads (r t) f c (from_one k (plainly (ranging a t y)))) → Reads (if_domain r ra) f c (from_one k (part false ta xa))
  domain-back r f c k h1 h2 =
      on-domain f c (from_one k (part false ta xa)) r ra (λ t e. elim (domain-part ra a ta xa ha t e) [
        | inl q ↦ one (r t) f c k false (giving a (set_type t)) q (h1 t)
        | inr q ↦ one (r t) f c k false (plainly (ranging a t q.0)) q.1 (h2 t q.0)
      ])

  abbrev pub one_tree : UnaryForm → RawTreeNode
  one_tree (word_form o) = raw_word o ta
  one_tree negative_form = raw_negative ta
  one_tree inverse_form = raw_inverse ta
  one_tree single_form = raw_extension (tree_and ta no_trees)

  abbrev pub one_reading : UnaryForm → ℕ → Reading
  one_reading (word_form o) p = from_one (word_reading o p (place_of ta)) (part (takes_predicate o) ta xa)
  one_reading negative_form p = from_one (negative_reading (place_of ta)) (part false ta xa)
  one_reading inverse_form p = from_one (inverse_reading (place_of ta)) (part false ta xa)
  one_reading single_form p = from_one single_reading (part false ta xa)

  pub unary-reads : (o : UnOp) (p : ℕ) → Reads (unary_role o ra) (unary o a) (is_predicate_node (one_tree (unary_form o))) (one_reading (unary_form o) p)
  unary-reads Negation p = predicate-back predicate (unary Negation a) true (word_reading Not p (place_of ta)) (refl, refl)
  unary-reads TruthOf p = predicate-back (gives bool_type) (unary TruthOf a) false (word_reading BoolOf p (place_of ta)) (refl, refl)
  unary-reads Neg p = number-back (gives int_type) (unary Neg a) false (negative_reading (place_of ta)) (refl, refl)
  unary-reads CardOf p = set-back (λ t. gives int_type) (unary CardOf a) false (word_reading Card p (place_of ta)) (λ t. (refl, refl))
  unary-reads MinOf p = integers-back (unary MinOf a) (word_reading Min p (place_of ta)) (refl, refl)
  unary-reads MaxOf p = integers-back (unary MaxOf a) (word_reading Max p (place_of ta)) (refl, refl)
  unary-reads DomainOf p = relation-back (λ t u. gives (set_type t)) (unary DomainOf a) false (word_reading Dom p (place_of ta)) (λ t u. (refl, refl))
  unary-reads RangeOf p = relation-back (λ t u. gives (set_type u)) (unary RangeOf a) false (word_reading Ran p (place_of ta)) (λ t u. (refl, refl))
  unary-reads IdOf p = set-back (λ t. gives (set_type (pair_type t t))) (unary IdOf a) false (word_reading Id p (place_of ta)) (λ t. (refl, refl))
  unary-reads InverseOf p = relation-back (λ t u. gives (set_type (pair_type u t))) (unary InverseOf a) false (inverse_reading (place_of ta)) (λ t u. (refl, refl))
  unary-reads Single p = value-back (λ t. gives (set_type t)) (unary Single a) false single_reading (λ t. (refl, refl))
  unary-reads PowerOf p = domain-back (λ t. ranges_over (set_type t)) (unary PowerOf a) false (word_reading Pow p (place_of ta)) (λ t. (_, refl, refl)) (λ t y. (_, refl, refl))
  unary-reads Power1Of p = domain-back (λ t. ranges_over (set_type t)) (unary Power1Of a) false (word_reading Pow1 p (place_of ta)) (λ t. (_, refl, refl)) (λ t y. (_, refl, refl))
