-- What each operator makes of right parts is right.
use Rattle.std.proofs.Common.{◌≡◌, inl, inr, ℕ, List, ◌++◌, refl, sym, ◌∙◌, ap, Bool, true, false}
use Rattle.std.specs.Prelude.{Option, None, Some, cond, pos, ℤ}
use Rattle.bk_val.specs.ValueType.{ValueType, int_type, bool_type, pair_type, set_type}
use Rattle.bk_form.specs.Table.{Table, lists_type}
use Rattle.bk_form.specs.Formula.{Formula, literal, unary, binary}
use Rattle.bk_form.specs.Role.{Role, role, gives, ranges_over, predicate, same_type, if_domain, binary_role, connective_role, numbers_role, arrow_role, domain_part_role, range_part_role}
use Rattle.bk_form.specs.declared.operator.UnOp.TheVariants.{Not as Negation, BoolOf as TruthOf, Neg, Card as CardOf, Min as MinOf, Max as MaxOf, Dom as DomainOf, Ran as RangeOf, Id as IdOf, Inverse as InverseOf, Pow as PowerOf, Pow1 as Power1Of}
use Rattle.bk_form.specs.declared.operator.BinOp.{BinOp}
use Rattle.bk_form.specs.declared.operator.BinOp.TheVariants.{And as Conjunction, Or as Disjunction, Imp, Iff, Eq, Lt, Le, In, Times as Product, DomRes, RanRes, DomSub, RanSub, Range, Add, Sub, Mul, Div, Mod as Remainder, Power as PowerTo, Image as ImageOf, Apply as ApplyTo, Comp, Relations as RelationsOf, PartialFunctions as PartialOf, TotalFunctions as TotalOf, PartialInjections as PartialInjectionsOf, TotalInjections as TotalInjectionsOf, PartialSurjections as PartialSurjectionsOf, TotalSurjections as TotalSurjectionsOf, Bijections as BijectionsOf}
use Rattle.bk_raw.specs.declared.operator.InfixOp.{InfixOp}
use Rattle.bk_raw.specs.declared.operator.InfixOp.TheVariants.{Equivalent, Implies, And, Or, Equal, NotEqual, Less, AtMost, Greater, AtLeast, Member, NotMember, Subset, NotSubset, StrictSubset, Relations, PartialFunctions, TotalFunctions, PartialInjections, TotalInjections, PartialSurjections, TotalSurjections, Bijections, Union, Intersection, DomainRestriction, RangeRestriction, DomainSubtraction, RangeSubtraction, Override, Maplet, Interval, Plus, Minus, Times, Divide, Mod, Power, Concatenation, Prepend, Append}
use Rattle.bk_raw.specs.declared.operator.WordOp.{WordOp}
use Rattle.bk_raw.specs.declared.operator.WordOp.TheVariants.{Not, BoolOf, Card, Min, Max, Dom, Ran, Id, Succ, Pred, Pow, Pow1, Fin, Fin1, Seq, Size, First, Last, Front, Tail, Rev}
use Rattle.bk_raw.specs.declared.operator.Constant.{Constant}
use Rattle.bk_raw.specs.declared.operator.Constant.TheVariants.{Bool as BoolWord, True, False, Integer, Natural, Natural1, Int, Nat, Nat1, MaxInt, MinInt, Btrue, Bfalse}
use Rattle.bk_form.proofs.Roles.{same_type-then}
use Rattle.bk_raw.specs.Meaning.Outcome.{Joint, union_joint, inter_joint, minus_joint, over_joint, joins, Partial, whole, hollow, single_of, pair_of, joint_of, filled, whole_of, Outcome, partial, ranging, holding, silent, Reading, silently, plainly, giving, no_type, fitting, ask, ask_set, ask_relation, ask_domain, ask_predicate, of_one}
use Rattle.bk_raw.specs.Meaning.OperatorReadings.{constant_reading, word_reading, negative_reading, inverse_reading, domain_made, connected, compared, calculated, one_type_by, one_type, equal, strict, strictly, in_domain, in_power, arrow, joined, joint, is_number, minus_by, minus, times, left_part, right_part, image_reading, apply_reading, composed, composition_reading, paired, pair_reading, negated, turned, infix_reading, singled, single_reading, extended}
use Rattle.bk_raw.specs.Meaning.RightReading.{Whenever, IsRightPartial}
use Rattle.bk_raw.proofs.Filled.{and-true, and-both, same_type-self, joint-gives}
use Rattle.bk_raw.proofs.Asks.{Right, Of, IsDomain, fitting-right, ask-right, ask_set-right, ask_relation-right, ask_domain-right, ask_predicate-right, of_one-right, of_both-right, dependent-right, on_values-right}
use Rattle.bk_raw.specs.Errors.Faults.{Fault}

module _ (table : Table) (around : List ValueType) where
  abbrev Lists : ValueType → Type 0
  Lists t = lists_type table t ≡ true

  abbrev Gave : ValueType → Formula → Type 0
  Gave t f = role table around f ≡ gives t

  abbrev Holds : Formula → Type 0
  Holds f = role table around f ≡ predicate

  pub constant-right : (int_max : ℤ) (at : ℕ) (c : Constant) → Right table around (constant_reading int_max at c).outcome
  constant-right int_max at BoolWord = (refl, refl)
  constant-right int_max at True = (refl, refl)
  constant-right int_max at False = (refl, refl)
  constant-right int_max at Integer = (refl, refl)
  constant-right int_max at Natural = (refl, refl)
  constant-right int_max at Natural1 = (refl, refl)
  constant-right int_max at Int = (refl, refl)
  constant-right int_max at Nat = (refl, refl)
  constant-right int_max at Nat1 = (refl, refl)
  constant-right int_max at MaxInt = (refl, refl)
  constant-right int_max at MinInt = (refl, refl)
  constant-right int_max at Btrue = refl
  constant-right int_max at Bfalse = refl

  -- ---- one part
  if_domain-over : (d : Formula × ValueType) (k : ValueType → Role) → IsDomain table around d → if_domain k (role table around d.0) ≡ k d.1
  if_domain-over d k h = elim h.form [ inl e ↦ rw e refl | inr e ↦ rw e refl ]

  power-right : (at : ℕ) (d : Formula × ValueType) → IsDomain table around d → Right table around (domain_made at PowerOf d)
  power-right at d h = (if_domain-over d (λ t. ranges_over (set_type t)) h, h.listed)

  power1-right : (at : ℕ) (d : Formula × ValueType) → IsDomain table around d → Right table around (domain_made at Power1Of d)
  power1-right at d h = (if_domain-over d (λ t. ranges_over (set_type t)) h, h.listed)

  pub word-right : (w : WordOp) (at x : ℕ) (a : Outcome) → Right table around a → Right table around (word_reading w at x a).outcome
  word-right Not at x a r = of_one-right table around Holds (λ p. holding (unary Negation p)) (ask_predicate a) (λ p h. rw h refl) (ask_predicate-right table around a r)
  word-right BoolOf at x a r = of_one-right table around Holds (λ p. partial (whole (unary TruthOf p) bool_type)) (ask_predicate a) (λ p h. (rw h refl, refl)) (ask_predicate-right table around a r)
  word-right Card at x a r = of_one-right table around (λ s. Of table around s.0 (set_type s.1)) (λ s. partial (whole (unary CardOf s.0) int_type)) (ask_set x a) (λ s h. (rw h.0 refl, refl)) (ask_set-right table around x a r)
  word-right Min at x a r = of_one-right table around (Gave (set_type int_type)) (λ s. partial (whole (unary MinOf s) int_type)) (ask x a (set_type int_type)) (λ s h. (rw h refl, refl)) (ask-right table around x a (set_type int_type) r refl)
  word-right Max at x a r = of_one-right table around (Gave (set_type int_type)) (λ s. partial (whole (unary MaxOf s) int_type)) (ask x a (set_type int_type)) (λ s h. (rw h refl, refl)) (ask-right table around x a (set_type int_type) r refl)
  word-right Dom at x a r = of_one-right table around (λ s. Of table around s.0 (set_type (pair_type s.1 s.2))) (λ s. partial (whole (unary DomainOf s.0) (set_type s.1))) (ask_relation x a) (λ s h. (rw h.0 refl, (and-both (lists_type table s.1) (lists_type table s.2) h.1).0)) (ask_relation-right table around x a r)
  word-right Ran at x a r = of_one-right table around (λ s. Of table around s.0 (set_type (pair_type s.1 s.2))) (λ s. partial (whole (unary RangeOf s.0) (set_type s.2))) (ask_relation x a) (λ s h. (rw h.0 refl, (and-both (lists_type table s.1) (lists_type table s.2) h.1).1)) (ask_relation-right table around x a r)
  word-right Id at x a r = of_one-right table around (λ s. Of table around s.0 (set_type s.1)) (λ s. partial (whole (unary IdOf s.0) (set_type (pair_type s.1 s.1)))) (ask_set x a) (λ s h. (rw h.0 refl, and-true (lists_type table s.1) (lists_type table s.1) h.1 h.1)) (ask_set-right table around x a r)
  word-right Succ at x a r = of_one-right table around (Gave int_type) (λ f. partial (whole (binary Add f (literal (pos 1))) int_type)) (ask x a int_type) (λ s h. (rw h refl, refl)) (ask-right table around x a int_type r refl)
  word-right Pred at x a r = of_one-right table around (Gave int_type) (λ f. partial (whole (binary Sub f (literal (pos 1))) int_type)) (ask x a int_type) (λ s h. (rw h refl, refl)) (ask-right table around x a int_type r refl)
  word-right Pow at x a r = of_one-right table around (IsDomain table around) (domain_made at PowerOf) (ask_domain x a) (power-right at) (ask_domain-right table around x a r)
  word-right Pow1 at x a r = of_one-right table around (IsDomain table around) (domain_made at Power1Of) (ask_domain x a) (power1-right at) (ask_domain-right table around x a r)
  word-right Fin at x a r = of_one-right table around (IsDomain table around) (domain_made at PowerOf) (ask_domain x a) (power-right at) (ask_domain-right table around x a r)
  word-right Fin1 at x a r = of_one-right table around (IsDomain table around) (domain_made at Power1Of) (ask_domain x a) (power1-right at) (ask_domain-right table around x a r)
  word-right Seq at x a r = tt
  word-right Size at x a r = tt
  word-right First at x a r = tt
  word-right Last at x a r = tt
  word-right Front at x a r = tt
  word-right Tail at x a r = tt
  word-right Rev at x a r = tt

  pub negative-right : (x : ℕ) (a : Outcome) → Right table around a → Right table around (negative_reading x a).outcome
  negative-right x a r = of_one-right table around (Gave int_type) (λ f. partial (whole (unary Neg f) int_type)) (ask x a int_type) (λ s h. (rw h refl, refl)) (ask-right table around x a int_type r refl)

  pub inverse-right : (x : ℕ) (a : Outcome) → Right table around a → Right table around (inverse_reading x a).outcome
  inverse-right x a r = of_one-right table around (λ s. Of table around s.0 (set_type (pair_type s.1 s.2))) (λ s. partial (whole (unary InverseOf s.0) (set_type (pair_type s.2 s.1)))) (ask_relation x a)
      (λ s h. (rw h.0 refl, let m = and-both (lists_type table s.1) (lists_type table s.2) h.1 in and-true (lists_type table s.2) (lists_type table s.1) m.1 m.0)) (ask_relation-right table around x a r)

  -- ---- two parts
  pub connected-right : (o : BinOp) (a b : Outcome) → ((x y : Role) → binary_role o x y ≡ connective_role x y) → Right table around a → Right table around b → Right table around (connected o a b).outcome
  connected-right o a b e r s = of_both-right table around Holds Holds (λ p q. holding (binary o p q)) (ask_predicate a) (ask_predicate b) (λ p q h k. e (role table around p) (role table around q) ∙ rw (h, k) refl) (ask_predicate-right table around a r) (ask_predicate-right table around b s)

  compared-right : (k : Formula → Formula → Formula) (x y : ℕ) (a b : Outcome) → ((f g : Formula) → Gave int_type f → Gave int_type g → Holds (k f g)) → Right table around a → Right table around b → Right table around (compared k x y a b).outcome
  compared-right k x y a b e r s = of_both-right table around (Gave int_type) (Gave int_type) (λ f g. holding (k f g)) (ask x a int_type) (ask y b int_type) e (ask-right table around x a int_type r refl) (ask-right table around y b int_type s refl)

  calculated-right : (o : BinOp) (t : ValueType) (x y : ℕ) (a b : Outcome) → ((v w : Role) → binary_role o v w ≡ numbers_role (gives t) v w) → Lists t → Right table around a → Right table around b → Right table around (calculated o t x y a b).outcome
  calculated-right o t x y a b e l r s = of_both-right table around (Gave int_type) (Gave int_type) (λ f g. partial (whole (binary o f g) t)) (ask x a int_type) (ask y b int_type) (λ f g h k. (e (role table around f) (role table around g) ∙ rw (h, k) refl, l)) (ask-right table around x a int_type r refl) (ask-right table around y b int_type s refl)

  whole_of-right : (p : Partial) → IsRightPartial table around p → Whenever (λ v. Of table around v.0 v.1) (whole_of p)
  whole_of-right (whole f t) h = h
  whole_of-right hollow h = tt
  whole_of-right (single_of p) h = tt
  whole_of-right (pair_of p q) h = tt
  whole_of-right (joint_of j p q) h = tt

  tested : (b : Bool) (k : Formula → Outcome) (at x : ℕ) (t : ValueType) (q : Partial) → (b ≡ true → (g : Formula) → Gave t g → Right table around (k g)) → IsRightPartial table around q → Lists t → Right table around (cond b (of_one k (fitting at (filled q t))) (silently (no_type x))).outcome
  tested true k at x t q e h l = of_one-right table around (Gave t) k (fitting at (filled q t)) (e refl) (fitting-right table around at t q h l)
  tested false k at x t q e h l = tt

  -- what two values of one type make
  abbrev Alike : (ValueType → Bool) → (Formula → Formula → ValueType → Outcome) → Type 0
  Alike test k = (f g : Formula) (t : ValueType) → test t ≡ true → Lists t → Gave t f → Gave t g → Right table around (k f g t)

  one_type_by-right : (test : ValueType → Bool) (k : Formula → Formula → ValueType → Outcome) (neither : Reading) (at : ℕ) → Alike test k → Right table around neither.outcome → (v w : Option (Formula × ValueType)) (p q : Partial) → Whenever (λ u. Of table around u.0 u.1) v → Whenever (λ u. Of table around u.0 u.1) w → IsRightPartial table around p → IsRightPartial table around q → Right table around (one_type_by test k neither at v w p q).outcome
  one_type_by-right test k neither at e n (Some v) w p q h i r s = tested (test v.1) (λ g. k v.0 g v.1) at at v.1 q (λ m g a. e v.0 g v.1 m h.1 h.0 a) s h.1
  one_type_by-right test k neither at e n None (Some w) p q h i r s = tested (test w.1) (λ f. k f w.0 w.1) at at w.1 p (λ m f a. e f w.0 w.1 m i.1 a i.0) r i.1
  one_type_by-right test k neither at e n None None p q h i r s = n

  one_type-right : (test : ValueType → Bool) (k : Formula → Formula → ValueType → Outcome) (neither : Reading) (at : ℕ) → Alike test k → (p q : Partial) → Right table around neither.outcome → IsRightPartial table around p → IsRightPartial table around q → Right table around (one_type test k neither at p q).outcome
  one_type-right test k neither at e p q n r s = one_type_by-right test k neither at e n (whole_of p) (whole_of q) p q (whole_of-right p r) (whole_of-right q s) r s

  same-equal : Alike (λ t. true) (λ f g t. holding (binary Eq f g))
  same-equal f g t m l h k = rw (h, k, same_type-self t) refl

  same-not_equal : Alike (λ t. true) (λ f g t. holding (negated (binary Eq) f g))
  same-not_equal f g t m l h k = rw (h, k, same_type-self t) refl

  strict-holds : (d : Formula × ValueType) (e : Formula) → Of table around d.0 (set_type d.1) → Gave (set_type d.1) e → Holds (strict e d.0)
  strict-holds d e h k = rw (k, h.0, same_type-self d.1) refl

  strictly-right : (x y : ℕ) (a b : Outcome) → Right table around a → Right table around b → Right table around (strictly x y a b).outcome
  strictly-right x y a b r s = dependent-right table around (λ d. Of table around d.0 (set_type d.1)) (λ d. set_type d.1) (λ d f. holding (strict f d.0)) (ask_set y b) x a (λ d h. h.1) (λ d f h m. strict-holds d f h m) (ask_set-right table around y b s) r

  in_domain-right : (k : Formula → Formula → Formula) (x y : ℕ) (a b : Outcome) → ((d : Formula × ValueType) (e : Formula) → IsDomain table around d → Gave d.1 e → Holds (k e d.0)) → Right table around a → Right table around b → Right table around (in_domain k x y a b).outcome
  in_domain-right k x y a b e r s = dependent-right table around (IsDomain table around) (λ d. d.1) (λ d f. holding (k f d.0)) (ask_domain y b) x a (λ d h. h.listed) (λ d f h m. e d f h m) (ask_domain-right table around y b s) r

  in_power-right : (k : Formula → Formula → Formula) (x y : ℕ) (a b : Outcome) → ((d : Formula × ValueType) (e : Formula) → IsDomain table around d → Gave (set_type d.1) e → Holds (k e (unary PowerOf d.0))) → Right table around a → Right table around b → Right table around (in_power k x y a b).outcome
  in_power-right k x y a b e r s = dependent-right table around (IsDomain table around) (λ d. set_type d.1) (λ d f. holding (k f (unary PowerOf d.0))) (ask_domain y b) x a (λ d h. h.listed) (λ d f h m. e d f h m) (ask_domain-right table around y b s) r

  same-member : (d : Formula × ValueType) (e : Formula) → IsDomain table around d → Gave d.1 e → Holds (binary In e d.0)
  same-member d e h k = elim h.form [ inl m ↦ rw (m, k, same_type-self d.1) refl | inr m ↦ rw (m, k, same_type-self d.1) refl ]

  same-not_member : (d : Formula × ValueType) (e : Formula) → IsDomain table around d → Gave d.1 e → Holds (negated (binary In) e d.0)
  same-not_member d e h k = rw (same-member d e h k) refl

  same-subset : (d : Formula × ValueType) (e : Formula) → IsDomain table around d → Gave (set_type d.1) e → Holds (binary In e (unary PowerOf d.0))
  same-subset d e h k = elim h.form [ inl m ↦ rw (m, k, same_type-self d.1) refl | inr m ↦ rw (m, k, same_type-self d.1) refl ]

  same-not_subset : (d : Formula × ValueType) (e : Formula) → IsDomain table around d → Gave (set_type d.1) e → Holds (negated (binary In) e (unary PowerOf d.0))
  same-not_subset d e h k = rw (same-subset d e h k) refl

  arrow-right : (o : BinOp) (at x y : ℕ) (a b : Outcome) → ((v w : Role) → binary_role o v w ≡ arrow_role v w) → Right table around a → Right table around b → Right table around (arrow o at x y a b).outcome
  arrow-right o at x y a b e r s = of_both-right table around (IsDomain table around) (IsDomain table around) (λ d f. ranging (binary o d.0 f.0) (set_type (pair_type d.1 f.1)) at) (ask_domain x a) (ask_domain y b)
      (λ d f h k. (e (role table around d.0) (role table around f.0) ∙ if_domain-over d (λ t. if_domain (λ u. ranges_over (set_type (pair_type t u))) (role table around f.0)) h ∙ if_domain-over f (λ u. ranges_over (set_type (pair_type d.1 u))) k, and-true (lists_type table d.1) (lists_type table f.1) h.listed k.listed))
      (ask_domain-right table around x a r) (ask_domain-right table around y b s)

  joined-right : (j : Joint) → Alike (joins j) (joined j)
  joined-right j f g t m l h k = (joint-gives table around j t f g m h k, l)

  joint-right : (j : Joint) (at : ℕ) (p q : Partial) → IsRightPartial table around p → IsRightPartial table around q → Right table around (joint j at p q).outcome
  joint-right j at p q r s = one_type-right (joins j) (joined j) (plainly (partial (joint_of j p q))) at (joined-right j) p q (r, s) r s

  is_number-then : (t : ValueType) → is_number t ≡ true → int_type ≡ t
  is_number-then int_type h = refl
  is_number-then _ h = absurd (cc)

  minus_number : (b : Bool) (v : Formula × ValueType) (at x y : ℕ) (p q : Partial) → (b ≡ true → int_type ≡ v.1) → Of table around v.0 v.1 → IsRightPartial table around p → IsRightPartial table around q → Right table around (cond b (of_one (λ g. partial (whole (binary Sub v.0 g) int_type)) (fitting y (filled q int_type))) (joint minus_joint at p q)).outcome
  minus_number true v at x y p q e h r s = of_one-right table around (Gave int_type) (λ g. partial (whole (binary Sub v.0 g) int_type)) (fitting y (filled q int_type)) (λ g m. (rw (h.0 ∙ ap gives (sym (e refl)), m) refl, refl)) (fitting-right table around y int_type q s refl)
  minus_number false v at x y p q e h r s = joint-right minus_joint at p q r s

  minus_other : (b : Bool) (at x : ℕ) (p q : Partial) → IsRightPartial table around p → IsRightPartial table around q → Right table around (cond b (silently (no_type x)) (joint minus_joint at p q)).outcome
  minus_other true at x p q r s = tt
  minus_other false at x p q r s = joint-right minus_joint at p q r s

  minus_by-right : (at x y : ℕ) (v w : Option (Formula × ValueType)) (p q : Partial) → Whenever (λ u. Of table around u.0 u.1) v → IsRightPartial table around p → IsRightPartial table around q → Right table around (minus_by at x y v w p q).outcome
  minus_by-right at x y (Some v) w p q h r s = minus_number (is_number v.1) v at x y p q (is_number-then v.1) h r s
  minus_by-right at x y None (Some w) p q h r s = minus_other (is_number w.1) at x p q r s
  minus_by-right at x y None None p q h r s = joint-right minus_joint at p q r s

  minus-right : (at x y : ℕ) (p q : Partial) → IsRightPartial table around p → IsRightPartial table around q → Right table around (minus at x y p q).outcome
  minus-right at x y p q r s = minus_by-right at x y (whole_of p) (whole_of q) p q (whole_of-right p r) r s

  product-value : (f g : Formula) (t u : ValueType) → Of table around f (set_type t) → Of table around g (set_type u) → Of table around (binary Product f g) (set_type (pair_type t u))
  product-value f g t u h k = (rw (h.0, k.0) refl, and-true (lists_type table t) (lists_type table u) h.1 k.1)

  times-right : (at x y : ℕ) (a b : Outcome) → Right table around a → Right table around b → Right table around (times at x y a b).outcome
  times-right at x y (partial (whole f int_type)) b r s = of_one-right table around (Gave int_type) (λ g. partial (whole (binary Mul f g) int_type)) (ask y b int_type) (λ g m. (rw (r.0, m) refl, refl)) (ask-right table around y b int_type s refl)
  times-right at x y (partial (whole f (set_type t))) (partial (whole g (set_type u))) r s = product-value f g t u r s
  times-right at x y (partial (whole f (set_type t))) (ranging g u there) r s = (rw (r.0, s.0) refl, and-true (lists_type table t) (lists_type table u) r.1 s.1)
  times-right at x y (ranging f t there) (partial (whole g (set_type u))) r s = (rw (r.0, s.0) refl, and-true (lists_type table t) (lists_type table u) r.1 s.1)
  times-right at x y (ranging f t there) (ranging g u other) r s = (rw (r.0, s.0) refl, and-true (lists_type table t) (lists_type table u) r.1 s.1)
  times-right at x y (partial (whole f (set_type t))) _ r s = tt
  times-right at x y (ranging f t there) _ r s = tt
  times-right at x y _ _ r s = tt

  abbrev Relation : Formula × ValueType × ValueType → Type 0
  Relation r = Of table around r.0 (set_type (pair_type r.1 r.2))

  first-listed : (r : Formula × ValueType × ValueType) → Relation r → Lists r.1
  first-listed r h = (and-both (lists_type table r.1) (lists_type table r.2) h.1).0

  second-listed : (r : Formula × ValueType × ValueType) → Relation r → Lists r.2
  second-listed r h = (and-both (lists_type table r.1) (lists_type table r.2) h.1).1

  left_part-right : (o : BinOp) (x y : ℕ) (a b : Outcome) → ((v w : Role) → binary_role o v w ≡ domain_part_role w v) → Right table around a → Right table around b → Right table around (left_part o x y a b).outcome
  left_part-right o x y a b e r s = dependent-right table around Relation (λ r. set_type r.1) (λ r f. partial (whole (binary o f r.0) (set_type (pair_type r.1 r.2)))) (ask_relation y b) x a first-listed
      (λ r f h m. (e (role table around f) (role table around r.0) ∙ rw (h.0, m, same_type-self r.1) refl, h.1)) (ask_relation-right table around y b s) r

  right_part-right : (o : BinOp) (x y : ℕ) (a b : Outcome) → ((v w : Role) → binary_role o v w ≡ range_part_role v w) → Right table around a → Right table around b → Right table around (right_part o x y a b).outcome
  right_part-right o x y a b e r s = dependent-right table around Relation (λ r. set_type r.2) (λ r f. partial (whole (binary o r.0 f) (set_type (pair_type r.1 r.2)))) (ask_relation x a) y b second-listed
      (λ r f h m. (e (role table around r.0) (role table around f) ∙ rw (h.0, m, same_type-self r.2) refl, h.1)) (ask_relation-right table around x a r) s

  pub image-right : (x y : ℕ) (a b : Outcome) → Right table around a → Right table around b → Right table around (image_reading x y a b).outcome
  image-right x y a b r s = dependent-right table around Relation (λ r. set_type r.1) (λ r f. partial (whole (binary ImageOf r.0 f) (set_type r.2))) (ask_relation x a) y b first-listed
      (λ r f h m. (rw (h.0, m, same_type-self r.1) refl, second-listed r h)) (ask_relation-right table around x a r) s

  pub apply-right : (x y : ℕ) (a b : Outcome) → Right table around a → Right table around b → Right table around (apply_reading x y a b).outcome
  apply-right x y a b r s = dependent-right table around Relation (λ r. r.1) (λ r f. partial (whole (binary ApplyTo r.0 f) r.2)) (ask_relation x a) y b first-listed
      (λ r f h m. (rw (h.0, m, same_type-self r.1) refl, second-listed r h)) (ask_relation-right table around x a r) s

  composes : (b : Bool) (at : ℕ) (r s : Formula × ValueType × ValueType) → (b ≡ true → r.2 ≡ s.1) → Relation r → Relation s → Right table around (cond b (giving (binary Comp r.0 s.0) (set_type (pair_type r.1 s.2))) (silently (no_type at))).outcome
  composes false at r s e h k = tt
  composes true at r s e h k = (rw (h.0 ∙ ap (λ t. gives (set_type (pair_type r.1 t))) (e refl), k.0, same_type-self s.1) refl, and-true (lists_type table r.1) (lists_type table s.2) (first-listed r h) (second-listed s k))

  composed-right : (at : ℕ) (fs : List Fault) (r s : Option (Formula × ValueType × ValueType)) → Whenever Relation r → Whenever Relation s → Right table around (composed at fs r s).outcome
  composed-right at fs (Some r) (Some s) h k = composes (same_type r.2 s.1) at r s (same_type-then r.2 s.1) h k
  composed-right at fs (Some r) None h k = tt
  composed-right at fs None s h k = tt

  pub composition-right : (at x y : ℕ) (a b : Outcome) → Right table around a → Right table around b → Right table around (composition_reading at x y a b).outcome
  composition-right at x y a b r s = composed-right at ((ask_relation x a).faults ++ (ask_relation y b).faults) (ask_relation x a).answer (ask_relation y b).answer (ask_relation-right table around x a r) (ask_relation-right table around y b s)

  paired-right : (p q : Partial) → IsRightPartial table around p → IsRightPartial table around q → IsRightPartial table around (paired p q)
  paired-right (whole f t) (whole g u) h k = (rw (h.0, k.0) refl, and-true (lists_type table t) (lists_type table u) h.1 k.1)
  paired-right (whole f t) hollow h k = (h, k)
  paired-right (whole f t) (single_of q) h k = (h, k)
  paired-right (whole f t) (pair_of q r) h k = (h, k)
  paired-right (whole f t) (joint_of i q r) h k = (h, k)
  paired-right hollow q h k = (h, k)
  paired-right (single_of p) q h k = (h, k)
  paired-right (pair_of p r) q h k = (h, k)
  paired-right (joint_of i p r) q h k = (h, k)

  pub pair-right : (a b : Outcome) → Right table around a → Right table around b → Right table around (pair_reading a b).outcome
  pair-right a b r s = on_values-right table around (λ p q. plainly (partial (paired p q))) a b paired-right r s

  pub infix-right : (o : InfixOp) (at x y : ℕ) (a b : Outcome) → Right table around a → Right table around b → Right table around (infix_reading o at x y a b).outcome
  infix-right Equivalent at x y a b r s = connected-right Iff a b (λ v w. refl) r s
  infix-right Implies at x y a b r s = connected-right Imp a b (λ v w. refl) r s
  infix-right And at x y a b r s = connected-right Conjunction a b (λ v w. refl) r s
  infix-right Or at x y a b r s = connected-right Disjunction a b (λ v w. refl) r s
  infix-right Equal at x y a b r s = on_values-right table around (equal (binary Eq) at) a b (λ p q. one_type-right (λ t. true) (λ f g t. holding (binary Eq f g)) (silently (no_type at)) at same-equal p q tt) r s
  infix-right NotEqual at x y a b r s = on_values-right table around (equal (negated (binary Eq)) at) a b (λ p q. one_type-right (λ t. true) (λ f g t. holding (negated (binary Eq) f g)) (silently (no_type at)) at same-not_equal p q tt) r s
  infix-right Less at x y a b r s = compared-right (binary Lt) x y a b (λ f g h k. rw (h, k) refl) r s
  infix-right AtMost at x y a b r s = compared-right (binary Le) x y a b (λ f g h k. rw (h, k) refl) r s
  infix-right Greater at x y a b r s = compared-right (turned (binary Lt)) x y a b (λ f g h k. rw (h, k) refl) r s
  infix-right AtLeast at x y a b r s = compared-right (turned (binary Le)) x y a b (λ f g h k. rw (h, k) refl) r s
  infix-right Member at x y a b r s = in_domain-right (binary In) x y a b same-member r s
  infix-right NotMember at x y a b r s = in_domain-right (negated (binary In)) x y a b same-not_member r s
  infix-right Subset at x y a b r s = in_power-right (binary In) x y a b same-subset r s
  infix-right NotSubset at x y a b r s = in_power-right (negated (binary In)) x y a b same-not_subset r s
  infix-right StrictSubset at x y a b r s = strictly-right x y a b r s
  infix-right Relations at x y a b r s = arrow-right RelationsOf at x y a b (λ v w. refl) r s
  infix-right PartialFunctions at x y a b r s = arrow-right PartialOf at x y a b (λ v w. refl) r s
  infix-right TotalFunctions at x y a b r s = arrow-right TotalOf at x y a b (λ v w. refl) r s
  infix-right PartialInjections at x y a b r s = arrow-right PartialInjectionsOf at x y a b (λ v w. refl) r s
  infix-right TotalInjections at x y a b r s = arrow-right TotalInjectionsOf at x y a b (λ v w. refl) r s
  infix-right PartialSurjections at x y a b r s = arrow-right PartialSurjectionsOf at x y a b (λ v w. refl) r s
  infix-right TotalSurjections at x y a b r s = arrow-right TotalSurjectionsOf at x y a b (λ v w. refl) r s
  infix-right Bijections at x y a b r s = arrow-right BijectionsOf at x y a b (λ v w. refl) r s
  infix-right Union at x y a b r s = on_values-right table around (joint union_joint at) a b (joint-right union_joint at) r s
  infix-right Intersection at x y a b r s = on_values-right table around (joint inter_joint at) a b (joint-right inter_joint at) r s
  infix-right Override at x y a b r s = on_values-right table around (joint over_joint at) a b (joint-right over_joint at) r s
  infix-right DomainRestriction at x y a b r s = left_part-right DomRes x y a b (λ v w. refl) r s
  infix-right DomainSubtraction at x y a b r s = left_part-right DomSub x y a b (λ v w. refl) r s
  infix-right RangeRestriction at x y a b r s = right_part-right RanRes x y a b (λ v w. refl) r s
  infix-right RangeSubtraction at x y a b r s = right_part-right RanSub x y a b (λ v w. refl) r s
  infix-right Maplet at x y a b r s = pair-right a b r s
  infix-right Interval at x y a b r s = calculated-right Range (set_type int_type) x y a b (λ v w. refl) refl r s
  infix-right Plus at x y a b r s = calculated-right Add int_type x y a b (λ v w. refl) refl r s
  infix-right Minus at x y a b r s = on_values-right table around (minus at x y) a b (minus-right at x y) r s
  infix-right Times at x y a b r s = times-right at x y a b r s
  infix-right Divide at x y a b r s = calculated-right Div int_type x y a b (λ v w. refl) refl r s
  infix-right Mod at x y a b r s = calculated-right Remainder int_type x y a b (λ v w. refl) refl r s
  infix-right Power at x y a b r s = calculated-right PowerTo int_type x y a b (λ v w. refl) refl r s
  infix-right Concatenation at x y a b r s = tt
  infix-right Prepend at x y a b r s = tt
  infix-right Append at x y a b r s = tt

  singled-right : (p : Partial) → IsRightPartial table around p → IsRightPartial table around (singled p)
  singled-right (whole f t) h = (rw h.0 refl, h.1)
  singled-right hollow h = h
  singled-right (single_of p) h = h
  singled-right (pair_of p q) h = h
  singled-right (joint_of j p q) h = h

  pub single-right : (a : Outcome) → Right table around a → Right table around (single_reading a).outcome
  single-right (partial p) r = singled-right p r
  single-right (ranging f t there) r = tt
  single-right (holding p) r = tt
  single-right silent r = tt

  pub extended-right : (at : ℕ) (a b : Outcome) → Right table around a → Right table around b → Right table around (extended at a b).outcome
  extended-right at a b r s = on_values-right table around (λ p q. joint union_joint at p (singled q)) a b (λ p q h k. joint-right union_joint at p (singled q) h (singled-right q k)) r s
