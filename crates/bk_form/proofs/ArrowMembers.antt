-- What the arrows, application and overriding at one place say of the pairs of a relation.
use Rattle.std.proofs.Common.{◌≡◌, ◌↔◌, ◌⊎◌, inl, inr, ℕ, List, map, refl, sym, ◌∙◌, ap, subst, Bool, true, false, ◌&&◌, ◌||◌, not}
use Rattle.std.specs.Prelude.{unwrap_or}
use Rattle.std.specs.List.{list_all}
use Rattle.bk_val.specs.Value.{MathValue, pair, set, list_of}
use Rattle.bk_val.specs.ValueType.{ValueType, pair_type, set_type, base_of}
use Rattle.bk_val.specs.Sets.{second_of, IsOnlyValue}
use Rattle.bk_val.specs.CmpLaws.{same_value, value_eq-self}
use Rattle.bk_val.proofs.Relations.{apply_of-some}
use Rattle.bk_form.specs.Table.{set_size}
use Rattle.bk_form.specs.Formula.{Formula, unary, binary}
use Rattle.bk_form.specs.Search.{Finder}
use Rattle.bk_form.specs.Environment.{Environment, bound_types}
use Rattle.bk_form.specs.Role.{Role, role, element_type, binary_role}
use Rattle.bk_form.specs.Operators.{elements, is_equal, first_part, is_subset, is_pair_of, is_function, is_injective, covers}
use Rattle.bk_form.specs.Meaning.{meaning, value, truth, within, type_in}
use Rattle.bk_form.specs.declared.operator.UnOp.TheVariants.{Dom, Single}
use Rattle.bk_form.specs.declared.operator.BinOp.TheVariants.{In, Maps, Over, Relations, PartialFunctions, TotalFunctions, PartialInjections, TotalInjections, PartialSurjections, TotalSurjections, Bijections, Apply}
use Rattle.bk_form.proofs.Members.{Has, has-then, has-if, and-both, and-true, or-left, or-right, or-cases, element-set_value}
use Rattle.bk_form.proofs.Givers.{arrow-gives}
use Rattle.bk_form.proofs.Domains.{covers-true}
use Rattle.bk_form.proofs.Roles.{meaning-role}
use Rattle.bk_form.proofs.Typed.{Of, elements-of}
use Rattle.bk_form.proofs.Valued.{sound_typing}
use Rattle.bk_form.proofs.RoleParts.{arrow-parts}
use Rattle.bk_form.specs.Settings.{IsOver, IsSetting, IsPredicateIn, GivesIn, RangesIn}
use Rattle.bk_form.proofs.Forms.{pair-of, member, set-sorted}
use Rattle.bk_form.proofs.SetMembers.{in-parts, in-over, in-single, two-relations, list-all-has, has-list-all, in-dom, in-ran}
use Rattle.bk_form.specs.MemberLaws.{ArrowsMean, IsPairIn, IsSingleValued, IsOneToOne, IsBetween, CoversFrom, CoversTo}

-- a set each of whose members passes the test
subset-if : (sizes : ℕ → ℕ) (t : ValueType) (test : MathValue → Bool) (s : MathValue) → Of sizes (set_type t) s → ((x : MathValue) → Has x (elements s) → test x ≡ true) → is_subset test s ≡ true
subset-if sizes t test (set vs) o h = has-list-all test (list_of vs) h
subset-if sizes t test _ o h = absurd (cc)

subset-then : (test : MathValue → Bool) (s x : MathValue) → is_subset test s ≡ true → Has x (elements s) → test x ≡ true
subset-then test (set vs) x h k = list-all-has test (list_of vs) x h k
subset-then test _ x h k = absurd (cc)

-- ---- functions, as lists of pairs
pub or-then : (a b : Bool) → (not a || b) ≡ true → a ≡ true → b ≡ true
or-then true b h k = h
or-then false b h k = absurd (cc)

pub or-if : (a b : Bool) → (a ≡ true → b ≡ true) → (not a || b) ≡ true
or-if true b h = h refl
or-if false b h = refl

function-then : (r : List MathValue) (x y z : MathValue) → is_function r ≡ true → Has (pair x y) r → Has (pair x z) r → y ≡ z
function-then r x y z h p q =
    let one = list-all-has (λ p. list_all (λ q. not (is_equal (first_part p) (first_part q)) || is_equal p q) r) r (pair x y) h p in
    let two = list-all-has (λ q. not (is_equal x (first_part q)) || is_equal (pair x y) q) r (pair x z) one q in
    let same = same_value (pair x y) (pair x z) (or-then (is_equal x x) (is_equal (pair x y) (pair x z)) two (value_eq-self x)) in
    ap second_of same

function-if : (sizes : ℕ → ℕ) (t u : ValueType) (r : List MathValue) → ((p : MathValue) → Has p r → Of sizes (pair_type t u) p) → ((x y z : MathValue) → Has (pair x y) r → Has (pair x z) r → y ≡ z) → is_function r ≡ true
function-if sizes t u r of once =
    has-list-all (λ p. list_all (λ q. not (is_equal (first_part p) (first_part q)) || is_equal p q) r) r (λ p h.
    has-list-all (λ q. not (is_equal (first_part p) (first_part q)) || is_equal p q) r (λ q k.
    or-if (is_equal (first_part p) (first_part q)) (is_equal p q) (λ same.
    let a = pair-of sizes t u p (of p h) in
    let b = pair-of sizes t u q (of q k) in
    let begins : b.left ≡ a.left = sym (ap first_part b.is_pair) ∙ sym (same_value (first_part p) (first_part q) same) ∙ ap first_part a.is_pair in
    let ends = once a.left a.right b.right (subst (λ z. Has z r) a.is_pair h) (subst (λ z. Has z r) (b.is_pair ∙ ap (λ z. pair z b.right) begins) k) in
    let equal : p ≡ q = a.is_pair ∙ (λ i. pair (sym begins i) (ends i)) ∙ sym b.is_pair in
    subst (λ z. is_equal p z ≡ true) equal (value_eq-self p))))

-- ---- injections, as lists of pairs
injective-then : (r : List MathValue) (x y z : MathValue) → is_injective r ≡ true → Has (pair x z) r → Has (pair y z) r → x ≡ y
injective-then r x y z h p q =
    let one = list-all-has (λ p. list_all (λ q. not (is_equal (second_of p) (second_of q)) || is_equal p q) r) r (pair x z) h p in
    let two = list-all-has (λ q. not (is_equal z (second_of q)) || is_equal (pair x z) q) r (pair y z) one q in
    ap first_part (same_value (pair x z) (pair y z) (or-then (is_equal z z) (is_equal (pair x z) (pair y z)) two (value_eq-self z)))

injective-if : (sizes : ℕ → ℕ) (t u : ValueType) (r : List MathValue) → ((p : MathValue) → Has p r → Of sizes (pair_type t u) p) → ((x y z : MathValue) → Has (pair x z) r → Has (pair y z) r → x ≡ y) → is_injective r ≡ true
injective-if sizes t u r of once =
    has-list-all (λ p. list_all (λ q. not (is_equal (second_of p) (second_of q)) || is_equal p q) r) r (λ p h.
    has-list-all (λ q. not (is_equal (second_of p) (second_of q)) || is_equal p q) r (λ q k.
    or-if (is_equal (second_of p) (second_of q)) (is_equal p q) (λ same.
    let a = pair-of sizes t u p (of p h) in
    let b = pair-of sizes t u q (of q k) in
    let ends : b.right ≡ a.right = sym (ap second_of b.is_pair) ∙ sym (same_value (second_of p) (second_of q) same) ∙ ap second_of a.is_pair in
    let begins = once a.left b.left a.right (subst (λ z. Has z r) a.is_pair h) (subst (λ z. Has z r) (b.is_pair ∙ ap (λ z. pair b.left z) ends) k) in
    let equal : p ≡ q = a.is_pair ∙ (λ i. pair (begins i) (sym ends i)) ∙ sym b.is_pair in
    subst (λ z. is_equal p z ≡ true) equal (value_eq-self p))))

over-element : (t : ValueType) (r : Role) → IsOver t r → element_type r ≡ t
over-element t r (inl h) = ap element_type h
over-element t r (inr h) = ap element_type h

-- ---- what the arrows say
module _ (find : Finder) (e : Environment) (c : IsSetting find e) (f : Formula) (t u : ValueType) (types : GivesIn e f (set_type (pair_type t u))) where
  f-of : Of (set_size e.table) (set_type (pair_type t u)) (value find e f)
  f-of = sound_typing.typed find e c.well c.typed f (set_type (pair_type t u)) types

  to-has : (p : MathValue) → within find e p f ≡ true → Has p (elements (value find e f))
  to-has p h = has-then p (elements (value find e f)) (sym (member find e f (pair_type t u) types p) ∙ h)

  from-has : (p : MathValue) → Has p (elements (value find e f)) → within find e p f ≡ true
  from-has p h = member find e f (pair_type t u) types p ∙ has-if p (elements (value find e f)) h

  pub function-means : (is_function (elements (value find e f)) ≡ true) ↔ IsSingleValued find e f
  function-means = (
    (λ h x y z p q. function-then (elements (value find e f)) x y z h (to-has (pair x y) p) (to-has (pair x z) q)),
    (λ once. function-if (set_size e.table) t u (elements (value find e f)) (λ p h. elements-of (set_size e.table) (pair_type t u) (value find e f) p f-of h) (λ x y z p q. once x y z (from-has (pair x y) p) (from-has (pair x z) q))),
  )

  pub relation-means : (a b : Formula) → (truth find e (binary In f (binary Relations a b)) ≡ true) ↔ IsBetween find e f a b
  relation-means a b =
      let in_a : MathValue → Bool = λ v. within find e v a in
      let in_b : MathValue → Bool = λ v. within find e v b in (
        (λ h x y p. and-both (in_a x) (in_b y) (subset-then (is_pair_of in_a in_b) (value find e f) (pair x y) h (to-has (pair x y) p))),
        (λ h. subset-if (set_size e.table) (pair_type t u) (is_pair_of in_a in_b) (value find e f) f-of (λ p k.
            let q = pair-of (set_size e.table) t u p (elements-of (set_size e.table) (pair_type t u) (value find e f) p f-of k) in
            let m = h q.left q.right (subst (λ z. within find e z f ≡ true) q.is_pair (from-has p k)) in
            subst (λ z. is_pair_of in_a in_b z ≡ true) (sym q.is_pair) (and-true (in_a q.left) (in_b q.right) m.0 m.1))),
      )

  pub partial-means : (a b : Formula) → (truth find e (binary In f (binary PartialFunctions a b)) ≡ true) ↔ (IsBetween find e f a b × IsSingleValued find e f)
  partial-means a b =
      let is_rel = truth find e (binary In f (binary Relations a b)) in
      let is_fun = is_function (elements (value find e f)) in
      let r = relation-means a b in (
        (λ h. let k = and-both is_rel is_fun h in (r.0 k.0, function-means.0 k.1)),
        (λ h. and-true is_rel is_fun (r.1 h.0) (function-means.1 h.1)),
      )

  pub injective-means : (is_injective (elements (value find e f)) ≡ true) ↔ IsOneToOne find e f
  injective-means = (
    (λ h x y z p q. injective-then (elements (value find e f)) x y z h (to-has (pair x z) p) (to-has (pair y z) q)),
    (λ once. injective-if (set_size e.table) t u (elements (value find e f)) (λ p h. elements-of (set_size e.table) (pair_type t u) (value find e f) p f-of h) (λ x y z p q. once x y z (from-has (pair x z) p) (from-has (pair y z) q))),
  )

  -- each member of a, whose members are of the type t, is among the first parts
  abbrev all_from : Formula → Bool
  all_from a = covers find (set_size e.table) (element_type (meaning find e a).role) (meaning find e a).contains (map first_part (elements (value find e f)))

  from-means : (a : Formula) → RangesIn e a t → (all_from a ≡ true) ↔ CoversFrom find e f t a
  from-means a from =
      let type : element_type (meaning find e a).role ≡ t = ap element_type (meaning-role find e a) ∙ over-element t (role e.table (bound_types e) a) from in
      let firsts = map first_part (elements (value find e f)) in
      let k = covers-true find c.search (set_size e.table) (element_type (meaning find e a).role) (meaning find e a).contains firsts in
      let d = in-dom find e c f t u types in (
        (λ h x o w. (d x).0 (element-set_value firsts x ∙ k.0 h x (subst (λ y. Of (set_size e.table) y x) (sym type) o) w)),
        (λ h. k.1 (λ x o w. sym (element-set_value firsts x) ∙ (d x).1 (h x (subst (λ y. Of (set_size e.table) y x) type o) w))),
      )

  -- each member of b, whose members are of the type u, is among the second parts
  abbrev all_to : Formula → Bool
  all_to b = covers find (set_size e.table) (element_type (meaning find e b).role) (meaning find e b).contains (map second_of (elements (value find e f)))

  to-means : (b : Formula) → RangesIn e b u → (all_to b ≡ true) ↔ CoversTo find e f u b
  to-means b to =
      let type : element_type (meaning find e b).role ≡ u = ap element_type (meaning-role find e b) ∙ over-element u (role e.table (bound_types e) b) to in
      let seconds = map second_of (elements (value find e f)) in
      let k = covers-true find c.search (set_size e.table) (element_type (meaning find e b).role) (meaning find e b).contains seconds in
      let d = in-ran find e c f t u types in (
        (λ h y o w. (d y).0 (element-set_value seconds y ∙ k.0 h y (subst (λ z. Of (set_size e.table) z y) (sym type) o) w)),
        (λ h. k.1 (λ y o w. sym (element-set_value seconds y) ∙ (d y).1 (h y (subst (λ z. Of (set_size e.table) z y) type o) w))),
      )

  -- a total function from a, whose elements are of the type t
  pub total-means : (a b : Formula) → RangesIn e a t → (truth find e (binary In f (binary TotalFunctions a b)) ≡ true) ↔ (IsBetween find e f a b × IsSingleValued find e f × CoversFrom find e f t a)
  total-means a b from =
      let is_partial = truth find e (binary In f (binary PartialFunctions a b)) in
      let p = partial-means a b in
      let m = from-means a from in (
        (λ h. let k = and-both is_partial (all_from a) h in let q = p.0 k.0 in (q.0, q.1, m.0 k.1)),
        (λ h. and-true is_partial (all_from a) (p.1 (h.0, h.1)) (m.1 h.2)),
      )

  pub injection-means : (a b : Formula) → (truth find e (binary In f (binary PartialInjections a b)) ≡ true) ↔ (IsBetween find e f a b × IsSingleValued find e f × IsOneToOne find e f)
  injection-means a b =
      let is_partial = truth find e (binary In f (binary PartialFunctions a b)) in
      let is_once = is_injective (elements (value find e f)) in
      let p = partial-means a b in (
        (λ h. let k = and-both is_partial is_once h in let q = p.0 k.0 in (q.0, q.1, injective-means.0 k.1)),
        (λ h. and-true is_partial is_once (p.1 (h.0, h.1)) (injective-means.1 h.2)),
      )

  pub total-injection-means : (a b : Formula) → RangesIn e a t → (truth find e (binary In f (binary TotalInjections a b)) ≡ true) ↔ (IsBetween find e f a b × IsSingleValued find e f × IsOneToOne find e f × CoversFrom find e f t a)
  total-injection-means a b from =
      let is_injection = truth find e (binary In f (binary PartialInjections a b)) in
      let p = injection-means a b in
      let m = from-means a from in (
        (λ h. let k = and-both is_injection (all_from a) h in let q = p.0 k.0 in (q.0, q.1, q.2, m.0 k.1)),
        (λ h. and-true is_injection (all_from a) (p.1 (h.0, h.1, h.2)) (m.1 h.3)),
      )

  pub surjection-means : (a b : Formula) → RangesIn e b u → (truth find e (binary In f (binary PartialSurjections a b)) ≡ true) ↔ (IsBetween find e f a b × IsSingleValued find e f × CoversTo find e f u b)
  surjection-means a b to =
      let is_partial = truth find e (binary In f (binary PartialFunctions a b)) in
      let p = partial-means a b in
      let m = to-means b to in (
        (λ h. let k = and-both is_partial (all_to b) h in let q = p.0 k.0 in (q.0, q.1, m.0 k.1)),
        (λ h. and-true is_partial (all_to b) (p.1 (h.0, h.1)) (m.1 h.2)),
      )

  pub total-surjection-means : (a b : Formula) → RangesIn e a t → RangesIn e b u → (truth find e (binary In f (binary TotalSurjections a b)) ≡ true) ↔ (IsBetween find e f a b × IsSingleValued find e f × CoversFrom find e f t a × CoversTo find e f u b)
  total-surjection-means a b from to =
      let is_total = truth find e (binary In f (binary TotalFunctions a b)) in
      let p = total-means a b from in
      let m = to-means b to in (
        (λ h. let k = and-both is_total (all_to b) h in let q = p.0 k.0 in (q.0, q.1, q.2, m.0 k.1)),
        (λ h. and-true is_total (all_to b) (p.1 (h.0, h.1, h.2)) (m.1 h.3)),
      )

  pub bijection-means : (a b : Formula) → RangesIn e a t → RangesIn e b u → (truth find e (binary In f (binary Bijections a b)) ≡ true) ↔ (IsBetween find e f a b × IsSingleValued find e f × IsOneToOne find e f × CoversFrom find e f t a × CoversTo find e f u b)
  bijection-means a b from to =
      let is_injection = truth find e (binary In f (binary TotalInjections a b)) in
      let p = total-injection-means a b from in
      let m = to-means b to in (
        (λ h. let k = and-both is_injection (all_to b) h in let q = p.0 k.0 in (q.0, q.1, q.2, q.3, m.0 k.1)),
        (λ h. and-true is_injection (all_to b) (p.1 (h.0, h.1, h.2, h.3)) (m.1 h.4)),
      )

  -- f(x) is y where y is the only one that f maps x to
  pub apply-means : (a : Formula) (y : MathValue) → IsPairIn find e f (value find e a) y → ((z : MathValue) → IsPairIn find e f (value find e a) z → z ≡ y) → value find e (binary Apply f a) ≡ y
  apply-means a y starts only =
      let fs = elements (value find e f) in
      let x = value find e a in
      let one : IsOnlyValue fs x y = record { starts = sym (member find e f (pair_type t u) types (pair x y)) ∙ starts; only = λ z h. only z (member find e f (pair_type t u) types (pair x z) ∙ h) } in
      ap (λ o. unwrap_or o (base_of (type_in (binary_role Apply (meaning find e f).role (meaning find e a).role)))) ((apply_of-some fs x y (set-sorted (set_size e.table) (pair_type t u) (value find e f) f-of)).1 one)

-- ---- an element of an arrow
pub arrow-in-parts : (find : Finder) (e : Environment) (f a b : Formula) → IsPredicateIn e (binary In f (binary Relations a b)) → (t : ValueType) × (u : ValueType) × GivesIn e f (set_type (pair_type t u)) × RangesIn e a t × RangesIn e b u
arrow-in-parts find e f a b h =
    let k = in-parts find e f (binary Relations a b) h in
    elim k.2 [
      | inl g ↦ absurd (arrow-gives (role e.table (bound_types e) a) (role e.table (bound_types e) b) (set_type k.0) g)
      | inr g ↦ let p = arrow-parts (role e.table (bound_types e) a) (role e.table (bound_types e) b) k.0 g in (p.0, p.1, subst (λ x. GivesIn e f x) p.4 k.1, p.2, p.3)
    ]

-- ---- f <+ {x |-> y}
module _ (find : Finder) (e : Environment) (c : IsSetting find e) (f x y : Formula) (t u : ValueType) (types : GivesIn e (binary Over f (unary Single (binary Maps x y))) (set_type (pair_type t u))) where
  abbrev after : Formula
  after = binary Over f (unary Single (binary Maps x y))

  both : GivesIn e f (set_type (pair_type t u)) × GivesIn e (unary Single (binary Maps x y)) (set_type (pair_type t u))
  both = two-relations find e f (unary Single (binary Maps x y)) t u types

  is-after : (v w : MathValue) → within find e (pair v w) after ≡ ((within find e (pair v w) f && not (within find e v (unary Dom (unary Single (binary Maps x y))))) || within find e (pair v w) (unary Single (binary Maps x y)))
  is-after v w = in-over find e c f (unary Single (binary Maps x y)) t u types v w

  in-new : (v w : MathValue) → (within find e (pair v w) (unary Single (binary Maps x y)) ≡ true) ↔ (pair v w ≡ pair (value find e x) (value find e y))
  in-new v w = in-single find e c (binary Maps x y) (pair v w)

  new-begins : (v : MathValue) → (within find e v (unary Dom (unary Single (binary Maps x y))) ≡ true) ↔ ((w : MathValue) × (within find e (pair v w) (unary Single (binary Maps x y)) ≡ true))
  new-begins v = in-dom find e c (unary Single (binary Maps x y)) t u both.1 v

  -- it maps x to y
  pub update-new : within find e (pair (value find e x) (value find e y)) after ≡ true
  update-new = let v = value find e x in let w = value find e y in
      is-after v w ∙ or-right (within find e (pair v w) f && not (within find e v (unary Dom (unary Single (binary Maps x y))))) (within find e (pair v w) (unary Single (binary Maps x y))) ((in-new v w).1 refl)

  -- and all else as f does
  pub update-old : (v w : MathValue) → (v ≡ value find e x → ⊥) → within find e (pair v w) f ≡ true → within find e (pair v w) after ≡ true
  update-old v w other h =
      let in_dom = within find e v (unary Dom (unary Single (binary Maps x y))) in
      is-after v w ∙ or-left (within find e (pair v w) f && not in_dom) (within find e (pair v w) (unary Single (binary Maps x y))) (and-true (within find e (pair v w) f) (not in_dom) h (by_test in_dom refl))
    where
      by_test : (b : Bool) → within find e v (unary Dom (unary Single (binary Maps x y))) ≡ b → not b ≡ true
      by_test false q = refl
      by_test true q = let k = (new-begins v).0 q in absurd (other (ap first_part ((in-new v k.0).0 k.1)))

  pub update-cases : (v w : MathValue) → within find e (pair v w) after ≡ true → ((v ≡ value find e x → ⊥) × (within find e (pair v w) f ≡ true)) ⊎ ((v ≡ value find e x) × (w ≡ value find e y))
  update-cases v w h =
      let in_f = within find e (pair v w) f in
      let in_dom = within find e v (unary Dom (unary Single (binary Maps x y))) in
      elim (or-cases (in_f && not in_dom) (within find e (pair v w) (unary Single (binary Maps x y))) (sym (is-after v w) ∙ h)) [
        | inl k ↦ let q = and-both in_f (not in_dom) k in inl (not-first q.1, q.0)
        | inr k ↦ let q = (in-new v w).0 k in inr (ap first_part q, ap second_of q)
      ]
    where
      not-first : not (within find e v (unary Dom (unary Single (binary Maps x y)))) ≡ true → v ≡ value find e x → ⊥
      not-first q k =
          let d : within find e v (unary Dom (unary Single (binary Maps x y))) ≡ true = (new-begins v).1 (value find e y, (in-new v (value find e y)).1 (ap (λ z. pair z (value find e y)) k)) in
          let z : false ≡ true = sym (ap not d) ∙ q in
          cc

pub arrows_mean : ArrowsMean
arrows_mean = record {
  relation = λ find e c f t u h a b. relation-means find e c f t u h a b;
  partial = λ find e c f t u h a b. partial-means find e c f t u h a b;
  total = λ find e c f t u h a b k. total-means find e c f t u h a b k;
  injection = λ find e c f t u h a b. injection-means find e c f t u h a b;
  total_injection = λ find e c f t u h a b k. total-injection-means find e c f t u h a b k;
  surjection = λ find e c f t u h a b k. surjection-means find e c f t u h a b k;
  total_surjection = λ find e c f t u h a b k l. total-surjection-means find e c f t u h a b k l;
  bijection = λ find e c f t u h a b k l. bijection-means find e c f t u h a b k l;
  applied = λ find e c f t u h a y p only. apply-means find e c f t u h a y p only;
}
