-- The rows of arrows: what each says, by others.
use Rattle.std.proofs.Common.{◌≡◌, refl, sym, ◌∙◌, ap, subst, true, ◌&&◌, inl, inr, map}
use Rattle.bk_val.specs.Value.{MathValue, pair}
use Rattle.bk_val.specs.ValueType.{ValueType, set_type, pair_type}
use Rattle.bk_val.specs.Sets.{second_of}
use Rattle.bk_form.specs.Formula.{unary, binary, Formula}
use Rattle.bk_form.specs.Environment.{bound_types, Environment}
use Rattle.bk_form.specs.Role.{role, Role, unary_role, element_type}
use Rattle.bk_form.specs.Operators.{first_part, elements, is_function, is_injective, covers}
use Rattle.bk_form.specs.Meaning.{value, within, truth, meaning}
use Rattle.bk_form.specs.declared.operator.UnOp.TheVariants.{Pow, Dom, Ran, Id, Inverse}
use Rattle.bk_form.specs.declared.operator.BinOp.TheVariants.{In, Relations, Comp, Eq, PartialFunctions, TotalFunctions, TotalInjections}
use Rattle.bk_form.specs.Table.{set_size}
use Rattle.bk_form.specs.Search.{Finder}
use Rattle.bk_form.specs.Settings.{IsOver, IsSetting, GivesIn}
use Rattle.bk_form.proofs.Domains.{covers-true}
use Rattle.bk_form.proofs.Typed.{Of}
use Rattle.bk_form.proofs.Members.{both_ways, and-both, and-true, element-set_value}
use Rattle.bk_form.proofs.Roles.{meaning-role}
use Rattle.bk_form.proofs.SetMembers.{in-ran, member-of, in-inverse, in-parts, in-power, in-dom, and-parts, comp-parts, in-comp, in-id, from-gives}
use Rattle.bk_form.proofs.ArrowMembers.{injective-means, partial-means, arrow-in-parts, relation-means, function-means, total-means}
use Rattle.bk_form.proofs.Forms.{set-form, relation-form, pair-of}
use Rattle.bk_form.proofs.RoleParts.{equality-parts}
use Rattle.bk_laws.specs.Laws.{IsTrueRow}
use Rattle.bk_laws.specs.Rows.{built}
use Rattle.bk_laws.proofs.SetEquality.{equal-means}
use Rattle.bk_laws.proofs.ByForm.{by_truth}
use Rattle.bk_laws_fun.specs.Functions.{m37, m38, m39, m40, m41, m42, m43, m44, m45}
use Rattle.bk_laws_fun.proofs.Parts.{gives-typed}
use Rattle.bk_laws_fun.proofs.Truths.{and-under, and-past}

over-element : (r : Role) (t : ValueType) → IsOver t r → element_type r ≡ t
over-element r t (inl h) = ap element_type h
over-element r t (inr h) = ap element_type h

-- the pairs of a function between a and b end in every value of b exactly where its range is b
module _ (find : Finder) (e : Environment) (c : IsSetting find e) (f b : Formula) (t u : ValueType) (types : GivesIn e f (set_type (pair_type t u))) (type-b : GivesIn e b (set_type u)) where
  pub onto-is : ((x y : MathValue) → within find e (pair x y) f ≡ true → within find e y b ≡ true) → covers find (set_size e.table) (element_type (meaning find e b).role) (meaning find e b).contains (map second_of (elements (value find e f))) ≡ truth find e (binary Eq (unary Ran f) b)
  onto-is ends =
      let ys = map second_of (elements (value find e f)) in
      let type = ap element_type (meaning-role find e b) ∙ over-element (role e.table (bound_types e) b) u (inl type-b) in
      let covered = covers-true find c.search (set_size e.table) (element_type (meaning find e b).role) (meaning find e b).contains ys in
      let equal = equal-means find e c (unary Ran f) b u (ap (unary_role Ran) types) type-b in
      both_ways (covers find (set_size e.table) (element_type (meaning find e b).role) (meaning find e b).contains ys) (truth find e (binary Eq (unary Ran f) b))
      (λ h. equal.1 (λ y. both_ways (within find e y (unary Ran f)) (within find e y b)
      (λ n. let w = (in-ran find e c f t u types y).0 n in ends w.0 y w.1)
      (λ n. element-set_value ys y ∙ covered.0 h y (subst (λ z. Of (set_size e.table) z y) (sym type) (member-of find e c b u type-b y n)) n)))
      (λ h. covered.1 (λ y o n. sym (element-set_value ys y) ∙ equal.0 h y ∙ n))

-- a relation between a and b ends nowhere twice exactly where its inverse is a function
back-is : (find : Finder) (e : Environment) → IsSetting find e → (f a b : Formula) (t u : ValueType) → GivesIn e f (set_type (pair_type t u)) → ((x y : MathValue) → within find e (pair x y) f ≡ true → (within find e x a ≡ true) × (within find e y b ≡ true)) → is_injective (elements (value find e f)) ≡ truth find e (binary In (unary Inverse f) (binary PartialFunctions b a))
back-is find e c f a b t u types ends =
    let injective = injective-means find e c f t u types in
    let back = partial-means find e c (unary Inverse f) u t (ap (unary_role Inverse) types) b a in
    let turn = λ (x y : MathValue). in-inverse find e c f t u types x y in
    both_ways (is_injective (elements (value find e f))) (truth find e (binary In (unary Inverse f) (binary PartialFunctions b a)))
    (λ h. back.1 (
      (λ y x n. let w = ends x y (sym (turn x y) ∙ n) in (w.1, w.0)),
      (λ z x y n o. injective.0 h x y z (sym (turn x z) ∙ n) (sym (turn y z) ∙ o)),
    ))
    (λ h. let q = back.0 h in injective.1 (λ x y z n o. q.1 z x y (turn x z ∙ n) (turn y z ∙ o)))

pub true-m37 : IsTrueRow m37
true-m37 picks = by_truth (built m37 picks) refl (λ find e c l r s. refl)

pub true-m38 : IsTrueRow m38
true-m38 picks = by_truth (built m38 picks) refl (λ find e c l r s.
    let f = picks 0 in let a = picks 1 in let b = picks 2 in
    let k = arrow-in-parts find e f a b l in
    let t = k.0 in let u = k.1 in
    let relation = relation-means find e c f t u k.2 a b in
    let begins = in-power find e c (unary Dom f) a t (ap (unary_role Dom) k.2) in
    let ends = in-power find e c (unary Ran f) b u (ap (unary_role Ran) k.2) in
    let in_a = truth find e (binary In (unary Dom f) (unary Pow a)) in
    let in_b = truth find e (binary In (unary Ran f) (unary Pow b)) in
    both_ways (truth find e (binary In f (binary Relations a b))) (in_a && in_b)
    (λ h.
    let m = relation.0 h in
    and-true in_a in_b
    (begins.1 (λ x n. let w = (in-dom find e c f t u k.2 x).0 n in (m x w.0 w.1).0))
    (ends.1 (λ y n. let w = (in-ran find e c f t u k.2 y).0 n in (m w.0 y w.1).1)))
    (λ h.
    let m = and-both in_a in_b h in
    relation.1 (λ x y n. (begins.0 m.0 x ((in-dom find e c f t u k.2 x).1 (y, n)), ends.0 m.1 y ((in-ran find e c f t u k.2 y).1 (x, n))))))

pub true-m39 : IsTrueRow m39
true-m39 picks = by_truth (built m39 picks) refl (λ find e c l r s.
    let f = picks 0 in
    let twice = binary Comp (unary Inverse f) f in
    let bound = unary Id (unary Ran f) in
    let k = in-parts find e twice (unary Pow bound) (and-parts find e (binary In f (binary Relations (picks 1) (picks 2))) (binary In twice (unary Pow bound)) r).1 in
    let set = set-form e twice refl (gives-typed (role e.table (bound_types e) twice) k.0 k.1) in
    let p = relation-form e twice set.0 refl set.1 in
    let types = subst (λ t. GivesIn e twice (set_type t)) p.2 set.1 in
    let q = comp-parts find e c (unary Inverse f) f p.0 p.1 types in
    let t = q.0 in
    let u = p.1 in
    let once = function-means find e c f t u q.2 in
    let power = in-power find e c twice bound (pair_type p.0 u) types in
    let ran-types : GivesIn e (unary Ran f) (set_type u) = ap (unary_role Ran) q.2 in
    ap (λ b. truth find e (binary In f (binary Relations (picks 1) (picks 2))) && b)
    (both_ways (is_function (elements (value find e f))) (truth find e (binary In twice (unary Pow bound)))
    (λ h. power.1 (λ v m.
    let a = pair-of (set_size e.table) p.0 u v (member-of find e c twice (pair_type p.0 u) types v m) in
    let w = (in-comp find e c (unary Inverse f) f p.0 u types a.left a.right).0 (subst (λ z. within find e z twice ≡ true) a.is_pair m) in
    let back = sym (in-inverse find e c f t u q.2 w.0 a.left) ∙ w.1 in
    let same = once.0 h w.0 a.left a.right back w.2 in
    subst (λ z. within find e z bound ≡ true) (sym a.is_pair) ((in-id find e c (unary Ran f) u ran-types a.left a.right).1 ((in-ran find e c f t u q.2 a.left).1 (w.0, back), same))))
    (λ h. once.1 (λ x y z m n.
    let both = (in-comp find e c (unary Inverse f) f p.0 u types y z).1 (x, in-inverse find e c f t u q.2 x y ∙ m, n) in
    ((in-id find e c (unary Ran f) u ran-types y z).0 (power.0 h (pair y z) both)).1))))

pub true-m40 : IsTrueRow m40
true-m40 picks = by_truth (built m40 picks) refl (λ find e c l r s.
    let f = picks 0 in let a = picks 1 in let b = picks 2 in
    let k = arrow-in-parts find e f a b l in
    let t = k.0 in let u = k.1 in
    let q = equality-parts (role e.table (bound_types e) (unary Dom f)) (role e.table (bound_types e) a) (and-parts find e (binary In f (binary PartialFunctions a b)) (binary Eq (unary Dom f) a) r).1 in
    let type-a = from-gives e a t q.0 k.3 q.2 in
    let total = total-means find e c f t u k.2 a b k.3 in
    let partial = partial-means find e c f t u k.2 a b in
    let equal = equal-means find e c (unary Dom f) a t (ap (unary_role Dom) k.2) type-a in
    let is_partial = truth find e (binary In f (binary PartialFunctions a b)) in
    let is_all = truth find e (binary Eq (unary Dom f) a) in
    both_ways (truth find e (binary In f (binary TotalFunctions a b))) (is_partial && is_all)
    (λ h.
    let m = total.0 h in
    and-true is_partial is_all (partial.1 (m.0, m.1)) (equal.1 (λ x. both_ways (within find e x (unary Dom f)) (within find e x a)
    (λ n. let w = (in-dom find e c f t u k.2 x).0 n in (m.0 x w.0 w.1).0)
    (λ n. (in-dom find e c f t u k.2 x).1 (m.2 x (member-of find e c a t type-a x n) n)))))
    (λ h.
    let m = and-both is_partial is_all h in
    let p = partial.0 m.0 in
    total.1 (p.0, p.1, λ x o n. (in-dom find e c f t u k.2 x).0 (equal.0 m.1 x ∙ n))))

pub true-m41 : IsTrueRow m41
true-m41 picks = by_truth (built m41 picks) refl (λ find e c l r s.
    let f = picks 0 in let a = picks 1 in let b = picks 2 in
    let k = arrow-in-parts find e f a b l in
    let is_partial = truth find e (binary In f (binary PartialFunctions a b)) in
    let is_once = is_injective (elements (value find e f)) in
    and-under is_partial is_once (truth find e (binary In (unary Inverse f) (binary PartialFunctions b a)))
    (λ h. back-is find e c f a b k.0 k.1 k.2 ((partial-means find e c f k.0 k.1 k.2 a b).0 h).0))

pub true-m42 : IsTrueRow m42
true-m42 picks = by_truth (built m42 picks) refl (λ find e c l r s.
    let f = picks 0 in let a = picks 1 in let b = picks 2 in
    let k = arrow-in-parts find e f a b l in
    let is_partial = truth find e (binary In f (binary PartialFunctions a b)) in
    let is_once = is_injective (elements (value find e f)) in
    let is_total = covers find (set_size e.table) (element_type (meaning find e a).role) (meaning find e a).contains (map first_part (elements (value find e f))) in
    and-past is_partial is_once is_total (truth find e (binary In (unary Inverse f) (binary PartialFunctions b a)))
    (λ h. back-is find e c f a b k.0 k.1 k.2 ((partial-means find e c f k.0 k.1 k.2 a b).0 h).0))

pub true-m43 : IsTrueRow m43
true-m43 picks = by_truth (built m43 picks) refl (λ find e c l r s.
    let f = picks 0 in let a = picks 1 in let b = picks 2 in
    let k = arrow-in-parts find e f a b l in
    let q = equality-parts (role e.table (bound_types e) (unary Ran f)) (role e.table (bound_types e) b) (and-parts find e (binary In f (binary PartialFunctions a b)) (binary Eq (unary Ran f) b) r).1 in
    let is_partial = truth find e (binary In f (binary PartialFunctions a b)) in
    let is_onto = covers find (set_size e.table) (element_type (meaning find e b).role) (meaning find e b).contains (map second_of (elements (value find e f))) in
    and-under is_partial is_onto (truth find e (binary Eq (unary Ran f) b))
    (λ h. onto-is find e c f b k.0 k.1 k.2 (from-gives e b k.1 q.0 k.4 q.2) (λ x y n. (((partial-means find e c f k.0 k.1 k.2 a b).0 h).0 x y n).1)))

pub true-m44 : IsTrueRow m44
true-m44 picks = by_truth (built m44 picks) refl (λ find e c l r s.
    let f = picks 0 in let a = picks 1 in let b = picks 2 in
    let k = arrow-in-parts find e f a b l in
    let q = equality-parts (role e.table (bound_types e) (unary Ran f)) (role e.table (bound_types e) b) (and-parts find e (binary In f (binary TotalFunctions a b)) (binary Eq (unary Ran f) b) r).1 in
    let is_partial = truth find e (binary In f (binary PartialFunctions a b)) in
    let is_total = covers find (set_size e.table) (element_type (meaning find e a).role) (meaning find e a).contains (map first_part (elements (value find e f))) in
    let is_onto = covers find (set_size e.table) (element_type (meaning find e b).role) (meaning find e b).contains (map second_of (elements (value find e f))) in
    and-under (is_partial && is_total) is_onto (truth find e (binary Eq (unary Ran f) b))
    (λ h. onto-is find e c f b k.0 k.1 k.2 (from-gives e b k.1 q.0 k.4 q.2) (λ x y n. (((partial-means find e c f k.0 k.1 k.2 a b).0 (and-both is_partial is_total h).0).0 x y n).1)))

pub true-m45 : IsTrueRow m45
true-m45 picks = by_truth (built m45 picks) refl (λ find e c l r s.
    let f = picks 0 in let a = picks 1 in let b = picks 2 in
    let k = arrow-in-parts find e f a b l in
    let q = equality-parts (role e.table (bound_types e) (unary Ran f)) (role e.table (bound_types e) b) (and-parts find e (binary In f (binary TotalInjections a b)) (binary Eq (unary Ran f) b) r).1 in
    let is_partial = truth find e (binary In f (binary PartialFunctions a b)) in
    let is_once = is_injective (elements (value find e f)) in
    let is_total = covers find (set_size e.table) (element_type (meaning find e a).role) (meaning find e a).contains (map first_part (elements (value find e f))) in
    let is_onto = covers find (set_size e.table) (element_type (meaning find e b).role) (meaning find e b).contains (map second_of (elements (value find e f))) in
    and-under ((is_partial && is_once) && is_total) is_onto (truth find e (binary Eq (unary Ran f) b))
    (λ h.
    let p = (and-both is_partial is_once (and-both (is_partial && is_once) is_total h).0).0 in
    onto-is find e c f b k.0 k.1 k.2 (from-gives e b k.1 q.0 k.4 q.2) (λ x y n. (((partial-means find e c f k.0 k.1 k.2 a b).0 p).0 x y n).1)))
