-- The rows of images, of overriding with nothing, and of restricting twice.
use Rattle.std.proofs.Common.{◌≡◌, refl, sym, ◌∙◌, ap, subst, true, false, ◌&&◌, ◌||◌, inl, inr}
use Rattle.bk_val.specs.Value.{MathValue, pair}
use Rattle.bk_val.specs.ValueType.{set_type}
use Rattle.bk_form.specs.Formula.{unary, binary, empty_set}
use Rattle.bk_form.specs.Environment.{bound_types}
use Rattle.bk_form.specs.Role.{role}
use Rattle.bk_form.specs.Meaning.{value, within}
use Rattle.bk_form.specs.declared.operator.UnOp.TheVariants.{Single}
use Rattle.bk_form.specs.declared.operator.BinOp.TheVariants.{Union, Inter, DomRes, Apply, Image}
use Rattle.bk_form.proofs.Members.{both_ways, or-left, or-right, or-cases}
use Rattle.bk_form.proofs.RoleParts.{image-parts}
use Rattle.bk_form.proofs.SetMembers.{two-sets, in-image, in-union, in-dom, in-single, in-over, dom-part, in-dom-res, in-inter}
use Rattle.bk_form.proofs.ArrowMembers.{partial-means, apply-means}
use Rattle.bk_laws.specs.Laws.{IsTrueRow}
use Rattle.bk_laws.specs.Rows.{built}
use Rattle.bk_laws.specs.Patterns.{empty_type}
use Rattle.bk_laws.proofs.ByForm.{by_members, by_pairs}
use Rattle.bk_laws_fun.specs.Relations.{m31, m32, m33, m34, m35, m36}
use Rattle.bk_laws_fun.proofs.Truths.{and-kept, and-turn}

pub true-m31 : IsTrueRow m31
true-m31 picks = by_members (built m31 picks) refl (λ find e c t l r s y o.
    let f = picks 0 in let a = picks 1 in let b = picks 2 in
    let k = image-parts (role e.table (bound_types e) f) (role e.table (bound_types e) (binary Union a b)) (set_type t) l in
    let two = two-sets find e a b k.0 k.3 in
    let whole = in-image find e f (binary Union a b) k.0 k.1 k.2 k.3 y in
    let first = in-image find e f a k.0 k.1 k.2 two.0 y in
    let second = in-image find e f b k.0 k.1 k.2 two.1 y in
    let joined = λ (x : MathValue). in-union find e a b k.0 k.3 x in
    both_ways (within find e y (binary Image f (binary Union a b))) (within find e y (binary Image f a) || within find e y (binary Image f b))
    (λ h. let w = whole.0 h in elim (or-cases (within find e w.0 a) (within find e w.0 b) (sym (joined w.0) ∙ w.1)) [
      | inl m ↦ or-left (within find e y (binary Image f a)) (within find e y (binary Image f b)) (first.1 (w.0, m, w.2))
      | inr m ↦ or-right (within find e y (binary Image f a)) (within find e y (binary Image f b)) (second.1 (w.0, m, w.2))
    ])
    (λ h. elim (or-cases (within find e y (binary Image f a)) (within find e y (binary Image f b)) h) [
      | inl m ↦ let w = first.0 m in whole.1 (w.0, joined w.0 ∙ or-left (within find e w.0 a) (within find e w.0 b) w.1, w.2)
      | inr m ↦ let w = second.0 m in whole.1 (w.0, joined w.0 ∙ or-right (within find e w.0 a) (within find e w.0 b) w.1, w.2)
    ])
    ∙ sym (in-union find e (binary Image f a) (binary Image f b) t r y))

pub true-m32 : IsTrueRow m32
true-m32 picks = by_members (built m32 picks) refl (λ find e c u l r s y o.
    let f = picks 0 in
    let nothing = empty_set (empty_type (picks 1)) in
    let k = image-parts (role e.table (bound_types e) f) (role e.table (bound_types e) nothing) (set_type u) l in
    let image = in-image find e f nothing k.0 k.1 k.2 k.3 y in
    both_ways (within find e y (binary Image f nothing)) false
    (λ h. (image.0 h).1)
    (λ h. absurd (cc)))

pub true-m33 : IsTrueRow m33
true-m33 picks = by_members (built m33 picks) refl (λ find e c t l r s y o.
    let f = picks 0 in let x = picks 1 in
    let k = image-parts (role e.table (bound_types e) f) (role e.table (bound_types e) (unary Single x)) (set_type t) l in
    let once = ((partial-means find e c f k.0 k.1 k.2 (picks 2) (picks 3)).0 s.1).1 in
    let w = (in-dom find e c f k.0 k.1 k.2 (value find e x)).0 s.2.1 in
    let is = apply-means find e c f k.0 k.1 k.2 x w.0 w.1 (λ z h. once (value find e x) z w.0 h w.1) in
    let image = in-image find e f (unary Single x) k.0 k.1 k.2 k.3 y in
    both_ways (within find e y (binary Image f (unary Single x))) (within find e y (unary Single (binary Apply f x)))
    (λ h. let m = image.0 h in
    let begins = (in-single find e c x m.0).0 m.1 in
    (in-single find e c (binary Apply f x) y).1 (once (value find e x) y w.0 (subst (λ z. within find e (pair z y) f ≡ true) begins m.2) w.1 ∙ sym is))
    (λ h. let same = (in-single find e c (binary Apply f x) y).0 h in
    image.1 (value find e x, (in-single find e c x (value find e x)).1 refl, subst (λ z. within find e (pair (value find e x) z) f ≡ true) (sym is ∙ sym same) w.1)))

pub true-m34 : IsTrueRow m34
true-m34 picks = by_pairs (built m34 picks) refl refl (λ find e c t u l r s x y.
    let f = picks 0 in
    in-over find e c f (empty_set (empty_type (picks 1))) t u l x y ∙ and-kept (within find e (pair x y) f))

pub true-m35 : IsTrueRow m35
true-m35 picks = by_pairs (built m35 picks) refl refl (λ find e c t u l r s x y.
    in-over find e c (empty_set (empty_type (picks 0))) (picks 1) t u l x y)

pub true-m36 : IsTrueRow m36
true-m36 picks = by_pairs (built m36 picks) refl refl (λ find e c t u l r s x y.
    let a = picks 0 in let b = picks 1 in let f = picks 2 in
    let outer = dom-part find e a (binary DomRes b f) t u l in
    let whole = dom-part find e (binary Inter a b) f t u r in
    let in_f = within find e (pair x y) f in
    in-dom-res find e a (binary DomRes b f) t u l x y
    ∙ ap (λ z. z && within find e x a) (in-dom-res find e b f t u outer.1 x y)
    ∙ and-turn in_f (within find e x b) (within find e x a)
    ∙ ap (λ z. in_f && z) (sym (in-inter find e a b t whole.0 x))
    ∙ sym (in-dom-res find e (binary Inter a b) f t u r x y))
