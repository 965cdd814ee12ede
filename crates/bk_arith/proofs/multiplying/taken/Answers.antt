use Rattle.std.proofs.Common.{◌≡◌, Some, None, cond, sym, ap, ◌∙◌, arith, rules}
use Rattle.std.specs.Int.{w128, cast_signed, cast_unsigned}
use Rattle.std.specs.List.{position_from, remove}
use Rattle.std.specs.Ordering.{int_eq}
use Rattle.std.specs.Prelude.{true, false}
use Rattle.bk_lin.proofs.Adding.{back}
use Rattle.bk_arith.specs.Polynomials.{same_atoms}
use Rattle.bk_arith.specs.Layout.{monomial_of, polynomial_of}
use Rattle.bk_arith.proofs.StoredPlaces.{standing, taken-nothing, int_eq-same, int_eq-other}
use Rattle.bk_arith.proofs.multiplying.taken.Goals as goal

pub returns-in_default : goal.returns-in_default
returns-in_default c =
    let place : c.in_ok-index.field-0 ≡ position_from (λ m. same_atoms c.args.monomial.now.atoms.items m.1) 0 (polynomial_of c.args.list.items) =
    c.in_ok-index.ensures
    ∙ ap (λ fs. position_from (λ m. same_atoms fs m.1) 0 (polynomial_of c.deref-2.result.now)) c.deref.ensures.value
    ∙ ap (λ ms. position_from (λ m. same_atoms c.args.monomial.now.atoms.items m.1) 0 (polynomial_of ms)) c.deref-2.ensures.value in
    sym (taken-nothing c.args.monomial.now c.args.list.items (sym place ∙ c.in_default.is))

pub index-requires : goal.index-requires
index-requires c =
    let place : c.in_ok-index.field-0 ≡ position_from (λ m. same_atoms c.args.monomial.now.atoms.items m.1) 0 (polynomial_of c.args.list.items) =
    c.in_ok-index.ensures
    ∙ ap (λ fs. position_from (λ m. same_atoms fs m.1) 0 (polynomial_of c.deref-2.result.now)) c.deref.ensures.value
    ∙ ap (λ ms. position_from (λ m. same_atoms c.args.monomial.now.atoms.items m.1) 0 (polynomial_of ms)) c.deref-2.ensures.value in
    let at = standing (monomial_of c.args.monomial.now) c.args.list.items c.in-Some.index (sym place ∙ c.in-Some.is) in
    omega (arith, at.within)

pub returns-then-index-monomial : goal.returns-then-index-monomial
returns-then-index-monomial c =
    let place : c.in_ok-index.field-0 ≡ position_from (λ m. same_atoms c.args.monomial.now.atoms.items m.1) 0 (polynomial_of c.args.list.items) =
    c.in_ok-index.ensures
    ∙ ap (λ fs. position_from (λ m. same_atoms fs m.1) 0 (polynomial_of c.deref-2.result.now)) c.deref.ensures.value
    ∙ ap (λ ms. position_from (λ m. same_atoms c.args.monomial.now.atoms.items m.1) 0 (polynomial_of ms)) c.deref-2.ensures.value in
    let at = standing (monomial_of c.args.monomial.now) c.args.list.items c.in-Some.index (sym place ∙ c.in-Some.is) in
    let x = c.args.monomial.now.coefficient in
    let y = c.index.result.now.coefficient in
    let other : int_eq x y ≡ false = int_eq-other x y (λ e. c.if-index-monomial.true (ap (cast_unsigned w128) (sym e))) in
    sym (at.takes c.index.result.now c.index.ensures ∙ ap (λ b. cond b (Some (polynomial_of (remove c.args.list.items c.in-Some.index))) None) other)

pub remove-requires : goal.remove-requires
remove-requires c =
    let place : c.in_ok-index.field-0 ≡ position_from (λ m. same_atoms c.args.monomial.now.atoms.items m.1) 0 (polynomial_of c.args.list.items) =
    c.in_ok-index.ensures
    ∙ ap (λ fs. position_from (λ m. same_atoms fs m.1) 0 (polynomial_of c.deref-2.result.now)) c.deref.ensures.value
    ∙ ap (λ ms. position_from (λ m. same_atoms c.args.monomial.now.atoms.items m.1) 0 (polynomial_of ms)) c.deref-2.ensures.value in
    let at = standing (monomial_of c.args.monomial.now) c.args.list.items c.in-Some.index (sym place ∙ c.in-Some.is) in
    omega (arith, at.within)

pub returns : goal.returns
returns c =
    let place : c.in_ok-index.field-0 ≡ position_from (λ m. same_atoms c.args.monomial.now.atoms.items m.1) 0 (polynomial_of c.args.list.items) =
    c.in_ok-index.ensures
    ∙ ap (λ fs. position_from (λ m. same_atoms fs m.1) 0 (polynomial_of c.deref-2.result.now)) c.deref.ensures.value
    ∙ ap (λ ms. position_from (λ m. same_atoms c.args.monomial.now.atoms.items m.1) 0 (polynomial_of ms)) c.deref-2.ensures.value in
    let at = standing (monomial_of c.args.monomial.now) c.args.list.items c.in-Some.index (sym place ∙ c.in-Some.is) in
    let x = c.args.monomial.now.coefficient in
    let y = c.index.result.now.coefficient in
    let same_x : cast_signed w128 (cast_unsigned w128 x) ≡ x = back x (search rules) in
    let same_y : cast_signed w128 (cast_unsigned w128 y) ≡ y = back y (search rules) in
    let same : int_eq x y ≡ true = int_eq-same x y (sym same_x ∙ ap (cast_signed w128) (sym c.if-index-monomial.false) ∙ same_y) in
    ap (λ ms. Some (polynomial_of ms)) c.remove.ensures.items
    ∙ sym (at.takes c.index.result.now c.index.ensures ∙ ap (λ b. cond b (Some (polynomial_of (remove c.args.list.items c.in-Some.index))) None) same)
