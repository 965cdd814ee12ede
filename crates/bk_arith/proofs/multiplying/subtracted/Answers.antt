use Rattle.std.proofs.Common.{◌≡◌, ◌-ℤ◌, Some, None, sym, ap, subst, ◌∙◌, arith, rules}
use Rattle.std.specs.Int.{w128, cast_signed, cast_unsigned}
use Rattle.std.specs.List.{position_from}
use Rattle.std.specs.Option.{option_map}
use Rattle.std.specs.Prelude.{slice_set, MatchResult}
use Rattle.bk_lin.proofs.Adding.{back}
use Rattle.bk_arith.specs.declared.error.ArithFault.TheVariants.{TooWide}
use Rattle.bk_arith.proofs.Options.{refused, refusal}
use Rattle.bk_arith.specs.ClosedSum.{if_fits}
use Rattle.bk_arith.specs.Polynomials.{same_atoms, subtracted}
use Rattle.bk_arith.specs.Layout.{monomial_of, polynomial_of, IsPolynomialFault}
use Rattle.bk_arith.proofs.StoredPlaces.{standing, subtracted-last}
use Rattle.bk_arith.proofs.multiplying.subtracted.Goals as goal

pub returns-in_default : goal.returns-in_default
returns-in_default c =
    let place : c.in_ok-index.field-0 ≡ position_from (λ m. same_atoms c.args.monomial.now.atoms.items m.1) 0 (polynomial_of c.args.from.items) =
    c.in_ok-index.ensures
    ∙ ap (λ fs. position_from (λ m. same_atoms fs m.1) 0 (polynomial_of c.deref-2.result.now)) c.deref.ensures.value
    ∙ ap (λ ms. position_from (λ m. same_atoms c.args.monomial.now.atoms.items m.1) 0 (polynomial_of ms)) c.deref-2.ensures.value in
    let last = subtracted-last c.args.monomial.now c.args.from.items (sym place ∙ c.in_default.is) in
    subst (λ o. MatchResult c.negated_behind.result (λ p. o ≡ Some (polynomial_of p.items)) (λ e. IsPolynomialFault o e)) (sym last) c.negated_behind.ensures

pub index-requires : goal.index-requires
index-requires c =
    let place : c.in_ok-index.field-0 ≡ position_from (λ m. same_atoms c.args.monomial.now.atoms.items m.1) 0 (polynomial_of c.args.from.items) =
    c.in_ok-index.ensures
    ∙ ap (λ fs. position_from (λ m. same_atoms fs m.1) 0 (polynomial_of c.deref-2.result.now)) c.deref.ensures.value
    ∙ ap (λ ms. position_from (λ m. same_atoms c.args.monomial.now.atoms.items m.1) 0 (polynomial_of ms)) c.deref-2.ensures.value in
    let at = standing (monomial_of c.args.monomial.now) c.args.from.items c.in-Some.index (sym place ∙ c.in-Some.is) in
    omega (arith, at.within)

pub returns-in_err-difference : goal.returns-in_err-difference
returns-in_err-difference c =
    let place : c.in_ok-index.field-0 ≡ position_from (λ m. same_atoms c.args.monomial.now.atoms.items m.1) 0 (polynomial_of c.args.from.items) =
    c.in_ok-index.ensures
    ∙ ap (λ fs. position_from (λ m. same_atoms fs m.1) 0 (polynomial_of c.deref-2.result.now)) c.deref.ensures.value
    ∙ ap (λ ms. position_from (λ m. same_atoms c.args.monomial.now.atoms.items m.1) 0 (polynomial_of ms)) c.deref-2.ensures.value in
    let at = standing (monomial_of c.args.monomial.now) c.args.from.items c.in-Some.index (sym place ∙ c.in-Some.is) in
    let x = c.args.monomial.now.coefficient in
    let y = c.index.result.now.coefficient in
    let same_x : cast_signed w128 (cast_unsigned w128 x) ≡ x = back x (search rules) in
    let same_y : cast_signed w128 (cast_unsigned w128 y) ≡ y = back y (search rules) in
    let none : if_fits (y -ℤ x) ≡ None = (λ k. if_fits (sym same_y k -ℤ sym same_x k)) ∙ sym c.difference_of.ensures ∙ c.in_err-difference.ensures.ok_part in
    let wide : subtracted (monomial_of c.args.monomial.now) (polynomial_of c.args.from.items) ≡ None = at.subtracts c.index.result.now c.index.result.now c.index.ensures c.index.ensures ∙ ap (option_map (λ z. polynomial_of (slice_set c.args.from.items c.in-Some.index (record { coefficient = z; atoms = c.index.result.now.atoms })))) none in
    let is : c.in_err-difference.field-0.0 ≡ TooWide = refusal c.difference_of.result c.in_err-difference.field-0.0 TooWide c.in_err-difference.ensures.value in
    refused c.from_residual-in_err-difference.result c.in_err-difference.field-0.0
    (λ p. subtracted (monomial_of c.args.monomial.now) (polynomial_of c.args.from.items) ≡ Some (polynomial_of p.items))
    (λ e. IsPolynomialFault (subtracted (monomial_of c.args.monomial.now) (polynomial_of c.args.from.items)) e)
    c.from_residual-in_err-difference.ensures.0 c.from_residual-in_err-difference.ensures.1
    (subst (λ e. IsPolynomialFault (subtracted (monomial_of c.args.monomial.now) (polynomial_of c.args.from.items)) e) (sym is) wide)

pub index_mut-requires : goal.index_mut-requires
index_mut-requires c =
    let place : c.in_ok-index.field-0 ≡ position_from (λ m. same_atoms c.args.monomial.now.atoms.items m.1) 0 (polynomial_of c.args.from.items) =
    c.in_ok-index.ensures
    ∙ ap (λ fs. position_from (λ m. same_atoms fs m.1) 0 (polynomial_of c.deref-2.result.now)) c.deref.ensures.value
    ∙ ap (λ ms. position_from (λ m. same_atoms c.args.monomial.now.atoms.items m.1) 0 (polynomial_of ms)) c.deref-2.ensures.value in
    let at = standing (monomial_of c.args.monomial.now) c.args.from.items c.in-Some.index (sym place ∙ c.in-Some.is) in
    omega (arith, at.within)

pub returns : goal.returns
returns c =
    let place : c.in_ok-index.field-0 ≡ position_from (λ m. same_atoms c.args.monomial.now.atoms.items m.1) 0 (polynomial_of c.args.from.items) =
    c.in_ok-index.ensures
    ∙ ap (λ fs. position_from (λ m. same_atoms fs m.1) 0 (polynomial_of c.deref-2.result.now)) c.deref.ensures.value
    ∙ ap (λ ms. position_from (λ m. same_atoms c.args.monomial.now.atoms.items m.1) 0 (polynomial_of ms)) c.deref-2.ensures.value in
    let at = standing (monomial_of c.args.monomial.now) c.args.from.items c.in-Some.index (sym place ∙ c.in-Some.is) in
    let x = c.args.monomial.now.coefficient in
    let y = c.index.result.now.coefficient in
    let same_x : cast_signed w128 (cast_unsigned w128 x) ≡ x = back x (search rules) in
    let same_y : cast_signed w128 (cast_unsigned w128 y) ≡ y = back y (search rules) in
    let sum : if_fits (y -ℤ x) ≡ Some c.in_ok-difference.difference = (λ k. if_fits (sym same_y k -ℤ sym same_x k)) ∙ sym c.difference_of.ensures ∙ c.in_ok-difference.ensures.ok_part in
    let same_s : cast_signed w128 (cast_unsigned w128 c.in_ok-difference.difference) ≡ c.in_ok-difference.difference = back c.in_ok-difference.difference (search rules) in
    at.subtracts c.index_mut.result.now c.index.result.now c.index_mut.ensures.value c.index.ensures
    ∙ ap (option_map (λ z. polynomial_of (slice_set c.args.from.items c.in-Some.index (record { coefficient = z; atoms = c.index_mut.result.now.atoms })))) sum
    ∙ ap (λ z. Some (polynomial_of (slice_set c.args.from.items c.in-Some.index (record { coefficient = z; atoms = c.index_mut.result.now.atoms })))) (sym same_s)
