use Rattle.std.proofs.Common.{◌≡◌, ◌+◌, ◌-◌, ◌∷◌, ◌++◌, ℕ, List, [], suc, take, length, get_or, nat_eq, cond, Some, refl, sym, ap, ◌∙◌, arith, length-take}
use Rattle.std.proofs.lemmas.List.{take_more, take_all}
use Rattle.std.specs.HashMap.{get}
use Rattle.bk_bind.specs.Together.{place_above}
use Rattle.bk_bind.proofs.Together.{place_of_one_more}
use Rattle.bk_bind.proofs.closing.places_of.Goals as goal

pub loop-variable-preserved : goal.loop-variable-preserved
loop-variable-preserved c =
    let variables : List ℕ = c.args.variables.now in
    let i : ℕ = c.loop-variable.variable-index in
    let z : ℕ = get_or variables i 0 in
    let within : ℕ = c.loop-variable.within - 1 in
    let counted = c.loop-variable.invariant.0 in
    let one : c.loop-variable.within ≡ suc within = omega (arith, counted, c.loop-variable-test.true) in
    let fewer : within ≡ length variables - (i + 1) = omega (arith, counted) in (
      fewer,
      λ n.
          c.in_ok-insert.ensures.updates.0 n
          ∙ (ap (cond (nat_eq z n) (Some within)) (c.loop-variable.invariant.1 n ∙ ap (λ w. place_above w (take i variables) n) one)
          ∙ (sym (place_of_one_more (take i variables) z within n)
          ∙ ap (λ zs. place_above within zs n) (sym (take_more variables i 0 c.loop-variable-test.true)))),
    )

pub returns : goal.returns
returns c = λ n.
    let none : c.loop-variable.within ≡ 0 = omega (arith, c.loop-variable.invariant.0, c.loop-variable-test.false) in
    let whole : take c.loop-variable.variable-index c.args.variables.now ≡ c.args.variables.now = take_all c.loop-variable.variable-index c.args.variables.now c.loop-variable-test.false in
    c.loop-variable.invariant.1 n ∙ (λ i. place_above (none i) (whole i) n)
