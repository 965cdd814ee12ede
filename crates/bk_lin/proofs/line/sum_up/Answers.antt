use Rattle.std.proofs.Common.{◌≡◌, ℕ, ℤ, true, false, pos, ◌+◌, ◌-◌, List, drop, get_or, sym, ap, ◌∙◌, arith, rules, refl, ◌&&◌}
use Rattle.std.specs.Int.{w128, cast_signed, cast_unsigned}
use Rattle.std.proofs.lemmas.Bool.{false_from_ne_true}
use Rattle.bk_lin.specs.Inequality.{Inequality, is_narrow, times, plus, plus_all}
use Rattle.bk_lin.specs.Certificate.{multiples_of, sums_fit}
use Rattle.bk_lin.specs.Layout.{held_in, shown, facts_of}
use Rattle.bk_lin.proofs.Adding.{back, none_is_not_some}
use Rattle.bk_lin.proofs.Summing.{multiple_at, rest_fits, rest_fits-more, rest_fits-fails, plus_all-more}
use Rattle.bk_lin.proofs.line.sum_up.Goals as goal

pub loop-multiplier-preserved : goal.loop-multiplier-preserved
loop-multiplier-preserved c =
    let facts : List Inequality = facts_of c.args.standing.now in
    let parts : List (ℤ × ℕ) = c.args.parts.now in
    let i : ℕ = c.loop-multiplier.multiplier-index in
    let p : Inequality = held_in c.loop-multiplier.target in
    let row : Inequality = shown c.row.result.coefs.now c.row.result.constant in
    let same : times (cast_signed w128 (cast_unsigned w128 (get_or parts i (pos 0, 0)).0)) row ≡ multiple_at facts parts i =
    ap (λ m. times m row) (back (get_or parts i (pos 0, 0)).0 (search rules)) ∙ ap (λ q. times (get_or parts i (pos 0, 0)).0 q) c.row.ensures.fact in
    let fits : (is_narrow (multiple_at facts parts i) && is_narrow (plus p (multiple_at facts parts i))) ≡ true =
    ap (λ q. is_narrow q && is_narrow (plus p q)) (sym same) ∙ c.in_ok-add_multiple.ensures.narrow.0 refl in
    let made : held_in c.add_multiple.new.target ≡ plus p (multiple_at facts parts i) =
    c.in_ok-add_multiple.ensures.added ∙ ap (λ q. plus p q) same in
    record {
      sum =
          ap (λ s. plus_all s (multiples_of facts (drop (i + 1) parts))) made
          ∙ plus_all-more facts parts i p (omega arith) ∙ c.loop-multiplier.invariant.sum;
      fits =
          ap (λ s. rest_fits s (multiples_of facts (drop (i + 1) parts))) made
          ∙ rest_fits-more facts parts i p (omega arith) fits ∙ c.loop-multiplier.invariant.fits;
    }

pub returns-in_err-add_multiple-clause-fits : goal.returns-in_err-add_multiple-clause-fits
returns-in_err-add_multiple-clause-fits c =
    let facts : List Inequality = facts_of c.args.standing.now in
    let parts : List (ℤ × ℕ) = c.args.parts.now in
    let i : ℕ = c.loop-multiplier.multiplier-index in
    let p : Inequality = held_in c.loop-multiplier.target in
    let row : Inequality = shown c.row.result.coefs.now c.row.result.constant in
    let same : times (cast_signed w128 (cast_unsigned w128 (get_or parts i (pos 0, 0)).0)) row ≡ multiple_at facts parts i =
    ap (λ m. times m row) (back (get_or parts i (pos 0, 0)).0 (search rules)) ∙ ap (λ q. times (get_or parts i (pos 0, 0)).0 q) c.row.ensures.fact in
    let fails : (is_narrow (multiple_at facts parts i) && is_narrow (plus p (multiple_at facts parts i))) ≡ false =
    ap (λ q. is_narrow q && is_narrow (plus p q)) (sym same)
    ∙ false_from_ne_true _ (λ yes. none_is_not_some _ c.in_err-add_multiple.was (c.add_multiple.ensures.narrow.1 yes)) in
    let all : sums_fit (c.args.standing.now.size - 1) (multiples_of facts parts) ≡ false =
    sym c.loop-multiplier.invariant.fits ∙ rest_fits-fails facts parts i p (omega arith) fails in
    (λ some. absurd (none_is_not_some _ c.from_residual.ensures some), λ yes. absurd (cc (all, yes)))
