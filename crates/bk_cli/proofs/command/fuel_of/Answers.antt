use Rattle.std.proofs.Common.{◌≡◌, sym, ◌∙◌, arith}
use Rattle.std.proofs.lemmas.Fmt.{decimal_injective}
use Rattle.bk_cli.proofs.command.fuel_of.Goals.{then-fuel-eq0-via-then-fuel-eq0, then-fuel-eq0-via-else-fuel-eq0+then-fuel-gt-MOST_FUEL}
use Rattle.bk_cli.proofs.command.fuel_of.Goals as goal

pub returns-then-fuel-eq0 : goal.returns-then-fuel-eq0
returns-then-fuel-eq0 c = λ fuel f.
    let same : c.in_ok-fuel.fuel ≡ fuel = decimal_injective c.in_ok-fuel.fuel fuel (omega arith) (omega arith) (sym c.in_ok-fuel.ensures ∙ f.written) in
    elim c.then-fuel-eq0.branch as (λ _. ⊥) [
      | then-fuel-eq0-via-then-fuel-eq0 w ↦ absurd (omega arith)
      | then-fuel-eq0-via-else-fuel-eq0+then-fuel-gt-MOST_FUEL w ↦ absurd (omega arith)
    ]
