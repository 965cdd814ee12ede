-- The counter's obligations, and those of the adder.
use Rattle.std.proofs.Common.{refl}
use Rattle.std.specs.Fmt.{digits}
use Rattle.bk_po.specs.Examples.{TallyAsks}
use Rattle.bk_po.specs.Laws.{CounterHasThese, CounterIsValid}

pub counter_has_these : CounterHasThese
unfolding digits
counter_has_these = refl

pub tally_asks : TallyAsks
unfolding digits
tally_asks = record { kept = refl; not_below = refl; not_above = refl }

pub counter_is_valid : CounterIsValid
counter_is_valid =
    ((λ sizes p find law e typed hold. refl), ((λ sizes p find law e typed hold. refl), ((λ sizes p find law e typed hold. refl), ((λ sizes p find law e typed hold. hold.0), ((λ sizes p find law e typed hold. refl), ((λ sizes p find law e typed hold. refl), ((λ sizes p find law e typed hold. refl), ((λ sizes p find law e typed hold. refl), ((λ sizes p find law e typed hold. refl), ((λ sizes p find law e typed hold. refl), ((λ sizes p find law e typed hold. hold.1.0), ((λ sizes p find law e typed hold. hold.1.1.0), ((λ sizes p find law e typed hold. hold.1.1.0), tt)))))))))))))
