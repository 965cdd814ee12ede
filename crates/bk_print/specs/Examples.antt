-- An example of obligations that read back in their scopes, to be checked by hand.
use Rattle.std.specs.Prelude.{◌≡◌, false}
use Rattle.bk_form.specs.Each.{Each}
use Rattle.bk_kernel.specs.Obvious.{is_obvious}
use Rattle.bk_dev.specs.Flattened.{flattened}
use Rattle.bk_po.specs.Obligations.{numbered_obligations}
use Rattle.bk_po.specs.Examples.{tally}
use Rattle.bk_print.specs.InScope.{IsReadInScope}

-- the five obligations of the adder that need a proof read back in their scopes
abbrev pub TallyReadsInScope : Type 0
TallyReadsInScope = Each (λ o. is_obvious o.1.0 o.1.1 ≡ false → IsReadInScope (flattened tally) o) (numbered_obligations tally)
