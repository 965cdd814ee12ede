-- Developments whose obligations are made of predicates.
use Rattle.bk_dev.specs.Development.{Development}
use Rattle.bk_dev.specs.Flattened.{flattened}
use Rattle.bk_form.specs.Each.{Each}
use Rattle.bk_seq.specs.Sequents.{Types}
use Rattle.bk_po.specs.Obligations.{numbered_obligations}

-- in each numbered sequent every formula is a predicate over the table with all copies
abbrev pub HasTypedObligations : Development → Type 0
HasTypedObligations dev = Each (λ s. Types (flattened dev).table s.1) (numbered_obligations dev)
