-- Every sequent of a development is made of predicates.
use Rattle.std.proofs.Common.{ℕ, suc, List, [], ◌∷◌}
use Rattle.bk_form.specs.Table.{Table}
use Rattle.bk_form.specs.Predicates.{IsPredicate}
use Rattle.bk_dev.specs.Flattened.{flattened}
use Rattle.bk_form.specs.Each.{Each}
use Rattle.bk_seq.specs.Sequents.{Sequent, Types, split}
use Rattle.bk_po.specs.Obligations.{Obligation, numbered_from, numbered_sequents, flat_obligations}
use Rattle.bk_po.specs.Laws.{ObligationsType}
use Rattle.bk_po.proofs.FlatStands.{flattened_stands}
use Rattle.bk_po.proofs.Lists.{flat-each, each-so}
use Rattle.bk_po.proofs.Predicates.{split-typed}
use Rattle.bk_po.proofs.TypedGoals.{obligations-typed}

module _ (table : Table) where
  abbrev IsNumberedTyped : List ℕ × Sequent → Type 0
  IsNumberedTyped s = Types table s.1

  number-each : (k : ℕ) (name : List ℕ) (ss : List Sequent) → Each (Types table) ss → Each IsNumberedTyped (numbered_from k name ss)
  number-each k name [] h = tt
  number-each k name (s ∷ ss) h = (h.0, number-each (suc k) name ss h.1)

  sequents-typed : (os : List Obligation) → Each (λ o. Each (IsPredicate table) o.hypotheses × IsPredicate table o.goal) os → Each IsNumberedTyped (numbered_sequents os)
  sequents-typed os h =
      let of_obligation : Obligation → List (List ℕ × Sequent) = λ o. numbered_from 1 o.name (split o.hypotheses o.goal) in
      flat-each IsNumberedTyped of_obligation os (each-so (λ o. Each (IsPredicate table) o.hypotheses × IsPredicate table o.goal) (λ o. Each IsNumberedTyped (of_obligation o)) os (λ o p. number-each 1 o.name (split o.hypotheses o.goal) (split-typed table o.hypotheses o.goal p.0 p.1)) h)

pub obligations_type : ObligationsType
obligations_type dev d = sequents-typed (flattened dev).table (flat_obligations (flattened dev)) (obligations-typed (flattened dev) (flattened_stands dev d))
