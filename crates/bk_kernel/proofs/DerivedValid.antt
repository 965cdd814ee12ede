-- What is derived is valid, also without the names of a script.
use Rattle.std.proofs.Common.{List, [], ◌∷◌, sym, ◌∙◌, subst}
use Rattle.bk_form.specs.Each.{Each}
use Rattle.bk_form.specs.Table.{Table, IsWellFormed}
use Rattle.bk_form.specs.Formula.{Formula}
use Rattle.bk_form.specs.Predicates.{IsPredicate}
use Rattle.bk_form.specs.Wider.{IsWider, IsTypedRole}
use Rattle.bk_form.proofs.Widening.{widening_roles}
use Rattle.bk_seq.specs.Sequents.{Sequent, Types}
use Rattle.bk_seq.proofs.Widening.{validity_widens}
use Rattle.bk_kernel.specs.RuleLaws.{DerivedIsValid, DerivedWiderIsValid}
use Rattle.bk_kernel.proofs.Derived.{derived-valid}
use Rattle.bk_kernel.proofs.SoundRules.{rules-are-sound}

pub derived-is-valid : DerivedIsValid
derived-is-valid table well rules s types h = (derived-valid table (rules-are-sound table well) (s ∷ []) rules [] (types, tt) h tt).0

module _ (small large : Table) (well : IsWellFormed small) (wider : IsWider small large) where
  predicate-wider : (p : Formula) → IsPredicate small p → IsPredicate large p
  predicate-wider p h = widening_roles small large well wider [] p (subst IsTypedRole (sym h) tt) ∙ h

  predicates-wider : (ps : List Formula) → Each (IsPredicate small) ps → Each (IsPredicate large) ps
  predicates-wider [] h = tt
  predicates-wider (p ∷ ps) h = (predicate-wider p h.0, predicates-wider ps h.1)

  -- a sequent that types over a table types over one with more variables or sets
  pub types-wider : (s : Sequent) → Types small s → Types large s
  types-wider s h = (predicates-wider s.0 h.0, predicate-wider s.1 h.1)

pub derived-wider-is-valid : DerivedWiderIsValid
derived-wider-is-valid small large rules s h =
    (validity_widens small large h.small_formed h.large_formed h.wider s h.types).1
    (derived-is-valid large h.large_formed rules s (types-wider small large h.small_formed h.wider s h.types) h.derives)
