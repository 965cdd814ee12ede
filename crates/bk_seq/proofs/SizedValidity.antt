-- Sequents over tables whose sets get sizes.
use Rattle.std.proofs.Common.{◌≡◌, ℕ, zero, suc, ◌<◌, List, [], ◌∷◌, sym, ◌∙◌, subst, arith}
use Rattle.bk_form.specs.Table.{Table, IsWellFormed}
use Rattle.bk_form.specs.Formula.{Formula}
use Rattle.bk_form.specs.Predicates.{IsPredicate}
use Rattle.bk_form.specs.Each.{Each}
use Rattle.bk_form.specs.Wider.{IsTypedRole}
use Rattle.bk_form.specs.Sized.{with_sizes, AreSizes}
use Rattle.bk_form.proofs.Sizing.{role-sized, well-sized, sizes_fit}
use Rattle.bk_seq.specs.Sequents.{Sequent, Types, IsValidSequent, IsValidForAllSizes, split}
use Rattle.bk_seq.specs.Laws.{SizesKeepSequents}
use Rattle.bk_seq.proofs.Widening.{validity_widens}
use Rattle.bk_seq.proofs.SplitValidity.{split_keeps_validity}

-- one for each set
pub one-each : ℕ → ℕ
one-each n = 1

pub ones-are-sizes : AreSizes one-each
unfolding one-each
ones-are-sizes n = omega arith

-- ---- what types
pub predicate-sized : (sizes : ℕ → ℕ) (table : Table) (p : Formula) → IsPredicate table p → IsPredicate (with_sizes sizes table) p
predicate-sized sizes table p h = role-sized sizes table [] p (subst IsTypedRole (sym h) tt) ∙ h

pub predicates-sized : (sizes : ℕ → ℕ) (table : Table) (ps : List Formula) → Each (IsPredicate table) ps → Each (IsPredicate (with_sizes sizes table)) ps
predicates-sized sizes table [] h = tt
predicates-sized sizes table (p ∷ ps) h = (predicate-sized sizes table p h.0, predicates-sized sizes table ps h.1)

pub types-sized : (sizes : ℕ → ℕ) (table : Table) (s : Sequent) → Types table s → Types (with_sizes sizes table) s
types-sized sizes table s h = (predicates-sized sizes table s.0 h.0, predicate-sized sizes table s.1 h.1)

-- ---- each of a list, for all sizes
pub each-at : (sizes : ℕ → ℕ) → AreSizes sizes → (table : Table) (ss : List Sequent) → Each (IsValidForAllSizes table) ss → Each (IsValidSequent (with_sizes sizes table)) ss
each-at sizes p table [] h = tt
each-at sizes p table (s ∷ ss) h = (h.0 sizes p, each-at sizes p table ss h.1)

pub each-for-all : (table : Table) (ss : List Sequent) → ((sizes : ℕ → ℕ) → AreSizes sizes → Each (IsValidSequent (with_sizes sizes table)) ss) → Each (IsValidForAllSizes table) ss
each-for-all table [] h = tt
each-for-all table (s ∷ ss) h = (λ sizes p. (h sizes p).0, each-for-all table ss (λ sizes p. (h sizes p).1))

pub sizes_keep_sequents : SizesKeepSequents
sizes_keep_sequents = record {
  types = types-sized;
  whole = λ table h s. (
    (λ v. subst (λ t. IsValidSequent t s) (sizes_fit.whole one-each table h) (v one-each ones-are-sizes)),
    (λ v sizes p. subst (λ t. IsValidSequent t s) (sym (sizes_fit.whole sizes table h)) v),
  );
  wider = λ small large well fine wider s types.
      let same = λ (sizes : ℕ → ℕ). validity_widens (with_sizes sizes small) (with_sizes sizes large) (well-sized sizes small well) (well-sized sizes large fine) (sizes_fit.wider sizes small large wider) s (types-sized sizes small s types) in (
        (λ v sizes p. (same sizes).0 (v sizes p)),
        (λ v sizes p. (same sizes).1 (v sizes p)),
      );
  split = λ table s. (
    (λ v. each-for-all table (split s.0 s.1) (λ sizes p. (split_keeps_validity (with_sizes sizes table) s.0 s.1).0 (v sizes p))),
    (λ v sizes p. (split_keeps_validity (with_sizes sizes table) s.0 s.1).1 (each-at sizes p table (split s.0 s.1) v)),
  );
}
