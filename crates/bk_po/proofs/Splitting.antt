-- What valid sequents say of the formulas that they were taken from.
use Rattle.std.proofs.Common.{◌≡◌, ◌<◌, ℕ, suc, List, [], ◌∷◌, ◌++◌, length, refl, Bool, true, false, not, cond}
use Rattle.std.specs.List.{filter}
use Rattle.bk_form.specs.Table.{Table}
use Rattle.bk_form.specs.Formula.{Formula, binary, btrue}
use Rattle.bk_form.specs.Search.{Finder, IsSearch}
use Rattle.bk_form.specs.Environment.{State, IsTypedState, at_state}
use Rattle.bk_form.specs.declared.operator.BinOp.TheVariants.{And, Imp}
use Rattle.bk_form.proofs.Members.{and-both}
use Rattle.bk_gsl.specs.State.{holds}
use Rattle.bk_dev.specs.Development.{Development, is_btrue}
use Rattle.bk_form.specs.Predicates.{AllHold, conjuncts}
use Rattle.bk_form.specs.Each.{Each}
use Rattle.bk_bind.specs.Valid.{IsValid}
use Rattle.bk_wp.proofs.Steps.{implies-if}
use Rattle.bk_dev.proofs.Agree.{both-true}
use Rattle.bk_form.proofs.Conjuncts.{true-append, parts-true}
use Rattle.bk_seq.specs.Sequents.{Sequent, split}
use Rattle.bk_po.specs.declared.clause.Clause.{Clause}
use Rattle.bk_po.specs.Obligations.{Obligation, numbered_from, numbered_sequents, AreValid, joined_onto, joined_all, conjunction, numbers_below, clauses_of, obligation_of, level_obligations, flat_obligations}
use Rattle.bk_po.proofs.Lists.{each-first, each-second, each-flat, each-map, each-so, each-below}
use Rattle.bk_po.proofs.Clauses.{Stands, of-clauses}

-- ---- sequents
abbrev pub IsSound : Table → Sequent → Type 0
IsSound table s = IsValid table s.0 s.1

abbrev pub IsMet : Table → Obligation → Type 0
IsMet table o = Each (IsSound table) (split o.hypotheses o.goal)

abbrev pub IsNumberedSound : Table → List ℕ × Sequent → Type 0
IsNumberedSound table s = IsValid table s.1.0 s.1.1

unnumbered : (table : Table) (k : ℕ) (name : List ℕ) (ss : List Sequent) → Each (IsNumberedSound table) (numbered_from k name ss) → Each (IsSound table) ss
unnumbered table k name [] h = tt
unnumbered table k name (s ∷ ss) h = (h.0, unnumbered table (suc k) name ss h.1)

all-met : (table : Table) (os : List Obligation) → AreValid table (numbered_sequents os) → Each (IsMet table) os
all-met table os h = each-so (λ o. Each (IsNumberedSound table) (numbered_from 1 o.name (split o.hypotheses o.goal))) (IsMet table) os (λ o v. unnumbered table 1 o.name (split o.hypotheses o.goal) v) (each-flat (IsNumberedSound table) (λ o. numbered_from 1 o.name (split o.hypotheses o.goal)) os h)

-- the obligation of each clause of a level
pub clause-met : (dev : Development) → AreValid dev.table (numbered_sequents (flat_obligations dev)) → (k : ℕ) → k < length dev.levels → (c : Clause) → Stands dev k c → IsMet dev.table (obligation_of dev k c)
clause-met dev valid k l c s =
    let met = all-met dev.table (flat_obligations dev) valid in
    let level = each-below (λ j. Each (IsMet dev.table) (level_obligations dev j)) (length dev.levels) (each-flat (IsMet dev.table) (level_obligations dev) (numbers_below (length dev.levels)) met) k l in
    of-clauses dev k (λ c. IsMet dev.table (obligation_of dev k c)) (each-map (IsMet dev.table) (obligation_of dev k) (clauses_of dev k) level) c s

module _ (find : Finder) (law : IsSearch find) (table : Table) (e : State) (typed : IsTypedState table e) where
  pub split-holds : (hyps : List Formula) (p : Formula) → Each (IsSound table) (split hyps p) → AllHold find (at_state table e) hyps → holds find table e p ≡ true
  split-holds hyps (binary And p q) v h = both-true (holds find table e p) (holds find table e q) (split-holds hyps p (each-first (IsSound table) (split hyps p) (split hyps q) v) h) (split-holds hyps q (each-second (IsSound table) (split hyps p) (split hyps q) v) h)
  split-holds hyps (binary Imp p q) v h = implies-if (holds find table e p) (holds find table e q) (λ k. split-holds (hyps ++ conjuncts p) q v (true-append find (at_state table e) hyps (conjuncts p) h (parts-true find (at_state table e) p k)))
  split-holds hyps btrue v h = refl
  split-holds hyps p v h = v.0 find law e typed h

-- ---- conjunctions
module _ (find : Finder) (table : Table) (e : State) where
  onto-true : (p : Formula) (qs : List Formula) → holds find table e (joined_onto p qs) ≡ true → AllHold find (at_state table e) (p ∷ qs)
  onto-true p [] h = (h, tt)
  onto-true p (q ∷ qs) h =
      let w = onto-true (binary And p q) qs h in
      let both = and-both (holds find table e p) (holds find table e q) w.0 in
      (both.0, (both.1, w.1))

  all-true : (ps : List Formula) → holds find table e (joined_all ps) ≡ true → AllHold find (at_state table e) ps
  all-true [] h = tt
  all-true (p ∷ ps) h = onto-true p ps h

  btrue-holds : (p : Formula) → is_btrue p ≡ true → holds find table e p ≡ true
  btrue-holds btrue h = refl
  btrue-holds p h = absurd (cc)

  unfiltered : (ps : List Formula) → AllHold find (at_state table e) (filter (λ p. not (is_btrue p)) ps) → AllHold find (at_state table e) ps
  unfiltered [] h = tt
  unfiltered (p ∷ ps) h = by_test (unfiltered ps) (is_btrue p) refl h
    where
      by_test : (AllHold find (at_state table e) (filter (λ p. not (is_btrue p)) ps) → AllHold find (at_state table e) ps) → (b : Bool) → is_btrue p ≡ b → AllHold find (at_state table e) (cond (not b) (p ∷ filter (λ p. not (is_btrue p)) ps) (filter (λ p. not (is_btrue p)) ps)) → AllHold find (at_state table e) (p ∷ ps)
      by_test rest true k h = (btrue-holds p k, rest h)
      by_test rest false k h = (h.0, rest h.1)

  pub conjunction-true : (ps : List Formula) → holds find table e (conjunction ps) ≡ true → AllHold find (at_state table e) ps
  conjunction-true ps h = unfiltered ps (all-true (filter (λ p. not (is_btrue p)) ps) h)
