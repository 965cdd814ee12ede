-- What holds of each clause of a component.
use Rattle.std.proofs.Common.{◌≡◌, ◌<◌, ℕ, List, [], ◌∷◌, ◌++◌, map, length, refl, subst, Bool, true, false, cond}
use Rattle.bk_form.specs.Each.{Each}
use Rattle.bk_dev.specs.Development.{Development, level_at, is_implementation}
use Rattle.bk_po.specs.declared.clause.Clause.{Clause}
use Rattle.bk_po.specs.declared.clause.Clause.TheVariants.{PropertiesDefined, ValuesMeet, InvariantDefined, AssertionsDefined, AssertionsHold, Initialisation, InitialisationDefined, Operation, OperationDefined}
use Rattle.bk_po.specs.Obligations.{numbers_below, clauses_of}
use Rattle.bk_po.specs.Supposed.{FitsClause}
use Rattle.bk_po.proofs.Lists.{append-each, map-each, below-each, each-first, each-second, each-map, each-below}

-- the component has it: VALUES stands at an implementation alone, and a clause of an operation where that stands
abbrev pub Stands : Development → ℕ → Clause → Type 0
Stands dev k ValuesMeet = is_implementation (level_at dev k) ≡ true
Stands dev k (Operation o) = o < length dev.heads
Stands dev k (OperationDefined o) = o < length dev.heads
Stands dev k _ = Unit {0}

module _ (dev : Development) (k : ℕ) (P : Clause → Type 0) where
  abbrev numbers : List ℕ
  numbers = numbers_below (length dev.heads)

  abbrev values : List Clause
  values = cond (is_implementation (level_at dev k)) (ValuesMeet ∷ []) []

  abbrev begins : List Clause
  begins = PropertiesDefined ∷ [] ++ values

  abbrev middle : List Clause
  middle = InvariantDefined ∷ AssertionsDefined ∷ AssertionsHold ∷ Initialisation ∷ InitialisationDefined ∷ []

  abbrev operations : List Clause
  operations = map Operation numbers

  abbrev conditions : List Clause
  conditions = map OperationDefined numbers

  -- what is so of each in the list is so of each that stands
  pub of-clauses : Each P (clauses_of dev k) → (c : Clause) → Stands dev k c → P c
  of-clauses h c s =
      let front : Each P (begins ++ middle ++ operations) = each-first P (begins ++ middle ++ operations) conditions h in
      let stated : Each P (begins ++ middle) = each-first P (begins ++ middle) operations front in
      let first : Each P begins = each-first P begins middle stated in
      let second : Each P middle = each-second P begins middle stated in
      let each : Each P operations = each-second P (begins ++ middle) operations front in
      let last : Each P conditions = each-second P (begins ++ middle ++ operations) conditions h in
      by_clause first second (each-map P Operation numbers each) (each-map P OperationDefined numbers last) c s
    where
      by_clause : Each P begins → Each P middle → Each (λ o. P (Operation o)) numbers → Each (λ o. P (OperationDefined o)) numbers → (c : Clause) → Stands dev k c → P c
      by_clause first second each last PropertiesDefined s = first.0
      by_clause first second each last ValuesMeet s = (subst (λ b. Each P (cond b (ValuesMeet ∷ []) [])) s first.1).0
      by_clause first second each last InvariantDefined s = second.0
      by_clause first second each last AssertionsDefined s = second.1.0
      by_clause first second each last AssertionsHold s = second.1.1.0
      by_clause first second each last Initialisation s = second.1.1.1.0
      by_clause first second each last InitialisationDefined s = second.1.1.1.1.0
      by_clause first second each last (Operation o) s = each-below (λ o. P (Operation o)) (length dev.heads) each o s
      by_clause first second each last (OperationDefined o) s = each-below (λ o. P (OperationDefined o)) (length dev.heads) last o s

  -- and what is so of each that stands is so of each in the list
  pub each-clause : ((c : Clause) → Stands dev k c → P c) → Each P (clauses_of dev k)
  each-clause h =
      let first : Each P begins = (h PropertiesDefined tt, at_values (is_implementation (level_at dev k)) refl) in
      let second : Each P middle = (h InvariantDefined tt, (h AssertionsDefined tt, (h AssertionsHold tt, (h Initialisation tt, (h InitialisationDefined tt, tt))))) in
      let each : Each P operations = map-each P Operation numbers (below-each (λ o. P (Operation o)) (length dev.heads) (λ o l. h (Operation o) l)) in
      let last : Each P conditions = map-each P OperationDefined numbers (below-each (λ o. P (OperationDefined o)) (length dev.heads) (λ o l. h (OperationDefined o) l)) in
      append-each P (begins ++ middle ++ operations) conditions (append-each P (begins ++ middle) operations (append-each P begins middle first second) each) last
    where
      at_values : (b : Bool) → is_implementation (level_at dev k) ≡ b → Each P (cond b (ValuesMeet ∷ []) [])
      at_values true q = (h ValuesMeet q, tt)
      at_values false q = tt

-- the clauses of operations are those of operations that stand
pub clauses_fit : (dev : Development) (k : ℕ) → Each (FitsClause dev) (clauses_of dev k)
clauses_fit dev k = each-clause dev k (FitsClause dev) fits
  where
    fits : (c : Clause) → Stands dev k c → FitsClause dev c
    fits PropertiesDefined s = tt
    fits ValuesMeet s = tt
    fits InvariantDefined s = tt
    fits AssertionsDefined s = tt
    fits AssertionsHold s = tt
    fits Initialisation s = tt
    fits InitialisationDefined s = tt
    fits (Operation o) s = s
    fits (OperationDefined o) s = s
