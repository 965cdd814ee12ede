-- A name that is found has the type that the table or its binder gives it.
use Rattle.std.proofs.Common.{◌≡◌, ℕ, suc, ◌+◌, List, [], ◌∷◌, refl, sym, ◌∙◌, ap, Bool, true, false, cond, arith}
use Rattle.std.specs.Prelude.{None, Some, slice_get}
use Rattle.std.specs.Str.{bytes_eq}
use Rattle.bk_val.specs.ValueType.{ValueType}
use Rattle.bk_form.specs.Table.{Table, lists_type}
use Rattle.bk_form.specs.Role.{gives, bound_role}
use Rattle.bk_raw.specs.Meaning.Names.{Names, Meaning, local, global, set_name, element_name, nothing, Sight, unseen, untyped_name, seen, sight, behind, found, Agree, MeaningAgrees}
use Rattle.bk_raw.specs.Meaning.RightReading.{IsOfType}

module _ (table : Table) (around : List ValueType) where
  abbrev pub IsRightSight : Sight → Type 0
  IsRightSight unseen = Unit {0}
  IsRightSight untyped_name = Unit {0}
  IsRightSight (seen f t) = IsOfType table around f t

  -- the bound variables that are left stand behind i others
  abbrev Behind : ℕ → List ValueType → Type 0
  Behind i us = (j : ℕ) → slice_get us j ≡ slice_get around (i + j)

  behind-next : (i : ℕ) (u : ValueType) (us : List ValueType) → Behind i (u ∷ us) → Behind (suc i) us
  behind-next i u us h j = h (suc j) ∙ ap (slice_get around) (omega arith)

  bound-seen : (i : ℕ) (u : ValueType) (us : List ValueType) (t : ValueType) → Behind i (u ∷ us) → u ≡ t → lists_type table t ≡ true → bound_role table (slice_get around i) ≡ gives t
  bound-seen i u us t h e l =
      let at : slice_get around i ≡ Some t = ap (slice_get around) (omega arith) ∙ sym (h 0) ∙ ap Some e in
      rw (at, l) refl

  module _ (text : List ℕ) where
    sight-right : (i : ℕ) (m : Meaning) (us : List ValueType) (later : List ValueType → Type 0) → Behind i us → MeaningAgrees table us m later → IsRightSight (sight i m)
    sight-right i (local None) us later b h = tt
    sight-right i (local (Some t)) [] later b h = absurd h
    sight-right i (local (Some t)) (u ∷ us) later b h = (bound-seen i u us t b h.0 h.1, h.1)
    sight-right i (global n None) us later b h = tt
    sight-right i (global n (Some t)) us later b h = (rw h.0 refl, h.1)
    sight-right i (set_name s) us later b h = (rw h.0 refl, h.0)
    sight-right i (element_name s e) us later b h = (rw h.0 refl, h.1)
    sight-right i nothing us later b h = tt

    found-in : (c : Bool) (i : ℕ) (m : Meaning) (other : Sight) → IsRightSight (sight i m) → IsRightSight other → IsRightSight (cond c (sight i m) other)
    found-in true i m other h k = h
    found-in false i m other h k = k

    abbrev Later : Names → Type 0
    Later ns = (i : ℕ) (us : List ValueType) → Behind i us → Agree table us ns → IsRightSight (found i ns text)

    found-later : (ns : Names) (next : Later ns) (i : ℕ) (m : Meaning) (us : List ValueType) → Behind i us → MeaningAgrees table us m (λ vs. Agree table vs ns) → IsRightSight (found (behind i m) ns text)
    found-later ns next i (local None) [] b h = absurd h
    found-later ns next i (local (Some t)) [] b h = absurd h
    found-later ns next i (local None) (u ∷ us) b h = next (suc i) us (behind-next i u us b) h
    found-later ns next i (local (Some t)) (u ∷ us) b h = next (suc i) us (behind-next i u us b) h.2
    found-later ns next i (global n None) us b h = next i us b h
    found-later ns next i (global n (Some t)) us b h = next i us b h.2
    found-later ns next i (set_name s) us b h = next i us b h.1
    found-later ns next i (element_name s e) us b h = next i us b h.2
    found-later ns next i nothing us b h = next i us b h

    found-from : (ns : Names) → Later ns
    found-from [] i us b h = tt
    found-from (n ∷ ns) i us b h = found-in (bytes_eq n.text text) i n.meaning (found (behind i n.meaning) ns text) (sight-right i n.meaning us (λ vs. Agree table vs ns) b h) (found-later ns (found-from ns) i n.meaning us b h)

    pub found-right : (names : Names) → Agree table around names → IsRightSight (found 0 names text)
    found-right names h = found-from names 0 around (λ j. ap (slice_get around) (omega arith)) h
