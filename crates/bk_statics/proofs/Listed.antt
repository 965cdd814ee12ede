-- The types that ways give have only sets of the table.
use Rattle.std.proofs.Common.{◌≡◌, ℕ, zero, suc, ◌+◌, ◌-◌, ◌<◌, ◌≤◌, List, [], ◌∷◌, length, refl, sym, ◌∙◌, ap, subst, Bool, true, false, cond, arith}
use Rattle.std.specs.Prelude.{Option, None, Some, nat_lt, slice_get, ℤ}
use Rattle.std.proofs.lemmas.Bool.Decides.{nat_tests}
use Rattle.bk_val.specs.ValueType.{ValueType}
use Rattle.bk_form.specs.Formula.{Formula}
use Rattle.bk_form.specs.Role.{bind}
use Rattle.bk_form.specs.Table.{Table, VariableEntry, variable_type, lists_type}
use Rattle.bk_raw.specs.Trees.RawTree.{RawTree, raw, raw_infix}
use Rattle.bk_raw.specs.Meaning.Names.{Names, Meaning, local, global, set_name, element_name, nothing, Agree}
use Rattle.bk_raw.specs.Meaning.Outcome.{ask_value, ask_domain}
use Rattle.bk_raw.specs.Meaning.Binders.{Bound, bound_names, inside, types_of, second, or_bool}
use Rattle.bk_raw.specs.Meaning.TermReading.{reading, clues, name_of}
use Rattle.bk_raw.specs.Meaning.RightReading.{Whenever}
use Rattle.bk_statics.specs.Settled.{IsSettled, StandsIn, AreOf}
use Rattle.bk_statics.specs.Typings.{Typing, typed, outcome_of}
use Rattle.bk_statics.specs.Ways.{Way, no_way, by_term, by_domain, by_conjuncts, same_as, bound_type, given_by, way_at, next_types, rounds, settled}
use Rattle.bk_raw.proofs.Asks.{Of, IsDomain, ask_value-right, ask_domain-right}
use Rattle.bk_raw.proofs.BindersRight.{Lists, AreListed, names-listed, told_by-listed, inside-agrees}
use Rattle.bk_raw.proofs.ReadingRight.{reading-right}
use Rattle.bk_statics.proofs.SubTypes.{names-agree, outcome-right}
use Rattle.bk_statics.specs.Components.{or_next}
use Rattle.bk_statics.specs.LevelOf.{entries_from}
use Rattle.bk_statics.specs.Sources.{IsWayOf, AreWaysOf, AreTold}

pub whenever-at : {A : Type 0} (P : A → Type 0) (o : Option A) (x : A) → Whenever P o → o ≡ Some x → P x
whenever-at P None x h e = absurd (cc)
whenever-at P (Some y) x h e = subst P (same y x e) h
  where
    same : {A : Type 0} (y x : A) → Some y ≡ Some x → y ≡ x
    same y x e = cc

pub whenever-all : {A : Type 0} (P : A → Type 0) (o : Option A) → ((x : A) → o ≡ Some x → P x) → Whenever P o
whenever-all P None f = tt
whenever-all P (Some x) f = f x refl

module _ (int_max : ℤ) (table : Table) where
  clues-listed : (t : RawTree) (names : Names) (bs : List Bound) → Agree table [] names → AreListed table bs → AreListed table (clues int_max names bs t)
  clues-listed (raw at (raw_infix o a d)) names bs h l =
      told_by-listed table (bind (types_of bs) []) o bs (name_of a) (clues int_max names (clues int_max names bs a) d) (reading int_max (inside bs names) d).outcome l
      (clues-listed d names (clues int_max names bs a) h (clues-listed a names bs h l))
      (reading-right int_max table d (inside bs names) (bind (types_of bs) []) (inside-agrees table bs [] names l h))
  clues-listed (raw at _) names bs h l = l

  bound-listed : (bs : List Bound) (i : ℕ) → AreListed table bs → Whenever (Lists table) (bound_type (slice_get bs i))
  bound-listed [] i h = tt
  bound-listed (b ∷ bs) zero h = h.0
  bound-listed (b ∷ bs) (suc i) h = bound-listed bs i h.1

  value-listed : (o : Option (Formula × ValueType)) → Whenever (λ p. Of table [] p.0 p.1) o → Whenever (Lists table) (second o)
  value-listed None h = tt
  value-listed (Some p) h = h.1

  domain-listed : (o : Option (Formula × ValueType)) → Whenever (IsDomain table []) o → Whenever (Lists table) (second o)
  domain-listed None h = tt
  domain-listed (Some p) h = h.listed

  pub way-listed : (typing : Typing) → IsSettled table typing → (w : Way) → IsWayOf table w → Whenever (Lists table) (given_by int_max typing w)
  way-listed typing k no_way h = tt
  way-listed typing k (by_term names e) h = let o = (outcome_of int_max typing names e) in value-listed (ask_value 0 o).answer (ask_value-right table [] 0 o (outcome-right int_max table typing k names false e h))
  way-listed typing k (by_domain names e) h = let o = (outcome_of int_max typing names e) in domain-listed (ask_domain 0 o).answer (ask_domain-right table [] 0 o (outcome-right int_max table typing k names false e h))
  way-listed typing k (by_conjuncts names xs i p) h = bound-listed (clues int_max (typed typing names) (bound_names xs) p) i (clues-listed p (typed typing names) (bound_names xs) (names-agree int_max table typing k names h) (names-listed table xs))
  way-listed typing k (same_as m) h = whenever-all (Lists table) (typing m) (k.listed m)

-- ---- a table for types that are told
abbrev blanks : ℕ → List (List ℕ)
blanks zero = []
blanks (suc n) = [] ∷ blanks n

blanks-count : (n : ℕ) → length (blanks n) ≡ n
blanks-count zero = refl
blanks-count (suc n) = ap suc (blanks-count n)

abbrev pub of_entry : Option VariableEntry → Option ValueType
of_entry None = None
of_entry (Some v) = Some v.of_type

pub entry-type : (typing : Typing) (m : ℕ) (xs : List (List ℕ)) (i : ℕ) → i < length xs → of_entry (slice_get (entries_from typing m xs) i) ≡ Some (or_bool (typing (m + i)))
entry-type typing m [] i h = absurd (omega arith)
entry-type typing m (x ∷ xs) zero h = let e : m ≡ m + 0 = omega arith in ap (λ k. Some (or_bool (typing k))) e
entry-type typing m (x ∷ xs) (suc i) h = let e : suc m + i ≡ m + suc i = omega arith in entry-type typing (suc m) xs i (omega arith) ∙ ap (λ k. Some (or_bool (typing k))) e

abbrev table_for : Table → ℕ → Typing → Table
table_for table top typing = record { sets = table.sets; variables = entries_from typing 0 (blanks top) }

pub variable-entry : (t : Table) (n : ℕ) → variable_type t n ≡ of_entry (slice_get t.variables n)
variable-entry t n = option-map (slice_get t.variables n)
  where
    option-map : (o : Option VariableEntry) → Rattle.std.specs.Option.option_map (λ v. v.of_type) o ≡ of_entry o
    option-map None = refl
    option-map (Some v) = refl

told-settled : (table : Table) (top : ℕ) (typing : Typing) → AreTold table top typing → IsSettled (table_for table top typing) typing
told-settled table top typing h = record {
  types = λ n t e. variable-entry (table_for table top typing) n ∙ (entry-type typing 0 (blanks top) n (subst (λ k. n < k) (sym (blanks-count top)) (h.below n t e)) ∙ ap Some (at-zero n t e));
  listed = h.listed;
}
  where
    at-zero : (n : ℕ) (t : ValueType) → typing n ≡ Some t → or_bool (typing (0 + n)) ≡ t
    at-zero n t e = let z : 0 + n ≡ n = omega arith in ap (λ k. or_bool (typing k)) z ∙ ap or_bool e

-- ---- names of one table are names of another with the same sets
stands-same : (table : Table) (vs : List VariableEntry) (m : Meaning) → StandsIn table m → StandsIn (record { sets = table.sets; variables = vs }) m
stands-same table vs (local t) h = h
stands-same table vs (global n t) h = h
stands-same table vs (set_name s) h = h
stands-same table vs (element_name s e) h = h
stands-same table vs nothing h = h

pub names-same : (table : Table) (vs : List VariableEntry) (names : Names) → AreOf table names → AreOf (record { sets = table.sets; variables = vs }) names
names-same table vs [] h = tt
names-same table vs (n ∷ ns) h = (stands-same table vs n.meaning h.0, names-same table vs ns h.1)

way-same : (table : Table) (vs : List VariableEntry) (w : Way) → IsWayOf table w → IsWayOf (record { sets = table.sets; variables = vs }) w
way-same table vs no_way h = tt
way-same table vs (by_term names e) h = names-same table vs names h
way-same table vs (by_domain names e) h = names-same table vs names h
way-same table vs (by_conjuncts names xs i p) h = names-same table vs names h
way-same table vs (same_as m) h = tt

-- ---- rounds
way-of : (table : Table) (ws : List Way) (i : ℕ) → AreWaysOf table ws → IsWayOf table (way_at ws i)
way-of table [] i h = tt
way-of table (w ∷ ws) zero h = h.0
way-of table (w ∷ ws) (suc i) h = way-of table ws i h.1

either-way : (P : Option ValueType → Type 0) (c : Bool) (a b : Option ValueType) → (c ≡ true → P a) → P b → P (cond c a b)
either-way P true a b f h = f refl
either-way P false a b f h = h

either-next : (P : Option ValueType → Type 0) (a b : Option ValueType) → P a → P b → P (or_next a b)
either-next P None b h k = k
either-next P (Some t) b h k = h

next-told : (int_max : ℤ) (table : Table) (top n : ℕ) (ws : List Way) (typing : Typing) → AreWaysOf table ws → n + length ws ≤ top → AreTold table top typing → AreTold table top (next_types int_max n ws typing)
next-told int_max table top n ws typing h l k = record { listed = λ m t e. (all m t e).0; below = λ m t e. (all m t e).1 }
  where
    Told : ℕ → Option ValueType → Type 0
    Told m o = (t : ValueType) → o ≡ Some t → (lists_type table t ≡ true) × (m < top)

    before : (m : ℕ) → Told m (typing m)
    before m t e = (k.listed m t e, k.below m t e)

    given : (m : ℕ) → nat_lt m (n + length ws) ≡ true → Told m (given_by int_max typing (way_at ws (m - n)))
    given m c t e =
        let inside : m < n + length ws = grind (arith, nat_tests) in
        (whenever-at (Lists table) (given_by int_max typing (way_at ws (m - n))) t (way-listed int_max (table_for table top typing) typing (told-settled table top typing k) (way_at ws (m - n)) (way-same table (entries_from typing 0 (blanks top)) (way_at ws (m - n)) (way-of table ws (m - n) h))) e, omega arith)

    all : (m : ℕ) → Told m (next_types int_max n ws typing m)
    all m = either-way (Told m) (nat_lt m n) (typing m) (cond (nat_lt m (n + length ws)) (or_next (typing m) (given_by int_max typing (way_at ws (m - n)))) (typing m)) (λ c. before m) (either-way (Told m) (nat_lt m (n + length ws)) (or_next (typing m) (given_by int_max typing (way_at ws (m - n)))) (typing m) (λ c. either-next (Told m) (typing m) (given_by int_max typing (way_at ws (m - n))) (before m) (given m c)) (before m))

rounds-told : (int_max : ℤ) (table : Table) (top n : ℕ) (ws : List Way) (typing : Typing) (c : ℕ) → AreWaysOf table ws → n + length ws ≤ top → AreTold table top typing → AreTold table top (rounds c int_max n ws typing)
rounds-told int_max table top n ws typing zero h l k = k
rounds-told int_max table top n ws typing (suc c) h l k = next-told int_max table top n ws (rounds c int_max n ws typing) h l (rounds-told int_max table top n ws typing c h l k)

pub settled-told : (int_max : ℤ) (table : Table) (top n : ℕ) (ws : List Way) (typing : Typing) → AreWaysOf table ws → n + length ws ≤ top → AreTold table top typing → AreTold table top (settled int_max n ws typing)
settled-told int_max table top n ws typing h l k = rounds-told int_max table top n ws typing (length ws) h l k
