-- The types that sources give have only sets of the table.
use Rattle.std.proofs.Common.{◌≡◌, ℕ, zero, suc, ◌+◌, ◌<◌, ◌≤◌, List, [], ◌∷◌, length, refl, sym, ◌∙◌, ap, subst, Bool, true, false, cond, arith, nat_eq}
use Rattle.std.specs.Prelude.{Option, None, Some, ℤ}
use Rattle.std.specs.Str.{bytes_eq}
use Rattle.std.proofs.lemmas.Bool.Decides.{nat_tests}
use Rattle.bk_val.specs.ValueType.{ValueType}
use Rattle.bk_form.specs.Each.{Each}
use Rattle.bk_form.specs.Formula.{Formula}
use Rattle.bk_form.specs.Role.{bind}
use Rattle.bk_form.specs.Table.{Table, VariableEntry, lists_type}
use Rattle.bk_raw.specs.Trees.RawTree.{RawTree, raw, raw_infix}
use Rattle.bk_raw.specs.Meaning.Names.{Names, Agree}
use Rattle.bk_raw.specs.Meaning.Outcome.{ask_value, ask_domain}
use Rattle.bk_raw.specs.Meaning.Binders.{Bound, bound_names, inside, types_of, second, or_bool}
use Rattle.bk_raw.specs.Meaning.TermReading.{reading, clues, name_of}
use Rattle.bk_raw.specs.Meaning.RightReading.{Whenever}
use Rattle.bk_raw.proofs.Asks.{Right, Of, IsDomain, ask_value-right, ask_domain-right}
use Rattle.bk_raw.proofs.BindersRight.{Lists, AreListed, names-listed, told_by-listed, inside-agrees}
use Rattle.bk_raw.proofs.ReadingRight.{reading-right}
use Rattle.bk_statics.specs.Typings.{Typing, Target, unknown, no_variable, variable_target, typed, type_at}
use Rattle.bk_statics.specs.Settled.{IsSettled}
use Rattle.bk_statics.specs.LevelOf.{entries_from}
use Rattle.bk_statics.specs.Sources.{AreTold}
use Rattle.bk_statics.proofs.SubTypes.{names-agree}
use Rattle.bk_statics.proofs.Listed.{whenever-all, entry-type, variable-entry, names-same}
use Rattle.bk_phases.specs.Symbols.{Source, no_source, from_value, from_domain, from_conjunct, from_name, Symbol}
use Rattle.bk_phases.specs.Types.{Types, outcome_of, type_among, given, with_one, typed_by, round, repeated}
use Rattle.bk_phases.specs.Laws.{IsSourceOf}

module _ (int_max : ℤ) (table : Table) where
  clues-listed : (t : RawTree) (names : Names) (bs : List Bound) → Agree table [] names → AreListed table bs → AreListed table (clues int_max names bs t)
  clues-listed (raw at (raw_infix o a d)) names bs h l =
      told_by-listed table (bind (types_of bs) []) o bs (name_of a) (clues int_max names (clues int_max names bs a) d) (reading int_max (inside bs names) d).outcome l
      (clues-listed d names (clues int_max names bs a) h (clues-listed a names bs h l))
      (reading-right int_max table d (inside bs names) (bind (types_of bs) []) (inside-agrees table bs [] names l h))
  clues-listed (raw at _) names bs h l = l

module _ (table : Table) where
  either-listed : (c : Bool) (a b : Option ValueType) → Whenever (Lists table) a → Whenever (Lists table) b → Whenever (Lists table) (cond c a b)
  either-listed true a b h k = h
  either-listed false a b h k = k

  among-listed : (bs : List Bound) (x : List ℕ) → AreListed table bs → Whenever (Lists table) (type_among bs x)
  among-listed [] x h = tt
  among-listed (b ∷ bs) x h = either-listed (bytes_eq b.text x) b.of_type (type_among bs x) h.0 (among-listed bs x h.1)

  value-listed : (o : Option (Formula × ValueType)) → Whenever (λ p. Of table [] p.0 p.1) o → Whenever (Lists table) (second o)
  value-listed None h = tt
  value-listed (Some p) h = h.1

  domain-listed : (o : Option (Formula × ValueType)) → Whenever (IsDomain table []) o → Whenever (Lists table) (second o)
  domain-listed None h = tt
  domain-listed (Some p) h = h.listed

  target-listed : (typing : Typing) → IsSettled table typing → (x : Target) → Whenever (Lists table) (type_at typing x)
  target-listed typing k (variable_target n) = whenever-all (Lists table) (typing n) (k.listed n)
  target-listed typing k unknown = tt
  target-listed typing k no_variable = tt

  source-listed : (types : Types) → IsSettled table types.of → (s : Source) → IsSourceOf table s → Whenever (Lists table) (given types s)
  source-listed types k no_source h = tt
  source-listed types k (from_value e) h =
      let o = outcome_of types e in
      let right : Right table [] o = reading-right types.max table e.tree (typed types.of e.names) [] (names-agree types.max table types.of k e.names h) in
      value-listed (ask_value 0 o).answer (ask_value-right table [] 0 o right)
  source-listed types k (from_domain e) h =
      let o = outcome_of types e in
      let right : Right table [] o = reading-right types.max table e.tree (typed types.of e.names) [] (names-agree types.max table types.of k e.names h) in
      domain-listed (ask_domain 0 o).answer (ask_domain-right table [] 0 o right)
  source-listed types k (from_conjunct xs x p) h =
      among-listed (clues types.max (typed types.of p.names) (bound_names xs) p.tree) x.text
      (clues-listed types.max table p.tree (typed types.of p.names) (bound_names xs) (names-agree types.max table types.of k p.names h) (names-listed table xs))
  source-listed types k (from_name x) h = target-listed types.of k x

-- ---- a table for the types so far
abbrev blanks : ℕ → List (List ℕ)
blanks zero = []
blanks (suc n) = [] ∷ blanks n

blanks-count : (n : ℕ) → length (blanks n) ≡ n
blanks-count zero = refl
blanks-count (suc n) = ap suc (blanks-count n)

abbrev table_for : Table → ℕ → Typing → Table
table_for table top typing = record { sets = table.sets; variables = entries_from typing 0 (blanks top) }

told-settled : (table : Table) (top : ℕ) (typing : Typing) → AreTold table top typing → IsSettled (table_for table top typing) typing
told-settled table top typing h = record {
  types = λ n t e. variable-entry (table_for table top typing) n ∙ (entry-type typing 0 (blanks top) n (subst (λ k. n < k) (sym (blanks-count top)) (h.below n t e)) ∙ ap Some (at-zero n t e));
  listed = h.listed;
}
  where
    at-zero : (n : ℕ) (t : ValueType) → typing n ≡ Some t → or_bool (typing (0 + n)) ≡ t
    at-zero n t e = let z : 0 + n ≡ n = omega arith in ap (λ k. or_bool (typing k)) z ∙ ap or_bool e

source-same : (table : Table) (vs : List VariableEntry) (s : Source) → IsSourceOf table s → IsSourceOf (record { sets = table.sets; variables = vs }) s
source-same table vs no_source h = tt
source-same table vs (from_value e) h = names-same table vs e.names h
source-same table vs (from_domain e) h = names-same table vs e.names h
source-same table vs (from_conjunct xs x p) h = names-same table vs p.names h
source-same table vs (from_name x) h = tt

-- ---- a step, and rounds
same-number : (m n : ℕ) → nat_eq m n ≡ true → m ≡ n
same-number m n e = grind (arith, nat_tests)

below-same : (m n top : ℕ) → m ≡ n → n < top → m < top
below-same m n top e b = omega arith

one-type : (t u : ValueType) → Some t ≡ Some u → t ≡ u
one-type t u f = cc

module _ (table : Table) (top : ℕ) where
  abbrev Told : Types → Type 0
  Told types = AreTold table top types.of

  abbrev TypeTold : ℕ → Option ValueType → Type 0
  TypeTold m o = (t : ValueType) → o ≡ Some t → (lists_type table t ≡ true) × (m < top)

  either-told : (m n : ℕ) (t : ValueType) (o : Option ValueType) (c : Bool) → nat_eq m n ≡ c → lists_type table t ≡ true → n < top → TypeTold m o → TypeTold m (cond c (Some t) o)
  either-told m n t o false e l b h = h
  either-told m n t o true e l b h = λ u f. (subst (λ v. lists_type table v ≡ true) (one-type t u f) l, below-same m n top (same-number m n e) b)

  one-told : (n : ℕ) (o : Option ValueType) (types : Types) → Whenever (Lists table) o → n < top → Told types → Told (with_one n o types)
  one-told n None types h b k = k
  one-told n (Some t) types h b k = record { listed = λ m u e. (all m u e).0; below = λ m u e. (all m u e).1 }
    where
      all : (m : ℕ) → TypeTold m (cond (nat_eq m n) (Some t) (types.of m))
      all m = either-told m n t (types.of m) (nat_eq m n) refl h b (λ u e. (k.listed m u e, k.below m u e))

  given-told : (s : Source) (types : Types) → IsSourceOf table s → Told types → Whenever (Lists table) (given types s)
  given-told s types h k = source-listed (table_for table top types.of) types (told-settled table top types.of k) s (source-same table (entries_from types.of 0 (blanks top)) s h)

  step-told : (n : ℕ) (s : Source) (o : Option ValueType) (types : Types) → IsSourceOf table s → n < top → Told types → Told (typed_by n s o types)
  step-told n s (Some t) types h b k = k
  step-told n s None types h b k = one-told n (given types s) types (given-told s types h k) b k

  round-told : (n : ℕ) (ss : List Symbol) (types : Types) → Each (λ (s : Symbol). IsSourceOf table s.source) ss → n + length ss ≤ top → Told types → Told (round n ss types)
  round-told n [] types h b k = k
  round-told n (s ∷ ss) types h b k = round-told (suc n) ss (typed_by n s.source (types.of n) types) h.1 (omega arith) (step-told n s.source (types.of n) types h.0 (omega arith) k)

  repeated-told : (c n : ℕ) (ss : List Symbol) (types : Types) → Each (λ (s : Symbol). IsSourceOf table s.source) ss → n + length ss ≤ top → Told types → Told (repeated c (round n ss) types)
  repeated-told zero n ss types h b k = k
  repeated-told (suc c) n ss types h b k = repeated-told c n ss (round n ss types) h b (round-told n ss types h b k)

pub rounds-told : (table : Table) (top n c : ℕ) (ss : List Symbol) (types : Types) → Each (λ (s : Symbol). IsSourceOf table s.source) ss → n + length ss ≤ top → AreTold table top types.of → AreTold table top (repeated c (round n ss) types).of
rounds-told table top n c ss types h b k = repeated-told table top c n ss types h b k
