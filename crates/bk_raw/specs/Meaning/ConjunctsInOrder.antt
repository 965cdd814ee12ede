-- How conjuncts give bound names their types and ranges: from left to right, the first that fits. That a name of a comprehension or a
-- lambda has its range from its first conjunct is this project's own reading of the B Language Reference Manual.
use Rattle.std.specs.Prelude.{◌≡◌, ℕ, ℤ, suc, Bool, true, false, List, [], ◌∷◌, Option, None, Some}
use Rattle.std.specs.Str.{bytes_eq}
use Rattle.bk_val.specs.ValueType.{ValueType}
use Rattle.bk_form.specs.Formula.{Formula}
use Rattle.bk_raw.specs.declared.operator.InfixOp.{InfixOp}
use Rattle.bk_raw.specs.declared.operator.InfixOp.TheVariants.{Equal, Member}
use Rattle.bk_raw.specs.declared.term.RawName.{RawName}
use Rattle.bk_raw.specs.Trees.RawTree.{RawTree, raw, raw_infix}
use Rattle.bk_raw.specs.Trees.FreeNames.{conjuncts}
use Rattle.bk_raw.specs.Meaning.Names.{Names}
use Rattle.bk_raw.specs.Meaning.Outcome.{Outcome, Reading, ask_value, ask_set}
use Rattle.bk_raw.specs.Meaning.Binders.{Bound, twice, Ranged, unranged, as_single, is_used, left_over}
use Rattle.bk_raw.specs.Meaning.TermReading.{part, name_of, names_one, reading, clues, ranges, rest}
use Rattle.bk_raw.specs.Meaning.GivesTakes.{expression}

-- ---- types
-- the types that these conjuncts give to bound names, one after another
abbrev pub typed_in_order : ℤ → Names → List Bound → List RawTree → List Bound
typed_in_order max names bs [] = bs
typed_in_order max names bs (c ∷ cs) = typed_in_order max names (clues max names bs c) cs

-- ---- ranges
-- the answer, where the test holds
abbrev pub where_named : Bool → Option (Formula × ValueType) → Option (Formula × ValueType)
where_named true r = r
where_named false r = None

-- the range that y o D gives to the name x: D itself where it is a set value, for = the set {D} where D gives a type; none where D
-- names a bound name
abbrev pub range_of : InfixOp → Option (List ℕ) → List ℕ → Bool → Outcome → Option (Formula × ValueType)
range_of Member (Some y) x false d = where_named (bytes_eq x y) (ask_set 0 d).answer
range_of Equal (Some y) x false d = where_named (bytes_eq x y) (as_single (ask_value 0 d).answer)
range_of _ y x c d = None

-- the range that a conjunct gives to the name x, where `all` are the bound names
abbrev pub range_given : ℤ → Names → List RawName → List ℕ → RawTree → Option (Formula × ValueType)
range_given max names all x (raw at (raw_infix o a d)) = range_of o (name_of a) x (names_one all d) (expression max names d)
range_given max names all x _ = None

-- the first of two that is there; the first with the number of its conjunct
abbrev pub first_of : Option (Formula × ValueType × ℕ) → Option (Formula × ValueType × ℕ) → Option (Formula × ValueType × ℕ)
first_of (Some r) s = Some r
first_of None s = s

-- a range that was found, with the number of its conjunct
abbrev pub with_number : ℕ → Option (Formula × ValueType) → Option (Formula × ValueType × ℕ)
with_number i None = None
with_number i (Some d) = Some (d.0, d.1, i)

-- the range of the first of these conjuncts that gives one to x, with its number, the first having the number i
abbrev pub first_given : ℤ → Names → List RawName → List ℕ → ℕ → List RawTree → Option (Formula × ValueType × ℕ)
first_given max names all x i [] = None
first_given max names all x i (c ∷ cs) = first_of (with_number i (range_given max names all x c)) (first_given max names all x (suc i) cs)

-- each of the names with the range that the first of the conjuncts gives it
abbrev pub ranged_first : ℤ → Names → List RawName → List RawTree → List RawName → List Ranged
ranged_first max names all cs [] = []
ranged_first max names all cs (x ∷ xs) =
    record { text = x.text; at = x.at; range = first_given max names all x.text 0 cs } ∷ ranged_first max names all cs xs

-- the conjuncts that gave no range, in order, joined to the left after those before
abbrev pub left_in_order : ℤ → Names → List Ranged → ℕ → Option Reading → List RawTree → Option Reading
left_in_order max names rs i before [] = before
left_in_order max names rs i before (c ∷ cs) =
    left_in_order max names rs (suc i) (left_over (is_used i rs) before (part true c (reading max names c))) cs

-- types are given conjunct by conjunct; each name of a comprehension or lambda, none standing twice, has the range of the first conjunct
-- that gives it one; and the body is the other conjuncts, in order, joined to the left
pub record ConjunctsInOrder : Type 0 where
  pub types : (max : ℤ) (names : Names) (bs : List Bound) (p : RawTree) → clues max names bs p ≡ typed_in_order max names bs (conjuncts p)
  pub first : (max : ℤ) (names : Names) (xs : List RawName) (p : RawTree) → twice [] xs ≡ [] →
      ranges max names xs 0 (unranged xs) p ≡ ranged_first max names xs (conjuncts p) xs
  pub others : (max : ℤ) (names : Names) (rs : List Ranged) (p : RawTree) →
      rest max names rs 0 None p ≡ left_in_order max names rs 0 None (conjuncts p)
