-- Rows of laws: their instances at some picks, and what is wrong with picks.
use Rattle.std.specs.Prelude.{◌≡◌, ◌≢◌, ◌⊎◌, ◌<◌, ◌≤◌, ℕ, nat_eq, Bool, true, false, not, ◌&&◌, ◌||◌, ◌+◌, ◌-◌, ◌^◌}
use Rattle.std.specs.Prelude.{min, cond, List, [], ◌∷◌, map, length, Option, Some, None, slice_get, unwrap_or}
use Rattle.std.specs.List.{find, list_any}
use Rattle.bk_limits.specs.declared.TheConstants.{MOST_NODES}
use Rattle.bk_form.specs.Formula.{Formula, btrue, formula_size}
use Rattle.bk_laws.specs.Patterns.{Pattern, letter, formula_of, asks_empty, is_empty_set}

-- a row of a table of laws: its number, how many letters it has, and patterns; where left and
-- right stand for the same kind of thing and the sides are true, left and right mean the same
pub record Row : Type 0 where
  pub name : ℕ
  pub letters : ℕ
  pub left : Pattern
  pub right : Pattern
  pub sides : List Pattern

-- a law at some formulas
pub record Instance : Type 0 where
  pub sides : List Formula
  pub left : Formula
  pub right : Formula

-- the row with these formulas for its letters
abbrev pub built : Row → (ℕ → Formula) → Instance
built row picks = record {
  sides = map (formula_of picks) row.sides;
  left = formula_of picks row.left;
  right = formula_of picks row.right;
}

-- ---- picks
-- pick k of a list, counted from 0, and btrue where there is none
abbrev pub pick_at : List Formula → ℕ → Formula
pick_at picks k = unwrap_or (slice_get picks k) btrue

-- at most MOST_NODES nodes: so an instance has fewer than 2^32
abbrev pub IsSmall : Formula → Type 0
IsSmall f = formula_size f ≤ MOST_NODES

-- letter k of the row stands for an empty set
abbrev pub wants_empty : Row → ℕ → Bool
wants_empty row k = list_any (asks_empty k) (row.left ∷ row.right ∷ row.sides)

-- pick k, counted from 1, has to be an empty set, and is none
pub record IsWrongPick (row : Row) (picks : List Formula) (k : ℕ) : Type 0 where
  pub from_one : 1 ≤ k
  pub stands : k ≤ length picks
  pub wanted : wants_empty row (k - 1) ≡ true
  pub is_other : is_empty_set (pick_at picks (k - 1)) ≡ false

-- the picks are as many as the letters, and the smallest number of a wrong one is k
pub record IsFirstWrong (row : Row) (picks : List Formula) (k : ℕ) : Type 0 where
  pub count : length picks ≡ row.letters
  pub wrong : IsWrongPick row picks k
  pub first : (j : ℕ) → j < k → IsWrongPick row picks j → ⊥

-- the picks are more or fewer than the letters, and k says how many, as a number of 32 bits
pub record IsOtherCount (row : Row) (picks : List Formula) (k : ℕ) : Type 0 where
  pub other : length picks ≢ row.letters
  pub counted : k ≡ min (length picks) (2 ^ 32 - 1)

-- what is wrong with the picks, as a number
abbrev pub IsFault : Row → List Formula → ℕ → Type 0
IsFault row picks k = IsOtherCount row picks k ⊎ IsFirstWrong row picks k

-- ---- instances of a table
-- the first row of this number
abbrev pub row_named : List Row → ℕ → Option Row
row_named rows name = find (λ row. nat_eq row.name name) rows

-- each pick from the k-th on, counted from 0, is an empty set where the row wants one
abbrev pub fit_from : Row → ℕ → List Formula → Bool
fit_from row k [] = true
fit_from row k (p ∷ ps) = (not (wants_empty row k) || is_empty_set p) && fit_from row (k + 1) ps

-- there is a pick for each letter, and each is an empty set where the row wants one
abbrev pub fits : Row → List Formula → Bool
fits row picks = nat_eq (length picks) row.letters && fit_from row 0 picks

-- the row at the picks, where they fit
abbrev pub instance_of_row : List Formula → Option Row → Option Instance
instance_of_row picks None = None
instance_of_row picks (Some row) = cond (fits row picks) (Some (built row (pick_at picks))) None

-- the instance of the row of this number at the picks
abbrev pub instance_at : List Row → ℕ → List Formula → Option Instance
instance_at rows name picks = instance_of_row picks (row_named rows name)

-- ---- rows as they are written
-- left is right, where the sides are true
pub record Equation : Type 0 where
  pub left : Pattern
  pub right : Pattern
  pub sides : List Pattern

-- left and right without a side
abbrev pub same : Pattern → Pattern → Equation
same l r = record { left = l; right = r; sides = [] }

-- left and right with sides
abbrev pub same_if : Pattern → Pattern → List Pattern → Equation
same_if l r ps = record { left = l; right = r; sides = ps }

-- the row of this number with so many letters
abbrev pub row_with : ℕ → ℕ → Equation → Row
row_with name letters q = record { name = name; letters = letters; left = q.left; right = q.right; sides = q.sides }

-- the row of a law with one letter
abbrev pub row_of_one : ℕ → (Pattern → Equation) → Row
row_of_one name q = row_with name 1 (q (letter 0))

-- the row of a law with two letters
abbrev pub row_of_two : ℕ → (Pattern → Pattern → Equation) → Row
row_of_two name q = row_with name 2 (q (letter 0) (letter 1))

-- the row of a law with three letters
abbrev pub row_of_three : ℕ → (Pattern → Pattern → Pattern → Equation) → Row
row_of_three name q = row_with name 3 (q (letter 0) (letter 1) (letter 2))

-- the row of a law with four letters
abbrev pub row_of_four : ℕ → (Pattern → Pattern → Pattern → Pattern → Equation) → Row
row_of_four name q = row_with name 4 (q (letter 0) (letter 1) (letter 2) (letter 3))

-- the row of a law with five letters
abbrev pub row_of_five : ℕ → (Pattern → Pattern → Pattern → Pattern → Pattern → Equation) → Row
row_of_five name q = row_with name 5 (q (letter 0) (letter 1) (letter 2) (letter 3) (letter 4))
