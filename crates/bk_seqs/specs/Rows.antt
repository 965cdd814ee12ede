-- The laws of sequences: row Qn has the number 400 + n. s and t are relations, x and a any terms, B is a set or a domain. The words and
-- signs of sequences in a row stand for their expansions.
-- Source: after the B-Book's laws of sequences, for sequences as functions from 1 .. n.
use Rattle.std.specs.Prelude.{ℕ, nat_eq, List, [], ◌∷◌, length, Option, Some, None, cond}
use Rattle.std.specs.List.{find}
use Rattle.bk_form.specs.Formula.{Formula, btrue, binary}
use Rattle.bk_form.specs.declared.operator.BinOp.TheVariants.{In, Le, Add, Apply}
use Rattle.bk_laws.specs.Rows.{Instance, pick_at}
use Rattle.bk_form.specs.Expansion.{one, card_of, one_more, one_less, up_to, is_sequence, front, tail, rev, append, prepend, concat}

-- a row of the table: its number, how many letters it has, and its instance at some picks, by the number of each from 0. It is no
-- pattern as those of the other laws are, since an expansion binds a variable, under which an operand is raised
pub record Row : Type 0 where
  pub name : ℕ
  pub letters : ℕ
  pub at : (ℕ → Formula) → Instance

-- the row of a law with two letters
abbrev pub row_of_two : ℕ → (Formula → Formula → Instance) → Row
row_of_two name i = record { name = name; letters = 2; at = λ p. i (p 0) (p 1) }

-- the row of a law with three letters
abbrev pub row_of_three : ℕ → (Formula → Formula → Formula → Instance) → Row
row_of_three name i = record { name = name; letters = 3; at = λ p. i (p 0) (p 1) (p 2) }

-- the row of a law with four letters
abbrev pub row_of_four : ℕ → (Formula → Formula → Formula → Formula → Instance) → Row
row_of_four name i = record { name = name; letters = 4; at = λ p. i (p 0) (p 1) (p 2) (p 3) }

-- left is right, where the sides are true
abbrev pub same_if : Formula → Formula → List Formula → Instance
same_if l r ps = record { sides = ps; left = l; right = r }

-- s : seq(B), where it is expanded: s is a sequence of members of B
abbrev pub sequence_over : Formula → Formula → Formula
sequence_over s B = is_sequence s (card_of s) B

-- Q1: `card(s <- x)` is `card(s) + 1` if `s : seq(B)`
abbrev pub law_1 : Formula → Formula → Formula → Instance
law_1 s x B = same_if (card_of (append s x)) (one_more s) (sequence_over s B ∷ [])

-- Q1 as a row
abbrev pub q1 : Row
q1 = row_of_three 401 law_1

-- Q2: `s <- x : (1 .. (card(s) + 1)) --> B` is `btrue` if `s : seq(B)`, `x : B`
abbrev pub law_2 : Formula → Formula → Formula → Instance
law_2 s x B = same_if (is_sequence (append s x) (one_more s) B) btrue (sequence_over s B ∷ binary In x B ∷ [])

-- Q2 as a row
abbrev pub q2 : Row
q2 = row_of_three 402 law_2

-- Q3: `(s <- x)(card(s) + 1)` is `x` if `s : seq(B)`
abbrev pub law_3 : Formula → Formula → Formula → Instance
law_3 s x B = same_if (binary Apply (append s x) (one_more s)) x (sequence_over s B ∷ [])

-- Q3 as a row
abbrev pub q3 : Row
q3 = row_of_three 403 law_3

-- Q4: `(s <- x)(a)` is `s(a)` if `s : seq(B)`, `a : 1 .. card(s)`
abbrev pub law_4 : Formula → Formula → Formula → Formula → Instance
law_4 s x a B = same_if (binary Apply (append s x) a) (binary Apply s a) (sequence_over s B ∷ binary In a (up_to (card_of s)) ∷ [])

-- Q4 as a row
abbrev pub q4 : Row
q4 = row_of_four 404 law_4

-- Q5: `front(s) : (1 .. (card(s) - 1)) --> B` is `btrue` if `s : seq(B)`
abbrev pub law_5 : Formula → Formula → Instance
law_5 s B = same_if (is_sequence (front s) (one_less s) B) btrue (sequence_over s B ∷ [])

-- Q5 as a row
abbrev pub q5 : Row
q5 = row_of_two 405 law_5

-- s has a member
abbrev pub is_not_empty : Formula → Formula
is_not_empty s = binary Le one (card_of s)

-- Q6: `card(front(s))` is `card(s) - 1` if `s : seq(B)`, `1 <= card(s)`
abbrev pub law_6 : Formula → Formula → Instance
law_6 s B = same_if (card_of (front s)) (one_less s) (sequence_over s B ∷ is_not_empty s ∷ [])

-- Q6 as a row
abbrev pub q6 : Row
q6 = row_of_two 406 law_6

-- Q7: `tail(s) : (1 .. (card(s) - 1)) --> B` is `btrue` if `s : seq(B)`
abbrev pub law_7 : Formula → Formula → Instance
law_7 s B = same_if (is_sequence (tail s) (one_less s) B) btrue (sequence_over s B ∷ [])

-- Q7 as a row
abbrev pub q7 : Row
q7 = row_of_two 407 law_7

-- Q8: `card(tail(s))` is `card(s) - 1` if `s : seq(B)`, `1 <= card(s)`
abbrev pub law_8 : Formula → Formula → Instance
law_8 s B = same_if (card_of (tail s)) (one_less s) (sequence_over s B ∷ is_not_empty s ∷ [])

-- Q8 as a row
abbrev pub q8 : Row
q8 = row_of_two 408 law_8

-- Q9: `rev(s) : (1 .. card(s)) --> B` is `btrue` if `s : seq(B)`
abbrev pub law_9 : Formula → Formula → Instance
law_9 s B = same_if (is_sequence (rev s) (card_of s) B) btrue (sequence_over s B ∷ [])

-- Q9 as a row
abbrev pub q9 : Row
q9 = row_of_two 409 law_9

-- Q10: `card(rev(s))` is `card(s)` if `s : seq(B)`
abbrev pub law_10 : Formula → Formula → Instance
law_10 s B = same_if (card_of (rev s)) (card_of s) (sequence_over s B ∷ [])

-- Q10 as a row
abbrev pub q10 : Row
q10 = row_of_two 410 law_10

-- Q11: `rev(rev(s))` is `s` if `s : seq(B)`
abbrev pub law_11 : Formula → Formula → Instance
law_11 s B = same_if (rev (rev s)) s (sequence_over s B ∷ [])

-- Q11 as a row
abbrev pub q11 : Row
q11 = row_of_two 411 law_11

-- Q12: `card(s ^ t)` is `card(s) + card(t)` if `s : seq(B)`, `t : seq(B)`
abbrev pub law_12 : Formula → Formula → Formula → Instance
law_12 s t B = same_if (card_of (concat s t)) (binary Add (card_of s) (card_of t)) (sequence_over s B ∷ sequence_over t B ∷ [])

-- Q12 as a row
abbrev pub q12 : Row
q12 = row_of_three 412 law_12

-- Q13: `s ^ t : (1 .. (card(s) + card(t))) --> B` is `btrue` if `s : seq(B)`, `t : seq(B)`
abbrev pub law_13 : Formula → Formula → Formula → Instance
law_13 s t B = same_if (is_sequence (concat s t) (binary Add (card_of s) (card_of t)) B) btrue (sequence_over s B ∷ sequence_over t B ∷ [])

-- Q13 as a row
abbrev pub q13 : Row
q13 = row_of_three 413 law_13

-- Q14: `card(x -> s)` is `card(s) + 1` if `s : seq(B)`
abbrev pub law_14 : Formula → Formula → Formula → Instance
law_14 x s B = same_if (card_of (prepend x s)) (one_more s) (sequence_over s B ∷ [])

-- Q14 as a row
abbrev pub q14 : Row
q14 = row_of_three 414 law_14

-- Q15: `x -> s : (1 .. (card(s) + 1)) --> B` is `btrue` if `s : seq(B)`, `x : B`
abbrev pub law_15 : Formula → Formula → Formula → Instance
law_15 x s B = same_if (is_sequence (prepend x s) (one_more s) B) btrue (sequence_over s B ∷ binary In x B ∷ [])

-- Q15 as a row
abbrev pub q15 : Row
q15 = row_of_three 415 law_15

-- Q16: `(x -> s)(1)` is `x`
abbrev pub law_16 : Formula → Formula → Instance
law_16 x s = same_if (binary Apply (prepend x s) one) x []

-- Q16 as a row
abbrev pub q16 : Row
q16 = row_of_two 416 law_16

-- ---- instances
-- the first row with this number
abbrev pub row_named : List Row → ℕ → Option Row
row_named rows name = find (λ row. nat_eq row.name name) rows

-- the row at the picks, where there is one for each letter
abbrev pub instance_of_row : List Formula → Option Row → Option Instance
instance_of_row picks None = None
instance_of_row picks (Some row) = cond (nat_eq (length picks) row.letters) (Some (row.at (pick_at picks))) None

-- the instance of the row of this number at the picks
abbrev pub instance_at : List Row → ℕ → List Formula → Option Instance
instance_at rows name picks = instance_of_row picks (row_named rows name)

-- in the order of their numbers
unfoldable pub rows : List Row
rows = q1 ∷ q2 ∷ q3 ∷ q4 ∷ q5 ∷ q6 ∷ q7 ∷ q8 ∷ q9 ∷ q10 ∷ q11 ∷ q12 ∷ q13 ∷ q14 ∷ q15 ∷ q16 ∷ []
