-- Patterns of formulas, in which letters stand for formulas that are picked.
use Rattle.std.specs.Prelude.{ℕ, nat_eq, pos, Bool, true, false, ◌||◌}
use Rattle.bk_val.specs.ValueType.{ValueType, bool_type}
use Rattle.bk_form.specs.Formula.{Formula, literal, truth_value, empty_set, named, btrue, bfalse, unary, binary}
use Rattle.bk_form.specs.declared.operator.Domain.TheVariants.{Natural, Natural1}
use Rattle.bk_form.specs.declared.operator.UnOp.{UnOp}
use Rattle.bk_form.specs.declared.operator.BinOp.{BinOp}

-- a pattern; letters are told by their numbers, from 0
pub data Pattern : Type 0 where
  letter : ℕ → Pattern
  -- a letter that stands for an empty set
  empty_letter : ℕ → Pattern
  -- a formula without letters
  fixed : Formula → Pattern
  one : UnOp → Pattern → Pattern
  two : BinOp → Pattern → Pattern → Pattern

-- the letter of a pattern, as one that stands for an empty set
abbrev pub an_empty : Pattern → Pattern
an_empty (letter k) = empty_letter k
an_empty p = p

-- the fixed formulas of the laws: a number, `btrue` and `bfalse`, TRUE and FALSE, NATURAL and NATURAL1
abbrev pub number : ℕ → Pattern
number n = fixed (literal (pos n))

-- btrue
abbrev pub always : Pattern
always = fixed btrue

-- bfalse
abbrev pub never : Pattern
never = fixed bfalse

-- TRUE or FALSE
abbrev pub truth_word : Bool → Pattern
truth_word b = fixed (truth_value b)

-- NATURAL
abbrev pub naturals : Pattern
naturals = fixed (named Natural)

-- NATURAL1
abbrev pub positives : Pattern
positives = fixed (named Natural1)

-- the type that an empty set is written with
abbrev pub empty_type : Formula → ValueType
empty_type (empty_set t) = t
empty_type _ = bool_type

-- it is an empty set, as written
abbrev pub is_empty_set : Formula → Bool
is_empty_set (empty_set t) = true
is_empty_set _ = false

-- the formula of a pattern where these formulas are picked for the letters; for the letter of an empty set it is that of the pick's type
abbrev pub formula_of : (ℕ → Formula) → Pattern → Formula
formula_of picks (letter k) = picks k
formula_of picks (empty_letter k) = empty_set (empty_type (picks k))
formula_of picks (fixed f) = f
formula_of picks (one o p) = unary o (formula_of picks p)
formula_of picks (two o p q) = binary o (formula_of picks p) (formula_of picks q)

-- letter k stands in it for an empty set
abbrev pub asks_empty : ℕ → Pattern → Bool
asks_empty k (letter n) = false
asks_empty k (empty_letter n) = nat_eq n k
asks_empty k (fixed f) = false
asks_empty k (one o p) = asks_empty k p
asks_empty k (two o p q) = asks_empty k p || asks_empty k q
