-- The rows that a table of numbers stands for: each pattern of a row is told by its number in one list.
use Rattle.std.specs.Prelude.{ℕ, zero, suc, nat_eq, ◌+◌, ◌-◌, ◌^◌, min, cond, true, false, not, ◌&&◌, List}
use Rattle.std.specs.Prelude.{[], ◌∷◌, map, take, length, Option, Some, None, slice_get, unwrap_or}
use Rattle.std.specs.List.{find}
use Rattle.bk_form.specs.Formula.{Formula, truth_value, named, btrue, bfalse}
use Rattle.bk_form.specs.declared.operator.Domain.TheVariants.{Natural as AllNatural, Natural1 as Positive}
use Rattle.bk_form.specs.declared.operator.UnOp.TheVariants.{Not, BoolOf, Neg, Card, Min, Max, Dom, Ran, Id, Inverse, Single, Pow, Pow1}
use Rattle.bk_form.specs.declared.operator.BinOp.TheVariants.{And, Or, Imp, Iff, Eq, Lt, Le, In, Relations, PartialFunctions}
use Rattle.bk_form.specs.declared.operator.BinOp.TheVariants.{TotalFunctions, PartialInjections, TotalInjections, PartialSurjections}
use Rattle.bk_form.specs.declared.operator.BinOp.TheVariants.{TotalSurjections, Bijections, Union, Inter, Minus, Times, DomRes, RanRes}
use Rattle.bk_form.specs.declared.operator.BinOp.TheVariants.{DomSub, RanSub, Over, Maps, Range, Add, Sub, Mul, Div, Mod, Power, Image}
use Rattle.bk_form.specs.declared.operator.BinOp.TheVariants.{Apply, Comp}
use Rattle.bk_laws.specs.declared.kind.Kind.{Kind}
use Rattle.bk_laws.specs.declared.kind.Kind.TheVariants.{Letter, EmptyLetter, Number, BTrue, BFalse}
use Rattle.bk_laws.specs.declared.kind.Kind.TheVariants.{True, False, Natural, Natural1, One, Two}
use Rattle.bk_ops.specs.declared.law.Pat.{Pat}
use Rattle.bk_ops.specs.declared.law.Law.{Law}
use Rattle.bk_laws.specs.Patterns.{Pattern, letter, empty_letter, fixed, one, two, number, is_empty_set}
use Rattle.bk_laws.specs.Rows.{Row, wants_empty}

-- the kinds of patterns in the order of their numbers: nine of no operator, then the operators on one and on two patterns
abbrev pub kinds : List Kind
kinds =
    Letter ∷ EmptyLetter ∷ Number ∷ BTrue ∷ BFalse ∷ True ∷ False ∷ Natural ∷ Natural1 ∷
    One Not ∷ One BoolOf ∷ One Neg ∷ One Card ∷ One Min ∷ One Max ∷ One Dom ∷ One Ran ∷ One Id ∷ One Inverse ∷
    One Single ∷ One Pow ∷ One Pow1 ∷
    Two And ∷ Two Or ∷ Two Imp ∷ Two Iff ∷ Two Eq ∷ Two Lt ∷ Two Le ∷ Two In ∷
    Two Relations ∷ Two PartialFunctions ∷ Two TotalFunctions ∷ Two PartialInjections ∷ Two TotalInjections ∷
    Two PartialSurjections ∷ Two TotalSurjections ∷ Two Bijections ∷
    Two Union ∷ Two Inter ∷ Two Minus ∷ Two Times ∷ Two DomRes ∷ Two RanRes ∷ Two DomSub ∷ Two RanSub ∷
    Two Over ∷ Two Maps ∷ Two Range ∷ Two Add ∷ Two Sub ∷ Two Mul ∷ Two Div ∷ Two Mod ∷ Two Power ∷ Two Image ∷
    Two Apply ∷ Two Comp ∷ []

-- what the number of a kind stands for; one past the end stands for btrue
abbrev pub kind_of : ℕ → Kind
kind_of op = unwrap_or (slice_get kinds op) BTrue

-- a pattern of this kind and these two numbers, where `at` gives the patterns below it
abbrev pub made : (ℕ → Pattern) → ℕ → ℕ → Kind → Pattern
made at m n Letter = letter m
made at m n EmptyLetter = empty_letter m
made at m n Number = number m
made at m n BTrue = fixed btrue
made at m n BFalse = fixed bfalse
made at m n True = fixed (truth_value true)
made at m n False = fixed (truth_value false)
made at m n Natural = fixed (named AllNatural)
made at m n Natural1 = fixed (named Positive)
made at m n (One o) = one o (at m)
made at m n (Two o) = two o (at m) (at n)

-- no pattern of a law has more nodes on a way down
abbrev pub max_depth : ℕ
max_depth = 8

-- the pattern at a place of the list, btrue where there is none
abbrev pub made_of : (ℕ → Pattern) → Option Pat → Pattern
made_of at None = fixed btrue
made_of at (Some p) = made at p.first p.second (kind_of p.op)

-- the pattern of this number in the list, down to that many nodes on a way
abbrev pub pattern_at : List Pat → ℕ → ℕ → Pattern
pattern_at pats zero n = fixed btrue
pattern_at pats (suc d) n = made_of (pattern_at pats d) (slice_get pats n)

-- the row that a law of numbers stands for
abbrev pub row_of : List Pat → Law → Row
row_of pats law = record {
  name = law.name;
  letters = law.picks;
  left = pattern_at pats max_depth law.left;
  right = pattern_at pats max_depth law.right;
  sides = map (pattern_at pats max_depth) (take law.count law.sides);
}

-- the rows of a table
abbrev pub rows_of : List Pat → List Law → List Row
rows_of pats laws = map (row_of pats) laws

-- ---- what the code looks for
-- the first law of this number
abbrev pub law_named : List Law → ℕ → Option Law
law_named laws name = find (λ law. nat_eq law.name name) laws

-- the first pick from the k-th on, counted from 0, that is no empty set where the row wants one; its number counts from 1
abbrev pub wrong_from : Row → ℕ → List Formula → Option ℕ
wrong_from row k [] = None
wrong_from row k (p ∷ ps) = cond (wants_empty row k && not (is_empty_set p)) (Some (k + 1)) (wrong_from row (k + 1) ps)

-- how many picks there are where the row has another number of letters, else the first that is wrong
abbrev pub fault_of : Row → List Formula → Option ℕ
fault_of row picks = cond (nat_eq (length picks) row.letters) (wrong_from row 0 picks) (Some (min (length picks) (2 ^ 32 - 1)))
