-- Small cases of box and diamond, to be checked by hand.
use Rattle.std.specs.Prelude.{◌≡◌, ℕ, pos, [], ◌∷◌, codes}
use Rattle.bk_val.specs.ValueType.{int_type}
use Rattle.bk_form.specs.Table.{Table}
use Rattle.bk_form.specs.Formula.{Formula, variable, bound, literal, named, unary, binary, for_all}
use Rattle.bk_form.specs.declared.operator.UnOp.TheVariants.{Not}
use Rattle.bk_form.specs.declared.operator.BinOp.TheVariants.{And, Imp, Eq, Lt, Le, In, Range, Add, Sub}
use Rattle.bk_form.specs.declared.operator.Domain.TheVariants.{Natural}
use Rattle.bk_gsl.specs.Substitution.{Substitution, skip, assign, pre, guard, if_else, any, seq, becomes_such, loop}
use Rattle.bk_gsl.specs.State.{declared_type}
use Rattle.bk_wp.specs.Box.{box, diamond}

-- a number
abbrev pub num : ℕ → Formula
num n = literal (pos n)

-- f : 0..10
abbrev pub up_to_ten : Formula → Formula
up_to_ten f = binary In f (binary Range (num 0) (num 10))

-- f + 1
abbrev pub one_more : Formula → Formula
one_more f = binary Add f (num 1)

-- 10 - f
abbrev pub left_to_ten : Formula → Formula
left_to_ten f = binary Sub (num 10) f

-- x := f
abbrev pub becomes : ℕ → Formula → Substitution
becomes x f = assign ((x, f) ∷ [])

-- the table of n, a whole number
abbrev pub table_of_n : Table
table_of_n = record { sets = []; variables = record { text = codes "n"; of_type = int_type } ∷ [] }

-- n is the variable 0
pub record Examples (table : Table) : Type 0 where
  -- [n := 0](n : 0..10) is 0 : 0..10
  pub assigned : box table (becomes 0 (num 0)) (up_to_ten (variable 0)) ≡ up_to_ten (num 0)
  -- [r1 := n1]<r := n>(r1 = r) is n1 = n, where r, n1 and r1 are the variables 1, 2 and 3
  pub both_levels : box table (becomes 3 (variable 2)) (diamond table (becomes 1 (variable 0)) (binary Eq (variable 3) (variable 1))) ≡
      binary Eq (variable 2) (variable 0)
  -- [IF n < 10 THEN n := n + 1 END](n : 0..10)
  pub conditional : box table (if_else (binary Lt (variable 0) (num 10)) (becomes 0 (one_more (variable 0))) skip)
      (up_to_ten (variable 0)) ≡ binary And (binary Imp (binary Lt (variable 0) (num 10)) (up_to_ten (one_more (variable 0))))
      (binary Imp (unary Not (binary Lt (variable 0) (num 10))) (up_to_ten (variable 0)))
  -- <PRE n < 10 THEN n := n + 1 END>(n : 0..10)
  pub conditioned : diamond table (pre (binary Lt (variable 0) (num 10)) (becomes 0 (one_more (variable 0)))) (up_to_ten (variable 0)) ≡
      binary Imp (binary Lt (variable 0) (num 10)) (up_to_ten (one_more (variable 0)))
  -- [n := n + 1 ; n := n + n](n = 4) is (n + 1) + (n + 1) = 4
  pub in_turn : box table (seq (becomes 0 (one_more (variable 0))) (becomes 0 (binary Add (variable 0) (variable 0))))
      (binary Eq (variable 0) (num 4)) ≡ binary Eq (binary Add (one_more (variable 0)) (one_more (variable 0))) (num 4)
  -- [ANY x WHERE x : 0..10 THEN n := x END](n <= 10) is !x.(x : 0..10 => x <= 10), where x is the variable 1
  pub chosen : box table (any (1 ∷ []) (guard (up_to_ten (variable 1)) (becomes 0 (variable 1)))) (binary Le (variable 0) (num 10)) ≡
      for_all (declared_type table 1 ∷ []) (binary Imp (up_to_ten (bound 0)) (binary Le (bound 0) (num 10)))
  -- [n :(n$0 < n)](0 < n) is !z.(n < z => 0 < z), where n$0 is the variable 1
  pub greater : box table (becomes_such ((0, 1) ∷ []) (binary Lt (variable 1) (variable 0))) (binary Lt (num 0) (variable 0)) ≡
      for_all (declared_type table 0 ∷ []) (binary Imp (binary Lt (variable 0) (bound 0)) (binary Lt (num 0) (bound 0)))

-- WHILE n < 10 DO n := n + 1 INVARIANT n : 0..10 VARIANT 10 - n END
abbrev pub count_up : Substitution
count_up = loop (binary Lt (variable 0) (num 10)) (becomes 0 (one_more (variable 0))) (up_to_ten (variable 0)) (left_to_ten (variable 0))

-- I & P, for n or for what is bound in its place
abbrev pub going : Formula → Formula
going f = binary And (up_to_ten f) (binary Lt f (num 10))

-- !n.f
abbrev pub for_each_n : Formula → Formula
for_each_n f = for_all (int_type ∷ []) f

-- its box of n = 10, in five parts
abbrev pub counting_up : Formula
counting_up =
    binary And (binary And (binary And (binary And (up_to_ten (variable 0))
    (for_each_n (binary Imp (going (bound 0)) (up_to_ten (one_more (bound 0))))))
    (for_each_n (binary Imp (going (bound 0)) (binary In (left_to_ten (bound 0)) (named Natural)))))
    (for_each_n (binary Imp (going (bound 0)) (binary Lt (left_to_ten (one_more (bound 0))) (left_to_ten (bound 0))))))
    (for_each_n (binary Imp (binary And (up_to_ten (bound 0)) (unary Not (binary Lt (bound 0) (num 10)))) (binary Eq (bound 0) (num 10))))

-- the examples come out so over every table
abbrev pub EachTable : Type 0
EachTable = (table : Table) → Examples table

-- the box of that loop for n = 10 is the formula of five parts
abbrev pub CountsUp : Type 0
CountsUp = box table_of_n count_up (binary Eq (variable 0) (num 10)) ≡ counting_up
