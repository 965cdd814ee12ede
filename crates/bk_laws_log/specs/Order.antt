-- The laws of order and counting: row On has the number 100 + n. a, b, c and
-- q are integers, x is any term, S and T are sets, and o is an empty set.
-- Source: after the B-Book's laws of numbers, card, min and max.
use Rattle.std.specs.Prelude.{List, [], ◌∷◌}
use Rattle.bk_form.specs.declared.operator.UnOp.TheVariants.{Not, Card, Min, Max, Single, Pow}
use Rattle.bk_form.specs.declared.operator.BinOp.TheVariants.{And, Or, Eq, Lt, Le, In, Union, Inter, Minus}
use Rattle.bk_form.specs.declared.operator.BinOp.TheVariants.{Range, Add, Sub, Mul, Div, Mod, Power}
use Rattle.bk_laws.specs.Patterns.{one, two, always, number, naturals, positives, an_empty}
use Rattle.bk_laws.specs.Rows.{Row, same, same_if, row_of_one, row_of_two, row_of_three}

-- O1: `a = b` is `a <= b & b <= a`
abbrev pub o1 : Row
o1 = row_of_two 101 (λ a b. same (two Eq a b) (two And (two Le a b) (two Le b a)))

-- O2: `a < b` is `a + 1 <= b`
abbrev pub o2 : Row
o2 = row_of_two 102 (λ a b. same (two Lt a b) (two Le (two Add a (number 1)) b))

-- O3: `not(a < b)` is `b <= a`
abbrev pub o3 : Row
o3 = row_of_two 103 (λ a b. same (one Not (two Lt a b)) (two Le b a))

-- O4: `not(a <= b)` is `b < a`
abbrev pub o4 : Row
o4 = row_of_two 104 (λ a b. same (one Not (two Le a b)) (two Lt b a))

-- O5: `a : b .. c` is `b <= a & a <= c`
abbrev pub o5 : Row
o5 = row_of_three 105 (λ a b c. same (two In a (two Range b c)) (two And (two Le b a) (two Le a c)))

-- O6: `a : NATURAL` is `0 <= a`
abbrev pub o6 : Row
o6 = row_of_one 106 (λ a. same (two In a naturals) (two Le (number 0) a))

-- O7: `a : NATURAL1` is `1 <= a`
abbrev pub o7 : Row
o7 = row_of_one 107 (λ a. same (two In a positives) (two Le (number 1) a))

-- O8: `not(a = b)` is `a < b or b < a`
abbrev pub o8 : Row
o8 = row_of_two 108 (λ a b. same (one Not (two Eq a b)) (two Or (two Lt a b) (two Lt b a)))

-- O9: `a / b = q` is `q * b <= a & a < (q * b) + b` if `0 <= a`, `0 < b`
abbrev pub o9 : Row
o9 = row_of_three 109 (λ a b q. same_if (two Eq (two Div a b) q)
    (two And (two Le (two Mul q b) a) (two Lt a (two Add (two Mul q b) b))) ((two Le (number 0) a) ∷ (two Lt (number 0) b) ∷ []))

-- O10: `a mod b` is `a - (b * (a / b))` if `0 <= a`, `0 < b`
abbrev pub o10 : Row
o10 =
    row_of_two 110 (λ a b. same_if (two Mod a b) (two Sub a (two Mul b (two Div a b))) ((two Le (number 0) a) ∷ (two Lt (number 0) b) ∷ []))

-- O11: `a mod b : 0 .. (b - 1)` is `btrue` if `0 <= a`, `0 < b`
abbrev pub o11 : Row
o11 = row_of_two 111 (λ a b. same_if (two In (two Mod a b) (two Range (number 0) (two Sub b (number 1))))
    always ((two Le (number 0) a) ∷ (two Lt (number 0) b) ∷ []))

-- O12: `a ** 0` is `1`
abbrev pub o12 : Row
o12 = row_of_one 112 (λ a. same (two Power a (number 0)) (number 1))

-- O13: `a ** (b + 1)` is `a * (a ** b)` if `0 <= b`
abbrev pub o13 : Row
o13 = row_of_two 113 (λ a b. same_if (two Power a (two Add b (number 1))) (two Mul a (two Power a b)) ((two Le (number 0) b) ∷ []))

-- O14: `0 <= a * b` is `btrue` if `0 <= a`, `0 <= b`
abbrev pub o14 : Row
o14 = row_of_two 114 (λ a b. same_if (two Le (number 0) (two Mul a b)) always ((two Le (number 0) a) ∷ (two Le (number 0) b) ∷ []))

-- O15: `a * c <= b * c` is `btrue` if `a <= b`, `0 <= c`
abbrev pub o15 : Row
o15 = row_of_three 115 (λ a c b. same_if (two Le (two Mul a c) (two Mul b c)) always ((two Le a b) ∷ (two Le (number 0) c) ∷ []))

-- O16: `max(S) : S` is `btrue` if `not(S = o)`
abbrev pub o16 : Row
o16 = row_of_two 116 (λ S o. same_if (two In (one Max S) S) always ((one Not (two Eq S (an_empty o))) ∷ []))

-- O17: `a <= max(S)` is `btrue` if `a : S`
abbrev pub o17 : Row
o17 = row_of_two 117 (λ a S. same_if (two Le a (one Max S)) always ((two In a S) ∷ []))

-- O18: `min(S) : S` is `btrue` if `not(S = o)`
abbrev pub o18 : Row
o18 = row_of_two 118 (λ S o. same_if (two In (one Min S) S) always ((one Not (two Eq S (an_empty o))) ∷ []))

-- O19: `min(S) <= a` is `btrue` if `a : S`
abbrev pub o19 : Row
o19 = row_of_two 119 (λ S a. same_if (two Le (one Min S) a) always ((two In a S) ∷ []))

-- O20: `max({a})` is `a`
abbrev pub o20 : Row
o20 = row_of_one 120 (λ a. same (one Max (one Single a)) a)

-- O21: `min({a})` is `a`
abbrev pub o21 : Row
o21 = row_of_one 121 (λ a. same (one Min (one Single a)) a)

-- O22: `card(o)` is `0`
abbrev pub o22 : Row
o22 = row_of_one 122 (λ o. same (one Card (an_empty o)) (number 0))

-- O23: `card({x})` is `1`
abbrev pub o23 : Row
o23 = row_of_one 123 (λ x. same (one Card (one Single x)) (number 1))

-- O24: `card(S \/ {x})` is `card(S) + 1` if `not(x : S)`
abbrev pub o24 : Row
o24 =
    row_of_two 124 (λ S x. same_if (one Card (two Union S (one Single x))) (two Add (one Card S) (number 1)) ((one Not (two In x S)) ∷ []))

-- O25: `card(S - {x})` is `card(S) - 1` if `x : S`
abbrev pub o25 : Row
o25 = row_of_two 125 (λ S x. same_if (one Card (two Minus S (one Single x))) (two Sub (one Card S) (number 1)) ((two In x S) ∷ []))

-- O26: `card(a .. b)` is `(b - a) + 1` if `a <= b + 1`
abbrev pub o26 : Row
o26 = row_of_two 126 (λ a b. same_if (one Card (two Range a b)) (two Add (two Sub b a) (number 1)) ((two Le a (two Add b (number 1))) ∷ []))

-- O27: `0 <= card(S)` is `btrue`
abbrev pub o27 : Row
o27 = row_of_one 127 (λ S. same (two Le (number 0) (one Card S)) always)

-- O28: `card(S) <= card(T)` is `btrue` if `S : POW(T)`
abbrev pub o28 : Row
o28 = row_of_two 128 (λ S T. same_if (two Le (one Card S) (one Card T)) always ((two In S (one Pow T)) ∷ []))

-- O29: `card(S) = 0` is `S = o`
abbrev pub o29 : Row
o29 = row_of_two 129 (λ S o. same (two Eq (one Card S) (number 0)) (two Eq S (an_empty o)))

-- O30: `card(S \/ T)` is `card(S) + card(T)` if `S /\ T = o`
abbrev pub o30 : Row
o30 = row_of_three 130
    (λ S T o. same_if (one Card (two Union S T)) (two Add (one Card S) (one Card T)) ((two Eq (two Inter S T) (an_empty o)) ∷ []))

-- in the order of their numbers
abbrev pub order_rows : List Row
order_rows =
    o1 ∷ o2 ∷ o3 ∷ o4 ∷ o5 ∷ o6 ∷ o7 ∷ o8 ∷ o9 ∷ o10 ∷
    o11 ∷ o12 ∷ o13 ∷ o14 ∷ o15 ∷ o16 ∷ o17 ∷ o18 ∷ o19 ∷ o20 ∷
    o21 ∷ o22 ∷ o23 ∷ o24 ∷ o25 ∷ o26 ∷ o27 ∷ o28 ∷ o29 ∷ o30 ∷
    []
