-- The laws of sets: row Sn has the number 200 + n. x, y, z and w are any terms, a, b, c
-- and q integers, S, T and U set values, A and B sets or domains, and o is an empty set.
-- Source: after the B-Book's laws of membership, inclusion, union, intersection, difference and intervals.
use Rattle.std.specs.Prelude.{List, [], ◌∷◌}
use Rattle.bk_form.specs.declared.operator.UnOp.TheVariants.{Not, Single, Pow, Pow1}
use Rattle.bk_form.specs.declared.operator.BinOp.TheVariants.{And, Or, Eq, Lt, Le, In, Union, Inter, Minus, Times, Maps, Range, Add}
use Rattle.bk_laws.specs.Patterns.{one, two, always, never, number, an_empty}
use Rattle.bk_laws.specs.Rows.{Row, same, same_if, row_of_one, row_of_two, row_of_three, row_of_four}

-- S1: `x : S \/ T` is `x : S or x : T`
abbrev pub s1 : Row
s1 = row_of_three 201 (λ x S T. same (two In x (two Union S T)) (two Or (two In x S) (two In x T)))

-- S2: `x : S /\ T` is `x : S & x : T`
abbrev pub s2 : Row
s2 = row_of_three 202 (λ x S T. same (two In x (two Inter S T)) (two And (two In x S) (two In x T)))

-- S3: `x : S - T` is `x : S & not(x : T)`
abbrev pub s3 : Row
s3 = row_of_three 203 (λ x S T. same (two In x (two Minus S T)) (two And (two In x S) (one Not (two In x T))))

-- S4: `x : o` is `bfalse`
abbrev pub s4 : Row
s4 = row_of_two 204 (λ x o. same (two In x (an_empty o)) never)

-- S5: `x : {y}` is `x = y`
abbrev pub s5 : Row
s5 = row_of_two 205 (λ x y. same (two In x (one Single y)) (two Eq x y))

-- S6: `x |-> y : A * B` is `x : A & y : B`
abbrev pub s6 : Row
s6 = row_of_four 206 (λ x y A B. same (two In (two Maps x y) (two Times A B)) (two And (two In x A) (two In y B)))

-- S7: `x |-> y = z |-> w` is `x = z & y = w`
abbrev pub s7 : Row
s7 = row_of_four 207 (λ x y z w. same (two Eq (two Maps x y) (two Maps z w)) (two And (two Eq x z) (two Eq y w)))

-- S8: `S = T` is `S : POW(T) & T : POW(S)`
abbrev pub s8 : Row
s8 = row_of_two 208 (λ S T. same (two Eq S T) (two And (two In S (one Pow T)) (two In T (one Pow S))))

-- S9: `S : POW(S)` is `btrue`
abbrev pub s9 : Row
s9 = row_of_one 209 (λ S. same (two In S (one Pow S)) always)

-- S10: `o : POW(A)` is `btrue`
abbrev pub s10 : Row
s10 = row_of_two 210 (λ o A. same (two In (an_empty o) (one Pow A)) always)

-- S11: `S \/ T : POW(A)` is `S : POW(A) & T : POW(A)`
abbrev pub s11 : Row
s11 = row_of_three 211 (λ S T A. same (two In (two Union S T) (one Pow A)) (two And (two In S (one Pow A)) (two In T (one Pow A))))

-- S12: `{x} : POW(A)` is `x : A`
abbrev pub s12 : Row
s12 = row_of_two 212 (λ x A. same (two In (one Single x) (one Pow A)) (two In x A))

-- S13: `S : POW(T /\ U)` is `S : POW(T) & S : POW(U)`
abbrev pub s13 : Row
s13 = row_of_three 213 (λ S T U. same (two In S (one Pow (two Inter T U))) (two And (two In S (one Pow T)) (two In S (one Pow U))))

-- S14: `S /\ T : POW(A)` is `btrue` if `S : POW(A)`
abbrev pub s14 : Row
s14 = row_of_three 214 (λ S T A. same_if (two In (two Inter S T) (one Pow A)) always ((two In S (one Pow A)) ∷ []))

-- S15: `S - T : POW(A)` is `btrue` if `S : POW(A)`
abbrev pub s15 : Row
s15 = row_of_three 215 (λ S T A. same_if (two In (two Minus S T) (one Pow A)) always ((two In S (one Pow A)) ∷ []))

-- S16: `S : POW(A)` is `btrue` if `S : POW(T)`, `T : POW(A)`
abbrev pub s16 : Row
s16 = row_of_three 216 (λ S A T. same_if (two In S (one Pow A)) always ((two In S (one Pow T)) ∷ (two In T (one Pow A)) ∷ []))

-- S17: `S : POW1(A)` is `S : POW(A) & not(S = o)`
abbrev pub s17 : Row
s17 = row_of_three 217 (λ S A o. same (two In S (one Pow1 A)) (two And (two In S (one Pow A)) (one Not (two Eq S (an_empty o)))))

-- S18: `x : A` is `btrue` if `x : S`, `S : POW(A)`
abbrev pub s18 : Row
s18 = row_of_three 218 (λ x A S. same_if (two In x A) always ((two In x S) ∷ (two In S (one Pow A)) ∷ []))

-- S19: `S \/ o` is `S`
abbrev pub s19 : Row
s19 = row_of_two 219 (λ S o. same (two Union S (an_empty o)) S)

-- S20: `S \/ S` is `S`
abbrev pub s20 : Row
s20 = row_of_one 220 (λ S. same (two Union S S) S)

-- S21: `S \/ T` is `T \/ S`
abbrev pub s21 : Row
s21 = row_of_two 221 (λ S T. same (two Union S T) (two Union T S))

-- S22: `(S \/ T) \/ U` is `S \/ (T \/ U)`
abbrev pub s22 : Row
s22 = row_of_three 222 (λ S T U. same (two Union (two Union S T) U) (two Union S (two Union T U)))

-- S23: `S /\ o` is `o`
abbrev pub s23 : Row
s23 = row_of_two 223 (λ S o. same (two Inter S (an_empty o)) (an_empty o))

-- S24: `S /\ S` is `S`
abbrev pub s24 : Row
s24 = row_of_one 224 (λ S. same (two Inter S S) S)

-- S25: `S /\ T` is `T /\ S`
abbrev pub s25 : Row
s25 = row_of_two 225 (λ S T. same (two Inter S T) (two Inter T S))

-- S26: `(S /\ T) /\ U` is `S /\ (T /\ U)`
abbrev pub s26 : Row
s26 = row_of_three 226 (λ S T U. same (two Inter (two Inter S T) U) (two Inter S (two Inter T U)))

-- S27: `S /\ (T \/ U)` is `(S /\ T) \/ (S /\ U)`
abbrev pub s27 : Row
s27 = row_of_three 227 (λ S T U. same (two Inter S (two Union T U)) (two Union (two Inter S T) (two Inter S U)))

-- S28: `S \/ (T /\ U)` is `(S \/ T) /\ (S \/ U)`
abbrev pub s28 : Row
s28 = row_of_three 228 (λ S T U. same (two Union S (two Inter T U)) (two Inter (two Union S T) (two Union S U)))

-- S29: `S - o` is `S`
abbrev pub s29 : Row
s29 = row_of_two 229 (λ S o. same (two Minus S (an_empty o)) S)

-- S30: `S - S` is `o`
abbrev pub s30 : Row
s30 = row_of_two 230 (λ S o. same (two Minus S S) (an_empty o))

-- S31: `S - (T \/ U)` is `(S - T) - U`
abbrev pub s31 : Row
s31 = row_of_three 231 (λ S T U. same (two Minus S (two Union T U)) (two Minus (two Minus S T) U))

-- S32: `(S \/ T) - U` is `(S - U) \/ (T - U)`
abbrev pub s32 : Row
s32 = row_of_three 232 (λ S T U. same (two Minus (two Union S T) U) (two Union (two Minus S U) (two Minus T U)))

-- S33: `S - T` is `S` if `S /\ T = o`
abbrev pub s33 : Row
s33 = row_of_three 233 (λ S T o. same_if (two Minus S T) S ((two Eq (two Inter S T) (an_empty o)) ∷ []))

-- S34: `S \/ T` is `T` if `S : POW(T)`
abbrev pub s34 : Row
s34 = row_of_two 234 (λ S T. same_if (two Union S T) T ((two In S (one Pow T)) ∷ []))

-- S35: `S /\ T` is `S` if `S : POW(T)`
abbrev pub s35 : Row
s35 = row_of_two 235 (λ S T. same_if (two Inter S T) S ((two In S (one Pow T)) ∷ []))

-- S36: `a .. b` is `o` if `b < a`
abbrev pub s36 : Row
s36 = row_of_three 236 (λ a b o. same_if (two Range a b) (an_empty o) ((two Lt b a) ∷ []))

-- S37: `a .. a` is `{a}`
abbrev pub s37 : Row
s37 = row_of_one 237 (λ a. same (two Range a a) (one Single a))

-- S38: `a .. b` is `(a .. c) \/ ((c + 1) .. b)` if `a <= c + 1`, `c <= b`
abbrev pub s38 : Row
s38 = row_of_three 238 (λ a b c. same_if (two Range a b) (two Union (two Range a c) (two Range (two Add c (number 1)) b))
    ((two Le a (two Add c (number 1))) ∷ (two Le c b) ∷ []))

-- S39: `a .. b : POW(c .. q)` is `btrue` if `c <= a`, `b <= q`
abbrev pub s39 : Row
s39 = row_of_four 239 (λ a b c q. same_if (two In (two Range a b) (one Pow (two Range c q))) always ((two Le c a) ∷ (two Le b q) ∷ []))

-- S40: `(S \/ T) * U` is `(S * U) \/ (T * U)`
abbrev pub s40 : Row
s40 = row_of_three 240 (λ S T U. same (two Times (two Union S T) U) (two Union (two Times S U) (two Times T U)))

-- in the order of their numbers
abbrev pub set_rows : List Row
set_rows =
    s1 ∷ s2 ∷ s3 ∷ s4 ∷ s5 ∷ s6 ∷ s7 ∷ s8 ∷ s9 ∷ s10 ∷
    s11 ∷ s12 ∷ s13 ∷ s14 ∷ s15 ∷ s16 ∷ s17 ∷ s18 ∷ s19 ∷ s20 ∷
    s21 ∷ s22 ∷ s23 ∷ s24 ∷ s25 ∷ s26 ∷ s27 ∷ s28 ∷ s29 ∷ s30 ∷
    s31 ∷ s32 ∷ s33 ∷ s34 ∷ s35 ∷ s36 ∷ s37 ∷ s38 ∷ s39 ∷ s40 ∷
    []
