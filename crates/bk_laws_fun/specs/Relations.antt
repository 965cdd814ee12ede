-- The laws of relations: row Mn has the number 300 + n. x and y are any terms, r, s and
-- t relations, S and T set values, A is a set or a domain, and o and p are empty sets.
-- Source: after the B-Book's laws of relations.
use Rattle.std.specs.Prelude.{List, [], ◌∷◌}
use Rattle.bk_form.specs.declared.operator.UnOp.TheVariants.{Not, Dom, Ran, Id, Inverse, Single, Pow}
use Rattle.bk_form.specs.declared.operator.BinOp.TheVariants.{And, Or, Eq, In, PartialFunctions, Union, Inter, Minus, Times}
use Rattle.bk_form.specs.declared.operator.BinOp.TheVariants.{DomRes, RanRes, DomSub, RanSub, Over, Maps, Image, Apply, Comp}
use Rattle.bk_laws.specs.Patterns.{one, two, always, an_empty}
use Rattle.bk_laws.specs.Rows.{Row, same, same_if, row_of_one, row_of_two, row_of_three, row_of_four}

-- M1: `x |-> y : r~` is `y |-> x : r`
abbrev pub m1 : Row
m1 = row_of_three 301 (λ x y r. same (two In (two Maps x y) (one Inverse r)) (two In (two Maps y x) r))

-- M2: `x |-> y : S <| r` is `x : S & x |-> y : r`
abbrev pub m2 : Row
m2 = row_of_four 302 (λ x y S r. same (two In (two Maps x y) (two DomRes S r)) (two And (two In x S) (two In (two Maps x y) r)))

-- M3: `x |-> y : S <<| r` is `not(x : S) & x |-> y : r`
abbrev pub m3 : Row
m3 = row_of_four 303 (λ x y S r. same (two In (two Maps x y) (two DomSub S r)) (two And (one Not (two In x S)) (two In (two Maps x y) r)))

-- M4: `x |-> y : r |> S` is `x |-> y : r & y : S`
abbrev pub m4 : Row
m4 = row_of_four 304 (λ x y r S. same (two In (two Maps x y) (two RanRes r S)) (two And (two In (two Maps x y) r) (two In y S)))

-- M5: `x |-> y : r |>> S` is `x |-> y : r & not(y : S)`
abbrev pub m5 : Row
m5 = row_of_four 305 (λ x y r S. same (two In (two Maps x y) (two RanSub r S)) (two And (two In (two Maps x y) r) (one Not (two In y S))))

-- M6: `x |-> y : id(S)` is `x : S & x = y`
abbrev pub m6 : Row
m6 = row_of_three 306 (λ x y S. same (two In (two Maps x y) (one Id S)) (two And (two In x S) (two Eq x y)))

-- M7: `x |-> y : r <+ s` is `x |-> y : s or (x |-> y : r & not(x : dom(s)))`
abbrev pub m7 : Row
m7 = row_of_four 307 (λ x y r s. same (two In (two Maps x y) (two Over r s))
    (two Or (two In (two Maps x y) s) (two And (two In (two Maps x y) r) (one Not (two In x (one Dom s))))))

-- M8: `x : dom(r)` is `btrue` if `x |-> y : r`
abbrev pub m8 : Row
m8 = row_of_three 308 (λ x r y. same_if (two In x (one Dom r)) always ((two In (two Maps x y) r) ∷ []))

-- M9: `y : ran(r)` is `btrue` if `x |-> y : r`
abbrev pub m9 : Row
m9 = row_of_three 309 (λ y r x. same_if (two In y (one Ran r)) always ((two In (two Maps x y) r) ∷ []))

-- M10: `dom(o)` is `p`
abbrev pub m10 : Row
m10 = row_of_two 310 (λ o p. same (one Dom (an_empty o)) (an_empty p))

-- M11: `ran(o)` is `p`
abbrev pub m11 : Row
m11 = row_of_two 311 (λ o p. same (one Ran (an_empty o)) (an_empty p))

-- M12: `dom({x |-> y})` is `{x}`
abbrev pub m12 : Row
m12 = row_of_two 312 (λ x y. same (one Dom (one Single (two Maps x y))) (one Single x))

-- M13: `ran({x |-> y})` is `{y}`
abbrev pub m13 : Row
m13 = row_of_two 313 (λ x y. same (one Ran (one Single (two Maps x y))) (one Single y))

-- M14: `dom(r \/ s)` is `dom(r) \/ dom(s)`
abbrev pub m14 : Row
m14 = row_of_two 314 (λ r s. same (one Dom (two Union r s)) (two Union (one Dom r) (one Dom s)))

-- M15: `ran(r \/ s)` is `ran(r) \/ ran(s)`
abbrev pub m15 : Row
m15 = row_of_two 315 (λ r s. same (one Ran (two Union r s)) (two Union (one Ran r) (one Ran s)))

-- M16: `dom(r~)` is `ran(r)`
abbrev pub m16 : Row
m16 = row_of_one 316 (λ r. same (one Dom (one Inverse r)) (one Ran r))

-- M17: `ran(r~)` is `dom(r)`
abbrev pub m17 : Row
m17 = row_of_one 317 (λ r. same (one Ran (one Inverse r)) (one Dom r))

-- M18: `dom(S <| r)` is `S /\ dom(r)`
abbrev pub m18 : Row
m18 = row_of_two 318 (λ S r. same (one Dom (two DomRes S r)) (two Inter S (one Dom r)))

-- M19: `dom(S <<| r)` is `dom(r) - S`
abbrev pub m19 : Row
m19 = row_of_two 319 (λ S r. same (one Dom (two DomSub S r)) (two Minus (one Dom r) S))

-- M20: `ran(r |> S)` is `ran(r) /\ S`
abbrev pub m20 : Row
m20 = row_of_two 320 (λ r S. same (one Ran (two RanRes r S)) (two Inter (one Ran r) S))

-- M21: `ran(r |>> S)` is `ran(r) - S`
abbrev pub m21 : Row
m21 = row_of_two 321 (λ r S. same (one Ran (two RanSub r S)) (two Minus (one Ran r) S))

-- M22: `dom(r <+ s)` is `dom(r) \/ dom(s)`
abbrev pub m22 : Row
m22 = row_of_two 322 (λ r s. same (one Dom (two Over r s)) (two Union (one Dom r) (one Dom s)))

-- M23: `ran(r <+ s) : POW(A)` is `btrue` if `ran(r) : POW(A)`, `ran(s) : POW(A)`
abbrev pub m23 : Row
m23 = row_of_three 323 (λ r s A.
    same_if (two In (one Ran (two Over r s)) (one Pow A)) always ((two In (one Ran r) (one Pow A)) ∷ (two In (one Ran s) (one Pow A)) ∷ []))

-- M24: `dom(id(S))` is `S`
abbrev pub m24 : Row
m24 = row_of_one 324 (λ S. same (one Dom (one Id S)) S)

-- M25: `dom(S * T)` is `S` if `not(T = o)`
abbrev pub m25 : Row
m25 = row_of_three 325 (λ S T o. same_if (one Dom (two Times S T)) S ((one Not (two Eq T (an_empty o))) ∷ []))

-- M26: `ran(S * T)` is `T` if `not(S = o)`
abbrev pub m26 : Row
m26 = row_of_three 326 (λ S T o. same_if (one Ran (two Times S T)) T ((one Not (two Eq S (an_empty o))) ∷ []))

-- M27: `r~~` is `r`
abbrev pub m27 : Row
m27 = row_of_one 327 (λ r. same (one Inverse (one Inverse r)) r)

-- M28: `(r \/ s)~` is `r~ \/ s~`
abbrev pub m28 : Row
m28 = row_of_two 328 (λ r s. same (one Inverse (two Union r s)) (two Union (one Inverse r) (one Inverse s)))

-- M29: `(r ; s)~` is `(s~ ; r~)`
abbrev pub m29 : Row
m29 = row_of_two 329 (λ r s. same (one Inverse (two Comp r s)) (two Comp (one Inverse s) (one Inverse r)))

-- M30: `((r ; s) ; t)` is `(r ; (s ; t))`
abbrev pub m30 : Row
m30 = row_of_three 330 (λ r s t. same (two Comp (two Comp r s) t) (two Comp r (two Comp s t)))

-- M31: `r[S \/ T]` is `r[S] \/ r[T]`
abbrev pub m31 : Row
m31 = row_of_three 331 (λ r S T. same (two Image r (two Union S T)) (two Union (two Image r S) (two Image r T)))

-- M32: `r[o]` is `p`
abbrev pub m32 : Row
m32 = row_of_three 332 (λ r o p. same (two Image r (an_empty o)) (an_empty p))

-- M33: `r[{x}]` is `{r(x)}` if `r : A +-> B`, `x : dom(r)`
abbrev pub m33 : Row
m33 = row_of_four 333 (λ r x A B.
    same_if (two Image r (one Single x)) (one Single (two Apply r x)) ((two In r (two PartialFunctions A B)) ∷ (two In x (one Dom r)) ∷ []))

-- M34: `r <+ o` is `r`
abbrev pub m34 : Row
m34 = row_of_two 334 (λ r o. same (two Over r (an_empty o)) r)

-- M35: `o <+ r` is `r`
abbrev pub m35 : Row
m35 = row_of_two 335 (λ o r. same (two Over (an_empty o) r) r)

-- M36: `S <| (T <| r)` is `(S /\ T) <| r`
abbrev pub m36 : Row
m36 = row_of_three 336 (λ S T r. same (two DomRes S (two DomRes T r)) (two DomRes (two Inter S T) r))

-- in the order of their numbers
abbrev pub relation_rows : List Row
relation_rows =
    m1 ∷ m2 ∷ m3 ∷ m4 ∷ m5 ∷ m6 ∷ m7 ∷ m8 ∷ m9 ∷ m10 ∷
    m11 ∷ m12 ∷ m13 ∷ m14 ∷ m15 ∷ m16 ∷ m17 ∷ m18 ∷ m19 ∷ m20 ∷
    m21 ∷ m22 ∷ m23 ∷ m24 ∷ m25 ∷ m26 ∷ m27 ∷ m28 ∷ m29 ∷ m30 ∷
    m31 ∷ m32 ∷ m33 ∷ m34 ∷ m35 ∷ m36 ∷
    []
