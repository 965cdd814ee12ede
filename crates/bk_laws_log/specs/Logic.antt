-- The laws of logic: row Gn has the number n. P, Q and R are predicates, x and y any terms.
-- Source: after the B-Book's laws of predicates and equality.
use Rattle.std.specs.Prelude.{List, true, [], ◌∷◌, false}
use Rattle.bk_form.specs.declared.operator.UnOp.TheVariants.{Not, BoolOf}
use Rattle.bk_form.specs.declared.operator.BinOp.TheVariants.{And, Or, Imp, Iff, Eq}
use Rattle.bk_laws.specs.Patterns.{one, two, always, never, truth_word}
use Rattle.bk_laws.specs.Rows.{Row, same, row_with, row_of_one, row_of_two, row_of_three}

-- G1: `not(not(P))` is `P`
abbrev pub g1 : Row
g1 = row_of_one 1 (λ P. same (one Not (one Not P)) P)

-- G2: `not(P & Q)` is `not(P) or not(Q)`
abbrev pub g2 : Row
g2 = row_of_two 2 (λ P Q. same (one Not (two And P Q)) (two Or (one Not P) (one Not Q)))

-- G3: `not(P or Q)` is `not(P) & not(Q)`
abbrev pub g3 : Row
g3 = row_of_two 3 (λ P Q. same (one Not (two Or P Q)) (two And (one Not P) (one Not Q)))

-- G4: `not(P => Q)` is `P & not(Q)`
abbrev pub g4 : Row
g4 = row_of_two 4 (λ P Q. same (one Not (two Imp P Q)) (two And P (one Not Q)))

-- G5: `P => Q` is `not(P) or Q`
abbrev pub g5 : Row
g5 = row_of_two 5 (λ P Q. same (two Imp P Q) (two Or (one Not P) Q))

-- G6: `P <=> Q` is `(P => Q) & (Q => P)`
abbrev pub g6 : Row
g6 = row_of_two 6 (λ P Q. same (two Iff P Q) (two And (two Imp P Q) (two Imp Q P)))

-- G7: `P & Q` is `Q & P`
abbrev pub g7 : Row
g7 = row_of_two 7 (λ P Q. same (two And P Q) (two And Q P))

-- G8: `P or Q` is `Q or P`
abbrev pub g8 : Row
g8 = row_of_two 8 (λ P Q. same (two Or P Q) (two Or Q P))

-- G9: `(P & Q) & R` is `P & (Q & R)`
abbrev pub g9 : Row
g9 = row_of_three 9 (λ P Q R. same (two And (two And P Q) R) (two And P (two And Q R)))

-- G10: `(P or Q) or R` is `P or (Q or R)`
abbrev pub g10 : Row
g10 = row_of_three 10 (λ P Q R. same (two Or (two Or P Q) R) (two Or P (two Or Q R)))

-- G11: `P & (Q or R)` is `(P & Q) or (P & R)`
abbrev pub g11 : Row
g11 = row_of_three 11 (λ P Q R. same (two And P (two Or Q R)) (two Or (two And P Q) (two And P R)))

-- G12: `P or (Q & R)` is `(P or Q) & (P or R)`
abbrev pub g12 : Row
g12 = row_of_three 12 (λ P Q R. same (two Or P (two And Q R)) (two And (two Or P Q) (two Or P R)))

-- G13: `btrue & P` is `P`
abbrev pub g13 : Row
g13 = row_of_one 13 (λ P. same (two And always P) P)

-- G14: `bfalse & P` is `bfalse`
abbrev pub g14 : Row
g14 = row_of_one 14 (λ P. same (two And never P) never)

-- G15: `btrue or P` is `btrue`
abbrev pub g15 : Row
g15 = row_of_one 15 (λ P. same (two Or always P) always)

-- G16: `bfalse or P` is `P`
abbrev pub g16 : Row
g16 = row_of_one 16 (λ P. same (two Or never P) P)

-- G17: `btrue => P` is `P`
abbrev pub g17 : Row
g17 = row_of_one 17 (λ P. same (two Imp always P) P)

-- G18: `P => btrue` is `btrue`
abbrev pub g18 : Row
g18 = row_of_one 18 (λ P. same (two Imp P always) always)

-- G19: `not(btrue)` is `bfalse`
abbrev pub g19 : Row
g19 = row_with 19 0 (same (one Not always) never)

-- G20: `not(bfalse)` is `btrue`
abbrev pub g20 : Row
g20 = row_with 20 0 (same (one Not never) always)

-- G21: `P & P` is `P`
abbrev pub g21 : Row
g21 = row_of_one 21 (λ P. same (two And P P) P)

-- G22: `x = y` is `y = x`
abbrev pub g22 : Row
g22 = row_of_two 22 (λ x y. same (two Eq x y) (two Eq y x))

-- G23: `x = x` is `btrue`
abbrev pub g23 : Row
g23 = row_of_one 23 (λ x. same (two Eq x x) always)

-- G24: `bool(P) = TRUE` is `P`
abbrev pub g24 : Row
g24 = row_of_one 24 (λ P. same (two Eq (one BoolOf P) (truth_word true)) P)

-- G25: `bool(P) = FALSE` is `not(P)`
abbrev pub g25 : Row
g25 = row_of_one 25 (λ P. same (two Eq (one BoolOf P) (truth_word false)) (one Not P))

-- G26: `not(x = TRUE)` is `x = FALSE`
abbrev pub g26 : Row
g26 = row_of_one 26 (λ x. same (one Not (two Eq x (truth_word true))) (two Eq x (truth_word false)))

-- G27: `not(x = FALSE)` is `x = TRUE`
abbrev pub g27 : Row
g27 = row_of_one 27 (λ x. same (one Not (two Eq x (truth_word false))) (two Eq x (truth_word true)))

-- G28: `P => (Q => R)` is `(P & Q) => R`
abbrev pub g28 : Row
g28 = row_of_three 28 (λ P Q R. same (two Imp P (two Imp Q R)) (two Imp (two And P Q) R))

-- in the order of their numbers
abbrev pub logic_rows : List Row
logic_rows =
    g1 ∷ g2 ∷ g3 ∷ g4 ∷ g5 ∷ g6 ∷ g7 ∷ g8 ∷ g9 ∷ g10 ∷
    g11 ∷ g12 ∷ g13 ∷ g14 ∷ g15 ∷ g16 ∷ g17 ∷ g18 ∷ g19 ∷ g20 ∷
    g21 ∷ g22 ∷ g23 ∷ g24 ∷ g25 ∷ g26 ∷ g27 ∷ g28 ∷
    []
