-- An instance of a law of sequences is within the limits only where its picks are; with another number of picks there is none.
use Rattle.std.proofs.Common.{◌≡◌, refl, sym, subst, ℕ, zero, suc, ◌≤◌, ◌<◌, List, [], ◌∷◌, length, Bool, true, false, cond, nat_eq, arith}
use Rattle.std.specs.Prelude.{◌≢◌, Some, None}
use Rattle.std.proofs.lemmas.Bool.Decides.{nat_tests}
use Rattle.bk_form.specs.Each.{Each}
use Rattle.bk_form.specs.Formula.{Formula, formula_size, formula_height}
use Rattle.bk_bind.specs.Limits.{IsWithinLimits}
use Rattle.bk_laws.specs.Rows.{Instance, pick_at}
use Rattle.bk_form.specs.Expansion.{card_of, append, prepend}
use Rattle.bk_seqs.specs.Rows.{Row, row_named, instance_of_row, instance_at, rows, sequence_over, q1, q2, q3, q4, q5, q6, q7, q8, q9, q10, q11, q12, q13, q14, q15, q16}

-- each formula of the instance is
abbrev pub IsWithinInstance : Instance → Type 0
IsWithinInstance i = Each IsWithinLimits i.sides × IsWithinLimits i.left × IsWithinLimits i.right

-- ---- parts
left-of-sequence : (s b : Formula) → IsWithinLimits (sequence_over s b) → IsWithinLimits s
left-of-sequence s b w = record { nodes = omega (arith, w.nodes); height = omega (arith, w.height) }

right-of-sequence : (s b : Formula) → IsWithinLimits (sequence_over s b) → IsWithinLimits b
right-of-sequence s b w = record { nodes = omega (arith, w.nodes); height = omega (arith, w.height) }

append-right : (s x : Formula) → IsWithinLimits (append s x) → IsWithinLimits x
append-right s x w = record { nodes = omega (arith, w.nodes); height = omega (arith, w.height) }

prepend-left : (x s : Formula) → IsWithinLimits (prepend x s) → IsWithinLimits x
prepend-left x s w = record { nodes = omega (arith, w.nodes); height = omega (arith, w.height) }

prepend-right : (x s : Formula) → IsWithinLimits (prepend x s) → IsWithinLimits s
prepend-right x s w = record { nodes = omega (arith, w.nodes); height = omega (arith, w.height) }

-- of a formula with this one in it
smaller : (f g : Formula) → formula_size g ≤ formula_size f → formula_height g ≤ formula_height f → IsWithinLimits f → IsWithinLimits g
smaller f g m n w = record { nodes = omega (arith, m, w.nodes); height = omega (arith, n, w.height) }

-- ---- letters
abbrev Below : ℕ → (ℕ → Formula) → Type 0
Below n p = (k : ℕ) → k < n → IsWithinLimits (p k)

two-letters : (p : ℕ → Formula) → IsWithinLimits (p 0) → IsWithinLimits (p 1) → Below 2 p
two-letters p a b zero h = a
two-letters p a b (suc zero) h = b
two-letters p a b (suc (suc k)) h = absurd (omega arith)

three-letters : (p : ℕ → Formula) → IsWithinLimits (p 0) → IsWithinLimits (p 1) → IsWithinLimits (p 2) → Below 3 p
three-letters p a b c zero h = a
three-letters p a b c (suc zero) h = b
three-letters p a b c (suc (suc zero)) h = c
three-letters p a b c (suc (suc (suc k))) h = absurd (omega arith)

four-letters : (p : ℕ → Formula) → IsWithinLimits (p 0) → IsWithinLimits (p 1) → IsWithinLimits (p 2) → IsWithinLimits (p 3) → Below 4 p
four-letters p a b c d zero h = a
four-letters p a b c d (suc zero) h = b
four-letters p a b c d (suc (suc zero)) h = c
four-letters p a b c d (suc (suc (suc zero))) h = d
four-letters p a b c d (suc (suc (suc (suc k)))) h = absurd (omega arith)

-- ---- rows
abbrev Covered : Row → Type 0
Covered row = (p : ℕ → Formula) → IsWithinInstance (row.at p) → Below row.letters p

in-q1 : Covered q1
in-q1 p w = three-letters p (left-of-sequence (p 0) (p 2) w.0.0) (append-right (p 0) (p 1) (smaller (card_of (append (p 0) (p 1))) (append (p 0) (p 1)) (omega arith) (omega arith) w.1)) (right-of-sequence (p 0) (p 2) w.0.0)

in-q2 : Covered q2
in-q2 p w = three-letters p (left-of-sequence (p 0) (p 2) w.0.0) (record { nodes = omega (arith, w.0.1.0.nodes); height = omega (arith, w.0.1.0.height) }) (right-of-sequence (p 0) (p 2) w.0.0)

in-q3 : Covered q3
in-q3 p w = three-letters p (left-of-sequence (p 0) (p 2) w.0.0) w.2 (right-of-sequence (p 0) (p 2) w.0.0)

in-q4 : Covered q4
in-q4 p w = four-letters p (left-of-sequence (p 0) (p 3) w.0.0) (append-right (p 0) (p 1) (record { nodes = omega (arith, w.1.nodes); height = omega (arith, w.1.height) })) (record { nodes = omega (arith, w.0.1.0.nodes); height = omega (arith, w.0.1.0.height) }) (right-of-sequence (p 0) (p 3) w.0.0)

in-q5 : Covered q5
in-q5 p w = two-letters p (left-of-sequence (p 0) (p 1) w.0.0) (right-of-sequence (p 0) (p 1) w.0.0)

in-q6 : Covered q6
in-q6 p w = two-letters p (left-of-sequence (p 0) (p 1) w.0.0) (right-of-sequence (p 0) (p 1) w.0.0)

in-q7 : Covered q7
in-q7 p w = two-letters p (left-of-sequence (p 0) (p 1) w.0.0) (right-of-sequence (p 0) (p 1) w.0.0)

in-q8 : Covered q8
in-q8 p w = two-letters p (left-of-sequence (p 0) (p 1) w.0.0) (right-of-sequence (p 0) (p 1) w.0.0)

in-q9 : Covered q9
in-q9 p w = two-letters p (left-of-sequence (p 0) (p 1) w.0.0) (right-of-sequence (p 0) (p 1) w.0.0)

in-q10 : Covered q10
in-q10 p w = two-letters p (left-of-sequence (p 0) (p 1) w.0.0) (right-of-sequence (p 0) (p 1) w.0.0)

in-q11 : Covered q11
in-q11 p w = two-letters p (left-of-sequence (p 0) (p 1) w.0.0) (right-of-sequence (p 0) (p 1) w.0.0)

in-q12 : Covered q12
in-q12 p w = three-letters p (left-of-sequence (p 0) (p 2) w.0.0) (left-of-sequence (p 1) (p 2) w.0.1.0) (right-of-sequence (p 0) (p 2) w.0.0)

in-q13 : Covered q13
in-q13 p w = three-letters p (left-of-sequence (p 0) (p 2) w.0.0) (left-of-sequence (p 1) (p 2) w.0.1.0) (right-of-sequence (p 0) (p 2) w.0.0)

in-q14 : Covered q14
in-q14 p w = three-letters p (prepend-left (p 0) (p 1) (record { nodes = omega (arith, w.1.nodes); height = omega (arith, w.1.height) })) (left-of-sequence (p 1) (p 2) w.0.0) (right-of-sequence (p 1) (p 2) w.0.0)

in-q15 : Covered q15
in-q15 p w = three-letters p (record { nodes = omega (arith, w.0.1.0.nodes); height = omega (arith, w.0.1.0.height) }) (left-of-sequence (p 1) (p 2) w.0.0) (right-of-sequence (p 1) (p 2) w.0.0)

in-q16 : Covered q16
in-q16 p w = two-letters p w.2 (prepend-right (p 0) (p 1) (record { nodes = omega (arith, w.1.nodes); height = omega (arith, w.1.height) }))

abbrev AllCovered : List Row → Type 0
AllCovered [] = Unit {0}
AllCovered (row ∷ rest) = Covered row × AllCovered rest

all-covered : AllCovered rows
unfolding rows
all-covered = (in-q1, (in-q2, (in-q3, (in-q4, (in-q5, (in-q6, (in-q7, (in-q8, (in-q9, (in-q10, (in-q11, (in-q12, (in-q13, (in-q14, (in-q15, (in-q16, tt))))))))))))))))

-- ---- the table
each-of : (picks : List Formula) → Below (length picks) (pick_at picks) → Each IsWithinLimits picks
each-of [] h = tt
each-of (p ∷ ps) h = (h 0 (omega arith), each-of ps (λ k l. h (suc k) (omega arith)))

some-same : (i j : Instance) → Some i ≡ Some j → i ≡ j
some-same i j h = cc

nat_eq-same : (m n : ℕ) → nat_eq m n ≡ true → m ≡ n
nat_eq-same m n h = grind (arith, nat_tests)

-- with another number of picks there is no instance
pub no-instance : (row : Row) (picks : List Formula) → length picks ≢ row.letters → instance_of_row picks (Some row) ≡ None
no-instance row picks other = by_test (nat_eq (length picks) row.letters) refl
  where
    by_test : (b : Bool) → nat_eq (length picks) row.letters ≡ b → cond b (Some (row.at (pick_at picks))) None ≡ None
    by_test true e = absurd (other (nat_eq-same (length picks) row.letters e))
    by_test false e = refl

of-picks : (row : Row) → Covered row → (picks : List Formula) (i : Instance) (b : Bool) → nat_eq (length picks) row.letters ≡ b → cond b (Some (row.at (pick_at picks))) None ≡ Some i → IsWithinInstance i → Each IsWithinLimits picks
of-picks row covered picks i true e h w = each-of picks (subst (λ n. Below n (pick_at picks)) (sym (nat_eq-same (length picks) row.letters e)) (covered (pick_at picks) (subst IsWithinInstance (sym (some-same (row.at (pick_at picks)) i h)) w)))
of-picks row covered picks i false e h w = absurd (cc)

table-within : (table : List Row) → AllCovered table → (name : ℕ) (picks : List Formula) (i : Instance) → instance_at table name picks ≡ Some i → IsWithinInstance i → Each IsWithinLimits picks
table-within [] all name picks i h w = absurd (cc)
table-within (row ∷ table) all name picks i h w = by_name (table-within table all.1 name picks i) (nat_eq row.name name) h
  where
    by_name : (instance_of_row picks (row_named table name) ≡ Some i → IsWithinInstance i → Each IsWithinLimits picks) → (b : Bool) → instance_of_row picks (cond b (Some row) (row_named table name)) ≡ Some i → Each IsWithinLimits picks
    by_name on true k = of-picks row all.0 picks i (nat_eq (length picks) row.letters) refl k w
    by_name on false k = on k w

pub picks-within : (name : ℕ) (picks : List Formula) (i : Instance) → instance_at rows name picks ≡ Some i → IsWithinInstance i → Each IsWithinLimits picks
picks-within name picks i h w = table-within rows all-covered name picks i h w
