-- The sum that a row without atoms stands for is a certificate that is accepted.
use Rattle.std.proofs.Common.{◌≡◌, ℕ, zero, suc, ◌+◌, ◌*◌, ◌^◌, ◌<◌, ◌≤◌, ℤ, pos, negsuc, ◌+ℤ◌, ◌*ℤ◌, ◌≤ℤ◌, ◌<ℤ◌, Bool, true, false, ◌&&◌, cond, inl, inr, List, [], ◌∷◌, ◌++◌, map, replicate, length, All, refl, ap, sym, ◌∙◌, arith, get_or, Some, None, nat_lt, int_le}
use Rattle.std.specs.Prelude.{int_lt, nat_le}
use Rattle.std.specs.List.{list_all}
use Rattle.std.specs.Option.{option_or}
use Rattle.std.specs.Ordering.{int_eq}
use Rattle.std.specs.Int.RustNames.{unsigned_abs}
use Rattle.std.proofs.Math.IntN.{zero-*ℤ, +ℤ_idl, +ℤ_idr}
use Rattle.std.proofs.lemmas.Int.{ints}
use Rattle.std.proofs.lemmas.Bool.Decides.{nat_tests}
use Rattle.std.proofs.lemmas.Bool.{cases_Bool}
use Rattle.std.proofs.lemmas.List.Elements.{All-head, All-tail}
use Rattle.bk_val.specs.Value.{fits_i128}
use Rattle.bk_lin.specs.Inequality.{Inequality, zero_of, times, plus, plus_all, partial_sums, is_narrow}
use Rattle.bk_lin.specs.declared.fact.Line.{Line}
use Rattle.bk_lin.specs.declared.fact.CertFault.TheVariants.{BadLine, Negative, TooWide, NotClosed}
use Rattle.bk_lin.specs.Certificate.{line_fault, line_fact, is_number, fact_at, multiples_of, sum_fact, sums_fit, sum_fault}
use Rattle.bk_lin.specs.Answer.{is_contradiction, is_closed, certificate_fault}
use Rattle.bk_elim.specs.Elimination.{entry}
use Rattle.bk_elim.specs.Refutation.{IsSmall, IsSmallSystem}
use Rattle.bk_elim.specs.Rows.{total, coefs_at, constants, limit, growth, IsRow, parts_from}
use Rattle.bk_elim.proofs.Rows.{entry-times, entry-sum, length-times, length-sum, abs-product, abs-sum, small_entry}

int_eq-then : (a b : ℤ) → int_eq a b ≡ true → a ≡ b
int_eq-then a b h = grind (arith, ints)

int_eq-if : (a b : ℤ) → a ≡ b → int_eq a b ≡ true
int_eq-if a b h = grind (arith, ints)

int_lt-if : (a b : ℤ) → a <ℤ b → int_lt a b ≡ true
int_lt-if a b h = grind (arith, ints)

int_le-if : (a b : ℤ) → a ≤ℤ b → int_le a b ≡ true
int_le-if a b h = grind (arith, ints)

nat_lt-if : (a b : ℕ) → a < b → nat_lt a b ≡ true
nat_lt-if a b h = grind (arith, nat_tests)

nat_le-if : (a b : ℕ) → a ≤ b → nat_le a b ≡ true
nat_le-if a b h = grind (arith, nat_tests)

both-true : (a b : Bool) → a ≡ true → b ≡ true → (a && b) ≡ true
both-true true b h k = k
both-true false b h k = cc

-- ---- the sum's entries
-- the inequality that a number stands for, where the inequalities from j on are qs
abbrev Stand : List Inequality → List Inequality → ℕ → Type 0
Stand ps qs j = (i : ℕ) (d : Inequality) → i < length qs → get_or ps (j + i) d ≡ get_or qs i d

stand_more : (ps qs : List Inequality) (q : Inequality) (j : ℕ) → Stand ps (q ∷ qs) j → Stand ps qs (suc j)
stand_more ps qs q j s i d h = ap (λ n. get_or ps n d) (omega arith) ∙ s (suc i) d (omega arith)

stand_here : (ps qs : List Inequality) (q : Inequality) (j : ℕ) → Stand ps (q ∷ qs) j → fact_at ps (suc j) ≡ q
stand_here ps qs q j s = ap (λ n. get_or ps n (zero_of 0)) (omega arith) ∙ s 0 (zero_of 0) (omega arith)

onward : (a b c : ℤ) → (a +ℤ b) +ℤ c ≡ a +ℤ (b +ℤ c)
onward a b c = omega (arith, ints)

skipped : (a m v t : ℤ) → m ≡ pos 0 → a +ℤ t ≡ a +ℤ (m *ℤ v +ℤ t)
skipped a m v t h = let e : m *ℤ v ≡ pos 0 = ap (λ w. w *ℤ v) h ∙ zero-*ℤ v in omega (arith, ints)

-- the parts of a sum, from a row, for the inequalities qs from j on
abbrev products : List Inequality → List Inequality → ℕ → List ℤ → List Inequality
products ps qs j row = multiples_of ps (parts_from (length qs) j row)

products-skip : (ps qs : List Inequality) (q : Inequality) (j : ℕ) (row : List ℤ) → int_eq (entry row (5 + j)) (pos 0) ≡ true → products ps (q ∷ qs) j row ≡ products ps qs (suc j) row
products-skip ps qs q j row h = ap (λ b. multiples_of ps (cond b (parts_from (length qs) (suc j) row) ((entry row (5 + j), suc j) ∷ parts_from (length qs) (suc j) row))) h

products-take : (ps qs : List Inequality) (q : Inequality) (j : ℕ) (row : List ℤ) → int_eq (entry row (5 + j)) (pos 0) ≡ false → products ps (q ∷ qs) j row ≡ times (entry row (5 + j)) (fact_at ps (suc j)) ∷ products ps qs (suc j) row
products-take ps qs q j row h = ap (λ b. multiples_of ps (cond b (parts_from (length qs) (suc j) row) ((entry row (5 + j), suc j) ∷ parts_from (length qs) (suc j) row))) h

sum_coef : (k : ℕ) (ps qs : List Inequality) (j : ℕ) (row : List ℤ) (z : Inequality) → Stand ps qs j → entry (plus_all z (products ps qs j row)).coefs k ≡ entry z.coefs k +ℤ total (coefs_at k qs) (5 + j) row
sum_coef k ps [] j row z s = sym (+ℤ_idr (entry z.coefs k))
sum_coef k ps (q ∷ qs) j row z s = elim (cases_Bool (int_eq (entry row (5 + j)) (pos 0))) as (λ _. entry (plus_all z (products ps (q ∷ qs) j row)).coefs k ≡ entry z.coefs k +ℤ total (coefs_at k (q ∷ qs)) (5 + j) row) [
  | inl h ↦ ap (λ xs. entry (plus_all z xs).coefs k) (products-skip ps qs q j row h)
      ∙ sum_coef k ps qs (suc j) row z (stand_more ps qs q j s)
      ∙ skipped (entry z.coefs k) (entry row (5 + j)) (entry q.coefs k) (total (coefs_at k qs) (5 + suc j) row) (int_eq-then (entry row (5 + j)) (pos 0) h)
      ∙ ap (λ n. entry z.coefs k +ℤ (entry row (5 + j) *ℤ entry q.coefs k +ℤ total (coefs_at k qs) n row)) (omega arith)
  | inr h ↦ ap (λ xs. entry (plus_all z xs).coefs k) (products-take ps qs q j row h)
      ∙ sum_coef k ps qs (suc j) row (plus z (times (entry row (5 + j)) (fact_at ps (suc j)))) (stand_more ps qs q j s)
      ∙ ap (λ w. w +ℤ total (coefs_at k qs) (5 + suc j) row) (entry-sum z.coefs (map (λ c. entry row (5 + j) *ℤ c) (fact_at ps (suc j)).coefs) k)
      ∙ ap (λ w. (entry z.coefs k +ℤ w) +ℤ total (coefs_at k qs) (5 + suc j) row) (entry-times (entry row (5 + j)) (fact_at ps (suc j)).coefs k)
      ∙ ap (λ f. (entry z.coefs k +ℤ entry row (5 + j) *ℤ entry (Inequality.coefs f) k) +ℤ total (coefs_at k qs) (5 + suc j) row) (stand_here ps qs q j s)
      ∙ onward (entry z.coefs k) (entry row (5 + j) *ℤ entry q.coefs k) (total (coefs_at k qs) (5 + suc j) row)
      ∙ ap (λ n. entry z.coefs k +ℤ (entry row (5 + j) *ℤ entry q.coefs k +ℤ total (coefs_at k qs) n row)) (omega arith)
]

sum_constant : (ps qs : List Inequality) (j : ℕ) (row : List ℤ) (z : Inequality) → Stand ps qs j → (plus_all z (products ps qs j row)).constant ≡ z.constant +ℤ total (constants qs) (5 + j) row
sum_constant ps [] j row z s = sym (+ℤ_idr z.constant)
sum_constant ps (q ∷ qs) j row z s = elim (cases_Bool (int_eq (entry row (5 + j)) (pos 0))) as (λ _. (plus_all z (products ps (q ∷ qs) j row)).constant ≡ z.constant +ℤ total (constants (q ∷ qs)) (5 + j) row) [
  | inl h ↦ ap (λ xs. (plus_all z xs).constant) (products-skip ps qs q j row h)
      ∙ sum_constant ps qs (suc j) row z (stand_more ps qs q j s)
      ∙ skipped z.constant (entry row (5 + j)) q.constant (total (constants qs) (5 + suc j) row) (int_eq-then (entry row (5 + j)) (pos 0) h)
      ∙ ap (λ n. z.constant +ℤ (entry row (5 + j) *ℤ q.constant +ℤ total (constants qs) n row)) (omega arith)
  | inr h ↦ ap (λ xs. (plus_all z xs).constant) (products-take ps qs q j row h)
      ∙ sum_constant ps qs (suc j) row (plus z (times (entry row (5 + j)) (fact_at ps (suc j)))) (stand_more ps qs q j s)
      ∙ ap (λ f. (z.constant +ℤ entry row (5 + j) *ℤ Inequality.constant f) +ℤ total (constants qs) (5 + suc j) row) (stand_here ps qs q j s)
      ∙ onward z.constant (entry row (5 + j) *ℤ q.constant) (total (constants qs) (5 + suc j) row)
      ∙ ap (λ n. z.constant +ℤ (entry row (5 + j) *ℤ q.constant +ℤ total (constants qs) n row)) (omega arith)
]

sum_wide : (width : ℕ) (ps qs : List Inequality) (j : ℕ) (row : List ℤ) (z : Inequality) → Stand ps qs j → All (λ q. length q.coefs ≡ width) qs → length z.coefs ≡ width → length (plus_all z (products ps qs j row)).coefs ≡ width
sum_wide width ps [] j row z s h k = k
sum_wide width ps (q ∷ qs) j row z s h k = elim (cases_Bool (int_eq (entry row (5 + j)) (pos 0))) as (λ _. length (plus_all z (products ps (q ∷ qs) j row)).coefs ≡ width) [
  | inl f ↦ ap (λ xs. length (plus_all z xs).coefs) (products-skip ps qs q j row f)
      ∙ sum_wide width ps qs (suc j) row z (stand_more ps qs q j s) (All-tail (λ p. length p.coefs ≡ width) q qs h) k
  | inr f ↦ ap (λ xs. length (plus_all z xs).coefs) (products-take ps qs q j row f)
      ∙ sum_wide width ps qs (suc j) row (plus z (times (entry row (5 + j)) (fact_at ps (suc j)))) (stand_more ps qs q j s) (All-tail (λ p. length p.coefs ≡ width) q qs h)
      (length-sum z.coefs (map (λ c. entry row (5 + j) *ℤ c) (fact_at ps (suc j)).coefs)
      (k ∙ sym (length-times (entry row (5 + j)) (fact_at ps (suc j)).coefs ∙ ap (λ p. length (Inequality.coefs p)) (stand_here ps qs q j s) ∙ All-head (λ p. length p.coefs ≡ width) q qs h))
      ∙ k)
]

-- ---- the sum's width in bits
pub fits-if : (z : ℤ) → unsigned_abs z < 2 ^ 127 → fits_i128 z ≡ true
fits-if (pos n) h = nat_lt-if n (2 ^ 127) h
fits-if (negsuc n) h = nat_lt-if n (2 ^ 127) (omega arith)

all_fit : (cs : List ℤ) (n : ℕ) → n < 2 ^ 127 → ((k : ℕ) → unsigned_abs (entry cs k) ≤ n) → list_all fits_i128 cs ≡ true
all_fit [] n h b = refl
all_fit (c ∷ cs) n h b = both-true (fits_i128 c) (list_all fits_i128 cs) (fits-if c (let e = b 0 in omega arith)) (all_fit cs n h (λ k. b (suc k)))

-- its numbers are at most n in absolute value
record IsWithin (n : ℕ) (p : Inequality) : Type 0 where
  coefs : (k : ℕ) → unsigned_abs (entry p.coefs k) ≤ n
  constant : unsigned_abs p.constant ≤ n

narrow : (n : ℕ) (p : Inequality) → n < 2 ^ 127 → IsWithin n p → is_narrow p ≡ true
narrow n p h w = both-true (fits_i128 p.constant) (list_all fits_i128 p.coefs) (fits-if p.constant (let e = w.constant in omega arith)) (all_fit p.coefs n h w.coefs)

within_times : (m n : ℕ) (c : ℤ) (p : Inequality) → unsigned_abs c ≤ m → IsWithin n p → IsWithin (m * n) (times c p)
within_times m n c p h w = record {
  coefs = λ k. (let e = ap unsigned_abs (entry-times c p.coefs k) in let f = abs-product c (entry p.coefs k) m n h (w.coefs k) in omega arith);
  constant = abs-product c p.constant m n h w.constant;
}

within_plus : (m n : ℕ) (p q : Inequality) → IsWithin m p → IsWithin n q → IsWithin (m + n) (plus p q)
within_plus m n p q v w = record {
  coefs = λ k. (let e = ap unsigned_abs (entry-sum p.coefs q.coefs k) in let f = abs-sum (entry p.coefs k) (entry q.coefs k) in let a = v.coefs k in let b = w.coefs k in omega arith);
  constant = (let f = abs-sum p.constant q.constant in let a = v.constant in let b = w.constant in omega arith);
}

limit_taken : (i : ℕ) → limit (5 + i) ≡ 1
limit_taken i = let e : 5 + i ≡ suc (suc (suc (suc (suc i)))) = omega arith in ap limit e

-- a bound for one product
abbrev unit : ℕ
unit = growth 4 * 2 ^ 40

small_within : (p : Inequality) → IsSmall p → IsWithin (2 ^ 40) p
small_within p s = record {
  coefs = λ k. (let e = small_entry p.coefs 20 k s.coefs in omega arith);
  constant = s.constant;
}

part_within : (ps qs : List Inequality) (q : Inequality) (j : ℕ) (row : List ℤ) → Stand ps (q ∷ qs) j → IsSmall q → unsigned_abs (entry row (5 + j)) ≤ growth 4 → IsWithin unit (times (entry row (5 + j)) (fact_at ps (suc j)))
part_within ps qs q j row s small h =
    within_times (growth 4) (2 ^ 40) (entry row (5 + j)) (fact_at ps (suc j)) h
    (rw (stand_here ps qs q j s) (small_within q small))

record Fit (z : Inequality) (ps : List Inequality) : Type 0 where
  each : list_all is_narrow ps ≡ true
  sums : list_all is_narrow (partial_sums z ps) ≡ true

fit-same : (z : Inequality) (ps qs : List Inequality) → ps ≡ qs → Fit z qs → Fit z ps
fit-same z ps qs h f = record { each = ap (list_all is_narrow) h ∙ f.each; sums = ap (λ xs. list_all is_narrow (partial_sums z xs)) h ∙ f.sums }

fit-cons : (z p : Inequality) (ps : List Inequality) → is_narrow p ≡ true → is_narrow (plus z p) ≡ true → Fit (plus z p) ps → Fit z (p ∷ ps)
fit-cons z p ps h k f = record {
  each = both-true (is_narrow p) (list_all is_narrow ps) h f.each;
  sums = both-true (is_narrow (plus z p)) (list_all is_narrow (partial_sums (plus z p) ps)) k f.sums;
}

all_fit_sums : (width : ℕ) (ps qs : List Inequality) (j : ℕ) (row : List ℤ) (n : ℕ) (z : Inequality) → Stand ps qs j → All IsSmall qs → ((i : ℕ) → unsigned_abs (entry row (5 + i)) ≤ growth 4) → n + length qs ≤ 16 → IsWithin (n * unit) z → Fit z (products ps qs j row)
all_fit_sums width ps [] j row n z s small few h w = record { each = refl; sums = refl }
all_fit_sums width ps (q ∷ qs) j row n z s small few h w = elim (cases_Bool (int_eq (entry row (5 + j)) (pos 0))) as (λ _. Fit z (products ps (q ∷ qs) j row)) [
  | inl f ↦ fit-same z (products ps (q ∷ qs) j row) (products ps qs (suc j) row) (products-skip ps qs q j row f)
      (all_fit_sums width ps qs (suc j) row n z (stand_more ps qs q j s) (All-tail IsSmall q qs small) few (omega arith) w)
  | inr f ↦
      let part : Inequality = times (entry row (5 + j)) (fact_at ps (suc j)) in
      let one : IsWithin unit part = part_within ps qs q j row s (All-head IsSmall q qs small) (few j) in
      let more : IsWithin (n * unit + unit) (plus z part) = within_plus (n * unit) unit z part w one in
      let again : IsWithin (suc n * unit) (plus z part) = record {
        coefs = λ k. (let e = more.coefs k in omega arith);
        constant = (let e = more.constant in omega arith);
      } in
      fit-same z (products ps (q ∷ qs) j row) (part ∷ products ps qs (suc j) row) (products-take ps qs q j row f)
      (fit-cons z part (products ps qs (suc j) row) (narrow unit part (omega arith) one) (narrow (n * unit + unit) (plus z part) (omega arith) more)
      (all_fit_sums width ps qs (suc j) row (suc n) (plus z part) (stand_more ps qs q j s) (All-tail IsSmall q qs small) few (omega arith) again))
]

-- ---- the parts' numbers and signs
all_numbers : (ps qs : List Inequality) (j : ℕ) (row : List ℤ) → j + length qs ≤ length ps → list_all (λ (p : ℤ × ℕ). is_number ps p.1) (parts_from (length qs) j row) ≡ true
all_numbers ps [] j row h = refl
all_numbers ps (q ∷ qs) j row h = elim (cases_Bool (int_eq (entry row (5 + j)) (pos 0))) as (λ _. list_all (λ (p : ℤ × ℕ). is_number ps p.1) (parts_from (suc (length qs)) j row) ≡ true) [
  | inl f ↦ ap (λ b. list_all (λ (p : ℤ × ℕ). is_number ps p.1) (cond b (parts_from (length qs) (suc j) row) ((entry row (5 + j), suc j) ∷ parts_from (length qs) (suc j) row))) f
      ∙ all_numbers ps qs (suc j) row (omega arith)
  | inr f ↦ ap (λ b. list_all (λ (p : ℤ × ℕ). is_number ps p.1) (cond b (parts_from (length qs) (suc j) row) ((entry row (5 + j), suc j) ∷ parts_from (length qs) (suc j) row))) f
      ∙ both-true (is_number ps (suc j)) (list_all (λ (p : ℤ × ℕ). is_number ps p.1) (parts_from (length qs) (suc j) row))
      (both-true (nat_le 1 (suc j)) (nat_le (suc j) (length ps)) (nat_le-if 1 (suc j) (omega arith)) (nat_le-if (suc j) (length ps) (omega arith)))
      (all_numbers ps qs (suc j) row (omega arith))
]

all_signs : (n j : ℕ) (row : List ℤ) → ((i : ℕ) → pos 0 ≤ℤ entry row (5 + i)) → list_all (λ (p : ℤ × ℕ). int_le (pos 0) p.0) (parts_from n j row) ≡ true
all_signs zero j row h = refl
all_signs (suc n) j row h = elim (cases_Bool (int_eq (entry row (5 + j)) (pos 0))) as (λ _. list_all (λ (p : ℤ × ℕ). int_le (pos 0) p.0) (parts_from (suc n) j row) ≡ true) [
  | inl f ↦ ap (λ b. list_all (λ (p : ℤ × ℕ). int_le (pos 0) p.0) (cond b (parts_from n (suc j) row) ((entry row (5 + j), suc j) ∷ parts_from n (suc j) row))) f
      ∙ all_signs n (suc j) row h
  | inr f ↦ ap (λ b. list_all (λ (p : ℤ × ℕ). int_le (pos 0) p.0) (cond b (parts_from n (suc j) row) ((entry row (5 + j), suc j) ∷ parts_from n (suc j) row))) f
      ∙ both-true (int_le (pos 0) (entry row (5 + j))) (list_all (λ (p : ℤ × ℕ). int_le (pos 0) p.0) (parts_from n (suc j) row))
      (int_le-if (pos 0) (entry row (5 + j)) (h j)) (all_signs n (suc j) row h)
]

-- ---- the certificate
all_zero : (cs : List ℤ) → ((k : ℕ) → k < length cs → entry cs k ≡ pos 0) → list_all (λ c. int_eq c (pos 0)) cs ≡ true
all_zero [] h = refl
all_zero (c ∷ cs) h = both-true (int_eq c (pos 0)) (list_all (λ d. int_eq d (pos 0)) cs) (int_eq-if c (pos 0) (h 0 (omega arith))) (all_zero cs (λ k l. h (suc k) (omega arith)))

entry_zeros : (n k : ℕ) → entry (replicate n (pos 0)) k ≡ pos 0
entry_zeros zero k = refl
entry_zeros (suc n) zero = refl
entry_zeros (suc n) (suc k) = entry_zeros n k

length_zeros : (n : ℕ) → length (replicate n (pos 0)) ≡ n
length_zeros zero = refl
length_zeros (suc n) = ap suc (length_zeros n)

-- the parts of a row, for all inequalities
abbrev pub parts_of : List Inequality → List ℤ → List (ℤ × ℕ)
parts_of ps row = parts_from (length ps) 0 row

stand_all : (ps : List Inequality) → Stand ps ps 0
stand_all ps i d h = ap (λ n. get_or ps n d) (omega arith)

sum_is_contradiction : (width : ℕ) (ps : List Inequality) (row : List ℤ) → IsSmallSystem width ps → IsRow ps 4 row → entry row 4 <ℤ pos 0 → is_contradiction (sum_fact width ps (parts_of ps row)) ≡ true
sum_is_contradiction width ps row small r bad =
    let sum : Inequality = sum_fact width ps (parts_of ps row) in
    let wide : length sum.coefs ≡ width = sum_wide width ps ps 0 row (zero_of width) (stand_all ps) small.one_width (length_zeros width) in
    both-true (list_all (λ c. int_eq c (pos 0)) sum.coefs) (int_lt sum.constant (pos 0))
    (all_zero sum.coefs (λ k h. sum_coef k ps ps 0 row (zero_of width) (stand_all ps)
    ∙ ap (λ w. w +ℤ total (coefs_at k ps) 5 row) (entry_zeros width k) ∙ +ℤ_idl (total (coefs_at k ps) 5 row)
    ∙ sym (r.coefs k (let few = small.few_atoms in omega arith)) ∙ r.gone k (let few = small.few_atoms in omega arith)))
    (int_lt-if sum.constant (pos 0)
    (let e : sum.constant ≡ pos 0 +ℤ total (constants ps) 5 row = sum_constant ps ps 0 row (zero_of width) (stand_all ps) in
    let f = r.constant in omega (arith, ints)))

row_fit : (width : ℕ) (ps : List Inequality) (row : List ℤ) → IsSmallSystem width ps → IsRow ps 4 row → sums_fit width (multiples_of ps (parts_of ps row)) ≡ true
row_fit width ps row small r =
    let f : Fit (zero_of width) (products ps ps 0 row) =
    all_fit_sums width ps ps 0 row 0 (zero_of width) (stand_all ps) small.small (λ i. (let e = r.within (5 + i) in let l : limit (5 + i) ≡ 1 = limit_taken i in let g : growth 4 * limit (5 + i) ≡ growth 4 * 1 = ap (λ n. growth 4 * n) l in omega arith)) (let few = small.few in omega arith)
    (record { coefs = λ k. (let e = ap unsigned_abs (entry_zeros width k) in omega arith); constant = omega arith }) in
    both-true (list_all is_narrow (multiples_of ps (parts_of ps row))) (list_all is_narrow (partial_sums (zero_of width) (multiples_of ps (parts_of ps row)))) f.each f.sums

three : {X : Type 0} (a b c : Bool) (u v w : X) → a ≡ true → b ≡ true → c ≡ true → cond a (cond b (cond c None (Some u)) (Some v)) (Some w) ≡ None
three true true true u v w h k l = refl
three true true false u v w h k l = absurd (cc)
three true false c u v w h k l = absurd (cc)
three false b c u v w h k l = absurd (cc)

last_of : (ps : List Inequality) (p : Inequality) → fact_at (ps ++ p ∷ []) (length ps + 1) ≡ p
last_of ps p = ap (λ n. get_or (ps ++ p ∷ []) n (zero_of 0)) (omega arith) ∙ at_end ps p (zero_of 0)
  where
    at_end : (ps : List Inequality) (p d : Inequality) → get_or (ps ++ p ∷ []) (length ps) d ≡ p
    at_end [] p d = refl
    at_end (q ∷ ps) p d = at_end ps p d

-- the row's parts as the one line of a certificate: nothing is wrong with it
pub accepted : (width : ℕ) (ps : List Inequality) (row : List ℤ) → IsSmallSystem width ps → IsRow ps 4 row → entry row 4 <ℤ pos 0 → (line : Line) → line_fault width 1 ps line ≡ sum_fault width 1 ps (parts_of ps row) → line_fact width ps line ≡ sum_fact width ps (parts_of ps row) → certificate_fault width ps (line ∷ []) ≡ None
accepted width ps row small r bad line is_fault is_fact =
    let none : line_fault width 1 ps line ≡ None = is_fault
    ∙ three (list_all (λ (p : ℤ × ℕ). is_number ps p.1) (parts_of ps row)) (list_all (λ (p : ℤ × ℕ). int_le (pos 0) p.0) (parts_of ps row)) (sums_fit width (multiples_of ps (parts_of ps row))) (TooWide 1) (Negative 1) (BadLine 1)
    (all_numbers ps ps 0 row (omega arith)) (all_signs (length ps) 0 row r.taken) (row_fit width ps row small r) in
    let last : fact_at (ps ++ line_fact width ps line ∷ []) (length ps + 1) ≡ sum_fact width ps (parts_of ps row) = last_of ps (line_fact width ps line) ∙ is_fact in
    let closed : is_contradiction (fact_at (ps ++ line_fact width ps line ∷ []) (length ps + 1)) ≡ true = ap is_contradiction last ∙ sum_is_contradiction width ps row small r bad in
    ap (λ o. option_or (option_or o None) (cond (is_closed width ps (line ∷ [])) None (Some NotClosed))) none
    ∙ ap (λ b. cond b None (Some NotClosed)) closed
