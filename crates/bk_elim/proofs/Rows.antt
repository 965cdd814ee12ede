-- Rows of elimination stay sums of multiples of the given inequalities, and within their bounds.
use Rattle.std.proofs.Common.{◌≡◌, ℕ, zero, suc, ◌+◌, ◌*◌, ◌<◌, ◌≤◌, ℤ, pos, negsuc, ◌+ℤ◌, ◌-ℤ◌, ◌*ℤ◌, ◌≤ℤ◌, ◌<ℤ◌, ◌⊎◌, inl, inr, List, [], ◌∷◌, map, length, All, refl, ap, sym, ◌∙◌, arith, get_or}
use borrow.Author.Count.{below_more}
use Rattle.std.proofs.lemmas.List.Elements.{All-head, All-tail}
use Rattle.bk_elim.specs.Refutation.{IsSmall}
use Rattle.std.proofs.Math.IntN.{suc_ℤ-*ℤ, zero-*ℤ, *ℤ-zero, *ℤ_comm, +ℤ_idl, +ℤ_idr}
use Rattle.std.proofs.Math.Nat.{mul-le-mul, mul-le-mul_right}
use Rattle.std.specs.Int.RustNames.{unsigned_abs}
use Rattle.std.proofs.lemmas.Int.{ints, unsigned_abs-mul}
use Rattle.bk_lin.specs.Inequality.{Inequality, sum_of_coefs}
use Rattle.bk_lin.proofs.Whole.{*ℤ-+ℤ, +ℤ-*ℤ, 0≤-*ℤ}
use Rattle.bk_elim.specs.Elimination.{entry, mixed, joined}
use Rattle.bk_elim.specs.Rows.{total, coefs_at, constants, limit, growth, IsRow, IsStart}
use Rattle.bk_elim.proofs.Ring.{*ℤ_assoc, minus-*ℤ}

pub entry-times : (m : ℤ) (cs : List ℤ) (k : ℕ) → entry (map (λ c. m *ℤ c) cs) k ≡ m *ℤ entry cs k
entry-times m [] k = sym (*ℤ-zero m)
entry-times m (c ∷ cs) zero = refl
entry-times m (c ∷ cs) (suc k) = entry-times m cs k

pub entry-sum : (cs ds : List ℤ) (k : ℕ) → entry (sum_of_coefs cs ds) k ≡ entry cs k +ℤ entry ds k
entry-sum [] ds k = sym (+ℤ_idl (entry ds k))
entry-sum (c ∷ cs) [] k = sym (+ℤ_idr (entry (c ∷ cs) k))
entry-sum (c ∷ cs) (d ∷ ds) zero = refl
entry-sum (c ∷ cs) (d ∷ ds) (suc k) = entry-sum cs ds k

pub entry-mixed : (b a : ℤ) (p q : List ℤ) (k : ℕ) → entry (mixed b p a q) k ≡ b *ℤ entry p k +ℤ a *ℤ entry q k
entry-mixed b a p q k =
    entry-sum (map (λ x. b *ℤ x) p) (map (λ y. a *ℤ y) q) k
    ∙ ap (λ w. w +ℤ entry (map (λ y. a *ℤ y) q) k) (entry-times b p k)
    ∙ ap (λ w. b *ℤ entry p k +ℤ w) (entry-times a q k)

pub length-sum : (cs ds : List ℤ) → length cs ≡ length ds → length (sum_of_coefs cs ds) ≡ length cs
length-sum [] ds h = sym h
length-sum (c ∷ cs) [] h = refl
length-sum (c ∷ cs) (d ∷ ds) h = ap suc (length-sum cs ds (omega arith))

pub length-times : (m : ℤ) (cs : List ℤ) → length (map (λ c. m *ℤ c) cs) ≡ length cs
length-times m [] = refl
length-times m (c ∷ cs) = ap suc (length-times m cs)

pub length-mixed : (b a : ℤ) (p q : List ℤ) → length p ≡ length q → length (mixed b p a q) ≡ length p
length-mixed b a p q h =
    length-sum (map (λ x. b *ℤ x) p) (map (λ y. a *ℤ y) q) (length-times b p ∙ h ∙ sym (length-times a q))
    ∙ length-times b p

spread : (b a x y v : ℤ) → (b *ℤ x +ℤ a *ℤ y) *ℤ v ≡ b *ℤ (x *ℤ v) +ℤ a *ℤ (y *ℤ v)
spread b a x y v =
    +ℤ-*ℤ (b *ℤ x) (a *ℤ y) v ∙ ap (λ w. w +ℤ (a *ℤ y) *ℤ v) (sym (*ℤ_assoc b x v))
    ∙ ap (λ w. b *ℤ (x *ℤ v) +ℤ w) (sym (*ℤ_assoc a y v))

gather : (b a x y s t : ℤ) → (b *ℤ x +ℤ a *ℤ y) +ℤ (b *ℤ s +ℤ a *ℤ t) ≡ b *ℤ (x +ℤ s) +ℤ a *ℤ (y +ℤ t)
gather b a x y s t = let e = *ℤ-+ℤ b x s in let f = *ℤ-+ℤ a y t in omega (arith, ints)

pub total-mixed : (vs : List ℤ) (j : ℕ) (b a : ℤ) (p q : List ℤ) → total vs j (mixed b p a q) ≡ b *ℤ total vs j p +ℤ a *ℤ total vs j q
total-mixed [] j b a p q = sym (ap (λ w. w +ℤ a *ℤ pos 0) (*ℤ-zero b) ∙ ap (λ w. pos 0 +ℤ w) (*ℤ-zero a))
total-mixed (v ∷ vs) j b a p q =
    ap (λ w. w *ℤ v +ℤ total vs (suc j) (mixed b p a q)) (entry-mixed b a p q j)
    ∙ ap (λ w. w +ℤ total vs (suc j) (mixed b p a q)) (spread b a (entry p j) (entry q j) v)
    ∙ ap (λ w. (b *ℤ (entry p j *ℤ v) +ℤ a *ℤ (entry q j *ℤ v)) +ℤ w) (total-mixed vs (suc j) b a p q)
    ∙ gather b a (entry p j *ℤ v) (entry q j *ℤ v) (total vs (suc j) p) (total vs (suc j) q)

-- ---- bounds
pub from_abs : (z : ℤ) (n : ℕ) → unsigned_abs z ≤ n → (z ≤ℤ pos n) × ((pos 0 -ℤ pos n) ≤ℤ z)
from_abs (pos m) n h = (omega (arith, ints), omega (arith, ints))
from_abs (negsuc m) n h = (omega (arith, ints), omega (arith, ints))

pub to_abs : (z : ℤ) (n : ℕ) → z ≤ℤ pos n → (pos 0 -ℤ pos n) ≤ℤ z → unsigned_abs z ≤ n
to_abs (pos m) n h k = omega (arith, ints)
to_abs (negsuc m) n h k = omega (arith, ints)

pub abs-sum : (x y : ℤ) → unsigned_abs (x +ℤ y) ≤ unsigned_abs x + unsigned_abs y
abs-sum x y =
    let e = from_abs x (unsigned_abs x) (omega arith) in
    let f = from_abs y (unsigned_abs y) (omega arith) in
    to_abs (x +ℤ y) (unsigned_abs x + unsigned_abs y) (omega (arith, ints)) (omega (arith, ints))

pub abs-minus : (x : ℤ) (n : ℕ) → unsigned_abs x ≤ n → unsigned_abs (pos 0 -ℤ x) ≤ n
abs-minus x n h = let e = from_abs x n h in to_abs (pos 0 -ℤ x) n (omega (arith, ints)) (omega (arith, ints))

-- a product whose factors are bounded
pub abs-product : (a x : ℤ) (m n : ℕ) → unsigned_abs a ≤ m → unsigned_abs x ≤ n → unsigned_abs (a *ℤ x) ≤ m * n
abs-product a x m n h k = let e = unsigned_abs-mul a x in let f : unsigned_abs a * unsigned_abs x ≤ m * n = mul-le-mul h k in omega arith

abs-joined : (b a x y : ℤ) (f n : ℕ) → unsigned_abs b ≤ f * 20 → unsigned_abs a ≤ f * 20 → unsigned_abs x ≤ f * n → unsigned_abs y ≤ f * n → unsigned_abs (b *ℤ x +ℤ a *ℤ y) ≤ 40 * f * f * n
abs-joined b a x y f n hb ha hx hy =
    let p : unsigned_abs (b *ℤ x) ≤ (f * 20) * (f * n) = abs-product b x (f * 20) (f * n) hb hx in
    let q : unsigned_abs (a *ℤ y) ≤ (f * 20) * (f * n) = abs-product a y (f * 20) (f * n) ha hy in
    let s : unsigned_abs (b *ℤ x +ℤ a *ℤ y) ≤ unsigned_abs (b *ℤ x) + unsigned_abs (a *ℤ y) = abs-sum (b *ℤ x) (a *ℤ y) in
    omega arith

growth_positive : (l : ℕ) → 1 ≤ growth l
growth_positive zero = omega arith
growth_positive (suc l) =
    let e : 1 ≤ growth l = growth_positive l in
    let f : 1 * 1 ≤ growth l * growth l = mul-le-mul e e in
    omega arith

growth_grows : (l : ℕ) → growth l ≤ growth (suc l)
growth_grows l =
    let e : 1 ≤ growth l = growth_positive l in
    let f : 1 * growth l ≤ growth l * growth l = mul-le-mul_right (growth l) e in
    omega arith

pub limit_of_atom : (k : ℕ) → k < 4 → limit k ≡ 20
limit_of_atom zero h = refl
limit_of_atom (suc zero) h = refl
limit_of_atom (suc (suc zero)) h = refl
limit_of_atom (suc (suc (suc zero))) h = refl
limit_of_atom (suc (suc (suc (suc k)))) h = absurd (omega arith)

-- a row whose entry is 0 already
pub IsRow-level : (ps : List Inequality) (l : ℕ) (row : List ℤ) → IsRow ps l row → entry row l ≡ pos 0 → IsRow ps (suc l) row
IsRow-level ps l row r none = record {
  wide = r.wide;
  within = λ k. (let e = r.within k in let f : growth l * limit k ≤ growth (suc l) * limit k = mul-le-mul_right (limit k) (growth_grows l) in omega arith);
  gone = λ k h. below_more (λ j. entry row j ≡ pos 0) l r.gone none k (omega arith);
  taken = r.taken;
  coefs = r.coefs;
  constant = r.constant;
}

vanishes : (b a x y : ℤ) → b ≡ pos 0 -ℤ y → a ≡ x → b *ℤ x +ℤ a *ℤ y ≡ pos 0
vanishes b a x y h k =
    let e : b *ℤ x ≡ (pos 0 -ℤ y) *ℤ x = ap (λ w. w *ℤ x) h in
    let f : (pos 0 -ℤ y) *ℤ x ≡ pos 0 -ℤ y *ℤ x = minus-*ℤ y x in
    let g : a *ℤ y ≡ x *ℤ y = ap (λ w. w *ℤ y) k in
    let c : x *ℤ y ≡ y *ℤ x = *ℤ_comm x y in
    omega (arith, ints)

-- two zeros stay zero
zeros : (b a x y : ℤ) → x ≡ pos 0 → y ≡ pos 0 → b *ℤ x +ℤ a *ℤ y ≡ pos 0
zeros b a x y h k =
    ap (λ w. b *ℤ w +ℤ a *ℤ y) h ∙ ap (λ w. b *ℤ pos 0 +ℤ a *ℤ w) k
    ∙ ap (λ w. w +ℤ a *ℤ pos 0) (*ℤ-zero b) ∙ ap (λ w. pos 0 +ℤ w) (*ℤ-zero a)

-- where both are sums of multiples, so is the joined one
totals : (b a x y s t u : ℤ) → u ≡ b *ℤ s +ℤ a *ℤ t → x ≡ s → y ≡ t → b *ℤ x +ℤ a *ℤ y ≡ u
totals b a x y s t u h k l = ap (λ w. b *ℤ w +ℤ a *ℤ y) k ∙ ap (λ w. b *ℤ s +ℤ a *ℤ w) l ∙ sym h

not_negative : (b a x y : ℤ) → pos 0 ≤ℤ b → pos 0 ≤ℤ a → pos 0 ≤ℤ x → pos 0 ≤ℤ y → pos 0 ≤ℤ (b *ℤ x +ℤ a *ℤ y)
not_negative b a x y hb ha hx hy = let e = 0≤-*ℤ b x hb hx in let f = 0≤-*ℤ a y ha hy in omega (arith, ints)

-- two rows joined, by multipliers that are given as b and a
joined_row : (ps : List Inequality) (l : ℕ) (p q : List ℤ) (b a : ℤ) → b ≡ pos 0 -ℤ entry q l → a ≡ entry p l → l < 4 → IsRow ps l p → IsRow ps l q → pos 0 <ℤ entry p l → entry q l <ℤ pos 0 → IsRow ps (suc l) (mixed b p a q)
joined_row ps l p q b a is_b is_a below r s up down =
    let bound : limit l ≡ 20 = limit_of_atom l below in
    let large_p : unsigned_abs (entry p l) ≤ growth l * 20 = (let e = r.within l in let f : growth l * limit l ≡ growth l * 20 = ap (λ n. growth l * n) bound in omega arith) in
    let large_q : unsigned_abs (entry q l) ≤ growth l * 20 = (let e = s.within l in let f : growth l * limit l ≡ growth l * 20 = ap (λ n. growth l * n) bound in omega arith) in
    let large_a : unsigned_abs a ≤ growth l * 20 = (let e : unsigned_abs a ≡ unsigned_abs (entry p l) = ap unsigned_abs is_a in omega arith) in
    let large_b : unsigned_abs b ≤ growth l * 20 = (let e : unsigned_abs b ≡ unsigned_abs (pos 0 -ℤ entry q l) = ap unsigned_abs is_b in let f = abs-minus (entry q l) (growth l * 20) large_q in omega arith) in
    record {
      wide = length-mixed b a p q (r.wide ∙ sym s.wide) ∙ r.wide;
      within = λ k. (let f : unsigned_abs (b *ℤ entry p k +ℤ a *ℤ entry q k) ≤ 40 * growth l * growth l * limit k =
          abs-joined b a (entry p k) (entry q k) (growth l) (limit k) large_b large_a (r.within k) (s.within k) in
          let g : unsigned_abs (entry (mixed b p a q) k) ≡ unsigned_abs (b *ℤ entry p k +ℤ a *ℤ entry q k) = ap unsigned_abs (entry-mixed b a p q k) in
          omega arith);
      gone = λ k h. below_more (λ j. entry (mixed b p a q) j ≡ pos 0) l
          (λ j i. entry-mixed b a p q j ∙ zeros b a (entry p j) (entry q j) (r.gone j i) (s.gone j i))
          (entry-mixed b a p q l ∙ vanishes b a (entry p l) (entry q l) is_b is_a) k (omega arith);
      taken = λ j. (let e : entry (mixed b p a q) (5 + j) ≡ b *ℤ entry p (5 + j) +ℤ a *ℤ entry q (5 + j) = entry-mixed b a p q (5 + j) in
          let f = not_negative b a (entry p (5 + j)) (entry q (5 + j)) (omega (arith, ints)) (omega (arith, ints)) (r.taken j) (s.taken j) in omega (arith, ints));
      coefs = λ k h. entry-mixed b a p q k ∙ totals b a (entry p k) (entry q k) (total (coefs_at k ps) 5 p) (total (coefs_at k ps) 5 q) (total (coefs_at k ps) 5 (mixed b p a q))
          (total-mixed (coefs_at k ps) 5 b a p q) (r.coefs k h) (s.coefs k h);
      constant = entry-mixed b a p q 4 ∙ totals b a (entry p 4) (entry q 4) (total (constants ps) 5 p) (total (constants ps) 5 q) (total (constants ps) 5 (mixed b p a q))
          (total-mixed (constants ps) 5 b a p q) r.constant s.constant;
    }

pub IsRow-joined : (ps : List Inequality) (l : ℕ) (p q : List ℤ) → l < 4 → IsRow ps l p → IsRow ps l q → pos 0 <ℤ entry p l → entry q l <ℤ pos 0 → IsRow ps (suc l) (joined l p q)
IsRow-joined ps l p q below r s up down = joined_row ps l p q (pos 0 -ℤ entry q l) (entry p l) refl refl below r s up down

-- ---- the rows of the given inequalities
total-none : (vs : List ℤ) (j : ℕ) (row : List ℤ) → ((i : ℕ) → entry row (j + i) ≡ pos 0) → total vs j row ≡ pos 0
total-none [] j row h = refl
total-none (v ∷ vs) j row h =
    ap (λ w. w *ℤ v +ℤ total vs (suc j) row) (ap (entry row) (omega arith) ∙ h 0)
    ∙ ap (λ w. w +ℤ total vs (suc j) row) (zero-*ℤ v) ∙ +ℤ_idl (total vs (suc j) row)
    ∙ total-none vs (suc j) row (λ i. ap (entry row) (omega arith) ∙ h (suc i))

is_equal : (a b : ℕ) → (a ≡ b) ⊎ (a ≡ b → ⊥)
is_equal zero zero = inl refl
is_equal zero (suc b) = inr (λ h. omega arith)
is_equal (suc a) zero = inr (λ h. omega arith)
is_equal (suc a) (suc b) = elim (is_equal a b) as (λ _. (suc a ≡ suc b) ⊎ (suc a ≡ suc b → ⊥)) [
  | inl h ↦ inl (ap suc h)
  | inr h ↦ inr (λ e. h (omega arith))
]

one_times : (v : ℤ) → pos 1 *ℤ v ≡ v
one_times v = suc_ℤ-*ℤ (pos 0) v ∙ ap (λ w. w +ℤ v) (zero-*ℤ v) ∙ +ℤ_idl v

total-one : (vs : List ℤ) (j i : ℕ) (row : List ℤ) → i < length vs → entry row (j + i) ≡ pos 1 → ((k : ℕ) → (k ≡ i → ⊥) → entry row (j + k) ≡ pos 0) → total vs j row ≡ entry vs i
total-one [] j i row h one others = absurd (omega arith)
total-one (v ∷ vs) j zero row h one others =
    ap (λ w. w *ℤ v +ℤ total vs (suc j) row) (ap (entry row) (omega arith) ∙ one)
    ∙ ap (λ w. pos 1 *ℤ v +ℤ w) (total-none vs (suc j) row (λ k. ap (entry row) (omega arith) ∙ others (suc k) (omega arith)))
    ∙ +ℤ_idr (pos 1 *ℤ v) ∙ one_times v
total-one (v ∷ vs) j (suc i) row h one others =
    ap (λ w. w *ℤ v +ℤ total vs (suc j) row) (ap (entry row) (omega arith) ∙ others 0 (omega arith))
    ∙ ap (λ w. w +ℤ total vs (suc j) row) (zero-*ℤ v) ∙ +ℤ_idl (total vs (suc j) row)
    ∙ total-one vs (suc j) i row (omega arith) (ap (entry row) (omega arith) ∙ one)
    (λ k n. ap (entry row) (omega arith) ∙ others (suc k) (omega arith))

pub small_entry : (cs : List ℤ) (n k : ℕ) → All (λ c. unsigned_abs c ≤ n) cs → unsigned_abs (entry cs k) ≤ n
small_entry [] n k h = omega arith
small_entry (c ∷ cs) n zero h = All-head (λ d. unsigned_abs d ≤ n) c cs h
small_entry (c ∷ cs) n (suc k) h = small_entry cs n k (All-tail (λ d. unsigned_abs d ≤ n) c cs h)

entry_map : (f : Inequality → ℤ) (ps : List Inequality) (i : ℕ) (d : Inequality) → i < length ps → entry (map f ps) i ≡ f (get_or ps i d)
entry_map f [] i d h = absurd (omega arith)
entry_map f (p ∷ ps) zero d h = refl
entry_map f (p ∷ ps) (suc i) d h = entry_map f ps i d (omega arith)

length_map : (f : Inequality → ℤ) (ps : List Inequality) → length (map f ps) ≡ length ps
length_map f [] = refl
length_map f (p ∷ ps) = ap suc (length_map f ps)

-- how often an inequality was taken at first
unit_entry : (ps : List Inequality) (i : ℕ) (row : List ℤ) → IsStart ps i row → (k : ℕ) → (pos 0 ≤ℤ entry row (suc (suc (suc (suc (suc k)))))) × (entry row (suc (suc (suc (suc (suc k))))) ≤ℤ pos 1)
unit_entry ps i row s k = elim (is_equal k i) as (λ _. (pos 0 ≤ℤ entry row (suc (suc (suc (suc (suc k)))))) × (entry row (suc (suc (suc (suc (suc k))))) ≤ℤ pos 1)) [
  | inl h ↦ (let e : entry row (suc (suc (suc (suc (suc k))))) ≡ pos 1 = ap (entry row) (omega arith) ∙ s.itself in (omega (arith, ints), omega (arith, ints)))
  | inr h ↦ (let e : entry row (suc (suc (suc (suc (suc k))))) ≡ pos 0 = ap (entry row) (omega arith) ∙ s.others k h in (omega (arith, ints), omega (arith, ints)))
]

start_within : (ps : List Inequality) (i : ℕ) (row : List ℤ) (d : Inequality) → IsSmall (get_or ps i d) → IsStart ps i row → (k : ℕ) → unsigned_abs (entry row k) ≤ limit k
start_within ps i row d small s zero = (let e = ap unsigned_abs (s.coefs 0 d (omega arith)) in let f = small_entry (get_or ps i d).coefs 20 0 small.coefs in omega arith)
start_within ps i row d small s (suc zero) = (let e = ap unsigned_abs (s.coefs 1 d (omega arith)) in let f = small_entry (get_or ps i d).coefs 20 1 small.coefs in omega arith)
start_within ps i row d small s (suc (suc zero)) = (let e = ap unsigned_abs (s.coefs 2 d (omega arith)) in let f = small_entry (get_or ps i d).coefs 20 2 small.coefs in omega arith)
start_within ps i row d small s (suc (suc (suc zero))) = (let e = ap unsigned_abs (s.coefs 3 d (omega arith)) in let f = small_entry (get_or ps i d).coefs 20 3 small.coefs in omega arith)
start_within ps i row d small s (suc (suc (suc (suc zero)))) = (let e = ap unsigned_abs (s.constant d) in let f = small.constant in omega arith)
start_within ps i row d small s (suc (suc (suc (suc (suc k))))) = to_abs (entry row (suc (suc (suc (suc (suc k)))))) 1 (let e = unit_entry ps i row s k in omega (arith, ints)) (let e = unit_entry ps i row s k in omega (arith, ints))

pub IsRow-start : (ps : List Inequality) (i : ℕ) (row : List ℤ) (d : Inequality) → i < length ps → IsSmall (get_or ps i d) → IsStart ps i row → IsRow ps 0 row
IsRow-start ps i row d below small s = record {
  wide = s.wide;
  within = λ k. (let e = start_within ps i row d small s k in omega arith);
  gone = λ k h. absurd (omega arith);
  taken = λ j. (let e = unit_entry ps i row s j in let f : entry row (5 + j) ≡ entry row (suc (suc (suc (suc (suc j))))) = ap (entry row) (omega arith) in omega (arith, ints));
  coefs = λ k h. s.coefs k d h ∙ sym (total-one (coefs_at k ps) 5 i row (let e = length_map (λ p. entry p.coefs k) ps in omega arith) s.itself s.others ∙ entry_map (λ p. entry p.coefs k) ps i d below);
  constant = s.constant d ∙ sym (total-one (constants ps) 5 i row (let e = length_map (λ p. p.constant) ps in omega arith) s.itself s.others ∙ entry_map (λ p. p.constant) ps i d below);
}
