-- What is known of a row of elimination: it is a sum of multiples of the given inequalities, and how large its entries are.
use Rattle.std.specs.Ordering.{int_eq}
use Rattle.std.specs.Prelude.{cond, ◌≡◌, ℕ, zero, suc, ◌+◌, ◌*◌, ◌<◌, ◌≤◌, ◌^◌, ℤ, pos, ◌+ℤ◌, ◌*ℤ◌, ◌≤ℤ◌}
use Rattle.std.specs.Prelude.{List, [], ◌∷◌, map, length, slice_index_or}
use Rattle.std.specs.Int.RustNames.{unsigned_abs}
use Rattle.bk_lin.specs.Inequality.{Inequality}
use Rattle.bk_elim.specs.Elimination.{entry}

-- the entries from j on, each times its value, added
abbrev pub total : List ℤ → ℕ → List ℤ → ℤ
total [] j row = pos 0
total (v ∷ vs) j row = entry row j *ℤ v +ℤ total vs (suc j) row

-- the coefficient of atom k in each inequality
abbrev pub coefs_at : ℕ → List Inequality → List ℤ
coefs_at k ps = map (λ p. entry p.coefs k) ps

-- the constant of each
abbrev pub constants : List Inequality → List ℤ
constants ps = map (λ p. p.constant) ps

-- the bound for the entries of a given row: for the coefficients, the constant, and how often an inequality was taken
abbrev pub limit : ℕ → ℕ
limit zero = 20
limit (suc zero) = 20
limit (suc (suc zero)) = 20
limit (suc (suc (suc zero))) = 20
limit (suc (suc (suc (suc zero)))) = 2 ^ 40
limit (suc (suc (suc (suc (suc k))))) = 1

-- by how much that bound has grown when so many atoms are gone
abbrev pub growth : ℕ → ℕ
growth zero = 1
growth (suc l) = 40 * growth l * growth l

-- a row from which the first l of four atoms are gone
pub record IsRow (ps : List Inequality) (l : ℕ) (row : List ℤ) : Type 0 where
  pub wide : length row ≡ 5 + length ps
  pub within : (k : ℕ) → unsigned_abs (entry row k) ≤ growth l * limit k
  pub gone : (k : ℕ) → k < l → entry row k ≡ pos 0
  pub taken : (j : ℕ) → pos 0 ≤ℤ entry row (5 + j)
  pub coefs : (k : ℕ) → k < 4 → entry row k ≡ total (coefs_at k ps) 5 row
  pub constant : entry row 4 ≡ total (constants ps) 5 row

-- the row of inequality i alone
pub record IsStart (ps : List Inequality) (i : ℕ) (row : List ℤ) : Type 0 where
  pub wide : length row ≡ 5 + length ps
  pub coefs : (k : ℕ) (d : Inequality) → k < 4 → entry row k ≡ entry (slice_index_or ps i d).coefs k
  pub constant : (d : Inequality) → entry row 4 ≡ (slice_index_or ps i d).constant
  pub itself : entry row (5 + i) ≡ pos 1
  pub others : (j : ℕ) → (j ≡ i → ⊥) → entry row (5 + j) ≡ pos 0

-- the parts of a sum: how often each of n inequalities from j on was taken, without those that were not
abbrev pub parts_from : ℕ → ℕ → List ℤ → List (ℤ × ℕ)
parts_from zero j row = []
parts_from (suc n) j row =
    cond (int_eq (entry row (5 + j)) (pos 0)) (parts_from n (suc j) row) ((entry row (5 + j), suc j) ∷ parts_from n (suc j) row)
