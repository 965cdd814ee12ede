-- Numbers on the way to a joined row lie within 128 bits.
use Rattle.std.proofs.Common.{◌≡◌, ℕ, zero, suc, ◌*◌, ◌^◌, ◌<◌, ◌≤◌, ℤ, pos, ◌+ℤ◌, ◌-ℤ◌, ◌*ℤ◌, List, ap, arith}
use Rattle.std.proofs.Math.Nat.{mul-le-mul}
use Rattle.std.specs.Int.{w128}
use Rattle.std.specs.Prelude.{FitsSigned}
use Rattle.std.specs.Int.RustNames.{unsigned_abs}
use Rattle.std.proofs.lemmas.Int.{fits_signed_from_abs}
use Rattle.bk_lin.specs.Inequality.{Inequality}
use Rattle.bk_elim.specs.Elimination.{entry}
use Rattle.bk_elim.specs.Rows.{limit, growth, IsRow}
use Rattle.bk_elim.specs.Layout.{CanJoin}
use Rattle.bk_elim.proofs.Rows.{abs-minus, abs-product, abs-sum, limit_of_atom}

limit_small : (k : ℕ) → limit k ≤ 2 ^ 40
limit_small zero = omega arith
limit_small (suc zero) = omega arith
limit_small (suc (suc zero)) = omega arith
limit_small (suc (suc (suc zero))) = omega arith
limit_small (suc (suc (suc (suc zero)))) = omega arith
limit_small (suc (suc (suc (suc (suc k))))) = omega arith

growth_small : (l : ℕ) → l < 4 → growth l ≤ 163840000000
growth_small zero h = omega arith
growth_small (suc zero) h = omega arith
growth_small (suc (suc zero)) h = omega arith
growth_small (suc (suc (suc zero))) h = omega arith
growth_small (suc (suc (suc (suc l)))) h = absurd (omega arith)

-- an entry of a row, and one at an atom
pub entry_small : (ps : List Inequality) (l : ℕ) (row : List ℤ) (k : ℕ) → l < 4 → IsRow ps l row → unsigned_abs (entry row k) ≤ 163840000000 * 2 ^ 40
entry_small ps l row k below r =
    let a : unsigned_abs (entry row k) ≤ growth l * limit k = r.within k in
    let b : growth l * limit k ≤ 163840000000 * 2 ^ 40 = mul-le-mul (growth_small l below) (limit_small k) in
    omega arith

pub atom_small : (ps : List Inequality) (l : ℕ) (row : List ℤ) (k : ℕ) → l < 4 → k < 4 → IsRow ps l row → unsigned_abs (entry row k) ≤ 163840000000 * 20
atom_small ps l row k below atom r =
    let a : unsigned_abs (entry row k) ≤ growth l * limit k = r.within k in
    let e : growth l * limit k ≡ growth l * 20 = ap (λ n. growth l * n) (limit_of_atom k atom) in
    let g : growth l ≤ 163840000000 = growth_small l below in
    omega arith

pub product_fits : (a x : ℤ) → unsigned_abs a ≤ 163840000000 * 20 → unsigned_abs x ≤ 163840000000 * 2 ^ 40 → FitsSigned w128 (a *ℤ x)
product_fits a x h k =
    fits_signed_from_abs w128 (a *ℤ x) (let e = abs-product a x (163840000000 * 20) (163840000000 * 2 ^ 40) h k in omega arith)

pub product_fits_back : (x a : ℤ) → unsigned_abs a ≤ 163840000000 * 20 → unsigned_abs x ≤ 163840000000 * 2 ^ 40 → FitsSigned w128 (x *ℤ a)
product_fits_back x a h k =
    fits_signed_from_abs w128 (x *ℤ a) (let e = abs-product x a (163840000000 * 2 ^ 40) (163840000000 * 20) k h in omega arith)

sum_fits : (a x b y : ℤ) → unsigned_abs a ≤ 163840000000 * 20 → unsigned_abs x ≤ 163840000000 * 2 ^ 40 → unsigned_abs b ≤ 163840000000 * 20 → unsigned_abs y ≤ 163840000000 * 2 ^ 40 → FitsSigned w128 (a *ℤ x +ℤ b *ℤ y)
sum_fits a x b y ha hx hb hy =
    fits_signed_from_abs w128 (a *ℤ x +ℤ b *ℤ y)
    (let e = abs-product a x (163840000000 * 20) (163840000000 * 2 ^ 40) ha hx in
    let f = abs-product b y (163840000000 * 20) (163840000000 * 2 ^ 40) hb hy in
    let s = abs-sum (a *ℤ x) (b *ℤ y) in omega arith)

pub can_join : (ps : List Inequality) (l : ℕ) (p q : List ℤ) → l < 4 → IsRow ps l p → IsRow ps l q → CanJoin l p q
can_join ps l p q below r s =
    let b : unsigned_abs (pos 0 -ℤ entry q l) ≤ 163840000000 * 20 = abs-minus (entry q l) (163840000000 * 20) (atom_small ps l q l below below s) in
    let a : unsigned_abs (entry p l) ≤ 163840000000 * 20 = atom_small ps l p l below below r in
    record {
      by = fits_signed_from_abs w128 (pos 0 -ℤ entry q l) (omega arith);
      left = λ k. product_fits (pos 0 -ℤ entry q l) (entry p k) b (entry_small ps l p k below r);
      right = λ k. product_fits (entry p l) (entry q k) a (entry_small ps l q k below s);
      sum = λ k. sum_fits (pos 0 -ℤ entry q l) (entry p k) (entry p l) (entry q k) b (entry_small ps l p k below r) a (entry_small ps l q k below s);
    }
