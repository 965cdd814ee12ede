-- The numbers on a stack after a write above its top.
use Rattle.std.proofs.Common.{◌≡◌, ℕ, zero, suc, ◌+◌, ◌-◌, ◌<◌, ◌≤◌, refl, ap, arith, List, ◌∷◌, length, get_or, set, ℤ, pos, add-one, get_or-set_same, get_or-set_other}
use Rattle.bk_vm.specs.Depth.{tops}

pub length-tops : (depth : ℕ) (numbers : List ℤ) → length (tops depth numbers) ≡ depth
length-tops zero numbers = refl
length-tops (suc depth) numbers = ap suc (length-tops depth numbers)

-- the top of a stack and what is below it
pub tops-one : (depth : ℕ) (numbers : List ℤ) → 1 ≤ depth → tops depth numbers ≡ get_or numbers (depth - 1) (pos 0) ∷ tops (depth - 1) numbers
tops-one zero numbers some = absurd (omega (arith, some))
tops-one (suc depth) numbers some = let e : suc depth - 1 ≡ depth = omega arith in rw e refl

tops-set : (depth at : ℕ) (n : ℤ) (numbers : List ℤ) → depth ≤ at → tops depth (set numbers at n) ≡ tops depth numbers
tops-set zero at n numbers le = refl
tops-set (suc depth) at n numbers le =
    let rest : tops depth (set numbers at n) ≡ tops depth numbers = tops-set depth at n numbers (omega arith) in
    let same : get_or (set numbers at n) depth (pos 0) ≡ get_or numbers depth (pos 0) = grind (arith, get_or-set_other) in
    cc

pub tops-push : (depth : ℕ) (n : ℤ) (numbers : List ℤ) → depth < length numbers → tops (depth + 1) (set numbers depth n) ≡ n ∷ tops depth numbers
tops-push depth n numbers below =
    let top : get_or (set numbers depth n) depth (pos 0) ≡ n = get_or-set_same numbers depth n (pos 0) below in
    let rest = tops-set depth depth n numbers (omega arith) in
    rw add-one cc
