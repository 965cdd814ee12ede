-- Linear inequalities over whole numbers without bound (Schrijver, Theory of Linear and Integer Programming).
use Rattle.std.specs.Prelude.{◌≡◌, ℕ, suc, ℤ, pos, ◌+ℤ◌, ◌*ℤ◌, ◌≤ℤ◌, ◌<ℤ◌, Bool, ◌&&◌, List, [], ◌∷◌, map, replicate, All}
use Rattle.std.specs.List.{list_all}
use Rattle.std.specs.Int.{int_div_euclid, int_rem_euclid}
use Rattle.std.specs.Ordering.{int_eq}
use Rattle.bk_val.specs.Value.{fits_i128}

-- says that 0 is at most the sum of each coefficient times its atom, and the constant
pub record Inequality : Type 0 where
  pub coefs : List ℤ
  pub constant : ℤ

-- the sum of each coefficient times its atom, where the atoms are numbered from 0
abbrev pub dot : List ℤ → (ℕ → ℤ) → ℤ
dot [] atoms = pos 0
dot (c ∷ cs) atoms = c *ℤ atoms 0 +ℤ dot cs (λ k. atoms (suc k))

-- the inequality is true of these whole numbers
abbrev pub IsTrueOf : (ℕ → ℤ) → Inequality → Type 0
IsTrueOf atoms p = pos 0 ≤ℤ (dot p.coefs atoms +ℤ p.constant)

-- it has no coefficient but 0, and a negative constant
abbrev pub IsContradiction : Inequality → Type 0
IsContradiction p = All (λ c. c ≡ pos 0) p.coefs × (p.constant <ℤ pos 0)

-- the inequality 0 <= 0 over so many atoms
abbrev pub zero_of : ℕ → Inequality
zero_of width = record { coefs = replicate width (pos 0); constant = pos 0 }

-- each coefficient and the constant times m
abbrev pub times : ℤ → Inequality → Inequality
times m p = record { coefs = map (λ c. m *ℤ c) p.coefs; constant = m *ℤ p.constant }

-- coefficient by coefficient; one that is absent counts as 0
abbrev pub sum_of_coefs : List ℤ → List ℤ → List ℤ
sum_of_coefs [] ds = ds
sum_of_coefs (c ∷ cs) [] = c ∷ cs
sum_of_coefs (c ∷ cs) (d ∷ ds) = (c +ℤ d) ∷ sum_of_coefs cs ds

-- the two inequalities added
abbrev pub plus : Inequality → Inequality → Inequality
plus p q = record { coefs = sum_of_coefs p.coefs q.coefs; constant = p.constant +ℤ q.constant }

-- the first inequality with all the others added to it
abbrev pub plus_all : Inequality → List Inequality → Inequality
plus_all p [] = p
plus_all p (q ∷ qs) = plus_all (plus p q) qs

-- what adding them gives after each, left to right
abbrev pub partial_sums : Inequality → List Inequality → List Inequality
partial_sums p [] = []
partial_sums p (q ∷ qs) = plus p q ∷ partial_sums (plus p q) qs

-- each coefficient is a multiple of d
abbrev pub is_divisible : ℤ → Inequality → Bool
is_divisible d p = list_all (λ c. int_eq (int_rem_euclid c d) (pos 0)) p.coefs

-- each coefficient and the constant divided by d, rounded down where d is positive
abbrev pub quotient_of : Inequality → ℤ → Inequality
quotient_of p d = record {
  coefs = map (λ c. int_div_euclid c d) p.coefs;
  constant = int_div_euclid p.constant d;
}

-- the constant and each coefficient is an i128
abbrev pub is_narrow : Inequality → Bool
is_narrow p = fits_i128 p.constant && list_all fits_i128 p.coefs

-- the multiple is narrow, and what adding it gives
abbrev pub takes_multiple : Inequality → ℤ → Inequality → Bool
takes_multiple p m q = is_narrow (times m q) && is_narrow (plus p (times m q))
