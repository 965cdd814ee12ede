-- Homes at levels that are there.
use Rattle.std.proofs.Common.{◌≡◌, ℕ, zero, suc, List, [], ◌∷◌, Bool, true, ◌&&◌, nat_lt, arith, Some}
use Rattle.std.specs.Prelude.{slice_get}
use Rattle.std.proofs.lemmas.Bool.Decides.{nat_tests}
use Rattle.bk_form.proofs.Members.{and-both}
use Rattle.bk_dev.specs.declared.kind.Home.{Home}
use Rattle.bk_dev.specs.declared.kind.Home.TheVariants.{Constant, Input, Abstract, Concrete, Inner}
use Rattle.bk_dev.specs.Facts.{StandsBelow}

-- ---- a list of homes that is written down
abbrev pub stands : ℕ → Home → Bool
stands k Constant = true
stands k Input = true
stands k (Abstract j) = nat_lt j k
stands k (Concrete j) = nat_lt j k
stands k (Inner j) = nat_lt j k

abbrev pub all_stand : ℕ → List Home → Bool
all_stand k [] = true
all_stand k (h ∷ hs) = stands k h && all_stand k hs

one-stands : (k : ℕ) (h : Home) → stands k h ≡ true → StandsBelow k (Some h)
one-stands k Constant e = tt
one-stands k Input e = tt
one-stands k (Abstract j) e = grind (arith, nat_tests)
one-stands k (Concrete j) e = grind (arith, nat_tests)
one-stands k (Inner j) e = grind (arith, nat_tests)

pub homes-stand : (k : ℕ) (hs : List Home) → all_stand k hs ≡ true → (n : ℕ) → StandsBelow k (slice_get hs n)
homes-stand k [] e n = tt
homes-stand k (h ∷ hs) e zero = one-stands k h (and-both (stands k h) (all_stand k hs) e).0
homes-stand k (h ∷ hs) e (suc n) = homes-stand k hs (and-both (stands k h) (all_stand k hs) e).1 n
