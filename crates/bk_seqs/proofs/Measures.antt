-- How large expansions are.
use Rattle.std.proofs.Common.{◌≡◌, ◌<◌, ◌≤◌, ℕ, zero, suc, List, [], ◌∷◌, length, get_or, All, refl, arith}
use Rattle.std.proofs.lemmas.List.Elements.{All-head, All-tail}
use Rattle.bk_form.specs.Formula.{Formula, variable, formula_size, formula_height}
use Rattle.bk_form.proofs.Sizes.{size_pos}
use Rattle.bk_bind.specs.Limits.{IsWithinLimits}
use Rattle.bk_laws.specs.Rows.{IsSmall, pick_at}
use Rattle.bk_form.specs.Lifting.{lifted}
use Rattle.bk_bind.proofs.Lifted.{size_lifted, height_lifted}

pub size-raised : (f : Formula) → formula_size (lifted 1 0 f) ≡ formula_size f
size-raised f = size_lifted 1 0 f

pub height-raised : (f : Formula) → formula_height (lifted 1 0 f) ≡ formula_height f
height-raised f = height_lifted 1 0 f

pub height_pos : (f : Formula) → 1 ≤ formula_height f
height_pos (variable n) = omega arith
height_pos _ = omega arith

pub ruleset measures = (size_pos, height_pos, size-raised, height-raised)

-- ---- picks
pub small-at : (i : ℕ) (picks : List Formula) (d : Formula) → All IsWithinLimits picks → i < length picks → IsSmall (get_or picks i d)
small-at i [] d h k = absurd (omega arith)
small-at zero (p ∷ ps) d h k = (All-head IsWithinLimits p ps h).nodes
small-at (suc i) (p ∷ ps) d h k = small-at i ps d (All-tail IsWithinLimits p ps h) (omega arith)

pub pick-is : (i : ℕ) (picks : List Formula) (d : Formula) → i < length picks → pick_at picks i ≡ get_or picks i d
pick-is i [] d k = absurd (omega arith)
pick-is zero (p ∷ ps) d k = refl
pick-is (suc i) (p ∷ ps) d k = pick-is i ps d (omega arith)

pub ruleset picked = (small-at, pick-is)
