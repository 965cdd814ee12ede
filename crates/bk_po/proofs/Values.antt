-- The constants' values are single nodes.
use Rattle.std.proofs.Common.{◌≡◌, ◌<◌, ℕ, zero, suc, List, [], ◌∷◌, length, refl, arith}
use Rattle.std.specs.Prelude.{slice_index_or}
use Rattle.bk_form.specs.Formula.{Formula, literal, truth_value, element, formula_size}
use Rattle.bk_dev.specs.Development.{Development}
use Rattle.bk_dev.specs.Facts.{IsLiteral, IsValue}
use Rattle.bk_form.specs.Each.{Each}

literal-small : (dev : Development) (f : Formula) → IsLiteral dev f → formula_size f ≡ 1
literal-small dev (literal z) h = refl
literal-small dev (truth_value b) h = refl
literal-small dev (element s i) h = refl
literal-small dev f h = absurd h

pub values_small : (dev : Development) (vs : List (ℕ × Formula)) → Each (IsValue dev) vs → (k : ℕ) (d : ℕ × Formula) → k < length vs → formula_size (slice_index_or vs k d).1 ≡ 1
values_small dev [] h k d l = absurd (omega (arith, l))
values_small dev (v ∷ vs) h zero d l = literal-small dev v.1 h.0.is_literal
values_small dev (v ∷ vs) h (suc k) d l = values_small dev vs h.1 k d (omega (arith, l))
