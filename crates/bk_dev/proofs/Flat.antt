-- A development without || is flat already.
use Rattle.std.proofs.Common.{◌≡◌, ℕ, ◌+◌, List, [], ◌∷◌, length, refl, ap}
use Rattle.bk_gsl.specs.Substitution.{Substitution, pre, guard, choice, if_else, any, seq, par, assert, loop}
use Rattle.bk_gsl.specs.Flat.{copied, flat_from, IsFlat}
use Rattle.bk_dev.specs.Development.{Body}
use Rattle.bk_dev.specs.Flattened.{flat_bodies}
use Rattle.bk_form.specs.Each.{Each}

pub flat_already : (s : Substitution) → IsFlat s → (k : ℕ) → flat_from k s ≡ s
flat_already (pre p s) h k = ap (pre p) (flat_already s h k)
flat_already (guard p s) h k = ap (guard p) (flat_already s h k)
flat_already (choice s t) h k = λ i. choice (flat_already s h.0 k i) (flat_already t h.1 (k + length (copied s)) i)
flat_already (if_else p s t) h k = λ i. if_else p (flat_already s h.0 k i) (flat_already t h.1 (k + length (copied s)) i)
flat_already (any zs s) h k = ap (any zs) (flat_already s h k)
flat_already (seq s t) h k = λ i. seq (flat_already s h.0 k i) (flat_already t h.1 (k + length (copied s)) i)
flat_already (par s t) h k = absurd h
flat_already (assert p s) h k = ap (assert p) (flat_already s h k)
flat_already (loop p s i v) h k = λ j. loop p (flat_already s h k j) i v
flat_already _ h k = refl

-- ---- levels

pub flat_bodies_already : (bs : List Body) → Each (λ b. IsFlat b.sub) bs → (k : ℕ) → flat_bodies k bs ≡ bs
flat_bodies_already [] h k = refl
flat_bodies_already (b ∷ bs) h k = λ i. record b { sub = flat_already b.sub h.0 k i } ∷ flat_bodies_already bs h.1 (k + length (copied b.sub)) i
