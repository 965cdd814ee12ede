-- A body for variables is as large and as high as the body.
use Rattle.std.proofs.Common.{◌≡◌, ℕ, zero, suc, ◌+◌, ◌-◌, max, List, [], ◌∷◌, length, refl, ap, Bool, true, false, cond, nat_lt, map}
use Rattle.std.specs.Prelude.{slice_get, unwrap_or}
use Rattle.bk_form.specs.Formula.{Formula, variable, bound, unary, binary, for_all, for_some, comprehension, lambda}
use Rattle.bk_form.specs.Formula.{Formulas, no_formulas, formula_and, formula_size, formulas_size, formula_height, formulas_height}
use Rattle.bk_form.specs.Rebound.{rebound, all_rebound}
use Rattle.bk_form.specs.Replacement.{count}
use Rattle.bk_form.specs.Role.{bind}
use Rattle.bk_form.specs.Each.{Each}
use Rattle.bk_bind.specs.Opening.{opened, placed}
use Rattle.bk_kernel.specs.Naming.{names_of}

-- a formula of one node
record IsLeaf (f : Formula) : Type 0 where
  pub size : formula_size f ≡ 1
  pub height : formula_height f ≡ 1

module _ (put : ℕ → ℕ → Formula) (leaf : (k m : ℕ) → IsLeaf (put k m)) where
  mutual
    size_rebound : (k : ℕ) (f : Formula) → formula_size (rebound put k f) ≡ formula_size f
    size_rebound k (bound m) = (leaf k m).size
    size_rebound k (unary o a) = ap (λ n. n + 1) (size_rebound k a)
    size_rebound k (binary o a b) = λ i. size_rebound k a i + size_rebound k b i + 1
    size_rebound k (for_all ts p) = ap (λ n. n + 1) (size_rebound (length ts + k) p)
    size_rebound k (for_some ts p) = ap (λ n. n + 1) (size_rebound (length ts + k) p)
    size_rebound k (comprehension rs p) = λ i. sizes_rebound k rs i + size_rebound (count rs + k) p i + 1
    size_rebound k (lambda rs p v) = λ i. sizes_rebound k rs i + size_rebound (count rs + k) p i + size_rebound (count rs + k) v i + 1
    size_rebound k _ = refl

    sizes_rebound : (k : ℕ) (fs : Formulas) → formulas_size (all_rebound put k fs) ≡ formulas_size fs
    sizes_rebound k no_formulas = refl
    sizes_rebound k (formula_and f fs) = λ i. size_rebound k f i + sizes_rebound k fs i

  mutual
    height_rebound : (k : ℕ) (f : Formula) → formula_height (rebound put k f) ≡ formula_height f
    height_rebound k (bound m) = (leaf k m).height
    height_rebound k (unary o a) = ap (λ n. n + 1) (height_rebound k a)
    height_rebound k (binary o a b) = λ i. max (height_rebound k a i) (height_rebound k b i) + 1
    height_rebound k (for_all ts p) = ap (λ n. n + 1) (height_rebound (length ts + k) p)
    height_rebound k (for_some ts p) = ap (λ n. n + 1) (height_rebound (length ts + k) p)
    height_rebound k (comprehension rs p) = λ i. max (heights_rebound k rs i) (height_rebound (count rs + k) p i) + 1
    height_rebound k (lambda rs p v) = λ i. max (heights_rebound k rs i) (max (height_rebound (count rs + k) p i) (height_rebound (count rs + k) v i)) + 1
    height_rebound k _ = refl

    heights_rebound : (k : ℕ) (fs : Formulas) → formulas_height (all_rebound put k fs) ≡ formulas_height fs
    heights_rebound k no_formulas = refl
    heights_rebound k (formula_and f fs) = λ i. max (height_rebound k f i) (heights_rebound k fs i)

stack-leaves : (ns : List ℕ) (around : List Formula) → Each IsLeaf around → Each IsLeaf (bind (names_of ns) around)
stack-leaves [] around h = h
stack-leaves (n ∷ ns) around h = stack-leaves ns (variable n ∷ around) (record { size = refl; height = refl }, h)

leaf-at : (stack : List Formula) (n m : ℕ) → Each IsLeaf stack → IsLeaf (unwrap_or (slice_get stack n) (bound m))
leaf-at [] n m h = record { size = refl; height = refl }
leaf-at (f ∷ fs) zero m h = h.0
leaf-at (f ∷ fs) (suc n) m h = leaf-at fs n m h.1

leaf-placed : (stack : List Formula) → Each IsLeaf stack → (k m : ℕ) → IsLeaf (placed stack k m)
leaf-placed stack h k m = elim (nat_lt m k) as (λ b. IsLeaf (cond b (bound m) (unwrap_or (slice_get stack (m - k)) (bound m)))) [
  | true ↦ record { size = refl; height = refl }
  | false ↦ leaf-at stack (m - k) m h
]

pub size_opened : (ns : List ℕ) (p : Formula) → formula_size (opened (names_of ns) p) ≡ formula_size p
size_opened ns p = size_rebound (placed (bind (names_of ns) [])) (leaf-placed (bind (names_of ns) []) (stack-leaves ns [] tt)) 0 p

pub height_opened : (ns : List ℕ) (p : Formula) → formula_height (opened (names_of ns) p) ≡ formula_height p
height_opened ns p = height_rebound (placed (bind (names_of ns) [])) (leaf-placed (bind (names_of ns) []) (stack-leaves ns [] tt)) 0 p
