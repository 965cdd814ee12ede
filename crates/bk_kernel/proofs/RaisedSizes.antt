-- How large a body is at one more than its variable.
use Rattle.std.proofs.Common.{◌≡◌, ℕ, zero, suc, ◌+◌, ◌*◌, ◌≤◌, ◌<◌, ◌^◌, List, [], ◌∷◌, length, get_or, map, refl, ap, arith, Bool, true, false, cond, nat_eq, pos}
use Rattle.bk_limits.specs.declared.TheConstants.{MOST_NODES}
use Rattle.bk_form.specs.Formula.{Formula, bound, literal, unary, binary, for_all, for_some, comprehension, lambda, Formulas, no_formulas, formula_and, formula_size, formulas_size, formulas_of}
use Rattle.bk_form.specs.declared.operator.BinOp.TheVariants.{Add}
use Rattle.bk_form.specs.Replacement.{count}
use Rattle.bk_form.proofs.Sizes.{size_pos, size_at}
use Rattle.bk_form.specs.Rebound.{rebound, all_rebound}
use Rattle.bk_kernel.specs.Next.{raised, at_next}

-- ---- lists of formulas
pub count_listed : (fs : List Formula) → count (formulas_of fs) ≡ length fs
count_listed [] = refl
count_listed (f ∷ fs) = ap suc (count_listed fs)

pub all_raised-of : (k : ℕ) (fs : List Formula) → all_rebound raised k (formulas_of fs) ≡ formulas_of (map (rebound raised k) fs)
all_raised-of k [] = refl
all_raised-of k (f ∷ fs) = λ i. formula_and (rebound raised k f) (all_raised-of k fs i)

-- a formula of the list has no more nodes then than the list
pub raised_size_at : (k : ℕ) (fs : List Formula) (i : ℕ) (d : Formula) → i < length fs → formula_size (rebound raised k (get_or fs i d)) ≤ formulas_size (all_rebound raised k (formulas_of fs))
raised_size_at k [] i d h = absurd (omega arith)
raised_size_at k (f ∷ fs) zero d h = omega arith
raised_size_at k (f ∷ fs) (suc i) d h = let rest : formula_size (rebound raised k (get_or fs i d)) ≤ formulas_size (all_rebound raised k (formulas_of fs)) = raised_size_at k fs i d (omega arith) in omega arith

-- ---- sizes: not fewer nodes than before, and at most three for each
one-more : (m : ℕ) (b : Bool) → (1 ≤ formula_size (cond b (binary Add (bound m) (literal (pos 1))) (bound m))) × (formula_size (cond b (binary Add (bound m) (literal (pos 1))) (bound m)) ≤ 3)
one-more m true = (omega arith, omega arith)
one-more m false = (omega arith, omega arith)

mutual
  pub size_raised : (k : ℕ) (f : Formula) → (formula_size f ≤ formula_size (rebound raised k f)) × (formula_size (rebound raised k f) ≤ 3 * formula_size f)
  size_raised k (bound m) = one-more m (nat_eq m k)
  size_raised k (unary o a) = let h = size_raised k a in (omega (arith, h.0), omega (arith, h.1))
  size_raised k (binary o a b) = let h = size_raised k a in let g = size_raised k b in (omega (arith, h.0, g.0), omega (arith, h.1, g.1))
  size_raised k (for_all ts p) = let h = size_raised (length ts + k) p in (omega (arith, h.0), omega (arith, h.1))
  size_raised k (for_some ts p) = let h = size_raised (length ts + k) p in (omega (arith, h.0), omega (arith, h.1))
  size_raised k (comprehension rs p) = let h = sizes_raised k rs in let g = size_raised (count rs + k) p in (omega (arith, h.0, g.0), omega (arith, h.1, g.1))
  size_raised k (lambda rs p v) = let h = sizes_raised k rs in let g = size_raised (count rs + k) p in let w = size_raised (count rs + k) v in (omega (arith, h.0, g.0, w.0), omega (arith, h.1, g.1, w.1))
  size_raised k _ = (omega arith, omega arith)

  sizes_raised : (k : ℕ) (fs : Formulas) → (formulas_size fs ≤ formulas_size (all_rebound raised k fs)) × (formulas_size (all_rebound raised k fs) ≤ 3 * formulas_size fs)
  sizes_raised k no_formulas = (omega arith, omega arith)
  sizes_raised k (formula_and f fs) = let h = size_raised k f in let g = sizes_raised k fs in (omega (arith, h.0, g.0), omega (arith, h.1, g.1))

pub small_raised : (f : Formula) → formula_size f ≤ MOST_NODES → formula_size (at_next f) < 2 ^ 32
small_raised f h = let k = size_raised 0 f in omega (arith, h, k.1)

pub grown_raised : (f : Formula) → formula_size f ≤ formula_size (at_next f)
grown_raised f = (size_raised 0 f).0

pub ruleset raising = (size_pos, size_at, raised_size_at, all_raised-of, small_raised, grown_raised)
