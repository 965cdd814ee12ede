-- Of several formulas that are asked in turn, what the first one is asked is within the limits where all of it is.
use Rattle.std.proofs.Common.{◌≡◌, ℕ, ◌-◌, ◌≤◌, List, [], ◌∷◌, length, get_or, take, drop, sym, ◌∙◌, ap, subst, arith}
use Rattle.std.proofs.lemmas.List.{take_all}
use Rattle.bk_val.specs.ValueType.{ValueType}
use Rattle.bk_form.specs.Table.{Table}
use Rattle.bk_form.specs.Formula.{Formula, bound, binary, formulas_of}
use Rattle.bk_form.specs.Replacement.{count}
use Rattle.bk_form.specs.declared.operator.BinOp.TheVariants.{And, In}
use Rattle.bk_bind.specs.Limits.{IsWithinLimits}
use Rattle.bk_form.specs.Lifting.{lifted}
use Rattle.bk_bind.proofs.Within.{within_right}
use Rattle.bk_wd.specs.Joining.{both}
use Rattle.bk_wd.specs.WellDefined.{ranges_onto, defined, all_defined}
use Rattle.bk_wd.proofs.Within.{within_both_right, within_ranges_onto, within_all_defined}

pub within_first_range : (n : ℕ) (f : Formula) (fs : List Formula) (r : Formula) (m : ℕ) → 1 ≤ length fs → r ≡ get_or fs 0 r → m ≡ count (formulas_of (take (length fs - 1) (drop 1 fs))) → IsWithinLimits (ranges_onto n f (formulas_of fs)) → IsWithinLimits (binary In (bound m) (lifted n 0 r))
within_first_range n f [] r m l e q w = absurd (omega (arith, l))
within_first_range n f (x ∷ xs) r m l e q w =
    let g = binary In (bound (count (formulas_of xs))) (lifted n 0 x) in
    let k : IsWithinLimits g = within_right And f g (within_ranges_onto n (binary And f g) (formulas_of xs) w) in
    let rest : take (length (x ∷ xs) - 1) (drop 1 (x ∷ xs)) ≡ xs = take_all (length (x ∷ xs) - 1) xs (omega arith) in
    let place : m ≡ count (formulas_of xs) = q ∙ ap (λ ys. count (formulas_of ys)) rest in
    subst (λ y. IsWithinLimits (binary In (bound y) (lifted n 0 r))) (sym place) (subst (λ y. IsWithinLimits (binary In (bound (count (formulas_of xs))) (lifted n 0 y))) (sym e) k)

pub within_first_defined : (table : Table) (around : List ValueType) (f : Formula) (fs : List Formula) (r : Formula) → r ≡ get_or fs 0 r → 1 ≤ length fs → IsWithinLimits (all_defined table around f (formulas_of fs)) → IsWithinLimits (defined table around r)
within_first_defined table around f [] r e l w = absurd (omega (arith, l))
within_first_defined table around f (x ∷ xs) r e l w =
    let d = defined table around x in
    let k : IsWithinLimits d = within_both_right f d (within_all_defined table around (both f d) (formulas_of xs) w) in
    subst (λ y. IsWithinLimits (defined table around y)) (sym e) k

-- joined to what was asked before
pub within_first_joined : (table : Table) (around : List ValueType) (f : Formula) (fs : List Formula) (r d : Formula) → r ≡ get_or fs 0 r → 1 ≤ length fs → d ≡ defined table around r → IsWithinLimits (all_defined table around f (formulas_of fs)) → IsWithinLimits (both f d)
within_first_joined table around f [] r d e l q w = absurd (omega (arith, l))
within_first_joined table around f (x ∷ xs) r d e l q w =
    let k : IsWithinLimits (both f (defined table around x)) = within_all_defined table around (both f (defined table around x)) (formulas_of xs) w in
    let same : d ≡ defined table around x = q ∙ ap (λ y. defined table around y) e in
    subst (λ y. IsWithinLimits (both f y)) (sym same) k
