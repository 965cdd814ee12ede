-- Where assertions are asked in turn, what the first of them is asked, and the others after it, is within the limits where all of it is.
use Rattle.std.proofs.Common.{◌≡◌, ◌-◌, ◌≤◌, List, [], ◌∷◌, length, get_or, take, drop, sym, ◌∙◌, ap, subst, arith}
use Rattle.std.proofs.lemmas.List.{take_all}
use Rattle.bk_form.specs.Table.{Table}
use Rattle.bk_form.specs.Formula.{Formula}
use Rattle.bk_bind.specs.Limits.{IsWithinLimits}
use Rattle.bk_wd.specs.Joining.{where_true}
use Rattle.bk_wd.specs.WellDefined.{defined}
use Rattle.bk_wd.proofs.Within.{within_both_left, within_both_right, within_where_true}
use Rattle.bk_po.specs.Obligations.{defined_in_turn}

pub within_first_turn : (table : Table) (fs : List Formula) (p : Formula) → p ≡ get_or fs 0 p → 1 ≤ length fs → IsWithinLimits (defined_in_turn table fs) → IsWithinLimits (defined table [] p)
within_first_turn table [] p e l w = absurd (omega (arith, l))
within_first_turn table (x ∷ xs) p e l w = subst (λ y. IsWithinLimits (defined table [] y)) (sym e) (within_both_left (defined table [] x) (where_true x (defined_in_turn table xs)) w)

-- the others, where the first is true
pub within_implied_turn : (table : Table) (fs : List Formula) (p q : Formula) → p ≡ get_or fs 0 p → 1 ≤ length fs → q ≡ defined_in_turn table (take (length fs - 1) (drop 1 fs)) → IsWithinLimits (defined_in_turn table fs) → IsWithinLimits (where_true p q)
within_implied_turn table [] p q e l h w = absurd (omega (arith, l))
within_implied_turn table (x ∷ xs) p q e l h w =
    let others : take (length (x ∷ xs) - 1) (drop 1 (x ∷ xs)) ≡ xs = take_all (length (x ∷ xs) - 1) xs (omega arith) in
    let same : q ≡ defined_in_turn table xs = h ∙ ap (λ ys. defined_in_turn table ys) others in
    let k : IsWithinLimits (where_true x (defined_in_turn table xs)) = within_both_right (defined table [] x) (where_true x (defined_in_turn table xs)) w in
    subst (λ y. IsWithinLimits (where_true y q)) (sym e) (subst (λ y. IsWithinLimits (where_true x y)) (sym same) k)

pub within_other_turns : (table : Table) (fs : List Formula) → 1 ≤ length fs → IsWithinLimits (defined_in_turn table fs) → IsWithinLimits (defined_in_turn table (take (length fs - 1) (drop 1 fs)))
within_other_turns table [] l w = absurd (omega (arith, l))
within_other_turns table (x ∷ xs) l w =
    let others : take (length (x ∷ xs) - 1) (drop 1 (x ∷ xs)) ≡ xs = take_all (length (x ∷ xs) - 1) xs (omega arith) in
    let k : IsWithinLimits (where_true x (defined_in_turn table xs)) = within_both_right (defined table [] x) (where_true x (defined_in_turn table xs)) w in
    subst (λ ys. IsWithinLimits (defined_in_turn table ys)) (sym others) (within_where_true x (defined_in_turn table xs) k)
