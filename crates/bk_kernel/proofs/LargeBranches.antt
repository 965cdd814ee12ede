-- What a rule adds is too large where one of its branches is.
use Rattle.std.proofs.Common.{◌≡◌, List, [], ◌∷◌, sym, ◌∙◌, subst}
use Rattle.std.specs.Prelude.{Option, Some}
use Rattle.std.specs.Option.{option_map}
use Rattle.bk_form.specs.Each.{Each}
use Rattle.bk_form.specs.Formula.{Formula}
use Rattle.bk_bind.specs.Limits.{IsWithinLimits}
use Rattle.bk_arith.specs.Cases.{equations}
use Rattle.bk_arith.proofs.Options.{some-same, mapped}
use Rattle.bk_kernel.specs.Branches.{Branch, IsWithinBranch}
use Rattle.bk_kernel.specs.Listing.{one_for_each}
use Rattle.bk_kernel.specs.Held.{IsTooLarge}

-- one for each of some equations
cases-within : (goal : Formula) (ps : List Formula) → Each IsWithinBranch (one_for_each goal ps) → Each IsWithinLimits ps
cases-within goal [] w = tt
cases-within goal (p ∷ ps) w = (w.0.0.0, cases-within goal ps w.1)

pub elements-large : (goal term : Formula) (entry : Option (List Formula)) (fs : List Formula) → entry ≡ Some fs → (Each IsWithinLimits (equations term fs) → ⊥) → IsTooLarge (option_map (λ gs. one_for_each goal (equations term gs)) entry)
elements-large goal term entry fs there large bs e w =
    let made : List Formula → List Branch = λ gs. one_for_each goal (equations term gs) in
    let k = mapped made entry bs e in
    let same : k.0 ≡ fs = some-same k.0 fs (sym k.1 ∙ there) in
    let small : Each IsWithinLimits (equations term k.0) = cases-within goal (equations term k.0) (subst (λ x. Each IsWithinBranch x) (sym k.2) w) in
    large (subst (λ gs. Each IsWithinLimits (equations term gs)) same small)
