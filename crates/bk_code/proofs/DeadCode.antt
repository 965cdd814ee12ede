-- Code that nothing reaches.
use Rattle.std.proofs.Common.{◌≡◌, ◌<◌, ◌≤◌, ◌⊎◌, ℕ, zero, suc, ◌+◌, refl, sym, subst, arith}
use Rattle.std.specs.Prelude.{slice_index}
use Rattle.bk_code.specs.declared.instruction.Inst.TheVariants.{Store, Ret}
use Rattle.bk_code.specs.Checks.{FlowsTo, Passes, LeadsThrough}
use Rattle.bk_code.specs.Laws.{LoadableIsChecked, dead_store, RefusesDeadStore}

pub loadable_is_checked : LoadableIsChecked
loadable_is_checked image l = record { numbered = l.numbered; depths = l.depths; fitting = l.fitting }

none_passes : (from : ℕ) → Passes dead_store from 1 → ⊥
none_passes zero p =
    let q : Ret ≡ p.0 = cc in
    subst (λ i. FlowsTo i 0 1) (sym q) p.2
none_passes (suc zero) p =
    let q : Store 0 ≡ p.0 = cc in
    let r : 1 ≡ 1 + 1 = subst (λ i. FlowsTo i 1 1) (sym q) p.2 in
    omega (arith)
none_passes (suc (suc zero)) p =
    let q : Ret ≡ p.0 = cc in
    subst (λ i. FlowsTo i 2 1) (sym q) p.2
none_passes (suc (suc (suc n))) p = cc

none_leads : (from n : ℕ) → LeadsThrough dead_store n from 1 → ⊥
none_leads from zero p = none_passes from p
none_leads from (suc n) p = none_passes p.0 p.2

pub refuses_dead_store : RefusesDeadStore
refuses_dead_store l =
    let none : slice_index l.depths 1 ≡ 0 = l.rest 1 (omega (arith)) (λ from n h p. none_leads from n p) in
    let one : 1 ≤ slice_index l.depths 1 = l.fitting.enough 1 (Store 0) refl in
    omega (arith)
