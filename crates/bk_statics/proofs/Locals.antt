-- What a level's substitution binds is read nowhere after its scope, and stands in no formula that names none of it.
use Rattle.std.proofs.Common.{◌≡◌, inl, inr, ℕ, zero, suc, List, [], ◌∷◌, refl, sym, ◌∙◌, ap, subst, Bool, true, false, ◌||◌, nat_eq}
use Rattle.std.specs.Prelude.{Option, None, Some}
use Rattle.bk_form.specs.Formula.{Formula}
use Rattle.bk_form.specs.Replacement.{occurs}
use Rattle.bk_gsl.specs.State.{among}
use Rattle.bk_gsl.specs.Substitution.{Substitution}
use Rattle.bk_gsl.specs.Apart.{LocalsAreApart}
use Rattle.bk_dev.specs.declared.kind.Home.{Home}
use Rattle.bk_dev.specs.declared.kind.Home.TheVariants.{Constant, Input, Abstract, Concrete, Inner}
use Rattle.bk_dev.specs.Development.{Development}
use Rattle.bk_dev.specs.Facts.{AllAre, binders, is_constant, is_variable_of, is_variable_above, is_inner_of, home_of, names_joined, names_own, writes_own, IsSubOf}
use Rattle.bk_dev.proofs.Staying.{Within, stays-apart}
use Rattle.bk_statics.specs.VerdictLaws.{LocalsStayApart}
use Rattle.bk_statics.proofs.SubStays.{nat_eq-then, or-cases, or-left, or-right}

all-passes : (p : ℕ → Bool) (ns : List ℕ) (n : ℕ) → AllAre p ns → among ns n ≡ true → p n ≡ true
all-passes p [] n h e = absurd (cc)
all-passes p (m ∷ ms) n h e = elim (or-cases (nat_eq n m) (among ms n) e) [ inl k ↦ subst (λ x. p x ≡ true) (sym (nat_eq-then n m k)) h.0 | inr k ↦ all-passes p ms n h.1 k ]

-- what is inner to a level is neither constant nor variable
inner-alone : (k : ℕ) (h : Option Home) → is_inner_of k h ≡ true → (is_constant h || is_variable_of k h || is_variable_above k h) ≡ false
inner-alone k None e = absurd (cc)
inner-alone k (Some Constant) e = absurd (cc)
inner-alone k (Some Input) e = absurd (cc)
inner-alone k (Some (Abstract j)) e = absurd (cc)
inner-alone k (Some (Concrete j)) e = absurd (cc)
inner-alone zero (Some (Inner j)) e = refl
inner-alone (suc k) (Some (Inner j)) e = refl

-- what may be written may be named
written-named : (c i v o : Bool) → (v || o) ≡ true → (c || i || v || o) ≡ true
written-named true i v o e = refl
written-named false true v o e = refl
written-named false false v o e = e

pub locals-apart : LocalsStayApart
locals-apart dev k inputs outputs s h r f =
    stays-apart (names_own dev k inputs outputs) (names_joined dev k) (writes_own dev k outputs)
    (λ n e. written-named (is_constant (home_of dev n)) (among inputs n) (is_variable_of k (home_of dev n)) (among outputs n) e)
    s h.stays
    (λ n e. inner-alone k (home_of dev n) (all-passes (λ m. is_inner_of k (home_of dev m)) (binders s) n h.binds_inner e))
    (λ n. occurs n r) f
