-- What two sides of one type come to, by what was found of them.
use Rattle.std.proofs.Common.{◌≡◌, ℕ, refl, sym, ◌∙◌, ap, subst, Bool, true, false, cond, Result, Ok, Err}
use Rattle.std.specs.Prelude.{Option, None, Some, IfOk}
use Rattle.bk_io.specs.declared.text.Memory.{Memory}
use Rattle.bk_val.specs.ValueType.{ValueType}
use Rattle.bk_form.specs.Formula.{Formula}
use Rattle.bk_raw.specs.Meaning.Outcome.{Joint, joins, Partial, joint_of, whole_of, filled, Outcome, partial, holding, Reading, silently, plainly, no_type, fitting, of_one}
use Rattle.bk_raw.specs.Meaning.OperatorReadings.{one_type_by, equal, joint, joined}
use Rattle.bk_elab_terms.specs.declared.operator.Alike.{Alike}
use Rattle.bk_elab_terms.specs.declared.operator.Alike.TheVariants.{Both, Neither, Different}
use Rattle.bk_elab_terms.specs.declared.outcome.Step.{Step}
use Rattle.bk_elab_terms.specs.Shapes.{IsAlike, IsAlikeBy}
use Rattle.bk_elab_terms.specs.Shown.{IsRead}

-- either way it is the same
same-both : {A : Type 0} (b : Bool) (x : A) → cond b x x ≡ x
same-both true x = refl
same-both false x = refl

module _ (test : ValueType → Bool) (k : Formula → Formula → ValueType → Outcome) (neither : Reading) (at : ℕ) where
  both-by : (f g : Formula) (t : ValueType) (v w : Option (Formula × ValueType)) (p q : Partial) → IsAlikeBy (Both f g t) v w p q → one_type_by test k neither at v w p q ≡ cond (test t) (plainly (k f g t)) (silently (no_type at))
  both-by f g t (Some v) w p q h =
      (λ i. one_type_by test k neither at (Some (h.0 i)) w p q) ∙ ap (λ (o : Option Formula). cond (test t) (of_one (λ (x : Formula). k f x t) (fitting at o)) (silently (no_type at))) h.1
  both-by f g t None (Some w) p q h =
      (λ i. one_type_by test k neither at None (Some (h.0 i)) p q) ∙ ap (λ (o : Option Formula). cond (test t) (of_one (λ (x : Formula). k x g t) (fitting at o)) (silently (no_type at))) h.1
  both-by f g t None None p q h = absurd h

  different-by : (v w : Option (Formula × ValueType)) (p q : Partial) → IsAlikeBy Different v w p q → one_type_by test k neither at v w p q ≡ silently (no_type at)
  different-by (Some v) w p q h =
      ap (λ (o : Option Formula). cond (test v.1) (of_one (λ (g : Formula). k v.0 g v.1) (fitting at o)) (silently (no_type at))) h ∙ same-both (test v.1) (silently (no_type at))
  different-by None (Some w) p q h =
      ap (λ (o : Option Formula). cond (test w.1) (of_one (λ (f : Formula). k f w.0 w.1) (fitting at o)) (silently (no_type at))) h ∙ same-both (test w.1) (silently (no_type at))
  different-by None None p q h = absurd h

  neither-by : (a b : Partial) (v w : Option (Formula × ValueType)) (p q : Partial) → IsAlikeBy (Neither a b) v w p q → one_type_by test k neither at v w p q ≡ neither
  neither-by a b (Some v) w p q h = absurd h
  neither-by a b None (Some w) p q h = absurd h
  neither-by a b None None p q h = refl

neither-same : (a b : Partial) (v w : Option (Formula × ValueType)) (p q : Partial) → IsAlikeBy (Neither a b) v w p q → (a ≡ p) × (b ≡ q)
neither-same a b (Some v) w p q h = absurd h
neither-same a b None (Some w) p q h = absurd h
neither-same a b None None p q h = h

-- ---- E = F
pub equal-both : (k : Formula → Formula → Formula) (at : ℕ) (f g : Formula) (t : ValueType) (p q : Partial) → IsAlike (Both f g t) p q → equal k at p q ≡ plainly (holding (k f g))
equal-both k at f g t p q h = both-by (λ t. true) (λ f g t. holding (k f g)) (silently (no_type at)) at f g t (whole_of p) (whole_of q) p q h

-- they have no type in common, or none of both gives one
pub equal-none : (k : Formula → Formula → Formula) (at : ℕ) (a : Alike) (p q : Partial) → IsAlike a p q → ((f g : Formula) (t : ValueType) → a ≡ Both f g t → ⊥) → equal k at p q ≡ silently (no_type at)
equal-none k at (Both f g t) p q h not = absurd (not f g t refl)
equal-none k at (Neither a b) p q h not = neither-by (λ t. true) (λ f g t. holding (k f g)) (silently (no_type at)) at a b (whole_of p) (whole_of q) p q h
equal-none k at Different p q h not = different-by (λ t. true) (λ f g t. holding (k f g)) (silently (no_type at)) at (whole_of p) (whole_of q) p q h

-- ---- two sets
pub joint-both : (j : Joint) (at : ℕ) (f g : Formula) (t : ValueType) (p q : Partial) → IsAlike (Both f g t) p q → joint j at p q ≡ cond (joins j t) (plainly (joined j f g t)) (silently (no_type at))
joint-both j at f g t p q h = both-by (joins j) (joined j) (plainly (partial (joint_of j p q))) at f g t (whole_of p) (whole_of q) p q h

pub joint-neither : (j : Joint) (at : ℕ) (a b p q : Partial) → IsAlike (Neither a b) p q → joint j at p q ≡ plainly (partial (joint_of j a b))
joint-neither j at a b p q h =
    let same = neither-same a b (whole_of p) (whole_of q) p q h in
    neither-by (joins j) (joined j) (plainly (partial (joint_of j p q))) at a b (whole_of p) (whole_of q) p q h ∙ sym (λ i. plainly (partial (joint_of j (same.0 i) (same.1 i))))

pub joint-different : (j : Joint) (at : ℕ) (p q : Partial) → IsAlike Different p q → joint j at p q ≡ silently (no_type at)
joint-different j at p q h = different-by (joins j) (joined j) (plainly (partial (joint_of j p q))) at (whole_of p) (whole_of q) p q h

pub ruleset alikes = (equal-both, equal-none, joint-both, joint-neither, joint-different)

-- what comes at every byte comes at these
pub at-these : (r : Result Step Memory) (f : ℕ → ℕ → Reading) (at x : ℕ) → IfOk r (λ s. (at x : ℕ) → IsRead s (f at x)) → IfOk r (λ s. IsRead s (f at x))
at-these (Ok s) f at x h = h at x
at-these (Err e) f at x h = tt
