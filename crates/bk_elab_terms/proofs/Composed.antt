-- What comes of two relations that are composed.
use Rattle.std.proofs.Common.{◌≡◌, ℕ, List, ◌++◌, sym, ◌∙◌, ap, subst, Result, Ok, Err}
use Rattle.std.specs.Prelude.{Option, None, Some, IfOk}
use Rattle.bk_io.specs.declared.text.Memory.{Memory}
use Rattle.bk_val.specs.ValueType.{ValueType}
use Rattle.bk_form.specs.Formula.{Formula}
use Rattle.bk_raw.specs.Meaning.Outcome.{silent, Asked, silently}
use Rattle.bk_raw.specs.Meaning.OperatorReadings.{composed}
use Rattle.bk_raw.specs.Errors.Blame.{blame, earlier}
use Rattle.bk_elab_terms.specs.declared.blame.Fault.{Fault as ToldFault}
use Rattle.bk_elab_terms.specs.declared.outcome.Step.{Step}
use Rattle.bk_elab_terms.specs.Shown.{shown_outcome, told, IsRead, IsAsked}
use Rattle.bk_raw.proofs.Blamed.{blame-joins}
use Rattle.bk_raw.specs.Errors.Faults.{Fault}

-- a relation with the types of its parts
abbrev pub Related : Type 0
Related = Formula × ValueType × ValueType

-- where one of both is none
pub composes-none : (at : ℕ) (a b : Asked Related) (c d : Option Related) (one two fault : Option ToldFault) (s : Step) → IsAsked c one a → IsAsked d two b → ((fs : List Fault) → composed at fs c d ≡ silently fs) → told fault ≡ earlier (told one) (told two) → shown_outcome s.outcome ≡ silent → s.fault ≡ fault →
    IsRead s (composed at (a.faults ++ b.faults) a.answer b.answer)
composes-none at a b c d one two fault s h g n j x y =
    subst (IsRead s) (sym (n (a.faults ++ b.faults)) ∙ (λ i. composed at (a.faults ++ b.faults) (h.same i) (g.same i)))
    record { outcome = x; fault = ap told y ∙ (j ∙ ((λ i. earlier (h.first i) (g.first i)) ∙ sym (blame-joins a.faults b.faults))) }

-- where both are relations
pub composes-both : (at : ℕ) (a b : Asked Related) (c d e f : Related) (one two : Option ToldFault) (r : Result Step Memory) → IsAsked (Some c) one a → IsAsked (Some d) two b → e ≡ c → f ≡ d → IfOk r (λ s. (fs : List Fault) → IsRead s (composed at fs (Some e) (Some f))) →
    IfOk r (λ s. IsRead s (composed at (a.faults ++ b.faults) a.answer b.answer))
composes-both at a b c d e f one two (Ok s) h g x y k =
    subst (IsRead s) (λ i. composed at (a.faults ++ b.faults) (h.same i) (g.same i)) (subst (IsRead s) (λ i. composed at (a.faults ++ b.faults) (Some (x i)) (Some (y i))) (k (a.faults ++ b.faults)))
composes-both at a b c d e f one two (Err x) h g u v k = tt
