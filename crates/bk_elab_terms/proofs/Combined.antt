-- What comes of parts, from what each part reads as.
use Rattle.std.proofs.Common.{◌≡◌, List, ◌++◌, sym, ◌∙◌, subst}
use Rattle.std.specs.Prelude.{Option}
use Rattle.bk_raw.specs.Meaning.Outcome.{Outcome, Reading}
use Rattle.bk_raw.specs.Meaning.TermReading.{behind_faults, spoilt_by, from_one, from_two}
use Rattle.bk_raw.specs.Errors.Blame.{blame, earlier}
use Rattle.bk_elab_terms.specs.declared.blame.Fault.{Fault as ToldFault}
use Rattle.bk_elab_terms.specs.declared.outcome.Step.{Step}
use Rattle.bk_elab_terms.specs.Shown.{shown_outcome, told, IsRead}
use Rattle.bk_raw.proofs.Blamed.{blame-joins}
use Rattle.bk_raw.specs.Errors.Faults.{Fault}

pub one-read : (k : Outcome → Reading) (a : Reading) (read step result : Step) → IsRead read a → IsRead step (k (shown_outcome read.outcome)) → ((fs : List Fault) (r : Reading) → told read.fault ≡ blame fs → IsRead step r → IsRead result (behind_faults fs r)) → IsRead result (from_one k a)
one-read k a read step result h g f = f a.faults (k a.outcome) h.fault (subst (λ (o : Outcome). IsRead step (k o)) h.outcome g)

pub both-told : (a b : Reading) (one other : Step) (fault : Option ToldFault) → IsRead one a → IsRead other b → told fault ≡ earlier (told one.fault) (told other.fault) → told fault ≡ blame (a.faults ++ b.faults)
both-told a b one other fault h g e = e ∙ ((λ i. earlier (h.fault i) (g.fault i)) ∙ sym (blame-joins a.faults b.faults))

pub two-read : (k : Outcome → Outcome → Reading) (a b : Reading) (one other step result : Step) (fault : Option ToldFault) → IsRead one a → IsRead other b → told fault ≡ earlier (told one.fault) (told other.fault) → IsRead step (k (shown_outcome one.outcome) (shown_outcome other.outcome)) → ((fs : List Fault) (r : Reading) → told fault ≡ blame fs → IsRead step r → IsRead result (behind_faults fs r)) → IsRead result (from_two k a b)
two-read k a b one other step result fault h g e s f =
    f (a.faults ++ b.faults) (k a.outcome b.outcome) (both-told a b one other fault h g e)
    (subst (λ (o : Outcome). IsRead step (k a.outcome o)) g.outcome (subst (λ (o : Outcome). IsRead step (k o (shown_outcome other.outcome))) h.outcome s))
