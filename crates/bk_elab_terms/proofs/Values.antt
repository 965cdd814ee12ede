-- Two sides of which one is no expression.
use Rattle.std.proofs.Common.{◌≡◌, ◌≢◌, ◌++◌, refl, sym, ◌∙◌, ap, subst}
use Rattle.std.specs.Prelude.{Option}
use Rattle.bk_raw.specs.Meaning.Outcome.{Partial, Outcome, partial, ranging, holding, silent, Reading, silently, unvalued}
use Rattle.bk_raw.specs.Meaning.OperatorReadings.{on_values, single_reading}
use Rattle.bk_raw.specs.Errors.Blame.{blame, earlier}
use Rattle.bk_elab_terms.specs.declared.blame.Fault.{Fault as ToldFault}
use Rattle.bk_elab_terms.specs.declared.outcome.Step.{Step}
use Rattle.bk_elab_terms.specs.Shown.{shown_outcome, told, IsRead}
use Rattle.bk_raw.proofs.Blamed.{blame-joins}

pub left-none : (k : Partial → Partial → Reading) (a b : Outcome) → ((e : Partial) → a ≢ partial e) → on_values k a b ≡ silently (unvalued a ++ unvalued b)
left-none k (partial e) b not = absurd (not e refl)
left-none k (ranging f t there) b not = refl
left-none k (holding p) b not = refl
left-none k silent b not = refl

pub single-none : (o : Outcome) → ((e : Partial) → o ≢ partial e) → single_reading o ≡ silently (unvalued o)
single-none (partial e) not = absurd (not e refl)
single-none (ranging f t there) not = refl
single-none (holding p) not = refl
single-none silent not = refl

pub ruleset alone = (single-none)

-- the first of the faults of both is told
pub both-unvalued : (a b : Outcome) (one two fault : Option ToldFault) (s : Step) (r : Reading) → r ≡ silently (unvalued a ++ unvalued b) → told one ≡ blame (unvalued a) → told two ≡ blame (unvalued b) → told fault ≡ earlier (told one) (told two) → shown_outcome s.outcome ≡ silent → s.fault ≡ fault → IsRead s r
both-unvalued a b one two fault s r e h g j x y =
    subst (IsRead s) (sym e) record { outcome = x; fault = ap told y ∙ (j ∙ ((λ i. earlier (h i) (g i)) ∙ sym (blame-joins (unvalued a) (unvalued b)))) }
