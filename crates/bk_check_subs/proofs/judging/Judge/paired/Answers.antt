use Rattle.std.proofs.Common.{◌∙◌, ap, sym, ℕ, [], ◌∷◌}
use Rattle.std.specs.Prelude.{Option}
use Rattle.bk_raw.specs.Errors.Blame.{blame, earlier}
use Rattle.bk_raw.specs.Errors.Faults.{Fault, wrong_write}
use Rattle.bk_elab_terms.specs.Shown.{told}
use Rattle.bk_statics.specs.SubFaults.{first_place}
use Rattle.bk_check_subs.proofs.FaultJudged.{paired-next, paired-missing}
use Rattle.bk_check_subs.proofs.judging.Judge.paired.Goals as goal

pub loop-index-preserved : goal.loop-index-preserved
loop-index-preserved c =
    paired-next c.args.self.now (first_place c.args.names.now) c.args.names.now c.args.terms.now c.loop-index.index c.index-names-index.result c.index-terms-index.result (told c.loop-index.fault) (told c.in_ok-assigned.field-0) (told c.earlier-fault.result) _
    c.loop-index-test.true c.index-names-index.is c.if-index-terms.false c.index-terms-index.is c.in_ok-assigned.ensures c.earlier-fault.ensures c.loop-index.invariant

pub returns-then-index-terms : goal.returns-then-index-terms
returns-then-index-terms c =
    let first : ℕ = first_place c.args.names.now in
    c.earlier.ensures
    ∙ (ap (λ (o : Option Fault). earlier (told c.loop-index.fault) o)
    (c.wrong_write.ensures ∙ (ap (λ (n : ℕ). blame (wrong_write n ∷ [])) c.first_place.ensures
    ∙ ap blame (sym (paired-missing c.args.self.now first c.args.names.now c.args.terms.now c.loop-index.index c.index-names-index.result c.loop-index-test.true c.index-names-index.is c.if-index-terms.true))))
    ∙ c.loop-index.invariant)
