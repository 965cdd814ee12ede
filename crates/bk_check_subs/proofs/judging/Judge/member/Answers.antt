use Rattle.std.proofs.Common.{◌∙◌, ap, sym, [], ◌∷◌, cond}
use Rattle.std.specs.Prelude.{Option}
use Rattle.bk_val.specs.ValueType.{ValueType}
use Rattle.bk_raw.specs.Errors.Blame.{blame}
use Rattle.bk_elab_terms.specs.Shown.{told}
use Rattle.bk_check_subs.specs.Written.{writable_by}
use Rattle.bk_check_subs.specs.Judged.{typing_by, names_by}
use Rattle.std.proofs.lemmas.List.{append-nil}
use Rattle.bk_form.specs.Formula.{Formula}
use Rattle.bk_raw.specs.Meaning.Outcome.{no_type, ask_domain}
use Rattle.bk_raw.specs.Meaning.TermReading.{place_of}
use Rattle.bk_statics.specs.Typings.{target, type_at, outcome_of}
use Rattle.bk_statics.specs.SubFaults.{left_faults, old_faults, is_same_option, domain_faults, over_faults}
use Rattle.bk_scope.proofs.FaultSteps.{told-four}
use Rattle.bk_scope.proofs.FaultReadings.{domain-told, domain-answered}
use Rattle.bk_check_subs.proofs.judging.Judge.member.Goals as goal

pub returns : goal.returns
returns c =
    let j = c.args.self.now in
    let x = c.args.name.now in
    let e = c.args.domain.now in
    let own = type_at (typing_by j) (target (names_by j) x.text) in
    let asked = ask_domain (place_of e) (outcome_of j.typing.max (typing_by j) (names_by j) e) in
    told-four (left_faults (names_by j) (writable_by j.writable.now) [] (x ∷ [])) (old_faults (typing_by j) (names_by j) j.first (x ∷ [])) (domain_faults j.typing.max (typing_by j) (names_by j) e) (over_faults x.at own asked.answer)
    (told c.write_fault-left.result) (told c.in_ok-old.old) (told c.in_ok-asked.asked.fault) (told c.over_fault-over.result) (told c.earlier-ranged.result) (told c.earlier-right.result) (told c.earlier.result) c.write_fault-left.ensures
    (c.in_ok-old.ensures ∙ ap blame (sym (append-nil (cond (is_same_option own (typing_by j j.first)) [] (no_type x.at)))))
    (domain-told c.under.result j.typing.max j.names.now j.typing.types.now e c.in_ok-asked.asked.answer c.in_ok-asked.asked.fault c.under.ensures.max c.under.ensures.names c.under.ensures.types c.in_ok-asked.ensures)
    (c.over_fault-over.ensures
    ∙ (ap (λ (t : Option ValueType). blame (over_faults x.at t c.in_ok-asked.asked.answer)) c.in_ok-ty.ensures
    ∙ ap (λ (a : Option (Formula × ValueType)). blame (over_faults x.at own a)) (domain-answered c.under.result j.typing.max j.names.now j.typing.types.now e c.in_ok-asked.asked.answer c.in_ok-asked.asked.fault c.under.ensures.max c.under.ensures.names c.under.ensures.types c.in_ok-asked.ensures)))
    c.earlier-ranged.ensures c.earlier-right.ensures c.earlier.ensures
