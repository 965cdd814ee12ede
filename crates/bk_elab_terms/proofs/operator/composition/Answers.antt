use Rattle.std.proofs.Common.{List, ap, subst}
use Rattle.std.specs.Prelude.{Option}
use Rattle.bk_raw.specs.Meaning.Outcome.{ask_relation}
use Rattle.bk_raw.specs.Meaning.OperatorReadings.{composed}
use Rattle.bk_raw.specs.Errors.Faults.{Fault}
use Rattle.bk_elab_terms.specs.Shown.{shown_outcome, IsAsked}
use Rattle.bk_elab_terms.proofs.Composed.{Related, composes-none, composes-both}
use Rattle.bk_elab_terms.proofs.operator.composition.Goals as goal

pub returns-in_default : goal.returns-in_default
returns-in_default c =
    composes-none c.args.at.whole _ _ c.in_ok-first.first.answer c.in_ok-second.second.answer c.in_ok-first.first.fault c.in_ok-second.second.fault c.earlier-fault.result c.silent.result c.in_ok-first.ensures c.in_ok-second.ensures
    (λ (fs : List Fault). ap (λ (o : Option Related). composed c.args.at.whole fs o c.in_ok-second.second.answer) c.in_default.is) c.earlier-fault.ensures c.silent.ensures.outcome c.silent.ensures.fault

pub returns-in_default-answer : goal.returns-in_default-answer
returns-in_default-answer c =
    composes-none c.args.at.whole _ _ c.in_ok-first.first.answer c.in_ok-second.second.answer c.in_ok-first.first.fault c.in_ok-second.second.fault c.earlier-fault.result c.silent-in_default-answer.result c.in_ok-first.ensures c.in_ok-second.ensures
    (λ (fs : List Fault). λ i. composed c.args.at.whole fs (c.in-Some.is i) (c.in_default-answer.is i)) c.earlier-fault.ensures c.silent-in_default-answer.ensures.outcome c.silent-in_default-answer.ensures.fault

pub returns : goal.returns
returns c =
    let a = ask_relation c.args.at.left (shown_outcome c.args.left) in
    let b = ask_relation c.args.at.right (shown_outcome c.args.right) in
    composes-both c.args.at.whole a b c.in-Some.one c.in-Some-answer.other _ _ c.in_ok-first.first.fault c.in_ok-second.second.fault c.composed.result
    (subst (λ (o : Option Related). IsAsked o c.in_ok-first.first.fault a) c.in-Some.is c.in_ok-first.ensures) (subst (λ (o : Option Related). IsAsked o c.in_ok-second.second.fault b) c.in-Some-answer.is c.in_ok-second.ensures)
    c.in-Some.one-is c.in-Some-answer.other-is c.composed.ensures
