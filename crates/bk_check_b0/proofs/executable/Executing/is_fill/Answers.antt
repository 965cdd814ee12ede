use Rattle.std.proofs.Common.{◌∙◌, ap, sym}
use Rattle.std.specs.Prelude.{Option}
use Rattle.bk_elab_terms.specs.Conjuncts.{shown_pair}
use Rattle.bk_form.specs.Formula.{Formula}
use Rattle.bk_val.specs.ValueType.{ValueType}
use Rattle.bk_statics.specs.Executable as meant
use Rattle.bk_statics.specs.Typings.{variable_named}
use Rattle.bk_check_b0.specs.Executed.{meant_by, names_of}
use Rattle.bk_check_b0.proofs.Executing.{not-fill, fill-apart, fill-own}
use Rattle.bk_scope.proofs.TermsSeen.{domain-given}
use Rattle.bk_check_b0.proofs.executable.Executing.is_fill.Goals as goal

pub returns-in_default-fill_parts : goal.returns-in_default-fill_parts
returns-in_default-fill_parts c =
    let x = c.args.self.now in
    not-fill (meant_by x) (names_of x) (meant.array_of (meant_by x) (variable_named (names_of x) c.args.text.now)) c.args.term.now (ap shown_pair (sym c.in_default-fill_parts.is) ∙ c.fill_parts.ensures)

pub returns-then-not-is_declared : goal.returns-then-not-is_declared
returns-then-not-is_declared c =
    let x = c.args.self.now in
    let f = c.in-Some.declared.now in
    let d = c.in-Some-fill_parts.domain.now in
    let read = domain-given c.under.result x.typing.max x.typing.types.now x.names.now d c.in_ok-asked.asked.answer c.under.ensures.max c.under.ensures.names c.under.ensures.types c.in_ok-asked.ensures.same in
    fill-apart (meant_by x) (names_of x) f c.args.term.now d c.in-Some-fill_parts.value.now c.in-Some-fill_parts.ensures
    (sym c.if-not-is_declared.true ∙ (c.is_declared.ensures ∙ ap (λ (o : Option (Formula × ValueType)). meant.same_domain f (meant.formula_in o)) read))
    ∙ ap (λ (o : Option Formula). meant.is_fill (meant_by x) (names_of x) o c.args.term.now) c.in-Some.ensures

pub returns : goal.returns
returns c =
    let x = c.args.self.now in
    let f = c.in-Some.declared.now in
    let d = c.in-Some-fill_parts.domain.now in
    let read = domain-given c.under.result x.typing.max x.typing.types.now x.names.now d c.in_ok-asked.asked.answer c.under.ensures.max c.under.ensures.names c.under.ensures.types c.in_ok-asked.ensures.same in
    fill-own (meant_by x) (names_of x) f c.args.term.now d c.in-Some-fill_parts.value.now c.in_ok-filled.filled c.in-Some-fill_parts.ensures
    (sym c.if-not-is_declared.false ∙ (c.is_declared.ensures ∙ ap (λ (o : Option (Formula × ValueType)). meant.same_domain f (meant.formula_in o)) read)) c.in_ok-filled.ensures
    ∙ ap (λ (o : Option Formula). meant.is_fill (meant_by x) (names_of x) o c.args.term.now) c.in-Some.ensures
