use Rattle.std.proofs.Common.{◌≡◌, ◌∙◌, sym}
use Rattle.bk_elab_terms.specs.Visible.{typing_of, visible_names}
use Rattle.bk_raw.specs.Meaning.Outcome.{ask_value}
use Rattle.bk_raw.specs.Meaning.TermReading.{place_of}
use Rattle.bk_statics.specs.Typings.{type_named, outcome_of}
use Rattle.bk_scope.proofs.FaultReadings.{value-answered}
use Rattle.bk_check_clauses.proofs.ValueSteps.{value-none, value-kept}
use Rattle.bk_check_clauses.proofs.values.value_of.Goals as goal

pub returns-in_default : goal.returns-in_default
returns-in_default c =
    let max = c.args.typing.max in
    let t = typing_of c.args.typing.types.now in
    let globals = visible_names c.args.globals.now in
    let e = c.args.entry.now in
    value-none max (type_named t globals e.name.text) (place_of e.value) (outcome_of max t globals e.value)
    (sym c.in_default.is ∙ value-answered c.under.result max c.args.globals.now c.args.typing.types.now e.value c.in_ok-asked.asked.answer c.in_ok-asked.asked.fault c.under.ensures.max c.under.ensures.names c.under.ensures.types c.in_ok-asked.ensures)

pub returns : goal.returns
returns c =
    let max = c.args.typing.max in
    let t = typing_of c.args.typing.types.now in
    let globals = visible_names c.args.globals.now in
    let e = c.args.entry.now in
    let told : c.in_ok-asked.asked.answer ≡ (ask_value (place_of e.value) (outcome_of max t globals e.value)).answer =
    value-answered c.under.result max c.args.globals.now c.args.typing.types.now e.value c.in_ok-asked.asked.answer c.in_ok-asked.asked.fault c.under.ensures.max c.under.ensures.names c.under.ensures.types c.in_ok-asked.ensures in
    let kept = rw c.in-Some.is at c.then_some.ensures in
    let fits = rw (c.as_bytes.ensures.value, c.in-Some.is) at c.is_value-fits.ensures in
    kept ∙ value-kept max (type_named t globals e.name.text) (place_of e.value) (outcome_of max t globals e.value) c.in-Some.form c.in-Some.ty c.is_value-fits.result fits (sym c.in-Some.is ∙ told)
