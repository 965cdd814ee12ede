use Rattle.std.proofs.Common.{◌≡◌, ℕ, List, ◌∙◌, ap, sym, subst}
use Rattle.std.specs.Prelude.{Some}
use Rattle.bk_form.specs.Role.{bind}
use Rattle.bk_raw.specs.Meaning.Binders.{locals}
use Rattle.bk_raw.specs.Errors.Blame.{blame}
use Rattle.bk_raw.specs.Meaning.ScopeReading.{ask_formula, formula_in, names_in}
use Rattle.bk_raw.specs.Meaning.TermReading.{reading, place_of}
use Rattle.bk_elab_terms.specs.declared.sight.Local.{Local}
use Rattle.bk_elab_terms.specs.Shown.{fault_of, shown_outcome, told, IsRead, IsAsked}
use Rattle.bk_elab_terms.specs.Sights.{bounds_of}
use Rattle.bk_elab_terms.proofs.Whole.{whole-fault, whole-one}
use Rattle.bk_elab_terms.proofs.in_scope.formula.Goals as goal

pub returns-in-Some-clause-fault : goal.returns-in-Some-clause-fault
returns-in-Some-clause-fault c =
    let first : blame (formula_in c.args.table.now c.args.scope.now c.args.raw.now).faults ≡ Some (fault_of c.in-Some.fault) =
    whole-fault c.args.table.now c.args.scope.now c.args.raw.now c.in_ok-read.read c.ask_formula-asked.result.answer c.ask_formula-asked.result.fault c.earlier-first.result
    (subst (λ (ls : List Local). IsRead c.in_ok-read.read (reading c.args.scope.now.max (bind (locals (bounds_of ls)) (names_in c.args.table.now c.args.scope.now)) c.args.raw.now)) c.new.ensures.items c.in_ok-read.ensures.read)
    (subst (λ (n : ℕ). IsAsked c.ask_formula-asked.result.answer c.ask_formula-asked.result.fault (ask_formula n (shown_outcome c.in_ok-read.read.outcome))) (ap place_of c.raw.view_is) c.ask_formula-asked.ensures)
    c.earlier-first.ensures ∙ ap told c.in-Some.is in
    (fault_of c.in-Some.fault, first, ap (λ (n : ℕ). (n, c.in-Some.fault.place)) (sym c.number.ensures))

pub unreachable-requires : goal.unreachable-requires
unreachable-requires c =
    whole-one c.args.table.now c.args.scope.now c.args.raw.now c.in_ok-read.read c.ask_formula-asked.result.answer c.ask_formula-asked.result.fault c.earlier-first.result
    (subst (λ (ls : List Local). IsRead c.in_ok-read.read (reading c.args.scope.now.max (bind (locals (bounds_of ls)) (names_in c.args.table.now c.args.scope.now)) c.args.raw.now)) c.new.ensures.items c.in_ok-read.ensures.read)
    (subst (λ (n : ℕ). IsAsked c.ask_formula-asked.result.answer c.ask_formula-asked.result.fault (ask_formula n (shown_outcome c.in_ok-read.read.outcome))) (ap place_of c.raw.view_is) c.ask_formula-asked.ensures)
    c.earlier-first.ensures c.in_default.is c.in-None.is
