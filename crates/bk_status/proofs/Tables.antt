-- Tables without an open row, and what proved obligations are worth.
use Rattle.std.proofs.Common.{◌≡◌, inl, inr, ℕ, List, [], ◌∷◌, not, cond, Option, Some, None}
use Rattle.std.specs.List.{AllZip}
use Rattle.bk_dev.specs.Development.{Development}
use Rattle.bk_dev.specs.Facts.{IsDevelopment}
use Rattle.bk_form.specs.Each.{Each}
use Rattle.bk_dev.specs.Flattened.{flattened}
use Rattle.bk_seq.specs.Sequents.{Sequent}
use Rattle.bk_po.specs.Obligations.{numbered_obligations}
use Rattle.bk_status.specs.Obvious.{IsShown, HasShownObligations}
use Rattle.bk_po.proofs.Lists.{each-so}
use Rattle.bk_status.proofs.Obviousness.{shown_obligations_are_valid}
use Rattle.bk_po.proofs.Carrying.{valid_obligations_carry}
use Rattle.bk_raw.specs.Trees.ScriptTree.{RawScript}
use Rattle.bk_status.specs.States.{IsState}
use Rattle.bk_status.specs.declared.state.State.{State}
use Rattle.bk_status.specs.declared.state.State.TheVariants.{Obvious, Proved, NoScript, BadStep, Open, Extra}
use Rattle.bk_status.proofs.Outcomes.{table_wider, table_formed}
use Rattle.bk_status.specs.declared.table.Row.{Row}
use Rattle.bk_status.specs.Rows.{IsRowOf, HasRows, is_settled, first_open, ShowCorrect, IsProved, AreProved}
use Rattle.bk_status.specs.Laws.{ClosedTablesProve, ClosedTablesAreValid, ProvedObligationsAreValid, ProvedDevelopmentsAreCorrect}

module _ (dev : Development) (scripts : List RawScript) where
  by-state : (o : List ℕ × Sequent) (row : Row) (rest : Option Row) (s : State) → IsState (flattened dev) scripts o.0 o.1 s → cond (not (is_settled s)) (Some row) rest ≡ None → IsProved dev scripts o × (rest ≡ None)
  by-state o row rest Obvious h e = (inl h, e)
  by-state o row rest Proved h e = (inr h, e)
  by-state o row rest NoScript h e = absurd (cc)
  by-state o row rest (BadStep k) h e = absurd (cc)
  by-state o row rest (Open n) h e = absurd (cc)
  by-state o row rest (Extra k) h e = absurd (cc)

  closed-each : (os : List (List ℕ × Sequent)) (rows : List Row) → AllZip (IsRowOf (flattened dev) scripts) os rows → first_open rows ≡ None → Each (IsProved dev scripts) os
  closed-each [] [] h none = tt
  closed-each [] (r ∷ rs) h none = absurd h
  closed-each (o ∷ os) [] h none = absurd h
  closed-each (o ∷ os) (r ∷ rs) h none =
      let first = by-state o r (first_open rs) r.state h.0.state none in
      (first.0, closed-each os rs h.1 first.1)

  shown : IsDevelopment dev → (o : List ℕ × Sequent) → IsProved dev scripts o → IsShown (flattened dev).table o.1
  shown d o (inl plain) = inl plain
  shown d o (inr found) = inr (record {
    wide = found.table;
    wider = table_wider dev d found.script found.rules found.table found.grounded;
    formed = table_formed dev d found.script found.rules found.table found.grounded;
    rules = found.rules;
    derives = found.verdict_is;
  })

  pub all-shown : IsDevelopment dev → AreProved dev scripts → HasShownObligations dev
  all-shown d h = each-so (IsProved dev scripts) (λ o. IsShown (flattened dev).table o.1) (numbered_obligations dev) (shown d) h

pub closed_tables_prove : ClosedTablesProve
closed_tables_prove dev scripts rows h none = closed-each dev scripts (numbered_obligations dev) rows h none

pub proved_obligations_are_valid : ProvedObligationsAreValid
proved_obligations_are_valid dev scripts f h = shown_obligations_are_valid dev f (all-shown dev scripts f h)

pub closed_tables_are_valid : ClosedTablesAreValid
closed_tables_are_valid dev scripts rows f h none = proved_obligations_are_valid dev scripts f (closed_tables_prove dev scripts rows h none)

pub closed_tables_carry : (dev : Development) (scripts : List RawScript) (rows : List Row) → IsDevelopment dev → HasRows dev scripts rows → ShowCorrect dev rows
closed_tables_carry dev scripts rows f h none find law = valid_obligations_carry find law dev f (closed_tables_are_valid dev scripts rows f h none)

pub proved_developments_are_correct : ProvedDevelopmentsAreCorrect
proved_developments_are_correct find law dev scripts f h = valid_obligations_carry find law dev f (proved_obligations_are_valid dev scripts f h)
