-- A development has one table, which has no open row where each obligation is obvious or has a replayed proof.
use Rattle.std.proofs.Common.{◌≡◌, inl, inr, ℕ, List, [], ◌∷◌, not, cond, true, refl, sym, ◌∙◌, ap, Some, None}
use Rattle.std.specs.List.{AllZip}
use Rattle.bk_dev.specs.Development.{Development}
use Rattle.bk_form.specs.Each.{Each}
use Rattle.bk_dev.specs.Flattened.{flattened}
use Rattle.bk_seq.specs.Sequents.{Sequent}
use Rattle.bk_po.specs.Obligations.{numbered_obligations}
use Rattle.bk_raw.specs.Trees.ScriptTree.{RawScript}
use Rattle.bk_status.specs.States.{IsState}
use Rattle.bk_status.specs.declared.state.State.{State}
use Rattle.bk_status.specs.declared.state.State.TheVariants.{Obvious, Proved}
use Rattle.bk_status.proofs.OneState.{states_are_one}
use Rattle.bk_status.specs.declared.table.Row.{Row}
use Rattle.bk_status.specs.Rows.{IsRowOf, is_settled, first_open, IsProved}
use Rattle.bk_status.specs.Laws.{TablesAreOne, ProvedTablesAreClosed}

module _ (dev : Development) (scripts : List RawScript) where
  one-state : (o : List ℕ × Sequent) (s t : State) → IsState (flattened dev) scripts o.0 o.1 s → IsState (flattened dev) scripts o.0 o.1 t → s ≡ t
  one-state o s t h k = states_are_one (flattened dev) scripts o.0 o.1 s t h k

  one-row : (o : List ℕ × Sequent) (r q : Row) → IsRowOf (flattened dev) scripts o r → IsRowOf (flattened dev) scripts o q → r ≡ q
  one-row o r q h k =
      let names : r.name ≡ q.name = h.name ∙ sym k.name in
      let states = one-state o r.state q.state h.state k.state in
      λ i. record { name = names i; state = states i }

  one-table : (os : List (List ℕ × Sequent)) (rs qs : List Row) → AllZip (IsRowOf (flattened dev) scripts) os rs → AllZip (IsRowOf (flattened dev) scripts) os qs → rs ≡ qs
  one-table [] [] [] h k = refl
  one-table [] (r ∷ rs) qs h k = absurd h
  one-table [] [] (q ∷ qs) h k = absurd k
  one-table (o ∷ os) [] qs h k = absurd h
  one-table (o ∷ os) (r ∷ rs) [] h k = absurd k
  one-table (o ∷ os) (r ∷ rs) (q ∷ qs) h k =
      let first = one-row o r q h.0 k.0 in
      let rest = one-table os rs qs h.1 k.1 in
      λ i. first i ∷ rest i

  settled : (o : List ℕ × Sequent) (s : State) → IsState (flattened dev) scripts o.0 o.1 s → IsProved dev scripts o → is_settled s ≡ true
  settled o s h (inl k) = ap is_settled (one-state o s Obvious h k)
  settled o s h (inr k) = ap is_settled (one-state o s Proved h k)

  all-settled : (os : List (List ℕ × Sequent)) (rs : List Row) → AllZip (IsRowOf (flattened dev) scripts) os rs → Each (IsProved dev scripts) os → first_open rs ≡ None
  all-settled [] [] h p = refl
  all-settled [] (r ∷ rs) h p = absurd h
  all-settled (o ∷ os) [] h p = absurd h
  all-settled (o ∷ os) (r ∷ rs) h p =
      ap (λ b. cond (not b) (Some r) (first_open rs)) (settled o r.state h.0.state p.0) ∙ all-settled os rs h.1 p.1

pub tables_are_one : TablesAreOne
tables_are_one dev scripts rows others h k = one-table dev scripts (numbered_obligations dev) rows others h k

pub proved_tables_are_closed : ProvedTablesAreClosed
proved_tables_are_closed dev scripts rows h p = all-settled dev scripts (numbered_obligations dev) rows h p
