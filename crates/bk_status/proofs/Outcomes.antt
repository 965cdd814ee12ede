-- The state of an obligation that has a script.
use Rattle.std.proofs.Common.{◌≡◌, ◌<◌, ◌≤◌, ◌^◌, ℕ, List, length, false, Some, sym, subst, ap, arith}
use Rattle.std.proofs.lemmas.Slice.Zip.{AllZip-long}
use Rattle.bk_form.specs.Table.{Table, IsWellFormed}
use Rattle.bk_form.specs.Wider.{IsWider}
use Rattle.bk_dev.specs.Development.{Development}
use Rattle.bk_dev.specs.Facts.{IsDevelopment}
use Rattle.bk_dev.specs.Flattened.{flattened}
use Rattle.bk_dev.proofs.Room.{development-formed}
use Rattle.bk_seq.specs.Sequents.{Sequent, Types}
use Rattle.bk_raw.specs.Trees.ScriptTree.{RawScript}
use Rattle.bk_kernel.specs.Obvious.{is_obvious}
use Rattle.bk_kernel.specs.declared.rule.Rule.{Rule}
use Rattle.bk_kernel.specs.declared.replaying.Verdict.{Verdict}
use Rattle.bk_kernel.specs.declared.replaying.Verdict.TheVariants.{Closed, BadStep as BadAt, Open as LeftOpen, Extra as LeftOver}
use Rattle.bk_kernel.proofs.DerivedValid.{types-wider}
use Rattle.bk_p_proof.specs.Files.{IsShort}
use Rattle.bk_scripts.specs.Brought.{widened}
use Rattle.bk_scripts.specs.Grounding.{StandsFor, around_script, IsGrounded}
use Rattle.bk_scripts.proofs.Alike.{widened_is_wider}
use Rattle.bk_scripts.proofs.Listed.{widened_is_well_formed}
use Rattle.bk_status.specs.States.{HasVerdict, script_named, state_of, IsState}
use Rattle.bk_status.specs.declared.state.State.{State}
use Rattle.bk_status.specs.Replayable.{IsOutcome}

module _ (dev : Development) (scripts : List RawScript) (name : List ℕ) (s : Sequent) where
  by-verdict : (v : Verdict) → HasVerdict dev scripts name s v → IsState dev scripts name s (state_of v)
  by-verdict Closed h = h
  by-verdict (BadAt k) h = h
  by-verdict (LeftOpen n) h = h
  by-verdict (LeftOver k) h = h

  pub outcome-state : (script : RawScript) (state : State) → is_obvious s.0 s.1 ≡ false → script_named scripts name ≡ Some script → IsOutcome dev script s state → IsState dev scripts name s state
  outcome-state script state plain named h =
      let has : HasVerdict dev scripts name s h.verdict = record { not_obvious = plain; script = script; named = named; rules = h.rules; table = h.table; grounded = h.grounded; verdict_is = h.verdict_is } in
      subst (IsState dev scripts name s) (sym h.state_is) (by-verdict h.verdict has)

-- ---- the table that the rules of a script speak of
module _ (dev : Development) (d : IsDevelopment dev) (script : RawScript) (rules : List Rule) (table : Table) (g : IsGrounded (flattened dev) script rules table) where
  abbrev narrow : Table
  narrow = (flattened dev).table

  pub table_wider : IsWider narrow table
  table_wider = subst (IsWider narrow) (sym g.widens) (widened_is_wider narrow (flattened dev) script)

  room : length (widened narrow (flattened dev) script).variables ≤ 2 ^ 32
  room = let e : length table.variables ≡ length (widened narrow (flattened dev) script).variables = ap (λ (t : Table). length t.variables) g.widens in omega (arith, g.room, e)

  pub table_formed : IsWellFormed table
  table_formed = subst IsWellFormed (sym g.widens) (widened_is_well_formed narrow (flattened dev) script (development-formed dev d) room)

  pub types_there : (s : Sequent) → Types narrow s → Types table s
  types_there s h = types-wider narrow table (development-formed dev d) table_wider s h

  -- a script that is not too long has no more rules than 32 bits count
  pub countable : IsShort script → length rules < 2 ^ 32
  countable h = omega (arith, h, AllZip-long (StandsFor (around_script narrow (flattened dev) script)) script.rules rules g.each)
