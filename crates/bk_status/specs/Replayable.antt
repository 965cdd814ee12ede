-- Sequents on which rules are replayed, and what that makes of an obligation.
use Rattle.std.specs.Prelude.{◌≡◌, List}
use Rattle.bk_form.specs.Table.{Table}
use Rattle.bk_dev.specs.Development.{Development}
use Rattle.bk_seq.specs.Sequents.{Sequent, Types, IsWithin}
use Rattle.bk_kernel.specs.Derivations.{IsVerdict}
use Rattle.bk_kernel.specs.declared.rule.Rule.{Rule}
use Rattle.bk_kernel.specs.declared.replaying.Verdict.{Verdict}
use Rattle.bk_raw.specs.Trees.ScriptTree.{RawScript}
use Rattle.bk_scripts.specs.Grounding.{IsGrounded}
use Rattle.bk_status.specs.States.{state_of}
use Rattle.bk_status.specs.declared.state.State.{State}

-- its formulas are predicates over the table, and within the limits
pub record IsReplayable (table : Table) (s : Sequent) : Type 0 where
  pub types : Types table s
  pub within : IsWithin s

-- the script's rules give the sequent this state
pub record IsOutcome (dev : Development) (script : RawScript) (s : Sequent) (state : State) : Type 0 where
  pub rules : List Rule
  pub table : Table
  pub grounded : IsGrounded dev script rules table
  pub verdict : Verdict
  pub verdict_is : IsVerdict table rules s verdict
  pub state_is : state ≡ state_of verdict
