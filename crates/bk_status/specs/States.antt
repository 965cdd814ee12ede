-- How far an obligation is proved.
use Rattle.std.specs.Prelude.{◌≡◌, ℕ, true, false, List, map, Option, Some, None, find}
use Rattle.std.specs.List.{join_with_byte}
use Rattle.std.specs.Str.{bytes_eq}
use Rattle.bk_form.specs.Table.{Table}
use Rattle.bk_dev.specs.Development.{Development}
use Rattle.bk_seq.specs.Sequents.{Sequent}
use Rattle.bk_raw.specs.declared.script.NamePart.{NamePart}
use Rattle.bk_raw.specs.Trees.ScriptTree.{RawScript}
use Rattle.bk_kernel.specs.Obvious.{is_obvious}
use Rattle.bk_kernel.specs.Derivations.{IsVerdict}
use Rattle.bk_kernel.specs.declared.rule.Rule.{Rule}
use Rattle.bk_kernel.specs.declared.replaying.Verdict.{Verdict}
use Rattle.bk_kernel.specs.declared.replaying.Verdict.TheVariants.{Closed, BadStep as BadAt, Open as LeftOpen, Extra as LeftOver}
use Rattle.bk_scripts.specs.Sight.{part_text}
use Rattle.bk_scripts.specs.Grounding.{IsGrounded}
use Rattle.bk_status.specs.declared.state.State.{State}
use Rattle.bk_status.specs.declared.state.State.TheVariants.{Obvious, Proved, NoScript, BadStep, Open, Extra}

-- ---- scripts by their names
-- the text of a name: its parts, with dots between
abbrev pub name_text : List NamePart → List ℕ
name_text parts = join_with_byte 46 (map part_text parts)

-- the first script with the name; no two scripts of proof files have one name
abbrev pub script_named : List RawScript → List ℕ → Option RawScript
script_named scripts name = find (λ script. bytes_eq name (name_text script.name)) scripts

-- ---- states
-- there is a script with the name, and this is said of its rules and the sequent, over the table that the rules speak of; of a
-- development whose substitutions are flat, whose table has all variables of its obligations
pub record HasVerdict (dev : Development) (scripts : List RawScript) (name : List ℕ) (s : Sequent) (verdict : Verdict) : Type 0 where
  pub not_obvious : is_obvious s.0 s.1 ≡ false
  pub script : RawScript
  pub named : script_named scripts name ≡ Some script
  pub rules : List Rule
  pub table : Table
  pub grounded : IsGrounded dev script rules table
  pub verdict_is : IsVerdict table rules s verdict

-- the state of an obligation with this verdict on its script
abbrev pub state_of : Verdict → State
state_of Closed = Proved
state_of (BadAt k) = BadStep k
state_of (LeftOpen n) = Open n
state_of (LeftOver k) = Extra k

-- the state of the obligation with this name and sequent. One that is obvious needs no script, and a script for it is ignored
abbrev pub IsState : Development → List RawScript → List ℕ → Sequent → State → Type 0
IsState dev scripts name s Obvious = is_obvious s.0 s.1 ≡ true
IsState dev scripts name s NoScript = (is_obvious s.0 s.1 ≡ false) × (script_named scripts name ≡ None)
IsState dev scripts name s Proved = HasVerdict dev scripts name s Closed
IsState dev scripts name s (BadStep k) = HasVerdict dev scripts name s (BadAt k)
IsState dev scripts name s (Open n) = HasVerdict dev scripts name s (LeftOpen n)
IsState dev scripts name s (Extra k) = HasVerdict dev scripts name s (LeftOver k)
