-- Limits bound what is read, so that 32 bits number it.
use Rattle.std.proofs.Common.{ℕ, ℤ, ◌^◌, ◌<◌, ◌≤◌, List, length, arith}
use Rattle.std.proofs.lemmas.List.{length-map}
use Rattle.std.proofs.lemmas.List.Elements.{All-weaker}
use Rattle.bk_limits.specs.declared.TheConstants.{MOST_COMPONENTS, MOST_TOKENS}
use Rattle.bk_dev.specs.Development.{Development}
use Rattle.bk_dev.specs.Flattened.{flattened}
use Rattle.bk_p_proof.specs.TypedNames.{script_names}
use Rattle.bk_scripts.specs.Brought.{widened}
use Rattle.bk_po.specs.Obligations.{obligations}
use Rattle.bk_po.specs.Limits.{PassNoLimit}
use Rattle.bk_front.specs.declared.project_file.LineKind.{LineKind}
use Rattle.bk_front.specs.declared.project_file.ProjectLine.{ProjectLine}
use Rattle.bk_front.specs.ProjectFile.{AreLines, IsChain, component_lines, kinds_of, range_of}
use Rattle.bk_front.specs.Project.{ReadsIn}
use Rattle.bk_front.proofs.ProjectFiles.{kinds_chain}
use Rattle.bk_bounds.specs.Laws.{HasRoomFor, ReadWithinLimits, ReadHaveRoom, ReadScriptsHaveRoom}
use Rattle.bk_bounds.proofs.Chains.{read-bounded}
use Rattle.bk_bounds.proofs.Copies.{variables-bounded}
use Rattle.bk_bounds.proofs.Scripts.{scripts-bounded, widened-count}

-- a project file names few component files
pub few_kinds : (named : List ProjectLine) → AreLines named → length (kinds_of named) ≤ MOST_COMPONENTS
few_kinds named are = omega (arith, are.few, length-map (component_lines named) (λ l. l.kind))

module _ (top : ℤ) (kinds : List LineKind) (texts : List (List ℕ)) (dev : Development) (chain : IsChain kinds) (few : length kinds ≤ MOST_COMPONENTS) (h : ReadsIn top kinds texts dev) where
  few_sets : length dev.table.sets ≤ 400000
  few_sets = (read-bounded top kinds texts dev chain few h).0

  -- with all copies
  few_variables : PassNoLimit (obligations dev) → length (flattened dev).table.variables ≤ 300800000
  few_variables within =
      let bounds = read-bounded top kinds texts dev chain few h in
      omega (arith, bounds.1, variables-bounded dev bounds.2 within)

-- of a project with these lines
sets_read : (named : List ProjectLine) (texts : List (List ℕ)) (dev : Development) → ReadWithinLimits named texts dev → length dev.table.sets ≤ 400000
sets_read named texts dev r = few_sets (range_of named) (kinds_of named) texts dev (kinds_chain named r.lines) (few_kinds named r.lines) r.reads

variables_read : (named : List ProjectLine) (texts : List (List ℕ)) (dev : Development) → ReadWithinLimits named texts dev → length (flattened dev).table.variables ≤ 300800000
variables_read named texts dev r = few_variables (range_of named) (kinds_of named) texts dev (kinds_chain named r.lines) (few_kinds named r.lines) r.reads r.within

pub read_have_room : ReadHaveRoom
read_have_room named texts dev r =
    let sets : length dev.table.sets ≤ 2 ^ 32 = omega (arith, sets_read named texts dev r) in
    let variables : length (flattened dev).table.variables < 2 ^ 32 = omega (arith, variables_read named texts dev r) in
    record { sets = sets; variables = variables }

pub read_scripts_have_room : ReadScriptsHaveRoom
read_scripts_have_room named texts dev r proof_texts scripts are =
    All-weaker (λ s. length (script_names s) ≤ MOST_TOKENS) (HasRoomFor dev) (λ s names.
    let room : length (widened (flattened dev).table (flattened dev) s).variables < 2 ^ 32 =
    omega (arith, names, widened-count (flattened dev).table (flattened dev) s, variables_read named texts dev r) in
    room)
    scripts (scripts-bounded proof_texts scripts are)
