use Rattle.std.proofs.Common.{◌≡◌, ℕ, List, take}
use Rattle.std.specs.Str.{bytes_eq}
use Rattle.indexmap.specs.IndexMap.{get_by}
use Rattle.bk_status.specs.Places.{script_place}
use Rattle.bk_status.proofs.named.places_of.Given as goal

-- the first of the scripts are put in
abbrev pub invariant-loop-place : goal.invariant-loop-place
invariant-loop-place l = (name : List ℕ) → get_by (λ k. bytes_eq name k.items) l.places ≡ script_place (take l.place l.scripts) name
