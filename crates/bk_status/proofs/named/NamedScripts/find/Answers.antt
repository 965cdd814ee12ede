use Rattle.std.proofs.Common.{◌≡◌, ◌-◌, ℕ, List, None, Some, ◌∙◌, ap, sym, arith}
use Rattle.std.specs.Prelude.{slice_get}
use Rattle.bk_raw.specs.Trees.ScriptTree.{RawScript}
use Rattle.bk_status.specs.Places.{script_place}
use Rattle.bk_p_proof.specs.Files.{IsShort}
use Rattle.bk_status.specs.States.{script_named}
use Rattle.bk_status.proofs.FirstPlaces.{got, got_so, script_at, no_script}
use Rattle.bk_status.proofs.named.NamedScripts.find.Goals as goal

pub returns-in-Some-clause-named : goal.returns-in-Some-clause-named
returns-in-Some-clause-named c =
    let scripts : List RawScript = c.self.inside.scripts.now in
    let place : ℕ = c.in-Some.place.now in
    let there : script_place scripts c.args.name.now ≡ Some place = ap (script_place scripts) (sym c.as_bytes.ensures.value) ∙ sym (c.in-Some.ensures.value ∙ c.self.invariant.1 c.as_bytes.result.now) in
    let same : place ≡ place - 0 = omega arith in
    let l = c.get-in-Some.ensures.lookup in
    got scripts place _ c.get-in-Some.result l.3 l.1 ∙ (ap (slice_get scripts) same ∙ (sym (script_at 0 scripts c.args.name.now place there).1 ∙ ap (λ ss. script_named ss c.args.name.now) c.self.view_is))

pub returns-in-None-clause-named : goal.returns-in-None-clause-named
returns-in-None-clause-named c =
    let scripts : List RawScript = c.self.inside.scripts.now in
    let none : script_place scripts c.args.name.now ≡ None = ap (script_place scripts) (sym c.as_bytes.ensures.value) ∙ sym (c.in-None.ensures.value ∙ c.self.invariant.1 c.as_bytes.result.now) in
    sym (no_script 0 scripts c.args.name.now none) ∙ ap (λ ss. script_named ss c.args.name.now) c.self.view_is

pub returns-in-Some-clause-short : goal.returns-in-Some-clause-short
returns-in-Some-clause-short c = let l = c.get-in-Some.ensures.lookup in got_so c.self.inside.scripts.now c.in-Some.place.now _ IsShort c.self.invariant.0 c.get-in-Some.result l.3 l.1
