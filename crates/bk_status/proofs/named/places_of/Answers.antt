use Rattle.std.proofs.Common.{◌≡◌, ◌∙◌, ap, rules, take}
use Rattle.std.specs.Str.{bytes_eq}
use Rattle.bk_status.specs.Places.{found_or, script_place}
use Rattle.bk_status.specs.States.{name_text}
use Rattle.bk_status.proofs.FirstPlaces.{place_more}
use Rattle.bk_status.proofs.named.places_of.Goals as goal

pub loop-place-preserved : goal.loop-place-preserved
loop-place-preserved c = λ name.
    let script = c.index-scripts-place.result in
    let same : c.in_ok-name.name.items ≡ name_text script.name = search rules in
    c.in_ok-add_first.ensures name
    ∙ (ap (λ o. found_or o (bytes_eq name c.in_ok-name.name.items) c.loop-place.place) (c.loop-place.invariant name)
    ∙ (ap (λ t. found_or (script_place (take c.loop-place.place c.args.scripts.now) name) (bytes_eq name t) c.loop-place.place) same
    ∙ place_more c.args.scripts.now c.loop-place.place script name c.loop-place-test.true c.index-scripts-place.is))
