use Rattle.bk_raw.proofs.ScriptPlaces.{scripts-tell-place}
use Rattle.bk_raw.proofs.laws.scripts_tell_place.Goals as goal

pub returns : goal.returns
returns c = λ tokens done open_one h.
    scripts-tell-place h.scripts tokens done h.behind open_one h.rest h.cut h.are h.no_other h.cut_behind h.begins h.longest
