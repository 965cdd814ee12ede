use Rattle.std.proofs.Common.{◌≡◌, ◌++◌, take}
use Rattle.std.specs.List.{flat_map}
use Rattle.bk_evidence.specs.Html.{stray_part}
use Rattle.bk_evidence.proofs.html.write_each_stray.Given as goal

abbrev pub invariant-loop-stray : goal.invariant-loop-stray
invariant-loop-stray l = l.page.items ≡ l.fn.page.items ++ flat_map stray_part (take l.stray-index l.strays)
