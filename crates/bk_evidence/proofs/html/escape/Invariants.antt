use Rattle.std.proofs.Common.{◌≡◌, ◌++◌, take}
use Rattle.bk_evidence.specs.Html.{escaped}
use Rattle.bk_evidence.proofs.html.escape.Given as goal

abbrev pub invariant-loop-byte : goal.invariant-loop-byte
invariant-loop-byte l = l.page.items ≡ l.fn.page.items ++ escaped (take l.byte-index l.text)
