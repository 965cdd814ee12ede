use Rattle.std.proofs.Common.{◌≡◌, ◌++◌, drop}
use Rattle.bk_report.specs.Listing as texts
use Rattle.bk_report.specs.Listing.{code_text}
use Rattle.bk_report.proofs.code.listing.Given as goal

-- the text so far and that of the rest are all
abbrev pub invariant-loop-op : goal.invariant-loop-op
invariant-loop-op l = l.text.items ++ code_text l.code l.from (drop l.op-index l.image.ops) ≡ texts.listing l.image
