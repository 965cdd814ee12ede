use Rattle.bk_po.proofs.WrittenLists.{over_has_these, swap_has_these, fill_has_these}
use Rattle.bk_po.proofs.laws.written_lists.Goals as goal

pub returns : goal.returns
returns c = record { over = over_has_these; swap = swap_has_these; fill = fill_has_these }
