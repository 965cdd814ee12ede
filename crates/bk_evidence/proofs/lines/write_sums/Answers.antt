use Rattle.std.proofs.Common.{◌++◌, codes}
use Rattle.std.specs.Prelude.{decimal}
use Rattle.bk_evidence.proofs.Pieces.{five_pieces}
use Rattle.bk_evidence.proofs.lines.write_sums.Goals as goal

pub returns : goal.returns
returns c =
    let sums = c.args.sums in
    five_pieces c.args.text.now.items c.write_count.new.text.items c.write_count-2.new.text.items c.write_count-3.new.text.items c.write_count-4.new.text.items c.extend_from_slice.new.self.items
    (decimal sums.obligations) (codes " obligations: " ++ decimal sums.obvious) (codes " obvious, " ++ decimal sums.proved) (codes " proved, " ++ decimal sums.left) (codes " open\n")
    c.in_ok-write_count.ensures c.in_ok-write_count-2.ensures c.in_ok-write_count-3.ensures c.in_ok-write_count-4.ensures c.in_ok-extend_from_slice.ensures.items
