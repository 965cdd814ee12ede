use Rattle.std.proofs.Common.{◌++◌, codes}
use Rattle.bk_evidence.specs.Lines.{concern_text, sums_line}
use Rattle.bk_evidence.proofs.Pieces.{two_pieces}
use Rattle.bk_evidence.proofs.lines.write_named_sums.Goals as goal

pub returns : goal.returns
returns c =
    two_pieces c.args.text.now.items c.write_name.new.text.items c.write_sums.new.text.items (concern_text c.args.concern ++ codes ": ") (sums_line c.args.sums)
    c.in_ok-write_name.ensures c.in_ok-write_sums.ensures
