use Rattle.std.proofs.Common.{◌++◌, codes}
use Rattle.bk_evidence.proofs.Pieces.{three_pieces}
use Rattle.bk_evidence.proofs.lines.write_tool.Goals as goal

pub returns : goal.returns
returns c =
    let report = c.args.report.now in
    three_pieces c.args.text.now.items c.write_words.new.text.items c.write_words-2.new.text.items c.extend_from_slice.new.self.items
    (codes "written by bkproof of bkit " ++ report.version.now) (codes ", proved with " ++ report.toolchain.now) (codes "\n")
    c.in_ok-write_words.ensures c.in_ok-write_words-2.ensures c.in_ok-extend_from_slice.ensures.items
