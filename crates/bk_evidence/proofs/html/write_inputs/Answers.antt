use Rattle.std.proofs.Common.{codes}
use Rattle.std.specs.List.{flat_map}
use Rattle.bk_evidence.specs.Html.{input_part}
use Rattle.bk_evidence.proofs.Pieces.{three_pieces}
use Rattle.bk_evidence.proofs.html.write_inputs.Goals as goal

pub returns : goal.returns
returns c =
    three_pieces c.args.page.now.items c.put.new.page.items c.write_files.new.page.items c.put-2.new.page.items
    (codes "<h2>Files that were read</h2>\n<table>\n<thead><tr><th>File</th><th>Bytes</th><th>SHA-256</th></tr></thead>\n<tbody>\n") (flat_map input_part c.args.inputs.now) (codes "</tbody>\n</table>\n")
    c.in_ok-put.ensures c.in_ok-write_files.ensures c.in_ok-put-2.ensures
