use Rattle.std.proofs.Common.{List, ℕ, ◌++◌, ◌∙◌, ap, codes}
use Rattle.bk_evidence.specs.Lines.{nearest_text}
use Rattle.bk_evidence.proofs.Pieces.{four_pieces}
use Rattle.bk_evidence.proofs.lines.write_stray.Goals as goal

pub returns : goal.returns
returns c =
    let stray = c.args.stray.now in
    four_pieces c.args.text.now.items c.extend_from_slice.new.self.items c.extend_from_slice-2.new.self.items c.write_nearest.new.text.items c.extend_from_slice-3.new.self.items
    (codes "no obligation has the name of the script ") stray.name (nearest_text stray.nearest) (codes "\n")
    c.in_ok-extend_from_slice.ensures.items
    (c.in_ok-extend_from_slice-2.ensures.items ∙ ap (λ (t : List ℕ). c.extend_from_slice.new.self.items ++ t) c.as_bytes.ensures.value)
    c.in_ok-write_nearest.ensures c.in_ok-extend_from_slice-3.ensures.items
