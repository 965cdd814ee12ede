use Rattle.std.proofs.Common.{List, ℕ, ◌++◌, ◌∙◌, ap, codes, string_bytes}
use Rattle.std.specs.Prelude.{decimal}
use Rattle.bk_evidence.proofs.Pieces.{five_pieces}
use Rattle.bk_evidence.proofs.lines.write_input.Goals as goal

pub returns : goal.returns
returns c =
    let input = c.args.input.now in
    five_pieces c.args.text.now.items c.extend_from_slice.new.self.items c.write_count.new.text.items c.extend_from_slice-2.new.self.items c.extend_from_slice-3.new.self.items c.extend_from_slice-4.new.self.items
    input.name (codes " " ++ decimal input.length) (codes " ") (string_bytes input.digest) (codes "\n")
    (c.in_ok-extend_from_slice.ensures.items ∙ ap (λ (t : List ℕ). c.args.text.now.items ++ t) c.as_bytes.ensures.value)
    c.in_ok-write_count.ensures c.in_ok-extend_from_slice-2.ensures.items
    (c.in_ok-extend_from_slice-3.ensures.items ∙ ap (λ (t : List ℕ). c.extend_from_slice-2.new.self.items ++ t) (c.as_bytes-2.ensures.value ∙ c.as_str.ensures.value))
    c.in_ok-extend_from_slice-4.ensures.items
