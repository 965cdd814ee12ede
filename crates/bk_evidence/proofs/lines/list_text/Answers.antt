use Rattle.std.proofs.Common.{List, ℕ, ◌++◌, ◌∙◌, ap}
use Rattle.bk_evidence.specs.Lines.{list_lines, stray_lines}
use Rattle.bk_evidence.proofs.lines.list_text.Goals as goal

pub returns : goal.returns
returns c =
    let listed = list_lines c.args.is_open_only c.args.items.now in
    c.in_ok-write_strays.ensures ∙ ap (λ (t : List ℕ). t ++ stray_lines c.args.strays.now) (c.in_ok-write_items.ensures ∙ ap (λ (t : List ℕ). t ++ listed) c.new-text.ensures.items)
