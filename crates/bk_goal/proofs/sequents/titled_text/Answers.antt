use Rattle.std.proofs.Common.{ℕ, List, ◌++◌, ◌∙◌, ap, codes}
use Rattle.std.specs.Prelude.{decimal}
use Rattle.bk_goal.proofs.Lines.{titled_by}
use Rattle.bk_goal.proofs.sequents.titled_text.Goals as goal

pub returns : goal.returns
returns c =
    let lines = c.in_ok-lines.lines.items in
    let last = c.in_ok-extend_from_slice-2.ensures.items ∙ ap (λ (xs : List ℕ). c.extend_from_slice.new.self.items ++ xs) c.deref.ensures.value in
    record {
      lines = lines;
      shows = c.in_ok-lines.ensures;
      titled = titled_by c.in_ok-text.text.items c.write_count.new.text.items c.extend_from_slice.new.self.items c.extend_from_slice-2.new.self.items
          (codes "sequent " ++ decimal c.args.number) (codes " of " ++ decimal c.args.count) (codes "\n") lines
          c.in_ok-text.ensures c.in_ok-write_count.ensures c.in_ok-extend_from_slice.ensures.items last;
    }
