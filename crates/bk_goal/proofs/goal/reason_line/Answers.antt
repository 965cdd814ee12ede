use Rattle.std.proofs.Common.{codes}
use Rattle.bk_goal.proofs.Lines.{joined}
use Rattle.bk_goal.proofs.goal.reason_line.Goals as goal

pub returns : goal.returns
returns c = (
  c.args.reason.now,
  joined c.in_ok-text.text.items c.extend_from_slice.new.self.items c.extend_from_slice-2.new.self.items (codes "  does not fit: ") c.args.reason.now (codes "\n")
      c.in_ok-text.ensures.items c.in_ok-extend_from_slice.ensures.items c.in_ok-extend_from_slice-2.ensures.items,
)
