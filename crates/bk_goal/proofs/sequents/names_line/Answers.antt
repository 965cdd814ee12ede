use Rattle.std.proofs.Common.{inl, inr, codes}
use Rattle.bk_goal.proofs.Lines.{joined}
use Rattle.bk_goal.proofs.sequents.names_line.Goals as goal

pub returns-then-is_empty : goal.returns-then-is_empty
returns-then-is_empty c = inl c.new.ensures.items

pub returns : goal.returns
returns c = inr (c.args.words.now, joined c.in_ok-line.line.items c.extend_from_slice.new.self.items c.extend_from_slice-2.new.self.items (codes "        where ") c.args.words.now (codes "\n") c.in_ok-line.ensures.items c.in_ok-extend_from_slice.ensures.items c.in_ok-extend_from_slice-2.ensures.items)
