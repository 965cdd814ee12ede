use Rattle.std.proofs.Common.{sym, ◌∙◌}
use Rattle.std.specs.Cmp.Lexicographic.{bytes_decides}
use Rattle.bk_prune.proofs.states.has_name_of.Goals as goal

pub returns : goal.returns
returns c = λ same. sym c.in_ok-other.ensures ∙ (bytes_decides c.in_ok-other.other.items c.in_ok-own.own.items).0 (sym c.eq.ensures ∙ same) ∙ c.in_ok-own.ensures
