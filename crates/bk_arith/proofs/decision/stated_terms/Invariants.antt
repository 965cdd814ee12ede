use Rattle.std.proofs.Common.{◌≡◌, ◌+◌, ◌++◌, map, drop}
use Rattle.std.specs.Prelude.{is_none}
use Rattle.std.specs.List.{position_from}
use Rattle.bk_arith.specs.Decision.{statements, first_unread, terms_of}
use Rattle.bk_arith.specs.Layout.{term_of}
use Rattle.bk_arith.proofs.decision.stated_terms.Given as goal

abbrev pub invariant-loop-index : goal.invariant-loop-index
invariant-loop-index l = record {
  terms : map term_of l.terms.items ++ terms_of (drop l.index l.hyps) l.goal ≡ terms_of l.hyps l.goal;
  unread : position_from is_none (l.index + 1) (statements (drop l.index l.hyps) l.goal) ≡ first_unread l.hyps l.goal;
}
