use Rattle.std.proofs.Common.{ℕ, rules, tests}
use Rattle.std.specs.Prelude.{nat_eq}
use Rattle.std.proofs.lemmas.Iterator.{YieldsList-from_slice}
use Rattle.std.proofs.lemmas.Iterator.Search.{position_from_yields_List}
use Rattle.bk_calls.proofs.line.cut.Goals as goal

pub cut_at-requires : goal.cut_at-requires
cut_at-requires c = position_from_yields_List (λ (b : ℕ). nat_eq b c.args.byte) _ _ c.position-place.result c.position-place.ensures.ran (YieldsList-from_slice _ c.iter.ensures.rest) (λ x b q k. search (rules, tests))
