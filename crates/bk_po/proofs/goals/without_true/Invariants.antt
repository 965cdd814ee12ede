use Rattle.std.proofs.Common.{◌≡◌, ◌++◌, drop, not}
use Rattle.std.specs.List.{filter}
use Rattle.bk_dev.specs.Development.{is_btrue}
use Rattle.bk_po.proofs.goals.without_true.Given as goal

abbrev pub invariant-loop-part : goal.invariant-loop-part
invariant-loop-part l = l.kept.items ++ filter (λ p. not (is_btrue p)) (drop l.part-index l.parts) ≡ filter (λ p. not (is_btrue p)) l.parts
