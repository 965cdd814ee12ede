use Rattle.std.proofs.Common.{◌≡◌, ◌+◌, ◌++◌, false, map, take, drop}
use Rattle.bk_elab_terms.specs.Visible.{typing_of}
use Rattle.bk_scope.specs.Shown.{way_shown}
use Rattle.bk_infer.proofs.NextRound.{nexts}
use Rattle.bk_infer.proofs.settled.next_round.Given as goal
use Rattle.bk_infer.specs.Told.{IsKept}

-- with what the ways that are left give, the types so far are those of the round; without a new one they are those before
abbrev pub invariant-loop-index : goal.invariant-loop-index
invariant-loop-index l = record {
  next : l.round.types.items ++ nexts l.typing.max (typing_of l.typing.types.now) (l.first + l.index) (map way_shown (drop l.index l.ways)) ≡ take l.first l.typing.types.now ++ nexts l.typing.max (typing_of l.typing.types.now) l.first (map way_shown l.ways);
  same : l.round.has_added ≡ false → l.round.types.items ≡ take (l.first + l.index) l.typing.types.now;
  told : IsKept l.typing.max (typing_of l.typing.types.now) l.last;
}
