use Rattle.std.proofs.Common.{◌≡◌, ◌+◌, ◌++◌, sym, ap, ◌∙◌, List, length, map, take, drop, arith}
use Rattle.std.specs.Prelude.{Option}
use Rattle.std.proofs.lemmas.Bool.{false≢true}
use Rattle.std.proofs.lemmas.List.{length-map, take_all}
use Rattle.bk_val.specs.ValueType.{ValueType}
use Rattle.bk_elab_terms.specs.Visible.{typing_of}
use Rattle.bk_scope.specs.Shown.{way_shown}
use Rattle.bk_infer.proofs.NextRound.{nexts, nexts_more, nexts_end, next_list, length_list, same_more}
use Rattle.bk_infer.proofs.settled.next_round.Goals as goal
use Rattle.bk_infer.proofs.settled.next_round.Goals.{then-round, else-round}

pub loop-index-preserved : goal.loop-index-preserved
loop-index-preserved c =
    let ts = c.args.typing.types.now in
    let typing = typing_of ts in
    let ws = c.args.ways.now in
    let i = c.loop-index.index in
    let found = c.loop-index.round.types.items in
    record {
      next =
          ap (λ (xs : List (Option ValueType)). xs ++ nexts c.args.typing.max typing (c.args.first + (i + 1)) (map way_shown (drop (i + 1) ws))) c.in_ok-push.ensures.items
          ∙ nexts_more c.args.typing.max typing c.args.first i found (take c.args.first ts ++ nexts c.args.typing.max typing c.args.first (map way_shown ws)) ws c.index-ways-index.result c.in_ok-next.next c.loop-index-test.true c.index-ways-index.is c.in_ok-next.ensures.next c.loop-index.invariant.next;
      same = λ e.
          elim c.if-round.branch [
            | then-round w ↦ absurd (false≢true (sym e ∙ w.round-is ∙ w.if-round.true))
            | else-round w ↦
                c.in_ok-push.ensures.items
                ∙ same_more ts found (c.args.first + i) (c.args.first + (i + 1)) c.in_ok-next.next _ (omega (arith, c.requires, c.loop-index-test.true)) (omega arith) c.in_ok-next.ensures.next (sym w.is_new.ensures ∙ sym w.round-is ∙ e) (c.loop-index.invariant.same w.if-round.false)
          ];
      told = c.next_type.ensures.told;
    }

pub returns : goal.returns
returns c =
    let ts = c.args.typing.types.now in
    let typing = typing_of ts in
    let ws = c.args.ways.now in
    let all : length (map way_shown ws) ≡ length ws = length-map ws way_shown in
    let room : length ts ≡ c.args.first + length (map way_shown ws) = omega (arith, c.requires, all) in
    let is = nexts_end c.args.typing.max typing c.args.first c.loop-index.index c.loop-index.round.types.items (take c.args.first ts ++ nexts c.args.typing.max typing c.args.first (map way_shown ws)) ws c.loop-index-test.false c.loop-index.invariant.next in
    record {
      next = ap (λ (xs : List (Option ValueType)). typing_of xs) is ∙ next_list c.args.typing.max c.args.first (map way_shown ws) ts room;
      room =
          ap (λ (xs : List (Option ValueType)). length xs) is ∙ length_list c.args.typing.max typing c.args.first (map way_shown ws) ts (omega (arith, room)) ∙ ap (λ n. c.args.first + n) all;
      same = λ e. ap (λ (xs : List (Option ValueType)). typing_of xs) (c.loop-index.invariant.same e ∙ take_all (c.args.first + c.loop-index.index) ts (omega (arith, c.requires, c.loop-index-test.false)));
    }
