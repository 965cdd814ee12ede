use Rattle.std.proofs.Common.{◌≡◌, ◌+◌, take, arith}
use Rattle.bk_raw.specs.Grammar.Brackets.{opens_bracket, closes_bracket, opens_block, closes_block, open_brackets, open_blocks}
use Rattle.bk_raw.proofs.Counting.{count_step, within_more}
use Rattle.bk_raw.proofs.depth.too_deep.Goals as goal
use Rattle.bk_raw.proofs.depth.too_deep.Goals.{then-brackets-gt-MOST_OPEN-via-then-brackets-gt-MOST_OPEN, then-brackets-gt-MOST_OPEN-via-else-brackets-gt-MOST_OPEN+then-blocks-gt-MOST_OPEN}

pub loop-place-preserved : goal.loop-place-preserved
loop-place-preserved c =
    let brackets : c.brackets_behind-brackets.result ≡ open_brackets (take (c.loop-place.place + 1) c.args.tokens.now) = count_step opens_bracket closes_bracket c.args.tokens.now c.loop-place.place c.index-tokens-place.result c.loop-place.brackets c.brackets_behind-brackets.result c.loop-place-test.true c.loop-place.invariant.brackets c.brackets_behind-brackets.ensures in
    let blocks : c.blocks_behind-blocks.result ≡ open_blocks (take (c.loop-place.place + 1) c.args.tokens.now) = count_step opens_block closes_block c.args.tokens.now c.loop-place.place c.index-tokens-place.result c.loop-place.blocks c.blocks_behind-blocks.result c.loop-place-test.true c.loop-place.invariant.blocks c.blocks_behind-blocks.ensures in
    record { brackets = brackets; blocks = blocks; first = within_more c.args.tokens.now c.loop-place.place c.loop-place.invariant.first (omega (arith, brackets, c.if-brackets-gt-MOST_OPEN.false), omega (arith, blocks, c.if-blocks-gt-MOST_OPEN.false)) }

pub returns-then-brackets-gt-MOST_OPEN : goal.returns-then-brackets-gt-MOST_OPEN
returns-then-brackets-gt-MOST_OPEN c =
    let brackets : c.brackets_behind-brackets.result ≡ open_brackets (take (c.loop-place.place + 1) c.args.tokens.now) = count_step opens_bracket closes_bracket c.args.tokens.now c.loop-place.place c.index-tokens-place.result c.loop-place.brackets c.brackets_behind-brackets.result c.loop-place-test.true c.loop-place.invariant.brackets c.brackets_behind-brackets.ensures in
    let blocks : c.blocks_behind-blocks.result ≡ open_blocks (take (c.loop-place.place + 1) c.args.tokens.now) = count_step opens_block closes_block c.args.tokens.now c.loop-place.place c.index-tokens-place.result c.loop-place.blocks c.blocks_behind-blocks.result c.loop-place-test.true c.loop-place.invariant.blocks c.blocks_behind-blocks.ensures in
    record {
      inside = c.loop-place-test.true;
      deep = λ w. elim c.then-brackets-gt-MOST_OPEN.branch [
        | then-brackets-gt-MOST_OPEN-via-then-brackets-gt-MOST_OPEN b ↦ omega (arith, w.0, brackets, b.if-brackets-gt-MOST_OPEN)
        | then-brackets-gt-MOST_OPEN-via-else-brackets-gt-MOST_OPEN+then-blocks-gt-MOST_OPEN b ↦ omega (arith, w.1, blocks, b.if-blocks-gt-MOST_OPEN)
      ];
      first = c.loop-place.invariant.first;
    }
