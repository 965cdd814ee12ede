use Rattle.std.proofs.Common.{◌≡◌, ℕ, Option, length, subst, arith}
use Rattle.std.specs.Prelude.{IfSome}
use Rattle.bk_calls.specs.Room.{longest_line}
use Rattle.bk_calls.proofs.Lengths.{closing_within}
use Rattle.bk_calls.proofs.reply_line.ReplyLine.new.Goals as goal

pub invariant_of-result : goal.invariant_of-result
invariant_of-result c =
    let image = c.args.image.now in
    let room : c.in_ok-room.room ≡ length (longest_line image) = subst (λ (room : Option ℕ). IfSome room (λ n. n ≡ length (longest_line image))) c.in_ok-room.ensures.ok_part c.line_room.ensures in
    (omega (arith, c.in_ok-bytes.ensures.capacity), omega (arith, closing_within image))
