use Rattle.std.proofs.Common.{◌++◌, [], ◌∷◌, length-append, arith}
use Rattle.std.specs.Prelude.{codes}
use Rattle.bk_calls.specs.Room.{longest_given, longest_done, longest_stop}
use Rattle.bk_calls.proofs.Lengths.{longest_none, longest_more}
use Rattle.bk_calls.proofs.room.reply_room.Goals as goal

pub returns : goal.returns
returns c =
    let entry = c.args.entry.now in
    let image = c.args.image.now in
    let given = longest_given image entry.outputs in
    let done = longest_done image entry in
    let stop = entry.name ++ longest_stop in
    let a = c.checked_add-2.ensures in let b = c.in_ok-given.ensures in
    grind (arith, longest_more done (stop ∷ []), longest_more stop [], longest_none, length-append entry.name longest_stop, length-append (entry.name ++ given) (codes "\n"), length-append entry.name given)
