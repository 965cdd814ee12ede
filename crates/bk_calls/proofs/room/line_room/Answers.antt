use Rattle.std.proofs.Common.{◌≡◌, List, ◌<◌, ◌≤◌, ◌++◌, ◌∷◌, [], ◌∙◌, sym, ap, subst, length, get_or, take, map, max}
use Rattle.std.specs.Prelude.{codes}
use Rattle.std.proofs.lemmas.List.{take_all}
use Rattle.bk_code.specs.declared.image.OpEntry.{OpEntry}
use Rattle.bk_calls.specs.Room.{longest_of, longest_closing, longest_stop, longest_reply, longest_line}
use Rattle.bk_calls.proofs.Lengths.{longest_first, longest_next}
use Rattle.bk_calls.proofs.room.line_room.Goals as goal

pub loop-entry-init : goal.loop-entry-init
loop-entry-init c = c.max-room.ensures ∙ sym longest_first

pub loop-entry-preserved : goal.loop-entry-preserved
loop-entry-preserved c =
    let ops = c.args.image.now.ops in
    let below = subst (λ (list : List OpEntry). c.loop-entry.entry-index < length list) c.as_slice-entry-items.ensures c.loop-entry-test.true in
    let item : c.entry-item.result ≡ get_or ops c.loop-entry.entry-index c.entry-item.result =
    c.entry-item.is ∙ ap (λ (list : List OpEntry). get_or list c.loop-entry.entry-index c.entry-item.result) c.as_slice-entry-items.ensures in
    let next = longest_next (longest_reply c.args.image.now) (longest_closing ∷ (codes "initialisation" ++ longest_stop) ∷ []) ops c.loop-entry.entry-index c.entry-item.result below in
    let room = c.loop-entry.invariant in
    c.max-room-in-loop-entry.ensures ∙ ap (λ n. max n c.in_ok-reply_room.field-0) room ∙
    ap (λ n. max (length (longest_of ((longest_closing ∷ (codes "initialisation" ++ longest_stop) ∷ []) ++ map (longest_reply c.args.image.now) (take c.loop-entry.entry-index ops)))) n)
    (c.in_ok-reply_room.ensures ∙ ap (λ (entry : OpEntry). length (longest_reply c.args.image.now entry)) item) ∙ sym next

pub returns : goal.returns
unfolding longest_line
returns c =
    let ops = c.args.image.now.ops in
    let past = subst (λ (list : List OpEntry). length list ≤ c.loop-entry.entry-index) c.as_slice-entry-items.ensures c.loop-entry-test.false in
    c.loop-entry.invariant ∙
    ap (λ (entries : List OpEntry). length (longest_of ((longest_closing ∷ (codes "initialisation" ++ longest_stop) ∷ []) ++ map (longest_reply c.args.image.now) entries))) (take_all c.loop-entry.entry-index ops past)
