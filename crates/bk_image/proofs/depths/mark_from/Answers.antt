use Rattle.std.proofs.Common.{◌∙◌, ap, length, get_or, pos}
use Rattle.std.proofs.lemmas.Option.{slice_get-get_or}
use Rattle.bk_code.specs.declared.instruction.Inst.{Inst}
use Rattle.bk_code.specs.declared.instruction.Inst.TheVariants.{Push}
use Rattle.bk_image.proofs.Following.{inside}
use Rattle.bk_image.proofs.Starting.{length-marked, from_some, from_all}
use Rattle.bk_image.proofs.depths.mark_from.Goals as goal

none : Inst
none = Push (pos 0)

pub mark-requires : goal.mark-requires
unfolding none
mark-requires c =
    let image = c.args.image.now in
    let i = inside image c.args.at (get_or image.code c.args.at none) c.requires.numbered (slice_get-get_or image.code c.args.at none c.requires.place) in
    rw (c.next_of.ensures, c.as_slice.ensures, c.requires.long) i.next

pub target_of-requires-clause-from_zero : goal.target_of-requires-clause-from_zero
unfolding none
target_of-requires-clause-from_zero c =
    let image = c.args.image.now in
    let i = inside image c.args.at (get_or image.code c.args.at none) c.requires.numbered (slice_get-get_or image.code c.args.at none c.requires.place) in
    rw c.as_slice.ensures i.from_zero

pub mark-requires-2 : goal.mark-requires-2
unfolding none
mark-requires-2 c =
    let image = c.args.image.now in
    let i = inside image c.args.at (get_or image.code c.args.at none) c.requires.numbered (slice_get-get_or image.code c.args.at none c.requires.place) in
    let long = ap length c.mark.ensures ∙ length-marked c.args.reached.now c.next_of.result ∙ c.requires.long in
    rw (c.target_of.ensures, c.as_slice.ensures, long) i.target

pub returns-clause-some : goal.returns-clause-some
unfolding none
returns-clause-some c to h =
    let image = c.args.image.now in
    let get = slice_get-get_or image.code c.args.at none c.requires.place in
    let i = inside image c.args.at (get_or image.code c.args.at none) c.requires.numbered get in
    from_some image c.args.reached.now (get_or image.code c.args.at none) c.args.at to get i.from_zero
    (rw (← c.as_slice.ensures, ← c.next_of.ensures, ← c.target_of.ensures, ← c.mark.ensures, ← c.mark-2.ensures) h)

pub returns-clause-all : goal.returns-clause-all
unfolding none
returns-clause-all c to passes =
    let image = c.args.image.now in
    let get = slice_get-get_or image.code c.args.at none c.requires.place in
    let i = inside image c.args.at (get_or image.code c.args.at none) c.requires.numbered get in
    rw (c.mark-2.ensures, c.mark.ensures, c.target_of.ensures, c.next_of.ensures, c.as_slice.ensures)
    (from_all image c.args.reached.now (get_or image.code c.args.at none) c.args.at to get i c.requires.long passes)
