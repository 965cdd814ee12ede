use Rattle.std.proofs.Common.{◌≤◌, ◌∙◌, sym, subst, ap, get_or, pos}
use Rattle.std.proofs.lemmas.Option.{slice_get-get_or}
use Rattle.std.proofs.lemmas.Result.{on_ok_weaker}
use Rattle.bk_code.specs.declared.instruction.Inst.{Inst}
use Rattle.bk_code.specs.declared.instruction.Inst.TheVariants.{Push}
use Rattle.bk_image.specs.Progress.{progress, followed, IsProgress, At, IsGrown, left, HasPlaceAsTarget}
use Rattle.bk_image.proofs.Following.{inside, near_within, followed_progress, followed_grown, followed_left}
use Rattle.bk_image.proofs.depths.Depths.follow_place.Goals as goal

none : Inst
none = Push (pos 0)

pub follow-requires-clause-near : goal.follow-requires-clause-near
follow-requires-clause-near c d e =
    near_within c.args.image.now c.requires.progress.0 _ (At c.args.at) c.requires.progress.1 c.requires.numbered.countable c.args.at d e

pub follow-requires-clause-from_zero : goal.follow-requires-clause-from_zero
unfolding none
follow-requires-clause-from_zero c =
    subst (λ code. HasPlaceAsTarget (get_or code c.args.at none) c.args.at) (sym c.as_slice.ensures)
    (inside c.args.image.now c.args.at (get_or c.args.image.now.code c.args.at none) c.requires.numbered (slice_get-get_or c.args.image.now.code c.args.at none c.requires.place)).from_zero

pub follow-requires-clause-next : goal.follow-requires-clause-next
unfolding none
follow-requires-clause-next c =
    let i = inside c.args.image.now c.args.at (get_or c.args.image.now.code c.args.at none) c.requires.numbered (slice_get-get_or c.args.image.now.code c.args.at none c.requires.place) in
    let long = c.requires.progress.1.long in
    rw (c.as_slice.ensures, long) i.next

pub follow-requires-clause-target : goal.follow-requires-clause-target
unfolding none
follow-requires-clause-target c =
    let i = inside c.args.image.now c.args.at (get_or c.args.image.now.code c.args.at none) c.requires.numbered (slice_get-get_or c.args.image.now.code c.args.at none c.requires.place) in
    let long = c.requires.progress.1.long in
    rw (c.as_slice.ensures, long) i.target

pub returns-clause-progress : goal.returns-clause-progress
unfolding none
returns-clause-progress c =
    let image = c.args.image.now in
    let i = get_or image.code c.args.at none in
    let get = slice_get-get_or image.code c.args.at none c.requires.place in
    let p = progress c.args.self.now in
    on_ok_weaker c.follow.result (λ e limit h. subst (IsProgress image limit) (sym (e ∙ ap (λ code. followed p (get_or code c.args.at none) c.args.at) c.as_slice.ensures))
    (followed_progress image limit p i c.args.at h get (inside image c.args.at i c.requires.numbered get))) c.follow.ensures

pub returns-clause-grown : goal.returns-clause-grown
unfolding none
returns-clause-grown c =
    let image = c.args.image.now in
    let i = get_or image.code c.args.at none in
    let get = slice_get-get_or image.code c.args.at none c.requires.place in
    let p = progress c.args.self.now in
    on_ok_weaker c.follow.result (λ e. subst (λ q. IsGrown p.known q.known) (sym (e ∙ ap (λ code. followed p (get_or code c.args.at none) c.args.at) c.as_slice.ensures))
    (followed_grown image p i c.args.at c.requires.progress.1.long (inside image c.args.at i c.requires.numbered get))) c.follow.ensures

pub returns-clause-left : goal.returns-clause-left
unfolding none
returns-clause-left c =
    let image = c.args.image.now in
    let i = get_or image.code c.args.at none in
    let get = slice_get-get_or image.code c.args.at none c.requires.place in
    let p = progress c.args.self.now in
    on_ok_weaker c.follow.result (λ e. subst (λ q. left q ≤ left p) (sym (e ∙ ap (λ code. followed p (get_or code c.args.at none) c.args.at) c.as_slice.ensures))
    (followed_left image p i c.args.at c.requires.progress.1.long (inside image c.args.at i c.requires.numbered get))) c.follow.ensures
