use Rattle.std.proofs.Common.{ℕ, ◌⊎◌, true, false, ◌≡◌, ◌++◌, ◌≤◌, subst, ap, length, take, drop, get_or, arith}
use Rattle.std.proofs.lemmas.List.{take_at}
use Rattle.bk_code.specs.Checks.{Passes}
use Rattle.bk_image.proofs.Starting.{AreMarked, marked_more, all_marked}
use Rattle.bk_image.proofs.depths.reached.Goals as goal

pub loop-at-preserved : goal.loop-at-preserved
loop-at-preserved c =
    let image = c.args.image.now in
    let old = c.loop-at.reached.items in
    let new = c.mark_from.new.reached in
    let same : c.deref_mut.result.now ≡ old = c.deref_mut.ensures.value in
    let kept : length new ≡ length old = omega (arith, c.mark_from.auto.reached, ap length same) in
    let whole : take c.loop-at.reached.len (new ++ drop (length new) old) ≡ new = take_at new (drop (length new) old) c.loop-at.reached.len (omega (arith, c.mark_from.auto.reached, c.deref_mut.ensures.len)) in
    let e = subst (λ flags. (to : ℕ) → get_or flags to false ≡ true → get_or new to false ≡ true) same c.mark_from.ensures.before in
    let f = subst (λ flags. (to : ℕ) → get_or new to false ≡ true → (get_or flags to false ≡ true) ⊎ Passes image c.loop-at.at to) same c.mark_from.ensures.some in
    let m : AreMarked image c.loop-at.at old = record { long = c.loop-at.invariant.long; some = c.loop-at.invariant.some; all = c.loop-at.invariant.all } in
    let h = marked_more image c.loop-at.at old new m kept e f c.mark_from.ensures.all in
    rw whole (record { long = h.long; some = h.some; all = h.all })

pub returns : goal.returns
returns c =
    let m : AreMarked c.args.image.now c.loop-at.at c.loop-at.reached.items = record { long = c.loop-at.invariant.long; some = c.loop-at.invariant.some; all = c.loop-at.invariant.all } in
    all_marked c.args.image.now c.loop-at.at c.loop-at.reached.items m (subst (λ code. length code ≤ c.loop-at.at) c.as_slice-count.ensures c.loop-at-test.false)
