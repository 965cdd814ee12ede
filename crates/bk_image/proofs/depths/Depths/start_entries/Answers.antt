use Rattle.std.proofs.Common.{◌≡◌, subst, refl, inl, inr, Some}
use Rattle.std.specs.Prelude.{slice_get}
use Rattle.std.proofs.lemmas.Option.{slice_get_read}
use Rattle.bk_image.proofs.Starting.{grown_through, root_known, entries_more}
use Rattle.bk_image.proofs.depths.Depths.start_entries.Goals as goal

pub loop-entry-preserved : goal.loop-entry-preserved
loop-entry-preserved c =
    let image = c.args.image.now in
    let n = c.loop-entry.entry-index in
    let op = c.entry-item.result in
    let old = c.loop-entry.self.known.items in
    let new = c.start.new.self.known.items in
    let here = slice_get_read c.as_slice-entry-items.result.now _ n op refl c.loop-entry-test.true c.entry-item.is in
    let get = subst (λ ops. slice_get ops n ≡ Some op) c.as_slice-entry-items.ensures here in
    record {
      progressing = c.in_ok-start.ensures.progress image 0 c.loop-entry.invariant.progressing (root_known image 0 op.start (inr (inl (n, op, get, refl))));
      grown = grown_through c.args.self.now.known.items old new c.loop-entry.invariant.grown c.in_ok-start.ensures.grown;
      started = entries_more image n op old new c.loop-entry.invariant.started c.in_ok-start.ensures.grown get c.in_ok-start.ensures.covered;
    }
