use Rattle.std.proofs.Common.{refl, inl, subst, sym, pos}
use Rattle.bk_image.specs.declared.depths.Depth.TheVariants.{One}
use Rattle.bk_image.specs.Progress.{AreReached}
use Rattle.bk_image.proofs.Starting.{grown_covers, grown_through, root_known, roots_started, entries_grown}
use Rattle.bk_image.proofs.depths.Depths.start_roots.Goals as goal

pub start_entries-requires-clause-progress : goal.start_entries-requires-clause-progress
start_entries-requires-clause-progress c = c.in_ok-start.ensures.progress c.args.image.now 0 c.requires.progress (root_known c.args.image.now 0 0 (inl refl))

pub returns-clause-started : goal.returns-clause-started
returns-clause-started c =
    let image = c.args.image.now in
    let first = c.start.new.self.known.items in
    let second = c.start_entries.new.self.known.items in
    let third = c.start_unreached.new.self.known.items in
    let grown = c.in_ok-start_unreached.ensures.grown in
    let reached = subst (AreReached image) (sym c.deref.ensures.value) c.in_ok-reached.ensures in
    roots_started image c.deref.result.now third reached c.in_ok-start_unreached.ensures.covered
    (entries_grown image second third grown c.in_ok-start_entries.ensures.covered)
    (grown_covers first third 0 (One (pos 0)) (grown_through first second third c.in_ok-start_entries.ensures.grown grown) c.in_ok-start.ensures.covered)
