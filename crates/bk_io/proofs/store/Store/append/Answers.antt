use Rattle.std.proofs.Common.{rules, ◌≡◌, ◌<◌, ◌≤◌, ◌∙◌, sym, ap, subst, take, length}
use Rattle.std.proofs.lemmas.List.{length-take-le}
use Rattle.bk_io.specs.Parts.{total}
use Rattle.bk_io.proofs.Cuts.{all-appended, few-appended}
use Rattle.bk_io.proofs.store.Store.append.Goals as goal

pub invariant_of-self-2-clause-all : goal.invariant_of-self-2-clause-all
invariant_of-self-2-clause-all c = all-appended c.reserve.new.self.items c.push_reserved.new.parts.items _ c.args.self.now.bytes.items (take c.args.count c.args.piece.now) c.extend_from_slice.new.self.items c.push_reserved.ensures.items c.in_ok-extend_from_slice.ensures.items (ap total c.reserve.ensures.items ∙ c.args.self.now.all) (sym (length-take-le c.args.count c.args.piece.now c.requires))

pub invariant_of-self-2-clause-few : goal.invariant_of-self-2-clause-few
invariant_of-self-2-clause-few c =
    let some : 0 < c.args.count = search rules in
    few-appended c.reserve.new.self.items c.push_reserved.new.parts.items _ c.args.self.now.bytes.items (take c.args.count c.args.piece.now) c.extend_from_slice.new.self.items c.push_reserved.ensures.items c.in_ok-extend_from_slice.ensures.items
    (subst (λ ps. length ps ≤ length c.args.self.now.bytes.items) (sym c.reserve.ensures.items) c.args.self.now.few)
    (subst (λ n. 0 < n) (sym (length-take-le c.args.count c.args.piece.now c.requires)) some)
