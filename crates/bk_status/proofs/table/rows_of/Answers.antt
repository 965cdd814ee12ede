use Rattle.std.proofs.Common.{◌≡◌, [], map, sym, subst, arith}
use Rattle.std.specs.List.{AllZip}
use Rattle.std.specs.Vec.Iter.{into_iter_items}
use Rattle.std.proofs.lemmas.List.{nil_from_length, append-nil}
use Rattle.bk_dev.specs.Flattened.{flattened}
use Rattle.bk_po.specs.Shown.{named_sequent}
use Rattle.bk_status.specs.Rows.{IsRowOf}
use Rattle.bk_status.proofs.table.rows_of.Goals as goal

pub returns : goal.returns
returns c =
    let stands = IsRowOf (flattened c.args.dev.now) c.args.named.now in
    let rest = into_iter_items c.loop-obligation.obligation-iterator in
    let none : rest ≡ [] = nil_from_length rest (omega (arith, c.in-None.ensures.steps.0)) in
    let whole = c.loop-obligation.invariant.completed [] (subst (λ os. AllZip stands (map named_sequent os) []) (sym none) tt) in
    subst (AllZip stands (map named_sequent c.args.list.items)) (append-nil c.loop-obligation.rows.items) whole
