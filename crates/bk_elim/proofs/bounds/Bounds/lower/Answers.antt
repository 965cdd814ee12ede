use Rattle.std.proofs.Common.{◌≡◌, true, Some, rules, subst}
use Rattle.bk_lin.specs.Certificate.{inequalities}
use Rattle.bk_elim.specs.Bounds.{IsBetterHigh, IsAgreed}
use Rattle.bk_elim.specs.Layout.{list_in}
use Rattle.bk_elim.proofs.Covering.{lowered, agreed_below}
use Rattle.bk_elim.proofs.bounds.Bounds.lower.Goals as goal

pub returns-in-None : goal.returns-in-None
returns-in-None c =
    let yes : c.falls.result ≡ true = search rules in
    let better : IsBetterHigh c.args.row.items (list_in c.args.self.now.high) = subst (λ r. IsBetterHigh r (list_in c.args.self.now.high)) c.deref.ensures.value (c.falls.ensures.yes yes) in
    let agreed : IsAgreed (list_in c.args.self.now.low) (Some c.args.row.items) = agreed_below c.deref-2.result.now c.args.row.items (list_in c.args.self.now.low) c.deref-2.ensures.value (rw c.in-None.is at c.in_ok-both.ensures) in
    lowered (inequalities c.args.facts.now) (list_in c.args.self.now.low) (list_in c.args.self.now.high) c.args.row.items c.requires.bounds c.requires.row c.requires.down better agreed
