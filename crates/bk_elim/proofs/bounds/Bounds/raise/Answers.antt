use Rattle.std.proofs.Common.{◌≡◌, true, Some, rules, subst}
use Rattle.bk_lin.specs.Certificate.{inequalities}
use Rattle.bk_elim.specs.Bounds.{IsBetterLow, IsAgreed}
use Rattle.bk_elim.specs.Layout.{list_in}
use Rattle.bk_elim.proofs.Covering.{raised, agreed_above}
use Rattle.bk_elim.proofs.bounds.Bounds.raise.Goals as goal

pub returns-in-None : goal.returns-in-None
returns-in-None c =
    let yes : c.rises.result ≡ true = search rules in
    let better : IsBetterLow c.args.row.items (list_in c.args.self.now.low) = subst (λ r. IsBetterLow r (list_in c.args.self.now.low)) c.deref.ensures.value (c.rises.ensures.yes yes) in
    let agreed : IsAgreed (Some c.args.row.items) (list_in c.args.self.now.high) = agreed_above c.deref-2.result.now c.args.row.items (list_in c.args.self.now.high) c.deref-2.ensures.value (rw c.in-None.is at c.in_ok-both.ensures) in
    raised (inequalities c.args.facts.now) (list_in c.args.self.now.low) (list_in c.args.self.now.high) c.args.row.items c.requires.bounds c.requires.row c.requires.up better agreed
