use Rattle.std.proofs.Common.{◌≡◌, ◌∙◌, ap, sym, subst, List, false, true, Some, OnOk, arith}
use Rattle.std.proofs.lemmas.Result.{on_ok_weaker}
use Rattle.bk_form.specs.Formula.{Formula, binary}
use Rattle.std.specs.List.{list_any}
use Rattle.bk_arith.specs.Same.{is_same}
use Rattle.bk_seq.specs.Paths.{numbered_item}
use Rattle.bk_kernel.specs.Obvious.{is_plain}
use Rattle.bk_auto.proofs.Obvious.{or-second, closes_hyp, closes_anywhere}
use Rattle.bk_auto.proofs.closing.close.Goals as goal

pub close_plain-requires : goal.close_plain-requires
close_plain-requires c =
    let g = c.args.sequent.now.goal in
    let none : list_any (is_same g) c.deref.result.now ≡ false = rw c.in-None.is at c.in_ok-number.ensures in
    or-second (list_any (is_same g) c.args.sequent.now.hyps.items) (is_plain g) c.requires (subst (λ (hs : List Formula). list_any (is_same g) hs ≡ false) c.deref.ensures.value none)

pub returns-in-Some : goal.returns-in-Some
returns-in-Some c =
    let g = c.args.sequent.now.goal in
    let here : numbered_item c.deref.result.now c.in-Some.number ≡ Some g = rw c.in-Some.is at c.in_ok-number.ensures in
    on_ok_weaker c.add.result
    (λ e. closes_hyp c.args.rules.now.items c.add.new.rules.items c.args.sequent.now.hyps.items g c.in-Some.number e (subst (λ (hs : List Formula). numbered_item hs c.in-Some.number ≡ Some g) c.deref.ensures.value here))
    c.add.ensures

pub returns-in-None : goal.returns-in-None
returns-in-None c = on_ok_weaker c.close_plain.result (closes_anywhere c.args.rules.now.items c.close_plain.new.rules.items c.args.sequent.now.hyps.items c.args.sequent.now.goal) c.close_plain.ensures
