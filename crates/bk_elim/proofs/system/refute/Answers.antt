use Rattle.std.proofs.Common.{◌≡◌, ℕ, ℤ, length, List, arith, sym, subst, ap, ◌∙◌}
use Rattle.bk_lin.specs.declared.fact.Line.TheVariants.{Sum}
use Rattle.bk_lin.specs.Inequality.{Inequality}
use Rattle.bk_lin.specs.Certificate.{inequalities, width_of, sum_fault, sum_fact}
use Rattle.bk_elim.specs.Elimination.{IsSolution}
use Rattle.bk_elim.specs.Rows.{parts_from}
use Rattle.bk_elim.specs.Bounds.{IsRefuting}
use Rattle.bk_elim.specs.Layout.{lists}
use Rattle.bk_elim.proofs.Certificate.{accepted, parts_of}
use Rattle.bk_elim.proofs.Joining.{length-inequalities}
use Rattle.bk_elim.proofs.Model.{IsSolution-eliminated}
use Rattle.bk_elim.proofs.Starting.{length-lists}
use Rattle.bk_elim.proofs.Ending.{none_refutes}
use Rattle.bk_elim.proofs.system.refute.Goals as goal

pub returns-in-Some : goal.returns-in-Some
returns-in-Some c =
    let ps : List Inequality = inequalities c.args.facts.now in
    let width : ℕ = width_of c.args.facts.now in
    let bad : IsRefuting (inequalities c.args.facts.now) c.in-Some.row.items = rw c.in-Some.is at c.in_ok-row.ensures in
    let items : c.in_ok-parts-in-Some.field-0.items ≡ parts_of (inequalities c.args.facts.now) c.in-Some.row.items =
    c.in_ok-parts-in-Some.ensures ∙ ap (λ r. parts_from (length c.args.facts.now) 0 r) c.deref-in-Some.ensures.value
    ∙ ap (λ n. parts_from n 0 c.in-Some.row.items) (sym (length-inequalities c.args.facts.now)) in
    accepted width ps c.in-Some.row.items c.requires.small bad.whole bad.negative (Sum c.in_ok-parts-in-Some.field-0)
    (ap (sum_fault width 1 ps) items) (ap (sum_fact width ps) items)

pub returns : goal.returns
returns c =
    let third : (x : ℕ → ℤ) × IsSolution 4 x (lists c.deref-3.result.now) = rw c.in-None.is at c.in_ok-row.ensures in
    let at_third : IsSolution 4 third.0 (lists c.in_ok-third.third.items) = subst (λ rows. IsSolution 4 third.0 (lists rows)) c.deref-3.ensures.value third.1 in
    let second : (x : ℕ → ℤ) × IsSolution 4 x (lists c.deref-2.result.now) = IsSolution-eliminated 4 1 (lists c.deref-2.result.now) (lists c.in_ok-third.third.items) (omega arith) c.in_ok-third.ensures.gone third.0 at_third in
    let at_second : IsSolution 4 second.0 (lists c.in_ok-second.second.items) = subst (λ rows. IsSolution 4 second.0 (lists rows)) c.deref-2.ensures.value second.1 in
    let first : (x : ℕ → ℤ) × IsSolution 4 x (lists c.deref.result.now) = IsSolution-eliminated 4 0 (lists c.deref.result.now) (lists c.in_ok-second.second.items) (omega arith) c.in_ok-second.ensures.gone second.0 at_second in
    let at_first : IsSolution 4 first.0 (lists c.in_ok-first.first.items) = subst (λ rows. IsSolution 4 first.0 (lists rows)) c.deref.ensures.value first.1 in
    none_refutes (width_of c.args.facts.now) (inequalities c.args.facts.now) (lists c.in_ok-first.first.items) first.0 c.requires.small
    (length-lists c.in_ok-first.first.items ∙ c.in_ok-first.ensures.start.0 ∙ sym (length-inequalities c.args.facts.now))
    (λ i h. c.in_ok-first.ensures.start.1 i (let e = length-inequalities c.args.facts.now in omega arith)) at_first
