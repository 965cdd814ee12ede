use Rattle.std.proofs.Common.{◌≡◌, ◌∙◌, ◌∷◌, [], ap, sym, subst, List, None, true}
use Rattle.bk_form.specs.Formula.{Formula}
use Rattle.bk_arith.specs.Decision.{first_unread, terms_of, is_accepted}
use Rattle.bk_auto.specs.Easy.{comparisons, AreContradictory}
use Rattle.bk_auto.specs.Found.{comparison_numbers}
use Rattle.bk_auto.proofs.Refuted.{comparisons_read, closes_lin}
use Rattle.bk_auto.proofs.arithmetic.by_arithmetic.Goals as goal

pub certificate-requires : goal.certificate-requires
certificate-requires c =
    let read : c.deref-2.result.now ≡ comparisons c.args.sequent.now.hyps.items = c.deref-2.ensures.value ∙ c.in_ok-read.ensures ∙ ap comparisons c.deref.ensures.value in
    ap (λ (hs : List Formula). first_unread hs c.args.sequent.now.goal) read ∙ comparisons_read c.args.sequent.now.hyps.items c.args.sequent.now.goal c.requires

pub returns-in-Some : goal.returns-in-Some
returns-in-Some c =
    let read : c.deref-2.result.now ≡ comparisons c.args.sequent.now.hyps.items = c.deref-2.ensures.value ∙ c.in_ok-read.ensures ∙ ap comparisons c.deref.ensures.value in
    let right : is_accepted c.deref-2.result.now c.args.sequent.now.goal (c.in-Some.line ∷ []) ≡ true = rw c.in-Some.is at c.in_ok-line.ensures in
    closes_lin c.args.rules.now.items c.add.new.rules.items c.args.sequent.now.hyps.items c.args.sequent.now.goal c.in_ok-facts-in-Some.facts c.in_ok-lines-in-Some.lines c.in-Some.line c.in_ok-add-in-Some.ensures
    (c.in_ok-facts-in-Some.ensures ∙ ap (comparison_numbers 1) c.deref-in-Some.ensures.value) c.in_ok-lines-in-Some.ensures.items
    (subst (λ (hs : List Formula). is_accepted hs c.args.sequent.now.goal (c.in-Some.line ∷ []) ≡ true) read right)

pub returns : goal.returns
returns c =
    let read : c.deref-2.result.now ≡ comparisons c.args.sequent.now.hyps.items = c.deref-2.ensures.value ∙ c.in_ok-read.ensures ∙ ap comparisons c.deref.ensures.value in
    let none : AreContradictory (terms_of c.deref-2.result.now c.args.sequent.now.goal) → ⊥ = rw c.in-None.is at c.in_ok-line.ensures in
    subst (λ (hs : List Formula). AreContradictory (terms_of hs c.args.sequent.now.goal) → ⊥) read none
