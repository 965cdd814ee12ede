use Rattle.std.proofs.Common.{◌≡◌, ◌+◌, ℕ, suc, List, ◌∷◌, sym, subst, ◌∙◌, arith}
use Rattle.bk_gsl.specs.Substitution.{Substitution}
use Rattle.bk_tests_sessions.specs.Drawn.{IsDrawn}
use Rattle.bk_tests_sessions.proofs.Drawn.{drawn_seq, branches_in, drawn_block, drawn_turns}
use Rattle.bk_tests_sessions.proofs.drawing.+statement.Goals as goal

pub returns-then-choice-lt4 : goal.returns-then-choice-lt4
returns-then-choice-lt4 t c = subst (IsDrawn c.args.locals.now c.args.from c.args.end) (sym c.in_ok-both.ensures) (drawn_seq c.args.locals.now c.args.from c.between-middle.result c.args.end c.in_ok-first.first c.in_ok-second.second c.in_ok-first.ensures c.in_ok-second.ensures)

pub returns-then-choice-lt6 : goal.returns-then-choice-lt6
returns-then-choice-lt6 t c = subst (IsDrawn c.args.locals.now c.args.from c.args.end) (sym c.in_ok-branches.ensures) (branches_in c.args.locals.now c.args.from c.between-middle-then-choice-lt6.result c.args.end c.in_ok-test.test c.in_ok-yes.yes c.in_ok-no.no c.in_ok-test.ensures c.in_ok-yes.ensures c.in_ok-no.ensures)

-- the locals of the inner statement are one more
inner-drawn : (ls inner : List ℕ) (z end : ℕ) (s : Substitution) → inner ≡ z ∷ ls → IsDrawn inner (z + 1) end s → IsDrawn (z ∷ ls) (suc z) end s
inner-drawn ls inner z end s is h =
    let same : z + 1 ≡ suc z = omega arith in
    subst (λ m. IsDrawn (z ∷ ls) m end s) same (subst (λ ns. IsDrawn ns (z + 1) end s) is h)

pub returns-then-choice-lt8 : goal.returns-then-choice-lt8
returns-then-choice-lt8 t c =
    let ls = c.args.locals.now in
    let z = c.args.from in
    let end = c.args.end in
    let body = inner-drawn ls c.deref.result.now z end c.in_ok-body.body (c.deref.ensures.value ∙ c.in_ok-inner.ensures) c.in_ok-body.ensures in
    subst (IsDrawn ls z end) (sym c.in_ok-block.ensures) (drawn_block ls z end 2 c.in_ok-start.start c.in_ok-body.body c.requires.locals c.requires.low (omega (arith, c.if-from-end.false, c.requires.order)) c.requires.high (omega arith) c.in_ok-start.ensures body)

pub returns : goal.returns
returns t c =
    let ls = c.args.locals.now in
    let z = c.args.from in
    let end = c.args.end in
    let body = inner-drawn ls c.deref.result.now z end c.in_ok-body.body (c.deref.ensures.value ∙ c.in_ok-inner.ensures) c.in_ok-body.ensures in
    subst (IsDrawn ls z end) (sym c.in_ok-block-2.ensures) (drawn_turns ls z end c.in_ok-count.count c.in_ok-body.body c.requires.locals c.requires.low (omega (arith, c.if-from-end.false, c.requires.order)) c.requires.high c.in_ok-count.ensures body)
