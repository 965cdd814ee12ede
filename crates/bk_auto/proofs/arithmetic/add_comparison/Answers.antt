use Rattle.std.proofs.Common.{◌≡◌, ◌∙◌, ◌+◌, ◌++◌, ◌∷◌, [], ℕ, List, false, true, ap, sym, subst, arith}
use Rattle.std.proofs.lemmas.List.{append-nil}
use Rattle.bk_form.specs.Formula.{Formula}
use Rattle.bk_auto.proofs.Loops.{one_read, one_unread}
use Rattle.bk_auto.proofs.arithmetic.add_comparison.Goals as goal

pub returns-then-not-is_comparison : goal.returns-then-not-is_comparison
returns-then-not-is_comparison c =
    let read : List Formula = c.args.read.now.items in
    sym (append-nil read) ∙ ap (λ (xs : List Formula). read ++ xs) (sym (one_unread c.args.hyp.now (sym c.is_comparison.ensures ∙ c.if-not-is_comparison.true)))

pub returns : goal.returns
returns c =
    let read : List Formula = c.args.read.now.items in
    c.in_ok-push.ensures.items ∙ ap (λ (x : Formula). read ++ x ∷ []) c.in_ok-copy.ensures
    ∙ ap (λ (xs : List Formula). read ++ xs) (sym (one_read c.args.hyp.now (sym c.is_comparison.ensures ∙ c.if-not-is_comparison.false)))
