use Rattle.std.proofs.Common.{◌≡◌, ◌∙◌, ◌+◌, ◌++◌, ◌∷◌, [], ℕ, List, false, true, ap, sym, subst, arith}
use Rattle.std.proofs.lemmas.List.{append-nil}
use Rattle.bk_auto.proofs.Loops.{number_read, number_unread}
use Rattle.bk_auto.proofs.arithmetic.add_number.Goals as goal

pub returns-then-not-is_comparison : goal.returns-then-not-is_comparison
returns-then-not-is_comparison c =
    let numbers : List ℕ = c.args.numbers.now.items in
    sym (append-nil numbers) ∙ ap (λ (xs : List ℕ). numbers ++ xs) (sym (number_unread c.args.hyp.now (c.args.index + 1) (sym c.is_comparison.ensures ∙ c.if-not-is_comparison.true)))

pub returns : goal.returns
returns c =
    let numbers : List ℕ = c.args.numbers.now.items in
    c.in_ok-push.ensures.items ∙ ap (λ (n : ℕ). numbers ++ n ∷ []) c.in_ok-number_at.ensures
    ∙ ap (λ (xs : List ℕ). numbers ++ xs) (sym (number_read c.args.hyp.now (c.args.index + 1) (sym c.is_comparison.ensures ∙ c.if-not-is_comparison.false)))
