use Rattle.std.proofs.Common.{◌≡◌, not, ◌&&◌, ◌∙◌, ℕ, Bool, true, false, sym, ap, subst, rules, tests}
use Rattle.std.specs.List.{list_all}
use Rattle.std.proofs.lemmas.Iterator.{YieldsList-from_slice}
use Rattle.std.proofs.lemmas.Iterator.Search.{all_from_yields_List}
use Rattle.bk_form.specs.Formula.{Formula}
use Rattle.bk_form.specs.Replacement.{occurs}
use Rattle.bk_dev.specs.Layout.{right_side, lacks_type}
use Rattle.bk_dev.proofs.clues.gives_types.Goals as goal

both-hold : (a r b : Bool) → a ≡ true → r ≡ b → not r ≡ a && not b
both-hold true r b h e = ap not e
both-hold false r b h e = absurd (cc)

pub returns-then-all : goal.returns-then-all
returns-then-all c =
    let side = c.right_side-side.result.now in
    let variables = c.args.typeless.now in
    let e = all_from_yields_List (λ (n : ℕ). not (occurs n side)) _ _ c.all.result c.all.ensures.ran (YieldsList-from_slice variables (cc)) (λ x b q k. search (rules, tests)) in
    let none : list_all (λ (n : ℕ). not (occurs n side)) variables ≡ true = sym e ∙ c.if-all.true in
    let same : side ≡ right_side c.args.part.now = c.right_side-side.ensures in
    let there = subst (λ (f : Formula). list_all (λ (n : ℕ). not (occurs n f)) variables ≡ true) same none in
    both-hold (list_all (λ (n : ℕ). not (occurs n (right_side c.args.part.now))) variables) c.lacks_type.result (lacks_type (right_side c.args.part.now)) there (c.lacks_type.ensures ∙ ap lacks_type same)
