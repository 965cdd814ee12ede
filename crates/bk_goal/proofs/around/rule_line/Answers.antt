use Rattle.std.proofs.Common.{ℕ, List, ◌++◌, codes, ◌∙◌, ap}
use Rattle.std.specs.Prelude.{decimal, Some}
use Rattle.bk_goal.specs.Shown.{place_of_rule, rule_text}
use Rattle.bk_goal.proofs.Lines.{joined}
use Rattle.bk_goal.proofs.around.rule_line.Goals as goal

pub returns : goal.returns
returns c =
    let place = place_of_rule c.args.found (Some c.args.rule.now) in
    let n = c.written_at.ensures.0 in
    let written = rule_text c.args.found c.args.rule.now n in
    let numbered = codes "rule " ++ decimal c.args.number in
    let second = c.in_ok-extend_from_slice.ensures.items ∙ ap (λ (xs : List ℕ). c.in_ok-text.text.items ++ xs) (c.deref.ensures.value ∙ c.in_ok-place.ensures) in
    let third = c.in_ok-extend_from_slice-3.ensures.items ∙ ap (λ (xs : List ℕ). c.extend_from_slice-2.new.self.items ++ xs) c.written_at.ensures.1 in
    let front = joined c.in_ok-text.text.items c.extend_from_slice.new.self.items c.extend_from_slice-2.new.self.items numbered place (codes ": ") c.in_ok-text.ensures second c.in_ok-extend_from_slice-2.ensures.items in
    (n, joined c.extend_from_slice-2.new.self.items c.extend_from_slice-3.new.self.items c.extend_from_slice-4.new.self.items (numbered ++ place ++ codes ": ") written (codes "\n") front third c.in_ok-extend_from_slice-4.ensures.items)
