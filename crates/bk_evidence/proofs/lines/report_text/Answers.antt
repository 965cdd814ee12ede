use Rattle.std.proofs.Common.{List, ℕ, false, ◌++◌, ◌∙◌, ap}
use Rattle.bk_evidence.specs.declared.item.Item.{Item}
use Rattle.bk_evidence.specs.declared.report.Input.{Input}
use Rattle.bk_evidence.specs.declared.report.Stray.{Stray}
use Rattle.bk_evidence.specs.declared.sums.Sums.{Sums}
use Rattle.bk_evidence.specs.Items.{sums_over}
use Rattle.bk_evidence.specs.Lines.{title_line, list_lines, sums_line, concern_lines, stray_lines, input_lines, tool_line, claims_lines}
use Rattle.bk_evidence.proofs.lines.report_text.Goals as goal

pub returns : goal.returns
returns c =
    let report = c.args.report.now in
    let all = report.items.items in
    let title = c.in_ok-write_title.ensures ∙ ap (λ (t : List ℕ). c.new-text.result.items ++ title_line t) c.as_bytes.ensures.value ∙ ap (λ (t : List ℕ). t ++ title_line report.machine) c.new-text.ensures.items in
    let items = c.in_ok-write_items.ensures ∙ ap (λ (xs : List Item). c.write_title.new.text.items ++ list_lines false xs) c.deref.ensures.value in
    let sums = c.in_ok-write_sums.ensures ∙ ap (λ (s : Sums). c.write_items.new.text.items ++ sums_line s) (c.sums_of.ensures ∙ ap sums_over c.deref-2.ensures.value) in
    let concerns = c.in_ok-write_concerns.ensures ∙ ap (λ (xs : List Item). c.write_sums.new.text.items ++ concern_lines xs) c.deref-3.ensures.value in
    let strays = c.in_ok-write_strays.ensures ∙ ap (λ (xs : List Stray). c.write_concerns.new.text.items ++ stray_lines xs) c.deref-4.ensures.value in
    let inputs = c.in_ok-write_inputs.ensures ∙ ap (λ (xs : List Input). c.write_strays.new.text.items ++ input_lines xs) c.deref-5.ensures.value in
    c.in_ok-write_claims.ensures ∙ ap (λ (t : List ℕ). t ++ claims_lines report.claims)
    (c.in_ok-write_tool.ensures ∙ ap (λ (t : List ℕ). t ++ tool_line report)
    (inputs ∙ ap (λ (t : List ℕ). t ++ input_lines report.inputs.items)
    (strays ∙ ap (λ (t : List ℕ). t ++ stray_lines report.strays.items)
    (concerns ∙ ap (λ (t : List ℕ). t ++ concern_lines all) (sums ∙ ap (λ (t : List ℕ). t ++ sums_line (sums_over all)) (items ∙ ap (λ (t : List ℕ). t ++ list_lines false all) title))))))
