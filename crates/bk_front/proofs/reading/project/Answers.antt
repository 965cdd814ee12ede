use Rattle.std.proofs.Common.{◌≡◌, ◌∙◌, ℤ, List, length, map, ap, sym, subst, arith, rules, IfOk, IfErr, FitsSigned, w64, to_z, of_z, to_z-of_z}
use Rattle.std.proofs.lemmas.List.{length-map}
use Rattle.bk_sources.proofs.FileSteps.{bytes_of}
use Rattle.bk_dev.specs.Development.{IsRange}
use Rattle.bk_front.specs.declared.project_file.LineKind.{LineKind}
use Rattle.bk_front.specs.Project.{ReadsIn, IsRefusalIn}
use Rattle.bk_front.specs.ProjectFile.{IsChain, component_lines, kinds_of, range_of}
use Rattle.bk_front.proofs.ProjectFiles.{kinds_chain, range_right}
use Rattle.bk_front.proofs.reading.project.Goals as goal

pub range_of-max-requires : goal.range_of-max-requires
range_of-max-requires c = c.requires.lines.names

pub in_range-requires-clause-range : goal.in_range-requires-clause-range
in_range-requires-clause-range c =
    let fits : FitsSigned w64 c.range_of-max.result = search rules in
    let most : to_z w64 (of_z w64 c.range_of-max.result) ≡ range_of c.args.lines.now = to_z-of_z fits ∙ c.range_of-max.ensures in
    subst IsRange (sym most) (range_right c.args.lines.now c.requires.lines.names)

pub in_range-requires-clause-chain : goal.in_range-requires-clause-chain
in_range-requires-clause-chain c =
    let kinds : c.deref.result.now ≡ kinds_of c.args.lines.now = c.deref.ensures.value ∙ c.in_ok-kinds.ensures in
    subst IsChain (sym kinds) (kinds_chain c.args.lines.now c.requires.lines)

pub in_range-requires-clause-countable : goal.in_range-requires-clause-countable
in_range-requires-clause-countable c = omega (arith, c.requires.texts, c.requires.lines.few)

pub in_range-requires-clause-long : goal.in_range-requires-clause-long
in_range-requires-clause-long c =
    let kinds : c.deref.result.now ≡ kinds_of c.args.lines.now = c.deref.ensures.value ∙ c.in_ok-kinds.ensures in
    ap length kinds ∙ length-map (component_lines c.args.lines.now) (λ l. l.kind) ∙ sym c.requires.texts

pub returns-clause-development : goal.returns-clause-development
returns-clause-development c =
    let fits : FitsSigned w64 c.range_of-max.result = search rules in
    let most : to_z w64 (of_z w64 c.range_of-max.result) ≡ range_of c.args.lines.now = to_z-of_z fits ∙ c.range_of-max.ensures in
    let kinds : c.deref.result.now ≡ kinds_of c.args.lines.now = c.deref.ensures.value ∙ c.in_ok-kinds.ensures in
    subst (λ (m : ℤ). IfOk c.in_range.result (ReadsIn m (kinds_of c.args.lines.now) (bytes_of c.args.texts.now))) most
    (subst (λ (ks : List LineKind). IfOk c.in_range.result (ReadsIn (to_z w64 (of_z w64 c.range_of-max.result)) ks (bytes_of c.args.texts.now))) kinds c.in_range.ensures.development)

pub returns-clause-refusal : goal.returns-clause-refusal
returns-clause-refusal c =
    let fits : FitsSigned w64 c.range_of-max.result = search rules in
    let most : to_z w64 (of_z w64 c.range_of-max.result) ≡ range_of c.args.lines.now = to_z-of_z fits ∙ c.range_of-max.ensures in
    let kinds : c.deref.result.now ≡ kinds_of c.args.lines.now = c.deref.ensures.value ∙ c.in_ok-kinds.ensures in
    subst (λ (m : ℤ). IfErr c.in_range.result (IsRefusalIn m (kinds_of c.args.lines.now) (bytes_of c.args.texts.now))) most
    (subst (λ (ks : List LineKind). IfErr c.in_range.result (IsRefusalIn (to_z w64 (of_z w64 c.range_of-max.result)) ks (bytes_of c.args.texts.now))) kinds c.in_range.ensures.refusal)
