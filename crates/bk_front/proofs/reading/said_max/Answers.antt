use Rattle.std.proofs.Common.{◌≡◌, ◌∙◌, true, false, rules, sym}
use Rattle.std.proofs.lemmas.Bool.{false≢true}
use Rattle.bk_front.specs.ProjectFile.{is_range}
use Rattle.bk_front.proofs.RangeText.{said}
use Rattle.bk_front.proofs.reading.said_max.Goals as goal

pub returns-then-not-is_range : goal.returns-then-not-is_range
returns-then-not-is_range c =
    let other : is_range c.args.line.now.kind ≡ false = search rules in
    λ here _. false≢true (sym other ∙ here)

pub returns : goal.returns
returns c =
    let here : is_range c.args.line.now.kind ≡ true = search rules in
    let same : c.as_bytes.result.now ≡ c.args.line.now.name = search rules in
    said c.max_in.result c.args.line.now.kind c.args.line.now.name c.as_bytes.result.now here same c.max_in.ensures
