use Rattle.std.proofs.Common.{◌≡◌, ◌≤◌, ◌<◌, length, ◌∙◌, ap, subst}
use Rattle.std.specs.Prelude.{IfOk}
use Rattle.bk_limits.specs.declared.TheConstants.{MOST_INSTRUCTIONS}
use Rattle.bk_code.specs.declared.image.Image.{Image}
use Rattle.bk_b0.specs.CodeUnit.{unit_image}
use Rattle.bk_b0.proofs.Units.{units_are_translated}
use Rattle.bk_verbs.specs.Stops.{HasTooManyCells}
use Rattle.bk_verbs.proofs.code.translated.Goals as goal

pub returns-clause-ok : goal.returns-clause-ok
returns-clause-ok c =
    let same = ap unit_image c.in_ok-unit.ensures ∙ units_are_translated c.args.dev.now in
    subst (λ (i : Image). IfOk c.translate.result (λ image. image ≡ i)) same c.translate.ensures.ok

pub returns-clause-too_long : goal.returns-clause-too_long
returns-clause-too_long c e =
    let same = ap unit_image c.in_ok-unit.ensures ∙ units_are_translated c.args.dev.now in
    subst (λ (i : Image). MOST_INSTRUCTIONS < length i.code) same (c.translate.ensures.too_long e)

pub returns-clause-too_many : goal.returns-clause-too_many
returns-clause-too_many c e =
    let same = ap unit_image c.in_ok-unit.ensures ∙ units_are_translated c.args.dev.now in
    subst (λ (i : Image). (length i.code ≤ MOST_INSTRUCTIONS) × HasTooManyCells i) same (c.translate.ensures.too_many e)
