use Rattle.std.proofs.Common.{◌∙◌, sym}
use Rattle.bk_dev.specs.Codes.ClueView.{clue_seen}
use Rattle.bk_scope.specs.Shown.{above_shown}
use Rattle.bk_check_b0.proofs.Arraying.{own-decides, above-told, is-quiet, is-loud}
use Rattle.bk_check_b0.proofs.arrays.clue.Goals as goal

pub returns-then-not-is_silent : goal.returns-then-not-is_silent
returns-then-not-is_silent c =
    let found = clue_seen c.in_ok-found.found in
    own-decides c.args.level.now c.args.own.now (above_shown c.args.above).levels c.args.variable found c.requires (is-loud found (sym c.if-not-is_silent.true ∙ c.is_silent.ensures)) c.in_ok-found.ensures

pub returns : goal.returns
returns c =
    let found = clue_seen c.in_ok-found.found in
    above-told c.args.level.now c.args.own.now (above_shown c.args.above).levels c.args.variable (clue_seen c.in_ok-higher.higher) c.requires
    (is-quiet found (sym c.if-not-is_silent.false ∙ c.is_silent.ensures) ∙ c.in_ok-found.ensures) c.in_ok-higher.ensures
