use Rattle.std.proofs.Common.{◌∙◌, sym}
use Rattle.bk_dev.specs.Codes.ClueView.{clue_seen}
use Rattle.bk_dev.specs.Layout.{has_scalars}
use Rattle.bk_elab_terms.specs.Visible.{typing_of}
use Rattle.bk_scope.specs.Shown.{above_shown}
use Rattle.bk_check_b0.proofs.Arraying.{told-array, told-other}
use Rattle.bk_check_b0.proofs.arrays.array_domain.Goals as goal

pub returns-then-not-is_array : goal.returns-then-not-is_array
returns-then-not-is_array c = λ dev d same.
    told-other dev (above_shown c.args.above).levels c.args.own.now c.args.variable (clue_seen c.in_ok-found.found) c.in-Some.source c.args.typing.max c.args.values.now (has_scalars (typing_of c.args.typing.types.now c.args.variable))
    d.levels c.in_ok-found.ensures (sym c.in-Some.is ∙ c.in_ok-source.ensures) d.max d.values same (sym c.if-not-is_array.true ∙ c.is_array.ensures)

pub returns : goal.returns
returns c = λ dev d same.
    told-array dev (above_shown c.args.above).levels c.args.own.now c.args.variable (clue_seen c.in_ok-found.found) c.in-Some.source c.args.typing.max c.args.values.now (has_scalars (typing_of c.args.typing.types.now c.args.variable))
    d.levels c.in_ok-found.ensures (sym c.in-Some.is ∙ c.in_ok-source.ensures) d.max d.values same (sym c.if-not-is_array.false ∙ c.is_array.ensures)
