use Rattle.std.proofs.Common.{map, arith}
use Rattle.std.proofs.lemmas.List.{length-map}
use Rattle.bk_calls.specs.Held.{held}
use Rattle.bk_calls.proofs.Kept.{uncounted}
use Rattle.bk_calls.proofs.value.values.Goals as goal

pub returns-then-arguments-inputs : goal.returns-then-arguments-inputs
returns-then-arguments-inputs c = uncounted c.args.image.now c.args.inputs.now (map held c.args.arguments.now) (λ e. c.if-arguments-inputs.true (omega (arith, e, length-map c.args.arguments.now held)))
