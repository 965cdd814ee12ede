use Rattle.std.proofs.Common.{◌≡◌, ◌+◌, drop}
use Rattle.bk_raw.specs.Errors.Blame.{blame, earlier}
use Rattle.bk_elab_terms.specs.Shown.{told}
use Rattle.bk_elab_terms.specs.Visible.{typing_of}
use Rattle.bk_statics.specs.Executable.{Executing, output_scalars}
use Rattle.bk_check_b0.proofs.executable.output_scalars.Given as goal

abbrev pub invariant-loop-index : goal.invariant-loop-index
invariant-loop-index l = (x : Executing) → x.typing ≡ typing_of l.typing.types.now → earlier (told l.fault) (blame (output_scalars x (l.first + l.index) (drop l.index l.outputs))) ≡ blame (output_scalars x l.first l.outputs)
