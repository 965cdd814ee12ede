use Rattle.std.proofs.Common.{◌≡◌, drop}
use Rattle.bk_raw.specs.Errors.Blame.{blame, earlier}
use Rattle.bk_elab_terms.specs.Shown.{told}
use Rattle.bk_elab_terms.specs.Visible.{typing_of, visible_names}
use Rattle.bk_statics.specs.Executable.{Executing, input_scalars}
use Rattle.bk_check_b0.proofs.executable.input_scalars.Given as goal

abbrev pub invariant-loop-index : goal.invariant-loop-index
invariant-loop-index l = (x : Executing) → x.typing ≡ typing_of l.typing.types.now → earlier (told l.fault) (blame (input_scalars x (visible_names (drop l.index l.names)) (drop l.index l.inputs))) ≡ blame (input_scalars x (visible_names l.names) l.inputs)
