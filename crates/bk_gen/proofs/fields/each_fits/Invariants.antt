use Rattle.std.proofs.Common.{◌-◌, All}
use Rattle.std.specs.Prelude.{◌↔◌}
use Rattle.bk_form.specs.Table.{texts_from}
use Rattle.bk_image.specs.Spelling.{IsCountable}
use Rattle.bk_gen.proofs.fields.each_fits.Given as goal

-- they all fit just where those from this number on do
abbrev pub invariant-loop-number : goal.invariant-loop-number
invariant-loop-number l = All (λ text. IsCountable text) (texts_from l.name l.number (l.count - l.number)) ↔ All (λ text. IsCountable text) (texts_from l.name 0 l.count)
