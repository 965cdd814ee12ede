use Rattle.std.proofs.Common.{◌≡◌, ◌-◌, ◌++◌}
use Rattle.bk_form.specs.Table.{texts_from}
use Rattle.bk_gen.proofs.names.numbered_texts.Given as goal

abbrev pub invariant-loop-number : goal.invariant-loop-number
invariant-loop-number l = l.texts.items ++ texts_from l.name l.number (l.count - l.number) ≡ texts_from l.name 0 l.count
