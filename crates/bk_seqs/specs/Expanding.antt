-- The operands of the words and signs of sequences (what each stands for: bk_form, Expansion).
use Rattle.std.specs.Prelude.{Option, Some, None}
use Rattle.bk_form.specs.Formula.{Formula}
use Rattle.bk_form.specs.Expansion.{expanded}
use Rattle.bk_form.specs.declared.operator.SeqSign.{SeqSign}

-- the second operand where there is one; else the first stands for it, and does not matter
abbrev pub second_operand : Formula → Option Formula → Formula
second_operand first None = first
second_operand first (Some second) = second

-- the word or sign with one operand or two
abbrev pub expansion_of : SeqSign → Formula → Option Formula → Formula
expansion_of sign first second = expanded sign first (second_operand first second)
