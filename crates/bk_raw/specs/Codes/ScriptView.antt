-- The mathematical parts of a rule that its raw parts stand for.
use Rattle.std.specs.Prelude.{map}
use Rattle.bk_raw.specs.Trees.ScriptTree.{RawPlace as WrittenPlace, in_goal, in_hypothesis, RawLine as WrittenLine}
use Rattle.bk_raw.specs.Trees.ScriptTree.{multiples, quotient, RulePart as WrittenPart, part_number, part_term, part_terms}
use Rattle.bk_raw.specs.Trees.ScriptTree.{part_place, part_no_place, part_typed, part_law, part_certificate}
use Rattle.bk_raw.specs.declared.script.RawPlace.{RawPlace}
use Rattle.bk_raw.specs.declared.script.RawPlace.TheVariants.{Goal, Hyp}
use Rattle.bk_raw.specs.declared.script.RawLine.{RawLine}
use Rattle.bk_raw.specs.declared.script.RawLine.TheVariants.{Sum, Quotient}
use Rattle.bk_raw.specs.declared.script.RulePart.{RulePart}
use Rattle.bk_raw.specs.declared.script.RulePart.TheVariants.{Number, Term, Terms, Place, NoPlace, Typed, Law, Certificate}

-- the place in a sequent that this stands for
abbrev pub written_place : RawPlace → WrittenPlace
written_place (Goal path) = in_goal path.items
written_place (Hyp i path) = in_hypothesis i path.items

-- the line of a certificate that this stands for
abbrev pub line_of : RawLine → WrittenLine
line_of (Sum ms) = multiples ms.items
line_of (Quotient k g) = quotient k g

-- the part of a rule that this stands for
abbrev pub part_of : RulePart → WrittenPart
part_of (Number n) = part_number n
part_of (Term t) = part_term t
part_of (Terms ts) = part_terms ts.items
part_of (Place p) = part_place (written_place p)
part_of NoPlace = part_no_place
part_of (Typed xs) = part_typed xs.items
part_of (Law name picks) = part_law name picks.items
part_of (Certificate facts lines) = part_certificate facts.items (map line_of lines.items)
