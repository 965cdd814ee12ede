-- The parts of rules as the program holds them.
use Rattle.bk_print.specs.declared.parts.Part.{Part as HeldPart}
use Rattle.bk_print.specs.declared.parts.Part.TheVariants.{Number, Term, Terms, Place, NoPlace, Names, Law, Certificate}
use Rattle.bk_print.specs.declared.parts.Parts.{Parts as HeldParts}
use Rattle.bk_print.specs.declared.parts.Parts.TheVariants.{None as Nothing, One, Two}
use Rattle.bk_print.specs.Written.{Part, a_number, a_term, some_terms, a_place, no_place, some_names, a_law, a_certificate}
use Rattle.bk_print.specs.Written.{Parts, none, one, two}

-- the part that it holds
abbrev pub part_in : HeldPart → Part
part_in (Number n) = a_number n
part_in (Term f) = a_term f.now
part_in (Terms fs) = some_terms fs.now
part_in (Place p) = a_place p.now
part_in NoPlace = no_place
part_in (Names ns) = some_names ns.now
part_in (Law law fs) = a_law law fs.now
part_in (Certificate facts lines) = a_certificate facts.now lines.now

-- the parts that it holds
abbrev pub parts_in : HeldParts → Parts
parts_in Nothing = none
parts_in (One p) = one (part_in p)
parts_in (Two p q) = two (part_in p) (part_in q)
