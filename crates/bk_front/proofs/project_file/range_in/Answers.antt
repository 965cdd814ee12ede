use Rattle.std.proofs.Common.{ℕ, List, Option, MatchOption, Bor, sym, subst}
use Rattle.bk_front.specs.declared.project_file.LineKind.TheVariants.{Range}
use Rattle.bk_front.specs.ProjectFile.{IsLine, word_of, IsRangeText}
use Rattle.bk_front.proofs.ProjectFiles.{no_range_line, no_range_text}
use Rattle.bk_front.proofs.project_file.range_in.Goals as goal

pub returns-in_err-digits : goal.returns-in_err-digits
returns-in_err-digits c =
    let line : List ℕ = c.args.line.now in
    subst (λ (o : Option (Bor (List ℕ))). MatchOption o ((name : List ℕ) → IsLine (word_of Range) name line → IsRangeText name → ⊥) (λ name. IsLine (word_of Range) name.now line × IsRangeText name.now)) (sym c.from_residual.ensures)
    (no_range_line line c.in_err-digits.ensures)

pub returns-in-None : goal.returns-in-None
returns-in-None c name = no_range_text c.args.line.now c.in_ok-digits.digits.now c.in_ok-digits.ensures c.in-None.ensures name
