-- One hypothesis more.
use Rattle.std.proofs.Common.{◌≡◌, ℕ, zero, suc, ◌+◌, ◌<◌, List, [], ◌∷◌, ◌++◌, length, take, get_or, refl, ap, sym, ◌∙◌, arith, append_assoc, append-nil}
use Rattle.std.specs.Prelude.{codes, decimal}
use Rattle.bk_form.specs.Formula.{Formula}
use Rattle.bk_form.specs.Table.{Table}
use Rattle.bk_show.specs.Shown.{shown}
use Rattle.bk_report.specs.Obligations.{hypothesis_line, hypothesis_lines}

lines-next : (table : Table) (number : ℕ) (hyps : List Formula) (i : ℕ) (other : Formula) → i < length hyps
    → hypothesis_lines table number (take (i + 1) hyps) ≡ hypothesis_lines table number (take i hyps) ++ hypothesis_line table (number + i) (get_or hyps i other)
lines-next table number [] i other h = absurd (omega arith)
lines-next table number (f ∷ fs) zero other h =
    let same : number ≡ number + 0 = omega arith in
    append-nil (hypothesis_line table number f) ∙ ap (λ n. hypothesis_line table n f) same
lines-next table number (f ∷ fs) (suc i) other h =
    let e : suc i + 1 ≡ suc (i + 1) = omega arith in
    let same : number + 1 + i ≡ number + suc i = omega arith in
    let line = hypothesis_line table number f in
    ap (λ n. hypothesis_lines table number (take n (f ∷ fs))) e
    ∙ ap (λ w. line ++ w) (lines-next table (number + 1) fs i other (omega (arith, h)) ∙ ap (λ n. hypothesis_lines table (number + 1) (take i fs) ++ hypothesis_line table n (get_or fs i other)) same)
    ∙ sym (append_assoc line (hypothesis_lines table (number + 1) (take i fs)) (hypothesis_line table (number + suc i) (get_or fs i other)))

pub lines-written : (table : Table) (hyps : List Formula) (i : ℕ) (other : Formula) → i < length hyps
    → hypothesis_lines table 1 (take (i + 1) hyps) ≡ (((hypothesis_lines table 1 (take i hyps) ++ decimal (i + 1)) ++ codes ": ") ++ shown table (get_or hyps i other)) ++ codes "\n"
lines-written table hyps i other h =
    let same : 1 + i ≡ i + 1 = omega arith in
    let before = hypothesis_lines table 1 (take i hyps) in
    let number = decimal (i + 1) in
    let text = shown table (get_or hyps i other) in
    lines-next table 1 hyps i other h
    ∙ ap (λ n. before ++ hypothesis_line table n (get_or hyps i other)) same
    ∙ sym (append_assoc before ((number ++ codes ": ") ++ text) (codes "\n"))
    ∙ ap (λ z. z ++ codes "\n") (sym (append_assoc before (number ++ codes ": ") text) ∙ ap (λ z. z ++ text) (sym (append_assoc before number (codes ": "))))

pub ruleset lines = (lines-written, append_assoc)
