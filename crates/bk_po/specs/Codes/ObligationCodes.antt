-- An obligation as pairs and lists, by which a proof tells obligations apart.
use Rattle.std.specs.Prelude.{ℕ, List, refl}
use Rattle.std.specs.Coded.{Coded, code_by, coded×, coded_ℕ, coded_list}
use Rattle.bk_form.specs.Formula.{Formula}
use Rattle.bk_form.specs.Codes.FormulaCodes.{coded_formula}
use Rattle.bk_po.specs.Obligations.{Obligation}

-- an obligation is told by its name, its hypotheses and its goal
abbrev pub coded_obligation : Coded Obligation
coded_obligation =
    code_by (List ℕ × (List Formula × Formula)) (coded× (coded_list coded_ℕ) (coded× (coded_list coded_formula) coded_formula))
    (λ o. (o.name, (o.hypotheses, o.goal))) (λ p. record { name = p.0; hypotheses = p.1.0; goal = p.1.1 }) (λ _. refl)
