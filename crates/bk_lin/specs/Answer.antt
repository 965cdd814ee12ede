-- What is wrong with a certificate, as one value.
use Rattle.std.specs.Prelude.{ℕ, ◌+◌, pos, Bool, ◌&&◌, if◌then◌else◌, List, [], ◌∷◌, ◌++◌, length, Option, Some, None, nat_lt, int_lt}
use Rattle.std.specs.List.{list_all}
use Rattle.std.specs.Option.{option_or}
use Rattle.std.specs.Ordering.{int_eq}
use Rattle.bk_lin.specs.declared.fact.Line.{Line}
use Rattle.bk_lin.specs.declared.fact.CertFault.{CertFault}
use Rattle.bk_lin.specs.declared.fact.CertFault.TheVariants.{NotClosed}
use Rattle.bk_lin.specs.Inequality.{Inequality}
use Rattle.bk_lin.specs.Certificate.{fact_at, line_fact, line_fault, facts_after}

-- the fault of the first line that has one, where the first line has this number, and these facts stand before it
abbrev pub first_fault : ℕ → ℕ → List Inequality → List Line → Option CertFault
first_fault width number standing [] = None
first_fault width number standing (line ∷ lines) =
    option_or (line_fault width number standing line)
    (first_fault width (number + 1) (standing ++ line_fact width standing line ∷ []) lines)

-- whether it has no coefficient but 0, and a negative constant
abbrev pub is_contradiction : Inequality → Bool
is_contradiction p = list_all (λ c. int_eq c (pos 0)) p.coefs && int_lt p.constant (pos 0)

-- whether there is a line, and the fact of the last one is a contradiction
abbrev pub is_closed : ℕ → List Inequality → List Line → Bool
is_closed width facts cert =
    nat_lt 0 (length cert) && is_contradiction (fact_at (facts_after width facts cert) (length facts + length cert))

-- what is wrong with the certificate over facts with so many coefficients, if anything is: the first line that has a
-- fault, else that its last fact is no contradiction
abbrev pub certificate_fault : ℕ → List Inequality → List Line → Option CertFault
certificate_fault width facts cert =
    option_or (first_fault width 1 facts cert) (if is_closed width facts cert then None else Some NotClosed)
