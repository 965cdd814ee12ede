-- Kinds of obligations by their names, COMPONENT.CLAUSE.number. What asks that something is defined has .wd or .chk after the clause.
use Rattle.std.specs.Prelude.{ℕ, nat_eq, cond, List, [], ◌∷◌, count_by, codes}
use Rattle.std.specs.List.{starts_with}
use Rattle.bk_origins.specs.declared.concern.Concern.{Concern}
use Rattle.bk_origins.specs.declared.concern.Concern.TheVariants.{Initialisation, Operation, Assertion, Values, Definedness, Other}

-- how many dots a name has
abbrev pub dots : List ℕ → ℕ
dots name = count_by (λ c. nat_eq c 46) name

-- what stands after the first one
abbrev pub behind_dot : List ℕ → List ℕ
behind_dot [] = []
behind_dot (c ∷ cs) = cond (nat_eq c 46) cs (behind_dot cs)

-- the kind of what is named by a clause, CLAUSE.number: of every other clause than these it is an operation
abbrev pub concern_by : List ℕ → Concern
concern_by clause =
    cond (starts_with nat_eq clause (codes "INITIALISATION.")) Initialisation
    (cond (starts_with nat_eq clause (codes "ASSERTIONS.")) Assertion
    (cond (starts_with nat_eq clause (codes "VALUES.")) Values Operation))

-- the kind of the obligation with this name
abbrev pub concern_of : List ℕ → Concern
concern_of name = cond (nat_eq (dots name) 2) (concern_by (behind_dot name)) (cond (nat_eq (dots name) 3) Definedness Other)
