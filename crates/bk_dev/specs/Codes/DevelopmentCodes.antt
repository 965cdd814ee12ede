-- Each part of a development as pairs and lists, by which a proof tells developments apart.
use Rattle.std.specs.Prelude.{ℕ, zero, suc, ℤ, List, refl}
use Rattle.std.specs.Coded.{Coded, code_by, coded×, coded_ℕ, coded_ℤ, coded_list}
use Rattle.bk_form.specs.Table.{Table, SetEntry}
use Rattle.bk_form.specs.Codes.TableCodes.{coded_set, coded_table}
use Rattle.bk_form.specs.Formula.{Formula}
use Rattle.bk_form.specs.Codes.FormulaCodes.{coded_formula}
use Rattle.bk_gsl.specs.Substitution.{Substitution}
use Rattle.bk_gsl.specs.Codes.SubCodes.{coded_substitution}
use Rattle.bk_dev.specs.declared.kind.Kind.{Kind}
use Rattle.bk_dev.specs.declared.kind.Kind.TheVariants.{Machine, Refinement, Implementation}
use Rattle.bk_dev.specs.declared.kind.Home.{Home}
use Rattle.bk_dev.specs.declared.kind.Home.TheVariants.{Constant, Input, Abstract, Concrete, Inner}
use Rattle.bk_dev.specs.Development.{Head, Body, Level, Development}

-- a machine is 0, a refinement 1, an implementation 2
abbrev pub kind_number : Kind → ℕ
kind_number Machine = 0
kind_number Refinement = 1
kind_number Implementation = 2

-- the kind that has this number
abbrev pub kind_of : ℕ → Kind
kind_of zero = Machine
kind_of (suc zero) = Refinement
kind_of _ = Implementation

-- a kind of component is told by its number
abbrev pub coded_kind : Coded Kind
coded_kind = code_by ℕ coded_ℕ kind_number kind_of (elim [ Machine ↦ refl | Refinement ↦ refl | Implementation ↦ refl ])

-- which kind of home it is, and its level, or 0 where it has none
abbrev pub home_numbers : Home → ℕ × ℕ
home_numbers Constant = (0, 0)
home_numbers Input = (1, 0)
home_numbers (Abstract k) = (2, k)
home_numbers (Concrete k) = (3, k)
home_numbers (Inner k) = (4, k)

-- the home that has these numbers
abbrev pub home_of_numbers : ℕ × ℕ → Home
home_of_numbers (zero, k) = Constant
home_of_numbers (suc zero, k) = Input
home_of_numbers (suc (suc zero), k) = Abstract k
home_of_numbers (suc (suc (suc zero)), k) = Concrete k
home_of_numbers (suc (suc (suc (suc n))), k) = Inner k

-- a home is told by its numbers
abbrev pub coded_home : Coded Home
coded_home =
    code_by (ℕ × ℕ) (coded× coded_ℕ coded_ℕ) home_numbers home_of_numbers
    (elim [ Constant ↦ refl | Input ↦ refl | Abstract k ↦ refl | Concrete k ↦ refl | Inner k ↦ refl ])

-- a header is told by its name, its inputs and how many outputs it has
abbrev pub coded_head : Coded Head
coded_head =
    code_by (List ℕ × (List ℕ × ℕ)) (coded× (coded_list coded_ℕ) (coded× (coded_list coded_ℕ) coded_ℕ))
    (λ h. (h.name, (h.inputs, h.outputs))) (λ p. record { name = p.0; inputs = p.1.0; outputs = p.1.1 }) (λ _. refl)

-- an operation at one level is told by its precondition, the rest and its outputs
abbrev pub coded_body : Coded Body
coded_body =
    code_by (Formula × (Substitution × List ℕ)) (coded× coded_formula (coded× coded_substitution (coded_list coded_ℕ)))
    (λ b. (b.condition, (b.sub, b.outputs))) (λ p. record { condition = p.0; sub = p.1.0; outputs = p.1.1 }) (λ _. refl)

-- a level's name, kind, variables and links, and what it states and does
abbrev pub coded_level : Coded Level
coded_level =
    code_by
    ((List ℕ × (Kind × (List ℕ × List (ℕ × ℕ)))) × (Formula × (Formula × (List Formula × (Substitution × List Body)))))
    (coded×
    (coded× (coded_list coded_ℕ) (coded× coded_kind (coded× (coded_list coded_ℕ) (coded_list (coded× coded_ℕ coded_ℕ)))))
    (coded× coded_formula (coded× coded_formula (coded× (coded_list coded_formula) (coded× coded_substitution (coded_list coded_body))))))
    (λ l. ((l.name, (l.kind, (l.vars, l.links))), (l.properties, (l.invariant, (l.assertions, (l.init, l.bodies))))))
    (λ p. record {
      name = p.0.0;
      kind = p.0.1.0;
      vars = p.0.1.1.0;
      links = p.0.1.1.1;
      properties = p.1.0;
      invariant = p.1.1.0;
      assertions = p.1.1.1.0;
      init = p.1.1.1.1.0;
      bodies = p.1.1.1.1.1;
    })
    (λ _. refl)

-- a development is told by its MAXINT, table, homes, sets, headers, levels, the constants' values and the levels' extents
abbrev pub coded_development : Coded Development
coded_development =
    code_by (ℤ × (Table × (List Home × (List SetEntry × (List Head × (List Level × (List (ℕ × Formula) × List (ℕ × ℕ))))))))
    (coded× coded_ℤ (coded× coded_table (coded× (coded_list coded_home) (coded× (coded_list coded_set) (coded× (coded_list coded_head)
    (coded× (coded_list coded_level) (coded× (coded_list (coded× coded_ℕ coded_formula)) (coded_list (coded× coded_ℕ coded_ℕ)))))))))
    (λ d. (d.max, (d.table, (d.homes, (d.sets, (d.heads, (d.levels, (d.values, d.extents))))))))
    (λ p. record {
      max = p.0;
      table = p.1.0;
      homes = p.1.1.0;
      sets = p.1.1.1.0;
      heads = p.1.1.1.1.0;
      levels = p.1.1.1.1.1.0;
      values = p.1.1.1.1.1.1.0;
      extents = p.1.1.1.1.1.1.1;
    })
    (λ _. refl)
