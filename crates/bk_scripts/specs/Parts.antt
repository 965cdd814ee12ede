-- What parts of written rules mean, over a table and in a scope.
use Rattle.std.specs.Prelude.{◌≡◌, ◌<◌, ◌^◌, ℕ, ℤ, pos, List, [], ◌∷◌, Option, Some, None}
use Rattle.std.specs.List.{AllZip}
use Rattle.std.specs.Global.{Vec}
use Rattle.bk_val.specs.ValueType.{ValueType}
use Rattle.bk_form.specs.Formula.{Formula, variable}
use Rattle.bk_form.specs.Table.{Table}
use Rattle.bk_raw.specs.Trees.RawTree.{RawTree}
use Rattle.bk_raw.specs.declared.script.RawMultiple.{RawMultiple}
use Rattle.bk_raw.specs.declared.script.RawTyped.{RawTyped}
use Rattle.bk_raw.specs.Trees.ScriptTree.{RawPlace, in_goal, in_hypothesis, RawLine, multiples, quotient, RulePart, part_number}
use Rattle.bk_raw.specs.Trees.ScriptTree.{part_term, part_terms, part_place, part_no_place, part_typed, part_law, part_certificate}
use Rattle.bk_raw.specs.Meaning.Names.{found, seen}
use Rattle.bk_raw.specs.Meaning.Printed.{type_read}
use Rattle.bk_raw.specs.Meaning.ScopeReading.{ScopeNames, names_in, formula_in}
use Rattle.bk_lin.specs.declared.fact.Line.{Line}
use Rattle.bk_lin.specs.declared.fact.Line.TheVariants.{Sum, Div}
use Rattle.bk_kernel.specs.declared.rule.Place.{Place}
use Rattle.bk_kernel.specs.declared.rule.Place.TheVariants.{Goal, Hyp as InHyp}
use Rattle.bk_scripts.specs.LawNames.{law_number}

-- what terms are read in
pub record Around : Type 0 where
  pub table : Table
  pub scope : ScopeNames

-- ---- single things
-- hypotheses, children and facts have numbers of 32 bits: a greater one is the number of nothing
abbrev pub NumberMeans : ℕ → ℕ → Type 0
NumberMeans written n = (n ≡ written) × (written < 2 ^ 32)

-- each written number means the number beside it
abbrev pub NumbersMean : List ℕ → Vec ℕ → Type 0
NumbersMean written ns = AllZip NumberMeans written ns.items

-- the term reads as the formula
abbrev pub TermMeans : Around → RawTree → Formula → Type 0
TermMeans around tree f = (formula_in around.table around.scope tree).answer ≡ Some f

-- each written term means the formula beside it
abbrev pub TermsMean : Around → List RawTree → Vec Formula → Type 0
TermsMean around trees fs = AllZip (TermMeans around) trees fs.items

-- the name is that of the variable, and the type that is written is the variable's
pub record NameMeans (around : Around) (x : RawTyped) (n : ℕ) : Type 0 where
  pub of_type : ValueType
  pub meant : found 0 (names_in around.table around.scope) x.name.text ≡ seen (variable n) of_type
  pub typed : type_read (names_in around.table around.scope) x.ty ≡ Some of_type

-- each written name means the variable beside it
abbrev pub NamesMean : Around → List RawTyped → Vec ℕ → Type 0
NamesMean around xs ns = AllZip (NameMeans around) xs ns.items

-- the same place: in the goal, or in the same hypothesis, and the same way down
abbrev pub PlaceMeans : RawPlace → Place → Type 0
PlaceMeans (in_goal path) (Goal children) = NumbersMean path children
PlaceMeans (in_hypothesis i path) (InHyp j children) = NumberMeans i j × NumbersMean path children
PlaceMeans _ _ = ⊥

-- the same multiple of a fact
abbrev pub MultipleMeans : RawMultiple → ℤ × ℕ → Type 0
MultipleMeans written m = (m.0 ≡ written.multiplier) × NumberMeans written.fact m.1

-- the same line of a certificate; divisors are numbers of the notation
abbrev pub LineMeans : RawLine → Line → Type 0
LineMeans (multiples ms) (Sum multiplied) = AllZip MultipleMeans ms multiplied.items
LineMeans (quotient k g) (Div fact by) = NumberMeans k fact × (by ≡ pos g) × (g < 2 ^ 127)
LineMeans _ _ = ⊥

-- ---- parts
-- the part is a number that means this one
abbrev pub NumberPart : RulePart → ℕ → Type 0
NumberPart (part_number i) n = NumberMeans i n
NumberPart _ n = ⊥

-- the part is a term that means this formula
abbrev pub TermPart : Around → RulePart → Formula → Type 0
TermPart around (part_term t) f = TermMeans around t f
TermPart around _ f = ⊥

-- the part is a list of terms that mean these formulas
abbrev pub TermsPart : Around → RulePart → Vec Formula → Type 0
TermsPart around (part_terms ts) fs = TermsMean around ts fs
TermsPart around _ fs = ⊥

-- the part is a list of names that mean these variables
abbrev pub NamesPart : Around → RulePart → Vec ℕ → Type 0
NamesPart around (part_typed xs) ns = NamesMean around xs ns
NamesPart around _ ns = ⊥

-- the part is a place that means this one
abbrev pub PlacePart : RulePart → Place → Type 0
PlacePart (part_place p) place = PlaceMeans p place
PlacePart _ place = ⊥

-- a place, or none
abbrev pub PerhapsPart : RulePart → Option Place → Type 0
PerhapsPart part_no_place None = Unit {0}
PerhapsPart (part_place p) (Some place) = PlaceMeans p place
PerhapsPart _ place = ⊥

-- a law, and the formulas that it takes
abbrev pub LawPart : Around → RulePart → ℕ × Vec Formula → Type 0
LawPart around (part_law name ts) p = (law_number name ≡ Some p.0) × TermsMean around ts p.1
LawPart around _ p = ⊥

-- facts by their numbers, and lines
abbrev pub CertificatePart : RulePart → Vec ℕ × Vec Line → Type 0
CertificatePart (part_certificate ks ls) p = NumbersMean ks p.0 × AllZip LineMeans ls p.1.items
CertificatePart _ p = ⊥

-- ---- the parts of a rule: none, one, or two
-- the rule has no part
abbrev pub NoParts : List RulePart → Type 0
NoParts [] = Unit {0}
NoParts _ = ⊥

-- the rule has one part, which means this
abbrev pub One : {A : Type 0} → (RulePart → A → Type 0) → List RulePart → A → Type 0
One P (p ∷ []) x = P p x
One P _ x = ⊥

-- the rule has two parts, which mean these
abbrev pub Two : {A B : Type 0} → (RulePart → A → Type 0) → (RulePart → B → Type 0) → List RulePart → A × B → Type 0
Two P Q (p ∷ q ∷ []) x = P p x.0 × Q q x.1
Two P Q _ x = ⊥
