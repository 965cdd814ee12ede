-- Obligations in whose scope the goal reads back: so do rules for it, and the new variables that they bring.
use Rattle.std.specs.Prelude.{◌≡◌, ◌⊎◌, ◌≤◌, ◌^◌, ℕ, ℤ, FitsSigned, List, [], ◌∷◌, ◌++◌, length, All}
use Rattle.std.specs.Int.{w128}
use Rattle.bk_form.specs.Each.{Each}
use Rattle.bk_form.specs.Table.{Table}
use Rattle.bk_lin.specs.declared.fact.Line.{Line}
use Rattle.bk_lin.specs.declared.fact.Line.TheVariants.{Sum, Div}
use Rattle.bk_seq.specs.Sequents.{Sequent}
use Rattle.bk_kernel.specs.declared.rule.Place.{Place}
use Rattle.bk_kernel.specs.declared.rule.Place.TheVariants.{Goal, Hyp as InHyp}
use Rattle.bk_kernel.specs.declared.rule.Rule.{Rule}
use Rattle.bk_raw.specs.declared.script.NamePart.{NamePart}
use Rattle.bk_raw.specs.Meaning.Names.{Names}
use Rattle.bk_raw.specs.Meaning.ScopeReading.{names_in}
use Rattle.bk_dev.specs.Development.{Development, int_max}
use Rattle.bk_p_proof.specs.Files.{IsFaultOf}
use Rattle.bk_p_proof.specs.declared.fault.ScriptFault.TheVariants.{Limit}
use Rattle.bk_status.specs.States.{name_text}
use Rattle.bk_show.specs.Binders.{Binds}
use Rattle.bk_show.specs.Readable.{IsReadable}
use Rattle.bk_show.specs.Stands.{Stands}
use Rattle.bk_print.specs.Written.{Part, a_number, a_place, a_certificate, Parts, none, one, two, parts_of}
use Rattle.bk_print.specs.Readable.{HasSome, IsNumber, NamePartReads, outside, parameters}

-- ---- numbers of rules
-- a multiplier of 128 bits, and a fact's number of 32
abbrev pub MultipleFits : ℤ × ℕ → Type 0
MultipleFits m = FitsSigned w128 m.0 × IsNumber m.1

-- those of a line of a certificate
abbrev pub LineFits : Line → Type 0
LineFits (Sum ms) = All MultipleFits ms.items
LineFits (Div fact by) = MultipleFits (by, fact)

-- the numbers of a place have 32 bits
abbrev pub PlaceFits : Place → Type 0
PlaceFits (Goal path) = All IsNumber path.items
PlaceFits (InHyp i path) = IsNumber i × All IsNumber path.items

-- the numbers of hypotheses, children and facts have 32 bits, the multipliers 128
abbrev pub PartFits : Part → Type 0
PartFits (a_number n) = IsNumber n
PartFits (a_place place) = PlaceFits place
PartFits (a_certificate ks ls) = All IsNumber ks × All LineFits ls
PartFits _ = Unit {0}

abbrev pub PartsFit : Parts → Type 0
PartsFit none = Unit {0}
PartsFit (one p) = PartFits p
PartsFit (two p q) = PartFits p × PartFits q

abbrev pub RuleFits : Rule → Type 0
RuleFits r = PartsFit (parts_of r)

-- ---- scopes
-- the names in scope of a script with this name, without any that it brings
abbrev pub own_names : Development → List NamePart → Names
own_names dev name = names_in dev.table (record { max = int_max dev; names = outside dev name ++ parameters dev name })

-- an obligation with a name that can be written: each binder in its goal binds something, the names and numbers there can be written, and
-- each text names in the obligation's scope what it stands for
pub record IsReadInScope (dev : Development) (o : List ℕ × Sequent) : Type 0 where
  pub name : List NamePart
  pub named : o.0 ≡ name_text name
  pub some_part : HasSome name
  pub parts : Each NamePartReads name
  pub binds : Binds o.1.1
  pub readable : IsReadable dev.table 0 o.1.1
  pub stands : Stands dev.table (own_names dev name) o.1.1

-- ---- limits
-- as the only proof file the text passes the limit with this number
abbrev pub PassesLimit : ℕ → List ℕ → Type 0
PassesLimit number text = (file : ℕ) × IsFaultOf (text ∷ []) (Limit number file)

-- that of a file's tokens, or that of a script's rules
abbrev pub IsTooLong : List ℕ → Type 0
IsTooLong text = PassesLimit 2 text ⊎ PassesLimit 8 text

-- that of brackets that are open at one place, or that of the height of terms
abbrev pub IsTooHigh : List ℕ → Type 0
IsTooHigh text = PassesLimit 3 text ⊎ PassesLimit 12 text

-- no number of 32 bits is left for a name that stands for no variable
abbrev pub IsFull : Table → Type 0
IsFull table = 2 ^ 32 ≤ length table.variables
