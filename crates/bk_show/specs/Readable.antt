-- What is asked of names, numbers and bound variables, so that a printed text is cut into its tokens.
use Rattle.std.specs.Prelude.{◌≡◌, ℕ, suc, ◌+◌, ◌<◌, ◌^◌, ◌⊎◌, ℤ, pos, negsuc, List, [], ◌∷◌, length, None}
use Rattle.bk_val.specs.ValueType.{ValueType, enum_type, pair_type, set_type}
use Rattle.bk_form.specs.Table.{Table}
use Rattle.bk_form.specs.Formula.{Formula, variable, bound, literal, element, empty_set, named, unary, binary}
use Rattle.bk_form.specs.Formula.{for_all, for_some, comprehension, lambda, Formulas, no_formulas, formula_and}
use Rattle.bk_form.specs.declared.operator.Domain.{Domain}
use Rattle.bk_form.specs.declared.operator.Domain.TheVariants.{Enum}
use Rattle.bk_lex.specs.Lexis.{IsIdentifier, word_number}
use Rattle.bk_show.specs.Items.{level_text}
use Rattle.bk_show.specs.Shown.{name_of_variable, name_of_set, name_of_element}
use Rattle.bk_form.specs.Replacement.{count}

-- an identifier that is no word of the notation
abbrev pub IsPlainName : List ℕ → Type 0
IsPlainName text = IsIdentifier text × (word_number text ≡ None)

-- an identifier, a dollar sign and a number without a leading zero
abbrev pub IsLevelName : List ℕ → Type 0
IsLevelName text = (name : List ℕ) × (n : ℕ) × (text ≡ level_text name n) × IsIdentifier name × (n < 2 ^ 32)

-- either of them
abbrev pub IsPrintable : List ℕ → Type 0
IsPrintable text = IsPlainName text ⊎ IsLevelName text

-- its absolute value is a number of the notation
abbrev pub IsSmall : ℤ → Type 0
IsSmall (pos n) = n < 2 ^ 127
IsSmall (negsuc n) = suc n < 2 ^ 127

-- the sets in the type have names that are no names at a level, since types are written with names alone
abbrev pub SetsAreNamed : Table → ValueType → Type 0
SetsAreNamed table (enum_type n) = IsPlainName (name_of_set table n)
SetsAreNamed table (pair_type t u) = SetsAreNamed table t × SetsAreNamed table u
SetsAreNamed table (set_type t) = SetsAreNamed table t
SetsAreNamed table _ = Unit {0}

-- so have those in each type
abbrev pub AllSetsAreNamed : Table → List ValueType → Type 0
AllSetsAreNamed table [] = Unit {0}
AllSetsAreNamed table (t ∷ ts) = SetsAreNamed table t × AllSetsAreNamed table ts

-- so has the domain, if it is an enumerated set
abbrev pub DomainIsNamed : Table → Domain → Type 0
DomainIsNamed table (Enum n) = IsPrintable (name_of_set table n)
DomainIsNamed table _ = Unit {0}

abbrev mutual
  -- under d bound variables: its names can be written, its numbers are numbers of the notation, and fewer than 2^32 variables are bound
  -- on any way down
  pub IsReadable : Table → ℕ → Formula → Type 0
  IsReadable table d (variable n) = IsPrintable (name_of_variable table n)
  IsReadable table d (bound i) = d < 2 ^ 32
  IsReadable table d (literal z) = IsSmall z
  IsReadable table d (element s i) = IsPrintable (name_of_element table s i)
  IsReadable table d (empty_set t) = SetsAreNamed table t
  IsReadable table d (named n) = DomainIsNamed table n
  IsReadable table d (unary o a) = IsReadable table d a
  IsReadable table d (binary o a b) = IsReadable table d a × IsReadable table d b
  IsReadable table d (for_all ts p) = AllSetsAreNamed table ts × (d + length ts < 2 ^ 32) × IsReadable table (d + length ts) p
  IsReadable table d (for_some ts p) = AllSetsAreNamed table ts × (d + length ts < 2 ^ 32) × IsReadable table (d + length ts) p
  IsReadable table d (comprehension rs p) = AreReadable table d rs × (d + count rs < 2 ^ 32) × IsReadable table (d + count rs) p
  IsReadable table d (lambda rs p e) = AreReadable table d rs × (d + count rs < 2 ^ 32)
      × IsReadable table (d + count rs) p × IsReadable table (d + count rs) e
  IsReadable table d _ = Unit {0}

  pub AreReadable : Table → ℕ → Formulas → Type 0
  AreReadable table d no_formulas = Unit {0}
  AreReadable table d (formula_and f fs) = IsReadable table d f × AreReadable table d fs
