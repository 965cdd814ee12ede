-- Names with numbers, and what a name stands for where it is written to. A scope gives each name its number; what type the number has is
-- asked of a typing.
-- Source: B Language Reference Manual, visibility.
use Rattle.std.specs.Prelude.{ℕ, suc, Bool, true, false, cond, List, [], ◌∷◌, map, Option, None, Some}
use Rattle.std.specs.Str.{bytes_eq}
use Rattle.bk_raw.specs.declared.term.RawName.{RawName}
use Rattle.bk_raw.specs.Meaning.Names.{Names, Meaning, nothing}
use Rattle.bk_statics.specs.Typings.{as_variable, Target, target}

-- whether it is there
abbrev pub is_there : {A : Type 0} → Option A → Bool
is_there None = false
is_there (Some x) = true

-- the place, unless the test holds
abbrev pub unless : Bool → ℕ → List ℕ
unless true at = []
unless false at = at ∷ []

-- ---- names with numbers
-- a declared name with its number
pub record Local : Type 0 where
  pub name : RawName
  pub number : ℕ

-- the names with the numbers from n on
abbrev pub with_numbers : ℕ → List RawName → List Local
with_numbers n [] = []
with_numbers n (x ∷ xs) = record { name = x; number = n } ∷ with_numbers (suc n) xs

-- their numbers
abbrev pub numbers : List Local → List ℕ
numbers xs = map (λ x. x.number) xs

-- these names in scope
abbrev pub in_scope : List Local → Names
in_scope xs = map (λ x. as_variable x.name.text x.number) xs

-- ---- what a name stands for
-- what a name means in a scope: the first with its text is meant
abbrev pub meaning_of : Names → List ℕ → Meaning
meaning_of [] text = nothing
meaning_of (n ∷ ns) text = cond (bytes_eq n.text text) n.meaning (meaning_of ns text)

-- a name that is written to, and what it stands for
pub record Written : Type 0 where
  pub name : RawName
  pub target : Target

-- the name where it is written
abbrev pub written : Names → RawName → Written
written names x = record { name = x; target = target names x.text }
