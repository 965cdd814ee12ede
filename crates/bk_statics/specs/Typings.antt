-- The types that are told of variables' numbers, and what terms read as with them.
use Rattle.std.specs.Prelude.{ℕ, zero, suc, ℤ, nat_eq, Bool, true, false, cond, List, [], ◌∷◌, Option, None, Some}
use Rattle.std.specs.Str.{bytes_eq}
use Rattle.bk_val.specs.ValueType.{ValueType}
use Rattle.bk_form.specs.Formula.{Formula, btrue}
use Rattle.bk_raw.specs.declared.term.RawName.{RawName}
use Rattle.bk_raw.specs.Trees.RawTree.{RawTree}
use Rattle.bk_raw.specs.Meaning.Names.{Names, Named, Meaning, global, set_name, nothing, level_name}
use Rattle.bk_raw.specs.Meaning.Outcome.{Outcome, Reading, ask, ask_predicate}
use Rattle.bk_raw.specs.Meaning.TermReading.{place_of, part, reading}

-- the type of each number that has one
abbrev pub Typing : Type 0
Typing = ℕ → Option ValueType

-- x, or where it is missing the other
abbrev pub or_else : {A : Type 0} → A → Option A → A
or_else other None = other
or_else other (Some x) = x

-- ---- names
-- the name of the variable n, whose type is told elsewhere
abbrev pub as_variable : List ℕ → ℕ → Named
as_variable x n = record { text = x; meaning = global n None }

-- the names have the numbers from n on
abbrev pub numbered : ℕ → List RawName → Names
numbered n [] = []
numbered n (x ∷ xs) = as_variable x.text n ∷ numbered (suc n) xs

-- x$0 of each name has the numbers from n on
abbrev pub numbered_old : ℕ → List RawName → Names
numbered_old n [] = []
numbered_old n (x ∷ xs) = as_variable (level_name x.text 0) n ∷ numbered_old (suc n) xs

-- k numbers from n on
abbrev pub interval : ℕ → ℕ → List ℕ
interval n zero = []
interval n (suc k) = n ∷ interval (suc n) k

-- what a variable's name means, with the type that is told of its number
abbrev pub with_type : Typing → Meaning → Meaning
with_type typing (global n t) = global n (typing n)
with_type typing m = m

-- the names with the types that are told
abbrev pub typed : Typing → Names → Names
typed typing [] = []
typed typing (n ∷ ns) = record { text = n.text; meaning = with_type typing n.meaning } ∷ typed typing ns

-- ---- what a name stands for, where it is written to
-- the number of a variable
abbrev pub variable_in : Meaning → Option ℕ
variable_in (global n t) = Some n
variable_in _ = None

-- what a name on the left of a substitution is
pub data Target : Type 0 where
  -- it is not visible
  unknown : Target
  -- a set or an element
  no_variable : Target
  -- the variable of this number
  variable_target : ℕ → Target

-- what a meaning is, where its name is written to
abbrev pub target_in : Meaning → Target
target_in (global n t) = variable_target n
target_in nothing = unknown
target_in _ = no_variable

-- what the name is: the first with its text is meant
abbrev pub target : Names → List ℕ → Target
target [] text = unknown
target (n ∷ ns) text = cond (bytes_eq n.text text) (target_in n.meaning) (target ns text)

-- the variable of a target, if it is one
abbrev pub as_number : Target → Option ℕ
as_number (variable_target n) = Some n
as_number _ = None

-- the variable of this name, if it is one's
abbrev pub variable_named : Names → List ℕ → Option ℕ
variable_named names x = as_number (target names x)

-- the set of a meaning, if it is one's name
abbrev pub set_in : Meaning → Option ℕ
set_in (set_name s) = Some s
set_in _ = None

-- the set of this name, if it is one's: the first name with the text is meant
abbrev pub set_named : Names → List ℕ → Option ℕ
set_named [] text = None
set_named (n ∷ ns) text = cond (bytes_eq n.text text) (set_in n.meaning) (set_named ns text)

-- whether it is the variable m
abbrev pub is_variable : ℕ → Target → Bool
is_variable m (variable_target n) = nat_eq n m
is_variable m _ = false

-- its number; that of what is no variable does not matter
abbrev pub number_of : Target → ℕ
number_of (variable_target n) = n
number_of _ = 0

-- the type that is told of a target
abbrev pub type_at : Typing → Target → Option ValueType
type_at typing (variable_target n) = typing n
type_at typing _ = None

-- the type that is told of the variable of this name
abbrev pub type_named : Typing → Names → List ℕ → Option ValueType
type_named typing names x = type_at typing (target names x)

-- ---- terms
-- what a predicate reads as, MAXINT being int_max
abbrev pub predicate_reading : ℤ → Typing → Names → RawTree → Reading
predicate_reading int_max typing names p = part true p (reading int_max (typed typing names) p)

-- what an expression reads as
abbrev pub term_reading : ℤ → Typing → Names → RawTree → Reading
term_reading int_max typing names e = part false e (reading int_max (typed typing names) e)

-- the formula of a predicate; what has none is refused
abbrev pub predicate_read : ℤ → Typing → Names → RawTree → Formula
predicate_read int_max typing names p = or_else btrue (ask_predicate (predicate_reading int_max typing names p).outcome).answer

-- what an expression turns out to be
abbrev pub outcome_of : ℤ → Typing → Names → RawTree → Outcome
outcome_of int_max typing names e = (term_reading int_max typing names e).outcome

-- its formula in a place that asks this type, if it takes the type
abbrev pub term_read : ℤ → Typing → Names → ValueType → RawTree → Option Formula
term_read int_max typing names t e = (ask (place_of e) (outcome_of int_max typing names e) t).answer
