-- The names in scope of a term, and what they stand for. That an inner name hides an outer one is the B-Book's; numbers of bound
-- variables, which count outward, are this project's own.
use Rattle.std.specs.Prelude.{◌≡◌, ℕ, zero, suc, ◌-◌, true, cond, ◌&&◌, nat_lt, nat_le}
use Rattle.std.specs.Prelude.{List, [], ◌∷◌, ◌++◌, Option, None, Some, codes, decimal}
use Rattle.std.specs.Str.{bytes_eq}
use Rattle.bk_val.specs.ValueType.{ValueType, enum_type, set_type}
use Rattle.bk_form.specs.Table.{Table, variable_type, lists_type, listed_size}
use Rattle.bk_form.specs.Formula.{Formula, variable, bound, element, named}
use Rattle.bk_form.specs.declared.operator.Domain.TheVariants.{Enum}

-- what a name stands for
pub data Meaning : Type 0 where
  -- a variable that a quantifier, a comprehension or a lambda binds, with its type where it has one (names of VAR, ANY and LET have
  -- variables of their own, and are `global`)
  local : Option ValueType → Meaning
  -- the variable of this number, with its type where it has one
  global : ℕ → Option ValueType → Meaning
  -- an enumerated set
  set_name : ℕ → Meaning
  -- an element of an enumerated set: the set's number and the element's
  element_name : ℕ → ℕ → Meaning
  -- nothing: the name is not visible, and hides those with its text that stand further out
  nothing : Meaning

-- a name as it is written, and what it stands for
pub record Named : Type 0 where
  pub text : List ℕ
  pub meaning : Meaning

-- the innermost name first, so that an inner name hides an outer one. A local's bound number is the number of locals before it
abbrev pub Names : Type 0
Names = List Named

-- a name at a level is written with a dollar sign and the level's number after it
abbrev pub level_name : List ℕ → ℕ → List ℕ
level_name name level = name ++ (codes "$" ++ decimal level)

-- what is found of a name
pub data Sight : Type 0 where
  -- it is not in scope
  unseen : Sight
  -- it is in scope and has no type
  untyped_name : Sight
  -- its formula and type
  seen : Formula → ValueType → Sight

-- what is found of a name with this meaning, before which i locals stand: so the i-th bound number is the local's
abbrev pub sight : ℕ → Meaning → Sight
sight i (local None) = untyped_name
sight i (local (Some t)) = seen (bound i) t
sight i (global n None) = untyped_name
sight i (global n (Some t)) = seen (variable n) t
sight i (set_name s) = seen (named (Enum s)) (set_type (enum_type s))
sight i (element_name s e) = seen (element s e) (enum_type s)
sight i nothing = unseen

-- how many locals stand before the names after this one
abbrev pub behind : ℕ → Meaning → ℕ
behind i (local t) = suc i
behind i _ = i

-- what is found of a name, i locals standing before the names: the first with the text is meant
abbrev pub found : ℕ → Names → List ℕ → Sight
found i [] text = unseen
found i (n ∷ ns) text = cond (bytes_eq n.text text) (sight i n.meaning) (found (behind i n.meaning) ns text)

-- a meaning agrees with the table and with the types of bound variables that are left, the innermost first: a bound variable takes
-- one of them; and `rest` holds of those that are left then
abbrev pub MeaningAgrees : Table → List ValueType → Meaning → (List ValueType → Type 0) → Type 0
MeaningAgrees table [] (local x) rest = ⊥
MeaningAgrees table (t ∷ ts) (local None) rest = rest ts
MeaningAgrees table (t ∷ ts) (local (Some u)) rest = (t ≡ u) × (lists_type table u ≡ true) × rest ts
MeaningAgrees table ts (global n None) rest = rest ts
MeaningAgrees table ts (global n (Some u)) rest = (variable_type table n ≡ Some u) × (lists_type table u ≡ true) × rest ts
MeaningAgrees table ts (set_name s) rest = (lists_type table (enum_type s) ≡ true) × rest ts
MeaningAgrees table ts (element_name s e) rest = (nat_lt e (listed_size table s) ≡ true) × (lists_type table (enum_type s) ≡ true) × rest ts
MeaningAgrees table ts nothing rest = rest ts

-- the names are those of the table, and of bound variables of these types, the innermost first: those that have a type have the
-- one that they have there, and all these types are listed
abbrev pub Agree : Table → List ValueType → Names → Type 0
Agree table ts [] = Unit {0}
Agree table ts (n ∷ ns) = MeaningAgrees table ts n.meaning (λ us. Agree table us ns)

-- ---- bound names, counted from the outside
-- how many of the names are locals
abbrev pub count_locals : Names → ℕ
count_locals [] = zero
count_locals (n ∷ ns) = behind (count_locals ns) n.meaning

-- the type of a local's bound number: this one's where the number is 0, else that of the rest
abbrev pub pick : Meaning → ℕ → (ℕ → Option (Option ValueType)) → Option (Option ValueType)
pick (local t) zero rest = Some t
pick (local t) (suc i) rest = rest i
pick _ i rest = rest i

-- the type that the local with this bound number has, if there is such a local; locals without a type have none
abbrev pub local_at : Names → ℕ → Option (Option ValueType)
local_at [] i = None
local_at (n ∷ ns) i = pick n.meaning i (local_at ns)

-- what is found of a local by its bound number
abbrev pub local_sight : ℕ → Option (Option ValueType) → Sight
local_sight i None = unseen
local_sight i (Some None) = untyped_name
local_sight i (Some (Some t)) = seen (bound i) t

-- what $k stands for: the k-th local from the outside, of so many
abbrev pub bound_sight : ℕ → Names → ℕ → Sight
bound_sight count names k = cond (nat_le 1 k && nat_le k count) (local_sight (count - k) (local_at names (count - k))) unseen
