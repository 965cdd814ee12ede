-- How large the obligations of a development may be, and which of them is at fault.
use Rattle.std.specs.Prelude.{◌≡◌, ◌<◌, ◌≤◌, ◌⊎◌, ℕ, ◌+◌, max, nat_lt, Bool, ◌||◌, cond, List, [], ◌∷◌, length, Option, Some, None}
use Rattle.bk_limits.specs.declared.TheConstants.{MOST_NODES, MOST_OBLIGATIONS, GREATEST_HEIGHT, MOST_NODES_TOGETHER}
use Rattle.bk_form.specs.Formula.{formula_size, formula_height, formulas_size, formulas_height, formulas_of}
use Rattle.bk_po.specs.Obligations.{Obligation, numbered_sequents}
use Rattle.bk_wp.specs.declared.error.WpFault.{WpFault}
use Rattle.bk_wp.specs.declared.error.WpFault.TheVariants.{TooLarge as IsTooLarge, Memory as NoRoom}
use Rattle.bk_po.specs.declared.error.PoFault.{PoFault}
use Rattle.bk_po.specs.declared.error.PoFault.TheVariants.{TooLarge, TooMany, Memory}

-- the nodes of its hypotheses and of its goal, before that is taken apart; nothing is counted for joining them
abbrev pub nodes_of : Obligation → ℕ
nodes_of o = formulas_size (formulas_of o.hypotheses) + formula_size o.goal

-- the greatest height among its formulas
abbrev pub height_of : Obligation → ℕ
height_of o = max (formulas_height (formulas_of o.hypotheses)) (formula_height o.goal)

-- more than MOST_NODES nodes, or more than GREATEST_HEIGHT on some way down
abbrev pub is_too_large : Obligation → Bool
is_too_large o = nat_lt MOST_NODES (nodes_of o) || nat_lt GREATEST_HEIGHT (height_of o)

-- the name of the first that is too large
abbrev pub first_too_large : List Obligation → Option (List ℕ)
first_too_large [] = None
first_too_large (o ∷ os) = cond (is_too_large o) (Some o.name) (first_too_large os)

-- the nodes of all obligations together
abbrev pub all_nodes : List Obligation → ℕ
all_nodes [] = 0
all_nodes (o ∷ os) = nodes_of o + all_nodes os

-- none is too large, and they have at most MOST_OBLIGATIONS sequents and at most MOST_NODES_TOGETHER nodes together
pub record PassNoLimit (os : List Obligation) : Type 0 where
  pub sizes : first_too_large os ≡ None
  pub sequents : length (numbered_sequents os) ≤ MOST_OBLIGATIONS
  pub nodes : all_nodes os ≤ MOST_NODES_TOGETHER

-- none is too large, and there are too many sequents (limit 7), or else too many nodes (limit 14)
pub record PassTogether (os : List Obligation) (limit : ℕ) : Type 0 where
  pub sizes : first_too_large os ≡ None
  pub passed : ((limit ≡ 7) × (MOST_OBLIGATIONS < length (numbered_sequents os)))
      ⊎ ((limit ≡ 14) × (length (numbered_sequents os) ≤ MOST_OBLIGATIONS) × (MOST_NODES_TOGETHER < all_nodes os))

-- what a fault says of the obligations
abbrev pub IsFaultOf : List Obligation → PoFault → Type 0
IsFaultOf os (TooLarge name) = first_too_large os ≡ Some name
IsFaultOf os (TooMany limit) = PassTogether os limit
IsFaultOf os Memory = Unit {0}

-- ---- obligations one after another
-- what a fault says of some of the obligations: the first of them that is too large is named
abbrev pub IsFaultAmong : List Obligation → PoFault → Type 0
IsFaultAmong os (TooLarge name) = first_too_large os ≡ Some name
IsFaultAmong os (TooMany limit) = ⊥
IsFaultAmong os Memory = Unit {0}

-- the fault of the obligation with this name, whose goal has that fault
abbrev pub fault_at : List ℕ → WpFault → PoFault
fault_at name IsTooLarge = TooLarge name
fault_at name NoRoom = Memory
