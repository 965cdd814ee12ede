-- The arrays of an implementation, and the cells that its variables have.
use Rattle.std.specs.Prelude.{ℕ, ◌+◌, nat_eq, ℤ, pos, ◌+ℤ◌, ◌-ℤ◌, Bool, true, false, not, ◌&&◌}
use Rattle.std.specs.Prelude.{◌||◌, cond, int_le, List, [], ◌∷◌, ◌++◌, Option, Some, None}
use Rattle.std.specs.List.{filter_map, filter, list_all}
use Rattle.bk_val.specs.ValueType.{ValueType, pair_type, set_type}
use Rattle.bk_form.specs.Table.{Table, set_size, variable_type}
use Rattle.bk_form.specs.Formula.{Formula, variable, literal, empty_set, unary, binary, named}
use Rattle.bk_form.specs.Replacement.{occurs}
use Rattle.bk_form.specs.ArrayTable.{ArrayTable, row_of}
use Rattle.bk_form.specs.Operators.{count_of}
use Rattle.bk_form.specs.declared.operator.BinOp.TheVariants.{Eq, In, TotalFunctions, Range, Union, Inter, Minus, Over, Maps}
use Rattle.bk_form.specs.declared.operator.UnOp.TheVariants.{Single}
use Rattle.bk_form.specs.declared.operator.Domain.TheVariants.{Bool as Booleans, Enum}
use Rattle.bk_form.specs.declared.arrays.ArrayRow.{ArrayRow}
use Rattle.bk_form.specs.declared.arrays.ArrayDomain.{ArrayDomain}
use Rattle.bk_form.specs.declared.arrays.ArrayDomain.TheVariants.{Interval, Bool as OfBooleans, Set as OfElements}
use Rattle.bk_gsl.specs.State.{among, firsts}
use Rattle.bk_gsl.specs.Substitution.{Substitution, pre, guard, choice, if_else, any, seq, par, assert, loop}
use Rattle.bk_dev.specs.Development.{Head, Body, Level, Development, int_max, level_at, last}
use Rattle.bk_form.specs.Predicates.{conjuncts}

-- ---- which variables are arrays
-- what a conjunct says of the variable: it is in a domain (f : D, and f <: D is f : POW(D)), it equals a term, or nothing
pub data Clue : Type 0 where
  in_domain : Formula → Clue
  equals : Clue
  silent : Clue

-- what a conjunct x : D or x = E says of x; any other says nothing
abbrev pub clue_of : ℕ → Formula → Clue
clue_of x (binary In (variable y) d) = cond (nat_eq x y) (in_domain d) silent
clue_of x (binary Eq (variable y) t) = cond (nat_eq x y) equals silent
clue_of x p = silent

-- the first clue, or where that is silent the second
abbrev pub or_next : Clue → Clue → Clue
or_next silent c = c
or_next c _ = c

-- the variable that a conjunct x : D or x = E speaks of
abbrev pub spoken_of : Formula → List ℕ
spoken_of (binary In (variable y) d) = y ∷ []
spoken_of (binary Eq (variable y) t) = y ∷ []
spoken_of p = []

-- D of x : D, E of x = E
abbrev pub right_side : Formula → Formula
right_side (binary o a b) = b
right_side p = p

-- {} has no type of its own, and sets and pairs that are made of it have none
abbrev pub lacks_type : Formula → Bool
lacks_type (empty_set t) = true
lacks_type (binary Union a b) = lacks_type a && lacks_type b
lacks_type (binary Inter a b) = lacks_type a && lacks_type b
lacks_type (binary Minus a b) = lacks_type a && lacks_type b
lacks_type (binary Over a b) = lacks_type a && lacks_type b
lacks_type (unary Single a) = lacks_type a
lacks_type (binary Maps a b) = lacks_type a || lacks_type b
lacks_type f = false

-- its right side has a type where these variables have none
abbrev pub is_typing : List ℕ → Formula → Bool
is_typing typeless p = list_all (λ n. not (occurs n (right_side p))) typeless && not (lacks_type (right_side p))

-- the first conjunct that gives the variable a type says what it is; each such conjunct gives its variable a type for those after it
abbrev pub first_clue : ℕ → List ℕ → List Formula → Clue
first_clue x typeless [] = silent
first_clue x typeless (p ∷ ps) =
    cond (is_typing typeless p) (or_next (clue_of x p) (first_clue x (filter (λ n. not (among (spoken_of p) n)) typeless) ps))
    (first_clue x typeless ps)

-- the level's variables that have no type from above
abbrev pub untyped : Level → List ℕ
untyped l = filter (λ x. not (among (firsts l.links) x)) l.vars

-- the variable of the level above that it is linked to
abbrev pub linked_to : ℕ → List (ℕ × ℕ) → Option ℕ
linked_to x [] = None
linked_to x (p ∷ ps) = cond (nat_eq x p.0) (Some p.1) (linked_to x ps)

-- its own level's invariant decides, and where that is silent the nearest above under the same name; the last level comes first
abbrev pub typing_clue : Option ℕ → List Level → Clue
typing_clue (Some x) (l ∷ above) = or_next (first_clue x (untyped l) (conjuncts l.invariant)) (typing_clue (linked_to x l.links) above)
typing_clue _ _ = silent

-- the number, where the term is a literal
abbrev pub literal_of : Formula → Option ℤ
literal_of (literal z) = Some z
literal_of _ = None

-- the literal that VALUES gives to the constant, if any
abbrev pub constant_bound : ℕ → List (ℕ × Formula) → Option ℤ
constant_bound c [] = None
constant_bound c (p ∷ ps) = cond (nat_eq c p.0) (literal_of p.1) (constant_bound c ps)

-- a bound of an array's interval: a literal's number or a constant's value, and no other term
abbrev pub bound_of : List (ℕ × Formula) → Formula → Option ℤ
bound_of values (literal z) = Some z
bound_of values (variable c) = constant_bound c values
bound_of values _ = None

-- an interval that is not empty, with both bounds within INT
abbrev pub interval_of : ℤ → Option ℤ → Option ℤ → Option ArrayDomain
interval_of max (Some a) (Some b) = cond (int_le (pos 0 -ℤ max) a && int_le a b && int_le b max) (Some (Interval a b)) None
interval_of max _ _ = None

-- the index set of an array, where the arrow's source is an interval, BOOL or an enumerated set
abbrev pub indices_of : ℤ → List (ℕ × Formula) → Formula → Option ArrayDomain
indices_of max values (binary Range a b) = interval_of max (bound_of values a) (bound_of values b)
indices_of max values (named Booleans) = Some OfBooleans
indices_of max values (named (Enum n)) = Some (OfElements n)
indices_of max values _ = None

-- the type of a number, a truth value or an element: what one cell holds
abbrev pub is_scalar : ValueType → Bool
is_scalar (pair_type t u) = false
is_scalar (set_type t) = false
is_scalar _ = true

-- a function to scalars
abbrev pub has_scalars : Option ValueType → Bool
has_scalars (Some (set_type (pair_type t u))) = is_scalar u
has_scalars _ = false

-- the array x with its index set, if it has one
abbrev pub array_row : ℕ → Option ArrayDomain → Option ArrayRow
array_row x (Some d) = Some (record { var = x; domain = d })
array_row x None = None

-- f : a..b --> D, f : BOOL --> D or f : S --> D, with scalars in D
abbrev pub row_by : Development → ℕ → Clue → Option ArrayRow
row_by dev x (in_domain (binary TotalFunctions d e)) =
    cond (has_scalars (variable_type dev.table x)) (array_row x (indices_of (int_max dev) dev.values d)) None
row_by dev x _ = None

-- the levels from the last to the first, in front of those that are done
abbrev pub reversed : List Level → List Level → List Level
reversed [] done = done
reversed (l ∷ ls) done = reversed ls (l ∷ done)

-- the arrays among the last level's variables, in their order
abbrev pub arrays_of : Development → ArrayTable
arrays_of dev = record {
  max = int_max dev;
  rows = filter_map (λ x. row_by dev x (typing_clue (Some x) (reversed dev.levels []))) (level_at dev (last dev)).vars;
}

-- ---- cells
-- how many indices a domain has
abbrev pub index_count : Table → ArrayDomain → ℕ
index_count table (Interval low high) = count_of ((high +ℤ pos 1) -ℤ low)
index_count table OfBooleans = 2
index_count table (OfElements n) = set_size table n

-- one cell for each index of the row, and one where the variable has no row
abbrev pub row_cells : Table → Option ArrayRow → ℕ
row_cells table None = 1
row_cells table (Some row) = index_count table row.domain

-- an array has one cell for each index, every other variable one
abbrev pub cells_of : Development → ℕ → ℕ
cells_of dev x = row_cells dev.table (row_of (arrays_of dev) x)

-- the local variables of a substitution, in the order of the text
abbrev pub locals : Substitution → List ℕ
locals (pre p s) = locals s
locals (guard p s) = locals s
locals (choice s t) = locals s ++ locals t
locals (if_else p s t) = locals s ++ locals t
locals (any zs s) = zs ++ locals s
locals (seq s t) = locals s ++ locals t
locals (par s t) = locals s ++ locals t
locals (assert p s) = locals s
locals (loop p s i v) = locals s
locals _ = []

-- the variables of the operations in order: of each its inputs, its outputs and then its locals
abbrev pub operation_variables : List Head → List Body → List ℕ
operation_variables (h ∷ hs) (b ∷ bs) = h.inputs ++ b.outputs ++ locals b.sub ++ operation_variables hs bs
operation_variables _ _ = []

-- the variables with cells, in the cells' order: the last level's, the initialisation's locals, and for each operation its inputs, outputs
-- and locals
abbrev pub cell_variables : Development → List ℕ
cell_variables dev = let l = level_at dev (last dev) in l.vars ++ locals l.init ++ operation_variables dev.heads l.bodies

-- the first cell of a variable in such a list
abbrev pub cell_among : Development → ℕ → List ℕ → ℕ
cell_among dev x [] = 0
cell_among dev x (y ∷ ys) = cond (nat_eq x y) 0 (cells_of dev y + cell_among dev x ys)

-- the number of a variable's first cell
abbrev pub cell_of : Development → ℕ → ℕ
cell_of dev x = cell_among dev x (cell_variables dev)

-- how many cells these variables have together
abbrev pub cells_in : Development → List ℕ → ℕ
cells_in dev [] = 0
cells_in dev (x ∷ xs) = cells_of dev x + cells_in dev xs

-- how many cells there are
abbrev pub cell_count : Development → ℕ
cell_count dev = cells_in dev (cell_variables dev)
