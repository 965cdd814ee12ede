-- Wrong writes: to something that is no variable of the level, output or local; to a name twice on the left of one assignment; of lists of
-- different length; of both sides of || to one variable.
-- Source: B Language Reference Manual; the places are this project's.
use Rattle.std.specs.Prelude.{ℕ, ◌-◌, nat_lt, Bool, true, false, cond, not, ◌&&◌, List, [], ◌∷◌, ◌++◌, map, length, Option, None, Some}
use Rattle.std.specs.List.{flat_map, filter, slice_get}
use Rattle.bk_gsl.specs.State.{among}
use Rattle.bk_statics.specs.Typings.{Target, as_number, variable_target}
use Rattle.bk_phases.specs.Scope.{Written, unless, Local}
use Rattle.bk_phases.specs.Term.{Term}
use Rattle.bk_phases.specs.Statement.{Statement, assign_at, such_at, par_at, left_names, writes_of}
use Rattle.bk_phases.specs.Symbols.{Role, a_constant, an_input, Symbol}
use Rattle.bk_phases.specs.Resolved.{Resolved}
use Rattle.bk_phases.specs.Parts.{statements}

-- whether what has this role may be written: a variable of the level, an output or a local
abbrev pub is_writable_role : Role → Bool
is_writable_role a_constant = false
is_writable_role an_input = false
is_writable_role _ = true

-- whether this symbol is there and may be written
abbrev pub is_writable_symbol : Option Symbol → Bool
is_writable_symbol None = false
is_writable_symbol (Some s) = is_writable_role s.role

-- whether the component's number n may be written; those of the levels above may not
abbrev pub is_writable : Resolved → ℕ → Bool
is_writable r n = let base = length r.above.table.variables in not (nat_lt n base) && is_writable_symbol (slice_get r.symbols (n - base))

-- whether it is a variable that may be written
abbrev pub may_write : Resolved → Target → Bool
may_write r (variable_target n) = is_writable r n
may_write r _ = false

-- a name of something that may not be written
abbrev pub unwritable : Resolved → Written → List ℕ
unwritable r x = unless (may_write r x.target) x.name.at

-- whether the target is one of these variables
abbrev pub is_among : List ℕ → Target → Bool
is_among ns (variable_target n) = among ns n
is_among ns _ = false

-- the number in front of others, if it is there
abbrev pub with_number : Option ℕ → List ℕ → List ℕ
with_number None ns = ns
with_number (Some n) ns = n ∷ ns

-- the variables of written names
abbrev pub variables_of : List Written → List ℕ
variables_of [] = []
variables_of (x ∷ xs) = with_number (as_number x.target) (variables_of xs)

-- names whose variables stand before, on the left
abbrev pub twice_written : List ℕ → List Written → List ℕ
twice_written before [] = []
twice_written before (x ∷ xs) =
    unless (not (is_among before x.target)) x.name.at ++ twice_written (with_number (as_number x.target) before) xs

-- lists of different length, at the first name
abbrev pub uneven : List Written → List Term → List ℕ
uneven [] es = []
uneven (x ∷ xs) es = cond (is_even (x ∷ xs) es) [] (x.name.at ∷ [])
  where
    is_even : List Written → List Term → Bool
    is_even [] [] = true
    is_even (y ∷ ys) (d ∷ ds) = is_even ys ds
    is_even _ _ = false

-- what both sides of || write: each name on the right whose variable the left writes
abbrev pub written_by_both : List Written → List Written → List ℕ
written_by_both ls rs = map (λ (x : Written). x.name.at) (filter (λ (x : Written). is_among (variables_of ls) x.target) rs)

-- what is wrong with the writes of one substitution
abbrev pub wrong_write : Statement → List ℕ
wrong_write (assign_at at xs es) = twice_written [] xs ++ uneven xs es
wrong_write (such_at at xs p) = twice_written [] (map (λ (x : Written × Local). x.0) xs)
wrong_write (par_at at s t) = written_by_both (writes_of s) (writes_of t)
wrong_write _ = []

-- all of a component
abbrev pub wrong_writes : Resolved → List ℕ
wrong_writes r = flat_map (unwritable r) (flat_map left_names (statements r)) ++ flat_map wrong_write (statements r)
