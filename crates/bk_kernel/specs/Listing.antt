-- The cases that a term of a finite type may be in, and induction over the natural numbers.
-- Source: B-Book, induction.
use Rattle.std.specs.Prelude.{ℕ, zero, suc, false, true, List, [], ◌∷◌, length, map, Option, Some, None}
use Rattle.bk_val.specs.ValueType.{ValueType, int_type, bool_type, enum_type, pair_type}
use Rattle.bk_form.specs.Table.{Table, set_elements}
use Rattle.bk_form.specs.Formula.{Formula, bound, truth_value, element, named, binary, for_all}
use Rattle.bk_form.specs.Role.{Role, gives}
use Rattle.bk_form.specs.declared.operator.BinOp.TheVariants.{And, Imp, In}
use Rattle.bk_form.specs.declared.operator.Domain.TheVariants.{Natural}
use Rattle.bk_kernel.specs.Branches.{Branch}
use Rattle.bk_kernel.specs.Next.{at_next}

-- one sequent for each, which has it as one more hypothesis
abbrev pub one_for_each : Formula → List Formula → List Branch
one_for_each goal ps = map (λ p. (p ∷ [], goal)) ps

-- so many elements of a set, from that number on
abbrev pub elements_of : ℕ → ℕ → ℕ → List Formula
elements_of s i zero = []
elements_of s i (suc n) = element s i ∷ elements_of s (suc i) n

-- the elements of set s with these names; none are listed of a deferred set, which has no names
abbrev pub named_elements : ℕ → Option (List (List ℕ)) → Option (List Formula)
named_elements s (Some (n ∷ ns)) = Some (elements_of s 0 (length (n ∷ ns)))
named_elements s _ = None

-- what a term of BOOL or of an enumerated set may be: FALSE before TRUE
abbrev pub elements_of_type : Table → Role → Option (List Formula)
elements_of_type table (gives bool_type) = Some (truth_value false ∷ truth_value true ∷ [])
elements_of_type table (gives (enum_type s)) = named_elements s (set_elements table s)
elements_of_type table _ = None

-- the types of the two parts of a pair
abbrev pub listed_types : Role → Option (ValueType × ValueType)
listed_types (gives (pair_type t u)) = Some (t, u)
listed_types _ = None

-- ---- induction
-- the body P of !x.(x : NATURAL => P)
abbrev pub over_naturals : Formula → Option Formula
over_naturals (for_all (int_type ∷ []) (binary Imp (binary In (bound zero) (named Natural)) p)) = Some p
over_naturals _ = None

-- from each natural number to the next
abbrev pub next_case : Formula → Formula
next_case p = for_all (int_type ∷ []) (binary Imp (binary And (binary In (bound 0) (named Natural)) p) (at_next p))
