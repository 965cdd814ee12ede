-- Wrong values: the values of constants, and the sizes of deferred sets.
-- Source: B Language Reference Manual; the places are this project's.
use Rattle.std.specs.Prelude.{ℕ, suc, nat_eq, ℤ, Bool, true, false, cond, not, ◌&&◌, ◌||◌, List, [], ◌∷◌, ◌++◌, Option, None, Some}
use Rattle.bk_form.specs.Table.{SetEntry}
use Rattle.bk_gsl.specs.State.{among}
use Rattle.bk_dev.specs.Development.{Development, is_implementing}
use Rattle.bk_raw.specs.declared.component.RawValue.{RawValue}
use Rattle.bk_raw.specs.Meaning.Names.{Names}
use Rattle.bk_raw.specs.Errors.Faults.{Fault, wrong_value}
use Rattle.bk_statics.specs.Components.{Component}
use Rattle.bk_statics.specs.Typings.{Typing, variable_in, target, variable_named, set_named}
use Rattle.bk_statics.specs.SubFaults.{is_again, with_target}
use Rattle.bk_statics.specs.Plan.{Plan}
use Rattle.bk_statics.specs.LevelOf.{value_of}

-- whether it is there
abbrev pub is_there : {A : Type 0} → Option A → Bool
is_there None = false
is_there (Some x) = true

-- an entry for no constant, one that is no value of its constant (no literal within INT, TRUE, FALSE or element, or of another type),
-- and one for a constant that stands before
abbrev pub entry_value_faults : ℤ → Typing → Names → List ℕ → List RawValue → List Fault
entry_value_faults int_max typing globals before [] = []
entry_value_faults int_max typing globals before (v ∷ vs) =
    cond (is_there (value_of int_max typing globals v) && not (is_again before (target globals v.name.text))) []
    (wrong_value v.name.at ∷ []) ++ entry_value_faults int_max typing globals (with_target (target globals v.name.text) before) vs

-- the number of a constant, if it is there
abbrev pub with_number : Option ℕ → List ℕ → List ℕ
with_number None ns = ns
with_number (Some n) ns = n ∷ ns

-- the constants that have an entry
abbrev pub valued : Names → List RawValue → List ℕ
valued globals [] = []
valued globals (v ∷ vs) = with_number (variable_named globals v.name.text) (valued globals vs)

-- whether the number is there, and none of these
abbrev pub is_missing : List ℕ → Option ℕ → Bool
is_missing entries None = false
is_missing entries (Some n) = not (among entries n)

-- constants without a value, at the implementation's name
abbrev pub without_value : ℕ → List ℕ → Names → List Fault
without_value at entries [] = []
without_value at entries (n ∷ ns) =
    cond (is_missing entries (variable_in n.meaning)) (wrong_value at ∷ []) [] ++ without_value at entries ns

-- whether it is there, and this number
abbrev pub is_number : ℕ → Option ℕ → Bool
is_number n None = false
is_number n (Some m) = nat_eq m n

-- whether one of the entries is for the set of this number
abbrev pub is_entered : Names → List RawValue → ℕ → Bool
is_entered globals [] n = false
is_entered globals (v ∷ vs) n = is_number n (set_named globals v.name.text) || is_entered globals vs n

-- whether the set of this number, which has so many elements, has no size and no entry
abbrev pub lacks_size : Names → List RawValue → ℕ → ℕ → Bool
lacks_size globals vs n size = nat_eq size 0 && not (is_entered globals vs n)

-- sets without a size, the first of which has the number n, at the implementation's name
abbrev pub without_size : ℕ → Names → List RawValue → ℕ → List SetEntry → List Fault
without_size at globals vs n [] = []
without_size at globals vs n (s ∷ ss) =
    cond (lacks_size globals vs n s.size) (wrong_value at ∷ []) [] ++ without_size at globals vs (suc n) ss

-- constants without a value, and sets of the levels above without a size
abbrev pub missing_values : Development → Plan → Component → List Fault
missing_values dev p c =
    without_value c.name.at (valued p.globals c.values) p.globals
    ++ without_size c.name.at p.globals c.values 0 dev.table.sets

-- those of an implementation
abbrev pub value_faults_of : ℤ → Development → Typing → Plan → Component → List Fault
value_faults_of int_max dev typing p c =
    cond (is_implementing c.kind) (entry_value_faults int_max typing p.globals [] c.values ++ missing_values dev p c) []
