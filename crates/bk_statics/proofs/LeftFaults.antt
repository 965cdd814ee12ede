-- What holds of the names on the left of an assignment that are without faults.
use Rattle.std.proofs.Common.{◌≡◌, ℕ, List, [], ◌∷◌, ◌++◌, refl, Bool, true, false, cond}
use Rattle.bk_gsl.specs.State.{among}
use Rattle.bk_raw.specs.declared.term.RawName.{RawName}
use Rattle.bk_raw.specs.Meaning.Names.{Names}
use Rattle.bk_raw.proofs.RulesFit.{none-left, none-right, some-fault}
use Rattle.bk_raw.specs.Errors.Faults.{Fault, unknown_name, wrong_write}
use Rattle.bk_statics.specs.Typings.{Target, unknown, no_variable, variable_target, target, number_of}
use Rattle.bk_statics.specs.SubFaults.{target_faults, writable_faults, is_again, with_target, left_faults}

pub not-among : (c : Bool) (x : Fault) (fs : List Fault) → cond c (x ∷ []) [] ++ fs ≡ [] → (c ≡ false) × (fs ≡ [])
not-among true x fs h = some-fault x fs h
not-among false x fs h = (refl, h)

-- the first of them
pub record FirstFree (names : Names) (writable : ℕ → Bool) (before : List ℕ) (x : RawName) (xs : List RawName) (v : Target) : Type 0 where
  pub none : target_faults writable x.at v ≡ []
  pub free : writable (number_of v) ≡ true
  pub new : among before (number_of v) ≡ false
  pub rest : left_faults names writable (number_of v ∷ before) xs ≡ []

by-test : (at : ℕ) (c : Bool) → writable_faults c at ≡ [] → c ≡ true
by-test at true e = refl
by-test at false e = some-fault (wrong_write at) [] e

first-by : (names : Names) (writable : ℕ → Bool) (before : List ℕ) (x : RawName) (xs : List RawName) (v : Target) → target_faults writable x.at v ++ (cond (is_again before v) (wrong_write x.at ∷ []) [] ++ left_faults names writable (with_target v before) xs) ≡ [] → FirstFree names writable before x xs v
first-by names writable before x xs unknown e = some-fault (unknown_name x.at) (left_faults names writable before xs) e
first-by names writable before x xs no_variable e = some-fault (wrong_write x.at) (left_faults names writable before xs) e
first-by names writable before x xs (variable_target n) e =
    let rest = cond (among before n) (wrong_write x.at ∷ []) [] ++ left_faults names writable (n ∷ before) xs in
    let first = none-left (writable_faults (writable n) x.at) rest e in
    let later = not-among (among before n) (wrong_write x.at) (left_faults names writable (n ∷ before) xs) (none-right (writable_faults (writable n) x.at) rest e) in
    record { none = first; free = by-test x.at (writable n) first; new = later.0; rest = later.1 }

pub first-free : (names : Names) (writable : ℕ → Bool) (before : List ℕ) (x : RawName) (xs : List RawName) → left_faults names writable before (x ∷ xs) ≡ [] → FirstFree names writable before x xs (target names x.text)
first-free names writable before x xs e = first-by names writable before x xs (target names x.text) e
