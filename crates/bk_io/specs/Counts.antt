-- Counts of what went wrong outside, which stand still at their last value, 2 ^ 64 - 1.
use Rattle.std.specs.Prelude.{◌≡◌, ◌≢◌, ℕ, ◌+◌, ◌-◌, ◌^◌, ◌≤◌, min, Result, Err}

-- the count after one more
abbrev pub counted : ℕ → ℕ
counted before = min (before + 1) (2 ^ 64 - 1)

-- the count is greater than before, or stands at its last value
abbrev pub Rose : ℕ → ℕ → Type 0
Rose before now = counted before ≤ now

-- the count of an error's causes never falls, and rose in a call that answers the error
pub record HasCause {T E : Type 0} (error : E) (before now : ℕ) (result : Result T E) : Type 0 where
  pub later : before ≤ now
  pub rose : result ≡ Err error → Rose before now

-- the count is that of the calls that answer the error: one more after such a call, and else the same
pub record CountsCalls {T E : Type 0} (error : E) (before now : ℕ) (result : Result T E) : Type 0 where
  pub more : result ≡ Err error → now ≡ counted before
  pub same : result ≢ Err error → now ≡ before
