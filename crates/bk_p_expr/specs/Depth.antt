-- Which tokens are shallow from a place on.
use Rattle.std.specs.Prelude.{◌≡◌, ◌+◌, ℕ, List, drop}
use Rattle.bk_form.specs.declared.token.Token.{Token}
use Rattle.bk_raw.specs.Errors.Limits.{IsShallow, IsTooDeep}

-- at most MOST_OPEN brackets, and at most MOST_OPEN blocks, are open after each token from a place on
abbrev pub IsShallowFrom : List Token → ℕ → Type 0
IsShallowFrom tokens at = IsShallow (drop at tokens)

-- the first token at which it is not so, counted from a place on
abbrev pub IsTooDeepFrom : List Token → ℕ → ℕ → Type 0
IsTooDeepFrom tokens at place = (n : ℕ) × (place ≡ at + n) × IsTooDeep (drop at tokens) n
