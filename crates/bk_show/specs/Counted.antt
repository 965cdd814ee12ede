-- How many variables are bound on a way down a formula.
use Rattle.std.specs.Prelude.{ℕ, ◌+◌, ◌*◌, ◌<◌, ◌^◌}

-- under so many bound variables a formula of this height has numbers of 128 bits for its own: each binder on a way down binds
-- fewer than 2^64
abbrev pub IsCounted : ℕ → ℕ → Type 0
IsCounted around height = around + height * 2 ^ 64 < 2 ^ 128
