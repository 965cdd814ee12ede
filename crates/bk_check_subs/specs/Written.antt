-- What may be written, and what is written.
use Rattle.std.specs.Prelude.{ℕ, Bool, false, ◌||◌, List, [], ◌∷◌, map}
use Rattle.bk_gsl.specs.State.{among}
use Rattle.bk_statics.specs.Typings.{interval}
use Rattle.bk_check_subs.specs.declared.left.Interval.{Interval}
use Rattle.bk_check_subs.specs.declared.left.Write.{Write}

-- whether one of the intervals has the number
abbrev pub writable_by : List Interval → ℕ → Bool
writable_by [] n = false
writable_by (i ∷ is) n = among (interval i.first i.count) n || writable_by is n

-- written variables, each with the place of its name
abbrev pub writes_shown : List Write → List (ℕ × ℕ)
writes_shown ws = map (λ w. (w.variable, w.at)) ws
