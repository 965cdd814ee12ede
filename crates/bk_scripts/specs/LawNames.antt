-- The names of laws: a letter and a number from 1 on, without noughts in front.
use Rattle.std.specs.Prelude.{ℕ, zero, suc, ◌+◌, cond, nat_eq, List, [], ◌∷◌, Option, Some, None, decimal}
use Rattle.std.specs.Option.{option_map, option_and_then}
use Rattle.std.specs.Str.{bytes_eq}

-- the number that the digits spell, of so many from this one on
abbrev pub spelled_from : ℕ → ℕ → List ℕ → Option ℕ
spelled_from n zero digits = None
spelled_from n (suc k) digits = cond (bytes_eq digits (decimal n)) (Some n) (spelled_from (suc n) k digits)

-- what a letter stands for, and how many laws have it: G, O, S and M
abbrev pub series_of : ℕ → Option (ℕ × ℕ)
series_of letter =
    cond (nat_eq letter 71) (Some (0, 28))
    (cond (nat_eq letter 79) (Some (100, 30)) (cond (nat_eq letter 83) (Some (200, 40)) (cond (nat_eq letter 77) (Some (300, 65)) None)))

-- the number of the law of a series with these digits, if there is one
abbrev pub law_in : List ℕ → ℕ × ℕ → Option ℕ
law_in digits s = option_map (λ n. s.0 + n) (spelled_from 1 s.1 digits)

-- the number of the law with this name, if there is one
abbrev pub law_number : List ℕ → Option ℕ
law_number [] = None
law_number (letter ∷ digits) = option_and_then (law_in digits) (series_of letter)
