-- How many substitutions a substitution is made of.
use Rattle.std.specs.Prelude.{ℕ, ◌+◌}
use Rattle.bk_gsl.specs.Substitution.{Substitution, skip, assign, pre, guard, choice, if_else, any, seq, par, assert, becomes_such, loop}

-- itself and those inside it
abbrev pub substitution_size : Substitution → ℕ
substitution_size skip = 1
substitution_size (assign ps) = 1
substitution_size (pre p s) = substitution_size s + 1
substitution_size (guard p s) = substitution_size s + 1
substitution_size (choice s t) = substitution_size s + substitution_size t + 1
substitution_size (if_else p s t) = substitution_size s + substitution_size t + 1
substitution_size (any zs s) = substitution_size s + 1
substitution_size (seq s t) = substitution_size s + substitution_size t + 1
substitution_size (par s t) = substitution_size s + substitution_size t + 1
substitution_size (assert p s) = substitution_size s + 1
substitution_size (becomes_such xs p) = 1
substitution_size (loop p s i v) = substitution_size s + 1
