-- What a substitution does not turn on: the variables that pass a test, where it neither reads nor writes them, nor has them as locals.
use Rattle.std.specs.Prelude.{◌≡◌, ℕ, Bool, true, false, List}
use Rattle.bk_form.specs.Formula.{Formula}
use Rattle.bk_form.specs.Replacement.{occurs}
use Rattle.bk_form.specs.Each.{Each}
use Rattle.bk_gsl.specs.Substitution.{Substitution, skip, assign, pre, guard, choice, if_else, any, seq, par, assert, becomes_such, loop}
use Rattle.bk_gsl.specs.State.{among, firsts}

-- none of them stands in the formula
abbrev pub Free : (ℕ → Bool) → Formula → Type 0
Free off f = (n : ℕ) → off n ≡ true → occurs n f ≡ false

-- none of them is in the list
abbrev pub NoneIn : (ℕ → Bool) → List ℕ → Type 0
NoneIn off zs = (n : ℕ) → off n ≡ true → among zs n ≡ false

-- none of them is assigned to, and none stands in a term
abbrev pub FreeTerms : (ℕ → Bool) → List (ℕ × Formula) → Type 0
FreeTerms off ps = NoneIn off (firsts ps) × Each (λ p. Free off p.1) ps

-- none of them stands in a formula of the substitution, is written or is a local of it
abbrev pub Avoids : (ℕ → Bool) → Substitution → Type 0
Avoids off skip = Unit {0}
Avoids off (assign ps) = FreeTerms off ps
Avoids off (pre p s) = Free off p × Avoids off s
Avoids off (guard p s) = Free off p × Avoids off s
Avoids off (choice s t) = Avoids off s × Avoids off t
Avoids off (if_else p s t) = Free off p × Avoids off s × Avoids off t
Avoids off (any zs s) = NoneIn off zs × Avoids off s
Avoids off (seq s t) = Avoids off s × Avoids off t
Avoids off (par s t) = Avoids off s × Avoids off t
Avoids off (assert p s) = Free off p × Avoids off s
Avoids off (becomes_such xs p) = NoneIn off (firsts xs) × Free off p
Avoids off (loop p s i v) = Free off p × Avoids off s × Free off i × Free off v
