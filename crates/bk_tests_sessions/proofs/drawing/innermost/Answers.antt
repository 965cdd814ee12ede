use Rattle.std.proofs.Common.{◌≤◌, ℕ, List, [], ◌∷◌, length, get_or, sym, subst, arith}
use Rattle.bk_form.specs.Formula.{variable}
use Rattle.bk_tests_sessions.specs.Drawn.{AreLocals, IsNumber}
use Rattle.bk_tests_sessions.proofs.Drawn.{first_local}
use Rattle.bk_tests_sessions.proofs.drawing.innermost.Goals as goal

first-of : (ls : List ℕ) → 1 ≤ length ls → AreLocals ls 25 → IsNumber ls 0 (variable (get_or ls 0 0))
first-of [] some h = absurd (omega (arith, some))
first-of (z ∷ ls) some h = first_local z ls 0 h

pub returns-in_ok-term-in-len1-up : goal.returns-in_ok-term-in-len1-up
returns-in_ok-term-in-len1-up c = subst (IsNumber c.args.locals.now 0) (sym c.in_ok-term-in-len1-up.ensures) (first-of c.args.locals.now c.in-len1-up.len_at_least c.requires)
