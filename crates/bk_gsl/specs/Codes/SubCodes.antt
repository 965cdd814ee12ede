-- Each substitution as a tree of numbers, which gives the substitution back: by it a proof tells substitutions apart.
use Rattle.std.specs.Prelude.{◌≡◌, ℕ, zero, suc, List, [], ◌∷◌, refl}
use Rattle.std.proofs.Common.{ap, sym, ◌∙◌}
use Rattle.std.specs.Coded.{Coded}
use base.Stored.{Gv, gnil, gnum, gcons}
use Rattle.bk_form.specs.Formula.{Formula}
use Rattle.bk_form.specs.Codes.FormulaCodes.{formula_code, formula_back, formula_back-code}
use Rattle.bk_gsl.specs.Substitution.{Substitution, skip, assign, pre, guard, choice, if_else, any, seq, par, assert, becomes_such, loop}

-- variables, each with its term
abbrev pub terms_code : List (ℕ × Formula) → Gv
terms_code [] = gnil
terms_code (p ∷ ps) = gcons (gcons (gnum p.0) (formula_code p.1)) (terms_code ps)

-- the variables and terms that have this code
abbrev pub terms_back : Gv → List (ℕ × Formula)
terms_back (gcons (gcons (gnum n) a) b) = (n, formula_back a) ∷ terms_back b
terms_back _ = []

terms_back-code : (ps : List (ℕ × Formula)) → terms_back (terms_code ps) ≡ ps
terms_back-code [] = refl
terms_back-code (p ∷ ps) = λ i. (p.0, formula_back-code p.1 i) ∷ terms_back-code ps i

-- a list of variables
abbrev pub variables_code : List ℕ → Gv
variables_code [] = gnil
variables_code (n ∷ ns) = gcons (gnum n) (variables_code ns)

-- the list of variables that has this code
abbrev pub variables_back : Gv → List ℕ
variables_back (gcons (gnum n) b) = n ∷ variables_back b
variables_back _ = []

variables_back-code : (ns : List ℕ) → variables_back (variables_code ns) ≡ ns
variables_back-code [] = refl
variables_back-code (n ∷ ns) = λ i. n ∷ variables_back-code ns i

-- variables, each with the number of its old value
abbrev pub pairs_code : List (ℕ × ℕ) → Gv
pairs_code [] = gnil
pairs_code (x ∷ xs) = gcons (gcons (gnum x.0) (gnum x.1)) (pairs_code xs)

-- the variables and numbers of old values that have this code
abbrev pub pairs_back : Gv → List (ℕ × ℕ)
pairs_back (gcons (gcons (gnum m) (gnum n)) b) = (m, n) ∷ pairs_back b
pairs_back _ = []

pairs_back-code : (xs : List (ℕ × ℕ)) → pairs_back (pairs_code xs) ≡ xs
pairs_back-code [] = refl
pairs_back-code (x ∷ xs) = λ i. x ∷ pairs_back-code xs i

-- each kind of substitution begins with a number of its own, and its parts follow; skip is a leaf
abbrev pub substitution_code : Substitution → Gv
substitution_code skip = gnil
substitution_code (assign ps) = gcons (gnum 0) (terms_code ps)
substitution_code (pre p s) = gcons (gnum 1) (gcons (formula_code p) (substitution_code s))
substitution_code (guard p s) = gcons (gnum 2) (gcons (formula_code p) (substitution_code s))
substitution_code (choice s t) = gcons (gnum 3) (gcons (substitution_code s) (substitution_code t))
substitution_code (if_else p s t) = gcons (gnum 4) (gcons (formula_code p) (gcons (substitution_code s) (substitution_code t)))
substitution_code (any zs s) = gcons (gnum 5) (gcons (variables_code zs) (substitution_code s))
substitution_code (seq s t) = gcons (gnum 6) (gcons (substitution_code s) (substitution_code t))
substitution_code (par s t) = gcons (gnum 7) (gcons (substitution_code s) (substitution_code t))
substitution_code (assert p s) = gcons (gnum 8) (gcons (formula_code p) (substitution_code s))
substitution_code (becomes_such xs p) = gcons (gnum 9) (gcons (pairs_code xs) (formula_code p))
substitution_code (loop p s i v) =
    gcons (gnum 10) (gcons (formula_code p) (gcons (substitution_code s) (gcons (formula_code i) (formula_code v))))

-- the substitution that has this code; what it gives for other trees does not matter
abbrev pub substitution_back : Gv → Substitution
substitution_back (gcons (gnum zero) a) = assign (terms_back a)
substitution_back (gcons (gnum (suc zero)) (gcons a b)) = pre (formula_back a) (substitution_back b)
substitution_back (gcons (gnum (suc (suc zero))) (gcons a b)) = guard (formula_back a) (substitution_back b)
substitution_back (gcons (gnum (suc (suc (suc zero)))) (gcons a b)) = choice (substitution_back a) (substitution_back b)
substitution_back (gcons (gnum (suc (suc (suc (suc zero))))) (gcons a (gcons b c))) =
    if_else (formula_back a) (substitution_back b) (substitution_back c)
substitution_back (gcons (gnum (suc (suc (suc (suc (suc zero)))))) (gcons a b)) = any (variables_back a) (substitution_back b)
substitution_back (gcons (gnum (suc (suc (suc (suc (suc (suc zero))))))) (gcons a b)) = seq (substitution_back a) (substitution_back b)
substitution_back (gcons (gnum (suc (suc (suc (suc (suc (suc (suc zero)))))))) (gcons a b)) =
    par (substitution_back a) (substitution_back b)
substitution_back (gcons (gnum (suc (suc (suc (suc (suc (suc (suc (suc zero))))))))) (gcons a b)) =
    assert (formula_back a) (substitution_back b)
substitution_back (gcons (gnum (suc (suc (suc (suc (suc (suc (suc (suc (suc zero)))))))))) (gcons a b)) =
    becomes_such (pairs_back a) (formula_back b)
substitution_back (gcons (gnum (suc (suc (suc (suc (suc (suc (suc (suc (suc (suc n))))))))))) (gcons a (gcons b (gcons c d)))) =
    loop (formula_back a) (substitution_back b) (formula_back c) (formula_back d)
substitution_back _ = skip

-- the code of a substitution gives the substitution back
pub substitution_back-code : (s : Substitution) → substitution_back (substitution_code s) ≡ s
substitution_back-code skip = refl
substitution_back-code (assign ps) = λ i. assign (terms_back-code ps i)
substitution_back-code (pre p s) = λ i. pre (formula_back-code p i) (substitution_back-code s i)
substitution_back-code (guard p s) = λ i. guard (formula_back-code p i) (substitution_back-code s i)
substitution_back-code (choice s t) = λ i. choice (substitution_back-code s i) (substitution_back-code t i)
substitution_back-code (if_else p s t) = λ i. if_else (formula_back-code p i) (substitution_back-code s i) (substitution_back-code t i)
substitution_back-code (any zs s) = λ i. any (variables_back-code zs i) (substitution_back-code s i)
substitution_back-code (seq s t) = λ i. seq (substitution_back-code s i) (substitution_back-code t i)
substitution_back-code (par s t) = λ i. par (substitution_back-code s i) (substitution_back-code t i)
substitution_back-code (assert p s) = λ i. assert (formula_back-code p i) (substitution_back-code s i)
substitution_back-code (becomes_such xs p) = λ i. becomes_such (pairs_back-code xs i) (formula_back-code p i)
substitution_back-code (loop p s i v) =
    λ j. loop (formula_back-code p j) (substitution_back-code s j) (formula_back-code i j) (formula_back-code v j)

-- a substitution is told by its code
abbrev pub coded_substitution : Coded Substitution
coded_substitution = record {
  code = substitution_code;
  inj = λ a b e. sym (substitution_back-code a) ∙ ap substitution_back e ∙ substitution_back-code b;
}
