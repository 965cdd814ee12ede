-- The numbers of an interval, one more behind.
use Rattle.std.proofs.Common.{◌≡◌, ℕ, zero, suc, ◌+◌, ℤ, pos, ◌+ℤ◌, [], ◌∷◌, ◌++◌, ap, sym, ◌∙◌, arith}
use Rattle.std.proofs.lemmas.Int.{ints}
use Rattle.bk_form.specs.Formula.{Formula, literal, binary}
use Rattle.bk_form.specs.declared.operator.BinOp.TheVariants.{Eq}
use Rattle.bk_arith.specs.Cases.{literals_from, equations}

-- the equations where the count is written with one more
grown : (e : Formula) (n : ℕ) (z : ℤ) → equations e (literals_from z (suc n)) ≡ equations e (literals_from z n) ++ binary Eq e (literal (z +ℤ pos n)) ∷ []
grown e zero z = let s : z +ℤ pos 0 ≡ z = omega (arith, ints) in ap (λ y. binary Eq e (literal y) ∷ []) (sym s)
grown e (suc n) z =
    let s : (z +ℤ pos 1) +ℤ pos n ≡ z +ℤ pos (suc n) = omega (arith, ints) in
    ap (λ l. binary Eq e (literal z) ∷ l) (grown e n (z +ℤ pos 1))
    ∙ ap (λ y. binary Eq e (literal z) ∷ (equations e (literals_from (z +ℤ pos 1) n) ++ binary Eq e (literal y) ∷ [])) s

pub equations-more : (e : Formula) (z : ℤ) (n : ℕ) → equations e (literals_from z (n + 1)) ≡ equations e (literals_from z n) ++ binary Eq e (literal (z +ℤ pos n)) ∷ []
equations-more e z n = let s : n + 1 ≡ suc n = omega arith in ap (λ m. equations e (literals_from z m)) s ∙ grown e n z
