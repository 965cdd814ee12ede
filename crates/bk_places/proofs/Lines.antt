-- The lines of a text, one after another.
use Rattle.std.proofs.Common.{◌≡◌, ℕ, zero, suc, ◌+◌, ◌≤◌, List, [], ◌∷◌, drop, get_or, refl, sym, ◌∙◌, ap, arith}

-- ---- what is left of a list
drop-next : {A : Type 0} (xs : List A) (n : ℕ) (y : A) (ys : List A) → drop n xs ≡ y ∷ ys → drop (suc n) xs ≡ ys
drop-next [] zero y ys h = cc
drop-next [] (suc n) y ys h = cc
drop-next (x ∷ xs) zero y ys h = cc
drop-next (x ∷ xs) (suc n) y ys h = drop-next xs n y ys h

pub one_less : {A : Type 0} (xs rest : List A) (n : ℕ) (y : A) (ys : List A) → rest ≡ drop n xs → rest ≡ y ∷ ys → ys ≡ drop (n + 1) xs
one_less xs rest n y ys d e = let next : n + 1 ≡ suc n = omega arith in sym (ap (λ m. drop m xs) next ∙ drop-next xs n y ys (sym d ∙ e))

none-there : {A : Type 0} (xs : List A) (n m : ℕ) (d : A) → n ≤ m → drop n xs ≡ [] → get_or xs m d ≡ d
none-there [] n m d l h = refl
none-there (x ∷ xs) zero m d l h = absurd (cc)
none-there (x ∷ xs) (suc n) zero d l h = absurd (omega arith)
none-there (x ∷ xs) (suc n) (suc m) d l h = none-there xs n m d (omega arith) h

pub none_left : {A : Type 0} (xs rest : List A) (n m : ℕ) (d : A) → n ≤ m → rest ≡ drop n xs → rest ≡ [] → d ≡ get_or xs m d
none_left xs rest n m d l e h = sym (none-there xs n m d l (sym e ∙ h))

one-there : {A : Type 0} (xs : List A) (n : ℕ) (d y : A) (ys : List A) → drop n xs ≡ y ∷ ys → get_or xs n d ≡ y
one-there [] zero d y ys h = absurd (cc)
one-there [] (suc n) d y ys h = absurd (cc)
one-there (x ∷ xs) zero d y ys h = cc
one-there (x ∷ xs) (suc n) d y ys h = one-there xs n d y ys h

pub first_left : {A : Type 0} (xs rest : List A) (n m : ℕ) (d y : A) (ys : List A) → n ≡ m → rest ≡ drop n xs → rest ≡ y ∷ ys → y ≡ get_or xs m d
first_left xs rest n m d y ys same e h = sym (one-there xs n d y ys (sym e ∙ h)) ∙ ap (λ k. get_or xs k d) same
