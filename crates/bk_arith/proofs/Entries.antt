-- Two lists of numbers joined entry by entry, from the front.
use Rattle.std.proofs.Common.{◌≡◌, ℕ, suc, ◌+◌, ◌<◌, ◌≤◌, ℤ, pos, negsuc, ◌+ℤ◌, ◌-ℤ◌, ◌*ℤ◌, Bool, true, false, ◌&&◌, List, [], ◌∷◌, ◌++◌, map, take, drop, set, length, get_or, refl, ap, sym, ◌∙◌, arith, add-one, drop-cons}
use Rattle.std.specs.List.{list_all}
use Rattle.std.proofs.lemmas.List.{take_more_set, drop-set-lt, append_assoc, drop_all}
use Rattle.std.proofs.lemmas.Int.{ints}
use Rattle.bk_lin.specs.Inequality.{sum_of_coefs}
use Rattle.bk_val.specs.Value.{fits_i128}
use Rattle.bk_arith.specs.declared.joining.Join.TheVariants.{Sum, Difference}
use Rattle.bk_arith.specs.Layout.{entries_of}

abbrev pub zipped : (ℤ → ℤ → ℤ) → List ℤ → List ℤ → List ℤ
zipped f (x ∷ xs) (y ∷ ys) = f x y ∷ zipped f xs ys
zipped f _ _ = []

abbrev pub all_fit : (ℤ → ℤ → ℤ) → List ℤ → List ℤ → Bool
all_fit f xs ys = list_all fits_i128 (zipped f xs ys)

passes-on : (b c : Bool) → b ≡ true → c ≡ (b && c)
passes-on true c h = refl
passes-on false c h = absurd (cc)

stops : (b c : Bool) → b ≡ false → (b && c) ≡ false
stops false c h = refl
stops true c h = absurd (cc)

pub all_fit-more : (f : ℤ → ℤ → ℤ) (xs ys : List ℤ) (i : ℕ) (v : ℤ) → i < length xs → i < length ys → fits_i128 (f (get_or xs i (pos 0)) (get_or ys i (pos 0))) ≡ true → all_fit f (drop (i + 1) (set xs i v)) (drop (i + 1) ys) ≡ all_fit f (drop i xs) (drop i ys)
all_fit-more f xs ys i v h k t =
    ap (λ zs. all_fit f zs (drop (i + 1) ys)) (drop-set-lt (i + 1) xs i v (omega arith))
    ∙ passes-on (fits_i128 (f (get_or xs i (pos 0)) (get_or ys i (pos 0)))) (all_fit f (drop (i + 1) xs) (drop (i + 1) ys)) t
    ∙ ap (λ n. all_fit f (get_or xs i (pos 0) ∷ drop n xs) (get_or ys i (pos 0) ∷ drop n ys)) (add-one i)
    ∙ ap (λ zs. all_fit f zs (get_or ys i (pos 0) ∷ drop (suc i) ys)) (sym (drop-cons xs i (pos 0) h))
    ∙ ap (λ zs. all_fit f (drop i xs) zs) (sym (drop-cons ys i (pos 0) k))

pub all_fit-fails : (f : ℤ → ℤ → ℤ) (xs ys : List ℤ) (i : ℕ) → i < length xs → i < length ys → fits_i128 (f (get_or xs i (pos 0)) (get_or ys i (pos 0))) ≡ false → all_fit f (drop i xs) (drop i ys) ≡ false
all_fit-fails f xs ys i h k t =
    ap (λ zs. all_fit f zs (drop i ys)) (drop-cons xs i (pos 0) h)
    ∙ ap (λ zs. all_fit f (get_or xs i (pos 0) ∷ drop (suc i) xs) zs) (drop-cons ys i (pos 0) k)
    ∙ stops (fits_i128 (f (get_or xs i (pos 0)) (get_or ys i (pos 0)))) (all_fit f (drop (suc i) xs) (drop (suc i) ys)) t

pub zipped-more : (f : ℤ → ℤ → ℤ) (xs ys : List ℤ) (i : ℕ) (v : ℤ) → i < length xs → i < length ys → v ≡ f (get_or xs i (pos 0)) (get_or ys i (pos 0)) → take (i + 1) (set xs i v) ++ zipped f (drop (i + 1) (set xs i v)) (drop (i + 1) ys) ≡ take i xs ++ zipped f (drop i xs) (drop i ys)
zipped-more f xs ys i v h k e =
    ap (λ zs. take (i + 1) (set xs i v) ++ zipped f zs (drop (i + 1) ys)) (drop-set-lt (i + 1) xs i v (omega arith))
    ∙ ap (λ front. front ++ zipped f (drop (i + 1) xs) (drop (i + 1) ys)) (take_more_set xs i v h)
    ∙ append_assoc (take i xs) (v ∷ []) (zipped f (drop (i + 1) xs) (drop (i + 1) ys))
    ∙ ap (λ w. take i xs ++ (w ∷ zipped f (drop (i + 1) xs) (drop (i + 1) ys))) e
    ∙ ap (λ n. take i xs ++ zipped f (get_or xs i (pos 0) ∷ drop n xs) (get_or ys i (pos 0) ∷ drop n ys)) (add-one i)
    ∙ ap (λ zs. take i xs ++ zipped f zs (get_or ys i (pos 0) ∷ drop (suc i) ys)) (sym (drop-cons xs i (pos 0) h))
    ∙ ap (λ zs. take i xs ++ zipped f (drop i xs) zs) (sym (drop-cons ys i (pos 0) k))

pub all_fit-end : (f : ℤ → ℤ → ℤ) (xs ys : List ℤ) (i : ℕ) → length xs ≤ i → all_fit f (drop i xs) (drop i ys) ≡ true
all_fit-end f xs ys i h = ap (λ zs. all_fit f zs (drop i ys)) (drop_all i xs h)

pub zipped-map : (m : ℤ) (xs : List ℤ) → zipped (λ c d. m *ℤ c) xs xs ≡ map (λ c. m *ℤ c) xs
zipped-map m [] = refl
zipped-map m (x ∷ xs) = ap (λ zs. (m *ℤ x) ∷ zs) (zipped-map m xs)

-- the forms joined, as the definitions have them
pub minus_one : (x y : ℤ) → x -ℤ y ≡ x +ℤ negsuc 0 *ℤ y
minus_one x y = omega (arith, ints)

pub entries_of-sum : (xs ys : List ℤ) → length xs ≡ length ys → entries_of Sum xs ys ≡ sum_of_coefs xs ys
entries_of-sum [] [] h = refl
entries_of-sum [] (y ∷ ys) h = absurd (omega arith)
entries_of-sum (x ∷ xs) [] h = absurd (omega arith)
entries_of-sum (x ∷ xs) (y ∷ ys) h = ap (λ zs. (x +ℤ y) ∷ zs) (entries_of-sum xs ys (omega arith))

pub entries_of-difference : (xs ys : List ℤ) → length xs ≡ length ys → entries_of Difference xs ys ≡ sum_of_coefs xs (map (λ c. negsuc 0 *ℤ c) ys)
entries_of-difference [] [] h = refl
entries_of-difference [] (y ∷ ys) h = absurd (omega arith)
entries_of-difference (x ∷ xs) [] h = absurd (omega arith)
entries_of-difference (x ∷ xs) (y ∷ ys) h =
    ap (λ z. z ∷ entries_of Difference xs ys) (minus_one x y)
    ∙ ap (λ zs. (x +ℤ negsuc 0 *ℤ y) ∷ zs) (entries_of-difference xs ys (omega arith))
