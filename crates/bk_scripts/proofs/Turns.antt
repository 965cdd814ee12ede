-- One more turn of a loop over a list of written things, each of which means something.
use Rattle.std.proofs.Common.{◌≡◌, ◌<◌, ◌+◌, ℕ, zero, suc, List, [], ◌∷◌, ◌++◌, take, map, length, get_or, sym, ◌∙◌, ap, subst, arith}
use Rattle.std.specs.Prelude.{Option, Some, None, Result, Ok, Err, IfOk}
use Rattle.std.specs.List.{AllZip}
use Rattle.std.proofs.lemmas.List.{map-append, get_or-map, length-map, take_more}
use Rattle.std.proofs.lemmas.Slice.Zip.{all_zipped_more}
use Rattle.bk_scripts.specs.Finding.{IsMeaning}

-- the thing that is meant
pub meant_some : {A : Type 0} (P : A → Type 0) (o : Option A) (x : A) → IsMeaning P o → o ≡ Some x → P x
meant_some P o x h is = subst (IsMeaning P) is h

pub meant_none : {A : Type 0} (P : A → Type 0) (o : Option A) → IsMeaning P o → o ≡ None → (x : A) → P x → ⊥
meant_none P o h is = subst (IsMeaning P) is h

-- what holds of an answer
pub if_ok_more : {A E : Type 0} (P Q : A → Type 0) (r : Result A E) → ((x : A) → P x → Q x) → IfOk r P → IfOk r Q
if_ok_more P Q (Ok x) f h = f x h
if_ok_more P Q (Err e) f h = h

pub zip-at : {A B : Type 0} (R : A → B → Type 0) (xs : List A) (ys : List B) (i : ℕ) (d : A) → i < length xs → AllZip R xs ys → (y : B) × R (get_or xs i d) y
zip-at R [] ys i d l h = absurd (omega (arith, l))
zip-at R (x ∷ xs) [] i d l h = absurd h
zip-at R (x ∷ xs) (y ∷ ys) zero d l h = (y, h.0)
zip-at R (x ∷ xs) (y ∷ ys) (suc i) d l h = zip-at R xs ys i d (omega (arith, l)) h.1

module _ {A : Type 0} (xs : List A) (i : ℕ) (x : A) (inside : i < length xs) (is : x ≡ get_or xs i x) where
  front : take (i + 1) xs ≡ take i xs ++ x ∷ []
  front = take_more xs i x inside ∙ ap (λ y. take i xs ++ y ∷ []) (sym is)

  pub zip_turn : {B : Type 0} (R : A → B → Type 0) (ys : List B) (y : B) → AllZip R (take i xs) ys → R x y → AllZip R (take (i + 1) xs) (ys ++ y ∷ [])
  zip_turn R ys y so r = subst (λ zs. AllZip R zs (ys ++ y ∷ [])) (sym front) (all_zipped_more R (take i xs) ys x y so r)

  -- where one of them means nothing, the list does not
  pub zip_none : {B : Type 0} (R : A → B → Type 0) → ((y : B) → R x y → ⊥) → (ys : List B) → AllZip R xs ys → ⊥
  zip_none R lacks ys h = let k = zip-at R xs ys i x inside h in lacks k.0 (subst (λ z. R z k.0) (sym is) k.1)

  module _ {C : Type 0} (f : A → C) where
    mapped-front : map f (take (i + 1) xs) ≡ map f (take i xs) ++ f x ∷ []
    mapped-front = ap (map f) front ∙ map-append f (take i xs) (x ∷ [])

    pub mapped_turn : {B : Type 0} (R : C → B → Type 0) (ys : List B) (y : B) → AllZip R (map f (take i xs)) ys → R (f x) y → AllZip R (map f (take (i + 1) xs)) (ys ++ y ∷ [])
    mapped_turn R ys y so r = subst (λ zs. AllZip R zs (ys ++ y ∷ [])) (sym mapped-front) (all_zipped_more R (map f (take i xs)) ys (f x) y so r)

    pub mapped_none : {B : Type 0} (R : C → B → Type 0) → ((y : B) → R (f x) y → ⊥) → (ys : List B) → AllZip R (map f xs) ys → ⊥
    mapped_none R lacks ys h =
        let k = zip-at R (map f xs) ys i (f x) (omega (arith, inside, length-map xs f)) h in
        lacks k.0 (subst (λ z. R z k.0) (get_or-map f xs i x (f x) inside ∙ ap f (sym is)) k.1)

-- the same, where the next one is told by its place
module _ {A : Type 0} (xs : List A) (i : ℕ) (d : A) (inside : i < length xs) where
  pub zip_next : {B : Type 0} (R : A → B → Type 0) (ys : List B) (y : B) → AllZip R (take i xs) ys → R (get_or xs i d) y → AllZip R (take (i + 1) xs) (ys ++ y ∷ [])
  zip_next R ys y so r = subst (λ zs. AllZip R zs (ys ++ y ∷ [])) (sym (take_more xs i d inside)) (all_zipped_more R (take i xs) ys (get_or xs i d) y so r)

  pub zip_lacks : {B : Type 0} (R : A → B → Type 0) → ((y : B) → R (get_or xs i d) y → ⊥) → (ys : List B) → AllZip R xs ys → ⊥
  zip_lacks R lacks ys h = let k = zip-at R xs ys i d inside h in lacks k.0 k.1
