-- Lists, item by item: one more turn of a loop over them, and the first item at fault.
use Rattle.std.specs.Prelude.{◌≡◌, ◌<◌, ◌≤◌, ◌+◌, ℕ, zero, suc, List, [], ◌∷◌, ◌++◌, length, map, take, drop, All, refl}
use Rattle.std.specs.List.{AllZip, flat_map}
use Rattle.std.proofs.Common.{arith, sym, ◌∙◌, ap, subst, get_or, add-one, append-nil}
use Rattle.std.proofs.Math.ListN.{get_or-map}
use Rattle.std.proofs.lemmas.List.{length-map, take_all, take_more}
use Rattle.std.proofs.lemmas.List.Concat.{flat_map-append}
use Rattle.std.proofs.lemmas.List.Elements.{All-nil, All-cons, All-head, All-tail, All-push}
use Rattle.std.proofs.lemmas.Slice.Zip.{all_zipped_more, AllZip-long}

-- ---- one list
-- what stands in front of an item, and behind it
pub split_at : {A : Type 0} (xs : List A) (i : ℕ) (x : A) → i < length xs → x ≡ get_or xs i x → xs ≡ take i xs ++ x ∷ drop (suc i) xs
split_at [] i x l e = absurd (omega (arith, l))
split_at (a ∷ xs) zero x l e = ap (λ y. y ∷ xs) (sym e)
split_at (a ∷ xs) (suc i) x l e = ap (λ ys. a ∷ ys) (split_at xs i x (omega (arith, l)) e)

pub length_front : {A : Type 0} (xs : List A) (i : ℕ) → i < length xs → length (take i xs) ≡ i
length_front [] i l = absurd (omega (arith, l))
length_front (a ∷ xs) zero l = refl
length_front (a ∷ xs) (suc i) l = ap suc (length_front xs i (omega (arith, l)))

pub mapped_at : {A B : Type 0} (f : A → B) (xs : List A) (i : ℕ) (x : A) → x ≡ get_or xs i x → f x ≡ get_or (map f xs) i (f x)
mapped_at f xs i x e = ap f e ∙ sym (get_or-map f xs i x)

pub front_on : {A : Type 0} (xs : List A) (i : ℕ) (x : A) → i < length xs → x ≡ get_or xs i x → take (i + 1) xs ≡ take i xs ++ x ∷ []
front_on xs i x l e = take_more xs i x l ∙ ap (λ y. take i xs ++ y ∷ []) (sym e)

pub all_on : {A : Type 0} (P : A → Type 0) (xs : List A) (i : ℕ) (x : A) → i < length xs → x ≡ get_or xs i x → All P (take i xs) → P x → All P (take (i + 1) xs)
all_on P xs i x l e h p = subst (All P) (sym (front_on xs i x l e)) (All-push P (take i xs) x h p)

pub all_at : {A : Type 0} (P : A → Type 0) (xs : List A) (i : ℕ) (x : A) → i < length xs → x ≡ get_or xs i x → All P xs → P x
all_at P xs i x l e h = subst P (sym e) (h i x l)

pub all_end : {A : Type 0} (P : A → Type 0) (xs : List A) (i : ℕ) → length xs ≤ i → All P (take i xs) → All P xs
all_end P xs i l h = subst (All P) (take_all i xs l) h

pub all_middle : {A : Type 0} (P : A → Type 0) (before : List A) (x : A) (after : List A) → All P (before ++ x ∷ after) → P x
all_middle P [] x after h = All-head P x after h
all_middle P (b ∷ bs) x after h = all_middle P bs x after (All-tail P b (bs ++ x ∷ after) h)

-- of what the function gives of the items
pub all_back : {A B : Type 0} (f : A → B) (P : B → Type 0) (xs : List A) → All P (map f xs) → All (λ x. P (f x)) xs
all_back f P xs h k d l = subst P (get_or-map f xs k d) (h k (f d) (omega (arith, l, length-map xs f)))

pub all_forth : {A B : Type 0} (f : A → B) (P : B → Type 0) (xs : List A) → All (λ x. P (f x)) xs → All P (map f xs)
all_forth f P [] h = All-nil P
all_forth f P (x ∷ xs) h = All-cons P (f x) (map f xs) (All-head (λ y. P (f y)) x xs h) (all_forth f P xs (All-tail (λ y. P (f y)) x xs h))

-- where it gives the same of other items
pub all_over : {A B : Type 0} (f : A → B) (P : B → Type 0) (xs ys : List A) → map f xs ≡ map f ys → All (λ x. P (f x)) xs → All (λ x. P (f x)) ys
all_over f P xs ys e h = all_back f P ys (subst (All P) e (all_forth f P xs h))

-- the items where the others are cut
pub record CutAs {A B : Type 0} (f : A → B) (ys before : List A) (x : A) : Type 0 where
  pub front : List A
  pub item : A
  pub back : List A
  pub splits : ys ≡ front ++ item ∷ back
  pub same_front : map f front ≡ map f before
  pub same_item : f item ≡ f x

pub cut_over : {A B : Type 0} (f : A → B) (before : List A) (x : A) (after ys : List A) → map f (before ++ x ∷ after) ≡ map f ys → CutAs f ys before x
cut_over f [] x after [] e = absurd (omega (arith, ap length e))
cut_over f [] x after (y ∷ ys) e =
    let h : f y ≡ f x = cc in
    record { front = []; item = y; back = ys; splits = refl; same_front = refl; same_item = h }
cut_over f (b ∷ bs) x after [] e = absurd (omega (arith, ap length e))
cut_over f (b ∷ bs) x after (y ∷ ys) e =
    let h : f y ≡ f b = cc in
    let t : map f (bs ++ x ∷ after) ≡ map f ys = cc in
    let r = cut_over f bs x after ys t in
    record {
      front = y ∷ r.front;
      item = r.item;
      back = r.back;
      splits = ap (λ us. y ∷ us) r.splits;
      same_front = λ i. h i ∷ r.same_front i;
      same_item = r.same_item;
    }

-- ---- two lists
zip_suc : {A B : Type 0} (R S : A → B → Type 0) (xs : List A) (ys : List B) (i : ℕ) (y : B) → i < length ys → y ≡ get_or ys i y → AllZip R xs ys → ((x : A) → R x y → S x y) → AllZip S (take i xs) (take i ys) → AllZip S (take (suc i) xs) (take (suc i) ys)
zip_suc R S [] [] i y l e h f k = absurd (omega (arith, l))
zip_suc R S [] (b ∷ ys) i y l e h f k = absurd h
zip_suc R S (a ∷ xs) [] i y l e h f k = absurd h
zip_suc R S (a ∷ xs) (b ∷ ys) zero y l e h f k = (subst (S a) e (f a (subst (R a) (sym e) h.0)), tt)
zip_suc R S (a ∷ xs) (b ∷ ys) (suc i) y l e h f k = (k.0, zip_suc R S xs ys i y (omega (arith, l)) e h.1 f k.1)

-- more of what stands side by side is known
pub zip_on : {A B : Type 0} (R S : A → B → Type 0) (xs : List A) (ys : List B) (i : ℕ) (y : B) → i < length ys → y ≡ get_or ys i y → AllZip R xs ys → ((x : A) → R x y → S x y) → AllZip S (take i xs) (take i ys) → AllZip S (take (i + 1) xs) (take (i + 1) ys)
zip_on R S xs ys i y l e h f k = subst (λ n. AllZip S (take n xs) (take n ys)) (sym (add-one i)) (zip_suc R S xs ys i y l e h f k)

-- what stands beside an item
pub record Beside {A B : Type 0} (R : A → B → Type 0) (xs : List A) (i : ℕ) (y : B) : Type 0 where
  pub item : A
  pub back : List A
  pub splits : xs ≡ take i xs ++ item ∷ back
  pub counted : length (take i xs) ≡ i
  pub so : R item y

pub zip_at : {A B : Type 0} (R : A → B → Type 0) (xs : List A) (ys : List B) (i : ℕ) (y : B) → i < length ys → y ≡ get_or ys i y → AllZip R xs ys → Beside R xs i y
zip_at R [] [] i y l e h = absurd (omega (arith, l))
zip_at R [] (b ∷ ys) i y l e h = absurd h
zip_at R (a ∷ xs) [] i y l e h = absurd h
zip_at R (a ∷ xs) (b ∷ ys) zero y l e h = record { item = a; back = xs; splits = refl; counted = refl; so = subst (R a) (sym e) h.0 }
zip_at R (a ∷ xs) (b ∷ ys) (suc i) y l e h =
    let r = zip_at R xs ys i y (omega (arith, l)) e h.1 in
    record { item = r.item; back = r.back; splits = ap (λ us. a ∷ us) r.splits; counted = ap suc r.counted; so = r.so }

pub zip_both : {A B : Type 0} (R : A → B → Type 0) (xs : List A) (ys : List B) (i : ℕ) (x : A) (y : B) → i < length ys → x ≡ get_or xs i x → y ≡ get_or ys i y → AllZip R xs ys → R x y
zip_both R [] [] i x y l e g h = absurd (omega (arith, l))
zip_both R [] (b ∷ ys) i x y l e g h = absurd h
zip_both R (a ∷ xs) [] i x y l e g h = absurd h
zip_both R (a ∷ xs) (b ∷ ys) zero x y l e g h = subst (λ u. R u y) (sym e) (subst (R a) (sym g) h.0)
zip_both R (a ∷ xs) (b ∷ ys) (suc i) x y l e g h = zip_both R xs ys i x y (omega (arith, l)) e g h.1

pub zip_end : {A B : Type 0} (R S : A → B → Type 0) (xs : List A) (ys : List B) (i : ℕ) → length ys ≤ i → AllZip R xs ys → AllZip S (take i xs) (take i ys) → AllZip S xs ys
zip_end R S xs ys i l h k =
    let n : length xs ≤ i = omega (arith, l, AllZip-long R xs ys h) in
    subst (λ us. AllZip S us ys) (take_all i xs n) (subst (AllZip S (take i xs)) (take_all i ys l) k)

pub zip_has : {A B : Type 0} (R : A → B → Type 0) (xs : List A) (ys : List B) → AllZip R xs ys → All (λ x. (y : B) × R x y) xs
zip_has R [] [] h = All-nil _
zip_has R [] (b ∷ ys) h = absurd h
zip_has R (a ∷ xs) [] h = absurd h
zip_has {A} {B} R (a ∷ xs) (b ∷ ys) h = All-cons (λ x. (y : B) × R x y) a xs (b, h.0) (zip_has R xs ys h.1)

-- one more item is found
pub zip_push : {A B : Type 0} (R : A → B → Type 0) (xs : List A) (i : ℕ) (x : A) (old new : List B) (y : B) → i < length xs → x ≡ get_or xs i x → new ≡ old ++ y ∷ [] → AllZip R (take i xs) old → R x y → AllZip R (take (i + 1) xs) new
zip_push R xs i x old new y l e n h r = subst (AllZip R (take (i + 1) xs)) (sym n) (subst (λ us. AllZip R us (old ++ y ∷ [])) (sym (front_on xs i x l e)) (all_zipped_more R (take i xs) old x y h r))

pub zip_all : {A B : Type 0} (R : A → B → Type 0) (xs : List A) (ys : List B) (i : ℕ) → length xs ≤ i → AllZip R (take i xs) ys → AllZip R xs ys
zip_all R xs ys i l h = subst (λ us. AllZip R us ys) (take_all i xs l) h

pub zip_map : {A B C : Type 0} (R : A → C → Type 0) (g : B → C) (xs : List A) (ys : List B) → AllZip (λ x y. R x (g y)) xs ys → AllZip R xs (map g ys)
zip_map R g [] [] h = tt
zip_map R g [] (b ∷ ys) h = absurd h
zip_map R g (a ∷ xs) [] h = absurd h
zip_map R g (a ∷ xs) (b ∷ ys) h = (h.0, zip_map R g xs ys h.1)

-- ---- lists of lists
pub joined_map : {A B : Type 0} (g : A → List B) (xs : List A) → flat_map (λ us. us) (map g xs) ≡ flat_map g xs
joined_map g [] = refl
joined_map g (x ∷ xs) = ap (λ us. g x ++ us) (joined_map g xs)

pub joined_on : {A B : Type 0} (g : A → List B) (xs : List A) (i : ℕ) (x : A) → i < length xs → x ≡ get_or xs i x → flat_map g (take (i + 1) xs) ≡ flat_map g (take i xs) ++ g x
joined_on g xs i x l e = ap (flat_map g) (front_on xs i x l e) ∙ flat_map-append g (take i xs) (x ∷ []) ∙ ap (λ us. flat_map g (take i xs) ++ us) (append-nil (g x))
