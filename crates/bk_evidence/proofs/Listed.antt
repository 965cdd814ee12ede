-- Lists that are made item by item.
use Rattle.std.proofs.Common.{◌≡◌, ℕ, ◌+◌, ◌<◌, List, [], ◌∷◌, ◌++◌, length, map, take, get_or, sym, ◌∙◌, ap}
use Rattle.std.proofs.lemmas.List.{take_more, map-append}

-- one item more, which is seen as the next of a list
pub mapped_more : {X Y : Type 0} (f : X → Y) (ys : List Y) (old new : List X) (i : ℕ) (y : Y) (x : X) → i < length ys → y ≡ get_or ys i y → map f old ≡ take i ys → new ≡ old ++ x ∷ [] → f x ≡ y → map f new ≡ take (i + 1) ys
mapped_more {X} {Y} f ys old new i y x less is so_far more same =
    ap (map f) more ∙ (map-append f old (x ∷ []) ∙ (ap (λ (zs : List Y). zs ++ f x ∷ []) so_far ∙ (ap (λ (z : Y). take i ys ++ z ∷ []) (same ∙ is) ∙ sym (take_more ys i y less))))
