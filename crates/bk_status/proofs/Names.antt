-- The text of a name, part by part.
use Rattle.std.proofs.Common.{◌≡◌, ◌<◌, ◌+◌, ℕ, List, [], ◌∷◌, ◌++◌, map, take, length, get_or, sym, ◌∙◌, ap, append_assoc}
use Rattle.std.specs.List.{join_with_byte}
use Rattle.std.proofs.lemmas.List.{map-append, take_more}
use Rattle.bk_raw.specs.declared.script.NamePart.{NamePart}
use Rattle.bk_scripts.specs.Sight.{part_text}
use Rattle.bk_status.specs.States.{name_text}

join_more : (x : List ℕ) (xs : List (List ℕ)) (y : List ℕ) → join_with_byte 46 (x ∷ (xs ++ y ∷ [])) ≡ (join_with_byte 46 (x ∷ xs) ++ 46 ∷ []) ++ y
join_more x [] y = sym (append_assoc x (46 ∷ []) y)
join_more x (z ∷ xs) y =
    let rest : List ℕ = join_with_byte 46 (z ∷ xs) in
    ap (λ r. x ++ 46 ∷ r) (join_more z xs y ∙ append_assoc rest (46 ∷ []) y) ∙ sym (append_assoc (x ++ 46 ∷ rest) (46 ∷ []) y ∙ append_assoc x (46 ∷ rest) (46 ∷ y))

-- one part more
pub name_more : (first : NamePart) (rest : List NamePart) (i : ℕ) (p : NamePart) → i < length rest → p ≡ get_or rest i p → (name_text (first ∷ take i rest) ++ 46 ∷ []) ++ part_text p ≡ name_text (first ∷ take (i + 1) rest)
name_more first rest i p l e =
    sym (join_more (part_text first) (map part_text (take i rest)) (part_text p)) ∙
    ap (λ ts. join_with_byte 46 (part_text first ∷ ts)) (sym (map-append part_text (take i rest) (p ∷ [])) ∙ ap (λ q. map part_text (take i rest ++ q ∷ [])) e ∙ ap (map part_text) (sym (take_more rest i p l)))
