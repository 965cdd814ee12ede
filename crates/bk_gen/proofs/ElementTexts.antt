-- The texts of a set's elements, with written names and without.
use Rattle.std.proofs.Common.{◌≡◌, ℕ, ℤ, pos, ◌+ℤ◌, ◌≤ℤ◌, List, [], ◌∷◌, length, refl, sym, ◌∙◌, ap, inl, arith}
use Rattle.std.specs.Prelude.{◌↔◌}
use Rattle.bk_form.specs.Table.{SetEntry, texts_from, texts_of_elements, element_texts}
use Rattle.bk_form.proofs.Sizing.{elements_have_texts}
use Rattle.bk_image.specs.Spelling.{HasFewElements}

unwritten_texts : (name : List ℕ) (size : ℕ) (names : List (List ℕ)) → length names ≡ 0 → texts_from name 0 size ≡ texts_of_elements name size names
unwritten_texts name size [] h = refl
unwritten_texts name size (x ∷ xs) h = absurd (omega (arith, h))

written_texts : (name : List ℕ) (size : ℕ) (names : List (List ℕ)) → (length names ≡ 0 → ⊥) → names ≡ texts_of_elements name size names
written_texts name size [] h = absurd (h refl)
written_texts name size (x ∷ xs) h = refl

pub unwritten : (s : SetEntry) → length s.elements ≡ 0 → texts_from s.name 0 s.size ≡ element_texts s
unwritten s h = unwritten_texts s.name s.size s.elements h

pub written : (s : SetEntry) → (length s.elements ≡ 0 → ⊥) → s.elements ≡ element_texts s
written s h = written_texts s.name s.size s.elements h

-- there are as many numbered texts as the size says
pub numbers_long : (name : List ℕ) (size : ℕ) → length (texts_from name 0 size) ≡ size
numbers_long name size = elements_have_texts (record { name = name; elements = []; size = size }) (inl refl)

-- how many texts there are
unwritten_long : (s : SetEntry) → length s.elements ≡ 0 → length (element_texts s) ≡ s.size
unwritten_long s h = ap length (sym (unwritten s h)) ∙ numbers_long s.name s.size

pub few_numbers : (top : ℤ) (s : SetEntry) → length s.elements ≡ 0 → (pos s.size ≤ℤ (top +ℤ pos 1)) ↔ HasFewElements top (element_texts s)
few_numbers top s h = rw (unwritten_long s h) (λ few. few, λ few. few)

pub few_names : (top : ℤ) (s : SetEntry) → (length s.elements ≡ 0 → ⊥) → (pos (length s.elements) ≤ℤ (top +ℤ pos 1)) ↔ HasFewElements top (element_texts s)
few_names top s h = rw (ap length (sym (written s h))) (λ few. few, λ few. few)
