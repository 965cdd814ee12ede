-- What is found in a list, and lists of what is made of its elements.
use Rattle.std.proofs.Common.{◌≡◌, ℕ, Bool, true, false, cond, List, [], ◌∷◌, map, Option, Some, None, option_map, find, refl, sym, ap, subst}
use Rattle.std.specs.Str.{bytes_eq}
use Rattle.std.specs.Cmp.Lexicographic.{bytes_decides}
use Rattle.bk_form.specs.Each.{Each}
use Rattle.bk_io.specs.Files.{Files}
use Rattle.bk_verbs.specs.Project.{IsTold}
use Rattle.bk_proof_program.specs.Texts.{IsToldFile}
use Rattle.bk_proof_program.specs.declared.project.NamedText.{NamedText}

module _ {A B : Type 0} (p : B → Bool) (f : A → B) where
  by-test : (b : Bool) (x : A) (one : Option A) (other : Option B) → option_map f one ≡ other → option_map f (cond b (Some x) one) ≡ cond b (Some (f x)) other
  by-test true x one other h = refl
  by-test false x one other h = h

  -- in what is made of the elements the same is found
  pub find_map : (xs : List A) → option_map f (find (λ x. p (f x)) xs) ≡ find p (map f xs)
  find_map [] = refl
  find_map (x ∷ xs) = by-test (p (f x)) x (find (λ x. p (f x)) xs) (find p (map f xs)) (find_map xs)

-- what is so of an element if one is there
abbrev pub IfFound : {A : Type 0} → (A → Type 0) → Option A → Type 0
IfFound P None = Unit {0}
IfFound P (Some x) = P x

module _ {A B : Type 0} (P : B → Type 0) (f : A → B) (p : A → Bool) where
  chosen : (b : Bool) (x : A) (o : Option A) → P (f x) → IfFound (λ y. P (f y)) o → IfFound (λ y. P (f y)) (cond b (Some x) o)
  chosen true x o h k = h
  chosen false x o h k = k

  -- what is so of each is so of what is found
  pub found_each : (xs : List A) → Each P (map f xs) → IfFound (λ y. P (f y)) (find p xs)
  found_each [] h = tt
  found_each (x ∷ xs) h = chosen (p x) x (find p xs) h.0 (found_each xs h.1)

-- ---- what is made in two steps
pub map_twice : {A B C : Type 0} (f : A → B) (g : B → C) (xs : List A) → map (λ x. g (f x)) xs ≡ map g (map f xs)
map_twice f g [] = refl
map_twice f g (x ∷ xs) = ap (λ ys. g (f x) ∷ ys) (map_twice f g xs)

-- ---- files
told_if : (files : Files) (name : List ℕ) (b : Bool) (f : NamedText) (o : Option NamedText) → (b ≡ true → name ≡ f.name) → IsToldFile files f
    → IfFound (λ x. IsTold files name x.text.items) o → IfFound (λ x. IsTold files name x.text.items) (cond b (Some f) o)
told_if files name true f o h k m = subst (λ n. IsTold files n f.text.items) (sym (h refl)) k
told_if files name false f o h k m = m

-- a file of this name that is found is told under it
pub found_told : (files : Files) (name : List ℕ) (fs : List NamedText) → Each (IsToldFile files) fs → IfFound (λ f. IsTold files name f.text.items) (find (λ f. bytes_eq name f.name) fs)
found_told files name [] h = tt
found_told files name (f ∷ fs) h = told_if files name (bytes_eq name f.name) f (find (λ f. bytes_eq name f.name) fs) (λ e. (bytes_decides name f.name).0 e) h.0 (found_told files name fs h.1)
