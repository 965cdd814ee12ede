-- Files that are fetched one after another.
use Rattle.std.proofs.Common.{◌≡◌, ◌∙◌, ℕ, List, [], ◌∷◌, ◌++◌, map, take, length, get_or, Bor, ◌<◌, ◌≤◌, ◌+◌, ap, sym}
use Rattle.std.proofs.lemmas.List.{map-append, take_more, take_all}
use Rattle.bk_form.specs.Each.{Each}
use Rattle.bk_verbs.proofs.Fetching.{nows}
use Rattle.bk_proof_program.specs.declared.project.NamedText.{NamedText}

-- one more of which the same is so
pub each_more : {A : Type 0} (P : A → Type 0) (xs : List A) (x : A) → Each P xs → P x → Each P (xs ++ x ∷ [])
each_more P [] x h k = (k, tt)
each_more P (y ∷ ys) x h k = (h.0, each_more P ys x h.1 k)

abbrev pub names_in : List NamedText → List (List ℕ)
names_in files = map (λ f. f.name) files

pub named_more : (names : List (Bor (List ℕ))) (i : ℕ) (d : Bor (List ℕ)) (old new : List NamedText) (f : NamedText) → i < length names → new ≡ old ++ f ∷ [] → f.name ≡ (get_or names i d).now
    → names_in old ≡ nows (take i names) → names_in new ≡ nows (take (i + 1) names)
named_more names i d old new f l n s h =
    ap names_in n ∙ (map-append (λ f. f.name) old (f ∷ []) ∙ ((λ k. h k ++ s k ∷ []) ∙ sym (ap nows (take_more names i d l) ∙ map-append (λ r. r.now) (take i names) (get_or names i d ∷ []))))

pub named_all : (names : List (Bor (List ℕ))) (i : ℕ) (found : List NamedText) → length names ≤ i → names_in found ≡ nows (take i names) → names_in found ≡ nows names
named_all names i found l h = h ∙ ap nows (take_all i names l)
