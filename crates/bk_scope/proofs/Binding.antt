-- Names that are bound stand in front of those around, the last one in front.
use Rattle.std.proofs.Common.{◌≡◌, refl, sym, ap, ◌∙◌, ◌+◌, ◌<◌, ◌≤◌, ℕ, suc, List, [], ◌∷◌, ◌++◌, length, get_or, drop, arith}
use Rattle.std.proofs.lemmas.List.{drop_more, at_drop_all, get_or_default, map-append}
use Rattle.std.specs.Borrow.{Bor}
use Rattle.bk_form.specs.Role.{bind}
use Rattle.bk_raw.specs.declared.term.RawName.{RawName}
use Rattle.bk_raw.specs.Meaning.Names.{Names, Named}
use Rattle.bk_elab_terms.specs.Visible.{visible_names, meaning_of}
use Rattle.bk_elab_terms.specs.declared.sight.Visible.{Visible}
use Rattle.bk_scope.specs.Shown.{numbered_texts, refs}
use Rattle.bk_statics.specs.Typings.{numbered, as_variable}

seam : {A : Type 0} (xs : List A) (y : A) (ys : List A) → xs ++ y ∷ ys ≡ (xs ++ y ∷ []) ++ ys
seam [] y ys = refl
seam (x ∷ xs) y ys = ap (λ zs. x ∷ zs) (seam xs y ys)

-- the names around stand behind
pub bind-behind : {A : Type 0} (xs around : List A) → bind xs around ≡ bind xs [] ++ around
bind-behind [] around = refl
bind-behind (x ∷ xs) around = bind-behind xs (x ∷ around) ∙ seam (bind xs []) x around ∙ ap (λ ys. ys ++ around) (sym (bind-behind xs (x ∷ [])))

-- one name more from behind
pub bind-one : {A : Type 0} (xs : List A) (x : A) → bind (x ∷ xs) [] ≡ bind xs [] ++ x ∷ []
bind-one xs x = bind-behind xs (x ∷ [])

pub numbered-drop : (first n : ℕ) (bs : List RawName) (d : RawName) → n < length bs → bind (numbered (first + n) (drop n bs)) [] ≡ bind (numbered (first + (n + 1)) (drop (n + 1) bs)) [] ++ as_variable (get_or bs n d).text (first + n) ∷ []
numbered-drop first n bs d lt =
    let next : suc (first + n) ≡ first + (n + 1) = omega arith in
    ap (λ ds. bind (numbered (first + n) ds) []) (drop_more bs n d lt)
    ∙ bind-one (numbered (suc (first + n)) (drop (n + 1) bs)) (as_variable (get_or bs n d).text (first + n))
    ∙ ap (λ m. bind (numbered m (drop (n + 1) bs)) [] ++ as_variable (get_or bs n d).text (first + n) ∷ []) next

pub texts-drop : (first n : ℕ) (bs : List (List ℕ)) (d : List ℕ) → n < length bs → bind (numbered_texts (first + n) (drop n bs)) [] ≡ bind (numbered_texts (first + (n + 1)) (drop (n + 1) bs)) [] ++ as_variable (get_or bs n d) (first + n) ∷ []
texts-drop first n bs d lt =
    let next : suc (first + n) ≡ first + (n + 1) = omega arith in
    ap (λ ds. bind (numbered_texts (first + n) ds) []) (drop_more bs n d lt)
    ∙ bind-one (numbered_texts (suc (first + n)) (drop (n + 1) bs)) (as_variable (get_or bs n d) (first + n))
    ∙ ap (λ m. bind (numbered_texts m (drop (n + 1) bs)) [] ++ as_variable (get_or bs n d) (first + n) ∷ []) next

-- ---- what a loop from behind has put together
abbrev name_of : Visible → Named
name_of v = record { text = v.text.now; meaning = meaning_of v.meaning }

pub names-append : (vs ws : List Visible) → visible_names (vs ++ ws) ≡ visible_names vs ++ visible_names ws
names-append vs ws = map-append name_of vs ws

-- one variable more, whose text and number these are
pub names-push : (vs : List Visible) (v : Visible) (x y : List ℕ) (n m : ℕ) → visible_names (v ∷ []) ≡ as_variable x n ∷ [] → x ≡ y → n ≡ m → visible_names (vs ++ v ∷ []) ≡ visible_names vs ++ as_variable y m ∷ []
names-push vs v x y n m is texts numbers =
    names-append vs (v ∷ []) ∙ ap (λ ys. visible_names vs ++ ys) is ∙ ap (λ z. visible_names vs ++ as_variable z n ∷ []) texts ∙ ap (λ k. visible_names vs ++ as_variable y k ∷ []) numbers

pub bound-step : (first old n number : ℕ) (bs : List RawName) (b : RawName) (names new : List Visible) (v : Visible)
    → old ≡ n + 1 → n < length bs → number ≡ first + n → b ≡ get_or bs n b → visible_names (v ∷ []) ≡ as_variable b.text number ∷ []
    → visible_names names ≡ bind (numbered (first + old) (drop old bs)) [] → new ≡ names ++ v ∷ []
    → visible_names new ≡ bind (numbered (first + n) (drop n bs)) []
bound-step first old n number bs b names new v is lt at here named before pushed =
    ap (λ ns. visible_names ns) pushed
    ∙ names-push names v b.text (get_or bs n b).text number (first + n) named (ap (λ (x : RawName). x.text) here) at
    ∙ ap (λ ns. ns ++ as_variable (get_or bs n b).text (first + n) ∷ []) (before ∙ ap (λ k. bind (numbered (first + k) (drop k bs)) []) is)
    ∙ sym (numbered-drop first n bs b lt)

pub texts-step : (first old n number : ℕ) (bs : List (List ℕ)) (b : List ℕ) (names new : List Visible) (v : Visible)
    → old ≡ n + 1 → n < length bs → number ≡ first + n → b ≡ get_or bs n b → visible_names (v ∷ []) ≡ as_variable b number ∷ []
    → visible_names names ≡ bind (numbered_texts (first + old) (drop old bs)) [] → new ≡ names ++ v ∷ []
    → visible_names new ≡ bind (numbered_texts (first + n) (drop n bs)) []
texts-step first old n number bs b names new v is lt at here named before pushed =
    ap (λ ns. visible_names ns) pushed
    ∙ names-push names v b (get_or bs n b) number (first + n) named here at
    ∙ ap (λ ns. ns ++ as_variable (get_or bs n b) (first + n) ∷ []) (before ∙ ap (λ k. bind (numbered_texts (first + k) (drop k bs)) []) is)
    ∙ sym (texts-drop first n bs b lt)

refs-drop : (n : ℕ) (bs : List (Bor RawName)) (d : Bor RawName) → n < length bs → refs (drop n bs) ≡ (get_or bs n d).now ∷ refs (drop (n + 1) bs)
refs-drop n bs d lt = ap (λ ds. refs ds) (drop_more bs n d lt)

pub refs-step : (first old n number : ℕ) (bs : List (Bor RawName)) (b : Bor RawName) (names new : List Visible) (v : Visible)
    → old ≡ n + 1 → n < length bs → number ≡ first + n → b ≡ get_or bs n b → visible_names (v ∷ []) ≡ as_variable b.now.text number ∷ []
    → visible_names names ≡ bind (numbered (first + old) (refs (drop old bs))) [] → new ≡ names ++ v ∷ []
    → visible_names new ≡ bind (numbered (first + n) (refs (drop n bs))) []
refs-step first old n number bs b names new v is lt at here named before pushed =
    let next : first + (n + 1) ≡ suc (first + n) = omega arith in
    ap (λ ns. visible_names ns) pushed
    ∙ names-push names v b.now.text (get_or bs n b).now.text number (first + n) named (ap (λ (x : Bor RawName). x.now.text) here) at
    ∙ ap (λ ns. ns ++ as_variable (get_or bs n b).now.text (first + n) ∷ []) (before ∙ ap (λ k. bind (numbered (first + k) (refs (drop k bs))) []) is ∙ ap (λ k. bind (numbered k (refs (drop (n + 1) bs))) []) next)
    ∙ sym (ap (λ ds. bind (numbered (first + n) ds) []) (refs-drop n bs b lt) ∙ bind-one (numbered (suc (first + n)) (refs (drop (n + 1) bs))) (as_variable (get_or bs n b).now.text (first + n)))

visible-drop : (n : ℕ) (bs : List Visible) (d : Visible) → n < length bs → visible_names (drop n bs) ≡ name_of (get_or bs n d) ∷ visible_names (drop (n + 1) bs)
visible-drop n bs d lt = ap (λ ds. visible_names ds) (drop_more bs n d lt)

names-step : (old n : ℕ) (bs : List Visible) (b : Visible) (names new : List Visible)
    → old ≡ n + 1 → n < length bs → b ≡ get_or bs n b
    → visible_names names ≡ bind (visible_names (drop old bs)) [] → new ≡ names ++ b ∷ []
    → visible_names new ≡ bind (visible_names (drop n bs)) []
names-step old n bs b names new is lt here before pushed =
    ap (λ ns. visible_names ns) pushed
    ∙ names-append names (b ∷ [])
    ∙ ap (λ x. visible_names names ++ name_of x ∷ []) here
    ∙ ap (λ ns. ns ++ name_of (get_or bs n b) ∷ []) (before ∙ ap (λ k. bind (visible_names (drop k bs)) []) is)
    ∙ sym (ap (λ ds. bind ds []) (visible-drop n bs b lt) ∙ bind-one (visible_names (drop (n + 1) bs)) (name_of (get_or bs n b)))

pub names-step-at : (old n : ℕ) (bs : List Visible) (d : Visible) (names new : List Visible)
    → old ≡ n + 1 → n < length bs
    → visible_names names ≡ bind (visible_names (drop old bs)) [] → new ≡ names ++ get_or bs n d ∷ []
    → visible_names new ≡ bind (visible_names (drop n bs)) []
names-step-at old n bs d names new is lt before pushed = names-step old n bs (get_or bs n d) names new is lt (get_or_default bs n d (get_or bs n d) lt) before pushed

-- before the first one
pub bound-start : (first n : ℕ) (bs : List RawName) → length bs ≤ n → [] ≡ bind (numbered (first + n) (drop n bs)) []
bound-start first n bs le = sym (at_drop_all (λ ds. bind (numbered (first + n) ds) []) bs n le)

pub texts-start : (first n : ℕ) (bs : List (List ℕ)) → length bs ≤ n → [] ≡ bind (numbered_texts (first + n) (drop n bs)) []
texts-start first n bs le = sym (at_drop_all (λ ds. bind (numbered_texts (first + n) ds) []) bs n le)

pub refs-start : (first n : ℕ) (bs : List (Bor RawName)) → length bs ≤ n → [] ≡ bind (numbered (first + n) (refs (drop n bs))) []
refs-start first n bs le = sym (at_drop_all (λ ds. bind (numbered (first + n) (refs ds)) []) bs n le)

pub names-start : (n : ℕ) (bs : List Visible) → length bs ≤ n → [] ≡ bind (visible_names (drop n bs)) []
names-start n bs le = sym (at_drop_all (λ ds. bind (visible_names ds) []) bs n le)

-- with the names around behind them
pub bound-end : (xs : Names) (names new around : List Visible) → visible_names names ≡ bind xs [] → new ≡ names ++ around → visible_names new ≡ bind xs (visible_names around)
bound-end xs names new around is all =
    ap (λ ns. visible_names ns) all ∙ names-append names around ∙ ap (λ ns. ns ++ visible_names around) is ∙ sym (bind-behind xs (visible_names around))

pub from-start : (first n : ℕ) (bs : List RawName) → n ≡ 0 → bind (numbered (first + n) (drop n bs)) [] ≡ bind (numbered first bs) []
from-start first n bs is =
    let same : first + n ≡ first = omega arith in
    ap (λ k. bind (numbered k (drop n bs)) []) same ∙ ap (λ k. bind (numbered first (drop k bs)) []) is

pub texts-from-start : (first n : ℕ) (bs : List (List ℕ)) → n ≡ 0 → bind (numbered_texts (first + n) (drop n bs)) [] ≡ bind (numbered_texts first bs) []
texts-from-start first n bs is =
    let same : first + n ≡ first = omega arith in
    ap (λ k. bind (numbered_texts k (drop n bs)) []) same ∙ ap (λ k. bind (numbered_texts first (drop k bs)) []) is

pub refs-from-start : (first n : ℕ) (bs : List (Bor RawName)) → n ≡ 0 → bind (numbered (first + n) (refs (drop n bs))) [] ≡ bind (numbered first (refs bs)) []
refs-from-start first n bs is =
    let same : first + n ≡ first = omega arith in
    ap (λ k. bind (numbered k (refs (drop n bs))) []) same ∙ ap (λ k. bind (numbered first (refs (drop k bs))) []) is

pub names-from-start : (n : ℕ) (bs : List Visible) → n ≡ 0 → bind (visible_names (drop n bs)) [] ≡ bind (visible_names bs) []
names-from-start n bs is = ap (λ k. bind (visible_names (drop k bs)) []) is
