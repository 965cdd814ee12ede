-- Steps of the loops over rows.
use Rattle.std.proofs.Common.{◌≡◌, ℕ, zero, suc, ◌+◌, ◌<◌, ◌≤◌, ℤ, pos, ◌<ℤ◌, List, [], ◌∷◌, ◌++◌, take, length, get_or, All, subst, ap, sym, ◌∙◌, arith}
use Rattle.std.specs.Global.{Vec}
use Rattle.std.specs.List.{Contains}
use Rattle.std.proofs.lemmas.List.{map-append, take_all}
use Rattle.std.proofs.lemmas.Int.{ints}
use Rattle.std.proofs.lemmas.List.Elements.{Contains-append_left, Contains-push, All-more, All-push, All-weaker, All-same}
use Rattle.bk_elim.specs.Elimination.{entry, joined}
use Rattle.bk_elim.specs.Layout.{lists}

-- a pushed row is there, and so is each that was
pub lists-push : (out more : List (Vec ℤ)) (v : Vec ℤ) → more ≡ out ++ v ∷ [] → lists more ≡ lists out ++ v.items ∷ []
lists-push out more v h = ap lists h ∙ map-append (λ (w : Vec ℤ). w.items) out (v ∷ [])

pub still_there : (out more : List (Vec ℤ)) (v : Vec ℤ) (r : List ℤ) → more ≡ out ++ v ∷ [] → Contains (lists out) r → Contains (lists more) r
still_there out more v r h k = rw (lists-push out more v h) (Contains-append_left (lists out) (v.items ∷ []) r k)

pub now_there : (out more : List (Vec ℤ)) (v : Vec ℤ) (r : List ℤ) → more ≡ out ++ v ∷ [] → v.items ≡ r → Contains (lists more) r
now_there out more v r h k = rw (lists-push out more v h) (rw (← k) (Contains-push (lists out) v.items))

-- the element at an index, whatever it would be past the end
pub at_index : (row : List ℤ) (l : ℕ) (z : ℤ) → l < length row → z ≡ get_or row l z → z ≡ entry row l
at_index [] l z h e = absurd (omega arith)
at_index (x ∷ row) zero z h e = e
at_index (x ∷ row) (suc l) z h e = at_index row l z (omega arith) e

-- ---- rows that are kept
abbrev pub IsKept : ℕ → List (Vec ℤ) → Vec ℤ → Type 0
IsKept atom out v = entry v.items atom ≡ pos 0 → Contains (lists out) v.items

pub kept_more : (atom : ℕ) (rows out more : List (Vec ℤ)) (i : ℕ) (row copy : Vec ℤ) → i < length rows → row ≡ get_or rows i row → All (IsKept atom out) (take i rows) → more ≡ out ++ copy ∷ [] → copy.items ≡ row.items → All (IsKept atom more) (take (i + 1) rows)
kept_more atom rows out more i row copy below is before pushed same =
    All-more (IsKept atom more) rows i row below
    (All-weaker (IsKept atom out) (IsKept atom more) (λ v h none. still_there out more copy v.items pushed (h none)) (take i rows) before)
    (λ none. now_there out more copy (get_or rows i row).items pushed (same ∙ ap (λ (v : Vec ℤ). v.items) is))

pub kept_skip : (atom : ℕ) (rows out : List (Vec ℤ)) (i : ℕ) (row : Vec ℤ) → i < length rows → row ≡ get_or rows i row → All (IsKept atom out) (take i rows) → (entry row.items atom ≡ pos 0 → ⊥) → All (IsKept atom out) (take (i + 1) rows)
kept_skip atom rows out i row below is before other =
    All-more (IsKept atom out) rows i row below before
    (λ none. absurd (other (ap (λ (v : Vec ℤ). entry v.items atom) is ∙ none)))

-- ---- rows that are joined
abbrev pub IsJoined : ℕ → List ℤ → List (Vec ℤ) → Vec ℤ → Type 0
IsJoined atom p out v = entry v.items atom <ℤ pos 0 → Contains (lists out) (joined atom p v.items)

pub joined_more_rows : (atom : ℕ) (p : List ℤ) (rows out more : List (Vec ℤ)) (i : ℕ) (row new : Vec ℤ) → i < length rows → row ≡ get_or rows i row → All (IsJoined atom p out) (take i rows) → more ≡ out ++ new ∷ [] → new.items ≡ joined atom p row.items → All (IsJoined atom p more) (take (i + 1) rows)
joined_more_rows atom p rows out more i row new below is before pushed same =
    All-more (IsJoined atom p more) rows i row below
    (All-weaker (IsJoined atom p out) (IsJoined atom p more) (λ v h down. still_there out more new (joined atom p v.items) pushed (h down)) (take i rows) before)
    (λ down. now_there out more new (joined atom p (get_or rows i row).items) pushed (same ∙ ap (λ (v : Vec ℤ). joined atom p v.items) is))

pub joined_skip : (atom : ℕ) (p : List ℤ) (rows out : List (Vec ℤ)) (i : ℕ) (row : Vec ℤ) → i < length rows → row ≡ get_or rows i row → All (IsJoined atom p out) (take i rows) → (entry row.items atom <ℤ pos 0 → ⊥) → All (IsJoined atom p out) (take (i + 1) rows)
joined_skip atom p rows out i row below is before other =
    All-more (IsJoined atom p out) rows i row below before
    (λ down. absurd (other (let e = ap (λ (v : Vec ℤ). entry v.items atom) is in omega (arith, ints))))

-- all rows at the end of a loop
pub all_of : {X : Type 0} (P : X → Type 0) (xs : List X) (i : ℕ) → length xs ≤ i → All P (take i xs) → All P xs
all_of P xs i h all = All-same P xs (take i xs) (sym (take_all i xs h)) all

-- what holds of all holds of the one at hand
pub from_all : {X : Type 0} (P : X → Type 0) (xs : List X) (i : ℕ) (x : X) → i < length xs → x ≡ get_or xs i x → All P xs → P x
from_all P xs i x h e all = subst P (sym e) (all i x h)

pub pushed_all : {X : Type 0} (P : X → Type 0) (xs ys : List X) (x : X) → ys ≡ xs ++ x ∷ [] → All P xs → P x → All P ys
pushed_all P xs ys x h all here = All-same P ys (xs ++ x ∷ []) h (All-push P xs x all here)
