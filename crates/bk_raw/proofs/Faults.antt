-- Where it is decided which fronts are whole, there is a longest whole one; so there is one, or there being none is impossible.
use Rattle.std.proofs.Common.{◌≡◌, ◌⊎◌, inl, inr, ◌≤◌, ◌<◌, ℕ, zero, suc, List, [], ◌∷◌, ◌++◌, length, refl, sym, ◌∙◌, ap, subst, arith, append_assoc, length-append}
use Rattle.bk_form.specs.declared.token.Token.{Token}
use Rattle.bk_raw.specs.Grammar.ScriptSpelling.{IsWholeScripts}
use Rattle.bk_raw.specs.Errors.Places.{IsWholeComponent, IsLongestWhole}
use Rattle.bk_raw.specs.Grammar.Laws.{IsDecided, AreFrontsDecided, DecidedIsOneOfBoth, OneOfBothHolds, DecidedScriptsAreOneOfBoth, OneOfBothHoldsOfScripts}
use Rattle.bk_raw.proofs.Insides.{same-front}

le-or-lt : (m n : ℕ) → (m ≤ n) ⊎ (n < m)
le-or-lt zero n = inl (omega arith)
le-or-lt (suc m) zero = inr (omega arith)
le-or-lt (suc m) (suc n) = up (le-or-lt m n)
  where
    up : (m ≤ n) ⊎ (n < m) → (suc m ≤ suc n) ⊎ (suc n < suc m)
    up (inl l) = inl (omega (arith, l))
    up (inr l) = inr (omega (arith, l))

eq-or-lt_of_le : {m n : ℕ} → m ≤ n → (m ≡ n) ⊎ (m < n)
eq-or-lt_of_le {m} {n} l = by-order (le-or-lt n m)
  where
    by-order : (n ≤ m) ⊎ (m < n) → (m ≡ n) ⊎ (m < n)
    by-order (inl k) = inl (omega (arith, l, k))
    by-order (inr k) = inr k

-- the longest of those that go at least so far, or there is none
abbrev Search : (List Token → Type 0) → List Token → List Token → Type 0
Search IsWhole front rest =
    ((f q : List Token) × (front ++ rest ≡ f ++ q) × IsWhole f × ((g p : List Token) → front ++ rest ≡ g ++ p → IsWhole g → length g ≤ length f))
    ⊎ ((g p : List Token) → front ++ rest ≡ g ++ p → length front ≤ length g → IsWhole g → ⊥)

is-front : (front rest g p : List Token) → front ++ rest ≡ g ++ p → length front ≡ length g → front ≡ g
is-front front rest g p e l = (same-front front g rest p e l).0

here : (IsWhole : List Token → Type 0) (front : List Token) (t : Token) (rest : List Token) → IsWhole front ⊎ (IsWhole front → ⊥) → Search IsWhole (front ++ t ∷ []) rest → Search IsWhole front (t ∷ rest)
here IsWhole front t rest w (inl s) = let e = append_assoc front (t ∷ []) rest in inl (s.0, s.1, sym e ∙ s.2, s.3, λ g p is k. s.4 g p (e ∙ is) k)
here IsWhole front t rest w (inr s) = by-front w
  where
    e : (front ++ t ∷ []) ++ rest ≡ front ++ t ∷ rest
    e = append_assoc front (t ∷ []) rest

    longer : (g p : List Token) → front ++ t ∷ rest ≡ g ++ p → IsWhole g → length front < length g → ⊥
    longer g p is k l = s g p (e ∙ is) (omega (arith, l, length-append front (t ∷ []))) k

    at-most : (g p : List Token) → front ++ t ∷ rest ≡ g ++ p → IsWhole g → (length g ≤ length front) ⊎ (length front < length g) → length g ≤ length front
    at-most g p is k (inl l) = l
    at-most g p is k (inr l) = absurd (longer g p is k l)

    none : (IsWhole front → ⊥) → (g p : List Token) → front ++ t ∷ rest ≡ g ++ p → IsWhole g → (length front ≡ length g) ⊎ (length front < length g) → ⊥
    none n g p is k (inl l) = n (subst IsWhole (sym (is-front front (t ∷ rest) g p is l)) k)
    none n g p is k (inr l) = longer g p is k l

    by-front : IsWhole front ⊎ (IsWhole front → ⊥) → Search IsWhole front (t ∷ rest)
    by-front (inl h) = inl (front, t ∷ rest, refl, h, λ g p is k. at-most g p is k (le-or-lt (length g) (length front)))
    by-front (inr n) = inr (λ g p is l k. none n g p is k (eq-or-lt_of_le l))

-- nothing is neither so nor not so
decided : (A : Type 0) → (IsDecided A → ⊥) → ⊥
decided A k = k (inr (λ a. k (inl a)))

at-end : (IsWhole : List Token → Type 0) (front : List Token) → IsDecided (IsWhole front) → Search IsWhole front []
at-end IsWhole front (inl h) = inl (front, [], refl, h, λ g p is k. omega (arith, ap length is, length-append front [], length-append g p))
at-end IsWhole front (inr n) = inr (λ g p is l k. n (subst IsWhole (sym (is-front front [] g p is (omega (arith, l, ap length is, length-append front [], length-append g p)))) k))

search : (IsWhole : List Token → Type 0) (tokens front rest : List Token) → AreFrontsDecided IsWhole tokens → tokens ≡ front ++ rest → Search IsWhole front rest
search IsWhole tokens front [] decide e = at-end IsWhole front (decide front [] e)
search IsWhole tokens front (t ∷ rest) decide e = here IsWhole front t rest (decide front (t ∷ rest) e) (search IsWhole tokens (front ++ t ∷ []) rest decide (e ∙ sym (append_assoc front (t ∷ []) rest)))

-- with no decision, what follows from a search cannot be impossible
not-unsearched : (IsWhole : List Token → Type 0) (front rest : List Token) → (Search IsWhole front rest → ⊥) → ⊥
not-unsearched IsWhole front [] k = decided (IsWhole front) (λ d. k (at-end IsWhole front d))
not-unsearched IsWhole front (t ∷ rest) k = decided (IsWhole front) (λ d. not-unsearched IsWhole (front ++ t ∷ []) rest (λ s. k (here IsWhole front t rest d s)))

longest-of : (IsWhole : List Token → Type 0) (tokens : List Token) → IsWhole [] → Search IsWhole [] tokens → (place : ℕ) × IsLongestWhole IsWhole tokens place
longest-of IsWhole tokens empty (inl s) = (length s.0, record { front = s.0; rest = s.1; splits = s.2; ends = refl; whole = s.3; longest = s.4 })
longest-of IsWhole tokens empty (inr n) = absurd (n [] tokens refl (omega arith) empty)

-- ---- components
pub component-or-fault : DecidedIsOneOfBoth
component-or-fault tokens decide (inl h) = inl h
component-or-fault tokens decide (inr n) =
    let l = longest-of IsWholeComponent tokens (inl refl) (search IsWholeComponent tokens [] tokens decide refl) in
    inr (l.0, record { none = λ c h. n (c, h); first = l.1 })

pub one-holds : OneOfBothHolds
one-holds tokens none unplaced = not-unsearched IsWholeComponent [] tokens (λ s. let l = longest-of IsWholeComponent tokens (inl refl) s in unplaced l.0 (record { none = none; first = l.1 }))

-- ---- proof files
pub scripts-or-fault : DecidedScriptsAreOneOfBoth
scripts-or-fault tokens decide (inl h) = inl h
scripts-or-fault tokens decide (inr n) =
    let l = longest-of IsWholeScripts tokens (inl ([], refl)) (search IsWholeScripts tokens [] tokens decide refl) in
    inr (l.0, record { none = λ ss h. n (ss, h); first = l.1 })

pub one-holds-of-scripts : OneOfBothHoldsOfScripts
one-holds-of-scripts tokens none unplaced = not-unsearched IsWholeScripts [] tokens (λ s. let l = longest-of IsWholeScripts tokens (inl ([], refl)) s in unplaced l.0 (record { none = none; first = l.1 }))
