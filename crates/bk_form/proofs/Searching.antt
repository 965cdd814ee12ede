-- Where each test is decided, there is a search.
use Rattle.std.proofs.Common.{◌≡◌, ◌⊎◌, inl, inr, List, sym, ◌∙◌, ap, Bool, true, false}
use Rattle.std.specs.Prelude.{Option, Some, None, is_none}
use Rattle.bk_val.specs.Value.{MathValue}
use Rattle.bk_form.specs.Laws.{SearchExists}

-- some list passes the test, or none does
abbrev Decided : (List MathValue → Bool) → Type 0
Decided test = ((vs : List MathValue) × (test vs ≡ true)) ⊎ ((vs : List MathValue) → test vs ≡ false)

-- the list that passes
abbrev answer : (test : List MathValue → Bool) → Decided test → Option (List MathValue)
answer test (inl passing) = Some passing.0
answer test (inr none) = None

abbrev found_or : List MathValue → Option (List MathValue) → List MathValue
found_or vs (Some us) = us
found_or vs None = vs

answer-found : (test : List MathValue → Bool) (d : Decided test) (vs : List MathValue) → answer test d ≡ Some vs → test vs ≡ true
answer-found test (inl passing) vs h = sym (ap test (ap (found_or vs) h)) ∙ passing.1
answer-found test (inr none) vs h = let never : true ≡ false = ap is_none h in absurd (cc)

answer-none : (test : List MathValue → Bool) (d : Decided test) → answer test d ≡ None → (vs : List MathValue) → test vs ≡ false
answer-none test (inl passing) h = let never : false ≡ true = ap is_none h in absurd (cc)
answer-none test (inr none) h = none

pub search-exists : SearchExists
search-exists decide = ((λ test. answer test (decide test)), record { found = λ test. answer-found test (decide test); none = λ test. answer-none test (decide test) })
