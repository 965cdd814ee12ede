-- Files are told, or at fault.
use Rattle.std.specs.Prelude.{◌≡◌, ◌⊎◌, ℕ, zero, suc, ◌+◌, ◌<◌, ◌≤◌, List, [], ◌∷◌, ◌++◌, length, take, All, refl}
use Rattle.std.specs.Str.{IsUtf8}
use Rattle.std.proofs.Common.{inl, inr, arith, ap, subst, length-append}
use Rattle.std.proofs.lemmas.Bool.{cases_lt}
use Rattle.bk_form.specs.declared.token.Token.{Token}
use Rattle.bk_lex.specs.Faults.{IsFaultOf as IsLexFaultOf}
use Rattle.bk_lex.specs.Laws.{IsOfText}
use Rattle.bk_lex.specs.declared.fault.LexFault.{LexFault}
use Rattle.bk_lex.specs.declared.fault.LexFault.TheVariants.{NotUtf8, BadChar, OpenComment, NumberTooWide, Limit as LexLimit, Memory as LexMemory}
use Rattle.bk_raw.specs.Grammar.Brackets.{open_brackets, open_blocks}
use Rattle.bk_raw.specs.Errors.Limits.{IsWithinDepth, IsShallow, IsTooDeep}
use Rattle.bk_sources.specs.declared.fault.FileFault.{FileFault}
use Rattle.bk_sources.specs.declared.fault.FileFault.TheVariants.{Fault, Limit}
use Rattle.bk_sources.specs.Files.{Has, IsCut, IsShallowText, IsNoToken, HasTooMany, IsFirst, IsFaultOf}
use Rattle.bk_sources.specs.Laws.{FilesAreTold, IsOfFiles}
use Rattle.bk_sources.proofs.Turns.{all_middle}
use Rattle.bk_sources.proofs.Neither.{some_greatest, all_or_first}
use Rattle.bk_sources.proofs.SomeCut.{some_utf8, texts_are_cut}

-- ---- depth
within_or : (tokens : List Token) → IsWithinDepth tokens ⊎ (IsWithinDepth tokens → ⊥)
within_or tokens = elim (cases_lt 400 (open_brackets tokens)) [
  | inl s ↦ inr (λ w. omega (arith, s, w.0))
  | inr s ↦ elim (cases_lt 400 (open_blocks tokens)) [
    | inl r ↦ inr (λ w. omega (arith, r, w.1))
    | inr r ↦ inl (s, r)
  ]
]

abbrev WithinUpTo : List Token → ℕ → Type 0
WithinUpTo tokens n = (k : ℕ) → k ≤ n → IsWithinDepth (take k tokens)

abbrev Reached : List Token → ℕ → Type 0
Reached tokens n = WithinUpTo tokens n ⊎ ((place : ℕ) × IsTooDeep tokens place)

one_further : (tokens : List Token) (n : ℕ) → n < length tokens → Reached tokens n → IsWithinDepth (take (n + 1) tokens) ⊎ (IsWithinDepth (take (n + 1) tokens) → ⊥) → Reached tokens (n + 1)
one_further tokens n l (inr d) w = inr d
one_further tokens n l (inl h) (inl w) = inl (λ k m. elim (cases_lt n k) [
  | inl s ↦ (let e : n + 1 ≡ k = omega (arith, m, s) in subst (λ i. IsWithinDepth (take i tokens)) e w)
  | inr s ↦ h k s
])
one_further tokens n l (inl h) (inr w) = inr (n, record { inside = l; deep = w; first = h })

reached : (tokens : List Token) (n : ℕ) → n ≤ length tokens → Reached tokens n
reached tokens zero l = inl (λ k m. (let e : 0 ≡ k = omega (arith, m) in subst (λ i. IsWithinDepth (take i tokens)) e (omega arith, omega arith)))
reached tokens (suc n) l =
    let e : n + 1 ≡ suc n = omega arith in
    subst (Reached tokens) e (one_further tokens n (omega (arith, l)) (reached tokens n (omega (arith, l))) (within_or (take (n + 1) tokens)))

pub shallow_or_deep : (tokens : List Token) → IsShallow tokens ⊎ ((place : ℕ) × IsTooDeep tokens place)
shallow_or_deep tokens = reached tokens (length tokens) (omega arith)

-- ---- pass by pass
-- the first at fault
pub the_first : {A : Type 0} {Fine Bad : A → Type 0} {items : List A} (before : List A) (item : A) (after : List A) → items ≡ before ++ item ∷ after → All Fine before → Bad item → IsFirst Fine Bad items (length before)
the_first before item after e h b = record { before = before; item = item; after = after; splits = e; counted = refl; fine = h; faulty = b }

module _ (texts : List (List ℕ)) (not_told : All (Has IsShallowText) texts → ⊥) (no_fault : (fault : FileFault) → IsOfFiles fault → IsFaultOf texts fault → ⊥) where
  no_depth : All (Has IsCut) texts → ⊥
  no_depth c = all_or_first (Has IsShallowText) texts not_told deep
    where
      by : (before : List (List ℕ)) (text : List ℕ) (after : List (List ℕ)) → texts ≡ before ++ text ∷ after → All (Has IsShallowText) before → (Has IsShallowText text → ⊥) → (p : Has IsCut text) → IsShallow p.0 ⊎ ((place : ℕ) × IsTooDeep p.0 place) → ⊥
      by before text after e h n p (inl s) = n (p.0, record { cut = p.1; shallow = s })
      by before text after e h n p (inr d) = no_fault (Limit 3 (length before)) tt (inr (refl, c, the_first before text after e h (p.0, p.1, d.0, d.1)))

      deep : (before : List (List ℕ)) (text : List ℕ) (after : List (List ℕ)) → texts ≡ before ++ text ∷ after → All (Has IsShallowText) before → (Has IsShallowText text → ⊥) → ⊥
      deep before text after e h n =
          let p : Has IsCut text = all_middle (Has IsCut) before text after (subst (All (Has IsCut)) e c) in
          by before text after e h n p (shallow_or_deep p.0)

  no_cut : All IsUtf8 texts → ⊥
  no_cut u = all_or_first (Has IsCut) texts no_depth (λ before text after e h n. texts_are_cut text n (by before text after e h))
    where
      by : (before : List (List ℕ)) (text : List ℕ) (after : List (List ℕ)) → texts ≡ before ++ text ∷ after → All (Has IsCut) before → (fault : LexFault) → IsOfText fault → IsLexFaultOf text fault → ⊥
      by before text after e h (NotUtf8 place) o f = f.0 (all_middle IsUtf8 before text after (subst (All IsUtf8) e u))
      by before text after e h (BadChar place) o f = no_fault (Fault 2 (length before) place) tt (inr (refl, u, the_first {Bad = IsNoToken place} before text after e h (inl f)))
      by before text after e h (OpenComment place) o f = no_fault (Fault 2 (length before) place) tt (inr (refl, u, the_first {Bad = IsNoToken place} before text after e h (inr (inl f))))
      by before text after e h (NumberTooWide place) o f = no_fault (Fault 2 (length before) place) tt (inr (refl, u, the_first {Bad = IsNoToken place} before text after e h (inr (inr f))))
      by before text after e h (LexLimit place) o f = no_fault (Limit 2 (length before)) tt (inl (refl, u, the_first {Bad = HasTooMany} before text after e h (place, f)))
      by before text after e h LexMemory o f = o

  no_utf8 : ⊥
  no_utf8 = all_or_first IsUtf8 texts no_cut (λ before text after e h n. some_utf8 text n (λ place v. no_fault (Fault 1 (length before) place) tt (inl (refl, the_first before text after e h (n, v)))))

pub files_are_told : FilesAreTold
files_are_told texts not_told no_fault = no_utf8 texts not_told no_fault
