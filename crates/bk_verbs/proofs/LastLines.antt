-- The last line of a text, as it is looked for from the end.
use Rattle.std.proofs.Common.{◌≡◌, ℕ, ◌<◌, ◌≤◌, ◌-◌, ◌+◌, Bool, true, false, nat_eq, ◌||◌, List, [], ◌∷◌, ◌++◌, length, take, drop, get_or, refl, sym, ◌∙◌, ap, subst, arith}
use Rattle.std.proofs.lemmas.List.{take-append-drop, drop_more, length-drop}
use Rattle.bk_verbs.specs.Samples.{has_end_within, last_line}

-- a text that no line ends within is its last line
pub one_line : (text : List ℕ) → has_end_within text ≡ false → last_line text ≡ text
one_line [] none = refl
one_line (c ∷ cs) none = rw none refl

-- no line ends within a byte
pub short_line : (text : List ℕ) → length text ≤ 1 → has_end_within text ≡ false
short_line [] short = refl
short_line (c ∷ []) short = refl
short_line (c ∷ d ∷ cs) short = absurd (omega (arith, short))

-- a line feed that something stands behind ends a line within
ends_within : (front : List ℕ) (d : ℕ) (cs : List ℕ) → has_end_within (front ++ 10 ∷ d ∷ cs) ≡ true
ends_within [] d cs = refl
ends_within (x ∷ []) d cs = by (nat_eq x 10)
  where
    by : (b : Bool) → (b || true) ≡ true
    by true = refl
    by false = refl
ends_within (x ∷ y ∷ front) d cs = by (nat_eq x 10) (has_end_within (y ∷ front ++ 10 ∷ d ∷ cs)) (ends_within (y ∷ front) d cs)
  where
    by : (b more : Bool) → more ≡ true → (b || more) ≡ true
    by true more h = refl
    by false more h = h

-- and the last line stands behind it
behind_end : (front : List ℕ) (d : ℕ) (cs : List ℕ) → last_line (front ++ 10 ∷ d ∷ cs) ≡ last_line (d ∷ cs)
behind_end [] d cs = refl
behind_end (x ∷ front) d cs = rw (ends_within (x ∷ front) d cs) (behind_end front d cs)

-- ---- from a place on
module _ (text : List ℕ) (start : ℕ) where
  -- the last byte alone
  pub last_byte : start ≡ length text - 1 → has_end_within (drop start text) ≡ false
  last_byte is = short_line (drop start text) (omega (arith, is, length-drop start text))

  -- the byte before ends one
  pub found_end : 0 < start → start < length text → get_or text (start - 1) 0 ≡ 10 → has_end_within (drop start text) ≡ false → drop start text ≡ last_line text
  found_end some within feed none =
      let same : start - 1 + 1 ≡ start = omega (arith, some) in
      let behind : drop start text ≡ get_or text start 0 ∷ drop (start + 1) text = drop_more text start 0 within in
      let rest : drop (start - 1) text ≡ 10 ∷ drop start text =
      subst (λ n. drop (start - 1) text ≡ 10 ∷ drop n text) same (subst (λ c. drop (start - 1) text ≡ c ∷ drop (start - 1 + 1) text) feed (drop_more text (start - 1) 0 (omega (arith, some, within)))) in
      let whole : take (start - 1) text ++ 10 ∷ (get_or text start 0 ∷ drop (start + 1) text) ≡ text =
      ap (λ x. take (start - 1) text ++ 10 ∷ x) (sym behind) ∙ (ap (λ x. take (start - 1) text ++ x) (sym rest) ∙ take-append-drop (start - 1) text) in
      let last : last_line text ≡ last_line (drop start text) =
      ap last_line (sym whole) ∙ (behind_end (take (start - 1) text) (get_or text start 0) (drop (start + 1) text) ∙ ap last_line (sym behind)) in
      sym (last ∙ one_line (drop start text) none)

  -- there is none before
  pub no_end : start ≡ 0 → has_end_within (drop start text) ≡ false → drop start text ≡ last_line text
  no_end is none =
      let all : drop start text ≡ text = ap (λ n. drop n text) is in
      all ∙ sym (one_line text (subst (λ x. has_end_within x ≡ false) all none))
