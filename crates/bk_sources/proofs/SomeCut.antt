-- A text has tokens, or is at fault.
use Rattle.std.specs.Prelude.{◌≡◌, ◌≢◌, ℕ, zero, suc, ◌+◌, ◌<◌, ◌≤◌, List, [], ◌∷◌, ◌++◌, length, take, drop, codes, refl}
use Rattle.std.specs.Str.{IsUtf8, IsValidUpTo}
use Rattle.std.proofs.Common.{inl, inr, arith, ap, subst, ◌∙◌, append_assoc, length-append, take_all}
use Rattle.std.specs.List.{prefix_len}
use Rattle.std.proofs.lemmas.Bool.{cases_lt}
use Rattle.bk_limits.specs.declared.TheConstants.{MOST_TOKENS}
use Rattle.bk_form.specs.declared.token.Token.{Token}
use Rattle.bk_form.specs.declared.token.TokenKind.{TokenKind}
use Rattle.bk_lex.specs.Lexis.{Gap, block, line, gap_text, IsGap, AreGaps, stays_in_line, NoComment, IsWritten, Fits, BeginsWith, Cut}
use Rattle.bk_lex.specs.Faults.{IsOpenComment, BeginsNothing, IsFaultOf as IsLexFaultOf}
use Rattle.bk_lex.specs.Parts.{NoGap, IsRun}
use Rattle.bk_lex.specs.Laws.{IsOfText}
use Rattle.bk_lex.specs.declared.fault.LexFault.{LexFault}
use Rattle.bk_lex.specs.declared.fault.LexFault.TheVariants.{NotUtf8, BadChar, OpenComment, NumberTooWide, Limit}
use Rattle.bk_lex.proofs.Cutting.{cut_gaps, cut_token, begins_some, length-pushed}
use Rattle.bk_lex.proofs.Gaps.{gap_shorter, line_gap}
use Rattle.bk_lex.proofs.Runs.{run_at}
use Rattle.bk_sources.specs.Files.{Has, IsCut}
use Rattle.bk_sources.specs.Laws.{TextsAreCut}
use Rattle.bk_sources.proofs.Neither.{some_greatest, some_least, missing}

-- ---- the longest front that is UTF-8
abbrev IsFront : List ℕ → ℕ → Type 0
IsFront text n = (n ≤ length text) × IsUtf8 (take n text)

pub some_utf8 : (text : List ℕ) → (IsUtf8 text → ⊥) → ((place : ℕ) → IsValidUpTo text place → ⊥) → ⊥
some_utf8 text not_utf8 never = some_greatest (IsFront text) (λ n. n) (length text) (λ n p. p.0) 0 (omega arith, ([], (refl, refl))) valid
  where
    whole : (n : ℕ) → length text ≤ n → IsUtf8 (take n text) → ⊥
    whole n l u = not_utf8 (subst IsUtf8 (take_all n text l) u)

    valid : (n : ℕ) → IsFront text n → ((m : ℕ) → IsFront text m → m ≤ n) → ⊥
    valid n p most = elim (cases_lt n (length text)) [
      | inl s ↦ never n (record { short = s; front = p.1; longest = longest })
      | inr s ↦ whole n s p.1
    ]
      where
        longest : (m : ℕ) → n < m → IsUtf8 (take m text) → ⊥
        longest m l u = elim (cases_lt (length text) m) [
          | inl s ↦ whole m (omega (arith, s)) u
          | inr s ↦ absurd (omega (arith, l, most m (s, u)))
        ]

-- ---- blanks and comments
-- what stands behind them all, or a comment that is open
abbrev Behind : List ℕ → Type 0
Behind text = ((gaps : List Gap) (rest : List ℕ) → AreGaps gaps text rest → NoGap rest → ⊥) → ((gaps : List Gap) (rest : List ℕ) → AreGaps gaps text rest → IsOpenComment rest → ⊥) → ⊥

-- where no blank, no closed comment and no comment of a line begins, and no open one
abbrev IsClosed : List ℕ → List ℕ → Type 0
IsClosed body front = (back : List ℕ) × (body ≡ front ++ codes "*/" ++ back)

no_comment : (text : List ℕ) → ((gap : Gap) (after : List ℕ) → IsGap gap after → text ≢ gap_text gap ++ after) → (IsOpenComment text → ⊥) → NoComment text
no_comment text none not_open = record { no_block = no_block; no_line = no_line }
  where
    no_block : (body : List ℕ) → text ≢ codes "/*" ++ body
    no_block body e = not_open (record { body = body; opens = e; unclosed = unclosed })
      where
        first : (front : List ℕ) → IsClosed body front → ((other : List ℕ) → IsClosed body other → length front ≤ length other) → ⊥
        first front c least = none (block front) c.0 (λ f b i. least f (b ++ c.0, c.1 ∙ ap (λ us. us ++ c.0) i ∙ append_assoc (f ++ codes "*/") b c.0)) (e ∙ ap (λ us. codes "/*" ++ us) c.1)

        unclosed : (front back : List ℕ) → body ≢ front ++ codes "*/" ++ back
        unclosed front back i = some_least (IsClosed body) length front (back, i) first

    no_line : (body : List ℕ) → text ≢ codes "//" ++ body
    no_line body e =
        let n = length (take (prefix_len stays_in_line body) body) in
        let r : IsRun stays_in_line body (take n body) (drop n body) = run_at stays_in_line body n refl in
        none (line (take n body)) (drop n body) (line_gap body (take n body) (drop n body) r) (e ∙ ap (λ us. codes "//" ++ us) r.splits)

behind_all : (text : List ℕ) → ((after : List ℕ) → length after < length text → Behind after) → Behind text
behind_all text again done unclosed = done [] text refl (record { no_gap = none; comment = no_comment text none (unclosed [] text refl) })
  where
    none : (gap : Gap) (after : List ℕ) → IsGap gap after → text ≢ gap_text gap ++ after
    none gap after g e = again after (gap_shorter gap text after e)
        (λ gaps rest a b. done (gap ∷ gaps) rest (after, e, g, a) b)
        (λ gaps rest a b. unclosed (gap ∷ gaps) rest (after, e, g, a) b)

behind_by : (n : ℕ) (text : List ℕ) → length text < n → Behind text
behind_by zero text l = absurd (omega (arith, l))
behind_by (suc n) text l = behind_all text (λ after s. behind_by n after (omega (arith, l, s)))

behind : (text : List ℕ) → Behind text
behind text = behind_by (suc (length text)) text (omega arith)

gaps_shorter : (gaps : List Gap) (text rest : List ℕ) → AreGaps gaps text rest → length rest ≤ length text
gaps_shorter [] text rest a = omega (arith, ap length a)
gaps_shorter (g ∷ gaps) text rest a = omega (arith, gaps_shorter gaps a.0 rest a.3, gap_shorter g text a.0 a.1)

-- ---- a token
abbrev Written : Type 0
Written = TokenKind × List ℕ × List ℕ

abbrev IsInFront : List ℕ → Written → Type 0
IsInFront text w = IsWritten w.0 w.1 × (text ≡ w.1 ++ w.2)

some_token : (text : List ℕ) → 0 < length text → NoGap text → (BeginsNothing text → ⊥) → ((kind : TokenKind) (after : List ℕ) → BeginsWith kind text after → ⊥) → ⊥
some_token text some n not_nothing not_token = not_nothing (record { some = some; no_gap = n.no_gap; no_token = λ kind written after w e. some_greatest (IsInFront text) (λ w. length w.1) (length text) within (kind, written, after) (w, e) longest })
  where
    within : (w : Written) → IsInFront text w → length w.1 ≤ length text
    within w p = omega (arith, ap length p.1, length-append w.1 w.2)

    longest : (w : Written) → IsInFront text w → ((o : Written) → IsInFront text o → length o.1 ≤ length w.1) → ⊥
    longest w p most = not_token w.0 w.2 (record { written = w.1; spelling = p.0; splits = p.1; longest = λ other more after v e. most (other, more, after) (v, e); comment = n.comment })

-- ---- token by token
module _ (text : List ℕ) (utf8 : IsUtf8 text) (not_cut : Has IsCut text → ⊥) (no_fault : (fault : LexFault) → IsOfText fault → IsLexFaultOf text fault → ⊥) where
  abbrev Goes : ℕ → Type 0
  Goes n = (found : List Token) (rest : List ℕ) → length found ≤ MOST_TOKENS → Cut (length text) text found rest → length rest ≤ length text → length rest < n → ⊥

  module _ (found : List Token) (few : length found ≤ MOST_TOKENS) where
    -- one that fits
    fitting : (n : ℕ) → Goes n → (here after : List ℕ) (kind : TokenKind) (place : ℕ) → Cut (length text) text found here → place + length here ≡ length text → length here ≤ n → BeginsWith kind here after → Fits kind → ⊥
    fitting n goes here after kind place c p l b f = elim (cases_lt (length found) MOST_TOKENS) [
      | inl s ↦ goes (found ++ token ∷ []) after (omega (arith, s, length-pushed found (found ++ token ∷ []) token refl)) (cut_token (length text) text found here token after c b f p end.1) (omega (arith, p, less)) (omega (arith, l, less))
      | inr s ↦ no_fault (Limit place) tt (utf8, found, record { rest = here; cut = c; left = p; this = record { kind = kind; after = after; begins = b; fits = f } }, omega (arith, few, s))
    ]
      where
        less : length after < length here
        less = begins_some kind here after b

        end : (k : ℕ) × (k + length after ≡ length text)
        end = missing (length after) (length text) (omega (arith, less, p))

        token : Token
        token = record { kind = kind; start = place; end = end.0 }

    -- behind blanks and comments
    standing : (n : ℕ) → Goes n → (here : List ℕ) (place : ℕ) → Cut (length text) text found here → place + length here ≡ length text → length here ≤ n → NoGap here → ⊥
    standing n goes [] place c p l g = not_cut (found, record { cut = (utf8, c); few = few })
    standing n goes (d ∷ ds) place c p l g = some_token (d ∷ ds) (omega arith) g
        (λ b. no_fault (BadChar place) tt (utf8, found, record { rest = d ∷ ds; cut = c; left = p; this = b }, few))
        (λ kind after b. no_fault (NumberTooWide place) tt (utf8, found, record { rest = d ∷ ds; cut = c; left = p; this = record { kind = kind; after = after; begins = b; wide = λ f. fitting n goes (d ∷ ds) after kind place c p l b f } }, few))

  goes_on : (n : ℕ) → Goes n → (found : List Token) (rest : List ℕ) → length found ≤ MOST_TOKENS → Cut (length text) text found rest → length rest ≤ length text → length rest ≤ n → ⊥
  goes_on n goes found rest few c w l = behind rest done unclosed
    where
      at : (gaps : List Gap) (here : List ℕ) → AreGaps gaps rest here → (k : ℕ) × (k + length here ≡ length text)
      at gaps here a = missing (length here) (length text) (omega (arith, w, gaps_shorter gaps rest here a))

      done : (gaps : List Gap) (here : List ℕ) → AreGaps gaps rest here → NoGap here → ⊥
      done gaps here a g =
          let k = at gaps here a in
          standing found few n goes here k.0 (cut_gaps (length text) text found rest here gaps c a) k.1 (omega (arith, l, gaps_shorter gaps rest here a)) g

      unclosed : (gaps : List Gap) (here : List ℕ) → AreGaps gaps rest here → IsOpenComment here → ⊥
      unclosed gaps here a o =
          let k = at gaps here a in
          no_fault (OpenComment k.0) tt (utf8, found, record { rest = here; cut = cut_gaps (length text) text found rest here gaps c a; left = k.1; this = o }, few)

  goes_all : (n : ℕ) → Goes n
  goes_all zero found rest few c w l = absurd (omega (arith, l))
  goes_all (suc n) found rest few c w l = goes_on n (goes_all n) found rest few c w (omega (arith, l))

  not_utf8 : ⊥
  not_utf8 = goes_all (suc (length text)) [] text (omega arith) ([], refl) (omega arith) (omega arith)

pub texts_are_cut : TextsAreCut
texts_are_cut text not_cut no_fault =
    let not_text : IsUtf8 text → ⊥ = λ utf8. not_utf8 text utf8 not_cut no_fault in
    some_utf8 text not_text (λ place v. no_fault (NotUtf8 place) tt (not_text, v))
