-- Open brackets and blocks, token by token.
use Rattle.std.specs.Prelude.{◌≡◌, ℕ, zero, suc, ◌+◌, ◌<◌, ◌≤◌, Bool, List, [], ◌∷◌, length, take, refl}
use Rattle.std.proofs.Common.{get_or, arith, sym, subst, ◌∙◌, inl, inr}
use Rattle.std.proofs.lemmas.Bool.{cases_order}
use Rattle.bk_form.specs.declared.token.Token.{Token}
use Rattle.bk_form.specs.declared.token.TokenKind.{TokenKind}
use Rattle.bk_raw.specs.Grammar.Brackets.{count_open, open_behind}
use Rattle.bk_raw.specs.Errors.Limits.{IsWithinDepth}

pub count_more : (opens closes : TokenKind → Bool) (n : ℕ) (tokens : List Token) (i : ℕ) (d : Token) → i < length tokens → count_open opens closes n (take (suc i) tokens) ≡ open_behind opens closes (count_open opens closes n (take i tokens)) (get_or tokens i d).kind
count_more opens closes n [] i d l = elim l [ ]
count_more opens closes n (t ∷ ts) zero d l = refl
count_more opens closes n (t ∷ ts) (suc i) d l = count_more opens closes (open_behind opens closes n t.kind) ts i d (omega (arith, l))

-- one more token is counted
pub count_step : (opens closes : TokenKind → Bool) (tokens : List Token) (i : ℕ) (d : Token) (before after : ℕ) → i < length tokens → before ≡ count_open opens closes 0 (take i tokens) → after ≡ open_behind opens closes before (get_or tokens i d).kind → after ≡ count_open opens closes 0 (take (i + 1) tokens)
count_step opens closes tokens i d before after l b a = let e : i + 1 ≡ suc i = omega arith in rw e (a ∙ (λ j. open_behind opens closes (b j) (get_or tokens i d).kind) ∙ sym (count_more opens closes 0 tokens i d l))

-- what holds up to a place and behind the next token holds up to there
pub within_more : (tokens : List Token) (i : ℕ) → ((n : ℕ) → n ≤ i → IsWithinDepth (take n tokens)) → IsWithinDepth (take (i + 1) tokens) → (n : ℕ) → n ≤ i + 1 → IsWithinDepth (take n tokens)
within_more tokens i old new n l = elim (cases_order n (i + 1)) [ inl e ↦ subst (λ m. IsWithinDepth (take m tokens)) (sym e) new | inr h ↦ old n (omega (arith, h, l)) ]
