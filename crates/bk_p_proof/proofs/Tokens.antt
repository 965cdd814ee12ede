-- Names and numbers in front of tokens.
use Rattle.std.specs.Prelude.{◌≡◌, ℕ, pos, List, [], ◌∷◌, refl}
use Rattle.bk_form.specs.declared.token.Token.{Token}
use Rattle.bk_form.specs.declared.token.TokenKind.TheVariants.{Name, Number}
use Rattle.bk_raw.specs.Grammar.Pieces.{Just, Digits}
use Rattle.bk_raw.specs.Grammar.Spelling.{Declared}
use Rattle.bk_raw.proofs.SubOne.{one-name}
use Rattle.bk_raw.proofs.PartOne.{one-digits}
use Rattle.bk_p_expr.specs.Fronts.{Longest}
use Rattle.bk_p_proof.specs.Ahead.{Ahead}
use Rattle.bk_p_proof.proofs.Cuts.{IsPrefixFree, free_single, just_longest}

-- ---- numbers
pub digits_longest : (tokens rest : List Token) (n : ℕ) → Ahead (Number (pos n)) tokens rest → Longest Digits tokens n rest
digits_longest tokens rest n a = just_longest Digits (λ m. Number (pos m)) (λ m ts h. h) (λ m ts h. h) tokens rest n a

pub digits_free : IsPrefixFree Digits
digits_free = free_single Digits (λ n ts h. (h.0, h.1)) one-digits

-- ---- names
pub declared_free : IsPrefixFree Declared
declared_free = free_single Declared (λ x ts h. (h.0, h.1)) one-name

-- two names at one token are the same
pub declared_longest : (tokens rest : List Token) (t : Token) (text : List ℕ) → tokens ≡ t ∷ rest → t.kind ≡ Name text → Longest Declared tokens (record { at = t.start; text = text }) rest
declared_longest tokens rest t text e k = record {
  written = t ∷ [];
  splits = e;
  spelled = (t, refl, k, refl);
  longest = λ y front after f d.
      let other = just_longest {A = List ℕ} (λ x. Just (Name x)) Name (λ x ts h. h) (λ x ts h. h) tokens rest text (t, e, k) in
      other.longest y.text front after f (d.0, d.1, d.2);
}
