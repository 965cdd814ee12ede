-- What the tokens of a piece look like in front, and how many they are.
use Rattle.std.specs.Prelude.{◌≡◌, ℕ, ◌+◌, ◌≤◌, true, nat_eq, List, [], ◌∷◌, ◌++◌, length, None, Some, refl}
use Rattle.std.proofs.Common.{arith, sym, ◌∙◌, ap, length-append}
use Rattle.std.proofs.lemmas.Bool.{cond-true, eq-eqb}
use Rattle.std.proofs.lemmas.List.{append_assoc}
use Rattle.bk_form.specs.declared.token.Token.{Token}
use Rattle.bk_form.specs.declared.token.TokenKind.{TokenKind}
use Rattle.bk_form.specs.declared.token.TokenKind.TheVariants.{Sign}
use Rattle.bk_raw.specs.Grammar.Pieces.{Just, JustAt, JustSign, ◌⌢◌}
use Rattle.bk_raw.specs.Grammar.Reading.{sign, begins_with, start}

-- the token with this kind
abbrev pub of_kind : TokenKind → Token → Token
of_kind kind t = record { kind = kind; start = t.start; end = t.end }

pub kind_known : (t : Token) (kind : TokenKind) → t.kind ≡ kind → t ≡ of_kind kind t
kind_known t kind e = λ i. record { kind = e i; start = t.start; end = t.end }

-- ---- pieces that begin with a token of a known kind
pub record Led (kind : TokenKind) (Second : List Token → Type 0) (tokens : List Token) : Type 0 where
  pub token : Token
  pub back : List Token
  pub is : tokens ≡ of_kind kind token ∷ back
  pub second : Second back

pub led : (kind : TokenKind) (Second : List Token → Type 0) (tokens : List Token) → (Just kind ⌢ Second) tokens → Led kind Second tokens
led kind Second tokens p = record {
  token = p.3.0;
  back = p.1;
  is = p.2 ∙ ap (λ ts. ts ++ p.1) p.3.1 ∙ ap (λ t. t ∷ p.1) (kind_known p.3.0 kind p.3.2);
  second = p.4;
}

pub just_is : (kind : TokenKind) (tokens : List Token) (p : Just kind tokens) → tokens ≡ of_kind kind p.0 ∷ []
just_is kind tokens p = p.1 ∙ ap (λ t. t ∷ []) (kind_known p.0 kind p.2)

-- the token that starts at a known byte
abbrev pub placed_at : ℕ → TokenKind → Token → Token
placed_at at kind t = record { kind = kind; start = at; end = t.end }

pub place_known : (t : Token) (at : ℕ) (kind : TokenKind) → t.kind ≡ kind → t.start ≡ at → t ≡ placed_at at kind t
place_known t at kind k s = λ i. record { kind = k i; start = s i; end = t.end }

pub just_at_is : (at : ℕ) (kind : TokenKind) (tokens : List Token) (p : JustAt at kind tokens) → tokens ≡ placed_at at kind p.0 ∷ []
just_at_is at kind tokens p = p.1 ∙ ap (λ t. t ∷ []) (place_known p.0 at kind p.2 p.3)

-- a piece that begins with a token at a known byte, and then a sign
pub record LedAt (at : ℕ) (kind : TokenKind) (op : ℕ) (Third : List Token → Type 0) (tokens : List Token) : Type 0 where
  pub first : Token
  pub second : Token
  pub back : List Token
  pub is : tokens ≡ placed_at at kind first ∷ of_kind (Sign op) second ∷ back
  pub third : Third back

pub led_at : (at : ℕ) (kind : TokenKind) (op : ℕ) (Third : List Token → Type 0) (tokens : List Token) → (JustAt at kind ⌢ JustSign op ⌢ Third) tokens → LedAt at kind op Third tokens
led_at at kind op Third tokens p =
    let more = led (Sign op) Third p.1 p.4 in
    record {
      first = p.3.0;
      second = more.token;
      back = more.back;
      is = p.2 ∙ ap (λ ts. ts ++ p.1) (just_at_is at kind p.0 p.3) ∙ ap (λ ts. placed_at at kind p.3.0 ∷ ts) more.is;
      third = more.second;
    }

-- ((a b) c) is (a (b c))
pub regrouped : (First Second Third : List Token → Type 0) (tokens : List Token) → ((First ⌢ Second) ⌢ Third) tokens → (First ⌢ Second ⌢ Third) tokens
regrouped First Second Third tokens p =
    (p.3.0, p.3.1 ++ p.1, p.2 ∙ ap (λ ts. ts ++ p.1) p.3.2 ∙ append_assoc p.3.0 p.3.1 p.1, p.3.3, (p.3.1, p.1, refl, p.3.4, p.4))

pub appended : (tokens front back rest : List Token) → tokens ≡ front ++ back → tokens ++ rest ≡ front ++ (back ++ rest)
appended tokens front back rest e = ap (λ ts. ts ++ rest) e ∙ append_assoc front back rest

pub lengths : (tokens front back : List Token) → tokens ≡ front ++ back → length tokens ≡ length front + length back
lengths tokens front back e = ap length e ∙ length-append front back

-- ---- pieces that are never empty
abbrev pub Begun : List Token → Type 0
Begun tokens = (first : Token) × (rest : List Token) × (tokens ≡ first ∷ rest)

pub begun_joined : (tokens front back : List Token) → tokens ≡ front ++ back → Begun front → Begun tokens
begun_joined tokens front back e b = (b.0, b.1 ++ back, e ∙ ap (λ ts. ts ++ back) b.2)

pub begun_start : (tokens rest : List Token) → Begun tokens → start (tokens ++ rest) ≡ start tokens
begun_start tokens rest b = ap (λ ts. start (ts ++ rest)) b.2 ∙ ap start (sym b.2)

pub begun_length : (tokens : List Token) → Begun tokens → 1 ≤ length tokens
begun_length tokens b = omega (arith, ap length b.2)

pub begun_led : (kind : TokenKind) (Second : List Token → Type 0) (tokens : List Token) → (Just kind ⌢ Second) tokens → Begun tokens
begun_led kind Second tokens p = let l = led kind Second tokens p in (of_kind kind l.token, l.back, l.is)

-- ---- a sign in front
pub sign_front : (op : ℕ) (t : Token) (ts : List Token) → sign op (of_kind (Sign op) t ∷ ts) ≡ Some (of_kind (Sign op) t, ts)
sign_front op t ts = cond-true (nat_eq op op) (Some (of_kind (Sign op) t, ts)) None (eq-eqb op op refl)

pub begins_front : (op : ℕ) (t : Token) (ts : List Token) → begins_with op (of_kind (Sign op) t ∷ ts) ≡ true
begins_front op t ts = eq-eqb op op refl
