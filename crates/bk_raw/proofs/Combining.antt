-- Readers that read a piece exactly, and how they are put together.
use Rattle.std.specs.Prelude.{◌≡◌, ℕ, suc, ◌+◌, ◌≤◌, List, ◌++◌, length, Option, Some}
use Rattle.std.proofs.Common.{arith, ◌∙◌, ap}
use Rattle.bk_form.specs.declared.token.Token.{Token}
use Rattle.bk_form.specs.declared.token.TokenKind.TheVariants.{Sign}
use Rattle.bk_raw.specs.Grammar.Pieces.{JustSign, ◌⌢◌}
use Rattle.bk_raw.specs.Grammar.Reading.{next, sign, within}
use Rattle.bk_raw.proofs.Shapes.{led, just_is, appended, lengths, sign_front}
use Rattle.bk_raw.proofs.Stopping.{Before}

-- of at most so many tokens that are the piece, with such a rest behind them, the reader reads this value and leaves the rest
abbrev pub Exact : {A : Type 0} → ℕ → (List Token → Option (A × List Token)) → (List Token → Type 0) → A → (List Token → Type 0) → Type 0
Exact m reader Piece value Behind = (tokens rest : List Token) → Piece tokens → length tokens ≤ m → Behind rest → reader (tokens ++ rest) ≡ Some (value, rest)

abbrev pub Anything : List Token → Type 0
Anything rest = Unit {0}

-- one thing after another
pub exact_next : {A B : Type 0} (m : ℕ) (first : List Token → Option (A × List Token)) (behind : A → List Token → Option (B × List Token)) (First Second : List Token → Type 0) (x : A) (y : B) (Between Behind : List Token → Type 0) → Exact m first First x Between → Exact m (behind x) Second y Behind → ((back rest : List Token) → Second back → Behind rest → Between (back ++ rest)) → Exact m (λ ts. next (first ts) behind) (First ⌢ Second) y Behind
exact_next m first behind First Second x y Between Behind h k between tokens rest p l b =
    let size : length tokens ≡ length p.0 + length p.1 = lengths tokens p.0 p.1 p.2 in
    ap (λ ts. next (first ts) behind) (appended tokens p.0 p.1 rest p.2)
    ∙ ap (λ o. next o behind) (h p.0 (p.1 ++ rest) p.3 (omega (arith, size, l)) (between p.1 rest p.4 b))
    ∙ k p.1 rest p.4 (omega (arith, size, l)) b

-- a sign, and something behind it, which is shorter
pub exact_sign : {A : Type 0} (m op : ℕ) (reader : List Token → Option (A × List Token)) (Second : List Token → Type 0) (value : A) (Behind : List Token → Type 0) → Exact m reader Second value Behind → Exact (suc m) (λ ts. next (sign op ts) (λ _ us. reader us)) (JustSign op ⌢ Second) value Behind
exact_sign m op reader Second value Behind h tokens rest p l b =
    let v = led (Sign op) Second tokens p in
    ap (λ ts. next (sign op (ts ++ rest)) (λ _ us. reader us)) v.is
    ∙ ap (λ o. next o (λ _ us. reader us)) (sign_front op v.token (v.back ++ rest))
    ∙ h v.back rest v.second (omega (arith, ap length v.is, l)) b

-- a sign at the end
pub exact_last : {A : Type 0} (m op : ℕ) (value : A) → Exact m (λ ts. next (sign op ts) (λ _ us. Some (value, us))) (JustSign op) value Anything
exact_last m op value tokens rest p l b =
    ap (λ ts. next (sign op (ts ++ rest)) (λ _ us. Some (value, us))) (just_is (Sign op) tokens p)
    ∙ ap (λ o. next o (λ _ us. Some (value, us))) (sign_front op p.0 rest)

-- what is made of the value
pub exact_made : {A B : Type 0} (m : ℕ) (reader : List Token → Option (A × List Token)) (Piece : List Token → Type 0) (value : A) (Behind : List Token → Type 0) (make : A → B) → Exact m reader Piece value Behind → Exact m (λ ts. next (reader ts) (λ x us. Some (make x, us))) Piece (make value) Behind
exact_made m reader Piece value Behind make h tokens rest p l b = ap (λ o. next o (λ x us. Some (make x, us))) (h tokens rest p l b)

-- where less is asked of the rest, or fewer tokens are read
pub exact_weaker : {A : Type 0} (m n : ℕ) (reader : List Token → Option (A × List Token)) (Piece : List Token → Type 0) (value : A) (Behind Stronger : List Token → Type 0) → n ≤ m → ((rest : List Token) → Stronger rest → Behind rest) → Exact m reader Piece value Behind → Exact n reader Piece value Stronger
exact_weaker m n reader Piece value Behind Stronger l weaker h tokens rest p k b = h tokens rest p (omega (arith, k, l)) (weaker rest b)

-- a sign in front of the rest
pub before_last : (op : ℕ) (back rest : List Token) → JustSign op back → Before op (back ++ rest)
before_last op back rest p = record { token = p.0; back = rest; is = ap (λ ts. ts ++ rest) (just_is (Sign op) back p) }

pub before_joined : (op : ℕ) (Second : List Token → Type 0) (back rest : List Token) → (JustSign op ⌢ Second) back → Before op (back ++ rest)
before_joined op Second back rest p = let v = led (Sign op) Second back p in record { token = v.token; back = v.back ++ rest; is = ap (λ ts. ts ++ rest) v.is }

-- something between two signs
pub exact_within : {A : Type 0} (m first last : ℕ) (reader : List Token → Option (A × List Token)) (Piece : List Token → Type 0) (value : A) → Exact m reader Piece value (Before last) → Exact (suc m) (within first last reader) (JustSign first ⌢ Piece ⌢ JustSign last) value Anything
exact_within m first last reader Piece value h =
    exact_sign m first (λ us. next (reader us) (λ x vs. next (sign last vs) (λ _ ws. Some (x, ws)))) (Piece ⌢ JustSign last) value Anything
    (exact_next m reader (λ x vs. next (sign last vs) (λ _ ws. Some (x, ws))) Piece (JustSign last) value value (Before last) Anything h (exact_last m last value) (λ back rest p b. before_last last back rest p))
