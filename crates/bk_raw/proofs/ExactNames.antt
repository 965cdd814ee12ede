-- Names, types and bound variables are read exactly.
use Rattle.std.specs.Prelude.{◌≡◌, ℕ, zero, suc, ◌+◌, ◌≤◌, true, false, cond, List, [], ◌∷◌, ◌++◌, length, Option, Some, refl}
use Rattle.std.proofs.Common.{arith, inl, inr, ◌∙◌, ap}
use Rattle.std.proofs.lemmas.Bool.{cond-true, cond-false}
use Rattle.bk_form.specs.declared.token.Token.{Token}
use Rattle.bk_form.specs.declared.token.TokenKind.TheVariants.{Name, BoundName, Sign, Word}
use Rattle.bk_ops.specs.declared.sign.TheConstants.{MEMBER, COMMA, TIMES, OPEN_PAREN, CLOSE_PAREN}
use Rattle.bk_ops.specs.declared.word.TheConstants.{BOOL, INTEGER, POW}
use Rattle.bk_raw.specs.Trees.WrittenType.{WrittenType, written_integer, written_bool, written_set, written_power, written_product}
use Rattle.bk_raw.specs.declared.term.RawName.{RawName}
use Rattle.bk_raw.specs.declared.term.RawBound.{RawBound}
use Rattle.bk_raw.specs.Grammar.Pieces.{JustSign, ◌⌢◌, InParentheses}
use Rattle.bk_raw.specs.Grammar.Spelling.{Names, Alone, Binder, Typed, TypedBound, TypedBounds}
use Rattle.bk_raw.specs.Grammar.Reading.{next, sign, begins_with, names, binder, typed, bounds, begins_bound, begins_bound_in}
use Rattle.bk_raw.proofs.Shapes.{of_kind, placed_at, led, led_at, just_is, just_at_is, Begun, begun_joined, begun_length, begun_led, appended, lengths}
use Rattle.bk_raw.proofs.Stopping.{Before}
use Rattle.bk_raw.proofs.Combining.{Exact, Anything, exact_weaker, exact_within}

-- no comma is in front
abbrev pub NoComma : List Token → Type 0
NoComma rest = begins_with COMMA rest ≡ false

-- ---- names
names_one : (x : RawName) (t : Token) (rest : List Token) → NoComma rest → names (placed_at x.at (Name x.text) t ∷ rest) ≡ Some (x ∷ [], rest)
names_one x t [] n = refl
names_one x t (c ∷ ts) n = cond-false (begins_with COMMA (c ∷ ts)) _ _ n

pub exact_names : (m : ℕ) (xs : List RawName) → Exact m names (Names xs) xs NoComma
exact_names m [] tokens rest p l b = elim p [ ]
exact_names m (x ∷ []) tokens rest p l b = ap (λ ts. names (ts ++ rest)) (just_at_is x.at (Name x.text) tokens p) ∙ names_one x p.0 rest b
exact_names m (x ∷ y ∷ ys) tokens rest p l b =
    let v = led_at x.at (Name x.text) COMMA (Names (y ∷ ys)) tokens p in
    ap (λ ts. names (ts ++ rest)) v.is
    ∙ ap (λ o. next o (λ xs us. Some (x ∷ xs, us))) (exact_names m (y ∷ ys) v.back rest v.third (omega (arith, ap length v.is, l)) b)

-- names begin with a name
pub names_begin : (xs : List RawName) (tokens : List Token) → Names xs tokens → (text : List ℕ) × (t : Token) × (back : List Token) × (tokens ≡ of_kind (Name text) t ∷ back)
names_begin [] tokens p = elim p [ ]
names_begin (x ∷ []) tokens p = (x.text, placed_at x.at (Name x.text) p.0, [], just_at_is x.at (Name x.text) tokens p)
names_begin (x ∷ y ∷ ys) tokens p = let v = led_at x.at (Name x.text) COMMA (Names (y ∷ ys)) tokens p in (x.text, placed_at x.at (Name x.text) v.first, of_kind (Sign COMMA) v.second ∷ v.back, v.is)

exact_alone : (m : ℕ) (xs : List RawName) → Exact m binder (Alone xs) xs Anything
exact_alone m [] tokens rest p l b = elim p [ ]
exact_alone m (x ∷ []) tokens rest p l b = ap (λ ts. binder (ts ++ rest)) (just_at_is x.at (Name x.text) tokens p)
exact_alone m (x ∷ y ∷ ys) tokens rest p l b = elim p [ ]

alone_not_bound : (xs : List RawName) (tokens rest : List Token) → Alone xs tokens → begins_bound_in (tokens ++ rest) ≡ false
alone_not_bound [] tokens rest p = elim p [ ]
alone_not_bound (x ∷ []) tokens rest p = ap (λ ts. begins_bound_in (ts ++ rest)) (just_at_is x.at (Name x.text) tokens p)
alone_not_bound (x ∷ y ∷ ys) tokens rest p = elim p [ ]

pub no_comma_before_close : (rest : List Token) → Before CLOSE_PAREN rest → NoComma rest
no_comma_before_close rest b = ap (begins_with COMMA) b.is

pub exact_binder : (m : ℕ) (xs : List RawName) → Exact (suc m) binder (Binder xs) xs Anything
exact_binder m xs tokens rest p l b = elim p [
  | inl q ↦ exact_alone (suc m) xs tokens rest q l b
  | inr q ↦
      (let v = led (Sign OPEN_PAREN) (Names xs ⌢ JustSign CLOSE_PAREN) tokens q in
      cond-true (begins_with OPEN_PAREN (tokens ++ rest)) _ _ (ap (λ ts. begins_with OPEN_PAREN (ts ++ rest)) v.is)
      ∙ exact_within m OPEN_PAREN CLOSE_PAREN names (Names xs) xs (exact_weaker m m names (Names xs) xs NoComma (Before CLOSE_PAREN) (omega arith) no_comma_before_close (exact_names m xs)) tokens rest q l tt)
]

pub binder_not_bound : (xs : List RawName) (tokens rest : List Token) → Binder xs tokens → begins_bound_in (tokens ++ rest) ≡ false
binder_not_bound xs tokens rest p = elim p [
  | inl q ↦ alone_not_bound xs tokens rest q
  | inr q ↦
      (let v = led (Sign OPEN_PAREN) (Names xs ⌢ JustSign CLOSE_PAREN) tokens q in
      let w = names_begin xs v.second.0 v.second.3 in
      ap (λ ts. begins_bound_in (ts ++ rest)) v.is ∙ ap (λ ts. begins_bound (ts ++ rest)) v.second.2 ∙ ap (λ ts. begins_bound ((ts ++ v.second.1) ++ rest)) w.3)
]

-- ---- types
begun_typed : (t : WrittenType) (tokens : List Token) → Typed t tokens → Begun tokens
begun_typed written_integer tokens p = (of_kind (Word INTEGER) p.0, [], just_is (Word INTEGER) tokens p)
begun_typed written_bool tokens p = (of_kind (Word BOOL) p.0, [], just_is (Word BOOL) tokens p)
begun_typed (written_set name) tokens p = (of_kind (Name name) p.0, [], just_is (Name name) tokens p)
begun_typed (written_power t) tokens p = begun_led (Word POW) (InParentheses (Typed t)) tokens p
begun_typed (written_product t u) tokens p = begun_led (Sign OPEN_PAREN) ((Typed t ⌢ JustSign TIMES ⌢ Typed u) ⌢ JustSign CLOSE_PAREN) tokens p

-- what holds with some fuel holds where there are tokens to read
fuelled : {A : Type 0} (m : ℕ) (reader : ℕ → List Token → Option (A × List Token)) (Piece : List Token → Type 0) (value : A) (Behind : List Token → Type 0) → ((tokens : List Token) → Piece tokens → Begun tokens) → ((n : ℕ) → Exact (suc n) (reader (suc n)) Piece value Behind) → Exact m (reader m) Piece value Behind
fuelled zero reader Piece value Behind begun h tokens rest p l b = absurd (omega (arith, begun_length tokens (begun tokens p), l))
fuelled (suc n) reader Piece value Behind begun h tokens rest p l b = h n tokens rest p l b

pub exact_typed : (t : WrittenType) (m : ℕ) → Exact m (typed m) (Typed t) t Anything
exact_typed written_integer m = fuelled m typed (Typed written_integer) written_integer Anything (begun_typed written_integer) (λ n tokens rest p l b. ap (λ ts. typed (suc n) (ts ++ rest)) (just_is (Word INTEGER) tokens p))
exact_typed written_bool m = fuelled m typed (Typed written_bool) written_bool Anything (begun_typed written_bool) (λ n tokens rest p l b. ap (λ ts. typed (suc n) (ts ++ rest)) (just_is (Word BOOL) tokens p))
exact_typed (written_set name) m = fuelled m typed (Typed (written_set name)) (written_set name) Anything (begun_typed (written_set name)) (λ n tokens rest p l b. ap (λ ts. typed (suc n) (ts ++ rest)) (just_is (Name name) tokens p))
exact_typed (written_power t) m = fuelled m typed (Typed (written_power t)) (written_power t) Anything (begun_typed (written_power t)) (λ n tokens rest p l b.
    let v = led (Word POW) (InParentheses (Typed t)) tokens p in
    ap (λ ts. typed (suc n) (ts ++ rest)) v.is
    ∙ ap (λ o. next o (λ t us. Some (written_power t, us))) (exact_within n OPEN_PAREN CLOSE_PAREN (typed n) (Typed t) t (exact_weaker n n (typed n) (Typed t) t Anything (Before CLOSE_PAREN) (omega arith) (λ rest b. tt) (exact_typed t n)) v.back rest v.second (omega (arith, ap length v.is, l)) tt))
exact_typed (written_product t u) m = fuelled m typed (Typed (written_product t u)) (written_product t u) Anything (begun_typed (written_product t u)) (λ n tokens rest p l b.
    let v = led (Sign OPEN_PAREN) ((Typed t ⌢ JustSign TIMES ⌢ Typed u) ⌢ JustSign CLOSE_PAREN) tokens p in
    let first = v.second.3 in
    let second = led (Sign TIMES) (Typed u) first.1 first.4 in
    let whole : v.back ++ rest ≡ first.0 ++ (of_kind (Sign TIMES) second.token ∷ (second.back ++ (of_kind (Sign CLOSE_PAREN) v.second.4.0 ∷ rest)))
    = appended v.back v.second.0 v.second.1 rest v.second.2
    ∙ appended v.second.0 first.0 first.1 (v.second.1 ++ rest) first.2
    ∙ ap (λ ts. first.0 ++ (ts ++ (v.second.1 ++ rest))) second.is
    ∙ ap (λ ts. first.0 ++ (of_kind (Sign TIMES) second.token ∷ (second.back ++ (ts ++ rest)))) (just_is (Sign CLOSE_PAREN) v.second.1 v.second.4) in
    let size : length first.0 + length second.back + 1 ≤ suc n = omega (arith, l, ap length v.is, lengths v.back v.second.0 v.second.1 v.second.2, lengths v.second.0 first.0 first.1 first.2, ap length second.is) in
    ap (λ ts. typed (suc n) (ts ++ rest)) v.is
    ∙ ap (λ ts. next (typed n ts) (λ t us. next (sign TIMES us) (λ _ vs. next (typed n vs) (λ u ws. next (sign CLOSE_PAREN ws) (λ _ xs. Some (written_product t u, xs)))))) whole
    ∙ ap (λ o. next o (λ t us. next (sign TIMES us) (λ _ vs. next (typed n vs) (λ u ws. next (sign CLOSE_PAREN ws) (λ _ xs. Some (written_product t u, xs)))))) (exact_typed t n first.0 _ first.3 (omega (arith, size)) tt)
    ∙ ap (λ o. next o (λ u ws. next (sign CLOSE_PAREN ws) (λ _ xs. Some (written_product t u, xs)))) (exact_typed u n second.back _ second.second (omega (arith, size)) tt))

-- ---- bound variables
begun_bound : (b : RawBound) (tokens : List Token) → TypedBound b tokens → Begun tokens
begun_bound b tokens p = let v = led_at b.at (BoundName b.number) MEMBER (Typed b.ty) tokens p in (placed_at b.at (BoundName b.number) v.first, of_kind (Sign MEMBER) v.second ∷ v.back, v.is)

begun_bounds : (bs : List RawBound) (tokens : List Token) → TypedBounds bs tokens → Begun tokens
begun_bounds [] tokens p = elim p [ ]
begun_bounds (b ∷ []) tokens p = begun_bound b tokens p
begun_bounds (b ∷ c ∷ cs) tokens p = begun_joined tokens p.0 p.1 p.2 (begun_bound b p.0 p.3)

bound_begins : (b : RawBound) (tokens rest : List Token) → TypedBound b tokens → begins_bound (tokens ++ rest) ≡ true
bound_begins b tokens rest p = let v = led_at b.at (BoundName b.number) MEMBER (Typed b.ty) tokens p in ap (λ ts. begins_bound (ts ++ rest)) v.is

pub bounds_begin : (bs : List RawBound) (tokens rest : List Token) → TypedBounds bs tokens → begins_bound (tokens ++ rest) ≡ true
bounds_begin [] tokens rest p = elim p [ ]
bounds_begin (b ∷ []) tokens rest p = bound_begins b tokens rest p
bounds_begin (b ∷ c ∷ cs) tokens rest p = ap begins_bound (appended tokens p.0 p.1 rest p.2) ∙ bound_begins b p.0 (p.1 ++ rest) p.3

bounds_one : (m : ℕ) (b : RawBound) (tokens rest : List Token) → TypedBound b tokens → length tokens ≤ suc m → bounds (suc m) (tokens ++ rest) ≡ cond (begins_with COMMA rest) (next (sign COMMA rest) (λ _ ws. next (bounds m ws) (λ bs xs. Some (b ∷ bs, xs)))) (Some (b ∷ [], rest))
bounds_one m b tokens rest p l =
    let v = led_at b.at (BoundName b.number) MEMBER (Typed b.ty) tokens p in
    ap (λ ts. bounds (suc m) (ts ++ rest)) v.is
    ∙ ap (λ o. next o (λ t vs. cond (begins_with COMMA vs) (next (sign COMMA vs) (λ _ ws. next (bounds m ws) (λ bs xs. Some (record { at = b.at; number = b.number; ty = t } ∷ bs, xs)))) (Some (record { at = b.at; number = b.number; ty = t } ∷ [], vs)))) (exact_typed b.ty m v.back rest v.third (omega (arith, ap length v.is, l)) tt)

pub exact_bounds : (bs : List RawBound) (m : ℕ) → Exact m (bounds m) (TypedBounds bs) bs NoComma
exact_bounds [] m = λ tokens rest p l b. elim p [ ]
exact_bounds (b ∷ []) m = fuelled m bounds (TypedBounds (b ∷ [])) (b ∷ []) NoComma (begun_bounds (b ∷ [])) (λ n tokens rest p l e. bounds_one n b tokens rest p l ∙ cond-false (begins_with COMMA rest) _ _ e)
exact_bounds (b ∷ c ∷ cs) m = fuelled m bounds (TypedBounds (b ∷ c ∷ cs)) (b ∷ c ∷ cs) NoComma (begun_bounds (b ∷ c ∷ cs)) (λ n tokens rest p l e.
    let v = led (Sign COMMA) (TypedBounds (c ∷ cs)) p.1 p.4 in
    let size : length p.0 + length v.back + 1 ≤ suc n = omega (arith, l, lengths tokens p.0 p.1 p.2, ap length v.is) in
    ap (bounds (suc n)) (appended tokens p.0 p.1 rest p.2)
    ∙ bounds_one n b p.0 (p.1 ++ rest) p.3 (omega (arith, size))
    ∙ ap (λ vs. cond (begins_with COMMA (vs ++ rest)) (next (sign COMMA (vs ++ rest)) (λ _ ws. next (bounds n ws) (λ bs xs. Some (b ∷ bs, xs)))) (Some (b ∷ [], vs ++ rest))) v.is
    ∙ ap (λ o. next o (λ bs xs. Some (b ∷ bs, xs))) (exact_bounds (c ∷ cs) n v.back rest v.second (omega (arith, size, begun_length p.0 (begun_bound b p.0 p.3))) e))
