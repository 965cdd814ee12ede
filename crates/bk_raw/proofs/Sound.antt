-- What is read is written in front.
use Rattle.std.specs.Prelude.{◌≡◌, ℕ, zero, suc, true, nat_eq, List, [], ◌∷◌, ◌++◌, Option, Some, refl}
use Rattle.std.proofs.Common.{inl, inr, sym, ◌∙◌, ap, subst}
use Rattle.std.proofs.lemmas.Bool.{cond-true, cond-false, cases_Bool, false≢true, eqb-true}
use Rattle.std.proofs.lemmas.List.{append_assoc}
use Rattle.bk_form.specs.declared.token.Token.{Token}
use Rattle.bk_form.specs.declared.token.TokenKind.{TokenKind}
use Rattle.bk_form.specs.declared.token.TokenKind.TheVariants.{Name, BoundName, Sign, Word}
use Rattle.bk_ops.specs.declared.sign.TheConstants.{MEMBER, TIMES, OPEN_PAREN, CLOSE_PAREN, COMMA}
use Rattle.bk_ops.specs.declared.word.TheConstants.{BOOL, INTEGER, POW}
use Rattle.bk_raw.specs.Trees.Operators.{infix_kind, word_kind, constant_kind}
use Rattle.bk_raw.specs.Codes.OperatorCodes.{infix_operators, word_operators, constant_operators}
use Rattle.bk_raw.specs.Trees.WrittenType.{WrittenType, written_integer, written_bool, written_set, written_power, written_product}
use Rattle.bk_raw.specs.declared.operator.InfixOp.{InfixOp}
use Rattle.bk_raw.specs.declared.operator.WordOp.{WordOp}
use Rattle.bk_raw.specs.declared.operator.Constant.{Constant}
use Rattle.bk_raw.specs.declared.term.RawName.{RawName}
use Rattle.bk_raw.specs.declared.term.RawBound.{RawBound}
use Rattle.bk_raw.specs.Grammar.Pieces.{Just, JustAt, JustSign, ◌⌢◌, InParentheses}
use Rattle.bk_raw.specs.Grammar.Spelling.{Declared, Names, Alone, Binder, Typed, TypedBound, TypedBounds}
use Rattle.bk_raw.specs.Grammar.Reading.{same_kind, first_with, infix_of, word_of, constant_of, next, sign, begins_with, named, name, within, names, binder, typed_at, typed, bound_number, bound, bounds}
use Rattle.bk_raw.proofs.Stopping.{none_some, some_same}
use Rattle.bk_raw.proofs.Loops.{same_kind_sign}
use Rattle.bk_raw.proofs.Primaries.{next_some}

-- ---- a piece in front of the tokens, and the rest
pub record Front (Piece : List Token → Type 0) (tokens rest : List Token) : Type 0 where
  pub written : List Token
  pub is : tokens ≡ written ++ rest
  pub piece : Piece written

abbrev pub Sound : {A : Type 0} → (List Token → Option (A × List Token)) → (A → List Token → Type 0) → Type 0
Sound {A} reader Piece = (tokens : List Token) (p : A × List Token) → reader tokens ≡ Some p → Front (Piece p.0) tokens p.1

pub front_joined : (First Second : List Token → Type 0) (tokens between rest : List Token) → Front First tokens between → Front Second between rest → Front (First ⌢ Second) tokens rest
front_joined First Second tokens between rest f g = record {
  written = f.written ++ g.written;
  is = f.is ∙ ap (λ ts. f.written ++ ts) g.is ∙ sym (append_assoc f.written g.written rest);
  piece = (f.written, g.written, refl, f.piece, g.piece);
}

pub front_same : (Piece Other : List Token → Type 0) (tokens rest : List Token) → ((written : List Token) → Piece written → Other written) → Front Piece tokens rest → Front Other tokens rest
front_same Piece Other tokens rest h f = record { written = f.written; is = f.is; piece = h f.written f.piece }

-- the reader gives this value, and no other
pub front_at : {A : Type 0} (Piece : A → List Token → Type 0) (tokens : List Token) (x : A) (rest : List Token) (p : A × List Token) → Some (x, rest) ≡ Some p → Front (Piece x) tokens rest → Front (Piece p.0) tokens p.1
front_at Piece tokens x rest p e f = subst (λ q. Front (Piece q.0) tokens q.1) (some_same (x, rest) p e) f

sign_known : (op : ℕ) (t : Token) (ts : List Token) → begins_with op (t ∷ ts) ≡ true → t.kind ≡ Sign op
sign_known op t ts e = same_kind_sign t.kind op e

pub sound_sign : (op : ℕ) (tokens : List Token) (p : Token × List Token) → sign op tokens ≡ Some p → Front (JustSign op) tokens p.1
sound_sign op [] p e = none_some p e
sound_sign op (t ∷ ts) p e = elim (cases_Bool (begins_with op (t ∷ ts))) [
  | inl holds ↦ front_at (λ _. JustSign op) (t ∷ ts) t ts p (sym (cond-true (begins_with op (t ∷ ts)) _ _ holds) ∙ e) (record { written = t ∷ []; is = refl; piece = (t, refl, sign_known op t ts holds) })
  | inr fails ↦ none_some p (sym (cond-false (begins_with op (t ∷ ts)) _ _ fails) ∙ e)
]

pub sound_within : {A : Type 0} (first last : ℕ) (reader : List Token → Option (A × List Token)) (Piece : A → List Token → Type 0) → Sound reader Piece → Sound (within first last reader) (λ x. JustSign first ⌢ Piece x ⌢ JustSign last)
sound_within first last reader Piece h tokens p e =
    let a = next_some (sign first tokens) _ p e in
    let b = next_some (reader a.0.1) _ p a.2 in
    let c = next_some (sign last b.0.1) _ p b.2 in
    front_at (λ x. JustSign first ⌢ Piece x ⌢ JustSign last) tokens b.0.0 c.0.1 p c.2
    (front_joined (JustSign first) (Piece b.0.0 ⌢ JustSign last) tokens a.0.1 c.0.1 (sound_sign first tokens a.0 a.1)
    (front_joined (Piece b.0.0) (JustSign last) a.0.1 b.0.1 c.0.1 (h a.0.1 b.0 b.1) (sound_sign last b.0.1 c.0 c.1)))

-- ---- operators
same_kinds : (a b : TokenKind) → same_kind a b ≡ true → a ≡ b
same_kinds (Sign a) (Sign b) e = ap Sign (eqb-true a b e)
same_kinds (Word a) (Word b) e = ap Word (eqb-true a b e)
same_kinds _ _ e = absurd (false≢true e)

first_with_is : {A : Type 0} (written : A → TokenKind) (xs : List A) (kind : TokenKind) (x : A) → first_with written xs kind ≡ Some x → written x ≡ kind
first_with_is written [] kind x e = none_some x e
first_with_is written (y ∷ ys) kind x e = elim (cases_Bool (same_kind (written y) kind)) [
  | inl holds ↦ (let same = some_same y x (sym (cond-true (same_kind (written y) kind) (Some y) (first_with written ys kind) holds) ∙ e) in sym (ap written same) ∙ same_kinds (written y) kind holds)
  | inr fails ↦ first_with_is written ys kind x (sym (cond-false (same_kind (written y) kind) (Some y) (first_with written ys kind) fails) ∙ e)
]

pub infix_of_is : (kind : TokenKind) (o : InfixOp) → infix_of kind ≡ Some o → infix_kind o ≡ kind
infix_of_is kind o e = first_with_is infix_kind infix_operators kind o e

pub word_of_is : (kind : TokenKind) (o : WordOp) → word_of kind ≡ Some o → word_kind o ≡ kind
word_of_is kind o e = first_with_is word_kind word_operators kind o e

pub constant_of_is : (kind : TokenKind) (c : Constant) → constant_of kind ≡ Some c → constant_kind c ≡ kind
constant_of_is kind c e = first_with_is constant_kind constant_operators kind c e

-- ---- names
named_declared : (kind : TokenKind) (t : Token) (ts : List Token) (p : RawName × List Token) → t.kind ≡ kind → named kind t.start ts ≡ Some p → Declared p.0 (t ∷ []) × (ts ≡ p.1)
named_declared (Name text) t ts p k e =
    let same = some_same (record { at = t.start; text = text }, ts) p e in
    subst (λ (q : RawName × List Token). Declared q.0 (t ∷ []) × (ts ≡ q.1)) same ((t, refl, k, refl), refl)
named_declared _ t ts p k e = none_some p e

names_and : (x : RawName) (xs : List RawName) (tokens : List Token) → (Declared x ⌢ JustSign COMMA ⌢ Names xs) tokens → Names (x ∷ xs) tokens
names_and x [] tokens p = elim p.4.4 [ ]
names_and x (y ∷ ys) tokens p = p

-- where one name is read
name_only : (t : Token) (ts : List Token) (p : List RawName × List Token) → next (named t.kind t.start ts) (λ x us. Some (x ∷ [], us)) ≡ Some p → Front (Names p.0) (t ∷ ts) p.1
name_only t ts p e =
    let a = next_some (named t.kind t.start ts) _ p e in
    let d = named_declared t.kind t ts a.0 refl a.1 in
    front_at Names (t ∷ ts) (a.0.0 ∷ []) a.0.1 p a.2 (record { written = t ∷ []; is = ap (λ us. t ∷ us) d.1; piece = d.0 })

pub sound_names : Sound names Names
sound_names [] p e = none_some p e
sound_names (t ∷ []) p e = name_only t [] p e
sound_names (t ∷ c ∷ ts) p e = elim (cases_Bool (same_kind c.kind (Sign COMMA))) [
  | inl holds ↦
      (let step = sym (cond-true (same_kind c.kind (Sign COMMA)) _ _ holds) ∙ e in
      let a = next_some (named t.kind t.start ts) _ p step in
      let b = next_some (names ts) _ p a.2 in
      let f = sound_names ts b.0 b.1 in
      front_at Names (t ∷ c ∷ ts) (a.0.0 ∷ b.0.0) b.0.1 p b.2 (record {
        written = t ∷ c ∷ f.written;
        is = ap (λ us. t ∷ c ∷ us) f.is;
        piece = names_and a.0.0 b.0.0 (t ∷ c ∷ f.written) (t ∷ [], c ∷ f.written, refl, (named_declared t.kind t ts a.0 refl a.1).0, (c ∷ [], f.written, refl, (c, refl, same_kind_sign c.kind COMMA holds), f.piece));
      }))
  | inr fails ↦ name_only t (c ∷ ts) p (sym (cond-false (same_kind c.kind (Sign COMMA)) _ _ fails) ∙ e)
]

sound_alone : (ts : List Token) (p : List RawName × List Token) → next (name ts) (λ x us. Some (x ∷ [], us)) ≡ Some p → Front (Alone p.0) ts p.1
sound_alone [] p e = none_some p e
sound_alone (t ∷ ts) p e =
    let a = next_some (named t.kind t.start ts) _ p e in
    let d = named_declared t.kind t ts a.0 refl a.1 in
    front_at Alone (t ∷ ts) (a.0.0 ∷ []) a.0.1 p a.2 (record { written = t ∷ []; is = ap (λ us. t ∷ us) d.1; piece = d.0 })

pub sound_binder : Sound binder Binder
sound_binder ts p e = elim (cases_Bool (begins_with OPEN_PAREN ts)) [
  | inl holds ↦ front_same (InParentheses (Names p.0)) (Binder p.0) ts p.1 (λ written q. inr q) (sound_within OPEN_PAREN CLOSE_PAREN names Names sound_names ts p (sym (cond-true (begins_with OPEN_PAREN ts) _ _ holds) ∙ e))
  | inr fails ↦ front_same (Alone p.0) (Binder p.0) ts p.1 (λ written q. inl q) (sound_alone ts p (sym (cond-false (begins_with OPEN_PAREN ts) _ _ fails) ∙ e))
]

-- ---- types
-- a token and what stands behind it
pub front_led : (kind : TokenKind) (Second : List Token → Type 0) (t : Token) (ts rest : List Token) → t.kind ≡ kind → Front Second ts rest → Front (Just kind ⌢ Second) (t ∷ ts) rest
front_led kind Second t ts rest k f = record { written = t ∷ f.written; is = ap (λ us. t ∷ us) f.is; piece = (t ∷ [], f.written, refl, (t, refl, k), f.piece) }

-- a token alone
pub front_just : (kind : TokenKind) (t : Token) (ts : List Token) → t.kind ≡ kind → Front (Just kind) (t ∷ ts) ts
front_just kind t ts k = record { written = t ∷ []; is = refl; piece = (t, refl, k) }

sound_typed_word : (reader : List Token → Option (WrittenType × List Token)) → Sound reader Typed → (op : ℕ) (t : Token) (ts : List Token) (p : WrittenType × List Token) → t.kind ≡ Word op → typed_at reader (Word op) ts ≡ Some p → Front (Typed p.0) (t ∷ ts) p.1
sound_typed_word reader h op t ts p k e = elim (cases_Bool (nat_eq op INTEGER)) [
  | inl holds ↦ front_at Typed (t ∷ ts) written_integer ts p (sym (cond-true (nat_eq op INTEGER) _ _ holds) ∙ e) (front_just (Word INTEGER) t ts (k ∙ ap Word (eqb-true op INTEGER holds)))
  | inr other ↦ elim (cases_Bool (nat_eq op BOOL)) [
    | inl holds ↦ front_at Typed (t ∷ ts) written_bool ts p (sym (cond-true (nat_eq op BOOL) _ _ holds) ∙ sym (cond-false (nat_eq op INTEGER) _ _ other) ∙ e) (front_just (Word BOOL) t ts (k ∙ ap Word (eqb-true op BOOL holds)))
    | inr third ↦ elim (cases_Bool (nat_eq op POW)) [
      | inl holds ↦
          (let step = sym (cond-true (nat_eq op POW) _ _ holds) ∙ sym (cond-false (nat_eq op BOOL) _ _ third) ∙ sym (cond-false (nat_eq op INTEGER) _ _ other) ∙ e in
          let a = next_some (within OPEN_PAREN CLOSE_PAREN reader ts) _ p step in
          front_at Typed (t ∷ ts) (written_power a.0.0) a.0.1 p a.2 (front_led (Word POW) (InParentheses (Typed a.0.0)) t ts a.0.1 (k ∙ ap Word (eqb-true op POW holds)) (sound_within OPEN_PAREN CLOSE_PAREN reader Typed h ts a.0 a.1)))
      | inr fails ↦ none_some p (sym (cond-false (nat_eq op POW) _ _ fails) ∙ sym (cond-false (nat_eq op BOOL) _ _ third) ∙ sym (cond-false (nat_eq op INTEGER) _ _ other) ∙ e)
    ]
  ]
]

sound_typed_sign : (reader : List Token → Option (WrittenType × List Token)) → Sound reader Typed → (op : ℕ) (t : Token) (ts : List Token) (p : WrittenType × List Token) → t.kind ≡ Sign op → typed_at reader (Sign op) ts ≡ Some p → Front (Typed p.0) (t ∷ ts) p.1
sound_typed_sign reader h op t ts p k e = elim (cases_Bool (nat_eq op OPEN_PAREN)) [
  | inl holds ↦
      (let step = sym (cond-true (nat_eq op OPEN_PAREN) _ _ holds) ∙ e in
      let a = next_some (reader ts) _ p step in
      let b = next_some (sign TIMES a.0.1) _ p a.2 in
      let c = next_some (reader b.0.1) _ p b.2 in
      let d = next_some (sign CLOSE_PAREN c.0.1) _ p c.2 in
      front_at Typed (t ∷ ts) (written_product a.0.0 c.0.0) d.0.1 p d.2
      (front_led (Sign OPEN_PAREN) ((Typed a.0.0 ⌢ JustSign TIMES ⌢ Typed c.0.0) ⌢ JustSign CLOSE_PAREN) t ts d.0.1 (k ∙ ap Sign (eqb-true op OPEN_PAREN holds))
      (front_joined (Typed a.0.0 ⌢ JustSign TIMES ⌢ Typed c.0.0) (JustSign CLOSE_PAREN) ts c.0.1 d.0.1
      (front_joined (Typed a.0.0) (JustSign TIMES ⌢ Typed c.0.0) ts a.0.1 c.0.1 (h ts a.0 a.1) (front_joined (JustSign TIMES) (Typed c.0.0) a.0.1 b.0.1 c.0.1 (sound_sign TIMES a.0.1 b.0 b.1) (h b.0.1 c.0 c.1)))
      (sound_sign CLOSE_PAREN c.0.1 d.0 d.1))))
  | inr fails ↦ none_some p (sym (cond-false (nat_eq op OPEN_PAREN) _ _ fails) ∙ e)
]

sound_typed_at : (reader : List Token → Option (WrittenType × List Token)) → Sound reader Typed → (kind : TokenKind) (t : Token) (ts : List Token) (p : WrittenType × List Token) → t.kind ≡ kind → typed_at reader kind ts ≡ Some p → Front (Typed p.0) (t ∷ ts) p.1
sound_typed_at reader h (Name x) t ts p k e = front_at Typed (t ∷ ts) (written_set x) ts p e (front_just (Name x) t ts k)
sound_typed_at reader h (Word op) t ts p k e = sound_typed_word reader h op t ts p k e
sound_typed_at reader h (Sign op) t ts p k e = sound_typed_sign reader h op t ts p k e
sound_typed_at reader h _ t ts p k e = none_some p e

pub sound_typed : (n : ℕ) → Sound (typed n) Typed
sound_typed zero ts p e = none_some p e
sound_typed (suc n) [] p e = none_some p e
sound_typed (suc n) (t ∷ ts) p e = sound_typed_at (typed n) (sound_typed n) t.kind t ts p refl e

-- ---- bound variables
numbered_is : (kind : TokenKind) (t : Token) (ts : List Token) (p : (ℕ × ℕ) × List Token) → t.kind ≡ kind → bound_number kind t.start ts ≡ Some p → Front (JustAt p.0.0 (BoundName p.0.1) ⌢ JustSign MEMBER) (t ∷ ts) p.1
numbered_is (BoundName k) t ts p same e =
    let a = next_some (sign MEMBER ts) _ p e in
    front_at (λ b. JustAt b.0 (BoundName b.1) ⌢ JustSign MEMBER) (t ∷ ts) (t.start, k) a.0.1 p a.2
    (front_joined (JustAt t.start (BoundName k)) (JustSign MEMBER) (t ∷ ts) ts a.0.1 (record { written = t ∷ []; is = refl; piece = (t, refl, same, refl) }) (sound_sign MEMBER ts a.0 a.1))
numbered_is _ t ts p same e = none_some p e

pub sound_bound : Sound bound (λ b. JustAt b.0 (BoundName b.1) ⌢ JustSign MEMBER)
sound_bound [] p e = none_some p e
sound_bound (t ∷ ts) p e = numbered_is t.kind t ts p refl e

pub front_grouped : (First Second Third : List Token → Type 0) (tokens between rest : List Token) → Front (First ⌢ Second) tokens between → Front Third between rest → Front (First ⌢ Second ⌢ Third) tokens rest
front_grouped First Second Third tokens between rest f g = record {
  written = f.written ++ g.written;
  is = f.is ∙ ap (λ ts. f.written ++ ts) g.is ∙ sym (append_assoc f.written g.written rest);
  piece = (f.piece.0, f.piece.1 ++ g.written, ap (λ ts. ts ++ g.written) f.piece.2 ∙ append_assoc f.piece.0 f.piece.1 g.written, f.piece.3, (f.piece.1, g.written, refl, f.piece.4, g.piece));
}

bounds_and : (b : RawBound) (bs : List RawBound) (tokens : List Token) → (TypedBound b ⌢ JustSign COMMA ⌢ TypedBounds bs) tokens → TypedBounds (b ∷ bs) tokens
bounds_and b [] tokens p = elim p.4.4 [ ]
bounds_and b (c ∷ cs) tokens p = p

pub sound_bounds : (m : ℕ) → Sound (bounds m) TypedBounds
sound_bounds zero ts p e = none_some p e
sound_bounds (suc m) ts p e =
    let a = next_some (bound ts) _ p e in
    let b = next_some (typed m a.0.1) _ p a.2 in
    let x : RawBound = record { at = a.0.0.0; number = a.0.0.1; ty = b.0.0 } in
    let f : Front (TypedBound x) ts b.0.1 = front_grouped (JustAt x.at (BoundName x.number)) (JustSign MEMBER) (Typed x.ty) ts a.0.1 b.0.1 (sound_bound ts a.0 a.1) (sound_typed m a.0.1 b.0 b.1) in
    elim (cases_Bool (begins_with COMMA b.0.1)) [
      | inl holds ↦
          (let c = next_some (sign COMMA b.0.1) _ p (sym (cond-true (begins_with COMMA b.0.1) _ _ holds) ∙ b.2) in
          let d = next_some (bounds m c.0.1) _ p c.2 in
          front_at TypedBounds ts (x ∷ d.0.0) d.0.1 p d.2
          (front_same (TypedBound x ⌢ JustSign COMMA ⌢ TypedBounds d.0.0) (TypedBounds (x ∷ d.0.0)) ts d.0.1 (bounds_and x d.0.0)
          (front_joined (TypedBound x) (JustSign COMMA ⌢ TypedBounds d.0.0) ts b.0.1 d.0.1 f (front_joined (JustSign COMMA) (TypedBounds d.0.0) b.0.1 c.0.1 d.0.1 (sound_sign COMMA b.0.1 c.0 c.1) (sound_bounds m c.0.1 d.0 d.1)))))
      | inr fails ↦ front_at TypedBounds ts (x ∷ []) b.0.1 p (sym (cond-false (begins_with COMMA b.0.1) _ _ fails) ∙ b.2) f
    ]
