-- Reading one piece after another, each the longest that is written there.
use Rattle.std.specs.Prelude.{◌≡◌, ◌≤◌, true, false, List, [], ◌∷◌, ◌++◌, length, None, refl}
use Rattle.std.proofs.Common.{arith, sym, ◌∙◌, ap, subst, append_assoc, append-nil, length-append}
use Rattle.bk_form.specs.declared.token.Token.{Token}
use Rattle.bk_form.specs.declared.token.TokenKind.{TokenKind}
use Rattle.bk_raw.specs.Grammar.Pieces.{Just, ◌⌢◌}
use Rattle.bk_raw.proofs.Runs.{Halts, no-longer}
use Rattle.bk_raw.proofs.Steps.{Piece, Stopper, step, stepped, Leads}
use Rattle.bk_raw.proofs.Patterns.{first}
use Rattle.bk_p_expr.specs.Fronts.{Longest, Nothing}
use Rattle.bk_p_proof.specs.Ahead.{Ahead, NotAhead}

-- ---- lists of tokens
pub no_more : (xs ys zs : List Token) → ys ≡ xs ++ zs → length ys ≤ length zs → xs ≡ []
no_more [] ys zs e l = refl
no_more (x ∷ xs) ys zs e l = absurd (omega (arith, l, ap length e, length-append xs zs))

-- what stands in front of the same rest is the same
pub tail_same : (x y : Token) (xs ys : List Token) → x ∷ xs ≡ y ∷ ys → (x ≡ y) × (xs ≡ ys)
tail_same x y xs ys e =
    let f : x ≡ y = cc in
    let g : xs ≡ ys = cc in
    (f, g)

-- ---- cutting
-- where the longest one is read, and another one is written in front of tokens that such are, that is the same one
abbrev pub CutsAt : {A : Type 0} → (A → Piece) → (List Token → Type 0) → Type 0
CutsAt {A} Part Behind = (tokens rest front back : List Token) (x y : A) → Longest Part tokens x rest → tokens ≡ front ++ back → Part y front → Behind back → (x ≡ y) × (rest ≡ back)

-- any tokens
abbrev pub Anything : List Token → Type 0
Anything ts = Unit {0}

-- a token of this kind is in front
abbrev pub Begins : TokenKind → List Token → Type 0
Begins kind ts = (rest : List Token) × Ahead kind ts rest

pub cuts_by : {A : Type 0} (Part : A → Piece) (stops : Stopper) → ((x : A) → Leads stops (0, false) (0, true) (Part x)) → ((x y : A) (ts : List Token) → Part x ts → Part y ts → x ≡ y) → CutsAt Part (Halts (step stops) (0, true))
cuts_by Part stops leads one tokens rest front back x y h e p halts =
    let m = no-longer (step stops) (0, false) (0, true) (0, true) front back h.written rest (leads y front p) (leads x h.written h.spelled) halts (sym e ∙ h.splits) in
    let z : m.0 ≡ [] = no_more m.0 rest back m.2 (h.longest y front back e p) in
    let same : front ≡ h.written = m.1 ∙ ap (λ ts. h.written ++ ts) z ∙ append-nil h.written in
    (one x y h.written h.spelled (subst (Part y) same p), m.2 ∙ ap (λ ts. ts ++ back) z)

pub cuts_less : {A : Type 0} (Part : A → Piece) (P Q : List Token → Type 0) → CutsAt Part P → ((ts : List Token) → Q ts → P ts) → CutsAt Part Q
cuts_less Part P Q c f tokens rest front back x y h e p q = c tokens rest front back x y h e p (f back q)

pub begins_halts : (stops : Stopper) (kind : TokenKind) → stepped stops 0 true kind ≡ None → (ts : List Token) → Begins kind ts → Halts (step stops) (0, true) ts
begins_halts stops kind e ts b = subst (Halts (step stops) (0, true)) (sym b.1.1) (ap (stepped stops 0 true) b.1.2 ∙ e)

-- ---- one behind another
module _ {A B : Type 0} (First : A → Piece) (Second : B → Piece) where
  abbrev pub Both : A × B → Piece
  Both q = First q.0 ⌢ Second q.1

  -- what the second begins with is such that the first is cut there
  abbrev pub Joins : (List Token → Type 0) → Type 0
  Joins Behind = (y : B) (back after : List Token) → Second y back → Behind (back ++ after)

  pub both_longest : (Behind : List Token → Type 0) → CutsAt First Behind → Joins Behind → (tokens ts rest : List Token) (x : A) (y : B) → Longest First tokens x ts → Longest Second ts y rest → Longest Both tokens (x, y) rest
  both_longest Behind cut joins tokens ts rest x y h k = record {
    written = h.written ++ k.written;
    splits = h.splits ∙ ap (λ us. h.written ++ us) k.splits ∙ sym (append_assoc h.written k.written rest);
    spelled = (h.written, k.written, refl, h.spelled, k.spelled);
    longest = λ q front after e p.
        let c = cut tokens ts p.0 (p.1 ++ after) x q.0 h (e ∙ ap (λ us. us ++ after) p.2 ∙ append_assoc p.0 p.1 after) p.3 (joins q.1 p.1 after p.4) in
        k.longest q.1 p.1 after c.1 p.4;
  }

  pub both_nothing : (Behind : List Token → Type 0) → CutsAt First Behind → Joins Behind → (tokens ts : List Token) (x : A) → Longest First tokens x ts → Nothing Second ts → Nothing Both tokens
  both_nothing Behind cut joins tokens ts x h n q front after e p =
      let c = cut tokens ts p.0 (p.1 ++ after) x q.0 h (e ∙ ap (λ us. us ++ after) p.2 ∙ append_assoc p.0 p.1 after) p.3 (joins q.1 p.1 after p.4) in
      n q.1 p.1 after c.1 p.4

  pub first_nothing : (tokens : List Token) → Nothing First tokens → Nothing Both tokens
  first_nothing tokens n q front after e p = n q.0 p.0 (p.1 ++ after) (e ∙ ap (λ us. us ++ after) p.2 ∙ append_assoc p.0 p.1 after) p.3

-- ---- a token in front
module _ {B : Type 0} (kind : TokenKind) (Second : B → Piece) where
  abbrev pub Behind : B → Piece
  Behind y = Just kind ⌢ Second y

  pub token_longest : (tokens ts rest : List Token) (y : B) → Ahead kind tokens ts → Longest Second ts y rest → Longest Behind tokens y rest
  token_longest tokens ts rest y a k = record {
    written = a.0 ∷ k.written;
    splits = a.1 ∙ ap (λ us. a.0 ∷ us) k.splits;
    spelled = (a.0 ∷ [], k.written, refl, (a.0, refl, a.2), k.spelled);
    longest = λ z front after e p.
        let f = first kind (Second z) front p in
        let s = tail_same a.0 f.token ts (f.rest ++ after) (sym a.1 ∙ e ∙ ap (λ us. us ++ after) f.is) in
        k.longest z f.rest after s.1 f.back;
  }

  pub token_nothing : (tokens ts : List Token) → Ahead kind tokens ts → Nothing Second ts → Nothing Behind tokens
  token_nothing tokens ts a n z front after e p =
      let f = first kind (Second z) front p in
      let s = tail_same a.0 f.token ts (f.rest ++ after) (sym a.1 ∙ e ∙ ap (λ us. us ++ after) f.is) in
      n z f.rest after s.1 f.back

  pub no_token : (tokens : List Token) → NotAhead kind tokens → Nothing Behind tokens
  no_token tokens n z front after e p =
      let f = first kind (Second z) front p in
      n f.token (f.rest ++ after) (e ∙ ap (λ us. us ++ after) f.is) f.same

  pub token_joins : (y : B) (back after : List Token) → Behind y back → Begins kind (back ++ after)
  token_joins y back after p =
      let f = first kind (Second y) back p in
      (f.rest ++ after, (f.token, ap (λ us. us ++ after) f.is, f.same))

-- ---- a token by itself
pub just_longest : {A : Type 0} (Part : A → Piece) (kind : A → TokenKind) → ((x : A) (ts : List Token) → Part x ts → Just (kind x) ts) → ((x : A) (ts : List Token) → Just (kind x) ts → Part x ts) → (tokens rest : List Token) (x : A) → Ahead (kind x) tokens rest → Longest Part tokens x rest
just_longest Part kind out into tokens rest x a = record {
  written = a.0 ∷ [];
  splits = a.1;
  spelled = into x (a.0 ∷ []) (a.0, refl, a.2);
  longest = λ y front after e p.
      let k = out y front p in
      let s = tail_same a.0 k.0 rest after (sym a.1 ∙ e ∙ ap (λ us. us ++ after) k.1) in
      omega (arith, ap length s.1);
}

pub just_nothing : {A : Type 0} (Part : A → Piece) (kind : A → TokenKind) → ((x : A) (ts : List Token) → Part x ts → Just (kind x) ts) → (tokens : List Token) → ((x : A) → NotAhead (kind x) tokens) → Nothing Part tokens
just_nothing Part kind out tokens n y front after e p =
    let k = out y front p in
    n y k.0 after (e ∙ ap (λ us. us ++ after) k.1) k.2

-- ---- the same things written in another way
pub longest_as : {A B : Type 0} (P : A → Piece) (Q : B → Piece) (tokens rest : List Token) (x : A) (y : B) → Longest P tokens x rest → ((ts : List Token) → P x ts → Q y ts) → ((z : B) (ts : List Token) → Q z ts → (w : A) × P w ts) → Longest Q tokens y rest
longest_as P Q tokens rest x y h f g = record {
  written = h.written;
  splits = h.splits;
  spelled = f h.written h.spelled;
  longest = λ z front after e k. let w = g z front k in h.longest w.0 front after e w.1;
}

pub nothing_as : {A B : Type 0} (P : A → Piece) (Q : B → Piece) (tokens : List Token) → Nothing P tokens → ((z : B) (ts : List Token) → Q z ts → (w : A) × P w ts) → Nothing Q tokens
nothing_as P Q tokens n g z front after e k = let w = g z front k in n w.0 front after e w.1

-- ---- what is written in one way only in front of any tokens
abbrev pub IsPrefixFree : {A : Type 0} → (A → Piece) → Type 0
IsPrefixFree {A} Part = (x y : A) (a b r q : List Token) → a ++ r ≡ b ++ q → Part x a → Part y b → (x ≡ y) × (r ≡ q)

pub free_cuts : {A : Type 0} (Part : A → Piece) (P : List Token → Type 0) → IsPrefixFree Part → CutsAt Part P
free_cuts Part P f tokens rest front back x y h e p b = f x y h.written front rest back (sym h.splits ∙ e) h.spelled p

pub free_single : {A : Type 0} (Part : A → Piece) → ((x : A) (ts : List Token) → Part x ts → (t : Token) × (ts ≡ t ∷ [])) → ((x y : A) (ts : List Token) → Part x ts → Part y ts → x ≡ y) → IsPrefixFree Part
free_single Part single one x y a b r q e h k =
    let s = single x a h in
    let t = single y b k in
    let both : s.0 ∷ r ≡ t.0 ∷ q = ap (λ us. us ++ r) (sym s.1) ∙ e ∙ ap (λ us. us ++ q) t.1 in
    let z = tail_same s.0 t.0 r q both in
    (one x y a h (subst (Part y) (t.1 ∙ ap (λ u. u ∷ []) (sym z.0) ∙ sym s.1) k), z.1)

-- one, a token of a kind, and another one
module _ {A B : Type 0} (First : A → Piece) (kind : TokenKind) (Second : B → Piece) where
  abbrev pub Between : A × B → Piece
  Between q = First q.0 ⌢ Just kind ⌢ Second q.1

  pub free_between : IsPrefixFree First → IsPrefixFree Second → IsPrefixFree Between
  free_between f g x y a b r q e h k =
      let c = f x.0 y.0 h.0 k.0 (h.1 ++ r) (k.1 ++ q) (sym (append_assoc h.0 h.1 r) ∙ ap (λ us. us ++ r) (sym h.2) ∙ e ∙ ap (λ us. us ++ q) k.2 ∙ append_assoc k.0 k.1 q) h.3 k.3 in
      let m = first kind (Second x.1) h.1 h.4 in
      let n = first kind (Second y.1) k.1 k.4 in
      let z = tail_same m.token n.token (m.rest ++ r) (n.rest ++ q) (ap (λ us. us ++ r) (sym m.is) ∙ c.1 ∙ ap (λ us. us ++ q) n.is) in
      let d = g x.1 y.1 m.rest n.rest r q z.1 m.back n.back in
      ((λ i. (c.0 i, d.0 i)), d.1)

  module _ (cut : CutsAt First (Begins kind)) where
    pub between_found : (tokens ts us rest : List Token) (x : A) (y : B) → Longest First tokens x ts → Ahead kind ts us → Longest Second us y rest → Longest Between tokens (x, y) rest
    between_found tokens ts us rest x y h a k = both_longest First (λ z. Just kind ⌢ Second z) (Begins kind) cut (token_joins kind Second) tokens ts rest x y h (token_longest kind Second ts us rest y a k)

    pub between_no_second : (tokens ts us : List Token) (x : A) → Longest First tokens x ts → Ahead kind ts us → Nothing Second us → Nothing Between tokens
    between_no_second tokens ts us x h a n = both_nothing First (λ z. Just kind ⌢ Second z) (Begins kind) cut (token_joins kind Second) tokens ts x h (token_nothing kind Second ts us a n)

    pub between_no_token : (tokens ts : List Token) (x : A) → Longest First tokens x ts → NotAhead kind ts → Nothing Between tokens
    between_no_token tokens ts x h n = both_nothing First (λ z. Just kind ⌢ Second z) (Begins kind) cut (token_joins kind Second) tokens ts x h (no_token kind Second ts n)

  pub between_no_first : (tokens : List Token) → Nothing First tokens → Nothing Between tokens
  between_no_first tokens n = first_nothing First (λ z. Just kind ⌢ Second z) tokens n
