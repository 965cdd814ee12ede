-- What is written by a shape: tokens and parts in order. One way to take it apart.
use Rattle.std.proofs.Common.{◌≡◌, ℕ, zero, suc, Bool, true, false, cond, List, [], ◌∷◌, ◌++◌, Option, Some, None, refl, sym, ◌∙◌, ap, subst, append-nil}
use Rattle.std.specs.Prelude.{◌&&◌, option_and_then}
use Rattle.bk_form.specs.declared.token.Token.{Token}
use Rattle.bk_form.specs.declared.token.TokenKind.{TokenKind}
use Rattle.bk_raw.specs.Grammar.Pieces.{Never, Just, ◌⌢◌}
use Rattle.bk_raw.proofs.Runs.{run, Halts, nil-cons, and-then-some, same-split}
use Rattle.bk_raw.proofs.Steps.{Piece, State, Stopper, stepped, step, nothing, Leads, leads-join, leads-just, leads-never, raise}
use Rattle.bk_raw.proofs.Stopping.{none_some, some_same}

-- ---- two pieces
pub just-there : (kind : TokenKind) (K : Piece) (t : Token) (ts : List Token) → t.kind ≡ kind → K ts → (Just kind ⌢ K) (t ∷ ts)
just-there kind K t ts e k = (t ∷ [], ts, refl, (t, refl, e), k)

pub just-first : (kind : TokenKind) (K : Piece) (t : Token) (ts : List Token) → (Just kind ⌢ K) (t ∷ ts) → (t.kind ≡ kind) × K ts
just-first kind K t ts h =
    let e : t ∷ ts ≡ h.3.0 ∷ h.1 = h.2 ∙ ap (λ f. f ++ h.1) h.3.1 in
    let same : t ≡ h.3.0 = cc in
    let after : h.1 ≡ ts = cc in
    (ap (λ u. u.kind) same ∙ h.3.2, subst K after h.4)

pub just-none : (kind : TokenKind) (K : Piece) → (Just kind ⌢ K) [] → ⊥
just-none kind K h = nil-cons h.3.0 h.1 (h.2 ∙ ap (λ f. f ++ h.1) h.3.1)

-- the first token, and the rest
pub record First (kind : TokenKind) (K : Piece) (ts : List Token) : Type 0 where
  pub token : Token
  pub rest : List Token
  pub is : ts ≡ token ∷ rest
  pub same : token.kind ≡ kind
  pub back : K rest

pub first : (kind : TokenKind) (K : Piece) (ts : List Token) → (Just kind ⌢ K) ts → First kind K ts
first kind K ts h = record { token = h.3.0; rest = h.1; is = h.2 ∙ ap (λ f. f ++ h.1) h.3.1; same = h.3.2; back = h.4 }

pub last : (kind : TokenKind) (ts : List Token) → Just kind ts → (Just kind ⌢ (λ us. us ≡ [])) ts
last kind ts h = (ts, [], sym (append-nil ts), h, refl)

abbrev pub Both : Piece → Piece → Type 0
Both K L = (r : List Token) × K r × L r

pub same-token : (one other : TokenKind) (K L : Piece) (ts : List Token) → (Just one ⌢ K) ts → (Just other ⌢ L) ts → (one ≡ other) × Both K L
same-token one other K L [] h k = absurd (just-none one K h)
same-token one other K L (t ∷ ts) h k =
    let i = just-first one K t ts h in
    let j = just-first other L t ts k in
    (sym i.0 ∙ j.0, (ts, i.1, j.1))

-- behind each list of a piece the automaton halts
abbrev pub StopsAt : Stopper → State → Piece → Type 0
StopsAt stops e K = (ts : List Token) → K ts → Halts (step stops) e ts

pub stops-just : (stops : Stopper) (n : ℕ) (b : Bool) (kind : TokenKind) (K : Piece) → stepped stops n b kind ≡ None → StopsAt stops (n, b) (Just kind ⌢ K)
stops-just stops n b kind K is ts h =
    let f = first kind K ts h in
    subst (Halts (step stops) (n, b)) (sym f.is) (ap (stepped stops n b) f.same ∙ is)

pub stops-last : (stops : Stopper) (n : ℕ) (b : Bool) (kind : TokenKind) → stepped stops n b kind ≡ None → StopsAt stops (n, b) (Just kind)
stops-last stops n b kind is ts h = stops-just stops n b kind (λ us. us ≡ []) is ts (last kind ts h)

-- two pieces that lead to a state in which what is behind them halts are of the same tokens
pub same-piece : (stops : Stopper) (s e f : State) (A B K L : Piece) (ts : List Token) → Leads stops s e A → Leads stops s f B → StopsAt stops e K → StopsAt stops f L → (A ⌢ K) ts → (B ⌢ L) ts → (us : List Token) × A us × B us × Both K L
same-piece stops s e f A B K L ts la lb sk sl h k =
    let p = same-split (step stops) s e f h.0 h.1 k.0 k.1 (la h.0 h.3) (lb k.0 k.3) (sk h.1 h.4) (sl k.1 k.4) (sym h.2 ∙ k.2) in
    (h.0, h.3, subst B (sym p.0) k.3, (h.1, h.4, subst L (sym p.1) k.4))

-- ---- shapes
pub data Shape (K : Type 0) : Type 0 where
  last_token : TokenKind → Shape K
  last_part : K → Shape K
  token_and : TokenKind → Shape K → Shape K
  part_and : K → Shape K → Shape K

abbrev pub Shaped : {K P : Type 0} → (K → P → Piece) → Shape K → List P → Piece
Shaped Written (last_token kind) [] = Just kind
Shaped Written (last_token kind) (p ∷ ps) = Never
Shaped Written (last_part k) [] = Never
Shaped Written (last_part k) (p ∷ []) = Written k p
Shaped Written (last_part k) (p ∷ q ∷ ps) = Never
Shaped Written (token_and kind shape) ps = Just kind ⌢ Shaped Written shape ps
Shaped Written (part_and k shape) [] = Never
Shaped Written (part_and k shape) (p ∷ ps) = Written k p ⌢ Shaped Written shape ps

abbrev is_none : {A : Type 0} → Option A → Bool
is_none None = true
is_none (Some x) = false

none-is : {A : Type 0} (o : Option A) → is_none o ≡ true → o ≡ None
none-is None h = refl
none-is (Some x) h = cc

and-both : (a b : Bool) → (a && b) ≡ true → (a ≡ true) × (b ≡ true)
and-both true b h = (refl, h)
and-both false b h = cc

-- the token behind a part halts there
abbrev pub starts_stopped : {K : Type 0} → Stopper → Shape K → Bool
starts_stopped stops (last_token kind) = is_none (stepped stops 0 true kind)
starts_stopped stops (last_part k) = false
starts_stopped stops (token_and kind shape) = is_none (stepped stops 0 true kind)
starts_stopped stops (part_and k shape) = false

abbrev pub is_cut : {K : Type 0} → (K → Stopper) → Shape K → Bool
is_cut own (last_token kind) = true
is_cut own (last_part k) = true
is_cut own (token_and kind shape) = is_cut own shape
is_cut own (part_and k shape) = starts_stopped (own k) shape && is_cut own shape

-- a part is the only one that is written so
abbrev pub IsOne : {K P : Type 0} → (K → P → Piece) → P → Type 0
IsOne {K} {P} Written p = (k : K) (q : P) (ts : List Token) → Written k p ts → Written k q ts → p ≡ q

abbrev pub AreOne : {K P : Type 0} → (K → P → Piece) → List P → Type 0
AreOne Written [] = Unit {0}
AreOne Written (p ∷ ps) = IsOne Written p × AreOne Written ps

abbrev pub AllLead : {K P : Type 0} → (K → P → Piece) → (K → Stopper) → Type 0
AllLead {K} {P} Written own = (k : K) (p : P) → Leads (own k) (0, false) (0, true) (Written k p)

module _ {K P : Type 0} (Written : K → P → Piece) (own : K → Stopper) (leads : AllLead Written own) where
  stops-shaped : (stops : Stopper) (shape : Shape K) (ps : List P) → starts_stopped stops shape ≡ true → StopsAt stops (0, true) (Shaped Written shape ps)
  stops-shaped stops (last_token kind) [] c = stops-last stops 0 true kind (none-is (stepped stops 0 true kind) c)
  stops-shaped stops (last_token kind) (p ∷ ps) c = λ ts h. absurd h
  stops-shaped stops (last_part k) ps c = cc
  stops-shaped stops (token_and kind shape) ps c = stops-just stops 0 true kind (Shaped Written shape ps) (none-is (stepped stops 0 true kind) c)
  stops-shaped stops (part_and k shape) ps c = cc

  pub one-shaped : (shape : Shape K) (ps qs : List P) (ts : List Token) → is_cut own shape ≡ true → AreOne Written ps → Shaped Written shape ps ts → Shaped Written shape qs ts → ps ≡ qs
  one-shaped (last_token kind) [] [] ts c o h k = refl
  one-shaped (last_token kind) [] (q ∷ qs) ts c o h k = absurd k
  one-shaped (last_token kind) (p ∷ ps) qs ts c o h k = absurd h
  one-shaped (last_part j) [] qs ts c o h k = absurd h
  one-shaped (last_part j) (p ∷ []) [] ts c o h k = absurd k
  one-shaped (last_part j) (p ∷ []) (q ∷ []) ts c o h k = ap (λ x. x ∷ []) (o.0 j q ts h k)
  one-shaped (last_part j) (p ∷ []) (q ∷ r ∷ qs) ts c o h k = absurd k
  one-shaped (last_part j) (p ∷ q ∷ ps) qs ts c o h k = absurd h
  one-shaped (token_and kind shape) ps qs ts c o h k =
      let s = same-token kind kind (Shaped Written shape ps) (Shaped Written shape qs) ts h k in
      one-shaped shape ps qs s.1.0 c o s.1.1 s.1.2
  one-shaped (part_and j shape) [] qs ts c o h k = absurd h
  one-shaped (part_and j shape) (p ∷ ps) [] ts c o h k = absurd k
  one-shaped (part_and j shape) (p ∷ ps) (q ∷ qs) ts c o h k =
      let d = and-both (starts_stopped (own j) shape) (is_cut own shape) c in
      let s = same-piece (own j) (0, false) (0, true) (0, true) (Written j p) (Written j q) (Shaped Written shape ps) (Shaped Written shape qs) ts (leads j p) (leads j q) (stops-shaped (own j) shape ps d.0) (stops-shaped (own j) shape qs d.0) h k in
      let e = o.0 j q s.0 s.1 s.2 in
      let f = one-shaped shape ps qs s.3.0 d.1 o.1 s.3.1 s.3.2 in
      λ i. e i ∷ f i

-- ---- what a shape leads to
-- a part begins where a term may begin; where nothing is open only those that lead there
abbrev pub over_from : Bool → ℕ → Bool → Option State
over_from f n true = None
over_from f zero false = cond f (Some (0, true)) None
over_from f (suc n) false = Some (suc n, true)

abbrev pub over : {K : Type 0} → (K → Bool) → K → State → Option State
over flat k s = over_from (flat k) s.0 s.1

abbrev pub walk : {K : Type 0} → Stopper → (K → Bool) → Shape K → State → Option State
walk stops flat (last_token kind) s = stepped stops s.0 s.1 kind
walk stops flat (last_part k) s = over flat k s
walk stops flat (token_and kind shape) s = option_and_then (walk stops flat shape) (stepped stops s.0 s.1 kind)
walk stops flat (part_and k shape) s = option_and_then (walk stops flat shape) (over flat k s)

raise-by : (any : Stopper) (n : ℕ) (ts : List Token) → run (step nothing) (0, false) ts ≡ Some (0, true) → run (step any) (suc n, false) ts ≡ Some (suc n, true)
raise-by any zero ts h = raise nothing any 0 0 false true ts h
raise-by any (suc n) ts h = raise nothing any (suc n) (suc n) false true ts (raise-by nothing n ts h)

-- a part leads over itself inside of brackets, and outside where it may stand there
abbrev pub Fits : {K P : Type 0} → (K → P → Piece) → Stopper → (K → Bool) → P → Type 0
Fits {K} Written stops flat p = ((k : K) → Leads nothing (0, false) (0, true) (Written k p)) × ((k : K) → flat k ≡ true → Leads stops (0, false) (0, true) (Written k p))

abbrev pub AllFit : {K P : Type 0} → (K → P → Piece) → Stopper → (K → Bool) → List P → Type 0
AllFit Written stops flat [] = Unit {0}
AllFit Written stops flat (p ∷ ps) = Fits Written stops flat p × AllFit Written stops flat ps

cond-some : (b : Bool) (x y : State) → cond b (Some x) None ≡ Some y → (b ≡ true) × (x ≡ y)
cond-some true x y e = (refl, some_same x y e)
cond-some false x y e = absurd (none_some y e)

module _ {K P : Type 0} (Written : K → P → Piece) (stops : Stopper) (flat : K → Bool) where
  leads-part : (k : K) (p : P) (n : ℕ) (b : Bool) (e : State) → Fits Written stops flat p → over flat k (n, b) ≡ Some e → Leads stops (n, b) e (Written k p)
  leads-part k p n true e f h = absurd (none_some e h)
  leads-part k p zero false e f h =
      let c = cond-some (flat k) (0, true) e h in
      subst (λ x. Leads stops (0, false) x (Written k p)) c.1 (f.1 k c.0)
  leads-part k p (suc n) false e f h =
      subst (λ x. Leads stops (suc n, false) x (Written k p)) (some_same (suc n, true) e h) (λ ts w. raise-by stops n ts (f.0 k ts w))

  pub leads-shaped : (shape : Shape K) (ps : List P) (n : ℕ) (b : Bool) (e : State) → AllFit Written stops flat ps → walk stops flat shape (n, b) ≡ Some e → Leads stops (n, b) e (Shaped Written shape ps)
  leads-shaped (last_token kind) [] n b e f h = leads-just stops n b e kind h
  leads-shaped (last_token kind) (p ∷ ps) n b e f h = leads-never stops (n, b) e
  leads-shaped (last_part k) [] n b e f h = leads-never stops (n, b) e
  leads-shaped (last_part k) (p ∷ []) n b e f h = leads-part k p n b e f.0 h
  leads-shaped (last_part k) (p ∷ q ∷ ps) n b e f h = leads-never stops (n, b) e
  leads-shaped (token_and kind shape) ps n b e f h =
      let m = and-then-some (stepped stops n b kind) (walk stops flat shape) e h in
      leads-join stops (n, b) m.0 e (Just kind) (Shaped Written shape ps) (leads-just stops n b m.0 kind m.1) (leads-shaped shape ps m.0.0 m.0.1 e f m.2)
  leads-shaped (part_and k shape) [] n b e f h = leads-never stops (n, b) e
  leads-shaped (part_and k shape) (p ∷ ps) n b e f h =
      let m = and-then-some (over flat k (n, b)) (walk stops flat shape) e h in
      leads-join stops (n, b) m.0 e (Written k p) (Shaped Written shape ps) (leads-part k p n b m.0 f.0 m.1) (leads-shaped shape ps m.0.0 m.0.1 e f.1 m.2)
