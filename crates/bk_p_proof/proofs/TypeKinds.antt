-- Types in front of tokens, by the kind of the first one.
use Rattle.std.specs.Prelude.{◌≡◌, ◌≢◌, ℕ, ◌≤◌, true, false, List, [], ◌∷◌, ◌++◌, length, refl}
use Rattle.std.proofs.Common.{arith, sym, ◌∙◌, ap, subst}
use Rattle.bk_form.specs.declared.token.Token.{Token}
use Rattle.bk_form.specs.declared.token.TokenKind.{TokenKind}
use Rattle.bk_form.specs.declared.token.TokenKind.TheVariants.{Name, Sign, Word}
use Rattle.bk_ops.specs.declared.sign.TheConstants.{TIMES, OPEN_PAREN, CLOSE_PAREN}
use Rattle.bk_ops.specs.declared.word.TheConstants.{BOOL, INTEGER, POW}
use Rattle.bk_raw.specs.Grammar.Pieces.{Just, JustSign, ◌⌢◌, InParentheses}
use Rattle.bk_raw.specs.Trees.WrittenType.{WrittenType, written_integer, written_bool, written_set, written_power, written_product}
use Rattle.bk_raw.specs.Grammar.Spelling.{Typed}
use Rattle.bk_raw.proofs.Steps.{Piece, Stopper, step, Leads, leads-join, leads-just, leads-in}
use Rattle.bk_raw.proofs.Patterns.{first}
use Rattle.bk_raw.proofs.TermRuns.{ends_term, inner, typed}
use Rattle.bk_raw.proofs.Runs.{Halts}
use Rattle.bk_raw.proofs.PartOne.{one-typed}
use Rattle.bk_p_expr.specs.Fronts.{Longest, Nothing}
use Rattle.bk_p_proof.specs.Ahead.{Ahead, NotAhead}
use Rattle.bk_p_proof.proofs.Cuts.{CutsAt, Anything, Begins, Both, Behind, Between, both_longest, both_nothing, first_nothing, token_longest, token_nothing, no_token, just_longest, just_nothing, between_found, between_no_first, between_no_second, between_no_token, cuts_by, cuts_less, begins_halts, tail_same}
use Rattle.bk_p_proof.proofs.TypesRead.{type_cut}

-- ---- kinds of tokens
words_same : (m n : ℕ) → Word m ≡ Word n → m ≡ n
words_same m n e = cc

word_sign : (m n : ℕ) → Word m ≡ Sign n → ⊥
word_sign m n e = cc

word_name : (m : ℕ) (x : List ℕ) → Word m ≡ Name x → ⊥
word_name m x e = cc

signs_same : (m n : ℕ) → Sign m ≡ Sign n → m ≡ n
signs_same m n e = cc

sign_name : (m : ℕ) (x : List ℕ) → Sign m ≡ Name x → ⊥
sign_name m x e = cc

name_word : (x : List ℕ) (n : ℕ) → Name x ≡ Word n → ⊥
name_word x n e = cc

name_sign : (x : List ℕ) (n : ℕ) → Name x ≡ Sign n → ⊥
name_sign x n e = cc

-- the token that a type begins with
abbrev pub opens : WrittenType → TokenKind
opens written_integer = Word INTEGER
opens written_bool = Word BOOL
opens (written_set name) = Name name
opens (written_power t) = Word POW
opens (written_product t u) = Sign OPEN_PAREN

type_first : (y : WrittenType) (front : List Token) → Typed y front → Begins (opens y) front
type_first written_integer front h = ([], h)
type_first written_bool front h = ([], h)
type_first (written_set name) front h = ([], h)
type_first (written_power t) front h = let f = first (Word POW) (InParentheses (Typed t)) front h in (f.rest, (f.token, f.is, f.same))
type_first (written_product t u) front h = let f = first (Sign OPEN_PAREN) ((Typed t ⌢ JustSign TIMES ⌢ Typed u) ⌢ JustSign CLOSE_PAREN) front h in (f.rest, (f.token, f.is, f.same))

type_opens : (t : Token) (ts : List Token) (y : WrittenType) (front after : List Token) → t ∷ ts ≡ front ++ after → Typed y front → t.kind ≡ opens y
type_opens t ts y front after e h =
    let f = type_first y front h in
    let s = tail_same t f.1.0 ts (f.0 ++ after) (e ∙ ap (λ us. us ++ after) f.1.1) in
    ap (λ u. u.kind) s.0 ∙ f.1.2

-- ---- no type
pub no_type_empty : (ts : List Token) → ts ≡ [] → Nothing Typed ts
no_type_empty ts e y front after i h =
    let f = type_first y front h in
    omega (arith, ap length (sym e ∙ i ∙ ap (λ us. us ++ after) f.1.1))

pub no_type_kind : (ts us : List Token) (t : Token) → ts ≡ t ∷ us → ((y : WrittenType) → t.kind ≡ opens y → ⊥) → Nothing Typed ts
no_type_kind ts us t i n y front after e h = n y (type_opens t us y front after (sym i ∙ e) h)

pub no_type_word : (t : Token) (ts : List Token) (op : ℕ) → t.kind ≡ Word op → op ≢ INTEGER → op ≢ BOOL → op ≢ POW → Nothing Typed (t ∷ ts)
no_type_word t ts op k i b p y front after e h = refuted y (sym k ∙ type_opens t ts y front after e h)
  where
    refuted : (y : WrittenType) → Word op ≡ opens y → ⊥
    refuted written_integer o = i (words_same op INTEGER o)
    refuted written_bool o = b (words_same op BOOL o)
    refuted (written_set x) o = word_name op x o
    refuted (written_power u) o = p (words_same op POW o)
    refuted (written_product u v) o = word_sign op OPEN_PAREN o

pub no_type_sign : (t : Token) (ts : List Token) (op : ℕ) → t.kind ≡ Sign op → op ≢ OPEN_PAREN → Nothing Typed (t ∷ ts)
no_type_sign t ts op k n y front after e h = refuted y (sym k ∙ type_opens t ts y front after e h)
  where
    refuted : (y : WrittenType) → Sign op ≡ opens y → ⊥
    refuted written_integer o = word_sign INTEGER op (sym o)
    refuted written_bool o = word_sign BOOL op (sym o)
    refuted (written_set x) o = sign_name op x o
    refuted (written_power u) o = word_sign POW op (sym o)
    refuted (written_product u v) o = n (signs_same op OPEN_PAREN o)

-- ---- types of one token
just_shorter : (kind : TokenKind) (t : Token) (ts front after : List Token) → t ∷ ts ≡ front ++ after → Just kind front → length ts ≤ length after
just_shorter kind t ts front after e k =
    let s = tail_same t k.0 ts after (e ∙ ap (λ us. us ++ after) k.1) in
    omega (arith, ap length s.1)

longer_word : (t : Token) (ts : List Token) (op : ℕ) → op ≢ POW → (y : WrittenType) (front after : List Token) → t ∷ ts ≡ front ++ after → Typed y front → Word op ≡ opens y → length ts ≤ length after
longer_word t ts op n written_integer front after e h o = just_shorter (Word INTEGER) t ts front after e h
longer_word t ts op n written_bool front after e h o = just_shorter (Word BOOL) t ts front after e h
longer_word t ts op n (written_set x) front after e h o = just_shorter (Name x) t ts front after e h
longer_word t ts op n (written_power u) front after e h o = absurd (n (words_same op POW o))
longer_word t ts op n (written_product u v) front after e h o = absurd (word_sign op OPEN_PAREN o)

integer_no_pow : INTEGER ≢ POW
integer_no_pow e = omega (arith, e)

bool_no_pow : BOOL ≢ POW
bool_no_pow e = omega (arith, e)

pub integer_found : (t : Token) (ts : List Token) → t.kind ≡ Word INTEGER → Longest Typed (t ∷ ts) written_integer ts
integer_found t ts k = record {
  written = t ∷ [];
  splits = refl;
  spelled = (t, refl, k);
  longest = λ y front after e h. longer_word t ts INTEGER integer_no_pow y front after e h (sym k ∙ type_opens t ts y front after e h);
}

pub bool_found : (t : Token) (ts : List Token) → t.kind ≡ Word BOOL → Longest Typed (t ∷ ts) written_bool ts
bool_found t ts k = record {
  written = t ∷ [];
  splits = refl;
  spelled = (t, refl, k);
  longest = λ y front after e h. longer_word t ts BOOL bool_no_pow y front after e h (sym k ∙ type_opens t ts y front after e h);
}

pub set_found : (tokens ts : List Token) (t : Token) (text : List ℕ) → tokens ≡ t ∷ ts → t.kind ≡ Name text → Longest Typed tokens (written_set text) ts
set_found tokens ts t text i k = record {
  written = t ∷ [];
  splits = i;
  spelled = (t, refl, k);
  longest = λ y front after e h. longer y front after (sym i ∙ e) h (sym k ∙ type_opens t ts y front after (sym i ∙ e) h);
}
  where
    longer : (y : WrittenType) (front after : List Token) → t ∷ ts ≡ front ++ after → Typed y front → Name text ≡ opens y → length ts ≤ length after
    longer written_integer front after e h o = absurd (name_word text INTEGER o)
    longer written_bool front after e h o = absurd (name_word text BOOL o)
    longer (written_set x) front after e h o = just_shorter (Name x) t ts front after e h
    longer (written_power u) front after e h o = absurd (name_word text POW o)
    longer (written_product u v) front after e h o = absurd (name_sign text OPEN_PAREN o)

-- ---- what is in parentheses
abbrev Closer : Unit {0} → Piece
Closer u = JustSign CLOSE_PAREN

closes : (y : Unit {0}) (back after : List Token) → Closer y back → Begins (Sign CLOSE_PAREN) (back ++ after)
closes y back after p = (after, (p.0, ap (λ us. us ++ after) p.1, p.2))

module _ {A : Type 0} (First : A → Piece) (cut : CutsAt First (Begins (Sign CLOSE_PAREN))) where
  abbrev pub Closed : A × Unit {0} → Piece
  Closed = Both First Closer

  pub closed_found : (ts us rest : List Token) (x : A) → Longest First ts x us → Ahead (Sign CLOSE_PAREN) us rest → Longest Closed ts (x, tt) rest
  closed_found ts us rest x h a = both_longest First Closer (Begins (Sign CLOSE_PAREN)) cut closes ts us rest x tt h (just_longest Closer (λ u. Sign CLOSE_PAREN) (λ u vs p. p) (λ u vs p. p) us rest tt a)

  pub closed_no_sign : (ts us : List Token) (x : A) → Longest First ts x us → NotAhead (Sign CLOSE_PAREN) us → Nothing Closed ts
  closed_no_sign ts us x h n = both_nothing First Closer (Begins (Sign CLOSE_PAREN)) cut closes ts us x h (just_nothing Closer (λ u. Sign CLOSE_PAREN) (λ u vs p. p) us (λ u. n))

  pub closed_no_first : (ts : List Token) → Nothing First ts → Nothing Closed ts
  closed_no_first ts n = first_nothing First Closer ts n

-- ---- POW(T)
closed_type : CutsAt Typed (Begins (Sign CLOSE_PAREN))
closed_type = type_cut (Sign CLOSE_PAREN) refl

boxed_type : (tokens rest : List Token) (x y : WrittenType) → x ≡ y → Longest Typed tokens y rest → Longest Typed tokens x rest
boxed_type tokens rest x y e h = subst (λ z. Longest Typed tokens z rest) (sym e) h

abbrev Inside : WrittenType × Unit {0} → Piece
Inside = Both Typed Closer

abbrev Enclosed : WrittenType × Unit {0} → Piece
Enclosed = Behind (Sign OPEN_PAREN) Inside

abbrev Power : WrittenType × Unit {0} → Piece
Power = Behind (Word POW) Enclosed

power_longest : (t : Token) (ts rest : List Token) (x : WrittenType) → t.kind ≡ Word POW → Longest Enclosed ts (x, tt) rest → Longest Typed (t ∷ ts) (written_power x) rest
power_longest t ts rest x k h =
    let l = token_longest (Word POW) Enclosed (t ∷ ts) ts rest (x, tt) (t, refl, k) h in
    record {
      written = l.written;
      splits = l.splits;
      spelled = l.spelled;
      longest = λ y front after e p. longer l y front after e p (sym k ∙ type_opens t ts y front after e p);
    }
  where
    longer : Longest Power (t ∷ ts) (x, tt) rest → (y : WrittenType) (front after : List Token) → t ∷ ts ≡ front ++ after → Typed y front → Word POW ≡ opens y → length rest ≤ length after
    longer l written_integer front after e p o = absurd (integer_no_pow (sym (words_same POW INTEGER o)))
    longer l written_bool front after e p o = absurd (bool_no_pow (sym (words_same POW BOOL o)))
    longer l (written_set y) front after e p o = absurd (word_name POW y o)
    longer l (written_power y) front after e p o = l.longest (y, tt) front after e p
    longer l (written_product y z) front after e p o = absurd (word_sign POW OPEN_PAREN o)

power_nothing : (t : Token) (ts : List Token) → t.kind ≡ Word POW → Nothing Enclosed ts → Nothing Typed (t ∷ ts)
power_nothing t ts k n y front after e p = refuted (token_nothing (Word POW) Enclosed (t ∷ ts) ts (t, refl, k) n) y front after e p (sym k ∙ type_opens t ts y front after e p)
  where
    refuted : Nothing Power (t ∷ ts) → (y : WrittenType) (front after : List Token) → t ∷ ts ≡ front ++ after → Typed y front → Word POW ≡ opens y → ⊥
    refuted l written_integer front after e p o = integer_no_pow (sym (words_same POW INTEGER o))
    refuted l written_bool front after e p o = bool_no_pow (sym (words_same POW BOOL o))
    refuted l (written_set y) front after e p o = word_name POW y o
    refuted l (written_power y) front after e p o = l (y, tt) front after e p
    refuted l (written_product y z) front after e p o = word_sign POW OPEN_PAREN o

pub power_found : (t : Token) (ts us vs rest : List Token) (x z : WrittenType) → z ≡ x → t.kind ≡ Word POW → Ahead (Sign OPEN_PAREN) ts us → Longest Typed us x vs → Ahead (Sign CLOSE_PAREN) vs rest → Longest Typed (t ∷ ts) (written_power z) rest
power_found t ts us vs rest x z i k a h b = boxed_type (t ∷ ts) rest (written_power z) (written_power x) (ap written_power i) (power_longest t ts rest x k (token_longest (Sign OPEN_PAREN) Inside ts us rest (x, tt) a (closed_found Typed closed_type us vs rest x h b)))

pub power_no_open : (t : Token) (ts : List Token) → t.kind ≡ Word POW → NotAhead (Sign OPEN_PAREN) ts → Nothing Typed (t ∷ ts)
power_no_open t ts k n = power_nothing t ts k (no_token (Sign OPEN_PAREN) Inside ts n)

pub power_no_inside : (t : Token) (ts us : List Token) → t.kind ≡ Word POW → Ahead (Sign OPEN_PAREN) ts us → Nothing Typed us → Nothing Typed (t ∷ ts)
power_no_inside t ts us k a n = power_nothing t ts k (token_nothing (Sign OPEN_PAREN) Inside ts us a (closed_no_first Typed closed_type us n))

pub power_no_close : (t : Token) (ts us vs : List Token) (x : WrittenType) → t.kind ≡ Word POW → Ahead (Sign OPEN_PAREN) ts us → Longest Typed us x vs → NotAhead (Sign CLOSE_PAREN) vs → Nothing Typed (t ∷ ts)
power_no_close t ts us vs x k a h n = power_nothing t ts k (token_nothing (Sign OPEN_PAREN) Inside ts us a (closed_no_sign Typed closed_type us vs x h n))

-- ---- (T * U)
abbrev Sides : WrittenType × WrittenType → Piece
Sides = Between Typed (Sign TIMES) Typed

sides_lead : (x : WrittenType × WrittenType) → Leads ends_term (0, false) (0, true) (Sides x)
sides_lead x =
    leads-join ends_term (0, false) (0, true) (0, true) (Typed x.0) (JustSign TIMES ⌢ Typed x.1) (typed x.0)
    (leads-join ends_term (0, true) (0, false) (0, true) (JustSign TIMES) (Typed x.1) (leads-just ends_term 0 true (0, false) (Sign TIMES) refl) (typed x.1))

-- behind a type anything ends it
abbrev ends_type : Stopper
ends_type b kind = b

type_leads : (t : WrittenType) → Leads ends_type (0, false) (0, true) (Typed t)
type_leads written_integer = leads-just ends_type 0 false (0, true) (Word INTEGER) refl
type_leads written_bool = leads-just ends_type 0 false (0, true) (Word BOOL) refl
type_leads (written_set name) = leads-just ends_type 0 false (0, true) (Name name) refl
type_leads (written_power t) = leads-join ends_type (0, false) (0, false) (0, true) (Just (Word POW)) (InParentheses (Typed t)) (leads-just ends_type 0 false (0, false) (Word POW) refl) (leads-in ends_type false true (Sign OPEN_PAREN) (Sign CLOSE_PAREN) (Typed t) refl refl (inner (Typed t) (typed t)))
type_leads (written_product t u) = leads-in ends_type false true (Sign OPEN_PAREN) (Sign CLOSE_PAREN) (Typed t ⌢ JustSign TIMES ⌢ Typed u) refl refl (inner (Typed t ⌢ JustSign TIMES ⌢ Typed u) (sides_lead (t, u)))

type_halts : (ts : List Token) → Anything ts → Halts (step ends_type) (0, true) ts
type_halts [] h = tt
type_halts (t ∷ ts) h = refl

times_cut : CutsAt Typed (Begins (Sign TIMES))
times_cut = cuts_less Typed Anything (Begins (Sign TIMES)) (cuts_less Typed _ Anything (cuts_by Typed ends_type type_leads one-typed) type_halts) (λ ts b. tt)

abbrev sign_token : ℕ → Token
sign_token op = record { kind = Sign op; start = 0; end = 0 }

enclosed : (Q : Piece) (ts : List Token) → Q ts → InParentheses Q (sign_token OPEN_PAREN ∷ (ts ++ sign_token CLOSE_PAREN ∷ []))
enclosed Q ts h =
    let opener = sign_token OPEN_PAREN in
    let closer = sign_token CLOSE_PAREN in
    (opener ∷ [], ts ++ closer ∷ [], refl, (opener, refl, refl), (ts, closer ∷ [], refl, h, (closer, refl, refl)))

left_same : (a b c d : WrittenType) → written_product a b ≡ written_product c d → a ≡ c
left_same a b c d e = cc

right_same : (a b c d : WrittenType) → written_product a b ≡ written_product c d → b ≡ d
right_same a b c d e = cc

one_sides : (x y : WrittenType × WrittenType) (ts : List Token) → Sides x ts → Sides y ts → x ≡ y
one_sides x y ts h k =
    let e = one-typed (written_product x.0 x.1) (written_product y.0 y.1) (sign_token OPEN_PAREN ∷ (ts ++ sign_token CLOSE_PAREN ∷ [])) (enclosed (Sides x) ts h) (enclosed (Sides y) ts k) in
    let l = left_same x.0 x.1 y.0 y.1 e in
    let r = right_same x.0 x.1 y.0 y.1 e in
    λ i. (l i, r i)

sides_cut : CutsAt Sides (Begins (Sign CLOSE_PAREN))
sides_cut = cuts_less Sides _ (Begins (Sign CLOSE_PAREN)) (cuts_by Sides ends_term sides_lead one_sides) (begins_halts ends_term (Sign CLOSE_PAREN) refl)

abbrev ClosedSides : (WrittenType × WrittenType) × Unit {0} → Piece
ClosedSides = Both Sides Closer

abbrev Product : (WrittenType × WrittenType) × Unit {0} → Piece
Product = Behind (Sign OPEN_PAREN) ClosedSides

product_longest : (t : Token) (ts rest : List Token) (x y : WrittenType) → t.kind ≡ Sign OPEN_PAREN → Longest ClosedSides ts ((x, y), tt) rest → Longest Typed (t ∷ ts) (written_product x y) rest
product_longest t ts rest x y k h =
    let l = token_longest (Sign OPEN_PAREN) ClosedSides (t ∷ ts) ts rest ((x, y), tt) (t, refl, k) h in
    record {
      written = l.written;
      splits = l.splits;
      spelled = l.spelled;
      longest = λ z front after e p. longer l z front after e p (sym k ∙ type_opens t ts z front after e p);
    }
  where
    longer : Longest Product (t ∷ ts) ((x, y), tt) rest → (z : WrittenType) (front after : List Token) → t ∷ ts ≡ front ++ after → Typed z front → Sign OPEN_PAREN ≡ opens z → length rest ≤ length after
    longer l written_integer front after e p o = absurd (word_sign INTEGER OPEN_PAREN (sym o))
    longer l written_bool front after e p o = absurd (word_sign BOOL OPEN_PAREN (sym o))
    longer l (written_set z) front after e p o = absurd (sign_name OPEN_PAREN z o)
    longer l (written_power z) front after e p o = absurd (word_sign POW OPEN_PAREN (sym o))
    longer l (written_product z w) front after e p o = l.longest ((z, w), tt) front after e p

product_nothing : (t : Token) (ts : List Token) → t.kind ≡ Sign OPEN_PAREN → Nothing ClosedSides ts → Nothing Typed (t ∷ ts)
product_nothing t ts k n y front after e p = refuted (token_nothing (Sign OPEN_PAREN) ClosedSides (t ∷ ts) ts (t, refl, k) n) y front after e p (sym k ∙ type_opens t ts y front after e p)
  where
    refuted : Nothing Product (t ∷ ts) → (z : WrittenType) (front after : List Token) → t ∷ ts ≡ front ++ after → Typed z front → Sign OPEN_PAREN ≡ opens z → ⊥
    refuted l written_integer front after e p o = word_sign INTEGER OPEN_PAREN (sym o)
    refuted l written_bool front after e p o = word_sign BOOL OPEN_PAREN (sym o)
    refuted l (written_set z) front after e p o = sign_name OPEN_PAREN z o
    refuted l (written_power z) front after e p o = word_sign POW OPEN_PAREN (sym o)
    refuted l (written_product z w) front after e p o = l ((z, w), tt) front after e p

pub product_found : (t : Token) (ts us vs ws rest : List Token) (x y z w : WrittenType) → z ≡ x → w ≡ y → t.kind ≡ Sign OPEN_PAREN → Longest Typed ts x us → Ahead (Sign TIMES) us vs → Longest Typed vs y ws → Ahead (Sign CLOSE_PAREN) ws rest → Longest Typed (t ∷ ts) (written_product z w) rest
product_found t ts us vs ws rest x y z w i j k h a g b = boxed_type (t ∷ ts) rest (written_product z w) (written_product x y) (λ n. written_product (i n) (j n)) (product_longest t ts rest x y k (closed_found Sides sides_cut ts ws rest (x, y) (between_found Typed (Sign TIMES) Typed times_cut ts us vs ws x y h a g) b))

pub product_no_left : (t : Token) (ts : List Token) → t.kind ≡ Sign OPEN_PAREN → Nothing Typed ts → Nothing Typed (t ∷ ts)
product_no_left t ts k n = product_nothing t ts k (closed_no_first Sides sides_cut ts (between_no_first Typed (Sign TIMES) Typed ts n))

pub product_no_times : (t : Token) (ts us : List Token) (x : WrittenType) → t.kind ≡ Sign OPEN_PAREN → Longest Typed ts x us → NotAhead (Sign TIMES) us → Nothing Typed (t ∷ ts)
product_no_times t ts us x k h n = product_nothing t ts k (closed_no_first Sides sides_cut ts (between_no_token Typed (Sign TIMES) Typed times_cut ts us x h n))

pub product_no_right : (t : Token) (ts us vs : List Token) (x : WrittenType) → t.kind ≡ Sign OPEN_PAREN → Longest Typed ts x us → Ahead (Sign TIMES) us vs → Nothing Typed vs → Nothing Typed (t ∷ ts)
product_no_right t ts us vs x k h a n = product_nothing t ts k (closed_no_first Sides sides_cut ts (between_no_second Typed (Sign TIMES) Typed times_cut ts us vs x h a n))

pub product_no_close : (t : Token) (ts us vs ws : List Token) (x y : WrittenType) → t.kind ≡ Sign OPEN_PAREN → Longest Typed ts x us → Ahead (Sign TIMES) us vs → Longest Typed vs y ws → NotAhead (Sign CLOSE_PAREN) ws → Nothing Typed (t ∷ ts)
product_no_close t ts us vs ws x y k h a g n = product_nothing t ts k (closed_no_sign Sides sides_cut ts ws (x, y) (between_found Typed (Sign TIMES) Typed times_cut ts us vs ws x y h a g) n)

-- neither a name nor a word nor a sign
pub no_type_other : (ts us : List Token) (t : Token) → ts ≡ t ∷ us → ((x : List ℕ) → t.kind ≡ Name x → ⊥) → ((n : ℕ) → t.kind ≡ Word n → ⊥) → ((n : ℕ) → t.kind ≡ Sign n → ⊥) → Nothing Typed ts
no_type_other ts us t i n w s = no_type_kind ts us t i refuted
  where
    refuted : (y : WrittenType) → t.kind ≡ opens y → ⊥
    refuted written_integer o = w INTEGER o
    refuted written_bool o = w BOOL o
    refuted (written_set x) o = n x o
    refuted (written_power u) o = w POW o
    refuted (written_product u v) o = s OPEN_PAREN o
