-- Two parts of a rule that are written as the same tokens are the same.
use Rattle.std.proofs.Common.{◌≡◌, inl, inr, ℕ, ℤ, Bool, true, false, List, [], ◌∷◌, ◌++◌, length, Some, None, refl, sym, ◌∙◌, ap, subst, arith, cond, length-append, ◌+◌}
use Rattle.std.specs.Prelude.{nat_eq, ◌||◌, ◌&&◌, not, pos, codes}
use Rattle.bk_form.specs.declared.token.Token.{Token}
use Rattle.bk_form.specs.declared.token.TokenKind.{TokenKind}
use Rattle.bk_form.specs.declared.token.TokenKind.TheVariants.{Name, Number, Sign}
use Rattle.bk_ops.specs.declared.sign.TheConstants.{OPEN_PAREN, CLOSE_PAREN, OPEN_BRACE, CLOSE_BRACE, COMMA, MEMBER, TIMES, PLUS, MINUS, DIVIDE, BAR, SEMICOLON}
use Rattle.bk_raw.specs.Grammar.Pieces.{Just, JustSign, ◌⌢◌, Digits, Literal, Divided, InRow, AnyDivided}
use Rattle.bk_raw.specs.Trees.RawTree.{RawTree, raw, raw_number, raw_typed_empty}
use Rattle.bk_raw.specs.Grammar.Spelling.{Declared, Typed, Term}
use Rattle.bk_raw.specs.Trees.WrittenType.{WrittenType}
use Rattle.bk_raw.proofs.Exact.{one_for_its_tokens}
use Rattle.bk_raw.specs.Trees.ScriptTree.{RawPlace, in_goal, in_hypothesis, RawLine, multiples, quotient}
use Rattle.bk_raw.specs.declared.script.RawMultiple.{RawMultiple}
use Rattle.bk_raw.specs.declared.script.RawTyped.{RawTyped}
use Rattle.bk_raw.specs.Grammar.ScriptSpelling.{Place, TypedName, AnyTerm, Picked, Multiple, Line}
use Rattle.bk_raw.proofs.Steps.{Piece, State, Stopper, nothing, Leads, leads-join, leads-just, leads-fewer, fewer-nothing, leads-in}
use Rattle.bk_raw.proofs.TermRuns.{ends_term, ends_terms, fewer-terms, term, typed}
use Rattle.bk_raw.proofs.Patterns.{Both, same-token, same-piece, StopsAt, stops-just, stops-last, just-none}
use Rattle.bk_raw.proofs.SubOne.{names-cut, just-same}
use Rattle.bk_raw.proofs.Lists.{leads-absent, One, divided-leads, one-divided}
use Rattle.bk_raw.proofs.Shapes.{regrouped}
use Rattle.bk_raw.proofs.Stopping.{some_same}

false-true : false ≡ true → ⊥
false-true e = cc

-- what leads from an open term to a complete one is not empty
pub not-empty : (stops : Stopper) (A : Piece) → Leads stops (0, false) (0, true) A → A [] → ⊥
not-empty stops A f h = false-true (ap (λ (s : State). s.1) (some_same (0, false) (0, true) (f [] h)))

-- ---- one token
-- a piece of one token
abbrev pub IsSingle : Piece → Type 0
IsSingle P = (ts : List Token) → P ts → (t : Token) × (ts ≡ t ∷ [])

pub single-cut : (P Q K L : Piece) (ts : List Token) → IsSingle P → IsSingle Q → (P ⌢ K) ts → (Q ⌢ L) ts → (us : List Token) × P us × Q us × Both K L
single-cut P Q K L ts p q h k =
    let a = p h.0 h.3 in
    let b = q k.0 k.3 in
    let e : a.0 ∷ h.1 ≡ b.0 ∷ k.1 = ap (λ f. f ++ h.1) (sym a.1) ∙ sym h.2 ∙ k.2 ∙ ap (λ f. f ++ k.1) b.1 in
    let same : b.0 ≡ a.0 = cc in
    let after : k.1 ≡ h.1 = cc in
    (h.0, h.3, subst Q (b.1 ∙ ap (λ t. t ∷ []) same ∙ sym a.1) k.3, (h.1, h.4, subst L after k.4))

pub single-just : (kind : TokenKind) → IsSingle (Just kind)
single-just kind ts h = (h.0, h.1)

numbers-same : (m n : ℕ) → Number (pos m) ≡ Number (pos n) → m ≡ n
numbers-same m n e = cc

pub one-digits : One Digits
one-digits m n ts h k = numbers-same m n (just-same (Number (pos m)) (Number (pos n)) ts h k)

pub digits-cut : (m n : ℕ) (K L : Piece) (ts : List Token) → (Digits m ⌢ K) ts → (Digits n ⌢ L) ts → (m ≡ n) × Both K L
digits-cut m n K L ts h k =
    let c = single-cut (Digits m) (Digits n) K L ts (single-just (Number (pos m))) (single-just (Number (pos n))) h k in
    (one-digits m n c.0 c.1 c.2, c.3)

-- ---- places
-- where a place ends: at anything but a number
abbrev pub ends_place : Stopper
ends_place b (Number z) = false
ends_place b kind = b

row-digits : (path : List ℕ) → Leads ends_place (0, true) (0, true) (InRow Digits path)
row-digits [] = leads-absent ends_place (0, true)
row-digits (n ∷ path) = leads-join ends_place (0, true) (0, true) (0, true) (Digits n) (InRow Digits path) (leads-just ends_place 0 true (0, true) (Number (pos n)) refl) (row-digits path)

pub place-leads : (p : RawPlace) → Leads ends_place (0, false) (0, true) (Place p)
place-leads (in_goal path) = leads-join ends_place (0, false) (0, true) (0, true) (Just (Name (codes "goal"))) (InRow Digits path) (leads-just ends_place 0 false (0, true) (Name (codes "goal")) refl) (row-digits path)
place-leads (in_hypothesis i path) =
    leads-join ends_place (0, false) (0, true) (0, true) (Just (Name (codes "hyp"))) (Digits i ⌢ InRow Digits path) (leads-just ends_place 0 false (0, true) (Name (codes "hyp")) refl)
    (leads-join ends_place (0, true) (0, true) (0, true) (Digits i) (InRow Digits path) (leads-just ends_place 0 true (0, true) (Number (pos i)) refl) (row-digits path))

one-path : (p q : List ℕ) (ts : List Token) → InRow Digits p ts → InRow Digits q ts → p ≡ q
one-path [] [] ts h k = refl
one-path [] (n ∷ q) ts h k = absurd (just-none (Number (pos n)) (InRow Digits q) (subst (InRow Digits (n ∷ q)) h k))
one-path (m ∷ p) [] ts h k = absurd (just-none (Number (pos m)) (InRow Digits p) (subst (InRow Digits (m ∷ p)) k h))
one-path (m ∷ p) (n ∷ q) ts h k =
    let c = digits-cut m n (InRow Digits p) (InRow Digits q) ts h k in
    let e = one-path p q c.1.0 c.1.1 c.1.2 in
    λ i. c.0 i ∷ e i

pub texts-same : (x y : List ℕ) → Name x ≡ Name y → x ≡ y
texts-same x y e = cc

goal-hyp : Name (codes "goal") ≡ Name (codes "hyp") → ⊥
goal-hyp e = omega (arith, ap length (texts-same (codes "goal") (codes "hyp") e))

pub one-place : One Place
one-place (in_goal p) (in_goal q) ts h k =
    let c = same-token (Name (codes "goal")) (Name (codes "goal")) (InRow Digits p) (InRow Digits q) ts h k in
    ap in_goal (one-path p q c.1.0 c.1.1 c.1.2)
one-place (in_goal p) (in_hypothesis j q) ts h k = absurd (goal-hyp (same-token (Name (codes "goal")) (Name (codes "hyp")) (InRow Digits p) (Digits j ⌢ InRow Digits q) ts h k).0)
one-place (in_hypothesis i p) (in_goal q) ts h k = absurd (goal-hyp (same-token (Name (codes "goal")) (Name (codes "hyp")) (InRow Digits q) (Digits i ⌢ InRow Digits p) ts k h).0)
one-place (in_hypothesis i p) (in_hypothesis j q) ts h k =
    let c = same-token (Name (codes "hyp")) (Name (codes "hyp")) (Digits i ⌢ InRow Digits p) (Digits j ⌢ InRow Digits q) ts h k in
    let d = digits-cut i j (InRow Digits p) (InRow Digits q) c.1.0 c.1.1 c.1.2 in
    let e = one-path p q d.1.0 d.1.1 d.1.2 in
    λ i. in_hypothesis (d.0 i) (e i)

-- ---- terms
pub terms-lead : (ts : List RawTree) → Leads ends_terms (0, false) (0, true) (Divided COMMA AnyTerm ts)
terms-lead ts = divided-leads COMMA AnyTerm ends_terms (λ t. leads-fewer ends_terms ends_term (0, false) (0, true) (Term t 0) fewer-terms (term t 0)) refl ts

pub one-terms : One (Divided COMMA AnyTerm)
one-terms = one-divided COMMA AnyTerm ends_term (λ t. term t 0) refl (λ t u ts h k. one_for_its_tokens ts t u h k)

-- ---- typed names
abbrev sign-token : ℕ → Token
sign-token op = record { kind = Sign op; start = 0; end = 0 }

-- a type in {:T}
in-empty : (t : WrittenType) (ts : List Token) → Typed t ts → Term (raw 0 (raw_typed_empty t)) 0 (sign-token OPEN_BRACE ∷ sign-token MEMBER ∷ (ts ++ sign-token CLOSE_BRACE ∷ []))
in-empty t ts h =
    let opener = sign-token OPEN_BRACE in
    let member = sign-token MEMBER in
    let closer = sign-token CLOSE_BRACE in
    inl (opener, member ∷ (ts ++ closer ∷ []), refl, refl, (opener ∷ [], member ∷ (ts ++ closer ∷ []), refl, (opener, refl, refl), (member ∷ ts, closer ∷ [], refl, (member ∷ [], ts, refl, (member, refl, refl), h), (closer, refl, refl))))

types-same : (t u : WrittenType) → raw 0 (raw_typed_empty t) ≡ raw 0 (raw_typed_empty u) → t ≡ u
types-same t u e = cc

pub one-typed : (t u : WrittenType) (ts : List Token) → Typed t ts → Typed u ts → t ≡ u
one-typed t u ts h k = types-same t u (one_for_its_tokens (sign-token OPEN_BRACE ∷ sign-token MEMBER ∷ (ts ++ sign-token CLOSE_BRACE ∷ [])) (raw 0 (raw_typed_empty t)) (raw 0 (raw_typed_empty u)) (in-empty t ts h) (in-empty u ts k))

one-typed-name : One TypedName
one-typed-name x y ts h k =
    let c = names-cut x.name y.name (JustSign MEMBER ⌢ Typed x.ty) (JustSign MEMBER ⌢ Typed y.ty) ts h k in
    let d = same-token (Sign MEMBER) (Sign MEMBER) (Typed x.ty) (Typed y.ty) c.1.0 c.1.1 c.1.2 in
    let e = one-typed x.ty y.ty d.1.0 d.1.1 d.1.2 in
    λ i. record { name = c.0 i; ty = e i }

typed-name-leads : (x : RawTyped) → Leads ends_term (0, false) (0, true) (TypedName x)
typed-name-leads x =
    leads-join ends_term (0, false) (0, true) (0, true) (Declared x.name) (JustSign MEMBER ⌢ Typed x.ty) (λ ts h. leads-just ends_term 0 false (0, true) (Name x.name.text) refl ts (h.0, h.1, h.2))
    (leads-join ends_term (0, true) (0, false) (0, true) (JustSign MEMBER) (Typed x.ty) (leads-just ends_term 0 true (0, false) (Sign MEMBER) refl) (typed x.ty))

pub typed-names-lead : (xs : List RawTyped) → Leads ends_terms (0, false) (0, true) (Divided COMMA TypedName xs)
typed-names-lead xs = divided-leads COMMA TypedName ends_terms (λ x. leads-fewer ends_terms ends_term (0, false) (0, true) (TypedName x) fewer-terms (typed-name-leads x)) refl xs

pub one-typed-names : One (Divided COMMA TypedName)
one-typed-names = one-divided COMMA TypedName ends_term typed-name-leads refl one-typed-name

-- ---- laws
abbrev pub ends_law : Stopper
ends_law b (Sign op) = b && not (nat_eq op OPEN_PAREN)
ends_law b kind = b

inner-terms : (ts : List RawTree) → Leads nothing (0, false) (0, true) (Divided COMMA AnyTerm ts)
inner-terms ts = leads-fewer nothing ends_terms (0, false) (0, true) (Divided COMMA AnyTerm ts) (fewer-nothing ends_terms) (terms-lead ts)

picked-leads : (ts : List RawTree) → Leads ends_law (0, true) (0, true) (Picked ts)
picked-leads [] us h = elim h [
  | inl e ↦ leads-absent ends_law (0, true) us e
  | inr e ↦ leads-join ends_law (0, true) (1, false) (0, true) (JustSign OPEN_PAREN) (JustSign CLOSE_PAREN) (leads-just ends_law 0 true (1, false) (Sign OPEN_PAREN) refl) (leads-just ends_law 1 false (0, true) (Sign CLOSE_PAREN) refl) us e
]
picked-leads (t ∷ ts) us h = leads-in ends_law true true (Sign OPEN_PAREN) (Sign CLOSE_PAREN) (Divided COMMA AnyTerm (t ∷ ts)) refl refl (inner-terms (t ∷ ts)) us h

pub law-leads : (name : List ℕ) (ts : List RawTree) → Leads ends_law (0, false) (0, true) (Just (Name name) ⌢ Picked ts)
law-leads name ts = leads-join ends_law (0, false) (0, true) (0, true) (Just (Name name)) (Picked ts) (leads-just ends_law 0 false (0, true) (Name name) refl) (picked-leads ts)

-- a term is not empty
no-terms : (ts : List RawTree) → Divided COMMA AnyTerm ts [] → ⊥
no-terms ts h = not-empty nothing (Divided COMMA AnyTerm ts) (inner-terms ts) h

-- a closing parenthesis is no terms and one
close-only : (ts : List RawTree) (us f b : List Token) → us ≡ f ++ b → Divided COMMA AnyTerm ts f → JustSign CLOSE_PAREN b → JustSign CLOSE_PAREN us → ⊥
close-only ts us [] b e h k w = no-terms ts h
close-only ts us (t ∷ f) b e h k w = let l : length us ≡ length (t ∷ f) + length b = ap length e ∙ length-append (t ∷ f) b in omega (arith, l, ap length k.1, ap length w.1)

empty-or-terms : (ts : List RawTree) (us : List Token) → (JustSign OPEN_PAREN ⌢ JustSign CLOSE_PAREN) us → (JustSign OPEN_PAREN ⌢ Divided COMMA AnyTerm ts ⌢ JustSign CLOSE_PAREN) us → ⊥
empty-or-terms ts us h k =
    let c = same-token (Sign OPEN_PAREN) (Sign OPEN_PAREN) (JustSign CLOSE_PAREN) (Divided COMMA AnyTerm ts ⌢ JustSign CLOSE_PAREN) us h k in
    let q = c.1.2 in
    close-only ts c.1.0 q.0 q.1 q.2 q.3 q.4 c.1.1

one-picked : One Picked
one-picked [] [] us h k = refl
one-picked [] (t ∷ ts) us h k = elim h [
  | inl e ↦ absurd (just-none (Sign OPEN_PAREN) (Divided COMMA AnyTerm (t ∷ ts) ⌢ JustSign CLOSE_PAREN) (subst (Picked (t ∷ ts)) e k))
  | inr e ↦ absurd (empty-or-terms (t ∷ ts) us e k)
]
one-picked (t ∷ ts) [] us h k = elim k [
  | inl e ↦ absurd (just-none (Sign OPEN_PAREN) (Divided COMMA AnyTerm (t ∷ ts) ⌢ JustSign CLOSE_PAREN) (subst (Picked (t ∷ ts)) e h))
  | inr e ↦ absurd (empty-or-terms (t ∷ ts) us e h)
]
one-picked (t ∷ ts) (v ∷ vs) us h k =
    let T = Divided COMMA AnyTerm (t ∷ ts) in
    let V = Divided COMMA AnyTerm (v ∷ vs) in
    let c = same-token (Sign OPEN_PAREN) (Sign OPEN_PAREN) (T ⌢ JustSign CLOSE_PAREN) (V ⌢ JustSign CLOSE_PAREN) us h k in
    let d = same-piece ends_terms (0, false) (0, true) (0, true) T V (JustSign CLOSE_PAREN) (JustSign CLOSE_PAREN) c.1.0 (terms-lead (t ∷ ts)) (terms-lead (v ∷ vs)) (stops-last ends_terms 0 true (Sign CLOSE_PAREN) refl) (stops-last ends_terms 0 true (Sign CLOSE_PAREN) refl) c.1.1 c.1.2 in
    one-terms (t ∷ ts) (v ∷ vs) d.0 d.1 d.2

pub one-law : (m n : List ℕ) (ts vs : List RawTree) (us : List Token) → (Just (Name m) ⌢ Picked ts) us → (Just (Name n) ⌢ Picked vs) us → (m ≡ n) × (ts ≡ vs)
one-law m n ts vs us h k =
    let c = same-token (Name m) (Name n) (Picked ts) (Picked vs) us h k in
    (texts-same m n c.0, one-picked ts vs c.1.0 c.1.1 c.1.2)

-- ---- certificates
-- where a factor ends
abbrev ends_factor : Stopper
ends_factor b (Sign op) = nat_eq op TIMES || nat_eq op DIVIDE
ends_factor b kind = false

abbrev ends_multiple : Stopper
ends_multiple b (Sign op) = nat_eq op PLUS
ends_multiple b kind = false

abbrev ends_line : Stopper
ends_line b (Sign op) = nat_eq op BAR
ends_line b kind = false

-- what ends a certificate
abbrev pub ends_certificate : Stopper
ends_certificate b (Name x) = true
ends_certificate b (Sign op) = nat_eq op SEMICOLON
ends_certificate b kind = false

abbrev Passes : Stopper → Type 0
Passes stops = ((b : Bool) (z : ℤ) → stops b (Number z) ≡ false) × ((b : Bool) → stops b (Sign MINUS) ≡ false)

digits-lead : (stops : Stopper) → ((b : Bool) (z : ℤ) → stops b (Number z) ≡ false) → (n : ℕ) → Leads stops (0, false) (0, true) (Digits n)
digits-lead stops p n = leads-just stops 0 false (0, true) (Number (pos n)) (ap (λ x. cond x None (Some (0, true))) (p false (pos n)))

literal-leads : (stops : Stopper) → Passes stops → (z : ℤ) → Leads stops (0, false) (0, true) (Literal z 0)
literal-leads stops p z ts h = elim h [
  | inl q ↦ digits-lead stops p.0 q.0 ts q.2
  | inr q ↦ leads-join stops (0, false) (0, false) (0, true) (JustSign MINUS) (Digits q.0) (leads-just stops 0 false (0, false) (Sign MINUS) (ap (λ x. cond x None (Some (0, false))) (p.1 false))) (digits-lead stops p.0 q.0) ts q.2.1
]

-- a literal as a term
literals-same : (y z : ℤ) (a b : ℕ) → raw a (raw_number y) ≡ raw b (raw_number z) → y ≡ z
literals-same y z a b e = cc

literal-term : (z : ℤ) (t : Token) (ts : List Token) → Literal z 0 (t ∷ ts) → Term (raw t.start (raw_number z)) 0 (t ∷ ts)
literal-term z t ts h = inl (t, ts, refl, refl, h)

no-literal : (z : ℤ) → Literal z 0 [] → ⊥
no-literal z h = not-empty nothing (Literal z 0) (literal-leads nothing ((λ b y. refl), (λ b. refl)) z) h

one-literal : (y z : ℤ) (ts : List Token) → Literal y 0 ts → Literal z 0 ts → y ≡ z
one-literal y z [] h k = absurd (no-literal y h)
one-literal y z (t ∷ ts) h k = literals-same y z t.start t.start (one_for_its_tokens (t ∷ ts) (raw t.start (raw_number y)) (raw t.start (raw_number z)) (literal-term y t ts h) (literal-term z t ts k))

multiple-leads : (stops : Stopper) → Passes stops → ((b : Bool) → stops b (Sign TIMES) ≡ false) → (m : RawMultiple) → Leads stops (0, false) (0, true) (Multiple m)
multiple-leads stops p s m =
    leads-join stops (0, false) (0, true) (0, true) (Literal m.multiplier 0) (JustSign TIMES ⌢ Digits m.fact) (literal-leads stops p m.multiplier)
    (leads-join stops (0, true) (0, false) (0, true) (JustSign TIMES) (Digits m.fact) (leads-just stops 0 true (0, false) (Sign TIMES) (ap (λ x. cond x None (Some (0, false))) (s true))) (digits-lead stops p.0 m.fact))

one-multiple : One Multiple
one-multiple m n ts h k =
    let c = same-piece ends_factor (0, false) (0, true) (0, true) (Literal m.multiplier 0) (Literal n.multiplier 0) (JustSign TIMES ⌢ Digits m.fact) (JustSign TIMES ⌢ Digits n.fact) ts (literal-leads ends_factor ((λ b y. refl), (λ b. refl)) m.multiplier) (literal-leads ends_factor ((λ b y. refl), (λ b. refl)) n.multiplier) (stops-just ends_factor 0 true (Sign TIMES) (Digits m.fact) refl) (stops-just ends_factor 0 true (Sign TIMES) (Digits n.fact) refl) h k in
    let e = one-literal m.multiplier n.multiplier c.0 c.1 c.2 in
    let d = same-token (Sign TIMES) (Sign TIMES) (Digits m.fact) (Digits n.fact) c.3.0 c.3.1 c.3.2 in
    let f = one-digits m.fact n.fact d.1.0 d.1.1 d.1.2 in
    λ i. record { multiplier = e i; fact = f i }

-- the first multiple, and what is behind
first-multiple : (ms : List RawMultiple) (ts : List Token) → Divided PLUS Multiple ms ts → (z : ℤ) × (K : Piece) × (Literal z 0 ⌢ JustSign TIMES ⌢ K) ts
first-multiple [] ts h = absurd h
first-multiple (m ∷ []) ts h = (m.multiplier, Digits m.fact, h)
first-multiple (m ∷ n ∷ ms) ts h =
    let R = JustSign PLUS ⌢ Divided PLUS Multiple (n ∷ ms) in
    let a = regrouped (Literal m.multiplier 0) (JustSign TIMES ⌢ Digits m.fact) R ts h in
    (m.multiplier, Digits m.fact ⌢ R, (a.0, a.1, a.2, a.3, regrouped (JustSign TIMES) (Digits m.fact) R a.1 a.4))

signs-same : (m n : ℕ) → Sign m ≡ Sign n → m ≡ n
signs-same m n e = cc

multiples-divided : (ms : List RawMultiple) (k g : ℕ) (ts : List Token) → Divided PLUS Multiple ms ts → (Digits k ⌢ JustSign DIVIDE ⌢ Digits g) ts → ⊥
multiples-divided ms k g ts h d =
    let f = first-multiple ms ts h in
    let c = same-piece ends_factor (0, false) (0, true) (0, true) (Literal f.0 0) (Digits k) (JustSign TIMES ⌢ f.1) (JustSign DIVIDE ⌢ Digits g) ts (literal-leads ends_factor ((λ b y. refl), (λ b. refl)) f.0) (digits-lead ends_factor (λ b y. refl) k) (stops-just ends_factor 0 true (Sign TIMES) f.1 refl) (stops-just ends_factor 0 true (Sign DIVIDE) (Digits g) refl) f.2 d in
    omega (arith, signs-same TIMES DIVIDE (same-token (Sign TIMES) (Sign DIVIDE) f.1 (Digits g) c.3.0 c.3.1 c.3.2).0)

one-line : One Line
one-line (multiples ms) (multiples ns) ts h k = ap multiples (one-divided PLUS Multiple ends_multiple (multiple-leads ends_multiple ((λ b y. refl), (λ b. refl)) (λ b. refl)) refl one-multiple ms ns ts h k)
one-line (multiples ms) (quotient k g) ts h d = absurd (multiples-divided ms k g ts h d)
one-line (quotient k g) (multiples ms) ts h d = absurd (multiples-divided ms k g ts d h)
one-line (quotient k g) (quotient j f) ts h d =
    let a = digits-cut k j (JustSign DIVIDE ⌢ Digits g) (JustSign DIVIDE ⌢ Digits f) ts h d in
    let b = same-token (Sign DIVIDE) (Sign DIVIDE) (Digits g) (Digits f) a.1.0 a.1.1 a.1.2 in
    let c = one-digits g f b.1.0 b.1.1 b.1.2 in
    λ i. quotient (a.0 i) (c i)

line-leads : (stops : Stopper) → Passes stops → ((b : Bool) → stops b (Sign TIMES) ≡ false) → stops true (Sign PLUS) ≡ false → stops true (Sign DIVIDE) ≡ false → (l : RawLine) → Leads stops (0, false) (0, true) (Line l)
line-leads stops p s plus over (multiples ms) = divided-leads PLUS Multiple stops (multiple-leads stops p s) (ap (λ x. cond x None (Some (0, false))) plus) ms
line-leads stops p s plus over (quotient k g) =
    leads-join stops (0, false) (0, true) (0, true) (Digits k) (JustSign DIVIDE ⌢ Digits g) (digits-lead stops p.0 k)
    (leads-join stops (0, true) (0, false) (0, true) (JustSign DIVIDE) (Digits g) (leads-just stops 0 true (0, false) (Sign DIVIDE) (ap (λ x. cond x None (Some (0, false))) over)) (digits-lead stops p.0 g))

one-lines : One (Divided BAR Line)
one-lines = one-divided BAR Line ends_line (line-leads ends_line ((λ b y. refl), (λ b. refl)) (λ b. refl) refl refl) refl one-line

-- the numbers of hypotheses
abbrev ends_facts : Stopper
ends_facts b (Sign op) = nat_eq op MEMBER
ends_facts b kind = false

abbrev ends_fact : Stopper
ends_fact b (Sign op) = nat_eq op COMMA
ends_fact b kind = false

abbrev behind_facts : List ℕ → State
behind_facts [] = (0, false)
behind_facts (n ∷ ns) = (0, true)

facts-lead : (stops : Stopper) → ((b : Bool) (z : ℤ) → stops b (Number z) ≡ false) → stops true (Sign COMMA) ≡ false → (ns : List ℕ) → Leads stops (0, false) (behind_facts ns) (AnyDivided COMMA Digits ns)
facts-lead stops p c [] = leads-absent stops (0, false)
facts-lead stops p c (n ∷ ns) = divided-leads COMMA Digits stops (digits-lead stops p) (ap (λ x. cond x None (Some (0, false))) c) (n ∷ ns)

facts-stop : (ns : List ℕ) (K : Piece) → StopsAt ends_facts (behind_facts ns) (JustSign MEMBER ⌢ K)
facts-stop [] K = stops-just ends_facts 0 false (Sign MEMBER) K refl
facts-stop (n ∷ ns) K = stops-just ends_facts 0 true (Sign MEMBER) K refl

no-facts : (n : ℕ) (ns : List ℕ) → Divided COMMA Digits (n ∷ ns) [] → ⊥
no-facts n ns h = not-empty nothing (Divided COMMA Digits (n ∷ ns)) (facts-lead nothing (λ b z. refl) refl (n ∷ ns)) h

one-facts : One (AnyDivided COMMA Digits)
one-facts [] [] ts h k = refl
one-facts [] (n ∷ ns) ts h k = absurd (no-facts n ns (subst (Divided COMMA Digits (n ∷ ns)) h k))
one-facts (n ∷ ns) [] ts h k = absurd (no-facts n ns (subst (Divided COMMA Digits (n ∷ ns)) k h))
one-facts (m ∷ ms) (n ∷ ns) ts h k = one-divided COMMA Digits ends_fact (digits-lead ends_fact (λ b z. refl)) refl one-digits (m ∷ ms) (n ∷ ns) ts h k

abbrev pub Certified : List ℕ → List RawLine → Piece
Certified facts lines = AnyDivided COMMA Digits facts ⌢ JustSign MEMBER ⌢ Divided BAR Line lines

pub one-certificate : (ms ns : List ℕ) (ls ks : List RawLine) (ts : List Token) → Certified ms ls ts → Certified ns ks ts → (ms ≡ ns) × (ls ≡ ks)
one-certificate ms ns ls ks ts h k =
    let L = Divided BAR Line ls in
    let K = Divided BAR Line ks in
    let c = same-piece ends_facts (0, false) (behind_facts ms) (behind_facts ns) (AnyDivided COMMA Digits ms) (AnyDivided COMMA Digits ns) (JustSign MEMBER ⌢ L) (JustSign MEMBER ⌢ K) ts (facts-lead ends_facts (λ b z. refl) refl ms) (facts-lead ends_facts (λ b z. refl) refl ns) (facts-stop ms L) (facts-stop ns K) h k in
    let d = same-token (Sign MEMBER) (Sign MEMBER) L K c.3.0 c.3.1 c.3.2 in
    (one-facts ms ns c.0 c.1 c.2, one-lines ls ks d.1.0 d.1.1 d.1.2)

member-leads : (ns : List ℕ) → Leads ends_certificate (behind_facts ns) (0, false) (JustSign MEMBER)
member-leads [] = leads-just ends_certificate 0 false (0, false) (Sign MEMBER) refl
member-leads (n ∷ ns) = leads-just ends_certificate 0 true (0, false) (Sign MEMBER) refl

pub certificate-leads : (ns : List ℕ) (ls : List RawLine) → Leads ends_certificate (0, false) (0, true) (Certified ns ls)
certificate-leads ns ls =
    leads-join ends_certificate (0, false) (behind_facts ns) (0, true) (AnyDivided COMMA Digits ns) (JustSign MEMBER ⌢ Divided BAR Line ls) (facts-lead ends_certificate (λ b z. refl) refl ns)
    (leads-join ends_certificate (behind_facts ns) (0, false) (0, true) (JustSign MEMBER) (Divided BAR Line ls) (member-leads ns)
    (divided-leads BAR Line ends_certificate (line-leads ends_certificate ((λ b y. refl), (λ b. refl)) (λ b. refl) refl refl) refl ls))
