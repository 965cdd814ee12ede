-- Certificates in front of tokens.
use Rattle.std.specs.Prelude.{◌≡◌, ◌⊎◌, ℕ, ℤ, pos, neg_ℤ, ◌<◌, ◌≤◌, List, [], ◌∷◌, ◌++◌, length, refl}
use Rattle.std.proofs.Common.{inl, inr, arith, sym, ◌∙◌, ap, subst, append_assoc, length-append}
use Rattle.bk_form.specs.declared.token.Token.{Token}
use Rattle.bk_form.specs.declared.token.TokenKind.{TokenKind}
use Rattle.bk_form.specs.declared.token.TokenKind.TheVariants.{Number, Sign}
use Rattle.bk_ops.specs.declared.sign.TheConstants.{MINUS, TIMES, DIVIDE, PLUS, BAR, COMMA, MEMBER}
use Rattle.bk_raw.specs.Grammar.Pieces.{Digits, Literal, Divided, AnyDivided}
use Rattle.bk_raw.specs.declared.script.RawMultiple.{RawMultiple}
use Rattle.bk_raw.specs.Grammar.ScriptSpelling.{Multiple, Line}
use Rattle.bk_raw.specs.Trees.ScriptTree.{RawLine, multiples, quotient}
use Rattle.bk_raw.proofs.Steps.{Piece}
use Rattle.bk_raw.proofs.Patterns.{first}
use Rattle.bk_p_expr.specs.Fronts.{Longest, Nothing}
use Rattle.bk_p_proof.specs.Ahead.{Ahead, NotAhead}
use Rattle.bk_p_proof.specs.Kinds.{Quotient, Certified}
use Rattle.bk_p_proof.proofs.Cuts.{CutsAt, IsPrefixFree, free_cuts, Begins, Between, free_between, between_found, between_no_first, between_no_second, between_no_token, tail_same, longest_as, nothing_as}
use Rattle.bk_p_proof.proofs.Tokens.{digits_free, digits_longest}
use Rattle.bk_p_proof.proofs.Rows.{RowSoFar, row_begins, row_goes_on, row_ends, row_ends_before, row_none, any_longest, none_longest, divided_cut, row_of_divided}

-- ---- k / g
pub quotient_found : (tokens ts us rest : List Token) (k g : ℕ) → Ahead (Number (pos k)) tokens ts → Ahead (Sign DIVIDE) ts us → Ahead (Number (pos g)) us rest → Longest Quotient tokens (k, g) rest
quotient_found tokens ts us rest k g a b c = between_found Digits (Sign DIVIDE) Digits (free_cuts Digits (Begins (Sign DIVIDE)) digits_free) tokens ts us rest k g (digits_longest tokens ts k a) b (digits_longest us rest g c)

pub quotient_no_first : (tokens : List Token) → Nothing Digits tokens → Nothing Quotient tokens
quotient_no_first tokens n = between_no_first Digits (Sign DIVIDE) Digits tokens n

pub quotient_no_second : (tokens ts us : List Token) (k : ℕ) → Ahead (Number (pos k)) tokens ts → Ahead (Sign DIVIDE) ts us → Nothing Digits us → Nothing Quotient tokens
quotient_no_second tokens ts us k a b n = between_no_second Digits (Sign DIVIDE) Digits (free_cuts Digits (Begins (Sign DIVIDE)) digits_free) tokens ts us k (digits_longest tokens ts k a) b n

-- ---- a number, perhaps with a minus sign
abbrev Signed : ℤ → Piece
Signed z = Literal z 0

-- the literal in front of tokens
abbrev LiteralAhead : ℤ → List Token → List Token → Type 0
LiteralAhead z tokens rest = ((n : ℕ) × (z ≡ pos n) × Ahead (Number (pos n)) tokens rest) ⊎ ((n : ℕ) × (us : List Token) × (z ≡ neg_ℤ (pos n)) × Ahead (Sign MINUS) tokens us × Ahead (Number (pos n)) us rest)

literal_ahead : (z : ℤ) (a r : List Token) → Signed z a → LiteralAhead z (a ++ r) r
literal_ahead z a r (inl h) = inl (h.0, h.1, (h.2.0, ap (λ us. us ++ r) h.2.1, h.2.2))
literal_ahead z a r (inr h) =
    let f = first (Sign MINUS) (Digits h.0) a h.2.1 in
    let d = f.back in
    inr (h.0, f.rest ++ r, h.1, (f.token, ap (λ us. us ++ r) f.is, f.same), (d.0, ap (λ us. us ++ r) d.1, d.2))

number_sign : (n op : ℕ) → Number (pos n) ≡ Sign op → ⊥
number_sign n op e = cc

numbers_same : (m n : ℕ) → Number (pos m) ≡ Number (pos n) → m ≡ n
numbers_same m n e = cc

ahead_same : (k l : TokenKind) (ts r q : List Token) → Ahead k ts r → Ahead l ts q → (k ≡ l) × (r ≡ q)
ahead_same k l ts r q a b =
    let z = tail_same a.0 b.0 r q (sym a.1 ∙ b.1) in
    (sym a.2 ∙ ap (λ t. t.kind) z.0 ∙ b.2, z.1)

literals_one : (z y : ℤ) (ts r q : List Token) → LiteralAhead z ts r → LiteralAhead y ts q → (z ≡ y) × (r ≡ q)
literals_one z y ts r q (inl h) (inl k) =
    let s = ahead_same (Number (pos h.0)) (Number (pos k.0)) ts r q h.2 k.2 in
    (h.1 ∙ ap pos (numbers_same h.0 k.0 s.0) ∙ sym k.1, s.1)
literals_one z y ts r q (inl h) (inr k) = absurd (number_sign h.0 MINUS (ahead_same (Number (pos h.0)) (Sign MINUS) ts r k.1 h.2 k.3).0)
literals_one z y ts r q (inr h) (inl k) = absurd (number_sign k.0 MINUS (ahead_same (Number (pos k.0)) (Sign MINUS) ts q h.1 k.2 h.3).0)
literals_one z y ts r q (inr h) (inr k) =
    let m = ahead_same (Sign MINUS) (Sign MINUS) ts h.1 k.1 h.3 k.3 in
    let s = ahead_same (Number (pos h.0)) (Number (pos k.0)) k.1 r q (subst (λ us. Ahead (Number (pos h.0)) us r) m.1 h.4) k.4 in
    (h.2 ∙ ap (λ n. neg_ℤ (pos n)) (numbers_same h.0 k.0 s.0) ∙ sym k.2, s.1)

pub literal_free : IsPrefixFree (λ z. Literal z 0)
literal_free x y a b r q e h k = literals_one x y (b ++ q) r q (subst (λ ts. LiteralAhead x ts r) e (literal_ahead x a r h)) (literal_ahead y b q k)

literal_by : (tokens rest w : List Token) (z : ℤ) → tokens ≡ w ++ rest → Literal z 0 w → Longest (λ y. Literal y 0) tokens z rest
literal_by tokens rest w z e h = record {
  written = w;
  splits = e;
  spelled = h;
  longest = λ y front after f k. omega (arith, ap length (literal_free z y w front rest after (sym e ∙ f) h k).1);
}

pub literal_plain : (tokens rest : List Token) (z : ℤ) → (n : ℕ) × (z ≡ pos n) × Ahead (Number (pos n)) tokens rest → Longest (λ y. Literal y 0) tokens z rest
literal_plain tokens rest z h = let a = h.2 in literal_by tokens rest (a.0 ∷ []) z a.1 (inl (h.0, h.1, (a.0, refl, a.2)))

pub literal_minus : (tokens us rest : List Token) (z y : ℤ) → Ahead (Sign MINUS) tokens us → (n : ℕ) × (z ≡ pos n) × Ahead (Number (pos n)) us rest → y ≡ neg_ℤ z → Longest (λ y. Literal y 0) tokens y rest
literal_minus tokens us rest z y b h e =
    let a = h.2 in
    literal_by tokens rest (b.0 ∷ a.0 ∷ []) y (b.1 ∙ ap (λ ts. b.0 ∷ ts) a.1) (inr (h.0, e ∙ ap neg_ℤ h.1, (omega arith, (b.0 ∷ [], a.0 ∷ [], refl, (b.0, refl, b.2), (a.0, refl, a.2)))))

pub literal_none : (tokens : List Token) → NotAhead (Sign MINUS) tokens → Nothing Digits tokens → Nothing (λ z. Literal z 0) tokens
literal_none tokens n d z front after e (inl h) = d h.0 front after e h.2
literal_none tokens n d z front after e (inr h) =
    let f = first (Sign MINUS) (Digits h.0) front h.2.1 in
    n f.token (f.rest ++ after) (e ∙ ap (λ us. us ++ after) f.is) f.same

pub literal_none_behind : (tokens us : List Token) → Ahead (Sign MINUS) tokens us → Nothing Digits us → Nothing (λ z. Literal z 0) tokens
literal_none_behind tokens us b n z front after e (inl h) =
    let d = h.2 in
    number_sign h.0 MINUS (ahead_same (Number (pos h.0)) (Sign MINUS) tokens after us (d.0, e ∙ ap (λ ts. ts ++ after) d.1, d.2) b).0
literal_none_behind tokens us b n z front after e (inr h) =
    let f = first (Sign MINUS) (Digits h.0) front h.2.1 in
    let s = ahead_same (Sign MINUS) (Sign MINUS) tokens us (f.rest ++ after) b (f.token, e ∙ ap (λ ts. ts ++ after) f.is, f.same) in
    n h.0 f.rest after s.1 f.back

-- ---- m * k
abbrev Times : ℤ × ℕ → Piece
Times = Between (λ z. Literal z 0) (Sign TIMES) Digits

times_cut : CutsAt (λ z. Literal z 0) (Begins (Sign TIMES))
times_cut = free_cuts (λ z. Literal z 0) (Begins (Sign TIMES)) literal_free

pub multiple_found : (tokens ts us rest : List Token) (z : ℤ) (k : ℕ) → Longest (λ y. Literal y 0) tokens z ts → Ahead (Sign TIMES) ts us → Ahead (Number (pos k)) us rest → Longest Multiple tokens (record { multiplier = z; fact = k }) rest
multiple_found tokens ts us rest z k h b c =
    longest_as Times Multiple tokens rest (z, k) (record { multiplier = z; fact = k }) (between_found (λ z. Literal z 0) (Sign TIMES) Digits times_cut tokens ts us rest z k h b (digits_longest us rest k c)) (λ vs p. p) (λ m vs p. ((m.multiplier, m.fact), p))

multiple_nothing : (tokens : List Token) → Nothing Times tokens → Nothing Multiple tokens
multiple_nothing tokens n = nothing_as Times Multiple tokens n (λ m vs p. ((m.multiplier, m.fact), p))

pub multiple_no_first : (tokens : List Token) → Nothing (λ z. Literal z 0) tokens → Nothing Multiple tokens
multiple_no_first tokens n = multiple_nothing tokens (between_no_first (λ z. Literal z 0) (Sign TIMES) Digits tokens n)

pub multiple_no_second : (tokens ts us : List Token) (z : ℤ) → Longest (λ y. Literal y 0) tokens z ts → Ahead (Sign TIMES) ts us → Nothing Digits us → Nothing Multiple tokens
multiple_no_second tokens ts us z h b n = multiple_nothing tokens (between_no_second (λ z. Literal z 0) (Sign TIMES) Digits times_cut tokens ts us z h b n)

pub multiple_free : IsPrefixFree Multiple
multiple_free x y a b r q e h k =
    let c = free_between (λ z. Literal z 0) (Sign TIMES) Digits literal_free digits_free (x.multiplier, x.fact) (y.multiplier, y.fact) a b r q e h k in
    ((λ i. record { multiplier = (c.0 i).0; fact = (c.0 i).1 }), c.1)

-- ---- facts
fact_cut : CutsAt Digits (Begins (Sign COMMA))
fact_cut = free_cuts Digits (Begins (Sign COMMA)) digits_free

abbrev pub FactsSoFar : List Token → List ℕ → List Token → Type 0
FactsSoFar = RowSoFar Digits COMMA

pub facts_none : (tokens : List Token) → Nothing Digits tokens → Longest (AnyDivided COMMA Digits) tokens [] tokens
facts_none tokens n = none_longest Digits COMMA tokens n

pub facts_begin : (tokens rest : List Token) (n : ℕ) → Ahead (Number (pos n)) tokens rest → length rest < length tokens → FactsSoFar tokens (n ∷ []) rest
facts_begin tokens rest n a l = row_begins Digits COMMA fact_cut tokens rest n (digits_longest tokens rest n a) l

pub facts_go_on : (tokens ts more rest : List Token) (ns : List ℕ) (n : ℕ) → FactsSoFar tokens ns ts → Ahead (Sign COMMA) ts more → Ahead (Number (pos n)) more rest → length rest < length more → FactsSoFar tokens (ns ++ n ∷ []) rest
facts_go_on tokens ts more rest ns n s b a l = row_goes_on Digits COMMA fact_cut tokens ts more rest ns n s b (digits_longest more rest n a) l

pub facts_end : (tokens rest : List Token) (ns : List ℕ) → FactsSoFar tokens ns rest → NotAhead (Sign COMMA) rest → Longest (AnyDivided COMMA Digits) tokens ns rest
facts_end tokens rest ns s n = any_longest Digits COMMA tokens rest ns (row_ends Digits COMMA fact_cut tokens rest ns s n) s.shorter

pub facts_end_before : (tokens rest more : List Token) (ns : List ℕ) → FactsSoFar tokens ns rest → Ahead (Sign COMMA) rest more → Nothing Digits more → Longest (AnyDivided COMMA Digits) tokens ns rest
facts_end_before tokens rest more ns s b n = any_longest Digits COMMA tokens rest ns (row_ends_before Digits COMMA fact_cut tokens rest more ns s b n) s.shorter

-- ---- sums
multiple_cut : CutsAt Multiple (Begins (Sign PLUS))
multiple_cut = free_cuts Multiple (Begins (Sign PLUS)) multiple_free

abbrev pub SumSoFar : List Token → List RawMultiple → List Token → Type 0
SumSoFar = RowSoFar Multiple PLUS

pub sum_none : (tokens : List Token) → Nothing Multiple tokens → Nothing (Divided PLUS Multiple) tokens
sum_none tokens n = row_none Multiple PLUS tokens n

pub sum_begins : (tokens rest : List Token) (m : RawMultiple) → Longest Multiple tokens m rest → length rest < length tokens → SumSoFar tokens (m ∷ []) rest
sum_begins tokens rest m h l = row_begins Multiple PLUS multiple_cut tokens rest m h l

pub sum_goes_on : (tokens ts more rest : List Token) (ms : List RawMultiple) (m : RawMultiple) → SumSoFar tokens ms ts → Ahead (Sign PLUS) ts more → Longest Multiple more m rest → length rest < length more → SumSoFar tokens (ms ++ m ∷ []) rest
sum_goes_on tokens ts more rest ms m s b h l = row_goes_on Multiple PLUS multiple_cut tokens ts more rest ms m s b h l

pub sum_ends : (tokens rest : List Token) (ms : List RawMultiple) → SumSoFar tokens ms rest → NotAhead (Sign PLUS) rest → Longest (Divided PLUS Multiple) tokens ms rest
sum_ends tokens rest ms s n = row_ends Multiple PLUS multiple_cut tokens rest ms s n

pub sum_ends_before : (tokens rest more : List Token) (ms : List RawMultiple) → SumSoFar tokens ms rest → Ahead (Sign PLUS) rest more → Nothing Multiple more → Longest (Divided PLUS Multiple) tokens ms rest
sum_ends_before tokens rest more ms s b n = row_ends_before Multiple PLUS multiple_cut tokens rest more ms s b n

-- ---- lines
signs_same : (m n : ℕ) → Sign m ≡ Sign n → m ≡ n
signs_same m n e = cc

sum_is_no_quotient : (ms : List RawMultiple) (q : ℕ × ℕ) (a b r s : List Token) → a ++ r ≡ b ++ s → Divided PLUS Multiple ms a → Quotient q b → ⊥
sum_is_no_quotient [] q a b r s e h k = h
sum_is_no_quotient (m ∷ ms) q a b r s e h k =
    let w = row_of_divided Multiple PLUS (m ∷ ms) a h in
    let t = w.3 in
    let joined : t.0 ++ (t.1 ++ (w.1 ++ r)) ≡ k.0 ++ (k.1 ++ s) = sym (append_assoc t.0 t.1 (w.1 ++ r)) ∙ ap (λ us. us ++ (w.1 ++ r)) (sym t.2) ∙ sym (append_assoc w.0 w.1 r) ∙ ap (λ us. us ++ r) (sym w.2) ∙ e ∙ ap (λ us. us ++ s) k.2 ∙ append_assoc k.0 k.1 s in
    let c = literal_free m.multiplier (pos q.0) t.0 k.0 (t.1 ++ (w.1 ++ r)) (k.1 ++ s) joined t.3 (inl (q.0, refl, k.3)) in
    let f = first (Sign TIMES) (Digits m.fact) t.1 t.4 in
    let g = first (Sign DIVIDE) (Digits q.1) k.1 k.4 in
    let z = tail_same f.token g.token (f.rest ++ (w.1 ++ r)) (g.rest ++ s) (ap (λ us. us ++ (w.1 ++ r)) (sym f.is) ∙ c.1 ∙ ap (λ us. us ++ s) g.is) in
    omega (arith, signs_same TIMES DIVIDE (sym f.same ∙ ap (λ u. u.kind) z.0 ∙ g.same))

pub line_quotient : (tokens rest : List Token) (k g : ℕ) → Longest Quotient tokens (k, g) rest → Longest Line tokens (quotient k g) rest
line_quotient tokens rest k g h = record { written = h.written; splits = h.splits; spelled = h.spelled; longest = longest }
  where
    longest : (l : RawLine) (front after : List Token) → tokens ≡ front ++ after → Line l front → length rest ≤ length after
    longest (quotient j f) front after e p = h.longest (j, f) front after e p
    longest (multiples ms) front after e p = absurd (sum_is_no_quotient ms (k, g) front h.written after rest (sym e ∙ h.splits) p h.spelled)

pub line_sum : (tokens rest : List Token) (ms : List RawMultiple) → Nothing Quotient tokens → Longest (Divided PLUS Multiple) tokens ms rest → Longest Line tokens (multiples ms) rest
line_sum tokens rest ms n h = record { written = h.written; splits = h.splits; spelled = h.spelled; longest = longest }
  where
    longest : (l : RawLine) (front after : List Token) → tokens ≡ front ++ after → Line l front → length rest ≤ length after
    longest (quotient j f) front after e p = absurd (n (j, f) front after e p)
    longest (multiples ns) front after e p = h.longest ns front after e p

pub line_none : (tokens : List Token) → Nothing Quotient tokens → Nothing (Divided PLUS Multiple) tokens → Nothing Line tokens
line_none tokens n m (quotient j f) front after e p = n (j, f) front after e p
line_none tokens n m (multiples ns) front after e p = m ns front after e p

not_ahead : (one other : ℕ) (ts : List Token) → (one ≡ other → ⊥) → Begins (Sign one) ts → NotAhead (Sign other) ts
not_ahead one other ts n b t rest e k =
    let z = tail_same b.1.0 t b.0 rest (sym b.1.1 ∙ e) in
    n (signs_same one other (sym b.1.2 ∙ ap (λ u. u.kind) z.0 ∙ k))

bar_plus : BAR ≡ PLUS → ⊥
bar_plus e = omega (arith, e)

pub line_cut : CutsAt Line (Begins (Sign BAR))
line_cut tokens rest front back (quotient k g) (quotient j f) h e p b =
    let c = free_between Digits (Sign DIVIDE) Digits digits_free digits_free (k, g) (j, f) h.written front rest back (sym h.splits ∙ e) h.spelled p in
    ((λ i. quotient (c.0 i).0 (c.0 i).1), c.1)
line_cut tokens rest front back (quotient k g) (multiples ns) h e p b = absurd (sum_is_no_quotient ns (k, g) front h.written back rest (sym e ∙ h.splits) p h.spelled)
line_cut tokens rest front back (multiples ms) (quotient j f) h e p b = absurd (sum_is_no_quotient ms (j, f) h.written front rest back (sym h.splits ∙ e) h.spelled p)
line_cut tokens rest front back (multiples ms) (multiples ns) h e p b =
    let sums : Longest (Divided PLUS Multiple) tokens ms rest = record { written = h.written; splits = h.splits; spelled = h.spelled; longest = λ os f a i q. h.longest (multiples os) f a i q } in
    let c = divided_cut Multiple PLUS multiple_free tokens rest front back ms ns sums e p (not_ahead BAR PLUS back bar_plus b) in
    ((λ i. multiples (c.0 i)), c.1)

abbrev pub LinesSoFar : List Token → List RawLine → List Token → Type 0
LinesSoFar = RowSoFar Line BAR

pub lines_none : (tokens : List Token) → Nothing Line tokens → Nothing (Divided BAR Line) tokens
lines_none tokens n = row_none Line BAR tokens n

pub lines_begin : (tokens rest : List Token) (l : RawLine) → Longest Line tokens l rest → length rest < length tokens → LinesSoFar tokens (l ∷ []) rest
lines_begin tokens rest l h s = row_begins Line BAR line_cut tokens rest l h s

pub lines_go_on : (tokens ts more rest : List Token) (ls : List RawLine) (l : RawLine) → LinesSoFar tokens ls ts → Ahead (Sign BAR) ts more → Longest Line more l rest → length rest < length more → LinesSoFar tokens (ls ++ l ∷ []) rest
lines_go_on tokens ts more rest ls l s b h k = row_goes_on Line BAR line_cut tokens ts more rest ls l s b h k

pub lines_end : (tokens rest : List Token) (ls : List RawLine) → LinesSoFar tokens ls rest → NotAhead (Sign BAR) rest → Longest (Divided BAR Line) tokens ls rest
lines_end tokens rest ls s n = row_ends Line BAR line_cut tokens rest ls s n

pub lines_end_before : (tokens rest more : List Token) (ls : List RawLine) → LinesSoFar tokens ls rest → Ahead (Sign BAR) rest more → Nothing Line more → Longest (Divided BAR Line) tokens ls rest
lines_end_before tokens rest more ls s b n = row_ends_before Line BAR line_cut tokens rest more ls s b n

-- ---- certificates
member_comma : MEMBER ≡ COMMA → ⊥
member_comma e = omega (arith, e)

-- a number is no sign
number_first : (n : ℕ) (ns : List ℕ) (a q : List Token) → Divided COMMA Digits (n ∷ ns) a → Begins (Sign MEMBER) (a ++ q) → ⊥
number_first n ns a q h b =
    let w = row_of_divided Digits COMMA (n ∷ ns) a h in
    let d = w.3 in
    number_sign n MEMBER (ahead_same (Number (pos n)) (Sign MEMBER) (a ++ q) (w.1 ++ q) b.0 (d.0, ap (λ us. us ++ q) (w.2 ∙ ap (λ us. us ++ w.1) d.1), d.2) b.1).0

facts_cut : CutsAt (AnyDivided COMMA Digits) (Begins (Sign MEMBER))
facts_cut tokens rest front back [] [] h e p b = (refl, ap (λ us. us ++ rest) (sym h.spelled) ∙ sym h.splits ∙ e ∙ ap (λ us. us ++ back) p)
facts_cut tokens rest front back [] (n ∷ ns) h e p b =
    let w = row_of_divided Digits COMMA (n ∷ ns) front p in
    let d = w.3 in
    absurd (omega (arith, h.longest (n ∷ ns) front back e p, ap length (e ∙ ap (λ us. us ++ back) (w.2 ∙ ap (λ us. us ++ w.1) d.1)), length-append w.1 back, ap length (h.splits ∙ ap (λ us. us ++ rest) h.spelled)))
facts_cut tokens rest front back (n ∷ ns) [] h e p b =
    absurd (number_first n ns h.written rest h.spelled (subst (Begins (Sign MEMBER)) (sym (ap (λ us. us ++ back) p) ∙ sym e ∙ h.splits) b))
facts_cut tokens rest front back (m ∷ ms) (n ∷ ns) h e p b =
    let some : Longest (Divided COMMA Digits) tokens (m ∷ ms) rest = record { written = h.written; splits = h.splits; spelled = h.spelled; longest = some_longest } in
    divided_cut Digits COMMA digits_free tokens rest front back (m ∷ ms) (n ∷ ns) some e p (not_ahead MEMBER COMMA back member_comma b)
  where
    some_longest : (os : List ℕ) (f after : List Token) → tokens ≡ f ++ after → Divided COMMA Digits os f → length rest ≤ length after
    some_longest [] f after i q = absurd q
    some_longest (o ∷ os) f after i q = h.longest (o ∷ os) f after i q

pub certificate_found : (tokens ts us rest : List Token) (ns : List ℕ) (ls : List RawLine) → Longest (AnyDivided COMMA Digits) tokens ns ts → Ahead (Sign MEMBER) ts us → Longest (Divided BAR Line) us ls rest → Longest Certified tokens (ns, ls) rest
certificate_found tokens ts us rest ns ls h b k = between_found (AnyDivided COMMA Digits) (Sign MEMBER) (Divided BAR Line) facts_cut tokens ts us rest ns ls h b k

pub certificate_no_sign : (tokens ts : List Token) (ns : List ℕ) → Longest (AnyDivided COMMA Digits) tokens ns ts → NotAhead (Sign MEMBER) ts → Nothing Certified tokens
certificate_no_sign tokens ts ns h n = between_no_token (AnyDivided COMMA Digits) (Sign MEMBER) (Divided BAR Line) facts_cut tokens ts ns h n

pub certificate_no_lines : (tokens ts us : List Token) (ns : List ℕ) → Longest (AnyDivided COMMA Digits) tokens ns ts → Ahead (Sign MEMBER) ts us → Nothing (Divided BAR Line) us → Nothing Certified tokens
certificate_no_lines tokens ts us ns h b n = between_no_second (AnyDivided COMMA Digits) (Sign MEMBER) (Divided BAR Line) facts_cut tokens ts us ns h b n
