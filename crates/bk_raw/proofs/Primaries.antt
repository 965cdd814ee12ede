-- Leaves and brackets are read exactly, where the terms inside of them are.
use Rattle.std.specs.Prelude.{◌≡◌, ℕ, zero, suc, ◌+◌, ◌≤◌, true, false, cond, not, List, [], ◌∷◌, ◌++◌, length, Option, None, Some, refl}
use Rattle.std.proofs.Common.{arith, inl, inr, sym, ◌∙◌, ap}
use Rattle.std.proofs.lemmas.Bool.{cond-true, cond-false, cases_Bool}
use Rattle.bk_form.specs.declared.token.Token.{Token}
use Rattle.bk_form.specs.declared.token.TokenKind.{TokenKind}
use Rattle.bk_form.specs.declared.token.TokenKind.TheVariants.{Name, BoundName, Sign}
use Rattle.bk_ops.specs.declared.sign.TheConstants.{MEMBER, OPEN_PAREN, CLOSE_PAREN, OPEN_BRACKET, CLOSE_BRACKET, CLOSE_BRACE, INVERSE, COMMA, DOT, BAR}
use Rattle.bk_raw.specs.Trees.Operators.{word_kind, constant_kind}
use Rattle.bk_raw.specs.Trees.WrittenType.{WrittenType}
use Rattle.bk_raw.specs.Grammar.Bars.{bar_follows}
use Rattle.bk_raw.specs.declared.operator.WordOp.{WordOp}
use Rattle.bk_raw.specs.declared.operator.WordOp.TheVariants.{Not}
use Rattle.bk_raw.specs.declared.operator.Constant.{Constant}
use Rattle.bk_raw.specs.declared.operator.Constant.TheVariants.{Btrue}
use Rattle.bk_raw.specs.declared.term.RawName.{RawName}
use Rattle.bk_raw.specs.declared.term.RawBound.{RawBound}
use Rattle.bk_raw.specs.Grammar.Pieces.{Just, JustAt, JustSign, ◌⌢◌, InParentheses, InBrackets}
use Rattle.bk_raw.specs.Grammar.Spelling.{Names, Binder, Typed, TypedBounds}
use Rattle.bk_raw.specs.Trees.RawTree.{RawTree, raw, RawTreeNode, raw_constant, raw_word, raw_inverse, raw_image, raw_apply, raw_empty_set, raw_pair, raw_extension, raw_comprehension, raw_lambda, raw_typed_empty, raw_ranged_comprehension, raw_ranged_lambda, RawTrees, no_trees, tree_and, RawRanges, no_ranges, range_and}
use Rattle.bk_raw.proofs.Neutral.{Neutral}
use Rattle.bk_raw.specs.Grammar.Reading.{next, sign, begins_with, start, within, names, binder, typed, bounds, begins_bound, begins_bound_in, terms, ranges, braces, body, body_and_value, quantified, lambda, at_byte, primary_at, postfixed, arguments, or_else, read}
use Rattle.bk_raw.proofs.Shapes.{of_kind, placed_at, kind_known, led, led_at, just_is, regrouped, begun_joined, begun_length, appended, lengths}
use Rattle.bk_raw.proofs.Stopping.{none_some, Stops, IsEnd, Before, before_stops, comma_ends, bar_ends, close_paren_ends, close_bracket_ends, close_brace_ends, or_else_taken, postfixed_gives}
use Rattle.bk_raw.proofs.Combining.{Exact, Anything, exact_next, exact_sign, exact_last, exact_made, exact_weaker, exact_within, before_last, before_joined}
use Rattle.bk_raw.proofs.ExactNames.{NoComma, exact_names, names_begin, exact_binder, binder_not_bound, exact_typed, exact_bounds, bounds_begin, no_comma_before_close}
use Rattle.bk_raw.proofs.Loops.{primary, same_kind_sign, Begins, Rows, exact_arguments}

-- ---- what begins with one token
pub primary_leaf : (kind : TokenKind) (node : RawTreeNode) (n : ℕ) → ((at : ℕ) (ts : List Token) → primary_at n (read n) kind at ts ≡ Some (raw at node, ts)) → (tokens rest : List Token) → Just kind tokens → primary n (read n) (tokens ++ rest) ≡ Some (raw (start tokens) node, rest)
primary_leaf kind node n h tokens rest p =
    let is = just_is kind tokens p in
    ap (λ ts. primary n (read n) (ts ++ rest)) is ∙ h p.0.start rest ∙ ap (λ ts. Some (raw (start ts) node, rest)) (sym is)

pub primary_led : (kind : TokenKind) (Second : List Token → Type 0) (node : RawTreeNode) (n : ℕ) (reader : List Token → Option (RawTreeNode × List Token)) → ((at : ℕ) (ts : List Token) → primary_at n (read n) kind at ts ≡ at_byte at (reader ts)) → Exact n reader Second node Anything → (tokens rest : List Token) → (Just kind ⌢ Second) tokens → length tokens ≤ n + 1 → primary n (read n) (tokens ++ rest) ≡ Some (raw (start tokens) node, rest)
primary_led kind Second node n reader h exact tokens rest p l =
    let v = led kind Second tokens p in
    ap (λ ts. primary n (read n) (ts ++ rest)) v.is
    ∙ h v.token.start (v.back ++ rest)
    ∙ ap (at_byte v.token.start) (exact v.back rest v.second (omega (arith, ap length v.is, l)) tt)
    ∙ ap (λ ts. Some (raw (start ts) node, rest)) (sym v.is)

-- what begins with a parenthesis
pub primary_parens : (Second : List Token → Type 0) (node : RawTreeNode) (n : ℕ) → ((at : ℕ) → Exact n (primary_at n (read n) (Sign OPEN_PAREN) at) Second (raw at node) Anything) → (tokens rest : List Token) → (JustSign OPEN_PAREN ⌢ Second) tokens → length tokens ≤ n + 1 → primary n (read n) (tokens ++ rest) ≡ Some (raw (start tokens) node, rest)
primary_parens Second node n exact tokens rest p l =
    let v = led (Sign OPEN_PAREN) Second tokens p in
    ap (λ ts. primary n (read n) (ts ++ rest)) v.is
    ∙ exact v.token.start v.back rest v.second (omega (arith, ap length v.is, l)) tt
    ∙ ap (λ ts. Some (raw (start ts) node, rest)) (sym v.is)

pub primary_constant : (m : ℕ) (reader : ℕ → List Token → Option (RawTree × List Token)) (c : Constant) (at : ℕ) (ts : List Token) → primary_at m reader (constant_kind c) at ts ≡ Some (raw at (raw_constant c), ts)
primary_constant m reader Btrue at ts = refl
primary_constant m reader _ at ts = refl

pub primary_word : (m : ℕ) (reader : ℕ → List Token → Option (RawTree × List Token)) (o : WordOp) (at : ℕ) (ts : List Token) → primary_at m reader (word_kind o) at ts ≡ at_byte at (next (within OPEN_PAREN CLOSE_PAREN (reader 0) ts) (λ a us. Some (raw_word o a, us)))
primary_word m reader Not at ts = refl
primary_word m reader _ at ts = refl

-- ---- terms between signs
-- where a term is read exactly, it is so before the sign that closes it
abbrev pub TermExact : (List Token → Type 0) → RawTree → ℕ → Type 0
TermExact Piece t asked = (n : ℕ) → Exact n (read n asked) Piece t (Stops asked)

pub exact_before : (op asked : ℕ) (Piece : List Token → Type 0) (t : RawTree) → IsEnd op → TermExact Piece t asked → (n : ℕ) → Exact n (read n asked) Piece t (Before op)
exact_before op asked Piece t end h n = exact_weaker n n (read n asked) Piece t (Stops asked) (Before op) (omega arith) (λ rest b. before_stops op asked rest end b) (h n)

pub exact_bracketed : (first last : ℕ) (Piece : List Token → Type 0) (t : RawTree) → IsEnd last → TermExact Piece t 0 → (n : ℕ) → Exact (suc n) (within first last (read n 0)) (JustSign first ⌢ Piece ⌢ JustSign last) t Anything
exact_bracketed first last Piece t end h n = exact_within n first last (read n 0) Piece t (exact_before last 0 Piece t end h n)

-- the same with no more tokens than fuel
pub exact_enclosed : (first last : ℕ) (Piece : List Token → Type 0) (t : RawTree) → IsEnd last → TermExact Piece t 0 → (n : ℕ) → Exact n (within first last (read n 0)) (JustSign first ⌢ Piece ⌢ JustSign last) t Anything
exact_enclosed first last Piece t end h n = exact_weaker (suc n) n (within first last (read n 0)) (JustSign first ⌢ Piece ⌢ JustSign last) t Anything Anything (omega arith) (λ rest b. tt) (exact_bracketed first last Piece t end h n)

-- .(p)
pub exact_body : (Piece : List Token → Type 0) (p : RawTree) → TermExact Piece p 0 → (n : ℕ) → Exact n (body (read n)) (JustSign DOT ⌢ InParentheses Piece) p Anything
exact_body Piece p h n = exact_weaker (suc n) n (body (read n)) (JustSign DOT ⌢ InParentheses Piece) p Anything Anything (omega arith) (λ rest b. tt) (exact_sign n DOT (within OPEN_PAREN CLOSE_PAREN (read n 0)) (InParentheses Piece) p Anything (exact_enclosed OPEN_PAREN CLOSE_PAREN Piece p close_paren_ends h n))

-- .(p | e)
pub exact_body_and_value : (First Second : List Token → Type 0) (p e : RawTree) → TermExact First p 0 → TermExact Second e 0 → (n : ℕ) → Exact n (body_and_value (read n)) (JustSign DOT ⌢ InParentheses (First ⌢ JustSign BAR ⌢ Second)) (p, e) Anything
exact_body_and_value First Second p e g h n tokens rest q l u =
    let dot = led (Sign DOT) (InParentheses (First ⌢ JustSign BAR ⌢ Second)) tokens q in
    let open_paren = led (Sign OPEN_PAREN) ((First ⌢ JustSign BAR ⌢ Second) ⌢ JustSign CLOSE_PAREN) dot.back dot.second in
    let inside = open_paren.second in
    let first = inside.3 in
    let bar = led (Sign BAR) Second first.1 first.4 in
    let close = just_is (Sign CLOSE_PAREN) inside.1 inside.4 in
    let size : length first.0 + length bar.back + 4 ≤ n = omega (arith, l, ap length dot.is, ap length open_paren.is, lengths open_paren.back inside.0 inside.1 inside.2, lengths inside.0 first.0 first.1 first.2, ap length bar.is, ap length close) in
    let whole : open_paren.back ++ rest ≡ first.0 ++ (of_kind (Sign BAR) bar.token ∷ (bar.back ++ (of_kind (Sign CLOSE_PAREN) inside.4.0 ∷ rest)))
    = appended open_paren.back inside.0 inside.1 rest inside.2
    ∙ appended inside.0 first.0 first.1 (inside.1 ++ rest) first.2
    ∙ ap (λ ts. first.0 ++ (ts ++ (inside.1 ++ rest))) bar.is
    ∙ ap (λ ts. first.0 ++ (of_kind (Sign BAR) bar.token ∷ (bar.back ++ (ts ++ rest)))) close in
    ap (λ ts. body_and_value (read n) (ts ++ rest)) dot.is
    ∙ ap (λ ts. next (within OPEN_PAREN BAR (read n 0) (ts ++ rest)) (λ p vs. next (read n 0 vs) (λ e ws. next (sign CLOSE_PAREN ws) (λ _ xs. Some ((p, e), xs))))) open_paren.is
    ∙ ap (λ ts. next (next (read n 0 ts) (λ x vs. next (sign BAR vs) (λ _ ws. Some (x, ws)))) (λ p vs. next (read n 0 vs) (λ e ws. next (sign CLOSE_PAREN ws) (λ _ xs. Some ((p, e), xs))))) whole
    ∙ ap (λ o. next (next o (λ x vs. next (sign BAR vs) (λ _ ws. Some (x, ws)))) (λ p vs. next (read n 0 vs) (λ e ws. next (sign CLOSE_PAREN ws) (λ _ xs. Some ((p, e), xs))))) (exact_before BAR 0 First p bar_ends g n first.0 _ first.3 (omega (arith, size)) (record { token = bar.token; back = bar.back ++ (of_kind (Sign CLOSE_PAREN) inside.4.0 ∷ rest); is = refl }))
    ∙ ap (λ o. next o (λ e ws. next (sign CLOSE_PAREN ws) (λ _ xs. Some ((p, e), xs)))) (exact_before CLOSE_PAREN 0 Second e close_paren_ends h n bar.back _ bar.second (omega (arith, size)) (record { token = inside.4.0; back = rest; is = refl }))

-- ---- what stands behind !, # and %
pub exact_quantified : (plain : List RawName → RawTree → RawTreeNode) (numbers : List RawBound → RawTree → RawTreeNode) (xs : List RawName) (Piece : List Token → Type 0) (p : RawTree) → TermExact Piece p 0 → (n : ℕ) → Exact n (quantified n (read n) plain numbers) (Binder xs ⌢ JustSign DOT ⌢ InParentheses Piece) (plain xs p) Anything
exact_quantified plain numbers xs Piece p h n tokens rest q l u =
    cond-false (begins_bound_in (tokens ++ rest)) _ _ (ap begins_bound_in (appended tokens q.0 q.1 rest q.2) ∙ binder_not_bound xs q.0 (q.1 ++ rest) q.3)
    ∙ exact_next n binder (λ xs us. next (body (read n) us) (λ p vs. Some (plain xs p, vs))) (Binder xs) (JustSign DOT ⌢ InParentheses Piece) xs (plain xs p) Anything Anything
    (exact_weaker (suc n) n binder (Binder xs) xs Anything Anything (omega arith) (λ rest b. tt) (exact_binder n xs))
    (exact_made n (body (read n)) (JustSign DOT ⌢ InParentheses Piece) p Anything (plain xs) (exact_body Piece p h n))
    (λ back rest q b. tt) tokens rest q l u

-- bound variables in parentheses begin so
bound_in_parens : (Piece : List Token → Type 0) (tokens rest : List Token) → ((tokens rest : List Token) → Piece tokens → begins_bound (tokens ++ rest) ≡ true) → InParentheses Piece tokens → begins_bound_in (tokens ++ rest) ≡ true
bound_in_parens Piece tokens rest h p =
    let v = led (Sign OPEN_PAREN) (Piece ⌢ JustSign CLOSE_PAREN) tokens p in
    ap (λ ts. begins_bound_in (ts ++ rest)) v.is ∙ ap begins_bound (appended v.back v.second.0 v.second.1 rest v.second.2) ∙ h v.second.0 (v.second.1 ++ rest) v.second.3

pub exact_typed_quantified : (plain : List RawName → RawTree → RawTreeNode) (numbers : List RawBound → RawTree → RawTreeNode) (bs : List RawBound) (Piece : List Token → Type 0) (p : RawTree) → TermExact Piece p 0 → (n : ℕ) → Exact n (quantified n (read n) plain numbers) (InParentheses (TypedBounds bs) ⌢ JustSign DOT ⌢ InParentheses Piece) (numbers bs p) Anything
exact_typed_quantified plain numbers bs Piece p h n tokens rest q l u =
    cond-true (begins_bound_in (tokens ++ rest)) _ _ (ap begins_bound_in (appended tokens q.0 q.1 rest q.2) ∙ bound_in_parens (TypedBounds bs) q.0 (q.1 ++ rest) (bounds_begin bs) q.3)
    ∙ exact_next n (within OPEN_PAREN CLOSE_PAREN (bounds n)) (λ bs us. next (body (read n) us) (λ p vs. Some (numbers bs p, vs))) (InParentheses (TypedBounds bs)) (JustSign DOT ⌢ InParentheses Piece) bs (numbers bs p) Anything Anything
    (exact_weaker (suc n) n (within OPEN_PAREN CLOSE_PAREN (bounds n)) (InParentheses (TypedBounds bs)) bs Anything Anything (omega arith) (λ rest b. tt) (exact_within n OPEN_PAREN CLOSE_PAREN (bounds n) (TypedBounds bs) bs (exact_weaker n n (bounds n) (TypedBounds bs) bs NoComma (Before CLOSE_PAREN) (omega arith) no_comma_before_close (exact_bounds bs n))))
    (exact_made n (body (read n)) (JustSign DOT ⌢ InParentheses Piece) p Anything (numbers bs) (exact_body Piece p h n))
    (λ back rest q b. tt) tokens rest q l u

pub exact_lambda : (xs : List RawName) (First Second : List Token → Type 0) (p e : RawTree) → TermExact First p 0 → TermExact Second e 0 → (n : ℕ) → Exact n (lambda n (read n)) (Binder xs ⌢ JustSign DOT ⌢ InParentheses (First ⌢ JustSign BAR ⌢ Second)) (raw_lambda xs p e) Anything
exact_lambda xs First Second p e g h n tokens rest q l u =
    cond-false (begins_bound_in (tokens ++ rest)) _ _ (ap begins_bound_in (appended tokens q.0 q.1 rest q.2) ∙ binder_not_bound xs q.0 (q.1 ++ rest) q.3)
    ∙ exact_next n binder (λ xs us. next (body_and_value (read n) us) (λ q vs. Some (raw_lambda xs q.0 q.1, vs))) (Binder xs) (JustSign DOT ⌢ InParentheses (First ⌢ JustSign BAR ⌢ Second)) xs (raw_lambda xs p e) Anything Anything
    (exact_weaker (suc n) n binder (Binder xs) xs Anything Anything (omega arith) (λ rest b. tt) (exact_binder n xs))
    (exact_made n (body_and_value (read n)) (JustSign DOT ⌢ InParentheses (First ⌢ JustSign BAR ⌢ Second)) (p, e) Anything (λ q. raw_lambda xs q.0 q.1) (exact_body_and_value First Second p e g h n))
    (λ back rest q b. tt) tokens rest q l u

-- ranges, in front of what is no comma and goes on with nothing
abbrev pub RangesExact : (List Token → Type 0) → RawRanges → Type 0
RangesExact Piece rs = (n m : ℕ) (tokens rest : List Token) → Piece tokens → length tokens ≤ n → length tokens ≤ m → Stops 4 rest → NoComma rest → ranges m (read n) (tokens ++ rest) ≡ Some (rs, rest)

abbrev pub BeginsBound : (List Token → Type 0) → Type 0
BeginsBound Piece = (tokens : List Token) → Piece tokens → (n : ℕ) × (t : Token) × (back : List Token) × (tokens ≡ of_kind (BoundName n) t ∷ back)

pub exact_ranged_lambda : (rs : RawRanges) (Ranged First Second : List Token → Type 0) (p e : RawTree) → RangesExact Ranged rs → BeginsBound Ranged → TermExact First p 0 → TermExact Second e 0 → (n : ℕ) → Exact n (lambda n (read n)) (InParentheses Ranged ⌢ JustSign DOT ⌢ InParentheses (First ⌢ JustSign BAR ⌢ Second)) (raw_ranged_lambda rs p e) Anything
exact_ranged_lambda rs Ranged First Second p e r begins g h n tokens rest q l u =
    cond-true (begins_bound_in (tokens ++ rest)) _ _ (ap begins_bound_in (appended tokens q.0 q.1 rest q.2) ∙ bound_in_parens Ranged q.0 (q.1 ++ rest) (λ tokens rest p. ap (λ ts. begins_bound (ts ++ rest)) (begins tokens p).3) q.3)
    ∙ exact_next n (within OPEN_PAREN CLOSE_PAREN (ranges n (read n))) (λ rs us. next (body_and_value (read n) us) (λ q vs. Some (raw_ranged_lambda rs q.0 q.1, vs))) (InParentheses Ranged) (JustSign DOT ⌢ InParentheses (First ⌢ JustSign BAR ⌢ Second)) rs (raw_ranged_lambda rs p e) Anything Anything
    (exact_weaker (suc n) n (within OPEN_PAREN CLOSE_PAREN (ranges n (read n))) (InParentheses Ranged) rs Anything Anything (omega arith) (λ rest b. tt) (exact_within n OPEN_PAREN CLOSE_PAREN (ranges n (read n)) Ranged rs (λ tokens rest p l b. r n n tokens rest p l l (before_stops CLOSE_PAREN 4 rest close_paren_ends b) (no_comma_before_close rest b))))
    (exact_made n (body_and_value (read n)) (JustSign DOT ⌢ InParentheses (First ⌢ JustSign BAR ⌢ Second)) (p, e) Anything (λ q. raw_ranged_lambda rs q.0 q.1) (exact_body_and_value First Second p e g h n))
    (λ back rest q b. tt) tokens rest q l u

-- ---- braces
pub exact_empty : (n : ℕ) → Exact n (braces n (read n)) (JustSign CLOSE_BRACE) raw_empty_set Anything
exact_empty n tokens rest p l u = ap (λ ts. braces n (read n) (ts ++ rest)) (just_is (Sign CLOSE_BRACE) tokens p)

pub exact_typed_empty : (t : WrittenType) (n : ℕ) → Exact n (braces n (read n)) ((JustSign MEMBER ⌢ Typed t) ⌢ JustSign CLOSE_BRACE) (raw_typed_empty t) Anything
exact_typed_empty t n tokens rest q l u =
    let p = regrouped (JustSign MEMBER) (Typed t) (JustSign CLOSE_BRACE) tokens q in
    let v = led (Sign MEMBER) (Typed t ⌢ JustSign CLOSE_BRACE) tokens p in
    cond-false (begins_with CLOSE_BRACE (tokens ++ rest)) _ _ (ap (λ ts. begins_with CLOSE_BRACE (ts ++ rest)) v.is)
    ∙ cond-true (begins_with MEMBER (tokens ++ rest)) _ _ (ap (λ ts. begins_with MEMBER (ts ++ rest)) v.is)
    ∙ exact_made n (within MEMBER CLOSE_BRACE (typed n)) (JustSign MEMBER ⌢ Typed t ⌢ JustSign CLOSE_BRACE) t Anything raw_typed_empty
    (exact_weaker (suc n) n (within MEMBER CLOSE_BRACE (typed n)) (JustSign MEMBER ⌢ Typed t ⌢ JustSign CLOSE_BRACE) t Anything Anything (omega arith) (λ rest b. tt) (exact_within n MEMBER CLOSE_BRACE (typed n) (Typed t) t (λ tokens rest p l b. exact_typed t n tokens rest p l tt)))
    tokens rest p l u

-- what is read as a term begins with neither } nor :
starts_apart : (op : ℕ) (n asked : ℕ) (t : Token) (ts : List Token) (p : RawTree × List Token) → ((t : Token) → read (suc n) asked (of_kind (Sign op) t ∷ ts) ≡ None) → read (suc n) asked (t ∷ ts) ≡ Some p → begins_with op (t ∷ ts) ≡ false
starts_apart op n asked t ts p h e = elim (cases_Bool (begins_with op (t ∷ ts))) [
  | inl holds ↦ none_some p (sym (h t) ∙ sym (ap (λ t. read (suc n) asked (t ∷ ts)) (kind_known t (Sign op) (same_kind_sign t.kind op holds))) ∙ e)
  | inr fails ↦ fails
]

no_term_at : (n asked : ℕ) (ts : List Token) (p : RawTree × List Token) → read n asked ts ≡ Some p → (begins_with CLOSE_BRACE ts ≡ false) × (begins_with MEMBER ts ≡ false)
no_term_at n asked [] p e = (refl, refl)
no_term_at zero asked (t ∷ ts) p e = none_some p e
no_term_at (suc n) asked (t ∷ ts) p e = (starts_apart CLOSE_BRACE n asked t ts p (λ t. refl) e, starts_apart MEMBER n asked t ts p (λ t. refl) e)

-- what comes first is read, where all is
pub next_some : {A B : Type 0} (o : Option (A × List Token)) (f : A → List Token → Option (B × List Token)) (p : B × List Token) → next o f ≡ Some p → (q : A × List Token) × (o ≡ Some q) × (f q.0 q.1 ≡ Some p)
next_some None f p e = none_some p e
next_some (Some q) f p e = (q, refl, e)

no_terms_at : (m n : ℕ) (ts : List Token) (p : RawTrees × List Token) → terms m (read n) ts ≡ Some p → (begins_with CLOSE_BRACE ts ≡ false) × (begins_with MEMBER ts ≡ false)
no_terms_at zero n ts p e = none_some p e
no_terms_at (suc m) n ts p e = let first = next_some (read n 0 ts) _ p e in no_term_at n 0 ts first.0 first.1

abbrev pub TermsExact : (List Token → Type 0) → RawTrees → Type 0
TermsExact Piece xs = (n m : ℕ) (tokens rest : List Token) → Piece tokens → length tokens ≤ n → length tokens ≤ m → Stops 0 rest → NoComma rest → terms m (read n) (tokens ++ rest) ≡ Some (xs, rest)

pub exact_extension : (xs : RawTrees) (Piece : List Token → Type 0) → Neutral Piece → TermsExact Piece xs → (n : ℕ) → Exact n (braces n (read n)) (Piece ⌢ JustSign CLOSE_BRACE) (raw_extension xs) Anything
exact_extension xs Piece neutral h n tokens rest p l u =
    let size : length tokens ≡ length p.0 + length p.1 = lengths tokens p.0 p.1 p.2 in
    let close = just_is (Sign CLOSE_BRACE) p.1 p.4 in
    let whole : tokens ++ rest ≡ p.0 ++ (p.1 ++ rest) = appended tokens p.0 p.1 rest p.2 in
    let inside : terms n (read n) (p.0 ++ (p.1 ++ rest)) ≡ Some (xs, p.1 ++ rest) = h n n p.0 (p.1 ++ rest) p.3 (omega (arith, size, l)) (omega (arith, size, l)) (before_stops CLOSE_BRACE 0 (p.1 ++ rest) close_brace_ends (before_last CLOSE_BRACE p.1 rest p.4)) (ap (λ ts. begins_with COMMA (ts ++ rest)) close) in
    let apart = no_terms_at n n (p.0 ++ (p.1 ++ rest)) (xs, p.1 ++ rest) inside in
    let no_bar : bar_follows 0 (p.0 ++ (p.1 ++ rest)) ≡ false = neutral 0 p.0 (p.1 ++ rest) p.3 ∙ ap (λ ts. bar_follows 0 (ts ++ rest)) close in
    ap (braces n (read n)) whole
    ∙ cond-false (begins_with CLOSE_BRACE (p.0 ++ (p.1 ++ rest))) _ _ apart.0
    ∙ cond-false (begins_with MEMBER (p.0 ++ (p.1 ++ rest))) _ _ apart.1
    ∙ cond-true (not (bar_follows 0 (p.0 ++ (p.1 ++ rest)))) _ _ (ap not no_bar)
    ∙ ap (λ o. next o (λ xs us. next (sign CLOSE_BRACE us) (λ _ vs. Some (raw_extension xs, vs)))) inside
    ∙ exact_last n CLOSE_BRACE (raw_extension xs) p.1 rest p.4 (omega (arith, size, l)) tt

pub exact_comprehension : (xs : List RawName) (Piece : List Token → Type 0) (p : RawTree) → Neutral (Names xs) → TermExact Piece p 0 → (n : ℕ) → Exact n (braces n (read n)) ((Names xs ⌢ JustSign BAR ⌢ Piece) ⌢ JustSign CLOSE_BRACE) (raw_comprehension xs p) Anything
exact_comprehension xs Piece p neutral h n tokens rest q l u =
    let r = regrouped (Names xs) (JustSign BAR ⌢ Piece) (JustSign CLOSE_BRACE) tokens q in
    let s = regrouped (JustSign BAR) Piece (JustSign CLOSE_BRACE) r.1 r.4 in
    let bar = led (Sign BAR) (Piece ⌢ JustSign CLOSE_BRACE) r.1 s in
    let w = names_begin xs r.0 r.3 in
    let front : tokens ≡ of_kind (Name w.0) w.1 ∷ (w.2 ++ r.1) = r.2 ∙ ap (λ ts. ts ++ r.1) w.3 in
    let has_bar : bar_follows 0 (tokens ++ rest) ≡ true = ap (bar_follows 0) (appended tokens r.0 r.1 rest r.2) ∙ neutral 0 r.0 (r.1 ++ rest) r.3 ∙ ap (λ ts. bar_follows 0 (ts ++ rest)) bar.is in
    cond-false (begins_with CLOSE_BRACE (tokens ++ rest)) _ _ (ap (λ ts. begins_with CLOSE_BRACE (ts ++ rest)) front)
    ∙ cond-false (begins_with MEMBER (tokens ++ rest)) _ _ (ap (λ ts. begins_with MEMBER (ts ++ rest)) front)
    ∙ cond-false (not (bar_follows 0 (tokens ++ rest))) _ _ (ap not has_bar)
    ∙ cond-false (begins_bound (tokens ++ rest)) _ _ (ap (λ ts. begins_bound (ts ++ rest)) front)
    ∙ exact_next n names (λ xs us. next (within BAR CLOSE_BRACE (read n 0) us) (λ p vs. Some (raw_comprehension xs p, vs))) (Names xs) (JustSign BAR ⌢ Piece ⌢ JustSign CLOSE_BRACE) xs (raw_comprehension xs p) NoComma Anything
    (exact_names n xs)
    (exact_made n (within BAR CLOSE_BRACE (read n 0)) (JustSign BAR ⌢ Piece ⌢ JustSign CLOSE_BRACE) p Anything (raw_comprehension xs) (exact_enclosed BAR CLOSE_BRACE Piece p close_brace_ends h n))
    (λ back rest q b. ap (begins_with COMMA) (before_joined BAR (Piece ⌢ JustSign CLOSE_BRACE) back rest q).is)
    tokens rest (r.0, r.1, r.2, r.3, s) l u

pub exact_ranged_comprehension : (rs : RawRanges) (Ranged Piece : List Token → Type 0) (p : RawTree) → Neutral Ranged → RangesExact Ranged rs → BeginsBound Ranged → TermExact Piece p 0 → (n : ℕ) → Exact n (braces n (read n)) ((Ranged ⌢ JustSign BAR ⌢ Piece) ⌢ JustSign CLOSE_BRACE) (raw_ranged_comprehension rs p) Anything
exact_ranged_comprehension rs Ranged Piece p neutral ranged begin h n tokens rest q l u =
    let r = regrouped Ranged (JustSign BAR ⌢ Piece) (JustSign CLOSE_BRACE) tokens q in
    let s = regrouped (JustSign BAR) Piece (JustSign CLOSE_BRACE) r.1 r.4 in
    let bar = led (Sign BAR) (Piece ⌢ JustSign CLOSE_BRACE) r.1 s in
    let w = begin r.0 r.3 in
    let front : tokens ≡ of_kind (BoundName w.0) w.1 ∷ (w.2 ++ r.1) = r.2 ∙ ap (λ ts. ts ++ r.1) w.3 in
    let has_bar : bar_follows 0 (tokens ++ rest) ≡ true = ap (bar_follows 0) (appended tokens r.0 r.1 rest r.2) ∙ neutral 0 r.0 (r.1 ++ rest) r.3 ∙ ap (λ ts. bar_follows 0 (ts ++ rest)) bar.is in
    cond-false (begins_with CLOSE_BRACE (tokens ++ rest)) _ _ (ap (λ ts. begins_with CLOSE_BRACE (ts ++ rest)) front)
    ∙ cond-false (begins_with MEMBER (tokens ++ rest)) _ _ (ap (λ ts. begins_with MEMBER (ts ++ rest)) front)
    ∙ cond-false (not (bar_follows 0 (tokens ++ rest))) _ _ (ap not has_bar)
    ∙ cond-true (begins_bound (tokens ++ rest)) _ _ (ap (λ ts. begins_bound (ts ++ rest)) front)
    ∙ exact_next n (ranges n (read n)) (λ rs us. next (within BAR CLOSE_BRACE (read n 0) us) (λ p vs. Some (raw_ranged_comprehension rs p, vs))) Ranged (JustSign BAR ⌢ Piece ⌢ JustSign CLOSE_BRACE) rs (raw_ranged_comprehension rs p) (Before BAR) Anything
    (λ tokens rest p l b. ranged n n tokens rest p l l (before_stops BAR 4 rest bar_ends b) (ap (begins_with COMMA) b.is))
    (exact_made n (within BAR CLOSE_BRACE (read n 0)) (JustSign BAR ⌢ Piece ⌢ JustSign CLOSE_BRACE) p Anything (raw_ranged_comprehension rs) (exact_enclosed BAR CLOSE_BRACE Piece p close_brace_ends h n))
    (λ back rest q b. before_joined BAR (Piece ⌢ JustSign CLOSE_BRACE) back rest q)
    tokens rest (r.0, r.1, r.2, r.3, s) l u

-- ---- what stands behind a term
-- one step of the loop behind a term goes over the piece
abbrev pub Postfix : (List Token → Type 0) → RawTree → RawTreeNode → Type 0
Postfix Piece r node = (n m at : ℕ) (back rest : List Token) → Piece back → length back ≤ n → length back ≤ m + 1 → postfixed (suc m) (read n) at r (back ++ rest) ≡ postfixed m (read n) at (raw at node) rest

pub postfix_inverse : (r : RawTree) → Postfix (JustSign INVERSE) r (raw_inverse r)
postfix_inverse r n m at back rest p l k = ap (λ ts. postfixed (suc m) (read n) at r (ts ++ rest)) (just_is (Sign INVERSE) back p)

pub postfix_image : (r s : RawTree) (Piece : List Token → Type 0) → TermExact Piece s 0 → Postfix (InBrackets Piece) r (raw_image r s)
postfix_image r s Piece h n m at back rest p l k =
    let v = led (Sign OPEN_BRACKET) (Piece ⌢ JustSign CLOSE_BRACKET) back p in
    cond-false (begins_with INVERSE (back ++ rest)) _ _ (ap (λ ts. begins_with INVERSE (ts ++ rest)) v.is)
    ∙ cond-true (begins_with OPEN_BRACKET (back ++ rest)) _ _ (ap (λ ts. begins_with OPEN_BRACKET (ts ++ rest)) v.is)
    ∙ ap (λ o. or_else (next o (λ s us. postfixed m (read n) at (raw at (raw_image r s)) us)) (Some (r, back ++ rest))) (exact_enclosed OPEN_BRACKET CLOSE_BRACKET Piece s close_bracket_ends h n back rest p l tt)
    ∙ or_else_taken _ _ (postfixed_gives m (read n) at (raw at (raw_image r s)) rest)

pub postfix_apply : (f x : RawTree) (Piece : List Token → Type 0) → Rows COMMA raw_pair Piece x → Begins Piece → Postfix (InParentheses Piece) f (raw_apply f x)
postfix_apply f x Piece rows begins n m at back rest p l k =
    let v = led (Sign OPEN_PAREN) (Piece ⌢ JustSign CLOSE_PAREN) back p in
    let size : length back ≡ length v.back + 1 = omega (arith, ap length v.is) in
    cond-false (begins_with INVERSE (back ++ rest)) _ _ (ap (λ ts. begins_with INVERSE (ts ++ rest)) v.is)
    ∙ cond-false (begins_with OPEN_BRACKET (back ++ rest)) _ _ (ap (λ ts. begins_with OPEN_BRACKET (ts ++ rest)) v.is)
    ∙ cond-true (begins_with OPEN_PAREN (back ++ rest)) _ _ (ap (λ ts. begins_with OPEN_PAREN (ts ++ rest)) v.is)
    ∙ ap (λ ts. or_else (next (sign OPEN_PAREN (ts ++ rest)) (λ _ us. next (arguments m (read n) us) (λ x vs. postfixed m (read n) at (raw at (raw_apply f x)) vs))) (Some (f, back ++ rest))) v.is
    ∙ ap (λ o. or_else (next o (λ x vs. postfixed m (read n) at (raw at (raw_apply f x)) vs)) (Some (f, back ++ rest))) (exact_arguments Piece x rows begins n m v.back rest v.second (omega (arith, size, l)) (omega (arith, size, k)))
    ∙ or_else_taken _ _ (postfixed_gives m (read n) at (raw at (raw_apply f x)) rest)

-- ---- terms with commas between
pub terms_one : (Piece : List Token → Type 0) (t : RawTree) → Begins Piece → TermExact Piece t 0 → TermsExact Piece (tree_and t no_trees)
terms_one Piece t begins h n zero tokens rest p l k s c = absurd (omega (arith, begun_length tokens (begins tokens p), k))
terms_one Piece t begins h n (suc m) tokens rest p l k s c =
    ap (λ o. next o (λ t us. cond (begins_with COMMA us) (next (sign COMMA us) (λ _ vs. next (terms m (read n) vs) (λ rest ws. Some (tree_and t rest, ws)))) (Some (tree_and t no_trees, us)))) (h n tokens rest p l s)
    ∙ cond-false (begins_with COMMA rest) _ _ c

pub terms_more : (First Second : List Token → Type 0) (t : RawTree) (us : RawTrees) → Begins First → TermExact First t 0 → TermsExact Second us → TermsExact (First ⌢ JustSign COMMA ⌢ Second) (tree_and t us)
terms_more First Second t us begins h k n zero tokens rest p l e s c = absurd (omega (arith, begun_length tokens (begun_joined tokens p.0 p.1 p.2 (begins p.0 p.3)), e))
terms_more First Second t us begins h k n (suc m) tokens rest p l e s c =
    let v = led (Sign COMMA) Second p.1 p.4 in
    let size : length tokens ≡ length p.0 + length v.back + 1 = omega (arith, lengths tokens p.0 p.1 p.2, ap length v.is) in
    ap (terms (suc m) (read n)) (appended tokens p.0 p.1 rest p.2)
    ∙ ap (λ o. next o (λ t us. cond (begins_with COMMA us) (next (sign COMMA us) (λ _ vs. next (terms m (read n) vs) (λ rest ws. Some (tree_and t rest, ws)))) (Some (tree_and t no_trees, us)))) (h n p.0 (p.1 ++ rest) p.3 (omega (arith, size, l)) (before_stops COMMA 0 (p.1 ++ rest) comma_ends (before_joined COMMA Second p.1 rest p.4)))
    ∙ ap (λ us. cond (begins_with COMMA (us ++ rest)) (next (sign COMMA (us ++ rest)) (λ _ vs. next (terms m (read n) vs) (λ rest ws. Some (tree_and t rest, ws)))) (Some (tree_and t no_trees, us ++ rest))) v.is
    ∙ ap (λ o. next o (λ rest ws. Some (tree_and t rest, ws))) (k n m v.back rest v.second (omega (arith, size, l)) (omega (arith, size, e, begun_length p.0 (begins p.0 p.3))) s c)

-- ---- ranges with commas between
-- $n:d
abbrev pub Ranged : ℕ → ℕ → (List Token → Type 0) → List Token → Type 0
Ranged at n Piece = JustAt at (BoundName n) ⌢ JustSign MEMBER ⌢ Piece

pub range_begins : (at k : ℕ) (Piece : List Token → Type 0) → BeginsBound (Ranged at k Piece)
range_begins at k Piece tokens p = let v = led_at at (BoundName k) MEMBER Piece tokens p in (k, placed_at at (BoundName k) v.first, of_kind (Sign MEMBER) v.second ∷ v.back, v.is)

pub range_begun : (at k : ℕ) (Piece : List Token → Type 0) → Begins (Ranged at k Piece)
range_begun at k Piece tokens p = let v = range_begins at k Piece tokens p in (of_kind (BoundName v.0) v.1, v.2, v.3)

-- what is read of the first
range_front : (at k : ℕ) (Piece : List Token → Type 0) (d : RawTree) → TermExact Piece d 4 → (n m : ℕ) (tokens rest : List Token) → Ranged at k Piece tokens → length tokens ≤ n → Stops 4 rest → ranges (suc m) (read n) (tokens ++ rest) ≡ cond (begins_with COMMA rest) (next (sign COMMA rest) (λ _ ws. next (ranges m (read n) ws) (λ more xs. Some (range_and at k d more, xs)))) (Some (range_and at k d no_ranges, rest))
range_front at k Piece d h n m tokens rest p l s =
    let v = led_at at (BoundName k) MEMBER Piece tokens p in
    ap (λ ts. ranges (suc m) (read n) (ts ++ rest)) v.is
    ∙ ap (λ o. next o (λ d vs. cond (begins_with COMMA vs) (next (sign COMMA vs) (λ _ ws. next (ranges m (read n) ws) (λ more xs. Some (range_and at k d more, xs)))) (Some (range_and at k d no_ranges, vs)))) (h n v.back rest v.third (omega (arith, ap length v.is, l)) s)

pub ranges_one : (at k : ℕ) (Piece : List Token → Type 0) (d : RawTree) → TermExact Piece d 4 → RangesExact (Ranged at k Piece) (range_and at k d no_ranges)
ranges_one at k Piece d h n zero tokens rest p l e s c = absurd (omega (arith, begun_length tokens (range_begun at k Piece tokens p), e))
ranges_one at k Piece d h n (suc m) tokens rest p l e s c = range_front at k Piece d h n m tokens rest p l s ∙ cond-false (begins_with COMMA rest) _ _ c

pub ranges_more : (at k : ℕ) (Piece Second : List Token → Type 0) (d : RawTree) (rs : RawRanges) → TermExact Piece d 4 → RangesExact Second rs → RangesExact (Ranged at k Piece ⌢ JustSign COMMA ⌢ Second) (range_and at k d rs)
ranges_more at k Piece Second d rs h g n zero tokens rest p l e s c = absurd (omega (arith, begun_length tokens (begun_joined tokens p.0 p.1 p.2 (range_begun at k Piece p.0 p.3)), e))
ranges_more at k Piece Second d rs h g n (suc m) tokens rest p l e s c =
    let v = led (Sign COMMA) Second p.1 p.4 in
    let size : length tokens ≡ length p.0 + length v.back + 1 = omega (arith, lengths tokens p.0 p.1 p.2, ap length v.is) in
    ap (ranges (suc m) (read n)) (appended tokens p.0 p.1 rest p.2)
    ∙ range_front at k Piece d h n m p.0 (p.1 ++ rest) p.3 (omega (arith, size, l)) (before_stops COMMA 4 (p.1 ++ rest) comma_ends (before_joined COMMA Second p.1 rest p.4))
    ∙ ap (λ us. cond (begins_with COMMA (us ++ rest)) (next (sign COMMA (us ++ rest)) (λ _ ws. next (ranges m (read n) ws) (λ more xs. Some (range_and at k d more, xs)))) (Some (range_and at k d no_ranges, us ++ rest))) v.is
    ∙ ap (λ o. next o (λ more xs. Some (range_and at k d more, xs))) (g n m v.back rest v.second (omega (arith, size, l)) (omega (arith, size, e, begun_length p.0 (range_begun at k Piece p.0 p.3))) s c)
