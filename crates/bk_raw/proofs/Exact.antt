-- A term is read exactly, where nothing goes on with it; so it is the only one that its tokens are.
use Rattle.std.specs.Prelude.{◌≡◌, ℕ, zero, suc, ◌+◌, ◌≤◌, ℤ, pos, neg_ℤ, List, [], ◌++◌, length, Some, refl}
use Rattle.std.proofs.Common.{arith, inl, inr, sym, ◌∙◌, ap, subst}
use Rattle.std.proofs.lemmas.List.{append-nil}
use Rattle.bk_form.specs.declared.token.Token.{Token}
use Rattle.bk_form.specs.declared.token.TokenKind.{TokenKind}
use Rattle.bk_form.specs.declared.token.TokenKind.TheVariants.{Name, LevelName, BoundName, Number, Sign}
use Rattle.bk_ops.specs.declared.sign.TheConstants.{FOR_ALL, EXISTS, MEMBER, MINUS, OPEN_PAREN, CLOSE_PAREN, OPEN_BRACKET, CLOSE_BRACKET, OPEN_BRACE, CLOSE_BRACE, INVERSE, SEMICOLON, COMMA, DOT, BAR, LAMBDA}
use Rattle.bk_raw.specs.Trees.Operators.{word_kind, constant_kind, binding}
use Rattle.bk_raw.specs.declared.operator.InfixOp.{InfixOp}
use Rattle.bk_raw.specs.declared.operator.WordOp.{WordOp}
use Rattle.bk_raw.specs.declared.term.RawName.{RawName}
use Rattle.bk_raw.specs.declared.term.RawBound.{RawBound}
use Rattle.bk_raw.specs.Grammar.Pieces.{Never, Just, JustSign, ◌⌢◌, InParentheses, InBrackets, InBraces, WithParentheses, Starting, Placed, Digits, Literal, NoDigits}
use Rattle.bk_raw.specs.Trees.RawTree.{RawTree, raw, RawTreeNode, raw_name, raw_level_name, raw_bound_name, raw_number, raw_constant, raw_word, raw_negative, raw_infix, raw_inverse, raw_image, raw_apply, raw_composition, raw_pair, raw_empty_set, raw_extension, raw_comprehension, raw_lambda, raw_for_all, raw_exists, raw_typed_empty, raw_typed_for_all, raw_typed_exists, raw_ranged_comprehension, raw_ranged_lambda, RawTrees, no_trees, tree_and, RawRanges, no_ranges, range_and}
use Rattle.bk_raw.specs.Grammar.Spelling.{Names, Binder, Typed, TypedBounds, Term, Listed, Sequenced, Bare, Commas, Semicolons, Terms, Ranges, Spells}
use Rattle.bk_raw.specs.Grammar.Laws.{TermsAreOne}
use Rattle.bk_raw.proofs.Neutral.{neutral_names, neutral_terms, neutral_ranges}
use Rattle.bk_raw.specs.Grammar.Reading.{next, start, within, signed, front_kind, tight, operators_after, read, quantified, lambda, braces}
use Rattle.bk_raw.proofs.Shapes.{of_kind, led, just_is, begun_led}
use Rattle.bk_raw.proofs.Stopping.{some_same, own_within, right_within, left_within, stops_end, comma_ends, semicolon_ends, close_paren_ends, postfixed_ends}
use Rattle.bk_raw.proofs.Combining.{Exact, Anything, exact_made}
use Rattle.bk_raw.proofs.Loops.{Loops, Tights, Begins, begins_starting, starts, primary, tights_of_primary, loops_of_tights, exact_of_loops, postfix_step, Rows, rows_of_exact, rows_either, rows_joined, goes_by_comma, goes_by_semicolon, exact_row, exact_parens, loops_infix}
use Rattle.bk_raw.proofs.Primaries.{primary_leaf, primary_led, primary_parens, primary_constant, primary_word, TermExact, exact_enclosed, exact_quantified, exact_typed_quantified, exact_lambda, RangesExact, BeginsBound, exact_ranged_lambda, exact_empty, exact_typed_empty, TermsExact, exact_extension, exact_comprehension, exact_ranged_comprehension, terms_one, terms_more, range_begins, ranges_one, ranges_more, postfix_inverse, postfix_image, postfix_apply}

-- ---- what is shown of each term
-- of a node without parentheses around it
pub record BareReads (node : RawTreeNode) : Type 0 where
  pub loops : (at least : ℕ) → least ≤ 11 → Loops (Starting at (Bare node least)) (raw at node) least
  pub tights : (at : ℕ) → Tights (Starting at (Bare node 11)) (raw at node)

pub record Reads (t : RawTree) : Type 0 where
  pub loops : (least : ℕ) → least ≤ 11 → Loops (Term t least) t least
  pub tights : Tights (Term t 11) t

-- ---- terms are not empty
pub begins_placed : (at asked : ℕ) (node : RawTreeNode) → Begins (Placed at asked (Bare node))
begins_placed at asked node tokens p = elim p [
  | inl q ↦ (q.0, q.1, q.2)
  | inr q ↦ begun_led (Sign OPEN_PAREN) (WithParentheses q.0 (Starting at (Bare node 0)) ⌢ JustSign CLOSE_PAREN) tokens q.1
]

pub begins_term : (t : RawTree) (asked : ℕ) → Begins (Term t asked)
begins_term (raw at node) asked = begins_placed at asked node

pub begins_listed : (t : RawTree) → Begins (Listed t)
begins_listed (raw at node) tokens p = elim p [ inl q ↦ begins_placed at 0 node tokens q | inr q ↦ (q.0, q.1, q.2) ]

pub begins_sequenced : (t : RawTree) → Begins (Sequenced t)
begins_sequenced (raw at node) tokens p = elim p [ inl q ↦ begins_placed at 0 node tokens q | inr q ↦ (q.0, q.1, q.2) ]

pub exact_term : (t : RawTree) → Reads t → (asked : ℕ) → asked ≤ 11 → TermExact (Term t asked) t asked
exact_term t r asked l n = exact_of_loops (Term t asked) t asked (begins_term t asked) (r.loops asked l) n

-- ---- parentheses around a term
begins_with_parens : (at : ℕ) (node : RawTreeNode) (m : ℕ) → Begins (WithParentheses m (Starting at (Bare node 0)))
begins_with_parens at node zero tokens p = (p.0, p.1, p.2)
begins_with_parens at node (suc m) tokens p = begun_led (Sign OPEN_PAREN) (WithParentheses m (Starting at (Bare node 0)) ⌢ JustSign CLOSE_PAREN) tokens p

-- one more pair of parentheses
parens_tights : (Piece : List Token → Type 0) (t : RawTree) → Begins Piece → Loops Piece t 0 → Tights (InParentheses Piece) t
parens_tights Piece t begins h = tights_of_primary (InParentheses Piece) t (λ tokens p. begun_led (Sign OPEN_PAREN) (Piece ⌢ JustSign CLOSE_PAREN) tokens p) (λ n tokens rest p l.
    let v = led (Sign OPEN_PAREN) (Piece ⌢ JustSign CLOSE_PAREN) tokens p in
    ap (λ ts. primary n (read n) (ts ++ rest)) v.is
    ∙ exact_parens Piece t (exact_of_loops Piece t 0 begins h) n v.token.start v.back rest v.second (omega (arith, ap length v.is, l)) tt)

with_loops : (at : ℕ) (node : RawTreeNode) → BareReads node → (m : ℕ) → Loops (WithParentheses m (Starting at (Bare node 0))) (raw at node) 0
with_loops at node b zero = b.loops at 0 (omega arith)
with_loops at node b (suc m) = loops_of_tights (InParentheses (WithParentheses m (Starting at (Bare node 0)))) (raw at node) 0 (omega arith) (begins_with_parens at node (suc m)) (parens_tights (WithParentheses m (Starting at (Bare node 0))) (raw at node) (begins_with_parens at node m) (with_loops at node b m))

with_tights : (at : ℕ) (node : RawTreeNode) → BareReads node → (m : ℕ) → Tights (WithParentheses (suc m) (Starting at (Bare node 0))) (raw at node)
with_tights at node b m = parens_tights (WithParentheses m (Starting at (Bare node 0))) (raw at node) (begins_with_parens at node m) (with_loops at node b m)

placed_reads : (at : ℕ) (node : RawTreeNode) → BareReads node → Reads (raw at node)
placed_reads at node b = record {
  loops = λ least inside n asked tokens rest p l k admits. elim p [
    | inl q ↦ b.loops at least inside n asked tokens rest q l k admits
    | inr q ↦ loops_of_tights (WithParentheses (suc q.0) (Starting at (Bare node 0))) (raw at node) least inside (begins_with_parens at node (suc q.0)) (with_tights at node b q.0) n asked tokens rest q.1 l k admits
  ];
  tights = λ n tokens rest p l. elim p [
    | inl q ↦ b.tights at n tokens rest q l
    | inr q ↦ with_tights at node b q.0 n tokens rest q.1 l
  ];
}

-- ---- nodes that bind tightest
bare_tight : (node : RawTreeNode) → ((least : ℕ) (tokens : List Token) → Bare node least tokens → Bare node 11 tokens) → ((at : ℕ) → Tights (Starting at (Bare node 11)) (raw at node)) → BareReads node
bare_tight node same h = record {
  loops = λ at least inside. loops_of_tights (Starting at (Bare node least)) (raw at node) least inside (begins_starting at (Bare node least)) (λ n tokens rest p l. h at n tokens rest (p.0, p.1, p.2, p.3, same least tokens p.4) l);
  tights = h;
}

-- a leaf or a bracket
bare_primary : (node : RawTreeNode) → ((least : ℕ) (tokens : List Token) → Bare node least tokens → Bare node 11 tokens) → ((n : ℕ) (tokens rest : List Token) → Bare node 11 tokens → length tokens ≤ n + 1 → primary n (read n) (tokens ++ rest) ≡ Some (raw (start tokens) node, rest)) → BareReads node
bare_primary node same h = bare_tight node same (λ at. tights_of_primary (Starting at (Bare node 11)) (raw at node) (begins_starting at (Bare node 11)) (λ n tokens rest p l.
    h n tokens rest p.4 l ∙ ap (λ s. Some (raw s node, rest)) (starts at (Bare node 11) tokens p)))

-- ---- numbers and minus signs
-- what a minus sign makes of anything but digits
pub signed_other : (kind : TokenKind) (t : RawTree) → ((n : ℕ) → kind ≡ Number (pos n) → (at : ℕ) (z : ℤ) → t ≡ raw at (raw_number z) → ⊥) → signed kind t ≡ raw_negative t
signed_other (Number (pos n)) (raw at (raw_number z)) h = absurd (h n refl at z refl)
signed_other _ _ h = refl

pub sign_is_no_number : (op n : ℕ) → ◌≡◌ {A = TokenKind} (Sign op) (Number (pos n)) → ⊥
sign_is_no_number op n e = absurd cc

not_digits : (at : ℕ) (z : ℤ) (tokens rest : List Token) (n : ℕ) → NoDigits (Term (raw at (raw_number z)) 11) tokens → front_kind (tokens ++ rest) ≡ Number (pos n) → ⊥
not_digits at z tokens rest n p e = elim p.0 [
  | inl q ↦ elim q.4 [
    | inl digits ↦ p.1 digits.0 digits.2
    | inr minus ↦ absurd (omega (arith, minus.2.0))
  ]
  | inr q ↦ (let v = led (Sign OPEN_PAREN) (WithParentheses q.0 (Starting at (Literal z 0)) ⌢ JustSign CLOSE_PAREN) tokens q.1 in sign_is_no_number OPEN_PAREN n (sym (ap (λ ts. front_kind (ts ++ rest)) v.is) ∙ e))
]

-- a minus sign, and a term that binds tightest behind it
loops_minus : (node : RawTreeNode) (a : RawTree) (Piece : List Token → Type 0) → Tights Piece a → ((tokens rest : List Token) → Piece tokens → signed (front_kind (tokens ++ rest)) a ≡ node) → (at least : ℕ) → least ≤ 10 → Loops (Starting at (JustSign MINUS ⌢ Piece)) (raw at node) least
loops_minus node a Piece h makes at least small n asked tokens rest q l k admits =
    let v = led (Sign MINUS) Piece tokens q.4 in
    let w = h n v.back rest v.second (omega (arith, ap length v.is, l)) in
    let here : v.token.start ≡ at = sym (ap start v.is) ∙ starts at (JustSign MINUS ⌢ Piece) tokens q in
    let inside : tight n (read n) (v.back ++ rest) ≡ Some (a, rest) = w.is ∙ postfixed_ends w.fuel (read n) (start v.back) a rest admits.postfix in
    record {
      fuel = n;
      strength = 10;
      enough = omega (arith, ap length v.is);
      binds = small;
      is = ap (λ ts. read (suc n) asked (ts ++ rest)) v.is
          ∙ ap (λ o. next {A = RawTree × ℕ} (next o (λ x vs. Some ((raw v.token.start (signed (front_kind (v.back ++ rest)) x), 10), vs))) (λ x us. operators_after n (read n) asked v.token.start x.0 x.1 us)) inside
          ∙ (λ i. operators_after n (read n) asked (sym (ap start v.is) i) (raw (here i) (makes v.back rest v.second i)) 10 rest);
    }

digits_tights : (at : ℕ) (z : ℤ) (d : ℕ) → z ≡ pos d → Tights (Starting at (Digits d)) (raw at (raw_number z))
digits_tights at z d e = tights_of_primary (Starting at (Digits d)) (raw at (raw_number z)) (begins_starting at (Digits d)) (λ n tokens rest p l.
    primary_leaf (Number (pos d)) (raw_number (pos d)) n (λ at ts. refl) tokens rest p.4 ∙ (λ i. Some (raw (starts at (Digits d) tokens p i) (raw_number (sym e i)), rest)))

-- a minus sign directly before digits
loops_minus_digits : (z : ℤ) (d : ℕ) → z ≡ neg_ℤ (pos d) → (at least : ℕ) → least ≤ 10 → Loops (Starting at (JustSign MINUS ⌢ Digits d)) (raw at (raw_number z)) least
loops_minus_digits z d e at least small n asked tokens rest p =
    let digits = p.4.4 in
    let s = digits.0.start in
    loops_minus (raw_number z) (raw s (raw_number (pos d))) (Starting s (Digits d)) (digits_tights s (pos d) d refl) (λ tokens rest q. ap (λ ts. signed (front_kind (ts ++ rest)) (raw s (raw_number (pos d)))) (just_is (Number (pos d)) tokens q.4) ∙ ap raw_number (sym e)) at least small n asked tokens rest
    (p.0, p.1, p.2, p.3, (p.4.0, p.4.1, p.4.2, p.4.3, (digits.0, [], digits.1, refl, digits)))

number_reads : (z : ℤ) → BareReads (raw_number z)
number_reads z = record {
  loops = λ at least inside n asked tokens rest p l k admits. elim p.4 [
    | inl digits ↦ loops_of_tights (Starting at (Digits digits.0)) (raw at (raw_number z)) least inside (begins_starting at (Digits digits.0)) (digits_tights at z digits.0 digits.1) n asked tokens rest (p.0, p.1, p.2, p.3, digits.2) l k admits
    | inr minus ↦ loops_minus_digits z minus.0 minus.1 at least minus.2.0 n asked tokens rest (p.0, p.1, p.2, p.3, minus.2.1) l k admits
  ];
  tights = λ at n tokens rest p l. elim p.4 [
    | inl digits ↦ digits_tights at z digits.0 digits.1 n tokens rest (p.0, p.1, p.2, p.3, digits.2) l
    | inr minus ↦ absurd (omega (arith, minus.2.0))
  ];
}

negative_reads : (a : RawTree) → Reads a → BareReads (raw_negative a)
negative_reads a r = record {
  loops = λ at least inside n asked tokens rest p l k admits. loops_minus (raw_negative a) a (NoDigits (Term a 11)) (λ n tokens rest p l. r.tights n tokens rest p.0 l) (λ tokens rest p. signed_other (front_kind (tokens ++ rest)) a (λ n e at z is. not_digits at z tokens rest n (subst (λ t. NoDigits (Term t 11) tokens) is p) e)) at least p.4.0 n asked tokens rest (p.0, p.1, p.2, p.3, p.4.1) l k admits;
  tights = λ at n tokens rest p l. absurd (omega (arith, p.4.0));
}

infix_reads : (o : InfixOp) (a b : RawTree) → Reads a → Reads b → BareReads (raw_infix o a b)
infix_reads o a b r s = record {
  loops = λ at least inside. loops_infix o a b (Term a (binding o).left) (Term b (binding o).right) (r.loops (binding o).left (left_within o)) (begins_term a (binding o).left) (exact_term b s (binding o).right (right_within o)) at least;
  tights = λ at n tokens rest p l. absurd (omega (arith, p.4.0, own_within o));
}

-- ---- the other nodes
word_reads : (o : WordOp) (a : RawTree) → Reads a → BareReads (raw_word o a)
word_reads o a r = bare_primary (raw_word o a) (λ least tokens p. p) (λ n. primary_led (word_kind o) (InParentheses (Term a 0)) (raw_word o a) n (λ ts. next (within OPEN_PAREN CLOSE_PAREN (read n 0) ts) (λ a us. Some (raw_word o a, us))) (primary_word n (read n) o)
    (exact_made n (within OPEN_PAREN CLOSE_PAREN (read n 0)) (InParentheses (Term a 0)) a Anything (raw_word o) (exact_enclosed OPEN_PAREN CLOSE_PAREN (Term a 0) a close_paren_ends (exact_term a r 0 (omega arith)) n)))

begins_just : (kind : TokenKind) → Begins (Just kind)
begins_just kind tokens p = (of_kind kind p.0, [], just_is kind tokens p)

inverse_reads : (r : RawTree) → Reads r → BareReads (raw_inverse r)
inverse_reads r h = bare_tight (raw_inverse r) (λ least tokens p. p) (postfix_step (Term r 11) (JustSign INVERSE) r (raw_inverse r) h.tights (begins_term r 11) (begins_just (Sign INVERSE)) (postfix_inverse r))

image_reads : (r s : RawTree) → Reads r → Reads s → BareReads (raw_image r s)
image_reads r s h k = bare_tight (raw_image r s) (λ least tokens p. p) (postfix_step (Term r 11) (InBrackets (Term s 0)) r (raw_image r s) h.tights (begins_term r 11) (begun_led (Sign OPEN_BRACKET) (Term s 0 ⌢ JustSign CLOSE_BRACKET)) (postfix_image r s (Term s 0) (exact_term s k 0 (omega arith))))

apply_reads : (f x : RawTree) → Reads f → Rows COMMA raw_pair (Listed x) x → BareReads (raw_apply f x)
apply_reads f x h rows = bare_tight (raw_apply f x) (λ least tokens p. p) (postfix_step (Term f 11) (InParentheses (Listed x)) f (raw_apply f x) h.tights (begins_term f 11) (begun_led (Sign OPEN_PAREN) (Listed x ⌢ JustSign CLOSE_PAREN)) (postfix_apply f x (Listed x) rows (begins_listed x)))

composition_reads : (r s : RawTree) → Rows SEMICOLON raw_composition (Sequenced r) r → Reads s → BareReads (raw_composition r s)
composition_reads r s rows h = bare_primary (raw_composition r s) (λ least tokens p. p) (λ n. primary_parens ((Sequenced r ⌢ JustSign SEMICOLON ⌢ Term s 0) ⌢ JustSign CLOSE_PAREN) (raw_composition r s) n
    (exact_row SEMICOLON raw_composition (Sequenced r) (Term s 0) r s semicolon_ends goes_by_semicolon (λ t ts. refl) rows (begins_sequenced r) (exact_term s h 0 (omega arith)) n))

pair_reads : (a b : RawTree) → Rows COMMA raw_pair (Listed a) a → Reads b → BareReads (raw_pair a b)
pair_reads a b rows h = bare_primary (raw_pair a b) (λ least tokens p. p) (λ n. primary_parens ((Listed a ⌢ JustSign COMMA ⌢ Term b 0) ⌢ JustSign CLOSE_PAREN) (raw_pair a b) n
    (exact_row COMMA raw_pair (Listed a) (Term b 0) a b comma_ends goes_by_comma (λ t ts. refl) rows (begins_listed a) (exact_term b h 0 (omega arith)) n))

-- what stands in braces
braced : (Piece : List Token → Type 0) (node : RawTreeNode) → ((n : ℕ) → Exact n (braces n (read n)) (Piece ⌢ JustSign CLOSE_BRACE) node Anything) → (n : ℕ) (tokens rest : List Token) → InBraces Piece tokens → length tokens ≤ n + 1 → primary n (read n) (tokens ++ rest) ≡ Some (raw (start tokens) node, rest)
braced Piece node h n = primary_led (Sign OPEN_BRACE) (Piece ⌢ JustSign CLOSE_BRACE) node n (braces n (read n)) (λ at ts. refl) (h n)

pub exact_at : (t : RawTree) → Reads t → TermExact (Term t 0) t 0
exact_at t r = exact_term t r 0 (omega arith)

lambda_reads : (xs : List RawName) (p e : RawTree) → Reads p → Reads e → BareReads (raw_lambda xs p e)
lambda_reads xs p e r s = bare_primary (raw_lambda xs p e) (λ least tokens p. p) (λ n. primary_led (Sign LAMBDA) (Binder xs ⌢ JustSign DOT ⌢ InParentheses (Term p 0 ⌢ JustSign BAR ⌢ Term e 0)) (raw_lambda xs p e) n (lambda n (read n)) (λ at ts. refl) (exact_lambda xs (Term p 0) (Term e 0) p e (exact_at p r) (exact_at e s) n))

for_all_reads : (xs : List RawName) (p : RawTree) → Reads p → BareReads (raw_for_all xs p)
for_all_reads xs p r = bare_primary (raw_for_all xs p) (λ least tokens p. p) (λ n. primary_led (Sign FOR_ALL) (Binder xs ⌢ JustSign DOT ⌢ InParentheses (Term p 0)) (raw_for_all xs p) n (quantified n (read n) raw_for_all raw_typed_for_all) (λ at ts. refl) (exact_quantified raw_for_all raw_typed_for_all xs (Term p 0) p (exact_at p r) n))

exists_reads : (xs : List RawName) (p : RawTree) → Reads p → BareReads (raw_exists xs p)
exists_reads xs p r = bare_primary (raw_exists xs p) (λ least tokens p. p) (λ n. primary_led (Sign EXISTS) (Binder xs ⌢ JustSign DOT ⌢ InParentheses (Term p 0)) (raw_exists xs p) n (quantified n (read n) raw_exists raw_typed_exists) (λ at ts. refl) (exact_quantified raw_exists raw_typed_exists xs (Term p 0) p (exact_at p r) n))

typed_for_all_reads : (bs : List RawBound) (p : RawTree) → Reads p → BareReads (raw_typed_for_all bs p)
typed_for_all_reads bs p r = bare_primary (raw_typed_for_all bs p) (λ least tokens p. p) (λ n. primary_led (Sign FOR_ALL) (InParentheses (TypedBounds bs) ⌢ JustSign DOT ⌢ InParentheses (Term p 0)) (raw_typed_for_all bs p) n (quantified n (read n) raw_for_all raw_typed_for_all) (λ at ts. refl) (exact_typed_quantified raw_for_all raw_typed_for_all bs (Term p 0) p (exact_at p r) n))

typed_exists_reads : (bs : List RawBound) (p : RawTree) → Reads p → BareReads (raw_typed_exists bs p)
typed_exists_reads bs p r = bare_primary (raw_typed_exists bs p) (λ least tokens p. p) (λ n. primary_led (Sign EXISTS) (InParentheses (TypedBounds bs) ⌢ JustSign DOT ⌢ InParentheses (Term p 0)) (raw_typed_exists bs p) n (quantified n (read n) raw_exists raw_typed_exists) (λ at ts. refl) (exact_typed_quantified raw_exists raw_typed_exists bs (Term p 0) p (exact_at p r) n))

ranges_begin : (rs : RawRanges) → BeginsBound (Ranges rs)
ranges_begin no_ranges tokens p = elim p [ ]
ranges_begin (range_and at k d no_ranges) tokens p = range_begins at k (Term d 4) tokens p
ranges_begin (range_and at k d (range_and bt m e rs)) tokens p = let v = range_begins at k (Term d 4) p.0 p.3 in (v.0, v.1, v.2 ++ p.1, p.2 ∙ ap (λ ts. ts ++ p.1) v.3)

ranged_lambda_reads : (rs : RawRanges) (p e : RawTree) → RangesExact (Ranges rs) rs → Reads p → Reads e → BareReads (raw_ranged_lambda rs p e)
ranged_lambda_reads rs p e h r s = bare_primary (raw_ranged_lambda rs p e) (λ least tokens p. p) (λ n. primary_led (Sign LAMBDA) (InParentheses (Ranges rs) ⌢ JustSign DOT ⌢ InParentheses (Term p 0 ⌢ JustSign BAR ⌢ Term e 0)) (raw_ranged_lambda rs p e) n (lambda n (read n)) (λ at ts. refl) (exact_ranged_lambda rs (Ranges rs) (Term p 0) (Term e 0) p e h (ranges_begin rs) (exact_at p r) (exact_at e s) n))

rows_never : (op : ℕ) (make : RawTree → RawTree → RawTreeNode) (at : ℕ) (t : RawTree) → Rows op make (Starting at Never) t
rows_never op make at t n c tokens rest p l k s = elim p.4 [ ]

-- ---- all terms
mutual
  pub reads : (t : RawTree) → Reads t
  reads (raw at node) = placed_reads at node (bare_reads node)

  listed_rows : (t : RawTree) → Rows COMMA raw_pair (Listed t) t
  listed_rows (raw at node) = rows_either COMMA raw_pair (Placed at 0 (Bare node)) (Starting at (Commas node)) (raw at node) (rows_of_exact COMMA raw_pair (Placed at 0 (Bare node)) (raw at node) (exact_at (raw at node) (placed_reads at node (bare_reads node)))) (commas_rows node at)

  sequenced_rows : (t : RawTree) → Rows SEMICOLON raw_composition (Sequenced t) t
  sequenced_rows (raw at node) = rows_either SEMICOLON raw_composition (Placed at 0 (Bare node)) (Starting at (Semicolons node)) (raw at node) (rows_of_exact SEMICOLON raw_composition (Placed at 0 (Bare node)) (raw at node) (exact_at (raw at node) (placed_reads at node (bare_reads node)))) (semicolons_rows node at)

  bare_reads : (node : RawTreeNode) → BareReads node
  bare_reads (raw_name text) = bare_primary (raw_name text) (λ least tokens p. p) (λ n tokens rest p l. primary_leaf (Name text) (raw_name text) n (λ at ts. refl) tokens rest p)
  bare_reads (raw_level_name text k) = bare_primary (raw_level_name text k) (λ least tokens p. p) (λ n tokens rest p l. primary_leaf (LevelName text k) (raw_level_name text k) n (λ at ts. refl) tokens rest p)
  bare_reads (raw_bound_name k) = bare_primary (raw_bound_name k) (λ least tokens p. p) (λ n tokens rest p l. primary_leaf (BoundName k) (raw_bound_name k) n (λ at ts. refl) tokens rest p)
  bare_reads (raw_number z) = number_reads z
  bare_reads (raw_constant c) = bare_primary (raw_constant c) (λ least tokens p. p) (λ n tokens rest p l. primary_leaf (constant_kind c) (raw_constant c) n (primary_constant n (read n) c) tokens rest p)
  bare_reads (raw_word o a) = word_reads o a (reads a)
  bare_reads (raw_negative a) = negative_reads a (reads a)
  bare_reads (raw_infix o a b) = infix_reads o a b (reads a) (reads b)
  bare_reads (raw_inverse r) = inverse_reads r (reads r)
  bare_reads (raw_image r s) = image_reads r s (reads r) (reads s)
  bare_reads (raw_apply f x) = apply_reads f x (reads f) (listed_rows x)
  bare_reads (raw_composition r s) = composition_reads r s (sequenced_rows r) (reads s)
  bare_reads (raw_pair a b) = pair_reads a b (listed_rows a) (reads b)
  bare_reads raw_empty_set = bare_primary raw_empty_set (λ least tokens p. p) (λ n. primary_led (Sign OPEN_BRACE) (JustSign CLOSE_BRACE) raw_empty_set n (braces n (read n)) (λ at ts. refl) (exact_empty n))
  bare_reads (raw_extension ts) = bare_primary (raw_extension ts) (λ least tokens p. p) (braced (Terms ts) (raw_extension ts) (exact_extension ts (Terms ts) (neutral_terms ts) (terms_exact ts)))
  bare_reads (raw_comprehension xs p) = bare_primary (raw_comprehension xs p) (λ least tokens p. p) (braced (Names xs ⌢ JustSign BAR ⌢ Term p 0) (raw_comprehension xs p) (exact_comprehension xs (Term p 0) p (neutral_names xs) (exact_at p (reads p))))
  bare_reads (raw_lambda xs p e) = lambda_reads xs p e (reads p) (reads e)
  bare_reads (raw_for_all xs p) = for_all_reads xs p (reads p)
  bare_reads (raw_exists xs p) = exists_reads xs p (reads p)
  bare_reads (raw_typed_empty t) = bare_primary (raw_typed_empty t) (λ least tokens p. p) (braced (JustSign MEMBER ⌢ Typed t) (raw_typed_empty t) (exact_typed_empty t))
  bare_reads (raw_typed_for_all bs p) = typed_for_all_reads bs p (reads p)
  bare_reads (raw_typed_exists bs p) = typed_exists_reads bs p (reads p)
  bare_reads (raw_ranged_comprehension rs p) = bare_primary (raw_ranged_comprehension rs p) (λ least tokens p. p) (braced (Ranges rs ⌢ JustSign BAR ⌢ Term p 0) (raw_ranged_comprehension rs p) (exact_ranged_comprehension rs (Ranges rs) (Term p 0) p (neutral_ranges rs) (ranges_exact rs) (ranges_begin rs) (exact_at p (reads p))))
  bare_reads (raw_ranged_lambda rs p e) = ranged_lambda_reads rs p e (ranges_exact rs) (reads p) (reads e)

  commas_rows : (node : RawTreeNode) (at : ℕ) → Rows COMMA raw_pair (Starting at (Commas node)) (raw at node)
  commas_rows (raw_pair a b) at = rows_joined COMMA raw_pair (Listed a) (Term b 0) a b comma_ends (listed_rows a) (begins_listed a) (exact_at b (reads b)) at
  commas_rows node at = rows_never COMMA raw_pair at (raw at node)

  semicolons_rows : (node : RawTreeNode) (at : ℕ) → Rows SEMICOLON raw_composition (Starting at (Semicolons node)) (raw at node)
  semicolons_rows (raw_composition r s) at = rows_joined SEMICOLON raw_composition (Sequenced r) (Term s 0) r s semicolon_ends (sequenced_rows r) (begins_sequenced r) (exact_at s (reads s)) at
  semicolons_rows node at = rows_never SEMICOLON raw_composition at (raw at node)

  terms_exact : (ts : RawTrees) → TermsExact (Terms ts) ts
  terms_exact no_trees = λ n m tokens rest p l k s c. elim p [ ]
  terms_exact (tree_and t no_trees) = terms_one (Term t 0) t (begins_term t 0) (exact_at t (reads t))
  terms_exact (tree_and t (tree_and u us)) = terms_more (Term t 0) (Terms (tree_and u us)) t (tree_and u us) (begins_term t 0) (exact_at t (reads t)) (terms_exact (tree_and u us))

  ranges_exact : (rs : RawRanges) → RangesExact (Ranges rs) rs
  ranges_exact no_ranges = λ n m tokens rest p l k s c. elim p [ ]
  ranges_exact (range_and at k d no_ranges) = ranges_one at k (Term d 4) d (exact_term d (reads d) 4 (omega arith))
  ranges_exact (range_and at k d (range_and bt m e rs)) = ranges_more at k (Term d 4) (Ranges (range_and bt m e rs)) d (range_and bt m e rs) (exact_term d (reads d) 4 (omega arith)) (ranges_exact (range_and bt m e rs))

-- ---- a term alone
pub reads_alone : (n : ℕ) (tree : RawTree) (written : List Token) → Spells tree written → length written ≤ n → read n 0 written ≡ Some (tree, [])
reads_alone n tree written p l = ap (read n 0) (sym (append-nil written)) ∙ exact_at tree (reads tree) n written [] p l (stops_end 0)

pub one_for_its_tokens : TermsAreOne
one_for_its_tokens tokens one other p q =
    let same = some_same (one, []) (other, []) (sym (reads_alone (length tokens) one tokens p (omega arith)) ∙ reads_alone (length tokens) other tokens q (omega arith)) in
    ap (λ (r : RawTree × List Token). r.0) same
