-- The tokens of a printed formula are spelled by its tree.
use Rattle.std.proofs.Common.{◌≡◌, ℕ, suc, ◌+◌, ◌-◌, ◌≤◌, Bool, true, false, cond, not, List, [], ◌∷◌, ◌++◌, length, refl, ap, sym, ◌∙◌, arith, subst, append_assoc, append-nil, inl, inr}
use Rattle.std.specs.Prelude.{ℤ, pos, negsuc, Option, None, Some}
use Rattle.bk_val.specs.ValueType.{ValueType, int_type, bool_type, enum_type, pair_type, set_type}
use Rattle.bk_form.specs.Table.{Table}
use Rattle.bk_form.specs.Formula.{Formula, variable, bound, literal, truth_value, element, empty_set, named, btrue, bfalse, unary, binary, for_all, for_some, comprehension, lambda, Formulas, no_formulas, formula_and}
use Rattle.bk_form.specs.declared.operator.Domain.{Domain}
use Rattle.bk_form.specs.declared.operator.Domain.TheVariants.{Integer as WholeNumbers, Natural as NaturalNumbers, Natural1 as PositiveNumbers, Bool as Booleans, Enum}
use Rattle.bk_form.specs.declared.token.Token.{Token}
use Rattle.bk_form.specs.declared.token.TokenKind.{TokenKind}
use Rattle.bk_form.specs.declared.token.TokenKind.TheVariants.{Name, BoundName, Number, Sign, Word}
use Rattle.bk_ops.specs.declared.sign.TheConstants.{FOR_ALL, EXISTS, MEMBER, MINUS, TIMES, OPEN_PAREN, CLOSE_PAREN, OPEN_BRACKET, CLOSE_BRACKET, OPEN_BRACE, CLOSE_BRACE, INVERSE, SEMICOLON, COMMA, DOT, BAR, LAMBDA}
use Rattle.bk_ops.specs.declared.word.TheConstants.{BOOL, INTEGER, POW}
use Rattle.bk_raw.specs.declared.operator.InfixOp.{InfixOp}
use Rattle.bk_raw.specs.declared.operator.InfixOp.TheVariants.{Equivalent}
use Rattle.bk_raw.specs.declared.operator.Constant.{Constant}
use Rattle.bk_raw.specs.declared.operator.Constant.TheVariants.{Bool as BoolWord, Integer, Natural, Natural1, Btrue, Bfalse}
use Rattle.bk_raw.specs.Trees.Operators.{binding, infix_kind, word_kind, constant_kind}
use Rattle.bk_raw.specs.Grammar.Pieces.{Just, JustAt, JustSign, ◌⌢◌, InParentheses, Starting, Placed, Digits, NoDigits}
use Rattle.bk_raw.specs.Trees.RawTree.{raw, RawTreeNode, raw_constant, raw_bound_name, raw_number, raw_typed_empty}
use Rattle.bk_raw.specs.declared.term.RawBound.{RawBound}
use Rattle.bk_raw.specs.Grammar.Spelling.{Typed, TypedBound, TypedBounds, Listed, Sequenced, Bare, Ranges, Spells}
use Rattle.bk_show.specs.Items.{Item, kind_text, blank, lexeme, item_text, plain, sign}
use Rattle.bk_show.proofs.Tokens.{item_tokens, tokens_from, after}
use Rattle.bk_show.specs.Binders.{HasSomeRange, Binds, EachBinds}
use Rattle.bk_show.specs.Shown.{name_of_variable, name_of_set, name_of_element, behind_dollar, name_item, kind_by, enclosed, enclosed_if, type_items, UnaryForm, word_form, negative_form, inverse_form, single_form, unary_form, BinaryForm, infix_form, image_form, apply_form, composition_form, binary_form, is_infix_form, is_infix, is_bare, unary_items, Sides, binary_items, constant_item, truth_word, literal_items, domain_items, typed_items, bounds_items, quantified_items, range_items, items, ranges_items}
use Rattle.bk_show.proofs.Trees.{name_node, node_by, inside_at, written_type, unary_node, binary_node, domain_node, raw_bounds, quantified_at, shown_node, shown_ranges, shown_tree}
use Rattle.bk_form.specs.Replacement.{count}

-- ---- tokens one after another
pub tokens-append : (p : ℕ) (xs ys : List Item) → tokens_from p (xs ++ ys) ≡ tokens_from p xs ++ tokens_from (after p xs) ys
tokens-append p [] ys = refl
tokens-append p (x ∷ xs) ys = ap (λ ts. item_tokens p x ++ ts) (tokens-append (p + length (item_text x)) xs ys) ∙ sym (append_assoc (item_tokens p x) _ _)

-- a piece and another one behind it
join : (One Two : List Token → Type 0) (p : ℕ) (xs ys : List Item) → One (tokens_from p xs) → Two (tokens_from (after p xs) ys) → (One ⌢ Two) (tokens_from p (xs ++ ys))
join One Two p xs ys a b = (tokens_from p xs, tokens_from (after p xs) ys, tokens-append p xs ys, a, b)

-- a token and a piece behind it
lead : (kind : TokenKind) (text : List ℕ) (Two : List Token → Type 0) (p : ℕ) (ys : List Item) → Two (tokens_from (p + length text) ys) → (Just kind ⌢ Two) (tokens_from p (lexeme kind text ∷ ys))
lead kind text Two p ys b = (item_tokens p (lexeme kind text), tokens_from (p + length text) ys, refl, (record { kind = kind; start = p; end = p + length text }, refl, refl), b)

lead_at : (kind : TokenKind) (text : List ℕ) (Two : List Token → Type 0) (p : ℕ) (ys : List Item) → Two (tokens_from (p + length text) ys) → (JustAt p kind ⌢ Two) (tokens_from p (lexeme kind text ∷ ys))
lead_at kind text Two p ys b = (item_tokens p (lexeme kind text), tokens_from (p + length text) ys, refl, (record { kind = kind; start = p; end = p + length text }, refl, refl, refl), b)

last : (kind : TokenKind) (text : List ℕ) (p : ℕ) → Just kind (tokens_from p (lexeme kind text ∷ []))
last kind text p = (record { kind = kind; start = p; end = p + length text }, refl, refl)

in-parentheses : (Inside : List Token → Type 0) (p : ℕ) (xs : List Item) → Inside (tokens_from (p + 1) xs) → InParentheses Inside (tokens_from p (enclosed xs))
in-parentheses Inside p xs h = lead (Sign OPEN_PAREN) (40 ∷ []) (Inside ⌢ JustSign CLOSE_PAREN) p (xs ++ sign CLOSE_PAREN ∷ []) (join Inside (JustSign CLOSE_PAREN) (p + 1) xs (sign CLOSE_PAREN ∷ []) h (last (Sign CLOSE_PAREN) (41 ∷ []) (after (p + 1) xs)))

-- ---- where a list of tokens starts
abbrev Begins : ℕ → List Token → Type 0
Begins at tokens = (first : Token) × (rest : List Token) × (tokens ≡ first ∷ rest) × (first.start ≡ at)

begins-append : (at p : ℕ) (xs ys : List Item) → Begins at (tokens_from p xs) → Begins at (tokens_from p (xs ++ ys))
begins-append at p xs ys b = (b.0, b.1 ++ tokens_from (after p xs) ys, tokens-append p xs ys ∙ ap (λ ts. ts ++ tokens_from (after p xs) ys) b.2, b.3)

starting : (at : ℕ) (Piece : List Token → Type 0) (tokens : List Token) → Begins at tokens → Piece tokens → Starting at Piece tokens
starting at Piece tokens b h = (b.0, b.1, b.2, b.3, h)

-- ---- terms
-- however much of its strength is asked, up to a bound, the items from any byte on are written as the node
abbrev Written : (ℕ → RawTreeNode) → List Item → ℕ → Type 0
Written node xs cap = (p asked : ℕ) → asked ≤ cap → Starting p (Bare (node p) asked) (tokens_from p xs)

-- inside of brackets
filled : (node : ℕ → RawTreeNode) (xs : List Item) (cap : ℕ) → Written node xs cap → (p : ℕ) → Placed p 0 (Bare (node p)) (tokens_from p xs)
filled node xs cap h p = inl (h p 0 (omega arith))

-- in parentheses where the test holds
part : (node : ℕ → RawTreeNode) (xs : List Item) (cap most : ℕ) (b : Bool) → (b ≡ false → most ≤ cap) → Written node xs cap → (p asked : ℕ) → asked ≤ most → Placed (inside_at b p) asked (Bare (node (inside_at b p))) (tokens_from p (enclosed_if b xs))
part node xs cap most true e h p asked l = inr (0, in-parentheses (Starting (p + 1) (Bare (node (p + 1)) 0)) p xs (h (p + 1) 0 (omega arith)))
part node xs cap most false e h p asked l = inl (h p asked (let m = e refl in omega arith))

part-begins : (node : ℕ → RawTreeNode) (xs : List Item) (cap : ℕ) (b : Bool) → Written node xs cap → (p : ℕ) → Begins p (tokens_from p (enclosed_if b xs))
part-begins node xs cap true h p = (record { kind = Sign OPEN_PAREN; start = p; end = p + 1 }, tokens_from (p + 1) (xs ++ sign CLOSE_PAREN ∷ []), refl, refl)
part-begins node xs cap false h p = let s = h p 0 (omega arith) in (s.0, s.1, s.2, s.3)

no-digits : (p : ℕ) (xs : List Item) (n : ℕ) → Digits n (tokens_from p (enclosed xs)) → ⊥
no-digits p xs n d =
    let e : ◌≡◌ {A = List Token} (record { kind = Sign OPEN_PAREN; start = p; end = p + 1 } ∷ tokens_from (p + 1) (xs ++ sign CLOSE_PAREN ∷ [])) (d.0 ∷ []) = d.1 in
    let k : d.0.kind ≡ Number (pos n) = d.2 in
    absurd (cc)

strong : (o : InfixOp) → ((binding o).left ≤ 10) × ((binding o).right ≤ 10)
strong Equivalent = (omega arith, omega arith)
strong _ = (omega arith, omega arith)

unary-written : (form : UnaryForm) (bare : Bool) (node : ℕ → RawTreeNode) (xs : List Item) (cap : ℕ) → (not bare ≡ false → 11 ≤ cap) → Written node xs cap → Written (unary_node form bare (λ q. raw q (node q))) (unary_items form bare xs) 10
unary-written (word_form o) bare node xs cap e h p asked l =
    let kind = word_kind o in
    let text = kind_text kind in
    starting p (Bare (unary_node (word_form o) bare (λ q. raw q (node q)) p) asked) (tokens_from p (unary_items (word_form o) bare xs)) (record { kind = kind; start = p; end = p + length text }, tokens_from (p + length text) (enclosed xs), refl, refl)
    (lead kind text (InParentheses (Placed (p + length text + 1) 0 (Bare (node (p + length text + 1))))) p (enclosed xs) (in-parentheses (Placed (p + length text + 1) 0 (Bare (node (p + length text + 1)))) (p + length text) xs (filled node xs cap h (p + length text + 1))))
unary-written negative_form bare node xs cap e h p asked l =
    starting p (Bare (unary_node negative_form bare (λ q. raw q (node q)) p) asked) (tokens_from p (unary_items negative_form bare xs)) (record { kind = Sign MINUS; start = p; end = p + 1 }, tokens_from (p + 1) (enclosed xs), refl, refl)
    (l, lead (Sign MINUS) (45 ∷ []) (NoDigits (Placed (p + 1 + 1) 11 (Bare (node (p + 1 + 1))))) p (enclosed xs) (part node xs cap 11 true (λ f. absurd (cc)) h (p + 1) 11 (omega arith), no-digits (p + 1) xs))
unary-written inverse_form bare node xs cap e h p asked l =
    starting p (Bare (unary_node inverse_form bare (λ q. raw q (node q)) p) asked) (tokens_from p (unary_items inverse_form bare xs)) (begins-append p p (enclosed_if (not bare) xs) (sign INVERSE ∷ []) (part-begins node xs cap (not bare) h p))
    (join (Placed (inside_at (not bare) p) 11 (Bare (node (inside_at (not bare) p)))) (JustSign INVERSE) p (enclosed_if (not bare) xs) (sign INVERSE ∷ []) (part node xs cap 11 (not bare) e h p 11 (omega arith)) (last (Sign INVERSE) (126 ∷ []) (after p (enclosed_if (not bare) xs))))
unary-written single_form bare node xs cap e h p asked l =
    starting p (Bare (unary_node single_form bare (λ q. raw q (node q)) p) asked) (tokens_from p (unary_items single_form bare xs)) (record { kind = Sign OPEN_BRACE; start = p; end = p + 1 }, tokens_from (p + 1) (xs ++ sign CLOSE_BRACE ∷ []), refl, refl)
    (lead (Sign OPEN_BRACE) (123 ∷ []) (Placed (p + 1) 0 (Bare (node (p + 1))) ⌢ JustSign CLOSE_BRACE) p (xs ++ sign CLOSE_BRACE ∷ []) (join (Placed (p + 1) 0 (Bare (node (p + 1)))) (JustSign CLOSE_BRACE) (p + 1) xs (sign CLOSE_BRACE ∷ []) (filled node xs cap h (p + 1)) (last (Sign CLOSE_BRACE) (125 ∷ []) (after (p + 1) xs))))

abbrev Term : (ℕ → RawTreeNode) → ℕ → ℕ → List Token → Type 0
Term node p asked = Placed p asked (Bare (node p))

binary-written : (form : BinaryForm) (s : Sides) (one two : ℕ → RawTreeNode) (xs ys : List Item) (c d : ℕ) → (not s.bare ≡ false → 11 ≤ c) → (s.left ≡ false → 10 ≤ c) → (s.right ≡ false → 10 ≤ d) → Written one xs c → Written two ys d
    → Written (binary_node form s xs (λ q. raw q (one q)) (λ q. raw q (two q))) (binary_items form s xs ys) (cond (is_infix_form form) 0 10)
binary-written (infix_form o) s one two xs ys c d e f g h k p asked l =
    let left = enclosed_if s.left xs in
    let right = enclosed_if s.right ys in
    let text = kind_text (infix_kind o) in
    let here = after p left + 1 in
    let there = here + length text + 1 in
    starting p (Bare (binary_node (infix_form o) s xs (λ q. raw q (one q)) (λ q. raw q (two q)) p) asked) (tokens_from p (binary_items (infix_form o) s xs ys)) (begins-append p p left (blank ∷ plain (infix_kind o) ∷ blank ∷ right) (part-begins one xs c s.left h p)) (
      omega arith,
      join (Term one (inside_at s.left p) (binding o).left) (Just (infix_kind o) ⌢ Term two (inside_at s.right there) (binding o).right) p left (blank ∷ plain (infix_kind o) ∷ blank ∷ right)
          (part one xs c 10 s.left f h p (binding o).left (strong o).0)
          (lead (infix_kind o) text (Term two (inside_at s.right there) (binding o).right) here (blank ∷ right) (part two ys d 10 s.right g k there (binding o).right (strong o).1)),
    )
binary-written image_form s one two xs ys c d e f g h k p asked l =
    let left = enclosed_if (not s.bare) xs in
    let here = after p left in
    starting p (Bare (binary_node image_form s xs (λ q. raw q (one q)) (λ q. raw q (two q)) p) asked) (tokens_from p (binary_items image_form s xs ys)) (begins-append p p left (sign OPEN_BRACKET ∷ (ys ++ sign CLOSE_BRACKET ∷ [])) (part-begins one xs c (not s.bare) h p))
    (join (Term one (inside_at (not s.bare) p) 11) (JustSign OPEN_BRACKET ⌢ Term two (here + 1) 0 ⌢ JustSign CLOSE_BRACKET) p left (sign OPEN_BRACKET ∷ (ys ++ sign CLOSE_BRACKET ∷ []))
    (part one xs c 11 (not s.bare) e h p 11 (omega arith))
    (lead (Sign OPEN_BRACKET) (91 ∷ []) (Term two (here + 1) 0 ⌢ JustSign CLOSE_BRACKET) here (ys ++ sign CLOSE_BRACKET ∷ []) (join (Term two (here + 1) 0) (JustSign CLOSE_BRACKET) (here + 1) ys (sign CLOSE_BRACKET ∷ []) (filled two ys d k (here + 1)) (last (Sign CLOSE_BRACKET) (93 ∷ []) (after (here + 1) ys)))))
binary-written apply_form s one two xs ys c d e f g h k p asked l =
    let left = enclosed_if (not s.bare) xs in
    let here = after p left in
    starting p (Bare (binary_node apply_form s xs (λ q. raw q (one q)) (λ q. raw q (two q)) p) asked) (tokens_from p (binary_items apply_form s xs ys)) (begins-append p p left (enclosed ys) (part-begins one xs c (not s.bare) h p))
    (join (Term one (inside_at (not s.bare) p) 11) (InParentheses (Listed (raw (here + 1) (two (here + 1))))) p left (enclosed ys)
    (part one xs c 11 (not s.bare) e h p 11 (omega arith))
    (in-parentheses (Listed (raw (here + 1) (two (here + 1)))) here ys (inl (filled two ys d k (here + 1)))))
binary-written composition_form s one two xs ys c d e f g h k p asked l =
    let left = enclosed_if s.left xs in
    let right = enclosed_if s.right ys in
    let here = after (p + 1) left + 1 in
    let there = here + 1 + 1 in
    starting p (Bare (binary_node composition_form s xs (λ q. raw q (one q)) (λ q. raw q (two q)) p) asked) (tokens_from p (binary_items composition_form s xs ys)) (record { kind = Sign OPEN_PAREN; start = p; end = p + 1 }, tokens_from (p + 1) ((left ++ blank ∷ sign SEMICOLON ∷ blank ∷ right) ++ sign CLOSE_PAREN ∷ []), refl, refl)
    (lead (Sign OPEN_PAREN) (40 ∷ []) ((Sequenced (raw (inside_at s.left (p + 1)) (one (inside_at s.left (p + 1)))) ⌢ JustSign SEMICOLON ⌢ Term two (inside_at s.right there) 0) ⌢ JustSign CLOSE_PAREN) p ((left ++ blank ∷ sign SEMICOLON ∷ blank ∷ right) ++ sign CLOSE_PAREN ∷ [])
    (join (Sequenced (raw (inside_at s.left (p + 1)) (one (inside_at s.left (p + 1)))) ⌢ JustSign SEMICOLON ⌢ Term two (inside_at s.right there) 0) (JustSign CLOSE_PAREN) (p + 1) (left ++ blank ∷ sign SEMICOLON ∷ blank ∷ right) (sign CLOSE_PAREN ∷ [])
    (join (Sequenced (raw (inside_at s.left (p + 1)) (one (inside_at s.left (p + 1))))) (JustSign SEMICOLON ⌢ Term two (inside_at s.right there) 0) (p + 1) left (blank ∷ sign SEMICOLON ∷ blank ∷ right)
    (inl (part one xs c 10 s.left f h (p + 1) 0 (omega arith)))
    (lead (Sign SEMICOLON) (59 ∷ []) (Term two (inside_at s.right there) 0) here (blank ∷ right) (part two ys d 10 s.right g k there 0 (omega arith))))
    (last (Sign CLOSE_PAREN) (41 ∷ []) (after (p + 1) (left ++ blank ∷ sign SEMICOLON ∷ blank ∷ right)))))

-- ---- types and bound variables
module _ (table : Table) where
  type-written : (t : ValueType) (p : ℕ) → Typed (written_type table t) (tokens_from p (type_items table t))
  type-written int_type p = last (Word INTEGER) (kind_text (Word INTEGER)) p
  type-written bool_type p = last (Word BOOL) (kind_text (Word BOOL)) p
  type-written (enum_type n) p = last (Name (name_of_set table n)) (name_of_set table n) p
  type-written (pair_type t u) p =
      let xs = type_items table t in
      let ys = type_items table u in
      let One = Typed (written_type table t) in
      let Two = Typed (written_type table u) in
      let here = after (p + 1) xs + 1 in
      in-parentheses (One ⌢ JustSign TIMES ⌢ Two) p (xs ++ blank ∷ sign TIMES ∷ blank ∷ ys) (join One (JustSign TIMES ⌢ Two) (p + 1) xs (blank ∷ sign TIMES ∷ blank ∷ ys) (type-written t (p + 1)) (lead (Sign TIMES) (42 ∷ []) Two here (blank ∷ ys) (type-written u (here + 1 + 1))))
  type-written (set_type t) p = lead (Word POW) (kind_text (Word POW)) (InParentheses (Typed (written_type table t))) p (enclosed (type_items table t)) (in-parentheses (Typed (written_type table t)) (p + 3) (type_items table t) (type-written t (p + 3 + 1)))

  abbrev raw_bound : ℕ → ℕ → ValueType → RawBound
  raw_bound p k t = record { at = p; number = k; ty = written_type table t }

  bound-written : (p k : ℕ) (t : ValueType) → TypedBound (raw_bound p k t) (tokens_from p (typed_items table k t))
  bound-written p k t =
      let text = kind_text (BoundName k) in
      lead_at (BoundName k) text (JustSign MEMBER ⌢ Typed (written_type table t)) p (sign MEMBER ∷ type_items table t) (lead (Sign MEMBER) (58 ∷ []) (Typed (written_type table t)) (p + length text) (type_items table t) (type-written t (p + length text + 1)))

  bounds-written : (t : ValueType) (ts : List ValueType) (p k : ℕ) → TypedBounds (raw_bounds table p k (t ∷ ts)) (tokens_from p (bounds_items table k (t ∷ ts)))
  bounds-written t [] p k = subst (λ xs. TypedBound (raw_bound p k t) (tokens_from p xs)) (sym (append-nil (typed_items table k t))) (bound-written p k t)
  bounds-written t (u ∷ us) p k =
      let xs = typed_items table k t in
      let here = after p xs in
      join (TypedBound (raw_bound p k t)) (JustSign COMMA ⌢ TypedBounds (raw_bounds table (here + 1) (suc k) (u ∷ us))) p xs (sign COMMA ∷ bounds_items table (suc k) (u ∷ us)) (bound-written p k t) (lead (Sign COMMA) (44 ∷ []) (TypedBounds (raw_bounds table (here + 1) (suc k) (u ∷ us))) here (bounds_items table (suc k) (u ∷ us)) (bounds-written u us (here + 1) (suc k)))

  -- ---- leaves
  one-token : (node : RawTreeNode) (kind : TokenKind) (text : List ℕ) (p asked : ℕ) → Bare node asked (tokens_from p (lexeme kind text ∷ [])) → Starting p (Bare node asked) (tokens_from p (lexeme kind text ∷ []))
  one-token node kind text p asked h = starting p (Bare node asked) (tokens_from p (lexeme kind text ∷ [])) (record { kind = kind; start = p; end = p + length text }, [], refl, refl) h

  name-by : (text : List ℕ) (o : Option (List ℕ)) (p asked : ℕ) → Starting p (Bare (node_by text o) asked) (tokens_from p (lexeme (kind_by text o) text ∷ []))
  name-by text None p asked = one-token (node_by text None) (kind_by text None) text p asked (last (kind_by text None) text p)
  name-by text (Some ds) p asked = one-token (node_by text (Some ds)) (kind_by text (Some ds)) text p asked (last (kind_by text (Some ds)) text p)

  name-written : (text : List ℕ) (p asked : ℕ) → Starting p (Bare (name_node text) asked) (tokens_from p (name_item text ∷ []))
  name-written text p asked = name-by text (behind_dollar text) p asked

  constant-written : (c : Constant) (p asked : ℕ) → Starting p (Bare (raw_constant c) asked) (tokens_from p (constant_item c))
  constant-written c p asked = one-token (raw_constant c) (constant_kind c) (kind_text (constant_kind c)) p asked (last (constant_kind c) (kind_text (constant_kind c)) p)

  literal-written : (z : ℤ) (p asked : ℕ) → asked ≤ 10 → Starting p (Bare (raw_number z) asked) (tokens_from p (literal_items z))
  literal-written (pos n) p asked l = one-token (raw_number (pos n)) (Number (pos n)) (kind_text (Number (pos n))) p asked (inl (n, refl, last (Number (pos n)) (kind_text (Number (pos n))) p))
  literal-written (negsuc n) p asked l =
      starting p (Bare (raw_number (negsuc n)) asked) (tokens_from p (literal_items (negsuc n))) (record { kind = Sign MINUS; start = p; end = p + 1 }, tokens_from (p + 1) (plain (Number (pos (suc n))) ∷ []), refl, refl)
      (inr (suc n, refl, (l, lead (Sign MINUS) (45 ∷ []) (Digits (suc n)) p (plain (Number (pos (suc n))) ∷ []) (last (Number (pos (suc n))) (kind_text (Number (pos (suc n)))) (p + 1)))))

  domain-written : (d : Domain) (p asked : ℕ) → Starting p (Bare (domain_node table d) asked) (tokens_from p (domain_items table d))
  domain-written WholeNumbers p asked = constant-written Integer p asked
  domain-written NaturalNumbers p asked = constant-written Natural p asked
  domain-written PositiveNumbers p asked = constant-written Natural1 p asked
  domain-written Booleans p asked = constant-written BoolWord p asked
  domain-written (Enum n) p asked = name-written (name_of_set table n) p asked

  empty-written : (t : ValueType) (p asked : ℕ) → Starting p (Bare (raw_typed_empty (written_type table t)) asked) (tokens_from p (sign OPEN_BRACE ∷ sign MEMBER ∷ (type_items table t ++ sign CLOSE_BRACE ∷ [])))
  empty-written t p asked =
      let xs = sign MEMBER ∷ type_items table t in
      starting p (Bare (raw_typed_empty (written_type table t)) asked) (tokens_from p (sign OPEN_BRACE ∷ (xs ++ sign CLOSE_BRACE ∷ []))) (record { kind = Sign OPEN_BRACE; start = p; end = p + 1 }, tokens_from (p + 1) (xs ++ sign CLOSE_BRACE ∷ []), refl, refl)
      (lead (Sign OPEN_BRACE) (123 ∷ []) ((JustSign MEMBER ⌢ Typed (written_type table t)) ⌢ JustSign CLOSE_BRACE) p (xs ++ sign CLOSE_BRACE ∷ []) (join (JustSign MEMBER ⌢ Typed (written_type table t)) (JustSign CLOSE_BRACE) (p + 1) xs (sign CLOSE_BRACE ∷ []) (lead (Sign MEMBER) (58 ∷ []) (Typed (written_type table t)) (p + 1) (type_items table t) (type-written t (p + 1 + 1))) (last (Sign CLOSE_BRACE) (125 ∷ []) (after (p + 1) xs))))

  -- ---- binders
  quantified-written : (op : ℕ) (d : ℕ) (t : ValueType) (ts : List ValueType) (node : ℕ → RawTreeNode) (xs : List Item) (c : ℕ) → Written node xs c → (p : ℕ) →
      (JustSign op ⌢ InParentheses (TypedBounds (raw_bounds table (after p (sign op ∷ sign OPEN_PAREN ∷ [])) (suc d) (t ∷ ts))) ⌢ JustSign DOT ⌢ InParentheses (Term node (quantified_at table op d (t ∷ ts) p) 0)) (tokens_from p (quantified_items table op d (t ∷ ts) xs))
  quantified-written op d t ts node xs c h p =
      let text = kind_text (Sign op) in
      let bs = bounds_items table (suc d) (t ∷ ts) in
      let Body = Term node (quantified_at table op d (t ∷ ts) p) 0 in
      let Bounds = TypedBounds (raw_bounds table (after p (sign op ∷ sign OPEN_PAREN ∷ [])) (suc d) (t ∷ ts)) in
      let here = after (p + length text) (enclosed bs) in
      lead (Sign op) text (InParentheses Bounds ⌢ JustSign DOT ⌢ InParentheses Body) p (enclosed bs ++ sign DOT ∷ enclosed xs)
      (join (InParentheses Bounds) (JustSign DOT ⌢ InParentheses Body) (p + length text) (enclosed bs) (sign DOT ∷ enclosed xs)
      (in-parentheses Bounds (p + length text) bs (bounds-written t ts (p + length text + 1) (suc d)))
      (lead (Sign DOT) (46 ∷ []) (InParentheses Body) here (enclosed xs) (in-parentheses Body (here + 1) xs (filled node xs c h (here + 1 + 1)))))

-- ---- formulas
-- how much of its strength may be asked of a formula that stands without parentheses
abbrev cap : Formula → ℕ
cap (variable n) = 11
cap (bound i) = 11
cap (binary o a b) = cond (is_infix_form (binary_form o)) 0 10
cap _ = 10

infix-cap : (b : Bool) → b ≡ false → 10 ≤ cond b 0 10
infix-cap true e = absurd (cc)
infix-cap false e = omega arith

part-cap : (f : Formula) → is_infix f ≡ false → 10 ≤ cap f
part-cap (variable n) e = omega arith
part-cap (bound i) e = omega arith
part-cap (binary o a b) e = infix-cap (is_infix_form (binary_form o)) e
part-cap _ e = omega arith

bare-cap : (f : Formula) → not (is_bare f) ≡ false → 11 ≤ cap f
bare-cap (variable n) e = omega arith
bare-cap (bound i) e = omega arith
bare-cap _ e = absurd (cc)

-- the same for the whole of what is asked there
abbrev Whole : Table → Formula → ℕ → Type 0
Whole table f d = Written (λ p. shown_node table d p f) (items table d f) (cap f)

module _ (table : Table) where
  -- a formula as a part of another: it stands in parentheses where it is an operator between two sides
  formula-part : (f : Formula) (d : ℕ) → Whole table f d → (p asked : ℕ) → asked ≤ 10 → Placed (inside_at (is_infix f) p) asked (Bare (shown_node table d (inside_at (is_infix f) p) f)) (tokens_from p (enclosed_if (is_infix f) (items table d f)))
  formula-part f d h p asked l = part (λ q. shown_node table d q f) (items table d f) (cap f) 10 (is_infix f) (part-cap f) h p asked l

  abbrev One : ℕ → ℕ → ℕ → Formula → List Token → Type 0
  One d p k f = JustAt p (BoundName k) ⌢ JustSign MEMBER ⌢ Placed (inside_at (is_infix f) (after p (plain (BoundName k) ∷ sign MEMBER ∷ []))) 4 (Bare (shown_node table d (inside_at (is_infix f) (after p (plain (BoundName k) ∷ sign MEMBER ∷ []))) f))

  range-written : (f : Formula) (d : ℕ) → Whole table f d → (p k : ℕ) → One d p k f (tokens_from p (range_items k (is_infix f) (items table d f)))
  range-written f d h p k =
      let text = kind_text (BoundName k) in
      let xs = enclosed_if (is_infix f) (items table d f) in
      let there = p + length text + 1 in
      let Set = Placed (inside_at (is_infix f) there) 4 (Bare (shown_node table d (inside_at (is_infix f) there) f)) in
      lead_at (BoundName k) text (JustSign MEMBER ⌢ Set) p (sign MEMBER ∷ xs) (lead (Sign MEMBER) (58 ∷ []) Set (p + length text) xs (formula-part f d h there 4 (omega arith)))

  ranges-written : (f : Formula) (fs : Formulas) (d : ℕ) → Whole table f d → (HasSomeRange fs → (p k : ℕ) → Ranges (shown_ranges table d p k fs) (tokens_from p (ranges_items table d k fs))) → (p k : ℕ) → Ranges (shown_ranges table d p k (formula_and f fs)) (tokens_from p (ranges_items table d k (formula_and f fs)))
  ranges-written f no_formulas d h more p k =
      subst (λ xs. One d p k f (tokens_from p xs)) (sym (append-nil (range_items k (is_infix f) (items table d f)))) (range-written f d h p k)
  ranges-written f (formula_and g gs) d h more p k =
      let xs = range_items k (is_infix f) (items table d f) in
      let ys = ranges_items table d (suc k) (formula_and g gs) in
      let here = after p xs in
      let More = Ranges (shown_ranges table d (here + 1) (suc k) (formula_and g gs)) in
      join (One d p k f) (JustSign COMMA ⌢ More) p xs (sign COMMA ∷ ys) (range-written f d h p k) (lead (Sign COMMA) (44 ∷ []) More here ys (more tt (here + 1) (suc k)))

  mutual
    pub spelled : (f : Formula) → Binds f → (d : ℕ) → Whole table f d
    spelled (variable n) h d p asked l = name-written table (name_of_variable table n) p asked
    spelled (bound i) h d p asked l = one-token table (raw_bound_name (d - i)) (BoundName (d - i)) (kind_text (BoundName (d - i))) p asked (last (BoundName (d - i)) (kind_text (BoundName (d - i))) p)
    spelled (literal z) h d p asked l = literal-written table z p asked l
    spelled (truth_value b) h d p asked l = constant-written table (truth_word b) p asked
    spelled (element s i) h d p asked l = name-written table (name_of_element table s i) p asked
    spelled (empty_set t) h d p asked l = empty-written table t p asked
    spelled (named n) h d p asked l = domain-written table n p asked
    spelled btrue h d p asked l = constant-written table Btrue p asked
    spelled bfalse h d p asked l = constant-written table Bfalse p asked
    spelled (unary o a) h d p asked l = unary-written (unary_form o) (is_bare a) (λ q. shown_node table d q a) (items table d a) (cap a) (bare-cap a) (spelled a h d) p asked l
    spelled (binary o a b) h d p asked l = binary-written (binary_form o) (record { bare = is_bare a; left = is_infix a; right = is_infix b }) (λ q. shown_node table d q a) (λ q. shown_node table d q b) (items table d a) (items table d b) (cap a) (cap b) (bare-cap a) (part-cap a) (part-cap b) (spelled a h.0 d) (spelled b h.1 d) p asked l
    spelled (for_all [] f) h d p asked l = elim (h.0) [ ]
    spelled (for_all (t ∷ ts) f) h d p asked l =
        let xs = items table (d + length (t ∷ ts)) f in
        starting p (Bare (shown_node table d p (for_all (t ∷ ts) f)) asked) (tokens_from p (quantified_items table FOR_ALL d (t ∷ ts) xs)) (record { kind = Sign FOR_ALL; start = p; end = p + 1 }, tokens_from (p + 1) (enclosed (bounds_items table (suc d) (t ∷ ts)) ++ sign DOT ∷ enclosed xs), refl, refl)
        (quantified-written table FOR_ALL d t ts (λ q. shown_node table (d + length (t ∷ ts)) q f) xs (cap f) (spelled f h.1 (d + length (t ∷ ts))) p)
    spelled (for_some [] f) h d p asked l = elim (h.0) [ ]
    spelled (for_some (t ∷ ts) f) h d p asked l =
        let xs = items table (d + length (t ∷ ts)) f in
        starting p (Bare (shown_node table d p (for_some (t ∷ ts) f)) asked) (tokens_from p (quantified_items table EXISTS d (t ∷ ts) xs)) (record { kind = Sign EXISTS; start = p; end = p + 1 }, tokens_from (p + 1) (enclosed (bounds_items table (suc d) (t ∷ ts)) ++ sign DOT ∷ enclosed xs), refl, refl)
        (quantified-written table EXISTS d t ts (λ q. shown_node table (d + length (t ∷ ts)) q f) xs (cap f) (spelled f h.1 (d + length (t ∷ ts))) p)
    spelled (comprehension no_formulas f) h d p asked l = elim (h.0) [ ]
    spelled (comprehension (formula_and r rs) f) h d p asked l =
        let n = d + count (formula_and r rs) in
        let ranges = ranges_items table d (suc d) (formula_and r rs) in
        let xs = items table n f in
        let body = enclosed_if (is_infix f) xs in
        let inner = ranges ++ blank ∷ sign BAR ∷ blank ∷ body in
        let here = after (p + 1) ranges + 1 in
        let there = here + 1 + 1 in
        let Over = Ranges (shown_ranges table d (p + 1) (suc d) (formula_and r rs)) in
        let Body = Placed (inside_at (is_infix f) there) 0 (Bare (shown_node table n (inside_at (is_infix f) there) f)) in
        starting p (Bare (shown_node table d p (comprehension (formula_and r rs) f)) asked) (tokens_from p (sign OPEN_BRACE ∷ (inner ++ sign CLOSE_BRACE ∷ []))) (record { kind = Sign OPEN_BRACE; start = p; end = p + 1 }, tokens_from (p + 1) (inner ++ sign CLOSE_BRACE ∷ []), refl, refl)
        (lead (Sign OPEN_BRACE) (123 ∷ []) ((Over ⌢ JustSign BAR ⌢ Body) ⌢ JustSign CLOSE_BRACE) p (inner ++ sign CLOSE_BRACE ∷ [])
        (join (Over ⌢ JustSign BAR ⌢ Body) (JustSign CLOSE_BRACE) (p + 1) inner (sign CLOSE_BRACE ∷ [])
        (join Over (JustSign BAR ⌢ Body) (p + 1) ranges (blank ∷ sign BAR ∷ blank ∷ body)
        (ranges-spelled (formula_and r rs) h.0 h.1 d (p + 1) (suc d))
        (lead (Sign BAR) (124 ∷ []) Body here (blank ∷ body) (formula-part f n (spelled f h.2 n) there 0 (omega arith))))
        (last (Sign CLOSE_BRACE) (125 ∷ []) (after (p + 1) inner))))
    spelled (lambda no_formulas f e) h d p asked l = elim (h.0) [ ]
    spelled (lambda (formula_and r rs) f e) h d p asked l =
        let n = d + count (formula_and r rs) in
        let ranges = ranges_items table d (suc d) (formula_and r rs) in
        let body = enclosed_if (is_infix f) (items table n f) in
        let value = enclosed_if (is_infix e) (items table n e) in
        let inner = body ++ blank ∷ sign BAR ∷ blank ∷ value in
        let dot = after (p + 1) (enclosed ranges) in
        let first = dot + 1 + 1 in
        let here = after first body + 1 in
        let there = here + 1 + 1 in
        let Over = Ranges (shown_ranges table d (p + 1 + 1) (suc d) (formula_and r rs)) in
        let Body = Placed (inside_at (is_infix f) first) 0 (Bare (shown_node table n (inside_at (is_infix f) first) f)) in
        let Value = Placed (inside_at (is_infix e) there) 0 (Bare (shown_node table n (inside_at (is_infix e) there) e)) in
        starting p (Bare (shown_node table d p (lambda (formula_and r rs) f e)) asked) (tokens_from p (sign LAMBDA ∷ (enclosed ranges ++ sign DOT ∷ enclosed inner))) (record { kind = Sign LAMBDA; start = p; end = p + 1 }, tokens_from (p + 1) (enclosed ranges ++ sign DOT ∷ enclosed inner), refl, refl)
        (lead (Sign LAMBDA) (37 ∷ []) (InParentheses Over ⌢ JustSign DOT ⌢ InParentheses (Body ⌢ JustSign BAR ⌢ Value)) p (enclosed ranges ++ sign DOT ∷ enclosed inner)
        (join (InParentheses Over) (JustSign DOT ⌢ InParentheses (Body ⌢ JustSign BAR ⌢ Value)) (p + 1) (enclosed ranges) (sign DOT ∷ enclosed inner)
        (in-parentheses Over (p + 1) ranges (ranges-spelled (formula_and r rs) h.0 h.1 d (p + 1 + 1) (suc d)))
        (lead (Sign DOT) (46 ∷ []) (InParentheses (Body ⌢ JustSign BAR ⌢ Value)) dot (enclosed inner)
        (in-parentheses (Body ⌢ JustSign BAR ⌢ Value) (dot + 1) inner
        (join Body (JustSign BAR ⌢ Value) first body (blank ∷ sign BAR ∷ blank ∷ value) (formula-part f n (spelled f h.2 n) first 0 (omega arith))
        (lead (Sign BAR) (124 ∷ []) Value here (blank ∷ value) (formula-part e n (spelled e h.3 n) there 0 (omega arith))))))))

    ranges-spelled : (fs : Formulas) → HasSomeRange fs → EachBinds fs → (d p k : ℕ) → Ranges (shown_ranges table d p k fs) (tokens_from p (ranges_items table d k fs))
    ranges-spelled no_formulas r h d p k = elim r [ ]
    ranges-spelled (formula_and f fs) r h d p k = ranges-written f fs d (spelled f h.0 d) (λ s q m. ranges-spelled fs s h.1 d q m) p k

  -- the tokens of a printed formula, which begins at byte p, are spelled by its tree
  pub formula-spelled : (f : Formula) → Binds f → (d p : ℕ) → Spells (shown_tree table d p f) (tokens_from p (items table d f))
  formula-spelled f h d p = inl (spelled f h d p 0 (omega arith))
