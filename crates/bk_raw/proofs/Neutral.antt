-- A term's tokens close what they open, and have no bar outside of that: a scan for a bar goes on behind them as before them.
use Rattle.std.specs.Prelude.{◌≡◌, ℕ, zero, suc, ℤ, pos, Bool, false, cond, not, ◌&&◌, ◌||◌, List, [], ◌∷◌, ◌++◌, refl}
use Rattle.std.proofs.Common.{◌∙◌, ap, inl, inr}
use Rattle.std.proofs.lemmas.List.{append_assoc}
use Rattle.bk_form.specs.declared.token.Token.{Token}
use Rattle.bk_form.specs.declared.token.TokenKind.{TokenKind}
use Rattle.bk_form.specs.declared.token.TokenKind.TheVariants.{Name, LevelName, BoundName, Number, Sign, Word}
use Rattle.bk_ops.specs.declared.sign.TheConstants.{OPEN_PAREN, CLOSE_PAREN, OPEN_BRACKET, CLOSE_BRACKET, OPEN_BRACE, CLOSE_BRACE, BAR}
use Rattle.bk_ops.specs.declared.sign.TheConstants.{FOR_ALL, EXISTS, MEMBER, MINUS, TIMES, INVERSE, SEMICOLON, COMMA, DOT, LAMBDA}
use Rattle.bk_ops.specs.declared.word.TheConstants.{BOOL, INTEGER, POW}
use Rattle.bk_raw.specs.Grammar.Pieces.{Never, Just, JustAt, JustSign, ◌⌢◌, InParentheses, InBrackets, InBraces, WithParentheses, Starting, Binding, Placed, Digits, Literal, NoDigits}
use Rattle.bk_raw.specs.Trees.Operators.{infix_kind, word_kind, constant_kind, binding}
use Rattle.bk_raw.specs.Trees.WrittenType.{WrittenType, written_integer, written_bool, written_set, written_power, written_product}
use Rattle.bk_raw.specs.declared.operator.InfixOp.{InfixOp}
use Rattle.bk_raw.specs.declared.operator.InfixOp.TheVariants.{And}
use Rattle.bk_raw.specs.declared.operator.WordOp.{WordOp}
use Rattle.bk_raw.specs.declared.operator.WordOp.TheVariants.{Not}
use Rattle.bk_raw.specs.declared.operator.Constant.{Constant}
use Rattle.bk_raw.specs.declared.operator.Constant.TheVariants.{Btrue}
use Rattle.bk_raw.specs.declared.term.RawName.{RawName}
use Rattle.bk_raw.specs.declared.term.RawBound.{RawBound}
use Rattle.bk_raw.specs.Trees.RawTree.{RawTree, raw, RawTreeNode, raw_name, raw_level_name, raw_bound_name, raw_number, raw_constant, raw_word, raw_negative, raw_infix, raw_inverse, raw_image, raw_apply, raw_composition, raw_pair, raw_empty_set, raw_extension, raw_comprehension, raw_lambda, raw_for_all, raw_exists, raw_typed_empty, raw_typed_for_all, raw_typed_exists, raw_ranged_comprehension, raw_ranged_lambda, RawTrees, no_trees, tree_and, RawRanges, no_ranges, range_and}
use Rattle.bk_raw.specs.Grammar.Spelling.{Declared, Names, Alone, Binder, Typed, TypedBound, TypedBounds, Term, Listed, Sequenced, Bare, Commas, Semicolons, Terms, Ranges}
use Rattle.bk_raw.specs.Grammar.Brackets.{opens_bracket, closes_bracket, one_less}
use Rattle.bk_raw.specs.Grammar.Bars.{bar_follows, is_bar, is_outside}

-- a scan passes over the piece, at any depth
abbrev pub Neutral : (List Token → Type 0) → Type 0
Neutral Piece = (n : ℕ) (tokens rest : List Token) → Piece tokens → bar_follows n (tokens ++ rest) ≡ bar_follows n rest

-- a scan passes over the piece inside of further brackets
abbrev pub Inner : (List Token → Type 0) → Type 0
Inner Piece = (n : ℕ) (tokens rest : List Token) → Piece tokens → bar_follows (suc n) (tokens ++ rest) ≡ bar_follows (suc n) rest

-- a token that is no bracket and no bar
abbrev pub IsPlain : TokenKind → Type 0
IsPlain kind = (opens_bracket kind ≡ false) × (closes_bracket kind ≡ false) × (is_bar kind ≡ false)

pub inner_of : (Piece : List Token → Type 0) → Neutral Piece → Inner Piece
inner_of Piece h n = h (suc n)

pub neutral_joined : (First Second : List Token → Type 0) → Neutral First → Neutral Second → Neutral (First ⌢ Second)
neutral_joined First Second f s n tokens rest p = ap (λ ts. bar_follows n (ts ++ rest)) p.2 ∙ ap (bar_follows n) (append_assoc p.0 p.1 rest) ∙ f n p.0 (p.1 ++ rest) p.3 ∙ s n p.1 rest p.4

pub inner_joined : (First Second : List Token → Type 0) → Inner First → Inner Second → Inner (First ⌢ Second)
inner_joined First Second f s n tokens rest p = ap (λ ts. bar_follows (suc n) (ts ++ rest)) p.2 ∙ ap (bar_follows (suc n)) (append_assoc p.0 p.1 rest) ∙ f n p.0 (p.1 ++ rest) p.3 ∙ s n p.1 rest p.4

-- the scan at a token of this kind
abbrev scan : TokenKind → ℕ → List Token → Bool
scan kind n rest = (is_bar kind && is_outside n) || (not (closes_bracket kind && is_outside n) && bar_follows (cond (opens_bracket kind) (suc n) (cond (closes_bracket kind) (one_less n) n)) rest)

scan_just : (kind : TokenKind) (n : ℕ) (tokens rest : List Token) → Just kind tokens → bar_follows n (tokens ++ rest) ≡ scan kind n rest
scan_just kind n tokens rest p = ap (λ ts. bar_follows n (ts ++ rest)) p.1 ∙ (λ i. scan (p.2 i) n rest)

pub neutral_just : (kind : TokenKind) → IsPlain kind → Neutral (Just kind)
neutral_just kind plain n tokens rest p = scan_just kind n tokens rest p ∙ (λ i. (plain.2 i && is_outside n) || (not (plain.1 i && is_outside n) && bar_follows (cond (plain.0 i) (suc n) (cond (plain.1 i) (one_less n) n)) rest))

pub inner_bar : Inner (JustSign BAR)
inner_bar n tokens rest p = scan_just (Sign BAR) (suc n) tokens rest p

pub neutral_parentheses : (Piece : List Token → Type 0) → Inner Piece → Neutral (InParentheses Piece)
neutral_parentheses Piece h n tokens rest p =
    ap (λ ts. bar_follows n (ts ++ rest)) p.2 ∙ ap (bar_follows n) (append_assoc p.0 p.1 rest) ∙ scan_just (Sign OPEN_PAREN) n p.0 (p.1 ++ rest) p.3 ∙
    ap (λ ts. bar_follows (suc n) (ts ++ rest)) p.4.2 ∙ ap (bar_follows (suc n)) (append_assoc p.4.0 p.4.1 rest) ∙ h n p.4.0 (p.4.1 ++ rest) p.4.3 ∙
    scan_just (Sign CLOSE_PAREN) (suc n) p.4.1 rest p.4.4

pub neutral_brackets : (Piece : List Token → Type 0) → Inner Piece → Neutral (InBrackets Piece)
neutral_brackets Piece h n tokens rest p =
    ap (λ ts. bar_follows n (ts ++ rest)) p.2 ∙ ap (bar_follows n) (append_assoc p.0 p.1 rest) ∙ scan_just (Sign OPEN_BRACKET) n p.0 (p.1 ++ rest) p.3 ∙
    ap (λ ts. bar_follows (suc n) (ts ++ rest)) p.4.2 ∙ ap (bar_follows (suc n)) (append_assoc p.4.0 p.4.1 rest) ∙ h n p.4.0 (p.4.1 ++ rest) p.4.3 ∙
    scan_just (Sign CLOSE_BRACKET) (suc n) p.4.1 rest p.4.4

pub neutral_braces : (Piece : List Token → Type 0) → Inner Piece → Neutral (InBraces Piece)
neutral_braces Piece h n tokens rest p =
    ap (λ ts. bar_follows n (ts ++ rest)) p.2 ∙ ap (bar_follows n) (append_assoc p.0 p.1 rest) ∙ scan_just (Sign OPEN_BRACE) n p.0 (p.1 ++ rest) p.3 ∙
    ap (λ ts. bar_follows (suc n) (ts ++ rest)) p.4.2 ∙ ap (bar_follows (suc n)) (append_assoc p.4.0 p.4.1 rest) ∙ h n p.4.0 (p.4.1 ++ rest) p.4.3 ∙
    scan_just (Sign CLOSE_BRACE) (suc n) p.4.1 rest p.4.4

-- ---- names and types
abbrev comma : Neutral (JustSign COMMA)
comma = neutral_just (Sign COMMA) (refl, refl, refl)

neutral_at : (at : ℕ) (kind : TokenKind) → IsPlain kind → Neutral (JustAt at kind)
neutral_at at kind plain n tokens rest p = neutral_just kind plain n tokens rest (p.0, p.1, p.2)

neutral_never : Neutral Never
neutral_never n tokens rest p = elim p [ ]

pub neutral_names : (xs : List RawName) → Neutral (Names xs)
neutral_names [] = neutral_never
neutral_names (x ∷ []) = neutral_at x.at (Name x.text) (refl, refl, refl)
neutral_names (x ∷ y ∷ ys) = neutral_joined (Declared x) (JustSign COMMA ⌢ Names (y ∷ ys)) (neutral_at x.at (Name x.text) (refl, refl, refl)) (neutral_joined (JustSign COMMA) (Names (y ∷ ys)) comma (neutral_names (y ∷ ys)))

neutral_alone : (xs : List RawName) → Neutral (Alone xs)
neutral_alone [] = neutral_never
neutral_alone (x ∷ []) = neutral_at x.at (Name x.text) (refl, refl, refl)
neutral_alone (x ∷ y ∷ ys) = neutral_never

neutral_binder : (xs : List RawName) → Neutral (Binder xs)
neutral_binder xs n tokens rest p = elim p [ inl q ↦ neutral_alone xs n tokens rest q | inr q ↦ neutral_parentheses (Names xs) (inner_of (Names xs) (neutral_names xs)) n tokens rest q ]

neutral_typed : (t : WrittenType) → Neutral (Typed t)
neutral_typed written_integer = neutral_just (Word INTEGER) (refl, refl, refl)
neutral_typed written_bool = neutral_just (Word BOOL) (refl, refl, refl)
neutral_typed (written_set name) = neutral_just (Name name) (refl, refl, refl)
neutral_typed (written_power t) = neutral_joined (Just (Word POW)) (InParentheses (Typed t)) (neutral_just (Word POW) (refl, refl, refl)) (neutral_parentheses (Typed t) (inner_of (Typed t) (neutral_typed t)))
neutral_typed (written_product t u) = neutral_parentheses (Typed t ⌢ JustSign TIMES ⌢ Typed u) (inner_of (Typed t ⌢ JustSign TIMES ⌢ Typed u) (neutral_joined (Typed t) (JustSign TIMES ⌢ Typed u) (neutral_typed t) (neutral_joined (JustSign TIMES) (Typed u) (neutral_just (Sign TIMES) (refl, refl, refl)) (neutral_typed u))))

neutral_bound : (b : RawBound) → Neutral (TypedBound b)
neutral_bound b = neutral_joined (JustAt b.at (BoundName b.number)) (JustSign MEMBER ⌢ Typed b.ty) (neutral_at b.at (BoundName b.number) (refl, refl, refl)) (neutral_joined (JustSign MEMBER) (Typed b.ty) (neutral_just (Sign MEMBER) (refl, refl, refl)) (neutral_typed b.ty))

neutral_bounds : (bs : List RawBound) → Neutral (TypedBounds bs)
neutral_bounds [] = neutral_never
neutral_bounds (b ∷ []) = neutral_bound b
neutral_bounds (b ∷ c ∷ cs) = neutral_joined (TypedBound b) (JustSign COMMA ⌢ TypedBounds (c ∷ cs)) (neutral_bound b) (neutral_joined (JustSign COMMA) (TypedBounds (c ∷ cs)) comma (neutral_bounds (c ∷ cs)))

-- ---- operators
plain_infix : (o : InfixOp) → IsPlain (infix_kind o)
plain_infix And = (refl, refl, refl)
plain_infix _ = (refl, refl, refl)

plain_word : (o : WordOp) → IsPlain (word_kind o)
plain_word Not = (refl, refl, refl)
plain_word _ = (refl, refl, refl)

plain_constant : (c : Constant) → IsPlain (constant_kind c)
plain_constant Btrue = (refl, refl, refl)
plain_constant _ = (refl, refl, refl)

-- ---- terms
neutral_starting : (at : ℕ) (Piece : List Token → Type 0) → Neutral Piece → Neutral (Starting at Piece)
neutral_starting at Piece h n tokens rest p = h n tokens rest p.4

neutral_with : (m : ℕ) (Piece : List Token → Type 0) → Neutral Piece → Neutral (WithParentheses m Piece)
neutral_with zero Piece h = h
neutral_with (suc m) Piece h = neutral_parentheses (WithParentheses m Piece) (inner_of (WithParentheses m Piece) (neutral_with m Piece h))

neutral_placed : (at asked : ℕ) (Written : ℕ → List Token → Type 0) → ((m : ℕ) → Neutral (Written m)) → Neutral (Placed at asked Written)
neutral_placed at asked Written h n tokens rest p = elim p [
  | inl q ↦ neutral_starting at (Written asked) (h asked) n tokens rest q
  | inr q ↦ neutral_with (suc q.0) (Starting at (Written 0)) (neutral_starting at (Written 0) (h 0)) n tokens rest q.1
]

neutral_binding : (own asked : ℕ) (Piece : List Token → Type 0) → Neutral Piece → Neutral (Binding own asked Piece)
neutral_binding own asked Piece h n tokens rest p = h n tokens rest p.1

neutral_no_digits : (Piece : List Token → Type 0) → Neutral Piece → Neutral (NoDigits Piece)
neutral_no_digits Piece h n tokens rest p = h n tokens rest p.0

neutral_digits : (d : ℕ) → Neutral (Digits d)
neutral_digits d = neutral_just (Number (pos d)) (refl, refl, refl)

neutral_literal : (z : ℤ) (asked : ℕ) → Neutral (Literal z asked)
neutral_literal z asked n tokens rest p = elim p [
  | inl q ↦ neutral_digits q.0 n tokens rest q.2
  | inr q ↦ neutral_joined (JustSign MINUS) (Digits q.0) (neutral_just (Sign MINUS) (refl, refl, refl)) (neutral_digits q.0) n tokens rest q.2.1
]

neutral_empty : Neutral (JustSign OPEN_BRACE ⌢ JustSign CLOSE_BRACE)
neutral_empty n tokens rest p =
    ap (λ ts. bar_follows n (ts ++ rest)) p.2 ∙ ap (bar_follows n) (append_assoc p.0 p.1 rest) ∙ scan_just (Sign OPEN_BRACE) n p.0 (p.1 ++ rest) p.3 ∙
    scan_just (Sign CLOSE_BRACE) (suc n) p.1 rest p.4

mutual
  pub neutral_term : (t : RawTree) (asked : ℕ) → Neutral (Term t asked)
  neutral_term (raw at node) asked = neutral_placed at asked (Bare node) (neutral_bare node)

  neutral_listed : (t : RawTree) → Neutral (Listed t)
  neutral_listed (raw at node) n tokens rest p = elim p [
    | inl q ↦ neutral_placed at 0 (Bare node) (neutral_bare node) n tokens rest q
    | inr q ↦ neutral_starting at (Commas node) (neutral_commas node) n tokens rest q
  ]

  neutral_sequenced : (t : RawTree) → Neutral (Sequenced t)
  neutral_sequenced (raw at node) n tokens rest p = elim p [
    | inl q ↦ neutral_placed at 0 (Bare node) (neutral_bare node) n tokens rest q
    | inr q ↦ neutral_starting at (Semicolons node) (neutral_semicolons node) n tokens rest q
  ]

  neutral_bare : (node : RawTreeNode) (m : ℕ) → Neutral (Bare node m)
  neutral_bare (raw_name text) m = neutral_just (Name text) (refl, refl, refl)
  neutral_bare (raw_level_name text l) m = neutral_just (LevelName text l) (refl, refl, refl)
  neutral_bare (raw_bound_name l) m = neutral_just (BoundName l) (refl, refl, refl)
  neutral_bare (raw_number z) m = neutral_literal z m
  neutral_bare (raw_constant c) m = neutral_just (constant_kind c) (plain_constant c)
  neutral_bare (raw_word o a) m = neutral_joined (Just (word_kind o)) (InParentheses (Term a 0)) (neutral_just (word_kind o) (plain_word o)) (neutral_parentheses (Term a 0) (inner_of (Term a 0) (neutral_term a 0)))
  neutral_bare (raw_negative a) m = neutral_binding (10) m ((JustSign MINUS) ⌢ (NoDigits (Term a 11))) (neutral_joined (JustSign MINUS) (NoDigits (Term a 11)) (neutral_just (Sign MINUS) (refl, refl, refl)) (neutral_no_digits (Term a 11) (neutral_term a 11)))
  neutral_bare (raw_infix o a b) m = neutral_binding ((binding o).own) m ((Term a (binding o).left) ⌢ ((Just (infix_kind o)) ⌢ (Term b (binding o).right))) (neutral_joined (Term a (binding o).left) ((Just (infix_kind o)) ⌢ (Term b (binding o).right)) (neutral_term a (binding o).left) (neutral_joined (Just (infix_kind o)) (Term b (binding o).right) (neutral_just (infix_kind o) (plain_infix o)) (neutral_term b (binding o).right)))
  neutral_bare (raw_inverse r) m = neutral_joined (Term r 11) (JustSign INVERSE) (neutral_term r 11) (neutral_just (Sign INVERSE) (refl, refl, refl))
  neutral_bare (raw_image r s) m = neutral_joined (Term r 11) (InBrackets (Term s 0)) (neutral_term r 11) (neutral_brackets (Term s 0) (inner_of (Term s 0) (neutral_term s 0)))
  neutral_bare (raw_apply f x) m = neutral_joined (Term f 11) (InParentheses (Listed x)) (neutral_term f 11) (neutral_parentheses (Listed x) (inner_of (Listed x) (neutral_listed x)))
  neutral_bare (raw_composition r s) m = neutral_parentheses ((Sequenced r) ⌢ ((JustSign SEMICOLON) ⌢ (Term s 0))) (inner_of ((Sequenced r) ⌢ ((JustSign SEMICOLON) ⌢ (Term s 0))) (neutral_joined (Sequenced r) ((JustSign SEMICOLON) ⌢ (Term s 0)) (neutral_sequenced r) (neutral_joined (JustSign SEMICOLON) (Term s 0) (neutral_just (Sign SEMICOLON) (refl, refl, refl)) (neutral_term s 0))))
  neutral_bare (raw_pair a b) m = neutral_parentheses ((Listed a) ⌢ ((JustSign COMMA) ⌢ (Term b 0))) (inner_of ((Listed a) ⌢ ((JustSign COMMA) ⌢ (Term b 0))) (neutral_joined (Listed a) ((JustSign COMMA) ⌢ (Term b 0)) (neutral_listed a) (neutral_joined (JustSign COMMA) (Term b 0) comma (neutral_term b 0))))
  neutral_bare raw_empty_set m = neutral_empty
  neutral_bare (raw_extension ts) m = neutral_braces (Terms ts) (inner_of (Terms ts) (neutral_terms ts))
  neutral_bare (raw_comprehension xs p) m = neutral_braces ((Names xs) ⌢ ((JustSign BAR) ⌢ (Term p 0))) (inner_joined (Names xs) ((JustSign BAR) ⌢ (Term p 0)) (inner_of (Names xs) (neutral_names xs)) (inner_joined (JustSign BAR) (Term p 0) inner_bar (inner_of (Term p 0) (neutral_term p 0))))
  neutral_bare (raw_lambda xs p e) m = neutral_joined (JustSign LAMBDA) ((Binder xs) ⌢ ((JustSign DOT) ⌢ (InParentheses ((Term p 0) ⌢ ((JustSign BAR) ⌢ (Term e 0)))))) (neutral_just (Sign LAMBDA) (refl, refl, refl)) (neutral_joined (Binder xs) ((JustSign DOT) ⌢ (InParentheses ((Term p 0) ⌢ ((JustSign BAR) ⌢ (Term e 0))))) (neutral_binder xs) (neutral_joined (JustSign DOT) (InParentheses ((Term p 0) ⌢ ((JustSign BAR) ⌢ (Term e 0)))) (neutral_just (Sign DOT) (refl, refl, refl)) (neutral_parentheses ((Term p 0) ⌢ ((JustSign BAR) ⌢ (Term e 0))) (inner_joined (Term p 0) ((JustSign BAR) ⌢ (Term e 0)) (inner_of (Term p 0) (neutral_term p 0)) (inner_joined (JustSign BAR) (Term e 0) inner_bar (inner_of (Term e 0) (neutral_term e 0)))))))
  neutral_bare (raw_for_all xs p) m = neutral_joined (JustSign FOR_ALL) ((Binder xs) ⌢ ((JustSign DOT) ⌢ (InParentheses (Term p 0)))) (neutral_just (Sign FOR_ALL) (refl, refl, refl)) (neutral_joined (Binder xs) ((JustSign DOT) ⌢ (InParentheses (Term p 0))) (neutral_binder xs) (neutral_joined (JustSign DOT) (InParentheses (Term p 0)) (neutral_just (Sign DOT) (refl, refl, refl)) (neutral_parentheses (Term p 0) (inner_of (Term p 0) (neutral_term p 0)))))
  neutral_bare (raw_exists xs p) m = neutral_joined (JustSign EXISTS) ((Binder xs) ⌢ ((JustSign DOT) ⌢ (InParentheses (Term p 0)))) (neutral_just (Sign EXISTS) (refl, refl, refl)) (neutral_joined (Binder xs) ((JustSign DOT) ⌢ (InParentheses (Term p 0))) (neutral_binder xs) (neutral_joined (JustSign DOT) (InParentheses (Term p 0)) (neutral_just (Sign DOT) (refl, refl, refl)) (neutral_parentheses (Term p 0) (inner_of (Term p 0) (neutral_term p 0)))))
  neutral_bare (raw_typed_empty t) m = neutral_braces ((JustSign MEMBER) ⌢ (Typed t)) (inner_of ((JustSign MEMBER) ⌢ (Typed t)) (neutral_joined (JustSign MEMBER) (Typed t) (neutral_just (Sign MEMBER) (refl, refl, refl)) (neutral_typed t)))
  neutral_bare (raw_typed_for_all bs p) m = neutral_joined (JustSign FOR_ALL) ((InParentheses (TypedBounds bs)) ⌢ ((JustSign DOT) ⌢ (InParentheses (Term p 0)))) (neutral_just (Sign FOR_ALL) (refl, refl, refl)) (neutral_joined (InParentheses (TypedBounds bs)) ((JustSign DOT) ⌢ (InParentheses (Term p 0))) (neutral_parentheses (TypedBounds bs) (inner_of (TypedBounds bs) (neutral_bounds bs))) (neutral_joined (JustSign DOT) (InParentheses (Term p 0)) (neutral_just (Sign DOT) (refl, refl, refl)) (neutral_parentheses (Term p 0) (inner_of (Term p 0) (neutral_term p 0)))))
  neutral_bare (raw_typed_exists bs p) m = neutral_joined (JustSign EXISTS) ((InParentheses (TypedBounds bs)) ⌢ ((JustSign DOT) ⌢ (InParentheses (Term p 0)))) (neutral_just (Sign EXISTS) (refl, refl, refl)) (neutral_joined (InParentheses (TypedBounds bs)) ((JustSign DOT) ⌢ (InParentheses (Term p 0))) (neutral_parentheses (TypedBounds bs) (inner_of (TypedBounds bs) (neutral_bounds bs))) (neutral_joined (JustSign DOT) (InParentheses (Term p 0)) (neutral_just (Sign DOT) (refl, refl, refl)) (neutral_parentheses (Term p 0) (inner_of (Term p 0) (neutral_term p 0)))))
  neutral_bare (raw_ranged_comprehension rs p) m = neutral_braces ((Ranges rs) ⌢ ((JustSign BAR) ⌢ (Term p 0))) (inner_joined (Ranges rs) ((JustSign BAR) ⌢ (Term p 0)) (inner_of (Ranges rs) (neutral_ranges rs)) (inner_joined (JustSign BAR) (Term p 0) inner_bar (inner_of (Term p 0) (neutral_term p 0))))
  neutral_bare (raw_ranged_lambda rs p e) m = neutral_joined (JustSign LAMBDA) ((InParentheses (Ranges rs)) ⌢ ((JustSign DOT) ⌢ (InParentheses ((Term p 0) ⌢ ((JustSign BAR) ⌢ (Term e 0)))))) (neutral_just (Sign LAMBDA) (refl, refl, refl)) (neutral_joined (InParentheses (Ranges rs)) ((JustSign DOT) ⌢ (InParentheses ((Term p 0) ⌢ ((JustSign BAR) ⌢ (Term e 0))))) (neutral_parentheses (Ranges rs) (inner_of (Ranges rs) (neutral_ranges rs))) (neutral_joined (JustSign DOT) (InParentheses ((Term p 0) ⌢ ((JustSign BAR) ⌢ (Term e 0)))) (neutral_just (Sign DOT) (refl, refl, refl)) (neutral_parentheses ((Term p 0) ⌢ ((JustSign BAR) ⌢ (Term e 0))) (inner_joined (Term p 0) ((JustSign BAR) ⌢ (Term e 0)) (inner_of (Term p 0) (neutral_term p 0)) (inner_joined (JustSign BAR) (Term e 0) inner_bar (inner_of (Term e 0) (neutral_term e 0)))))))

  neutral_commas : (node : RawTreeNode) → Neutral (Commas node)
  neutral_commas (raw_pair a b) = neutral_joined (Listed a) ((JustSign COMMA) ⌢ (Term b 0)) (neutral_listed a) (neutral_joined (JustSign COMMA) (Term b 0) comma (neutral_term b 0))
  neutral_commas _ = neutral_never

  neutral_semicolons : (node : RawTreeNode) → Neutral (Semicolons node)
  neutral_semicolons (raw_composition r s) = neutral_joined (Sequenced r) ((JustSign SEMICOLON) ⌢ (Term s 0)) (neutral_sequenced r) (neutral_joined (JustSign SEMICOLON) (Term s 0) (neutral_just (Sign SEMICOLON) (refl, refl, refl)) (neutral_term s 0))
  neutral_semicolons _ = neutral_never

  pub neutral_terms : (ts : RawTrees) → Neutral (Terms ts)
  neutral_terms no_trees = neutral_never
  neutral_terms (tree_and t no_trees) = neutral_term t 0
  neutral_terms (tree_and t (tree_and u us)) = neutral_joined (Term t 0) ((JustSign COMMA) ⌢ (Terms (tree_and u us))) (neutral_term t 0) (neutral_joined (JustSign COMMA) (Terms (tree_and u us)) comma (neutral_terms (tree_and u us)))

  pub neutral_ranges : (rs : RawRanges) → Neutral (Ranges rs)
  neutral_ranges no_ranges = neutral_never
  neutral_ranges (range_and at l d no_ranges) = neutral_joined (JustAt at (BoundName l)) ((JustSign MEMBER) ⌢ (Term d 4)) (neutral_at at (BoundName l) (refl, refl, refl)) (neutral_joined (JustSign MEMBER) (Term d 4) (neutral_just (Sign MEMBER) (refl, refl, refl)) (neutral_term d 4))
  neutral_ranges (range_and at l d (range_and bt k e rs)) = neutral_joined ((JustAt at (BoundName l)) ⌢ ((JustSign MEMBER) ⌢ (Term d 4))) ((JustSign COMMA) ⌢ (Ranges (range_and bt k e rs))) (neutral_joined (JustAt at (BoundName l)) ((JustSign MEMBER) ⌢ (Term d 4)) (neutral_at at (BoundName l) (refl, refl, refl)) (neutral_joined (JustSign MEMBER) (Term d 4) (neutral_just (Sign MEMBER) (refl, refl, refl)) (neutral_term d 4))) (neutral_joined (JustSign COMMA) (Ranges (range_and bt k e rs)) comma (neutral_ranges (range_and bt k e rs)))
