-- A term that is read is written in front.
use Rattle.std.specs.Prelude.{◌≡◌, ℕ, zero, suc, ◌≤◌, true, false, not, nat_eq, nat_le, ◌&&◌, ℤ, pos, negsuc, neg_ℤ, List, [], ◌∷◌, ◌++◌, ◌⊎◌, length, Option, None, Some, refl}
use Rattle.std.proofs.Common.{arith, inl, inr, sym, ◌∙◌, ap, subst}
use Rattle.std.proofs.lemmas.Bool.{cond-true, cond-false, cases_Bool, false≢true, eqb-true, leb-true, and_parts}
use Rattle.std.proofs.lemmas.List.{append-nil, append_assoc}
use Rattle.bk_form.specs.declared.token.Token.{Token}
use Rattle.bk_form.specs.declared.token.TokenKind.{TokenKind}
use Rattle.bk_form.specs.declared.token.TokenKind.TheVariants.{Name, LevelName, BoundName, Number, Sign, Word}
use Rattle.bk_ops.specs.declared.sign.TheConstants.{FOR_ALL, EXISTS, MEMBER, MINUS, OPEN_PAREN, CLOSE_PAREN, OPEN_BRACKET, CLOSE_BRACKET, OPEN_BRACE, CLOSE_BRACE, INVERSE, SEMICOLON, COMMA, DOT, BAR, LAMBDA}
use Rattle.bk_raw.specs.Grammar.Bars.{bar_follows}
use Rattle.bk_raw.specs.Trees.Operators.{infix_kind, word_kind, constant_kind, binding}
use Rattle.bk_raw.specs.declared.operator.InfixOp.{InfixOp}
use Rattle.bk_raw.specs.declared.operator.InfixOp.TheVariants.{And}
use Rattle.bk_raw.specs.declared.operator.WordOp.{WordOp}
use Rattle.bk_raw.specs.declared.operator.Constant.{Constant}
use Rattle.bk_raw.specs.declared.term.RawName.{RawName}
use Rattle.bk_raw.specs.declared.term.RawBound.{RawBound}
use Rattle.bk_raw.specs.Grammar.Pieces.{Just, JustAt, JustSign, ◌⌢◌, InParentheses, InBrackets, WithParentheses, Starting, Digits, Literal}
use Rattle.bk_raw.specs.Trees.RawTree.{RawTree, raw, RawTreeNode, raw_name, raw_level_name, raw_bound_name, raw_number, raw_constant, raw_word, raw_negative, raw_infix, raw_inverse, raw_image, raw_apply, raw_composition, raw_pair, raw_empty_set, raw_extension, raw_comprehension, raw_lambda, raw_for_all, raw_exists, raw_typed_empty, raw_typed_for_all, raw_typed_exists, raw_ranged_comprehension, raw_ranged_lambda, RawTrees, no_trees, tree_and, RawRanges, no_ranges, range_and}
use Rattle.bk_raw.specs.Grammar.Spelling.{Names, Binder, Typed, TypedBounds, Term, Listed, Sequenced, Bare, Commas, Semicolons, Terms, Ranges, Spells}
use Rattle.bk_raw.specs.Grammar.Reading.{infix_of, word_of, constant_of, next, sign, begins_with, start, within, names, binder, typed, bound, bounds, or_else, moved, chain, arguments, parentheses, terms, ranges, begins_bound, begins_bound_in, braces, body, body_and_value, quantified, lambda, at_byte, worded, primary_at, postfixed, tight, signed, front_kind, operand, joined_by, operators_after, read}
use Rattle.bk_raw.proofs.Shapes.{of_kind, led, just_is, regrouped, Begun, begun_start}
use Rattle.bk_raw.proofs.Stopping.{none_some, some_same, stops_end}
use Rattle.bk_raw.proofs.Loops.{same_kind_sign, Begins}
use Rattle.bk_raw.proofs.Primaries.{next_some}
use Rattle.bk_raw.proofs.Exact.{begins_term, begins_listed, begins_sequenced, reads, exact_term, sign_is_no_number}
use Rattle.bk_raw.proofs.Sound.{Front, Sound, front_joined, front_same, front_at, front_grouped, front_led, sound_sign, sound_within, sound_names, sound_binder, sound_typed, sound_bound, sound_bounds, infix_of_is, word_of_is, constant_of_is}

abbrev pub TermReader : Type 0
TermReader = ℕ → List Token → Option (RawTree × List Token)

-- what the reader reads is written in front
abbrev pub SoundTerms : TermReader → Type 0
SoundTerms reader = (asked : ℕ) → asked ≤ 10 → Sound (reader asked) (λ t. Term t asked)

-- ---- more tokens behind what is written already
pub record Grown (Piece : List Token → Type 0) (before tokens rest : List Token) : Type 0 where
  pub more : List Token
  pub is : tokens ≡ more ++ rest
  pub piece : Piece (before ++ more)

grown_none : (Piece : List Token → Type 0) (before rest : List Token) → Piece before → Grown Piece before rest rest
grown_none Piece before rest p = record { more = []; is = refl; piece = subst Piece (sym (append-nil before)) p }

grown_after : (First Piece : List Token → Type 0) (before tokens between rest : List Token) (f : Front First tokens between) → Grown Piece (before ++ f.written) between rest → Grown Piece before tokens rest
grown_after First Piece before tokens between rest f g = record {
  more = f.written ++ g.more;
  is = f.is ∙ ap (λ ts. f.written ++ ts) g.is ∙ sym (append_assoc f.written g.more rest);
  piece = subst Piece (append_assoc before f.written g.more) g.piece;
}

-- where nothing more is read
grown_stays : (Piece : RawTree → List Token → Type 0) (before : List Token) (t : RawTree) (tokens : List Token) (p : RawTree × List Token) → (t, tokens) ≡ p → Piece t before → Grown (Piece p.0) before tokens p.1
grown_stays Piece before t tokens p e x = subst (λ (q : RawTree × List Token). Grown (Piece q.0) before tokens q.1) e (grown_none (Piece t) before tokens x)

pub front_of_grown : (First Piece : List Token → Type 0) (tokens between rest : List Token) (f : Front First tokens between) → Grown Piece f.written between rest → Front Piece tokens rest
front_of_grown First Piece tokens between rest f g = record {
  written = f.written ++ g.more;
  is = f.is ∙ ap (λ ts. f.written ++ ts) g.is ∙ sym (append_assoc f.written g.more rest);
  piece = g.piece;
}

or_else_cases : (o : Option (RawTree × List Token)) (x p : RawTree × List Token) → or_else o (Some x) ≡ Some p → (o ≡ Some p) ⊎ (x ≡ p)
or_else_cases None x p e = inr (some_same x p e)
or_else_cases (Some y) x p e = inl e

-- ---- terms from pieces
regrouped_back : (First Second Third : List Token → Type 0) (tokens : List Token) → (First ⌢ Second ⌢ Third) tokens → ((First ⌢ Second) ⌢ Third) tokens
regrouped_back First Second Third tokens p =
    (p.0 ++ p.4.0, p.4.1, p.2 ∙ ap (λ ts. p.0 ++ ts) p.4.2 ∙ sym (append_assoc p.0 p.4.0 p.4.1), (p.0, p.4.0, refl, p.3, p.4.3), p.4.4)

-- what stands in a bracket with a bar
regrouped_bar : (First Second Third : List Token → Type 0) (tokens : List Token) → (First ⌢ JustSign BAR ⌢ Second ⌢ Third) tokens → ((First ⌢ JustSign BAR ⌢ Second) ⌢ Third) tokens
regrouped_bar First Second Third tokens p = regrouped_back First (JustSign BAR ⌢ Second) Third tokens (p.0, p.1, p.2, p.3, regrouped_back (JustSign BAR) Second Third p.1 p.4)

parens_term : (t : RawTree) (asked : ℕ) (tokens : List Token) → InParentheses (Term t 0) tokens → Term t asked tokens
parens_term (raw at node) asked tokens p = elim p.4.3 [
  | inl q ↦ inr (0, (p.0, p.1, p.2, p.3, (p.4.0, p.4.1, p.4.2, q, p.4.4)))
  | inr q ↦ inr (suc q.0, (p.0, p.1, p.2, p.3, (p.4.0, p.4.1, p.4.2, q.1, p.4.4)))
]

bare_weaker : (node : RawTreeNode) (asked less : ℕ) (tokens : List Token) → less ≤ asked → Bare node asked tokens → Bare node less tokens
bare_weaker (raw_number z) asked less tokens l p = elim p [ inl digits ↦ inl digits | inr minus ↦ inr (minus.0, minus.1, (omega (arith, minus.2.0, l), minus.2.1)) ]
bare_weaker (raw_negative a) asked less tokens l p = (omega (arith, p.0, l), p.1)
bare_weaker (raw_infix o a b) asked less tokens l p = (omega (arith, p.0, l), p.1)
bare_weaker _ asked less tokens l p = p

pub term_weaker : (t : RawTree) (asked less : ℕ) (tokens : List Token) → less ≤ asked → Term t asked tokens → Term t less tokens
term_weaker (raw at node) asked less tokens l p = elim p [
  | inl q ↦ inl (q.0, q.1, q.2, q.3, bare_weaker node asked less tokens l q.4)
  | inr q ↦ inr q
]

-- a node of two pieces, the first of which starts at this byte
starting_joined : (at : ℕ) (First Second : List Token → Type 0) (front back : List Token) → Begun front → start front ≡ at → First front → Second back → Starting at (First ⌢ Second) (front ++ back)
starting_joined at First Second front back b e p q = (b.0, b.1 ++ back, ap (λ ts. ts ++ back) b.2, sym (ap start b.2) ∙ e, (front, back, refl, p, q))

-- ---- rows
-- a row of two terms or more, of which the last is added
abbrev RowOf : ℕ → (RawTree → RawTree → RawTreeNode) → (RawTree → List Token → Type 0) → (RawTree → List Token → Type 0) → Type 0
RowOf op make Several Row = (at : ℕ) (a b : RawTree) (tokens : List Token) → Starting at (Several a ⌢ JustSign op ⌢ Term b 0) tokens → Row (raw at (make a b)) tokens

-- the loop reads nothing, or a row
chain_grows : (reader : TermReader) → SoundTerms reader → (op : ℕ) (make : RawTree → RawTree → RawTreeNode) (Several Row : RawTree → List Token → Type 0) → RowOf op make Several Row → ((t : RawTree) (tokens : List Token) → Row t tokens → Several t tokens) → ((t : RawTree) → Begins (Several t)) → (m at : ℕ) (t : RawTree) (before tokens : List Token) (p : RawTree × List Token) → Several t before → start before ≡ at → chain m reader op make at t tokens ≡ Some p → ((t, tokens) ≡ p) ⊎ Grown (Row p.0) before tokens p.1
chain_grows reader sound op make Several Row row several begins zero at t before tokens p x s e = inl (some_same (t, tokens) p e)
chain_grows reader sound op make Several Row row several begins (suc m) at t before tokens p x s e = elim (cases_Bool (begins_with op tokens)) [
  | inl holds ↦
      (let a = next_some (sign op tokens) _ p (sym (cond-true (begins_with op tokens) _ _ holds) ∙ e) in
      let c = next_some (reader 0 a.0.1) _ p a.2 in
      let f = front_joined (JustSign op) (Term c.0.0 0) tokens a.0.1 c.0.1 (sound_sign op tokens a.0 a.1) (sound 0 (omega arith) a.0.1 c.0 c.1) in
      let b = begins t before x in
      let whole : Row (raw at (make t c.0.0)) (before ++ f.written) = row at t c.0.0 (before ++ f.written) (starting_joined at (Several t) (JustSign op ⌢ Term c.0.0 0) before f.written b s x f.piece) in
      elim (chain_grows reader sound op make Several Row row several begins m at (raw at (make t c.0.0)) (before ++ f.written) c.0.1 p (several (raw at (make t c.0.0)) (before ++ f.written) whole) (begun_start before f.written b ∙ s) c.2) [
        | inl same ↦ inr (grown_after (JustSign op ⌢ Term c.0.0 0) (Row p.0) before tokens c.0.1 p.1 f (grown_stays Row (before ++ f.written) (raw at (make t c.0.0)) c.0.1 p same whole))
        | inr g ↦ inr (grown_after (JustSign op ⌢ Term c.0.0 0) (Row p.0) before tokens c.0.1 p.1 f g)
      ])
  | inr fails ↦ inl (some_same (t, tokens) p (sym (cond-false (begins_with op tokens) _ _ fails) ∙ e))
]

abbrev CommaRow : RawTree → List Token → Type 0
CommaRow (raw at node) = Starting at (Commas node)

abbrev SemicolonRow : RawTree → List Token → Type 0
SemicolonRow (raw at node) = Starting at (Semicolons node)

listed_row : (t : RawTree) (tokens : List Token) → CommaRow t tokens → Listed t tokens
listed_row (raw at node) tokens p = inr p

listed_term : (t : RawTree) (tokens : List Token) → Term t 0 tokens → Listed t tokens
listed_term (raw at node) tokens p = inl p

sequenced_row : (t : RawTree) (tokens : List Token) → SemicolonRow t tokens → Sequenced t tokens
sequenced_row (raw at node) tokens p = inr p

sequenced_term : (t : RawTree) (tokens : List Token) → Term t 0 tokens → Sequenced t tokens
sequenced_term (raw at node) tokens p = inl p

-- the byte where the tokens in front start
pub front_start : (Piece : List Token → Type 0) (tokens rest : List Token) (f : Front Piece tokens rest) → Begun f.written → start f.written ≡ start tokens
front_start Piece tokens rest f b = sym (ap start f.is ∙ begun_start f.written rest b)

pub sound_arguments : (reader : TermReader) → SoundTerms reader → (m : ℕ) → Sound (arguments m reader) (λ x. Listed x ⌢ JustSign CLOSE_PAREN)
sound_arguments reader sound m tokens p e =
    let a = next_some (reader 0 tokens) _ p e in
    let b = next_some (chain m reader COMMA raw_pair (start tokens) a.0.0 a.0.1) _ p a.2 in
    let c = next_some (sign CLOSE_PAREN b.0.1) _ p b.2 in
    let f = sound 0 (omega arith) tokens a.0 a.1 in
    let first : Listed a.0.0 f.written = listed_term a.0.0 f.written f.piece in
    let row : Front (Listed b.0.0) tokens b.0.1 = elim (chain_grows reader sound COMMA raw_pair Listed CommaRow (λ at a b tokens q. q) listed_row begins_listed m (start tokens) a.0.0 f.written a.0.1 b.0 first (front_start (Term a.0.0 0) tokens a.0.1 f (begins_term a.0.0 0 f.written f.piece)) b.1) [
      | inl same ↦ subst (λ (q : RawTree × List Token). Front (Listed q.0) tokens q.1) same (record { written = f.written; is = f.is; piece = first })
      | inr g ↦ front_same (CommaRow b.0.0) (Listed b.0.0) tokens b.0.1 (listed_row b.0.0) (front_of_grown (Term a.0.0 0) (CommaRow b.0.0) tokens a.0.1 b.0.1 f g)
    ] in
    front_at (λ x. Listed x ⌢ JustSign CLOSE_PAREN) tokens b.0.0 c.0.1 p c.2 (front_joined (Listed b.0.0) (JustSign CLOSE_PAREN) tokens b.0.1 c.0.1 row (sound_sign CLOSE_PAREN b.0.1 c.0 c.1))

-- ---- what stands behind a term
pub postfixed_grows : (reader : TermReader) → SoundTerms reader → (m at : ℕ) (t : RawTree) (before tokens : List Token) (p : RawTree × List Token) → Term t 11 before → start before ≡ at → postfixed m reader at t tokens ≡ Some p → Grown (Term p.0 11) before tokens p.1
postfixed_grows reader sound zero at t before tokens p x s e = grown_stays (λ t. Term t 11) before t tokens p (some_same (t, tokens) p e) x
postfixed_grows reader sound (suc m) at t before tokens p x s e = elim (cases_Bool (begins_with INVERSE tokens)) [
  | inl holds ↦
      (let a = next_some (sign INVERSE tokens) _ p (sym (cond-true (begins_with INVERSE tokens) _ _ holds) ∙ e) in
      let f = sound_sign INVERSE tokens a.0 a.1 in
      let b = begins_term t 11 before x in
      grown_after (JustSign INVERSE) (Term p.0 11) before tokens a.0.1 p.1 f
      (postfixed_grows reader sound m at (raw at (raw_inverse t)) (before ++ f.written) a.0.1 p (inl (starting_joined at (Term t 11) (JustSign INVERSE) before f.written b s x f.piece)) (begun_start before f.written b ∙ s) a.2))
  | inr other ↦ elim (cases_Bool (begins_with OPEN_BRACKET tokens)) [
    | inl holds ↦
        elim (or_else_cases (next (within OPEN_BRACKET CLOSE_BRACKET (reader 0) tokens) (λ s us. postfixed m reader at (raw at (raw_image t s)) us)) (t, tokens) p (sym (cond-true (begins_with OPEN_BRACKET tokens) _ _ holds) ∙ sym (cond-false (begins_with INVERSE tokens) _ _ other) ∙ e)) [
          | inl goes ↦
              (let a = next_some (within OPEN_BRACKET CLOSE_BRACKET (reader 0) tokens) _ p goes in
              let f = sound_within OPEN_BRACKET CLOSE_BRACKET (reader 0) (λ t. Term t 0) (sound 0 (omega arith)) tokens a.0 a.1 in
              let b = begins_term t 11 before x in
              grown_after (InBrackets (Term a.0.0 0)) (Term p.0 11) before tokens a.0.1 p.1 f
              (postfixed_grows reader sound m at (raw at (raw_image t a.0.0)) (before ++ f.written) a.0.1 p (inl (starting_joined at (Term t 11) (InBrackets (Term a.0.0 0)) before f.written b s x f.piece)) (begun_start before f.written b ∙ s) a.2))
          | inr stays ↦ grown_stays (λ t. Term t 11) before t tokens p stays x
        ]
    | inr third ↦ elim (cases_Bool (begins_with OPEN_PAREN tokens)) [
      | inl holds ↦
          elim (or_else_cases (next (sign OPEN_PAREN tokens) (λ _ us. next (arguments m reader us) (λ x vs. postfixed m reader at (raw at (raw_apply t x)) vs))) (t, tokens) p (sym (cond-true (begins_with OPEN_PAREN tokens) _ _ holds) ∙ sym (cond-false (begins_with OPEN_BRACKET tokens) _ _ third) ∙ sym (cond-false (begins_with INVERSE tokens) _ _ other) ∙ e)) [
            | inl goes ↦
                (let a = next_some (sign OPEN_PAREN tokens) _ p goes in
                let c = next_some (arguments m reader a.0.1) _ p a.2 in
                let f = front_joined (JustSign OPEN_PAREN) (Listed c.0.0 ⌢ JustSign CLOSE_PAREN) tokens a.0.1 c.0.1 (sound_sign OPEN_PAREN tokens a.0 a.1) (sound_arguments reader sound m a.0.1 c.0 c.1) in
                let b = begins_term t 11 before x in
                grown_after (InParentheses (Listed c.0.0)) (Term p.0 11) before tokens c.0.1 p.1 f
                (postfixed_grows reader sound m at (raw at (raw_apply t c.0.0)) (before ++ f.written) c.0.1 p (inl (starting_joined at (Term t 11) (InParentheses (Listed c.0.0)) before f.written b s x f.piece)) (begun_start before f.written b ∙ s) c.2))
            | inr stays ↦ grown_stays (λ t. Term t 11) before t tokens p stays x
          ]
      | inr fails ↦ grown_stays (λ t. Term t 11) before t tokens p (some_same (t, tokens) p (sym (cond-false (begins_with OPEN_PAREN tokens) _ _ fails) ∙ sym (cond-false (begins_with OPEN_BRACKET tokens) _ _ third) ∙ sym (cond-false (begins_with INVERSE tokens) _ _ other) ∙ e)) x
    ]
  ]
]

-- ---- brackets
-- a node that begins with a token of this kind, which is in front
led_node : (kind : TokenKind) (Second : List Token → Type 0) (node : RawTreeNode) (t : Token) (ts rest : List Token) → ((written : List Token) → (Just kind ⌢ Second) written → Bare node 11 written) → t.kind ≡ kind → Front Second ts rest → Front (Starting t.start (Bare node 11)) (t ∷ ts) rest
led_node kind Second node t ts rest same k f = record {
  written = t ∷ f.written;
  is = ap (λ us. t ∷ us) f.is;
  piece = (t, f.written, refl, refl, same (t ∷ f.written) (t ∷ [], f.written, refl, (t, refl, k), f.piece));
}

just_node : (node : RawTreeNode) (t : Token) (ts : List Token) → Bare node 11 (t ∷ []) → Front (Starting t.start (Bare node 11)) (t ∷ ts) ts
just_node node t ts b = record { written = t ∷ []; is = refl; piece = (t, [], refl, refl, b) }

-- what is read behind a token, as a node
abbrev SoundNode : Token → (List Token → Option (RawTreeNode × List Token)) → Type 0
SoundNode t reader = (ts : List Token) (p : RawTreeNode × List Token) → reader ts ≡ Some p → Front (Starting t.start (Bare p.0 11)) (t ∷ ts) p.1

node_at : (t : Token) (ts : List Token) (node : RawTreeNode) (rest : List Token) (p : RawTreeNode × List Token) → Some (node, rest) ≡ Some p → Front (Starting t.start (Bare node 11)) (t ∷ ts) rest → Front (Starting t.start (Bare p.0 11)) (t ∷ ts) p.1
node_at t ts node rest p e f = front_at (λ node. Starting t.start (Bare node 11)) (t ∷ ts) node rest p e f

sound_body : (reader : TermReader) → SoundTerms reader → Sound (body reader) (λ p. JustSign DOT ⌢ InParentheses (Term p 0))
sound_body reader sound ts p e =
    let a = next_some (sign DOT ts) _ p e in
    front_joined (JustSign DOT) (InParentheses (Term p.0 0)) ts a.0.1 p.1 (sound_sign DOT ts a.0 a.1) (sound_within OPEN_PAREN CLOSE_PAREN (reader 0) (λ t. Term t 0) (sound 0 (omega arith)) a.0.1 p a.2)

-- ((( p |) e) ) is (((p | e)))
bar_in_parens : (First Second : List Token → Type 0) (tokens : List Token) → ((JustSign OPEN_PAREN ⌢ First ⌢ JustSign BAR) ⌢ Second ⌢ JustSign CLOSE_PAREN) tokens → InParentheses (First ⌢ JustSign BAR ⌢ Second) tokens
bar_in_parens First Second tokens p =
    let q = regrouped (JustSign OPEN_PAREN) (First ⌢ JustSign BAR) (Second ⌢ JustSign CLOSE_PAREN) tokens p in
    let r = regrouped First (JustSign BAR) (Second ⌢ JustSign CLOSE_PAREN) q.1 q.4 in
    (q.0, q.1, q.2, q.3, regrouped_bar First Second (JustSign CLOSE_PAREN) q.1 r)

sound_body_and_value : (reader : TermReader) → SoundTerms reader → Sound (body_and_value reader) (λ q. JustSign DOT ⌢ InParentheses (Term q.0 0 ⌢ JustSign BAR ⌢ Term q.1 0))
sound_body_and_value reader sound ts p e =
    let a = next_some (sign DOT ts) _ p e in
    let b = next_some (within OPEN_PAREN BAR (reader 0) a.0.1) _ p a.2 in
    let c = next_some (reader 0 b.0.1) _ p b.2 in
    let d = next_some (sign CLOSE_PAREN c.0.1) _ p c.2 in
    front_at (λ q. JustSign DOT ⌢ InParentheses (Term q.0 0 ⌢ JustSign BAR ⌢ Term q.1 0)) ts (b.0.0, c.0.0) d.0.1 p d.2
    (front_joined (JustSign DOT) (InParentheses (Term b.0.0 0 ⌢ JustSign BAR ⌢ Term c.0.0 0)) ts a.0.1 d.0.1 (sound_sign DOT ts a.0 a.1)
    (front_same ((JustSign OPEN_PAREN ⌢ Term b.0.0 0 ⌢ JustSign BAR) ⌢ Term c.0.0 0 ⌢ JustSign CLOSE_PAREN) (InParentheses (Term b.0.0 0 ⌢ JustSign BAR ⌢ Term c.0.0 0)) a.0.1 d.0.1 (bar_in_parens (Term b.0.0 0) (Term c.0.0 0))
    (front_joined (JustSign OPEN_PAREN ⌢ Term b.0.0 0 ⌢ JustSign BAR) (Term c.0.0 0 ⌢ JustSign CLOSE_PAREN) a.0.1 b.0.1 d.0.1
    (sound_within OPEN_PAREN BAR (reader 0) (λ t. Term t 0) (sound 0 (omega arith)) a.0.1 b.0 b.1)
    (front_joined (Term c.0.0 0) (JustSign CLOSE_PAREN) b.0.1 c.0.1 d.0.1 (sound 0 (omega arith) b.0.1 c.0 c.1) (sound_sign CLOSE_PAREN c.0.1 d.0 d.1)))))

sound_quantified : (op : ℕ) (plain : List RawName → RawTree → RawTreeNode) (numbers : List RawBound → RawTree → RawTreeNode) → ((xs : List RawName) (p : RawTree) (written : List Token) → (JustSign op ⌢ Binder xs ⌢ JustSign DOT ⌢ InParentheses (Term p 0)) written → Bare (plain xs p) 11 written) → ((bs : List RawBound) (p : RawTree) (written : List Token) → (JustSign op ⌢ InParentheses (TypedBounds bs) ⌢ JustSign DOT ⌢ InParentheses (Term p 0)) written → Bare (numbers bs p) 11 written) → (reader : TermReader) → SoundTerms reader → (m : ℕ) (t : Token) → t.kind ≡ Sign op → SoundNode t (quantified m reader plain numbers)
sound_quantified op plain numbers plain_bare numbers_bare reader sound m t k ts p e = elim (cases_Bool (begins_bound_in ts)) [
  | inl holds ↦
      (let a = next_some (within OPEN_PAREN CLOSE_PAREN (bounds m) ts) _ p (sym (cond-true (begins_bound_in ts) _ _ holds) ∙ e) in
      let b = next_some (body reader a.0.1) _ p a.2 in
      node_at t ts (numbers a.0.0 b.0.0) b.0.1 p b.2 (led_node (Sign op) (InParentheses (TypedBounds a.0.0) ⌢ JustSign DOT ⌢ InParentheses (Term b.0.0 0)) (numbers a.0.0 b.0.0) t ts b.0.1 (numbers_bare a.0.0 b.0.0) k
      (front_joined (InParentheses (TypedBounds a.0.0)) (JustSign DOT ⌢ InParentheses (Term b.0.0 0)) ts a.0.1 b.0.1 (sound_within OPEN_PAREN CLOSE_PAREN (bounds m) TypedBounds (sound_bounds m) ts a.0 a.1) (sound_body reader sound a.0.1 b.0 b.1))))
  | inr fails ↦
      (let a = next_some (binder ts) _ p (sym (cond-false (begins_bound_in ts) _ _ fails) ∙ e) in
      let b = next_some (body reader a.0.1) _ p a.2 in
      node_at t ts (plain a.0.0 b.0.0) b.0.1 p b.2 (led_node (Sign op) (Binder a.0.0 ⌢ JustSign DOT ⌢ InParentheses (Term b.0.0 0)) (plain a.0.0 b.0.0) t ts b.0.1 (plain_bare a.0.0 b.0.0) k
      (front_joined (Binder a.0.0) (JustSign DOT ⌢ InParentheses (Term b.0.0 0)) ts a.0.1 b.0.1 (sound_binder ts a.0 a.1) (sound_body reader sound a.0.1 b.0 b.1))))
]

-- ---- lists of terms and of ranges
terms_and : (t : RawTree) (us : RawTrees) (tokens : List Token) → (Term t 0 ⌢ JustSign COMMA ⌢ Terms us) tokens → Terms (tree_and t us) tokens
terms_and t no_trees tokens p = elim p.4.4 [ ]
terms_and t (tree_and u us) tokens p = p

sound_terms : (reader : TermReader) → SoundTerms reader → (m : ℕ) → Sound (terms m reader) Terms
sound_terms reader sound zero ts p e = none_some p e
sound_terms reader sound (suc m) ts p e =
    let a = next_some (reader 0 ts) _ p e in
    let f = sound 0 (omega arith) ts a.0 a.1 in
    elim (cases_Bool (begins_with COMMA a.0.1)) [
      | inl holds ↦
          (let b = next_some (sign COMMA a.0.1) _ p (sym (cond-true (begins_with COMMA a.0.1) _ _ holds) ∙ a.2) in
          let c = next_some (terms m reader b.0.1) _ p b.2 in
          front_at Terms ts (tree_and a.0.0 c.0.0) c.0.1 p c.2
          (front_same (Term a.0.0 0 ⌢ JustSign COMMA ⌢ Terms c.0.0) (Terms (tree_and a.0.0 c.0.0)) ts c.0.1 (terms_and a.0.0 c.0.0)
          (front_joined (Term a.0.0 0) (JustSign COMMA ⌢ Terms c.0.0) ts a.0.1 c.0.1 f (front_joined (JustSign COMMA) (Terms c.0.0) a.0.1 b.0.1 c.0.1 (sound_sign COMMA a.0.1 b.0 b.1) (sound_terms reader sound m b.0.1 c.0 c.1)))))
      | inr fails ↦ front_at Terms ts (tree_and a.0.0 no_trees) a.0.1 p (sym (cond-false (begins_with COMMA a.0.1) _ _ fails) ∙ a.2) f
    ]

-- $n:d
abbrev OneRange : ℕ → ℕ → RawTree → List Token → Type 0
OneRange at k d = JustAt at (BoundName k) ⌢ JustSign MEMBER ⌢ Term d 4

ranges_and : (at k : ℕ) (d : RawTree) (rs : RawRanges) (tokens : List Token) → (OneRange at k d ⌢ JustSign COMMA ⌢ Ranges rs) tokens → Ranges (range_and at k d rs) tokens
ranges_and at k d no_ranges tokens p = elim p.4.4 [ ]
ranges_and at k d (range_and bt l e rs) tokens p = p

sound_ranges : (reader : TermReader) → SoundTerms reader → (m : ℕ) → Sound (ranges m reader) Ranges
sound_ranges reader sound zero ts p e = none_some p e
sound_ranges reader sound (suc m) ts p e =
    let a = next_some (bound ts) _ p e in
    let b = next_some (reader 4 a.0.1) _ p a.2 in
    let at = a.0.0.0 in
    let k = a.0.0.1 in
    let d = b.0.0 in
    let f : Front (OneRange at k d) ts b.0.1 = front_grouped (JustAt at (BoundName k)) (JustSign MEMBER) (Term d 4) ts a.0.1 b.0.1 (sound_bound ts a.0 a.1) (sound 4 (omega arith) a.0.1 b.0 b.1) in
    elim (cases_Bool (begins_with COMMA b.0.1)) [
      | inl holds ↦
          (let c = next_some (sign COMMA b.0.1) _ p (sym (cond-true (begins_with COMMA b.0.1) _ _ holds) ∙ b.2) in
          let g = next_some (ranges m reader c.0.1) _ p c.2 in
          front_at Ranges ts (range_and at k d g.0.0) g.0.1 p g.2
          (front_same (OneRange at k d ⌢ JustSign COMMA ⌢ Ranges g.0.0) (Ranges (range_and at k d g.0.0)) ts g.0.1 (ranges_and at k d g.0.0)
          (front_joined (OneRange at k d) (JustSign COMMA ⌢ Ranges g.0.0) ts b.0.1 g.0.1 f (front_joined (JustSign COMMA) (Ranges g.0.0) b.0.1 c.0.1 g.0.1 (sound_sign COMMA b.0.1 c.0 c.1) (sound_ranges reader sound m c.0.1 g.0 g.1)))))
      | inr fails ↦ front_at Ranges ts (range_and at k d no_ranges) b.0.1 p (sym (cond-false (begins_with COMMA b.0.1) _ _ fails) ∙ b.2) f
    ]

sound_lambda : (reader : TermReader) → SoundTerms reader → (m : ℕ) (t : Token) → t.kind ≡ Sign LAMBDA → SoundNode t (lambda m reader)
sound_lambda reader sound m t k ts p e = elim (cases_Bool (begins_bound_in ts)) [
  | inl holds ↦
      (let a = next_some (within OPEN_PAREN CLOSE_PAREN (ranges m reader) ts) _ p (sym (cond-true (begins_bound_in ts) _ _ holds) ∙ e) in
      let b = next_some (body_and_value reader a.0.1) _ p a.2 in
      node_at t ts (raw_ranged_lambda a.0.0 b.0.0.0 b.0.0.1) b.0.1 p b.2 (led_node (Sign LAMBDA) (InParentheses (Ranges a.0.0) ⌢ JustSign DOT ⌢ InParentheses (Term b.0.0.0 0 ⌢ JustSign BAR ⌢ Term b.0.0.1 0)) (raw_ranged_lambda a.0.0 b.0.0.0 b.0.0.1) t ts b.0.1 (λ written q. q) k
      (front_joined (InParentheses (Ranges a.0.0)) (JustSign DOT ⌢ InParentheses (Term b.0.0.0 0 ⌢ JustSign BAR ⌢ Term b.0.0.1 0)) ts a.0.1 b.0.1 (sound_within OPEN_PAREN CLOSE_PAREN (ranges m reader) Ranges (sound_ranges reader sound m) ts a.0 a.1) (sound_body_and_value reader sound a.0.1 b.0 b.1))))
  | inr fails ↦
      (let a = next_some (binder ts) _ p (sym (cond-false (begins_bound_in ts) _ _ fails) ∙ e) in
      let b = next_some (body_and_value reader a.0.1) _ p a.2 in
      node_at t ts (raw_lambda a.0.0 b.0.0.0 b.0.0.1) b.0.1 p b.2 (led_node (Sign LAMBDA) (Binder a.0.0 ⌢ JustSign DOT ⌢ InParentheses (Term b.0.0.0 0 ⌢ JustSign BAR ⌢ Term b.0.0.1 0)) (raw_lambda a.0.0 b.0.0.0 b.0.0.1) t ts b.0.1 (λ written q. q) k
      (front_joined (Binder a.0.0) (JustSign DOT ⌢ InParentheses (Term b.0.0.0 0 ⌢ JustSign BAR ⌢ Term b.0.0.1 0)) ts a.0.1 b.0.1 (sound_binder ts a.0 a.1) (sound_body_and_value reader sound a.0.1 b.0 b.1))))
]

-- ---- braces
sound_braces : (reader : TermReader) → SoundTerms reader → (m : ℕ) (t : Token) → t.kind ≡ Sign OPEN_BRACE → SoundNode t (braces m reader)
sound_braces reader sound m t k ts p e = elim (cases_Bool (begins_with CLOSE_BRACE ts)) [
  | inl holds ↦
      (let a = next_some (sign CLOSE_BRACE ts) _ p (sym (cond-true (begins_with CLOSE_BRACE ts) _ _ holds) ∙ e) in
      node_at t ts raw_empty_set a.0.1 p a.2 (led_node (Sign OPEN_BRACE) (JustSign CLOSE_BRACE) raw_empty_set t ts a.0.1 (λ written q. q) k (sound_sign CLOSE_BRACE ts a.0 a.1)))
  | inr first ↦ elim (cases_Bool (begins_with MEMBER ts)) [
    | inl holds ↦
        (let a = next_some (within MEMBER CLOSE_BRACE (typed m) ts) _ p (sym (cond-true (begins_with MEMBER ts) _ _ holds) ∙ sym (cond-false (begins_with CLOSE_BRACE ts) _ _ first) ∙ e) in
        node_at t ts (raw_typed_empty a.0.0) a.0.1 p a.2 (led_node (Sign OPEN_BRACE) ((JustSign MEMBER ⌢ Typed a.0.0) ⌢ JustSign CLOSE_BRACE) (raw_typed_empty a.0.0) t ts a.0.1 (λ written q. q) k
        (front_same (JustSign MEMBER ⌢ Typed a.0.0 ⌢ JustSign CLOSE_BRACE) ((JustSign MEMBER ⌢ Typed a.0.0) ⌢ JustSign CLOSE_BRACE) ts a.0.1 (regrouped_back (JustSign MEMBER) (Typed a.0.0) (JustSign CLOSE_BRACE)) (sound_within MEMBER CLOSE_BRACE (typed m) Typed (sound_typed m) ts a.0 a.1))))
    | inr second ↦ elim (cases_Bool (not (bar_follows 0 ts))) [
      | inl holds ↦
          (let a = next_some (terms m reader ts) _ p (sym (cond-true (not (bar_follows 0 ts)) _ _ holds) ∙ sym (cond-false (begins_with MEMBER ts) _ _ second) ∙ sym (cond-false (begins_with CLOSE_BRACE ts) _ _ first) ∙ e) in
          let b = next_some (sign CLOSE_BRACE a.0.1) _ p a.2 in
          node_at t ts (raw_extension a.0.0) b.0.1 p b.2 (led_node (Sign OPEN_BRACE) (Terms a.0.0 ⌢ JustSign CLOSE_BRACE) (raw_extension a.0.0) t ts b.0.1 (λ written q. q) k
          (front_joined (Terms a.0.0) (JustSign CLOSE_BRACE) ts a.0.1 b.0.1 (sound_terms reader sound m ts a.0 a.1) (sound_sign CLOSE_BRACE a.0.1 b.0 b.1))))
      | inr third ↦
          (let rest = sym (cond-false (not (bar_follows 0 ts)) _ _ third) ∙ sym (cond-false (begins_with MEMBER ts) _ _ second) ∙ sym (cond-false (begins_with CLOSE_BRACE ts) _ _ first) ∙ e in
          elim (cases_Bool (begins_bound ts)) [
            | inl holds ↦
                (let a = next_some (ranges m reader ts) _ p (sym (cond-true (begins_bound ts) _ _ holds) ∙ rest) in
                let b = next_some (within BAR CLOSE_BRACE (reader 0) a.0.1) _ p a.2 in
                node_at t ts (raw_ranged_comprehension a.0.0 b.0.0) b.0.1 p b.2 (led_node (Sign OPEN_BRACE) ((Ranges a.0.0 ⌢ JustSign BAR ⌢ Term b.0.0 0) ⌢ JustSign CLOSE_BRACE) (raw_ranged_comprehension a.0.0 b.0.0) t ts b.0.1 (λ written q. q) k
                (front_same (Ranges a.0.0 ⌢ JustSign BAR ⌢ Term b.0.0 0 ⌢ JustSign CLOSE_BRACE) ((Ranges a.0.0 ⌢ JustSign BAR ⌢ Term b.0.0 0) ⌢ JustSign CLOSE_BRACE) ts b.0.1 (regrouped_bar (Ranges a.0.0) (Term b.0.0 0) (JustSign CLOSE_BRACE))
                (front_joined (Ranges a.0.0) (JustSign BAR ⌢ Term b.0.0 0 ⌢ JustSign CLOSE_BRACE) ts a.0.1 b.0.1 (sound_ranges reader sound m ts a.0 a.1) (sound_within BAR CLOSE_BRACE (reader 0) (λ t. Term t 0) (sound 0 (omega arith)) a.0.1 b.0 b.1)))))
            | inr fails ↦
                (let a = next_some (names ts) _ p (sym (cond-false (begins_bound ts) _ _ fails) ∙ rest) in
                let b = next_some (within BAR CLOSE_BRACE (reader 0) a.0.1) _ p a.2 in
                node_at t ts (raw_comprehension a.0.0 b.0.0) b.0.1 p b.2 (led_node (Sign OPEN_BRACE) ((Names a.0.0 ⌢ JustSign BAR ⌢ Term b.0.0 0) ⌢ JustSign CLOSE_BRACE) (raw_comprehension a.0.0 b.0.0) t ts b.0.1 (λ written q. q) k
                (front_same (Names a.0.0 ⌢ JustSign BAR ⌢ Term b.0.0 0 ⌢ JustSign CLOSE_BRACE) ((Names a.0.0 ⌢ JustSign BAR ⌢ Term b.0.0 0) ⌢ JustSign CLOSE_BRACE) ts b.0.1 (regrouped_bar (Names a.0.0) (Term b.0.0 0) (JustSign CLOSE_BRACE))
                (front_joined (Names a.0.0) (JustSign BAR ⌢ Term b.0.0 0 ⌢ JustSign CLOSE_BRACE) ts a.0.1 b.0.1 (sound_names ts a.0 a.1) (sound_within BAR CLOSE_BRACE (reader 0) (λ t. Term t 0) (sound 0 (omega arith)) a.0.1 b.0 b.1)))))
          ])
    ]
  ]
]

-- ---- parentheses
pair_bare : (node : RawTreeNode) (at : ℕ) (tokens : List Token) → InParentheses (Starting at (Commas node)) tokens → Bare node 11 tokens
pair_bare (raw_pair a b) at tokens p = (p.0, p.1, p.2, p.3, (p.4.0, p.4.1, p.4.2, p.4.3.4, p.4.4))
pair_bare _ at tokens p = elim p.4.3.4 [ ]

composition_bare : (node : RawTreeNode) (at : ℕ) (tokens : List Token) → InParentheses (Starting at (Semicolons node)) tokens → Bare node 11 tokens
composition_bare (raw_composition r s) at tokens p = (p.0, p.1, p.2, p.3, (p.4.0, p.4.1, p.4.2, p.4.3.4, p.4.4))
composition_bare _ at tokens p = elim p.4.3.4 [ ]

-- a row in parentheses, which then starts where they do
abbrev RowInParens : (RawTree → List Token → Type 0) → Type 0
RowInParens Row = (t : Token) (x : RawTree) (ts rest : List Token) → t.kind ≡ Sign OPEN_PAREN → Front (Row x ⌢ JustSign CLOSE_PAREN) ts rest → Front (Term (moved t.start x) 11) (t ∷ ts) rest

comma_row_in_parens : RowInParens CommaRow
comma_row_in_parens t (raw at node) ts rest k f = front_same (Starting t.start (Bare node 11)) (Term (raw t.start node) 11) (t ∷ ts) rest (λ written q. inl q) (led_node (Sign OPEN_PAREN) (Starting at (Commas node) ⌢ JustSign CLOSE_PAREN) node t ts rest (pair_bare node at) k f)

semicolon_row_in_parens : RowInParens SemicolonRow
semicolon_row_in_parens t (raw at node) ts rest k f = front_same (Starting t.start (Bare node 11)) (Term (raw t.start node) 11) (t ∷ ts) rest (λ written q. inl q) (led_node (Sign OPEN_PAREN) (Starting at (Semicolons node) ⌢ JustSign CLOSE_PAREN) node t ts rest (composition_bare node at) k f)

-- the parenthesis that closes is no other sign
closes_apart : (op : ℕ) (ts : List Token) (p : Token × List Token) → ((t : Token) (us : List Token) → begins_with op (of_kind (Sign CLOSE_PAREN) t ∷ us) ≡ false) → sign CLOSE_PAREN ts ≡ Some p → begins_with op ts ≡ true → ⊥
closes_apart op ts p h e holds =
    let f = sound_sign CLOSE_PAREN ts p e in
    let is : ts ≡ of_kind (Sign CLOSE_PAREN) f.piece.0 ∷ p.1 = f.is ∙ ap (λ us. us ++ p.1) (just_is (Sign CLOSE_PAREN) f.written f.piece) in
    false≢true (sym (h f.piece.0 p.1) ∙ sym (ap (begins_with op) is) ∙ holds)

sound_row : (reader : TermReader) → SoundTerms reader → (op : ℕ) (make : RawTree → RawTree → RawTreeNode) (Several Row : RawTree → List Token → Type 0) → RowOf op make Several Row → ((t : RawTree) (tokens : List Token) → Row t tokens → Several t tokens) → ((t : RawTree) (tokens : List Token) → Term t 0 tokens → Several t tokens) → ((t : RawTree) → Begins (Several t)) → RowInParens Row → ((t : Token) (us : List Token) → begins_with op (of_kind (Sign CLOSE_PAREN) t ∷ us) ≡ false) → (m : ℕ) (t : Token) (ts : List Token) (first : RawTree) (us : List Token) (p : RawTree × List Token) → t.kind ≡ Sign OPEN_PAREN → Front (Term first 0) ts us → begins_with op us ≡ true → next (chain m reader op make (start ts) first us) (λ x vs. next (sign CLOSE_PAREN vs) (λ _ ws. Some (moved t.start x, ws))) ≡ Some p → Front (Term p.0 11) (t ∷ ts) p.1
sound_row reader sound op make Several Row row several single begins parens apart m t ts first us p k f holds e =
    let a = next_some (chain m reader op make (start ts) first us) _ p e in
    let b = next_some (sign CLOSE_PAREN a.0.1) _ p a.2 in
    elim (chain_grows reader sound op make Several Row row several begins m (start ts) first f.written us a.0 (single first f.written f.piece) (front_start (Term first 0) ts us f (begins_term first 0 f.written f.piece)) a.1) [
      | inl same ↦ absurd (closes_apart op a.0.1 b.0 apart b.1 (ap (λ (q : RawTree × List Token). begins_with op q.1) (sym same) ∙ holds))
      | inr g ↦ front_at (λ t. Term t 11) (t ∷ ts) (moved t.start a.0.0) b.0.1 p b.2 (parens t a.0.0 ts b.0.1 k (front_joined (Row a.0.0) (JustSign CLOSE_PAREN) ts a.0.1 b.0.1 (front_of_grown (Term first 0) (Row a.0.0) ts us a.0.1 f g) (sound_sign CLOSE_PAREN a.0.1 b.0 b.1)))
    ]

sound_parentheses : (reader : TermReader) → SoundTerms reader → (m : ℕ) (t : Token) (ts : List Token) (p : RawTree × List Token) → t.kind ≡ Sign OPEN_PAREN → parentheses m reader t.start ts ≡ Some p → Front (Term p.0 11) (t ∷ ts) p.1
sound_parentheses reader sound m t ts p k e =
    let a = next_some (reader 0 ts) _ p e in
    let f = sound 0 (omega arith) ts a.0 a.1 in
    elim (cases_Bool (begins_with COMMA a.0.1)) [
      | inl holds ↦ sound_row reader sound COMMA raw_pair Listed CommaRow (λ at a b tokens q. q) listed_row listed_term begins_listed comma_row_in_parens (λ t us. refl) m t ts a.0.0 a.0.1 p k f holds (sym (cond-true (begins_with COMMA a.0.1) _ _ holds) ∙ a.2)
      | inr first ↦ elim (cases_Bool (begins_with SEMICOLON a.0.1)) [
        | inl holds ↦ sound_row reader sound SEMICOLON raw_composition Sequenced SemicolonRow (λ at a b tokens q. q) sequenced_row sequenced_term begins_sequenced semicolon_row_in_parens (λ t us. refl) m t ts a.0.0 a.0.1 p k f holds (sym (cond-true (begins_with SEMICOLON a.0.1) _ _ holds) ∙ sym (cond-false (begins_with COMMA a.0.1) _ _ first) ∙ a.2)
        | inr second ↦
            (let b = next_some (sign CLOSE_PAREN a.0.1) _ p (sym (cond-false (begins_with SEMICOLON a.0.1) _ _ second) ∙ sym (cond-false (begins_with COMMA a.0.1) _ _ first) ∙ a.2) in
            front_at (λ t. Term t 11) (t ∷ ts) a.0.0 b.0.1 p b.2 (front_same (InParentheses (Term a.0.0 0)) (Term a.0.0 11) (t ∷ ts) b.0.1 (parens_term a.0.0 11) (front_led (Sign OPEN_PAREN) (Term a.0.0 0 ⌢ JustSign CLOSE_PAREN) t ts b.0.1 k (front_joined (Term a.0.0 0) (JustSign CLOSE_PAREN) ts a.0.1 b.0.1 f (sound_sign CLOSE_PAREN a.0.1 b.0 b.1)))))
      ]
    ]

-- ---- primaries
at_byte_is : (at : ℕ) (o : Option (RawTreeNode × List Token)) (p : RawTree × List Token) → at_byte at o ≡ Some p → (q : RawTreeNode × List Token) × (o ≡ Some q) × (Some (raw at q.0, q.1) ≡ Some p)
at_byte_is at None p e = none_some p e
at_byte_is at (Some q) p e = (q, refl, e)

-- a node as a term
node_term : (t : Token) (ts : List Token) (o : Option (RawTreeNode × List Token)) (p : RawTree × List Token) → ((q : RawTreeNode × List Token) → o ≡ Some q → Front (Starting t.start (Bare q.0 11)) (t ∷ ts) q.1) → at_byte t.start o ≡ Some p → Front (Term p.0 11) (t ∷ ts) p.1
node_term t ts o p h e =
    let a = at_byte_is t.start o p e in
    front_at (λ t. Term t 11) (t ∷ ts) (raw t.start a.0.0) a.0.1 p a.2 (front_same (Starting t.start (Bare a.0.0 11)) (Term (raw t.start a.0.0) 11) (t ∷ ts) a.0.1 (λ written q. inl q) (h a.0 a.1))

leaf_term : (t : Token) (ts : List Token) (node : RawTreeNode) (p : RawTree × List Token) → Bare node 11 (t ∷ []) → Some (raw t.start node, ts) ≡ Some p → Front (Term p.0 11) (t ∷ ts) p.1
leaf_term t ts node p b e = node_term t ts (Some (node, ts)) p (λ q same. node_at t ts node ts q same (just_node node t ts b)) e

sound_worded : (reader : TermReader) → SoundTerms reader → (t : Token) (c : Option Constant) (o : Option WordOp) → ((x : Constant) → c ≡ Some x → t.kind ≡ constant_kind x) → ((x : WordOp) → o ≡ Some x → t.kind ≡ word_kind x) → (ts : List Token) (q : RawTreeNode × List Token) → worded reader ts c o ≡ Some q → Front (Starting t.start (Bare q.0 11)) (t ∷ ts) q.1
sound_worded reader sound t (Some c) o h g ts q e = node_at t ts (raw_constant c) ts q e (just_node (raw_constant c) t ts (t, refl, h c refl))
sound_worded reader sound t None None h g ts q e = none_some q e
sound_worded reader sound t None (Some o) h g ts q e =
    let a = next_some (within OPEN_PAREN CLOSE_PAREN (reader 0) ts) _ q e in
    node_at t ts (raw_word o a.0.0) a.0.1 q a.2 (led_node (word_kind o) (InParentheses (Term a.0.0 0)) (raw_word o a.0.0) t ts a.0.1 (λ written p. p) (g o refl) (sound_within OPEN_PAREN CLOSE_PAREN (reader 0) (λ t. Term t 0) (sound 0 (omega arith)) ts a.0 a.1))

sound_primary_sign : (reader : TermReader) → SoundTerms reader → (m op : ℕ) (t : Token) (ts : List Token) (p : RawTree × List Token) → t.kind ≡ Sign op → primary_at m reader (Sign op) t.start ts ≡ Some p → Front (Term p.0 11) (t ∷ ts) p.1
sound_primary_sign reader sound m op t ts p k e = elim (cases_Bool (nat_eq op OPEN_PAREN)) [
  | inl holds ↦ sound_parentheses reader sound m t ts p (k ∙ ap Sign (eqb-true op OPEN_PAREN holds)) (sym (cond-true (nat_eq op OPEN_PAREN) _ _ holds) ∙ e)
  | inr first ↦ (let e1 = sym (cond-false (nat_eq op OPEN_PAREN) _ _ first) ∙ e in elim (cases_Bool (nat_eq op OPEN_BRACE)) [
    | inl holds ↦ node_term t ts (braces m reader ts) p (sound_braces reader sound m t (k ∙ ap Sign (eqb-true op OPEN_BRACE holds)) ts) (sym (cond-true (nat_eq op OPEN_BRACE) _ _ holds) ∙ e1)
    | inr second ↦ (let e2 = sym (cond-false (nat_eq op OPEN_BRACE) _ _ second) ∙ e1 in elim (cases_Bool (nat_eq op FOR_ALL)) [
      | inl holds ↦ node_term t ts (quantified m reader raw_for_all raw_typed_for_all ts) p (sound_quantified FOR_ALL raw_for_all raw_typed_for_all (λ xs p written q. q) (λ bs p written q. q) reader sound m t (k ∙ ap Sign (eqb-true op FOR_ALL holds)) ts) (sym (cond-true (nat_eq op FOR_ALL) _ _ holds) ∙ e2)
      | inr third ↦ (let e3 = sym (cond-false (nat_eq op FOR_ALL) _ _ third) ∙ e2 in elim (cases_Bool (nat_eq op EXISTS)) [
        | inl holds ↦ node_term t ts (quantified m reader raw_exists raw_typed_exists ts) p (sound_quantified EXISTS raw_exists raw_typed_exists (λ xs p written q. q) (λ bs p written q. q) reader sound m t (k ∙ ap Sign (eqb-true op EXISTS holds)) ts) (sym (cond-true (nat_eq op EXISTS) _ _ holds) ∙ e3)
        | inr fourth ↦ (let e4 = sym (cond-false (nat_eq op EXISTS) _ _ fourth) ∙ e3 in elim (cases_Bool (nat_eq op LAMBDA)) [
          | inl holds ↦ node_term t ts (lambda m reader ts) p (sound_lambda reader sound m t (k ∙ ap Sign (eqb-true op LAMBDA holds)) ts) (sym (cond-true (nat_eq op LAMBDA) _ _ holds) ∙ e4)
          | inr fails ↦ none_some p (sym (cond-false (nat_eq op LAMBDA) _ _ fails) ∙ e4)
        ])
      ])
    ])
  ])
]

sound_primary_at : (reader : TermReader) → SoundTerms reader → (m : ℕ) (kind : TokenKind) (t : Token) (ts : List Token) (p : RawTree × List Token) → t.kind ≡ kind → primary_at m reader kind t.start ts ≡ Some p → Front (Term p.0 11) (t ∷ ts) p.1
sound_primary_at reader sound m (Name text) t ts p k e = leaf_term t ts (raw_name text) p (t, refl, k) e
sound_primary_at reader sound m (LevelName text n) t ts p k e = leaf_term t ts (raw_level_name text n) p (t, refl, k) e
sound_primary_at reader sound m (BoundName n) t ts p k e = leaf_term t ts (raw_bound_name n) p (t, refl, k) e
sound_primary_at reader sound m (Number (pos n)) t ts p k e = leaf_term t ts (raw_number (pos n)) p (inl (n, refl, (t, refl, k))) e
sound_primary_at reader sound m (Number (negsuc n)) t ts p k e = none_some p e
sound_primary_at reader sound m (Word op) t ts p k e = node_term t ts (worded reader ts (constant_of (Word op)) (word_of (Word op))) p (sound_worded reader sound t (constant_of (Word op)) (word_of (Word op)) (λ c found. k ∙ sym (constant_of_is (Word op) c found)) (λ o found. k ∙ sym (word_of_is (Word op) o found)) ts) e
sound_primary_at reader sound m (Sign op) t ts p k e = sound_primary_sign reader sound m op t ts p k e

pub sound_tight : (reader : TermReader) → SoundTerms reader → (m : ℕ) → Sound (tight m reader) (λ t. Term t 11)
sound_tight reader sound m [] p e = none_some p e
sound_tight reader sound m (t ∷ ts) p e =
    let a = next_some (primary_at m reader t.kind t.start ts) _ p e in
    let f = sound_primary_at reader sound m t.kind t ts a.0 refl a.1 in
    front_of_grown (Term a.0.0 11) (Term p.0 11) (t ∷ ts) a.0.1 p.1 f
    (postfixed_grows reader sound m t.start a.0.0 f.written a.0.1 p f.piece (front_start (Term a.0.0 11) (t ∷ ts) a.0.1 f (begins_term a.0.0 11 f.written f.piece)) a.2)

-- ---- operands
-- the term stands where no more than this is asked
abbrev pub StandsUpTo : RawTree → ℕ → List Token → Type 0
StandsUpTo t strength tokens = (asked : ℕ) → asked ≤ strength → Term t asked tokens

-- two terms that stand at one place as the same tokens are the same
one_term : (one other : RawTree) (asked : ℕ) (tokens : List Token) → asked ≤ 11 → Term one asked tokens → Term other asked tokens → one ≡ other
one_term one other asked tokens l p q =
    let n = length tokens in
    let same = some_same (one, []) (other, []) (sym (exact_term one (reads one) asked l n tokens [] p (omega arith) (stops_end asked)) ∙ exact_term other (reads other) asked l n tokens [] q (omega arith) (stops_end asked)) in
    ap (λ (r : RawTree × List Token). r.0) same

number_same : (j n : ℕ) → Number (pos j) ≡ Number (pos n) → j ≡ n
number_same j n e = cc

signed_cases : (kind : TokenKind) (x : RawTree) → ((n at : ℕ) × (z : ℤ) × (kind ≡ Number (pos n)) × (x ≡ raw at (raw_number z))) ⊎ ((signed kind x ≡ raw_negative x) × ((n at : ℕ) (z : ℤ) → kind ≡ Number (pos n) → x ≡ raw at (raw_number z) → ⊥))
signed_cases (Number (pos n)) (raw at (raw_number z)) = inl (n, at, z, refl, refl)
signed_cases _ _ = inr (refl, λ n at z e f. absurd cc)

front_kind_is : (tokens rest : List Token) → Begun tokens → front_kind (tokens ++ rest) ≡ front_kind tokens
front_kind_is tokens rest b = ap (λ ts. front_kind (ts ++ rest)) b.2 ∙ ap front_kind (sym b.2)

digits_of : (at : ℕ) (z : ℤ) (tokens : List Token) (n : ℕ) → Term (raw at (raw_number z)) 11 tokens → front_kind tokens ≡ Number (pos n) → Digits n tokens
digits_of at z tokens n p e = elim p [
  | inl q ↦ elim q.4 [
    | inl digits ↦ subst (λ j. Digits j tokens) (number_same digits.0 n (sym (ap front_kind (just_is (Number (pos digits.0)) tokens digits.2)) ∙ e)) digits.2
    | inr minus ↦ absurd (omega (arith, minus.2.0))
  ]
  | inr q ↦ (let v = led (Sign OPEN_PAREN) (WithParentheses q.0 (Starting at (Literal z 0)) ⌢ JustSign CLOSE_PAREN) tokens q.1 in absurd (sign_is_no_number OPEN_PAREN n (sym (ap front_kind v.is) ∙ e)))
]

minus_term : (t : Token) (x : RawTree) (ts rest : List Token) (f : Front (Term x 11) ts rest) → t.kind ≡ Sign MINUS → StandsUpTo (raw t.start (signed (front_kind ts) x)) 10 (t ∷ f.written)
minus_term t x ts rest f k asked l =
    let here : front_kind ts ≡ front_kind f.written = ap front_kind f.is ∙ front_kind_is f.written rest (begins_term x 11 f.written f.piece) in
    elim (signed_cases (front_kind ts) x) [
      | inl number ↦
          (let digits = digits_of number.1 number.2 f.written number.0 (subst (λ x. Term x 11 f.written) number.4 f.piece) (sym here ∙ number.3) in
          let literal : Term (raw t.start (raw_number (neg_ℤ (pos number.0)))) asked (t ∷ f.written) = inl (t, f.written, refl, refl, inr (number.0, refl, (l, (t ∷ [], f.written, refl, (t, refl, k), digits)))) in
          subst (λ node. Term (raw t.start node) asked (t ∷ f.written)) (λ i. signed (sym number.3 i) (sym number.4 i)) literal)
      | inr other ↦
          (let negative : Term (raw t.start (raw_negative x)) asked (t ∷ f.written) = inl (t, f.written, refl, refl, (l, (t ∷ [], f.written, refl, (t, refl, k), (f.piece, λ n d. other.1 n d.0.start (pos n) (here ∙ ap front_kind (just_is (Number (pos n)) f.written d)) (one_term x (raw d.0.start (raw_number (pos n))) 11 f.written (omega arith) f.piece (inl (d.0, [], d.1, refl, inl (n, refl, d)))))))) in
          subst (λ node. Term (raw t.start node) asked (t ∷ f.written)) (sym other.0) negative)
    ]

pub record OperandRead (t : RawTree) (strength : ℕ) (tokens rest : List Token) : Type 0 where
  pub front : Front (StandsUpTo t strength) tokens rest
  pub strong : 10 ≤ strength

operand_at : (tokens : List Token) (t : RawTree) (strength : ℕ) (rest : List Token) (p : (RawTree × ℕ) × List Token) → Some ((t, strength), rest) ≡ Some p → OperandRead t strength tokens rest → OperandRead p.0.0 p.0.1 tokens p.1
operand_at tokens t strength rest p e o = subst (λ (q : (RawTree × ℕ) × List Token). OperandRead q.0.0 q.0.1 tokens q.1) (some_same ((t, strength), rest) p e) o

pub sound_operand : (reader : TermReader) → SoundTerms reader → (m : ℕ) (tokens : List Token) (p : (RawTree × ℕ) × List Token) → operand m reader tokens ≡ Some p → OperandRead p.0.0 p.0.1 tokens p.1
sound_operand reader sound m [] p e = none_some p e
sound_operand reader sound m (t ∷ ts) p e = elim (cases_Bool (begins_with MINUS (t ∷ ts))) [
  | inl holds ↦
      (let front : sign MINUS (t ∷ ts) ≡ Some (t, ts) = cond-true (begins_with MINUS (t ∷ ts)) _ _ holds in
      let step = sym (ap (λ o. next {A = Token} o (λ t us. next (tight m reader us) (λ x vs. Some ((raw t.start (signed (front_kind us) x), 10), vs)))) front) ∙ sym (cond-true (begins_with MINUS (t ∷ ts)) _ _ holds) ∙ e in
      let a = next_some (tight m reader ts) _ p step in
      let f = sound_tight reader sound m ts a.0 a.1 in
      operand_at (t ∷ ts) (raw t.start (signed (front_kind ts) a.0.0)) 10 a.0.1 p a.2 (record {
        front = record { written = t ∷ f.written; is = ap (λ us. t ∷ us) f.is; piece = minus_term t a.0.0 ts a.0.1 f (same_kind_sign t.kind MINUS holds) };
        strong = omega arith;
      }))
  | inr fails ↦
      (let a = next_some (tight m reader (t ∷ ts)) _ p (sym (cond-false (begins_with MINUS (t ∷ ts)) _ _ fails) ∙ e) in
      let f = sound_tight reader sound m (t ∷ ts) a.0 a.1 in
      operand_at (t ∷ ts) a.0.0 11 a.0.1 p a.2 (record { front = record { written = f.written; is = f.is; piece = λ asked l. term_weaker a.0.0 11 asked f.written l f.piece }; strong = omega arith }))
]

-- ---- operators
pub right_small : (o : InfixOp) → (binding o).right ≤ 10
right_small And = leb-true _ _ refl
right_small _ = leb-true _ _ refl

-- an operator between two terms
pub joined_term : (o : InfixOp) (a b : RawTree) (at strength : ℕ) (t : Token) (before after : List Token) → t.kind ≡ infix_kind o → (binding o).left ≤ strength → StandsUpTo a strength before → start before ≡ at → Term b (binding o).right after → StandsUpTo (raw at (raw_infix o a b)) (binding o).own (before ++ (t ∷ after))
joined_term o a b at strength t before after k l x s y asked m =
    let left : Term a (binding o).left before = x (binding o).left l in
    let p = starting_joined at (Term a (binding o).left) (Just (infix_kind o) ⌢ Term b (binding o).right) before (t ∷ after) (begins_term a (binding o).left before left) s left (t ∷ [], after, refl, (t, refl, k), y) in
    inl (p.0, p.1, p.2, p.3, (m, p.4))

-- what the loop over operators reads behind a term
abbrev JoinedGrows : (RawTree → ℕ → List Token → Option (RawTree × List Token)) → ℕ → ℕ → Type 0
JoinedGrows loop asked at = (t : RawTree) (strength : ℕ) (before tokens : List Token) (p : RawTree × List Token) → StandsUpTo t strength before → start before ≡ at → asked ≤ strength → loop t strength tokens ≡ Some p → Grown (Term p.0 asked) before tokens p.1

joined_by_grows : (more : RawTree → ℕ → List Token → Option (RawTree × List Token)) (reader : TermReader) → SoundTerms reader → (asked at : ℕ) → JoinedGrows more asked at → (t : RawTree) (strength : ℕ) (before : List Token) (u : Token) (ts : List Token) (found : Option InfixOp) (p : RawTree × List Token) → ((o : InfixOp) → found ≡ Some o → infix_kind o ≡ u.kind) → StandsUpTo t strength before → start before ≡ at → asked ≤ strength → joined_by more reader asked at t strength u ts found ≡ Some p → Grown (Term p.0 asked) before (u ∷ ts) p.1
joined_by_grows more reader sound asked at grows t strength before u ts None p h x s l e = grown_stays (λ t. Term t asked) before t (u ∷ ts) p (some_same (t, u ∷ ts) p e) (x asked l)
joined_by_grows more reader sound asked at grows t strength before u ts (Some o) p h x s l e = elim (cases_Bool (nat_le asked (binding o).own && nat_le (binding o).left strength)) [
  | inl holds ↦
      (let both = and_parts (nat_le asked (binding o).own) (nat_le (binding o).left strength) holds in
      elim (or_else_cases (next (reader (binding o).right ts) (λ right us. more (raw at (raw_infix o t right)) (binding o).own us)) (t, u ∷ ts) p (sym (cond-true (nat_le asked (binding o).own && nat_le (binding o).left strength) _ _ holds) ∙ e)) [
        | inl goes ↦
            (let a = next_some (reader (binding o).right ts) _ p goes in
            let f = sound (binding o).right (right_small o) ts a.0 a.1 in
            let g : Front (Just (infix_kind o) ⌢ Term a.0.0 (binding o).right) (u ∷ ts) a.0.1 = record { written = u ∷ f.written; is = ap (λ us. u ∷ us) f.is; piece = (u ∷ [], f.written, refl, (u, refl, sym (h o refl)), f.piece) } in
            grown_after (Just (infix_kind o) ⌢ Term a.0.0 (binding o).right) (Term p.0 asked) before (u ∷ ts) a.0.1 p.1 g
            (grows (raw at (raw_infix o t a.0.0)) (binding o).own (before ++ (u ∷ f.written)) a.0.1 p (joined_term o t a.0.0 at strength u before f.written (sym (h o refl)) (leb-true (binding o).left strength both.1) x s f.piece) (begun_start before (u ∷ f.written) (begins_term t 0 before (x 0 (omega arith))) ∙ s) (leb-true asked (binding o).own both.0) a.2))
        | inr stays ↦ grown_stays (λ t. Term t asked) before t (u ∷ ts) p stays (x asked l)
      ])
  | inr fails ↦ grown_stays (λ t. Term t asked) before t (u ∷ ts) p (some_same (t, u ∷ ts) p (sym (cond-false (nat_le asked (binding o).own && nat_le (binding o).left strength) _ _ fails) ∙ e)) (x asked l)
]

joined_more_grows : (reader : TermReader) → SoundTerms reader → (m asked at : ℕ) → JoinedGrows (operators_after m reader asked at) asked at → JoinedGrows (operators_after (suc m) reader asked at) asked at
joined_more_grows reader sound m asked at grows t strength before [] p x s l e = grown_stays (λ t. Term t asked) before t [] p (some_same (t, []) p e) (x asked l)
joined_more_grows reader sound m asked at grows t strength before (u ∷ ts) p x s l e = joined_by_grows (operators_after m reader asked at) reader sound asked at grows t strength before u ts (infix_of u.kind) p (infix_of_is u.kind) x s l e

pub joined_grows : (reader : TermReader) → SoundTerms reader → (m asked at : ℕ) → JoinedGrows (operators_after m reader asked at) asked at
joined_grows reader sound zero asked at = λ t strength before tokens p x s l e. grown_stays (λ t. Term t asked) before t tokens p (some_same (t, tokens) p e) (x asked l)
joined_grows reader sound (suc m) asked at = λ t strength before tokens p x s l e. joined_more_grows reader sound m asked at (joined_grows reader sound m asked at) t strength before tokens p x s l e

-- ---- terms
pub sound_read : (n : ℕ) → SoundTerms (read n)
sound_read zero asked l tokens p e = none_some p e
sound_read (suc n) asked l tokens p e =
    let a = next_some (operand n (read n) tokens) _ p e in
    let o = sound_operand (read n) (sound_read n) n tokens a.0 a.1 in
    let strength = a.0.0.1 in
    front_of_grown (StandsUpTo a.0.0.0 strength) (Term p.0 asked) tokens a.0.1 p.1 o.front
    (joined_grows (read n) (sound_read n) n asked (start tokens) a.0.0.0 strength o.front.written a.0.1 p o.front.piece (front_start (StandsUpTo a.0.0.0 strength) tokens a.0.1 o.front (begins_term a.0.0.0 0 o.front.written (o.front.piece 0 (omega arith)))) (omega (arith, l, o.strong)) a.2)

-- what is read as a term alone is written in front
pub read_spells : (n : ℕ) (tokens : List Token) (tree : RawTree) (rest : List Token) → read n 0 tokens ≡ Some (tree, rest) → (written : List Token) × (tokens ≡ written ++ rest) × Spells tree written
read_spells n tokens tree rest e = let f = sound_read n 0 (omega arith) tokens (tree, rest) e in (f.written, f.is, f.piece)
