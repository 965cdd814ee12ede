-- What the reader's loops do with a term: they come to it with the rest of the tokens, and some fuel left.
use Rattle.std.specs.Prelude.{◌≡◌, ℕ, zero, suc, ◌+◌, ◌-◌, ◌≤◌, true, false, cond, nat_le, ◌&&◌, List, [], ◌∷◌, ◌++◌, ◌⊎◌, length, Option, None, Some, refl}
use Rattle.std.proofs.Common.{arith, inl, inr, sym, ◌∙◌, ap}
use Rattle.std.proofs.lemmas.Bool.{cond-true, cond-false, cases_Bool, false≢true, eqb-true, and_from, le-leb}
use Rattle.bk_form.specs.declared.token.Token.{Token}
use Rattle.bk_form.specs.declared.token.TokenKind.{TokenKind}
use Rattle.bk_form.specs.declared.token.TokenKind.TheVariants.{Name, LevelName, BoundName, Number, Sign, Word}
use Rattle.bk_ops.specs.declared.sign.TheConstants.{MINUS, SEMICOLON, COMMA, CLOSE_PAREN}
use Rattle.bk_raw.specs.Trees.Operators.{infix_kind, binding}
use Rattle.bk_raw.specs.declared.operator.InfixOp.{InfixOp}
use Rattle.bk_raw.specs.Grammar.Pieces.{Just, JustSign, ◌⌢◌, Starting, Binding}
use Rattle.bk_raw.specs.Trees.RawTree.{RawTree, raw, RawTreeNode, raw_infix, raw_composition, raw_pair}
use Rattle.bk_raw.specs.Grammar.Reading.{same_kind, next, sign, begins_with, start, or_else, moved, chain, arguments, parentheses, primary_at, postfixed, tight, operand, operators_after, joined_by, read}
use Rattle.bk_raw.proofs.WrittenKinds.{infix_of-kind}
use Rattle.bk_raw.proofs.Shapes.{of_kind, kind_known, Led, led, Begun, begun_joined, begun_start, begun_length, appended, lengths, sign_front, begins_front}
use Rattle.bk_raw.proofs.Stopping.{none_some, own_left, Stops, Admits, admits_of_stops, IsEnd, Before, before_stops, close_paren_ends, operator_admits, postfixed_ends, chain_ends, joined_ends, joined_gives, or_else_taken}
use Rattle.bk_raw.proofs.Combining.{Exact, Anything, exact_last, before_last, before_joined}

-- ---- what is said of the loops
-- the loop of operators has come to the term
pub record Looped (n asked least : ℕ) (t : RawTree) (tokens rest : List Token) : Type 0 where
  pub fuel : ℕ
  pub strength : ℕ
  pub enough : n + 1 ≤ fuel + length tokens
  pub binds : least ≤ strength
  pub is : read (suc n) asked (tokens ++ rest) ≡ operators_after fuel (read n) asked (start tokens) t strength rest

abbrev pub Loops : (List Token → Type 0) → RawTree → ℕ → Type 0
Loops Piece t least = (n asked : ℕ) (tokens rest : List Token) → Piece tokens → length tokens ≤ n + 1 → asked ≤ least → Admits least rest → Looped n asked least t tokens rest

-- the loop of ~, [s] and (x) has come to the term
pub record Tightened (n : ℕ) (t : RawTree) (tokens rest : List Token) : Type 0 where
  pub fuel : ℕ
  pub enough : n + 1 ≤ fuel + length tokens
  pub is : tight n (read n) (tokens ++ rest) ≡ postfixed fuel (read n) (start tokens) t rest

abbrev pub Tights : (List Token → Type 0) → RawTree → Type 0
Tights Piece t = (n : ℕ) (tokens rest : List Token) → Piece tokens → length tokens ≤ n + 1 → Tightened n t tokens rest

-- the piece is never empty
abbrev pub Begins : (List Token → Type 0) → Type 0
Begins Piece = (tokens : List Token) → Piece tokens → Begun tokens

pub begins_starting : (at : ℕ) (Piece : List Token → Type 0) → Begins (Starting at Piece)
begins_starting at Piece tokens p = (p.0, p.1, p.2)

pub starts : (at : ℕ) (Piece : List Token → Type 0) (tokens : List Token) → Starting at Piece tokens → start tokens ≡ at
starts at Piece tokens p = ap start p.2 ∙ p.3

-- ---- a term that a primary is
abbrev pub primary : ℕ → (ℕ → List Token → Option (RawTree × List Token)) → List Token → Option (RawTree × List Token)
primary m reader [] = None
primary m reader (t ∷ ts) = primary_at m reader t.kind t.start ts

pub tight_is : (m : ℕ) (reader : ℕ → List Token → Option (RawTree × List Token)) (ts : List Token) → tight m reader ts ≡ next (primary m reader ts) (λ x us. postfixed m reader (start ts) x us)
tight_is m reader [] = refl
tight_is m reader (t ∷ ts) = refl

pub tights_of_primary : (Piece : List Token → Type 0) (t : RawTree) → Begins Piece → ((n : ℕ) (tokens rest : List Token) → Piece tokens → length tokens ≤ n + 1 → primary n (read n) (tokens ++ rest) ≡ Some (t, rest)) → Tights Piece t
tights_of_primary Piece t begins h n tokens rest p l = record {
  fuel = n;
  enough = omega (arith, begun_length tokens (begins tokens p));
  is = tight_is n (read n) (tokens ++ rest)
      ∙ ap (λ o. next o (λ x us. postfixed n (read n) (start (tokens ++ rest)) x us)) (h n tokens rest p l)
      ∙ ap (λ s. postfixed n (read n) s t rest) (begun_start tokens rest (begins tokens p));
}

-- ---- an operand
pub same_kind_sign : (kind : TokenKind) (op : ℕ) → same_kind kind (Sign op) ≡ true → kind ≡ Sign op
same_kind_sign (Name text) op e = absurd (false≢true e)
same_kind_sign (LevelName text n) op e = absurd (false≢true e)
same_kind_sign (BoundName n) op e = absurd (false≢true e)
same_kind_sign (Number z) op e = absurd (false≢true e)
same_kind_sign (Word w) op e = absurd (false≢true e)
same_kind_sign (Sign o) op e = ap Sign (eqb-true o op e)

-- what is read as a primary begins with no minus sign
pub not_minus : (m : ℕ) (reader : ℕ → List Token → Option (RawTree × List Token)) (ts : List Token) (p : RawTree × List Token) → tight m reader ts ≡ Some p → begins_with MINUS ts ≡ false
not_minus m reader [] p e = refl
not_minus m reader (t ∷ ts) p e = elim (cases_Bool (begins_with MINUS (t ∷ ts))) [
  | inl holds ↦ none_some p (sym (ap (λ t. tight m reader (t ∷ ts)) (kind_known t (Sign MINUS) (same_kind_sign t.kind MINUS holds))) ∙ e)
  | inr fails ↦ fails
]

pub operand_is : (m : ℕ) (reader : ℕ → List Token → Option (RawTree × List Token)) (ts : List Token) (p : RawTree × List Token) → tight m reader ts ≡ Some p → operand m reader ts ≡ Some ((p.0, 11), p.1)
operand_is m reader ts p e = cond-false (begins_with MINUS ts) _ _ (not_minus m reader ts p e) ∙ ap (λ o. next o (λ x us. Some ((x, 11), us))) e

pub loops_of_tights : (Piece : List Token → Type 0) (t : RawTree) (least : ℕ) → least ≤ 11 → Begins Piece → Tights Piece t → Loops Piece t least
loops_of_tights Piece t least within begins h n asked tokens rest p l a admits =
    let v = h n tokens rest p l in
    record {
      fuel = n;
      strength = 11;
      enough = omega (arith, begun_length tokens (begins tokens p));
      binds = within;
      is = ap (λ o. next o (λ x us. operators_after n (read n) asked (start (tokens ++ rest)) x.0 x.1 us)) (operand_is n (read n) (tokens ++ rest) (t, rest) (v.is ∙ postfixed_ends v.fuel (read n) (start tokens) t rest admits.postfix))
          ∙ ap (λ s. operators_after n (read n) asked s t 11 rest) (begun_start tokens rest (begins tokens p));
    }

-- a term is read exactly where nothing goes on with it
pub exact_of_loops : (Piece : List Token → Type 0) (t : RawTree) (least : ℕ) → Begins Piece → Loops Piece t least → (n : ℕ) → Exact n (read n least) Piece t (Stops least)
exact_of_loops Piece t least begins h zero tokens rest p l s = absurd (omega (arith, begun_length tokens (begins tokens p), l))
exact_of_loops Piece t least begins h (suc n) tokens rest p l s =
    let v = h n least tokens rest p (omega (arith, l)) (omega arith) (admits_of_stops least rest s) in
    v.is ∙ joined_ends v.fuel (read n) least (start tokens) t v.strength rest s.operator

-- ---- one more ~, [s] or (x)
pub postfix_step : (First Second : List Token → Type 0) (r : RawTree) (node : RawTreeNode) → Tights First r → Begins First → Begins Second → ((n m at : ℕ) (back rest : List Token) → Second back → length back ≤ n → length back ≤ m + 1 → postfixed (suc m) (read n) at r (back ++ rest) ≡ postfixed m (read n) at (raw at node) rest) → (at : ℕ) → Tights (Starting at (First ⌢ Second)) (raw at node)
postfix_step First Second r node h begins follows step at n tokens rest q l =
    let p = q.4 in
    let size : length tokens ≡ length p.0 + length p.1 = lengths tokens p.0 p.1 p.2 in
    let front : 1 ≤ length p.0 = begun_length p.0 (begins p.0 p.3) in
    let back : 1 ≤ length p.1 = begun_length p.1 (follows p.1 p.4) in
    let v = h n p.0 (p.1 ++ rest) p.3 (omega (arith, size, l)) in
    let left : v.fuel ≡ suc (v.fuel - 1) = omega (arith, size, l, front, back, v.enough) in
    let here : start tokens ≡ start p.0 = ap start p.2 ∙ begun_start p.0 p.1 (begins p.0 p.3) in
    record {
      fuel = v.fuel - 1;
      enough = omega (arith, size, front, back, v.enough, left);
      is = ap (tight n (read n)) (appended tokens p.0 p.1 rest p.2)
          ∙ v.is
          ∙ ap (λ m. postfixed m (read n) (start p.0) r (p.1 ++ rest)) left
          ∙ step n (v.fuel - 1) (start p.0) p.1 rest p.4 (omega (arith, size, front, l)) (omega (arith, size, l, v.enough))
          ∙ (λ i. postfixed (v.fuel - 1) (read n) (sym here i) (raw ((sym here ∙ starts at (First ⌢ Second) tokens q) i) node) rest);
    }

-- ---- rows of terms with commas, or semicolons, between
-- the loop over the row has come to the tree of it
pub record Chained (n c op : ℕ) (make : RawTree → RawTree → RawTreeNode) (t : RawTree) (tokens rest : List Token) : Type 0 where
  pub first : RawTree
  pub behind : List Token
  pub fuel : ℕ
  pub enough : c ≤ fuel + length tokens
  pub front : read n 0 (tokens ++ rest) ≡ Some (first, behind)
  pub goes : chain c (read n) op make (start tokens) first behind ≡ chain fuel (read n) op make (start tokens) t rest

-- behind its first term the rest stands, or the sign
abbrev pub Rows : ℕ → (RawTree → RawTree → RawTreeNode) → (List Token → Type 0) → RawTree → Type 0
Rows op make Piece t = (n c : ℕ) (tokens rest : List Token) → Piece tokens → length tokens ≤ n → length tokens ≤ c → Stops 0 rest → (v : Chained n c op make t tokens rest) × ((v.behind ≡ rest) ⊎ Before op v.behind)

pub rows_of_exact : (op : ℕ) (make : RawTree → RawTree → RawTreeNode) (Piece : List Token → Type 0) (t : RawTree) → ((n : ℕ) → Exact n (read n 0) Piece t (Stops 0)) → Rows op make Piece t
rows_of_exact op make Piece t h n c tokens rest p l k s = (record { first = t; behind = rest; fuel = c; enough = omega arith; front = h n tokens rest p l s; goes = refl }, inl refl)

pub rows_either : (op : ℕ) (make : RawTree → RawTree → RawTreeNode) (First Second : List Token → Type 0) (t : RawTree) → Rows op make First t → Rows op make Second t → Rows op make (λ tokens. First tokens ⊎ Second tokens) t
rows_either op make First Second t g h n c tokens rest p l k s = elim p [ inl q ↦ g n c tokens rest q l k s | inr q ↦ h n c tokens rest q l k s ]

chain_step : (m : ℕ) (reader : ℕ → List Token → Option (RawTree × List Token)) (op : ℕ) (make : RawTree → RawTree → RawTreeNode) (at : ℕ) (left : RawTree) (t : Token) (ts : List Token) (right : RawTree) (us : List Token) → reader 0 ts ≡ Some (right, us) → chain (suc m) reader op make at left (of_kind (Sign op) t ∷ ts) ≡ chain m reader op make at (raw at (make left right)) us
chain_step m reader op make at left t ts right us e =
    cond-true (begins_with op (of_kind (Sign op) t ∷ ts)) _ _ (begins_front op t ts)
    ∙ ap (λ o. next o (λ _ us. next (reader 0 us) (λ right vs. chain m reader op make at (raw at (make left right)) vs))) (sign_front op t ts)
    ∙ ap (λ o. next o (λ right vs. chain m reader op make at (raw at (make left right)) vs)) e

-- one more term of the row
pub row_joined : (op : ℕ) (make : RawTree → RawTree → RawTreeNode) (First Second : List Token → Type 0) (a b : RawTree) → IsEnd op → Rows op make First a → Begins First → ((n : ℕ) → Exact n (read n 0) Second b (Stops 0)) → (n c at : ℕ) (tokens rest : List Token) → (First ⌢ JustSign op ⌢ Second) tokens → start tokens ≡ at → length tokens ≤ n → length tokens ≤ c → Stops 0 rest → (v : Chained n c op make (raw at (make a b)) tokens rest) × Before op v.behind
row_joined op make First Second a b end rows begins exact n c at tokens rest p starting l k s =
    let v = led (Sign op) Second p.1 p.4 in
    let size : length tokens ≡ length p.0 + length p.1 = lengths tokens p.0 p.1 p.2 in
    let more : length p.1 ≡ length v.back + 1 = omega (arith, ap length v.is) in
    let before : Before op (p.1 ++ rest) = before_joined op Second p.1 rest p.4 in
    let f = rows n c p.0 (p.1 ++ rest) p.3 (omega (arith, size, l)) (omega (arith, size, k)) (before_stops op 0 (p.1 ++ rest) end before) in
    let left : f.0.fuel ≡ suc (f.0.fuel - 1) = omega (arith, size, more, k, f.0.enough) in
    let here : start tokens ≡ start p.0 = ap start p.2 ∙ begun_start p.0 p.1 (begins p.0 p.3) in (
      record {
        first = f.0.first;
        behind = f.0.behind;
        fuel = f.0.fuel - 1;
        enough = omega (arith, size, more, f.0.enough, left);
        front = ap (read n 0) (appended tokens p.0 p.1 rest p.2) ∙ f.0.front;
        goes = ap (λ s. chain c (read n) op make s f.0.first f.0.behind) here
            ∙ f.0.goes
            ∙ (λ i. chain (left i) (read n) op make (start p.0) a (v.is i ++ rest))
            ∙ chain_step (f.0.fuel - 1) (read n) op make (start p.0) a v.token (v.back ++ rest) b rest (exact n v.back rest v.second (omega (arith, size, more, l)) s)
            ∙ (λ i. chain (f.0.fuel - 1) (read n) op make (sym here i) (raw ((sym here ∙ starting) i) (make a b)) rest);
      },
      elim f.1 [ inl e ↦ record { token = before.token; back = before.back; is = e ∙ before.is } | inr b ↦ b ],
    )

pub rows_joined : (op : ℕ) (make : RawTree → RawTree → RawTreeNode) (First Second : List Token → Type 0) (a b : RawTree) → IsEnd op → Rows op make First a → Begins First → ((n : ℕ) → Exact n (read n 0) Second b (Stops 0)) → (at : ℕ) → Rows op make (Starting at (First ⌢ JustSign op ⌢ Second)) (raw at (make a b))
rows_joined op make First Second a b end rows begins exact at n c tokens rest q l k s =
    let v = row_joined op make First Second a b end rows begins exact n c at tokens rest q.4 (starts at (First ⌢ JustSign op ⌢ Second) tokens q) l k s in
    (v.0, inr v.1)

-- ---- parentheses
-- what is done behind the first term of a row
abbrev row_behind : ℕ → (ℕ → List Token → Option (RawTree × List Token)) → ℕ → (RawTree → RawTree → RawTreeNode) → ℕ → ℕ → RawTree → List Token → Option (RawTree × List Token)
row_behind m reader op make at inside first us = next (chain m reader op make inside first us) (λ x vs. next (sign CLOSE_PAREN vs) (λ _ ws. Some (moved at x, ws)))

-- what is done behind the first term in parentheses
abbrev paren_behind : ℕ → (ℕ → List Token → Option (RawTree × List Token)) → ℕ → ℕ → RawTree → List Token → Option (RawTree × List Token)
paren_behind m reader at inside first us =
    cond (begins_with COMMA us) (row_behind m reader COMMA raw_pair at inside first us) (
    cond (begins_with SEMICOLON us) (row_behind m reader SEMICOLON raw_composition at inside first us) (
    next (sign CLOSE_PAREN us) (λ _ vs. Some (first, vs))))

abbrev pub GoesBy : ℕ → (RawTree → RawTree → RawTreeNode) → Type 0
GoesBy op make = (m : ℕ) (reader : ℕ → List Token → Option (RawTree × List Token)) (at inside : ℕ) (first : RawTree) (us : List Token) → Before op us → paren_behind m reader at inside first us ≡ row_behind m reader op make at inside first us

pub goes_by_comma : GoesBy COMMA raw_pair
goes_by_comma m reader at inside first us b = cond-true (begins_with COMMA us) _ _ (ap (begins_with COMMA) b.is)

pub goes_by_semicolon : GoesBy SEMICOLON raw_composition
goes_by_semicolon m reader at inside first us b = cond-false (begins_with COMMA us) _ _ (ap (begins_with COMMA) b.is) ∙ cond-true (begins_with SEMICOLON us) _ _ (ap (begins_with SEMICOLON) b.is)

pub exact_row : (op : ℕ) (make : RawTree → RawTree → RawTreeNode) (First Second : List Token → Type 0) (a b : RawTree) → IsEnd op → GoesBy op make → ((t : Token) (ts : List Token) → begins_with op (of_kind (Sign CLOSE_PAREN) t ∷ ts) ≡ false) → Rows op make First a → Begins First → ((n : ℕ) → Exact n (read n 0) Second b (Stops 0)) → (n at : ℕ) → Exact n (parentheses n (read n) at) ((First ⌢ JustSign op ⌢ Second) ⌢ JustSign CLOSE_PAREN) (raw at (make a b)) Anything
exact_row op make First Second a b end goes_by apart rows begins exact n at tokens rest p l u =
    let size : length tokens ≡ length p.0 + length p.1 = lengths tokens p.0 p.1 p.2 in
    let close : Before CLOSE_PAREN (p.1 ++ rest) = before_last CLOSE_PAREN p.1 rest p.4 in
    let v = row_joined op make First Second a b end rows begins exact n n (start p.0) p.0 (p.1 ++ rest) p.3 refl (omega (arith, size, l)) (omega (arith, size, l)) (before_stops CLOSE_PAREN 0 (p.1 ++ rest) close_paren_ends close) in
    let here : start (p.0 ++ (p.1 ++ rest)) ≡ start p.0 = begun_start p.0 (p.1 ++ rest) (begun_joined p.0 p.3.0 p.3.1 p.3.2 (begins p.3.0 p.3.3)) in
    let whole : chain n (read n) op make (start p.0) v.0.first v.0.behind ≡ Some (raw (start p.0) (make a b), p.1 ++ rest)
    = v.0.goes ∙ chain_ends v.0.fuel (read n) op make (start p.0) (raw (start p.0) (make a b)) (p.1 ++ rest) (ap (begins_with op) close.is ∙ apart close.token close.back) in
    ap (parentheses n (read n) at) (appended tokens p.0 p.1 rest p.2)
    ∙ ap (λ o. next o (paren_behind n (read n) at (start (p.0 ++ (p.1 ++ rest))))) v.0.front
    ∙ ap (λ s. paren_behind n (read n) at s v.0.first v.0.behind) here
    ∙ goes_by n (read n) at (start p.0) v.0.first v.0.behind v.1
    ∙ ap (λ o. next o (λ x vs. next (sign CLOSE_PAREN vs) (λ _ ws. Some (moved at x, ws)))) whole
    ∙ exact_last n CLOSE_PAREN (raw at (make a b)) p.1 rest p.4 (omega (arith, size, l)) tt

-- one term in parentheses
pub exact_parens : (Piece : List Token → Type 0) (t : RawTree) → ((n : ℕ) → Exact n (read n 0) Piece t (Stops 0)) → (n at : ℕ) → Exact n (parentheses n (read n) at) (Piece ⌢ JustSign CLOSE_PAREN) t Anything
exact_parens Piece t exact n at tokens rest p l u =
    let size : length tokens ≡ length p.0 + length p.1 = lengths tokens p.0 p.1 p.2 in
    let close : Before CLOSE_PAREN (p.1 ++ rest) = before_last CLOSE_PAREN p.1 rest p.4 in
    ap (parentheses n (read n) at) (appended tokens p.0 p.1 rest p.2)
    ∙ ap (λ o. next o (paren_behind n (read n) at (start (p.0 ++ (p.1 ++ rest))))) (exact n p.0 (p.1 ++ rest) p.3 (omega (arith, size, l)) (before_stops CLOSE_PAREN 0 (p.1 ++ rest) close_paren_ends close))
    ∙ cond-false (begins_with COMMA (p.1 ++ rest)) _ _ (ap (begins_with COMMA) close.is)
    ∙ cond-false (begins_with SEMICOLON (p.1 ++ rest)) _ _ (ap (begins_with SEMICOLON) close.is)
    ∙ exact_last n CLOSE_PAREN t p.1 rest p.4 (omega (arith, size, l)) tt

-- what stands behind a function's open parenthesis
pub exact_arguments : (Piece : List Token → Type 0) (t : RawTree) → Rows COMMA raw_pair Piece t → Begins Piece → (n c : ℕ) (tokens rest : List Token) → (Piece ⌢ JustSign CLOSE_PAREN) tokens → length tokens ≤ n → length tokens ≤ c → arguments c (read n) (tokens ++ rest) ≡ Some (t, rest)
exact_arguments Piece t rows begins n c tokens rest p l k =
    let size : length tokens ≡ length p.0 + length p.1 = lengths tokens p.0 p.1 p.2 in
    let close : Before CLOSE_PAREN (p.1 ++ rest) = before_last CLOSE_PAREN p.1 rest p.4 in
    let v = rows n c p.0 (p.1 ++ rest) p.3 (omega (arith, size, l)) (omega (arith, size, k)) (before_stops CLOSE_PAREN 0 (p.1 ++ rest) close_paren_ends close) in
    let here : start (p.0 ++ (p.1 ++ rest)) ≡ start p.0 = begun_start p.0 (p.1 ++ rest) (begins p.0 p.3) in
    let whole : chain c (read n) COMMA raw_pair (start p.0) v.0.first v.0.behind ≡ Some (t, p.1 ++ rest)
    = v.0.goes ∙ chain_ends v.0.fuel (read n) COMMA raw_pair (start p.0) t (p.1 ++ rest) (ap (begins_with COMMA) close.is) in
    ap (arguments c (read n)) (appended tokens p.0 p.1 rest p.2)
    ∙ ap (λ o. next o (λ first us. next (chain c (read n) COMMA raw_pair (start (p.0 ++ (p.1 ++ rest))) first us) (λ x vs. next (sign CLOSE_PAREN vs) (λ _ ws. Some (x, ws))))) v.0.front
    ∙ ap (λ s. next (chain c (read n) COMMA raw_pair s v.0.first v.0.behind) (λ x vs. next (sign CLOSE_PAREN vs) (λ _ ws. Some (x, ws)))) here
    ∙ ap (λ o. next o (λ x vs. next (sign CLOSE_PAREN vs) (λ _ ws. Some (x, ws)))) whole
    ∙ exact_last n CLOSE_PAREN t p.1 rest p.4 (omega (arith, size, l)) tt

-- ---- operators
-- the loop has come to the operator, and goes on behind what is read as its right term
pub record OperatorRead (o : InfixOp) (a : RawTree) (n asked : ℕ) (tokens front back rest : List Token) : Type 0 where
  pub fuel : ℕ
  pub enough : n ≤ fuel + length front
  pub goes : (right : RawTree) (us : List Token) → read n (binding o).right (back ++ rest) ≡ Some (right, us) → read (suc n) asked (tokens ++ rest) ≡ operators_after fuel (read n) asked (start tokens) (raw (start tokens) (raw_infix o a right)) (binding o).own us

pub operator_read : (o : InfixOp) (a : RawTree) (First Second : List Token → Type 0) → Loops First a (binding o).left → Begins First → (n asked : ℕ) (tokens rest : List Token) (p : (First ⌢ Just (infix_kind o) ⌢ Second) tokens) (v : Led (infix_kind o) Second p.1) → length tokens ≤ n + 1 → asked ≤ (binding o).own → OperatorRead o a n asked tokens p.0 v.back rest
operator_read o a First Second h begins n asked tokens rest p v l k =
    let size : length tokens ≡ length p.0 + length p.1 = lengths tokens p.0 p.1 p.2 in
    let more : length p.1 ≡ length v.back + 1 = omega (arith, ap length v.is) in
    let next_is : p.1 ++ rest ≡ of_kind (infix_kind o) v.token ∷ (v.back ++ rest) = ap (λ ts. ts ++ rest) v.is in
    let w = h n asked p.0 (p.1 ++ rest) p.3 (omega (arith, size, l)) (omega (arith, k, own_left o)) (operator_admits o v.token (v.back ++ rest) (p.1 ++ rest) next_is) in
    let left : w.fuel ≡ suc (w.fuel - 1) = omega (arith, size, more, l, w.enough) in
    let here : start tokens ≡ start p.0 = ap start p.2 ∙ begun_start p.0 p.1 (begins p.0 p.3) in
    let m = w.fuel - 1 in
    let s = start p.0 in
    record {
      fuel = w.fuel - 1;
      enough = omega (arith, w.enough, left);
      goes = λ right us e. ap (read (suc n) asked) (appended tokens p.0 p.1 rest p.2)
          ∙ w.is
          ∙ (λ i. operators_after (left i) (read n) asked s a w.strength (next_is i))
          ∙ ap (joined_by (operators_after m (read n) asked s) (read n) asked s a w.strength (of_kind (infix_kind o) v.token) (v.back ++ rest)) (infix_of-kind o)
          ∙ cond-true (nat_le asked (binding o).own && nat_le (binding o).left w.strength) _ _ (and_from (nat_le asked (binding o).own) (nat_le (binding o).left w.strength) (le-leb asked (binding o).own k) (le-leb (binding o).left w.strength w.binds))
          ∙ ap (λ found. or_else (next found (λ right us. operators_after m (read n) asked s (raw s (raw_infix o a right)) (binding o).own us)) (Some (a, of_kind (infix_kind o) v.token ∷ (v.back ++ rest)))) e
          ∙ or_else_taken _ _ (joined_gives m (read n) asked s (raw s (raw_infix o a right)) (binding o).own us)
          ∙ (λ i. operators_after m (read n) asked (sym here i) (raw (sym here i) (raw_infix o a right)) (binding o).own us);
    }

pub loops_infix : (o : InfixOp) (a b : RawTree) (First Second : List Token → Type 0) → Loops First a (binding o).left → Begins First → ((n : ℕ) → Exact n (read n (binding o).right) Second b (Stops (binding o).right)) → (at least : ℕ) → Loops (Starting at (Binding (binding o).own least (First ⌢ Just (infix_kind o) ⌢ Second))) (raw at (raw_infix o a b)) least
loops_infix o a b First Second h begins exact at least n asked tokens rest q l k admits =
    let p = q.4.1 in
    let v = led (infix_kind o) Second p.1 p.4 in
    let size : length tokens ≡ length p.0 + length v.back + 1 = omega (arith, lengths tokens p.0 p.1 p.2, ap length v.is) in
    let w = operator_read o a First Second h begins n asked tokens rest p v l (omega (arith, k, q.4.0)) in
    let stops : Stops (binding o).right rest = record { postfix = admits.postfix; operator = λ p found. admits.operator p o found q.4.0 } in
    record {
      fuel = w.fuel;
      strength = (binding o).own;
      enough = omega (arith, size, w.enough);
      binds = q.4.0;
      is = w.goes b rest (exact n v.back rest v.second (omega (arith, size, l, begun_length p.0 (begins p.0 p.3))) stops)
          ∙ ap (λ s. operators_after w.fuel (read n) asked (start tokens) (raw s (raw_infix o a b)) (binding o).own rest) (starts at (Binding (binding o).own least (First ⌢ Just (infix_kind o) ⌢ Second)) tokens q);
    }
