-- What a term's tokens stop before, and that the reader's loops stop there.
use Rattle.std.specs.Prelude.{◌≡◌, ℕ, zero, suc, ◌+◌, ◌≤◌, Bool, true, false, cond, nat_le, ◌&&◌, List, [], ◌∷◌, ◌⊎◌, Option, None, Some, refl}
use Rattle.std.proofs.Common.{arith, inl, inr, sym, ◌∙◌, ap, subst}
use Rattle.std.proofs.lemmas.Bool.{cond-true, cond-false, leb-true, lt-leb, and_left, cases_Bool}
use Rattle.bk_form.specs.declared.token.Token.{Token}
use Rattle.bk_form.specs.declared.token.TokenKind.TheVariants.{Sign}
use Rattle.bk_ops.specs.declared.sign.TheConstants.{INVERSE, SEMICOLON, COMMA, BAR, OPEN_PAREN, CLOSE_PAREN, OPEN_BRACKET, CLOSE_BRACKET, CLOSE_BRACE}
use Rattle.bk_raw.specs.Trees.Operators.{infix_kind, binding}
use Rattle.bk_raw.specs.declared.operator.InfixOp.{InfixOp}
use Rattle.bk_raw.specs.declared.operator.InfixOp.TheVariants.{And, Power}
use Rattle.bk_raw.specs.Trees.RawTree.{RawTree, raw, RawTreeNode, raw_inverse}
use Rattle.bk_raw.specs.Grammar.Reading.{infix_of, next, sign, begins_with, or_else, chain, postfixed, joined_by, operators_after}
use Rattle.bk_raw.proofs.WrittenKinds.{infix_of-kind}
use Rattle.bk_raw.proofs.Shapes.{of_kind}

pub none_some : {A B : Type 0} (x : A) → ◌≡◌ {A = Option A} None (Some x) → B
none_some x e = absurd cc

pub some_same : {A : Type 0} (x y : A) → ◌≡◌ {A = Option A} (Some x) (Some y) → x ≡ y
some_same x y e = cc

-- ---- how tightly operators bind
pub own_right : (p : InfixOp) → (binding p).own ≤ (binding p).right
own_right And = leb-true _ _ refl
own_right _ = leb-true _ _ refl

pub own_left : (p : InfixOp) → (binding p).own ≤ (binding p).left
own_left And = leb-true _ _ refl
own_left _ = leb-true _ _ refl

pub left_within : (p : InfixOp) → (binding p).left ≤ 11
left_within And = leb-true _ _ refl
left_within _ = leb-true _ _ refl

pub right_within : (p : InfixOp) → (binding p).right ≤ 11
right_within And = leb-true _ _ refl
right_within _ = leb-true _ _ refl

pub own_within : (p : InfixOp) → (binding p).own ≤ 9
own_within And = leb-true _ _ refl
own_within _ = leb-true _ _ refl

-- all but ** ask more of their right term
right_more : (p : InfixOp) → ((binding p).own + 1 ≤ (binding p).right) ⊎ (9 ≤ (binding p).own)
right_more And = inl (leb-true _ _ refl)
right_more Power = inr (leb-true _ _ refl)
right_more _ = inl (leb-true _ _ refl)

left_more : (o : InfixOp) → ((binding o).own + 1 ≤ (binding o).left) ⊎ ((binding o).own ≤ 8)
left_more And = inr (leb-true _ _ refl)
left_more Power = inl (leb-true _ _ refl)
left_more _ = inr (leb-true _ _ refl)

-- what may stand left of an operator does not take it into its own right term
pub left_stays : (o p : InfixOp) → (binding o).left ≤ (binding p).own → (binding o).own + 1 ≤ (binding p).right
left_stays o p l = elim (right_more p) [
  | inl more ↦ omega (arith, more, l, own_left o)
  | inr top ↦ elim (left_more o) [
    | inl more ↦ omega (arith, more, l, own_right p)
    | inr low ↦ omega (arith, low, top, own_right p)
  ]
]

-- ---- where a term stops
-- the operator in front
abbrev pub after_of : List Token → Option InfixOp
after_of [] = None
after_of (t ∷ ts) = infix_of t.kind

-- nothing is in front that goes on with the operand before it
pub record NoPostfix (rest : List Token) : Type 0 where
  pub inverse : begins_with INVERSE rest ≡ false
  pub bracket : begins_with OPEN_BRACKET rest ≡ false
  pub paren : begins_with OPEN_PAREN rest ≡ false

-- nothing is in front that goes on with a term where so much is asked of its strength
pub record Stops (asked : ℕ) (rest : List Token) : Type 0 where
  pub postfix : NoPostfix rest
  pub operator : (o : InfixOp) → after_of rest ≡ Some o → (binding o).own + 1 ≤ asked

-- nothing is in front that goes on with the right term of an operator that binds so tightly at least
pub record Admits (asked : ℕ) (rest : List Token) : Type 0 where
  pub postfix : NoPostfix rest
  pub operator : (o p : InfixOp) → after_of rest ≡ Some o → asked ≤ (binding p).own → (binding o).own + 1 ≤ (binding p).right

pub admits_of_stops : (asked : ℕ) (rest : List Token) → Stops asked rest → Admits asked rest
admits_of_stops asked rest s = record { postfix = s.postfix; operator = λ o p e l. omega (arith, s.operator o e, l, own_right p) }

pub stops_end : (asked : ℕ) → Stops asked []
stops_end asked = record { postfix = record { inverse = refl; bracket = refl; paren = refl }; operator = λ o e. none_some o e }

-- a sign that is no operator and goes on with nothing
pub record IsEnd (op : ℕ) : Type 0 where
  pub inverse : (t : Token) (ts : List Token) → begins_with INVERSE (of_kind (Sign op) t ∷ ts) ≡ false
  pub bracket : (t : Token) (ts : List Token) → begins_with OPEN_BRACKET (of_kind (Sign op) t ∷ ts) ≡ false
  pub paren : (t : Token) (ts : List Token) → begins_with OPEN_PAREN (of_kind (Sign op) t ∷ ts) ≡ false
  pub operator : infix_of (Sign op) ≡ None

pub comma_ends : IsEnd COMMA
comma_ends = record { inverse = λ t ts. refl; bracket = λ t ts. refl; paren = λ t ts. refl; operator = refl }

pub semicolon_ends : IsEnd SEMICOLON
semicolon_ends = record { inverse = λ t ts. refl; bracket = λ t ts. refl; paren = λ t ts. refl; operator = refl }

pub bar_ends : IsEnd BAR
bar_ends = record { inverse = λ t ts. refl; bracket = λ t ts. refl; paren = λ t ts. refl; operator = refl }

pub close_paren_ends : IsEnd CLOSE_PAREN
close_paren_ends = record { inverse = λ t ts. refl; bracket = λ t ts. refl; paren = λ t ts. refl; operator = refl }

pub close_bracket_ends : IsEnd CLOSE_BRACKET
close_bracket_ends = record { inverse = λ t ts. refl; bracket = λ t ts. refl; paren = λ t ts. refl; operator = refl }

pub close_brace_ends : IsEnd CLOSE_BRACE
close_brace_ends = record { inverse = λ t ts. refl; bracket = λ t ts. refl; paren = λ t ts. refl; operator = refl }

-- the rest begins with this sign
pub record Before (op : ℕ) (rest : List Token) : Type 0 where
  pub token : Token
  pub back : List Token
  pub is : rest ≡ of_kind (Sign op) token ∷ back

pub before_stops : (op asked : ℕ) (rest : List Token) → IsEnd op → Before op rest → Stops asked rest
before_stops op asked rest e b = record {
  postfix = record {
    inverse = ap (begins_with INVERSE) b.is ∙ e.inverse b.token b.back;
    bracket = ap (begins_with OPEN_BRACKET) b.is ∙ e.bracket b.token b.back;
    paren = ap (begins_with OPEN_PAREN) b.is ∙ e.paren b.token b.back;
  };
  operator = λ o found. none_some o (sym e.operator ∙ sym (ap after_of b.is) ∙ found);
}

no_inverse : (o : InfixOp) (t : Token) (ts : List Token) → begins_with INVERSE (of_kind (infix_kind o) t ∷ ts) ≡ false
no_inverse And t ts = refl
no_inverse _ t ts = refl

no_bracket : (o : InfixOp) (t : Token) (ts : List Token) → begins_with OPEN_BRACKET (of_kind (infix_kind o) t ∷ ts) ≡ false
no_bracket And t ts = refl
no_bracket _ t ts = refl

no_paren : (o : InfixOp) (t : Token) (ts : List Token) → begins_with OPEN_PAREN (of_kind (infix_kind o) t ∷ ts) ≡ false
no_paren And t ts = refl
no_paren _ t ts = refl

-- an operator goes on with nothing that stands left of it
pub operator_admits : (o : InfixOp) (t : Token) (ts rest : List Token) → rest ≡ of_kind (infix_kind o) t ∷ ts → Admits (binding o).left rest
operator_admits o t ts rest is = record {
  postfix = record {
    inverse = ap (begins_with INVERSE) is ∙ no_inverse o t ts;
    bracket = ap (begins_with OPEN_BRACKET) is ∙ no_bracket o t ts;
    paren = ap (begins_with OPEN_PAREN) is ∙ no_paren o t ts;
  };
  operator = λ q p found l.
      let same : o ≡ q = some_same o q (sym (infix_of-kind o) ∙ sym (ap after_of is) ∙ found) in
      subst (λ x. (binding x).own + 1 ≤ (binding p).right) same (left_stays o p l);
}

-- ---- the loops stop there
pub postfixed_ends : (m : ℕ) (reader : ℕ → List Token → Option (RawTree × List Token)) (at : ℕ) (t : RawTree) (rest : List Token) → NoPostfix rest → postfixed m reader at t rest ≡ Some (t, rest)
postfixed_ends zero reader at t rest s = refl
postfixed_ends (suc m) reader at t rest s = cond-false (begins_with INVERSE rest) _ _ s.inverse ∙ cond-false (begins_with OPEN_BRACKET rest) _ _ s.bracket ∙ cond-false (begins_with OPEN_PAREN rest) _ _ s.paren

pub chain_ends : (m : ℕ) (reader : ℕ → List Token → Option (RawTree × List Token)) (op : ℕ) (make : RawTree → RawTree → RawTreeNode) (at : ℕ) (left : RawTree) (rest : List Token) → begins_with op rest ≡ false → chain m reader op make at left rest ≡ Some (left, rest)
chain_ends zero reader op make at left rest e = refl
chain_ends (suc m) reader op make at left rest e = cond-false (begins_with op rest) _ _ e

joined_by_ends : (more : RawTree → ℕ → List Token → Option (RawTree × List Token)) (reader : ℕ → List Token → Option (RawTree × List Token)) (asked at : ℕ) (left : RawTree) (s : ℕ) (t : Token) (ts : List Token) (found : Option InfixOp) → ((o : InfixOp) → found ≡ Some o → (binding o).own + 1 ≤ asked) → joined_by more reader asked at left s t ts found ≡ Some (left, t ∷ ts)
joined_by_ends more reader asked at left s t ts None h = refl
joined_by_ends more reader asked at left s t ts (Some o) h = cond-false (nat_le asked (binding o).own && nat_le (binding o).left s) _ _ (and_left (nat_le asked (binding o).own) (nat_le (binding o).left s) (lt-leb asked (binding o).own (omega (arith, h o refl))))

pub joined_ends : (m : ℕ) (reader : ℕ → List Token → Option (RawTree × List Token)) (asked at : ℕ) (left : RawTree) (s : ℕ) (rest : List Token) → ((o : InfixOp) → after_of rest ≡ Some o → (binding o).own + 1 ≤ asked) → operators_after m reader asked at left s rest ≡ Some (left, rest)
joined_ends zero reader asked at left s rest h = refl
joined_ends (suc m) reader asked at left s [] h = refl
joined_ends (suc m) reader asked at left s (t ∷ ts) h = joined_by_ends (operators_after m reader asked at) reader asked at left s t ts (infix_of t.kind) h

-- ---- the loops always give a term
abbrev pub Gives : Option (RawTree × List Token) → Type 0
Gives o = (p : RawTree × List Token) × (o ≡ Some p)

pub or_else_gives : (o : Option (RawTree × List Token)) (p : RawTree × List Token) → Gives (or_else o (Some p))
or_else_gives None p = (p, refl)
or_else_gives (Some q) p = (q, refl)

pub or_else_taken : (o : Option (RawTree × List Token)) (p : RawTree × List Token) → Gives o → or_else o (Some p) ≡ o
or_else_taken o p g = ap (λ x. or_else x (Some p)) g.1 ∙ sym g.1

cond_gives : (b : Bool) (x y : Option (RawTree × List Token)) → Gives x → Gives y → Gives (cond b x y)
cond_gives true x y g h = g
cond_gives false x y g h = h

joined_by_gives : (more : RawTree → ℕ → List Token → Option (RawTree × List Token)) (reader : ℕ → List Token → Option (RawTree × List Token)) (asked at : ℕ) (left : RawTree) (s : ℕ) (t : Token) (ts : List Token) (found : Option InfixOp) → Gives (joined_by more reader asked at left s t ts found)
joined_by_gives more reader asked at left s t ts None = ((left, t ∷ ts), refl)
joined_by_gives more reader asked at left s t ts (Some o) = cond_gives (nat_le asked (binding o).own && nat_le (binding o).left s) _ _ (or_else_gives _ (left, t ∷ ts)) ((left, t ∷ ts), refl)

pub joined_gives : (m : ℕ) (reader : ℕ → List Token → Option (RawTree × List Token)) (asked at : ℕ) (left : RawTree) (s : ℕ) (ts : List Token) → Gives (operators_after m reader asked at left s ts)
joined_gives zero reader asked at left s ts = ((left, ts), refl)
joined_gives (suc m) reader asked at left s [] = ((left, []), refl)
joined_gives (suc m) reader asked at left s (t ∷ ts) = joined_by_gives (operators_after m reader asked at) reader asked at left s t ts (infix_of t.kind)

sign_taken : (op : ℕ) (t : Token) (ts : List Token) → begins_with op (t ∷ ts) ≡ true → sign op (t ∷ ts) ≡ Some (t, ts)
sign_taken op t ts e = cond-true (begins_with op (t ∷ ts)) _ _ e

pub postfixed_gives : (m : ℕ) (reader : ℕ → List Token → Option (RawTree × List Token)) (at : ℕ) (t : RawTree) (ts : List Token) → Gives (postfixed m reader at t ts)
postfixed_gives zero reader at t ts = ((t, ts), refl)
postfixed_gives (suc m) reader at t [] = ((t, []), refl)
postfixed_gives (suc m) reader at t (u ∷ ts) = elim (cases_Bool (begins_with INVERSE (u ∷ ts))) [
  | inl holds ↦ subst Gives (sym (cond-true (begins_with INVERSE (u ∷ ts)) _ _ holds ∙ ap (λ o. next o (λ _ us. postfixed m reader at (raw at (raw_inverse t)) us)) (sign_taken INVERSE u ts holds))) (postfixed_gives m reader at (raw at (raw_inverse t)) ts)
  | inr fails ↦ subst Gives (sym (cond-false (begins_with INVERSE (u ∷ ts)) _ _ fails)) (cond_gives (begins_with OPEN_BRACKET (u ∷ ts)) _ _ (or_else_gives _ (t, u ∷ ts)) (cond_gives (begins_with OPEN_PAREN (u ∷ ts)) _ _ (or_else_gives _ (t, u ∷ ts)) ((t, u ∷ ts), refl)))
]
