-- How a term begins and what is read after that: the places of the reader of terms between which functions are cut.
use Rattle.std.specs.Prelude.{◌≡◌, ℕ, ◌≤◌, cond, List, [], ◌∷◌, Option, None, Some}
use Rattle.bk_form.specs.declared.token.Token.{Token}
use Rattle.bk_form.specs.declared.token.TokenKind.TheVariants.{Sign}
use Rattle.bk_ops.specs.declared.sign.TheConstants.{MINUS, MEMBER, OPEN_PAREN, CLOSE_PAREN, OPEN_BRACKET}
use Rattle.bk_ops.specs.declared.sign.TheConstants.{CLOSE_BRACKET, CLOSE_BRACE, INVERSE, SEMICOLON, COMMA, DOT, BAR}
use Rattle.bk_raw.specs.Trees.Operators.{binding, infix_kind, negated, tightest}
use Rattle.bk_raw.specs.Trees.RawTree.{RawTree, raw, RawTreeNode, RawRanges, raw_inverse, raw_image, raw_apply, raw_composition}
use Rattle.bk_raw.specs.Trees.RawTree.{raw_pair, raw_extension, raw_typed_empty, raw_comprehension, raw_ranged_comprehension}
use Rattle.bk_raw.specs.Trees.RawTree.{raw_ranged_lambda, raw_for_all, raw_exists, raw_typed_for_all, raw_typed_exists}
use Rattle.bk_raw.specs.Grammar.Reading.{Reader, same_kind, next, sign, begins_with, begins_bound_in, start}
use Rattle.bk_raw.specs.Grammar.Reading.{within, names, binder, bounds, typed, chain, arguments, moved, terms}
use Rattle.bk_raw.specs.Grammar.Reading.{ranges, at_byte, quantified, primary_at, signed, front_kind, read}
use Rattle.bk_raw.specs.declared.operator.InfixOp.{InfixOp}
use Rattle.bk_raw.specs.declared.term.RawName.{RawName}
use Rattle.bk_raw.specs.declared.term.RawBound.{RawBound}
use Rattle.bk_p_expr.specs.declared.divider.Divider.{Divider}
use Rattle.bk_p_expr.specs.declared.divider.Divider.TheVariants.{Comma, Semicolon}
use Rattle.bk_p_expr.specs.declared.divider.Inside.{Inside}
use Rattle.bk_p_expr.specs.declared.divider.Inside.TheVariants.{Term, Arguments, Parentheses}
use Rattle.bk_p_expr.specs.declared.opening.Quantifier.{Quantifier}
use Rattle.bk_p_expr.specs.declared.opening.Quantifier.TheVariants.{All, Some as Exists}

-- ---- what a sign closes
-- the sign of a divider
abbrev pub sign_of : Divider → ℕ
sign_of Comma = COMMA
sign_of Semicolon = SEMICOLON

-- what a divider makes of the terms beside it
abbrev pub form_of : Divider → RawTree → RawTree → RawTreeNode
form_of Comma = raw_pair
form_of Semicolon = raw_composition

-- the divider in front, of those that may stand there
abbrev pub divider_in : Inside → List Token → Option Divider
divider_in Term ts = None
divider_in Arguments ts = cond (begins_with COMMA ts) (Some Comma) None
divider_in (Parentheses at) ts = cond (begins_with COMMA ts) (Some Comma) (cond (begins_with SEMICOLON ts) (Some Semicolon) None)

-- several terms with dividers between start where their parentheses do, if they begin a term
abbrev pub placed : Inside → RawTree → RawTree
placed Term tree = tree
placed Arguments tree = tree
placed (Parentheses at) tree = moved at tree

-- a first term with what follows it after this divider, if one stands there
abbrev pub divided : ℕ → Inside → Option Divider → ℕ → RawTree → Reader RawTree
divided n inside None at first ts = Some (first, ts)
divided n inside (Some d) at first ts = next (chain n (read n) (sign_of d) (form_of d) at first ts) (λ x us. Some (placed inside x, us))

-- a term, or several, and the sign that closes them
abbrev pub enclosed : ℕ → Inside → ℕ → Reader RawTree
enclosed n inside end ts = next (read n 0 ts)
    (λ first us. next (divided n inside (divider_in inside us) (start ts) first us) (λ x vs. next (sign end vs) (λ _ ws. Some (x, ws))))

-- ---- after the opening of a term that starts at a byte
-- a term and the sign that closes it, with a node around
abbrev pub surrounded : ℕ → ℕ → (RawTree → RawTreeNode) → ℕ → Reader RawTree
surrounded n at form end ts = next (enclosed n Term end ts) (λ x us. Some (raw at (form x), us))

-- a, b} of a set
abbrev pub listed : ℕ → ℕ → Reader RawTree
listed n at ts = next (terms n (read n) ts) (λ xs us. next (sign CLOSE_BRACE us) (λ _ vs. Some (raw at (raw_extension xs), vs)))

-- $1:d,$2:e and the sign after
abbrev pub ranged : ℕ → ℕ → Reader RawRanges
ranged n end ts = next (ranges n (read n) ts) (λ rs us. next (sign end us) (λ _ vs. Some (rs, vs)))

-- .( in front of a body
abbrev pub dot_paren : Reader Token
dot_paren ts = next (sign DOT ts) (λ _ us. sign OPEN_PAREN us)

-- .(p | e) of a lambda
abbrev pub valued : ℕ → ℕ → (RawTree → RawTree → RawTreeNode) → Reader RawTree
valued n at form ts = next (dot_paren ts)
    (λ _ us. next (enclosed n Term BAR us) (λ p vs. next (enclosed n Term CLOSE_PAREN vs) (λ e ws. Some (raw at (form p e), ws))))

-- $1:d | p} of a set
abbrev pub described : ℕ → ℕ → Reader RawTree
described n at ts = next (ranged n BAR ts) (λ rs us. surrounded n at (raw_ranged_comprehension rs) CLOSE_BRACE us)

-- $1:d).(p | e) of a lambda
abbrev pub valued_over : ℕ → ℕ → Reader RawTree
valued_over n at ts = next (ranged n CLOSE_PAREN ts) (λ rs us. valued n at (raw_ranged_lambda rs) us)

-- a leaf or a bracket
abbrev pub primary : ℕ → Reader RawTree
primary n [] = None
primary n (t ∷ ts) = primary_at n (read n) t.kind t.start ts

-- what a quantifier makes of names and a term
abbrev pub plain_form : Quantifier → List RawName → RawTree → RawTreeNode
plain_form All = raw_for_all
plain_form Exists = raw_exists

-- what it makes of bound variables with types and a term
abbrev pub typed_form : Quantifier → List RawBound → RawTree → RawTreeNode
typed_form All = raw_typed_for_all
typed_form Exists = raw_typed_exists

-- ---- openings
-- :T} of the empty set
abbrev pub typed_empty : ℕ → ℕ → Reader RawTree
typed_empty n at ts = at_byte at (next (within MEMBER CLOSE_BRACE (typed n) ts) (λ t us. Some (raw_typed_empty t, us)))

-- x, y | p} of a set
abbrev pub named_set : ℕ → ℕ → Reader RawTree
named_set n at ts =
    at_byte at (next (names ts) (λ xs us. next (within BAR CLOSE_BRACE (read n 0) us) (λ p vs. Some (raw_comprehension xs p, vs))))

-- what stands after the sign of a quantifier
abbrev pub quantified_by : ℕ → ℕ → Quantifier → Reader RawTree
quantified_by n at quantifier ts = at_byte at (quantified n (read n) (plain_form quantifier) (typed_form quantifier) ts)

-- what a quantifier binds, as what it makes of its body
abbrev pub binders : ℕ → Quantifier → Reader (RawTree → RawTreeNode)
binders n quantifier ts = cond (begins_bound_in ts)
    (next (within OPEN_PAREN CLOSE_PAREN (bounds n) ts) (λ bs us. Some (typed_form quantifier bs, us)))
    (next (binder ts) (λ xs us. Some (plain_form quantifier xs, us)))

-- ---- around a leaf or a bracket
-- what stands after a minus sign, if one stands there
abbrev pub unsigned : List Token → List Token
unsigned [] = []
unsigned (t ∷ ts) = cond (same_kind t.kind (Sign MINUS)) ts (t ∷ ts)

-- what the sign in front makes of the term after it, and how tightly that binds
abbrev pub with_sign : List Token → RawTree → RawTree × ℕ
with_sign ts x = cond (begins_with MINUS ts) (raw (start ts) (signed (front_kind (unsigned ts)) x), negated) (x, tightest)

-- ~, [s] or (x), as what is made of the term before
abbrev pub suffixed : ℕ → Reader (RawTree → RawTreeNode)
suffixed n ts =
    cond (begins_with INVERSE ts) (next (sign INVERSE ts) (λ _ us. Some (raw_inverse, us))) (
    cond (begins_with OPEN_BRACKET ts) (next (within OPEN_BRACKET CLOSE_BRACKET (read n 0) ts) (λ s us. Some ((λ t. raw_image t s), us))) (
    cond (begins_with OPEN_PAREN ts)
    (next (sign OPEN_PAREN ts) (λ _ us. next (arguments n (read n) us) (λ x vs. Some ((λ t. raw_apply t x), vs)))) None))

-- ---- operators
-- the operator in front, with what stands after it, where so much is asked of its strength and of that of its left operand
-- so much is known
abbrev pub Fits : ℕ → ℕ → List Token → InfixOp → List Token → Type 0
Fits asked strength ts o us = (t : Token) × (ts ≡ t ∷ us) × (infix_kind o ≡ t.kind)
    × (asked ≤ (binding o).own) × ((binding o).left ≤ strength)

-- no operator that fits stands in front
abbrev pub NoneFits : ℕ → ℕ → List Token → Type 0
NoneFits asked strength ts = (o : InfixOp) (us : List Token) → Fits asked strength ts o us → ⊥
