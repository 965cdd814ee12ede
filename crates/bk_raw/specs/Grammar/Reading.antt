-- A reader of terms, as a function: it reads the longest term from the front of a list of tokens. By it terms are shown to be
-- one for their tokens. Readers that call themselves have fuel, of which as much as there are tokens is enough.
use Rattle.std.specs.Prelude.{ℕ, zero, suc, pos, negsuc, neg_ℤ, Bool, true, false, cond, not}
use Rattle.std.specs.Prelude.{◌&&◌, nat_eq, nat_le, List, [], ◌∷◌, Option, None, Some}
use Rattle.bk_form.specs.declared.token.Token.{Token}
use Rattle.bk_form.specs.declared.token.TokenKind.{TokenKind}
use Rattle.bk_form.specs.declared.token.TokenKind.TheVariants.{Name, LevelName, BoundName, Number, Sign, Word}
use Rattle.bk_ops.specs.declared.sign.TheConstants.{FOR_ALL, EXISTS, MEMBER, MINUS, TIMES, OPEN_PAREN, CLOSE_PAREN, OPEN_BRACKET}
use Rattle.bk_ops.specs.declared.sign.TheConstants.{CLOSE_BRACKET, OPEN_BRACE, CLOSE_BRACE, INVERSE, SEMICOLON, COMMA, DOT, BAR, LAMBDA}
use Rattle.bk_ops.specs.declared.word.TheConstants.{BOOL, INTEGER, POW}
use Rattle.bk_raw.specs.Grammar.Bars.{bar_follows}
use Rattle.bk_raw.specs.Trees.Operators.{infix_kind, word_kind, constant_kind, binding, ranged_over, negated, tightest}
use Rattle.bk_raw.specs.Codes.OperatorCodes.{infix_operators, word_operators, constant_operators}
use Rattle.bk_raw.specs.Trees.WrittenType.{WrittenType, written_integer, written_bool, written_set, written_power, written_product}
use Rattle.bk_raw.specs.declared.operator.InfixOp.{InfixOp}
use Rattle.bk_raw.specs.declared.operator.WordOp.{WordOp}
use Rattle.bk_raw.specs.declared.operator.Constant.{Constant}
use Rattle.bk_raw.specs.declared.term.RawName.{RawName}
use Rattle.bk_raw.specs.declared.term.RawBound.{RawBound}
use Rattle.bk_raw.specs.Trees.RawTree.{RawTree, raw, RawTreeNode, raw_name, raw_level_name, raw_bound_name, raw_number, raw_constant}
use Rattle.bk_raw.specs.Trees.RawTree.{raw_word, raw_negative, raw_infix, raw_inverse, raw_image, raw_apply, raw_composition}
use Rattle.bk_raw.specs.Trees.RawTree.{raw_pair, raw_empty_set, raw_extension, raw_comprehension, raw_lambda, raw_for_all, raw_exists}
use Rattle.bk_raw.specs.Trees.RawTree.{raw_typed_empty, raw_typed_for_all, raw_typed_exists, raw_ranged_comprehension, raw_ranged_lambda}
use Rattle.bk_raw.specs.Trees.RawTree.{RawTrees, no_trees, tree_and, RawRanges, no_ranges, range_and}

-- what is read from the front of tokens, with the tokens after it, if anything is
abbrev pub Reader : Type 0 → Type 0
Reader A = List Token → Option (A × List Token)

-- a reader of the terms inside of brackets, by the strength that is asked of them
abbrev pub TermReader : Type 0
TermReader = ℕ → Reader RawTree

-- ---- kinds of tokens
-- whether two tokens are the same sign or the same word
abbrev pub same_kind : TokenKind → TokenKind → Bool
same_kind (Sign op) (Sign other) = nat_eq op other
same_kind (Word op) (Word other) = nat_eq op other
same_kind _ _ = false

-- the first of these that is written as a token of this kind
abbrev pub first_with : {A : Type 0} → (A → TokenKind) → List A → TokenKind → Option A
first_with written [] kind = None
first_with written (x ∷ xs) kind = cond (same_kind (written x) kind) (Some x) (first_with written xs kind)

-- the infix operator that a token is
abbrev pub infix_of : TokenKind → Option InfixOp
infix_of kind = first_with infix_kind infix_operators kind

-- the operator that is written before its operand in parentheses
abbrev pub word_of : TokenKind → Option WordOp
word_of kind = first_with word_kind word_operators kind

-- the constant that a token is
abbrev pub constant_of : TokenKind → Option Constant
constant_of kind = first_with constant_kind constant_operators kind

-- ---- one thing after another
-- what is read after the first thing, where that is read
abbrev pub next : {A B : Type 0} → Option (A × List Token) → (A → List Token → Option (B × List Token)) → Option (B × List Token)
next None f = None
next (Some p) f = f p.0 p.1

-- the token in front, if it is this sign
abbrev pub sign : ℕ → Reader Token
sign op [] = None
sign op (t ∷ ts) = cond (same_kind t.kind (Sign op)) (Some (t, ts)) None

-- whether this sign stands in front
abbrev pub begins_with : ℕ → List Token → Bool
begins_with op [] = false
begins_with op (t ∷ ts) = same_kind t.kind (Sign op)

-- the byte at which the first token starts
abbrev pub start : List Token → ℕ
start [] = 0
start (t ∷ ts) = t.start

-- a name, where a token of this kind is one
abbrev pub named : TokenKind → ℕ → Reader RawName
named (Name text) at ts = Some (record { at = at; text = text }, ts)
named _ at ts = None

-- a name in front
abbrev pub name : Reader RawName
name [] = None
name (t ∷ ts) = named t.kind t.start ts

-- ---- names and types
-- something between two signs
abbrev pub within : {A : Type 0} → ℕ → ℕ → Reader A → Reader A
within first last reader ts = next (sign first ts) (λ _ us. next (reader us) (λ x vs. next (sign last vs) (λ _ ws. Some (x, ws))))

-- names with commas between
abbrev pub names : Reader (List RawName)
names [] = None
names (t ∷ []) = next (named t.kind t.start []) (λ x us. Some (x ∷ [], us))
names (t ∷ c ∷ ts) = cond (same_kind c.kind (Sign COMMA)) (next (named t.kind t.start ts)
    (λ x _. next (names ts) (λ xs us. Some (x ∷ xs, us)))) (next (named t.kind t.start (c ∷ ts)) (λ x us. Some (x ∷ [], us)))

-- the names that a quantifier or a lambda binds: one, or several in parentheses
abbrev pub binder : Reader (List RawName)
binder ts = cond (begins_with OPEN_PAREN ts) (within OPEN_PAREN CLOSE_PAREN names ts) (next (name ts) (λ x us. Some (x ∷ [], us)))

-- a type whose first token is of this kind, by a reader of the types inside of it
abbrev pub typed_at : Reader WrittenType → TokenKind → Reader WrittenType
typed_at reader (Name x) ts = Some (written_set x, ts)
typed_at reader (Word op) ts =
    cond (nat_eq op INTEGER) (Some (written_integer, ts)) (
    cond (nat_eq op BOOL) (Some (written_bool, ts)) (
    cond (nat_eq op POW) (next (within OPEN_PAREN CLOSE_PAREN reader ts) (λ t us. Some (written_power t, us))) None))
typed_at reader (Sign op) ts = cond (nat_eq op OPEN_PAREN) (next (reader ts) (λ t us.
    next (sign TIMES us) (λ _ vs. next (reader vs) (λ u ws. next (sign CLOSE_PAREN ws) (λ _ xs. Some (written_product t u, xs)))))) None
typed_at reader _ ts = None

-- a type that is at most so deep
abbrev pub typed : ℕ → Reader WrittenType
typed zero ts = None
typed (suc n) [] = None
typed (suc n) (t ∷ ts) = typed_at (typed n) t.kind ts

-- what stands after the number of a bound variable
abbrev pub bound_number : TokenKind → ℕ → Reader (ℕ × ℕ)
bound_number (BoundName n) at ts = next (sign MEMBER ts) (λ _ us. Some ((at, n), us))
bound_number _ at ts = None

-- $n: in front, as where it stands and its number
abbrev pub bound : Reader (ℕ × ℕ)
bound [] = None
bound (t ∷ ts) = bound_number t.kind t.start ts

-- at most so many bound variables with their types
abbrev pub bounds : ℕ → Reader (List RawBound)
bounds zero ts = None
bounds (suc m) ts = next (bound ts) (λ b us. next (typed m us) (λ t vs.
    cond (begins_with COMMA vs)
    (next (sign COMMA vs) (λ _ ws. next (bounds m ws) (λ bs xs. Some (record { at = b.0; number = b.1; ty = t } ∷ bs, xs))))
    (Some (record { at = b.0; number = b.1; ty = t } ∷ [], vs))))

-- ---- terms
-- the first answer, or else the other
abbrev pub or_else : {A : Type 0} → Option A → Option A → Option A
or_else None other = other
or_else (Some x) other = Some x

-- the term with another byte as its start
abbrev pub moved : ℕ → RawTree → RawTree
moved at (raw _ node) = raw at node

-- what goes on at a sign with a term of strength 0 after it, as long as it does, to the left
abbrev pub chain : ℕ → TermReader → ℕ → (RawTree → RawTree → RawTreeNode) → ℕ → RawTree → Reader RawTree
chain zero reader op make at left ts = Some (left, ts)
chain (suc m) reader op make at left ts = cond (begins_with op ts)
    (next (sign op ts) (λ _ us. next (reader 0 us) (λ right vs. chain m reader op make at (raw at (make left right)) vs))) (Some (left, ts))

-- what stands after a function's open parenthesis, and the parenthesis that closes it
abbrev pub arguments : ℕ → TermReader → Reader RawTree
arguments m reader ts = next (reader 0 ts)
    (λ first us. next (chain m reader COMMA raw_pair (start ts) first us) (λ x vs. next (sign CLOSE_PAREN vs) (λ _ ws. Some (x, ws))))

-- what stands after an open parenthesis that begins a term, and the parenthesis that closes it
abbrev pub parentheses : ℕ → TermReader → ℕ → Reader RawTree
parentheses m reader at ts = next (reader 0 ts) (λ first us.
    cond (begins_with COMMA us)
    (next (chain m reader COMMA raw_pair (start ts) first us) (λ x vs. next (sign CLOSE_PAREN vs) (λ _ ws. Some (moved at x, ws)))) (
    cond (begins_with SEMICOLON us) (next (chain m reader SEMICOLON raw_composition (start ts) first us)
    (λ x vs. next (sign CLOSE_PAREN vs) (λ _ ws. Some (moved at x, ws)))) (
    next (sign CLOSE_PAREN us) (λ _ vs. Some (first, vs)))))

-- at most so many terms with commas between
abbrev pub terms : ℕ → TermReader → Reader RawTrees
terms zero reader ts = None
terms (suc m) reader ts = next (reader 0 ts) (λ t us. cond (begins_with COMMA us)
    (next (sign COMMA us) (λ _ vs. next (terms m reader vs) (λ rest ws. Some (tree_and t rest, ws)))) (Some (tree_and t no_trees, us)))

-- at most so many bound variables with their ranges
abbrev pub ranges : ℕ → TermReader → Reader RawRanges
ranges zero reader ts = None
ranges (suc m) reader ts = next (bound ts) (λ b us. next (reader ranged_over us) (λ d vs. cond (begins_with COMMA vs) (next (sign COMMA vs)
    (λ _ ws. next (ranges m reader ws) (λ rest xs. Some (range_and b.0 b.1 d rest, xs)))) (Some (range_and b.0 b.1 d no_ranges, vs))))

-- whether a token is a bound variable
abbrev pub is_bound : TokenKind → Bool
is_bound (BoundName n) = true
is_bound _ = false

-- whether a bound variable stands in front
abbrev pub begins_bound : List Token → Bool
begins_bound [] = false
begins_bound (t ∷ ts) = is_bound t.kind

-- whether one stands after an open parenthesis
abbrev pub begins_bound_in : List Token → Bool
begins_bound_in [] = false
begins_bound_in (t ∷ ts) = same_kind t.kind (Sign OPEN_PAREN) && begins_bound ts

-- what stands after an open brace, and the brace that closes it
abbrev pub braces : ℕ → TermReader → Reader RawTreeNode
braces m reader ts =
    cond (begins_with CLOSE_BRACE ts) (next (sign CLOSE_BRACE ts) (λ _ us. Some (raw_empty_set, us))) (
    cond (begins_with MEMBER ts) (next (within MEMBER CLOSE_BRACE (typed m) ts) (λ t us. Some (raw_typed_empty t, us))) (
    cond (not (bar_follows 0 ts)) (next (terms m reader ts) (λ xs us. next (sign CLOSE_BRACE us) (λ _ vs. Some (raw_extension xs, vs)))) (
    cond (begins_bound ts)
    (next (ranges m reader ts) (λ rs us. next (within BAR CLOSE_BRACE (reader 0) us) (λ p vs. Some (raw_ranged_comprehension rs p, vs))))
    (next (names ts) (λ xs us. next (within BAR CLOSE_BRACE (reader 0) us) (λ p vs. Some (raw_comprehension xs p, vs)))))))

-- .(p), the body of a quantified term
abbrev pub body : TermReader → Reader RawTree
body reader ts = next (sign DOT ts) (λ _ us. within OPEN_PAREN CLOSE_PAREN (reader 0) us)

-- .(p | e), the body and the value of a lambda
abbrev pub body_and_value : TermReader → Reader (RawTree × RawTree)
body_and_value reader ts = next (sign DOT ts) (λ _ us. next (within OPEN_PAREN BAR (reader 0) us)
    (λ p vs. next (reader 0 vs) (λ e ws. next (sign CLOSE_PAREN ws) (λ _ xs. Some ((p, e), xs)))))

-- what stands after the sign of a quantifier
abbrev pub quantified : ℕ → TermReader → (List RawName → RawTree → RawTreeNode) →
    (List RawBound → RawTree → RawTreeNode) → Reader RawTreeNode
quantified m reader plain numbers ts = cond (begins_bound_in ts)
    (next (within OPEN_PAREN CLOSE_PAREN (bounds m) ts) (λ bs us. next (body reader us) (λ p vs. Some (numbers bs p, vs))))
    (next (binder ts) (λ xs us. next (body reader us) (λ p vs. Some (plain xs p, vs))))

-- what stands after a lambda's sign
abbrev pub lambda : ℕ → TermReader → Reader RawTreeNode
lambda m reader ts = cond (begins_bound_in ts)
    (next (within OPEN_PAREN CLOSE_PAREN (ranges m reader) ts)
    (λ rs us. next (body_and_value reader us) (λ q vs. Some (raw_ranged_lambda rs q.0 q.1, vs))))
    (next (binder ts) (λ xs us. next (body_and_value reader us) (λ q vs. Some (raw_lambda xs q.0 q.1, vs))))

-- a node as a term that starts at this byte
abbrev pub at_byte : ℕ → Option (RawTreeNode × List Token) → Option (RawTree × List Token)
at_byte at None = None
at_byte at (Some p) = Some (raw at p.0, p.1)

-- a constant, or a word with its operand in parentheses
abbrev pub worded : TermReader → List Token → Option Constant → Option WordOp → Option (RawTreeNode × List Token)
worded reader ts (Some c) o = Some (raw_constant c, ts)
worded reader ts None None = None
worded reader ts None (Some o) = next (within OPEN_PAREN CLOSE_PAREN (reader 0) ts) (λ a us. Some (raw_word o a, us))

-- a leaf or a bracket whose first token is of this kind and starts here
abbrev pub primary_at : ℕ → TermReader → TokenKind → ℕ → Reader RawTree
primary_at m reader (Name text) at ts = Some (raw at (raw_name text), ts)
primary_at m reader (LevelName text n) at ts = Some (raw at (raw_level_name text n), ts)
primary_at m reader (BoundName n) at ts = Some (raw at (raw_bound_name n), ts)
primary_at m reader (Number (pos n)) at ts = Some (raw at (raw_number (pos n)), ts)
primary_at m reader (Number (negsuc n)) at ts = None
primary_at m reader (Word op) at ts = at_byte at (worded reader ts (constant_of (Word op)) (word_of (Word op)))
primary_at m reader (Sign op) at ts =
    cond (nat_eq op OPEN_PAREN) (parentheses m reader at ts) (
    cond (nat_eq op OPEN_BRACE) (at_byte at (braces m reader ts)) (
    cond (nat_eq op FOR_ALL) (at_byte at (quantified m reader raw_for_all raw_typed_for_all ts)) (
    cond (nat_eq op EXISTS) (at_byte at (quantified m reader raw_exists raw_typed_exists ts)) (
    cond (nat_eq op LAMBDA) (at_byte at (lambda m reader ts)) None))))

-- what stands after a term: ~, [s] and (x), at most so many
abbrev pub postfixed : ℕ → TermReader → ℕ → RawTree → Reader RawTree
postfixed zero reader at t ts = Some (t, ts)
postfixed (suc m) reader at t ts =
    cond (begins_with INVERSE ts) (next (sign INVERSE ts) (λ _ us. postfixed m reader at (raw at (raw_inverse t)) us)) (
    cond (begins_with OPEN_BRACKET ts) (or_else (next (within OPEN_BRACKET CLOSE_BRACKET (reader 0) ts)
    (λ s us. postfixed m reader at (raw at (raw_image t s)) us)) (Some (t, ts))) (
    cond (begins_with OPEN_PAREN ts) (or_else (next (sign OPEN_PAREN ts)
    (λ _ us. next (arguments m reader us) (λ x vs. postfixed m reader at (raw at (raw_apply t x)) vs))) (Some (t, ts))) (
    Some (t, ts))))

-- a leaf or a bracket with what stands after it
abbrev pub tight : ℕ → TermReader → Reader RawTree
tight m reader [] = None
tight m reader (t ∷ ts) = next (primary_at m reader t.kind t.start ts) (λ x us. postfixed m reader t.start x us)

-- what a minus sign makes of the term after it, whose first token is of this kind: of a number by itself a number
abbrev pub signed : TokenKind → RawTree → RawTreeNode
signed (Number (pos n)) (raw at (raw_number z)) = raw_number (neg_ℤ (pos n))
signed _ t = raw_negative t

-- the kind of the first token
abbrev pub front_kind : List Token → TokenKind
front_kind [] = Name []
front_kind (t ∷ ts) = t.kind

-- an operand and its strength: that of a minus sign, or of a leaf or a bracket
abbrev pub operand : ℕ → TermReader → Reader (RawTree × ℕ)
operand m reader ts = cond (begins_with MINUS ts)
    (next (sign MINUS ts) (λ t us. next (tight m reader us) (λ x vs. Some ((raw t.start (signed (front_kind us) x), negated), vs))))
    (next (tight m reader ts) (λ x us. Some ((x, tightest), us)))

-- an operator, if it is one that may stand here, with its right operand, and then more
abbrev pub joined_by : (RawTree → ℕ → List Token → Option (RawTree × List Token)) → TermReader →
    ℕ → ℕ → RawTree → ℕ → Token → List Token → Option InfixOp → Option (RawTree × List Token)
joined_by more reader asked at left strength t ts None = Some (left, t ∷ ts)
joined_by more reader asked at left strength t ts (Some o) = cond (nat_le asked (binding o).own && nat_le (binding o).left strength)
    (or_else (next (reader (binding o).right ts) (λ right us. more (raw at (raw_infix o left right)) (binding o).own us))
    (Some (left, t ∷ ts)))
    (Some (left, t ∷ ts))

-- operators with their right operands after a term of some strength, where so much is asked, at most so many
abbrev pub operators_after : ℕ → TermReader → ℕ → ℕ → RawTree → ℕ → Reader RawTree
operators_after zero reader asked at left strength ts = Some (left, ts)
operators_after (suc m) reader asked at left strength [] = Some (left, [])
operators_after (suc m) reader asked at left strength (t ∷ ts) =
    joined_by (operators_after m reader asked at) reader asked at left strength t ts (infix_of t.kind)

-- the longest term of this strength, with brackets at most so deep and lists at most so long
abbrev pub read : ℕ → ℕ → Reader RawTree
read zero asked ts = None
read (suc n) asked ts = next (operand n (read n) ts) (λ x us. operators_after n (read n) asked (start ts) x.0 x.1 us)
