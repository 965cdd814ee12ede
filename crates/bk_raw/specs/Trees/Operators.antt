-- How the operators and constant words of terms are written, and how tightly operators bind.
-- The signs and words are those of the B Language Reference Manual, the levels this project's own.
use Rattle.std.specs.Prelude.{ℕ, Bool, false, ◌||◌, nat_eq}
use Rattle.bk_form.specs.declared.token.TokenKind.{TokenKind}
use Rattle.bk_form.specs.declared.token.TokenKind.TheVariants.{Sign, Word}
use Rattle.bk_ops.specs.declared.sign.TheConstants.{EQUIVALENT, IMPLIES, AND, EQUAL, NOT_EQUAL, LESS, AT_MOST, GREATER, AT_LEAST, MEMBER}
use Rattle.bk_ops.specs.declared.sign.TheConstants.{NOT_MEMBER, SUBSET, NOT_SUBSET, STRICT_SUBSET, RELATIONS, PARTIAL_FUNCTIONS}
use Rattle.bk_ops.specs.declared.sign.TheConstants.{TOTAL_FUNCTIONS, PARTIAL_INJECTIONS, TOTAL_INJECTIONS, PARTIAL_SURJECTIONS}
use Rattle.bk_ops.specs.declared.sign.TheConstants.{TOTAL_SURJECTIONS, BIJECTIONS, UNION, INTERSECTION, DOMAIN_RESTRICTION}
use Rattle.bk_ops.specs.declared.sign.TheConstants.{RANGE_RESTRICTION, DOMAIN_SUBTRACTION, RANGE_SUBTRACTION, OVERRIDE, MAPLET, INTERVAL}
use Rattle.bk_ops.specs.declared.sign.TheConstants.{PLUS, MINUS, TIMES, DIVIDE, POWER, CONCATENATION, PREPEND, APPEND}
use Rattle.bk_ops.specs.declared.word.TheConstants.{OR, MOD, NOT, BOOL_OF, CARD, MIN, MAX, DOM, RAN, ID, SUCC, PRED}
use Rattle.bk_ops.specs.declared.word.TheConstants.{POW, POW1, FIN, FIN1, BOOL, TRUE, FALSE, INTEGER, NATURAL}
use Rattle.bk_ops.specs.declared.word.TheConstants.{NATURAL1, INT, NAT, NAT1, MAXINT, MININT, BTRUE, BFALSE}
use Rattle.bk_ops.specs.declared.word.TheConstants.{SEQ, SIZE, FIRST, LAST, FRONT, TAIL, REV}
use Rattle.bk_raw.specs.declared.operator.InfixOp.{InfixOp}
use Rattle.bk_raw.specs.declared.operator.InfixOp.TheVariants.{Equivalent, Implies, And, Or, Equal, NotEqual, Less, AtMost, Greater}
use Rattle.bk_raw.specs.declared.operator.InfixOp.TheVariants.{AtLeast, Member, NotMember, Subset, NotSubset, StrictSubset, Relations}
use Rattle.bk_raw.specs.declared.operator.InfixOp.TheVariants.{PartialFunctions, TotalFunctions, PartialInjections, TotalInjections}
use Rattle.bk_raw.specs.declared.operator.InfixOp.TheVariants.{PartialSurjections, TotalSurjections, Bijections, Union, Intersection}
use Rattle.bk_raw.specs.declared.operator.InfixOp.TheVariants.{DomainRestriction, RangeRestriction, DomainSubtraction, RangeSubtraction}
use Rattle.bk_raw.specs.declared.operator.InfixOp.TheVariants.{Override, Maplet, Interval, Plus, Minus, Times, Divide, Mod, Power}
use Rattle.bk_raw.specs.declared.operator.InfixOp.TheVariants.{Concatenation, Prepend, Append}
use Rattle.bk_raw.specs.declared.operator.WordOp.{WordOp}
use Rattle.bk_raw.specs.declared.operator.WordOp.TheVariants.{Not, BoolOf, Card, Min, Max, Dom, Ran, Id, Succ, Pred, Pow, Pow1, Fin, Fin1}
use Rattle.bk_raw.specs.declared.operator.WordOp.TheVariants.{Seq, Size, First, Last, Front, Tail, Rev}
use Rattle.bk_raw.specs.declared.operator.Constant.{Constant}
use Rattle.bk_raw.specs.declared.operator.Constant.TheVariants.{Bool as BoolWord, True, False, Integer, Natural, Natural1}
use Rattle.bk_raw.specs.declared.operator.Constant.TheVariants.{Int, Nat, Nat1, MaxInt, MinInt, Btrue, Bfalse}

-- the token that an operator is written as
abbrev pub infix_kind : InfixOp → TokenKind
infix_kind Equivalent = Sign EQUIVALENT
infix_kind Implies = Sign IMPLIES
infix_kind And = Sign AND
infix_kind Or = Word OR
infix_kind Equal = Sign EQUAL
infix_kind NotEqual = Sign NOT_EQUAL
infix_kind Less = Sign LESS
infix_kind AtMost = Sign AT_MOST
infix_kind Greater = Sign GREATER
infix_kind AtLeast = Sign AT_LEAST
infix_kind Member = Sign MEMBER
infix_kind NotMember = Sign NOT_MEMBER
infix_kind Subset = Sign SUBSET
infix_kind NotSubset = Sign NOT_SUBSET
infix_kind StrictSubset = Sign STRICT_SUBSET
infix_kind Relations = Sign RELATIONS
infix_kind PartialFunctions = Sign PARTIAL_FUNCTIONS
infix_kind TotalFunctions = Sign TOTAL_FUNCTIONS
infix_kind PartialInjections = Sign PARTIAL_INJECTIONS
infix_kind TotalInjections = Sign TOTAL_INJECTIONS
infix_kind PartialSurjections = Sign PARTIAL_SURJECTIONS
infix_kind TotalSurjections = Sign TOTAL_SURJECTIONS
infix_kind Bijections = Sign BIJECTIONS
infix_kind Union = Sign UNION
infix_kind Intersection = Sign INTERSECTION
infix_kind DomainRestriction = Sign DOMAIN_RESTRICTION
infix_kind RangeRestriction = Sign RANGE_RESTRICTION
infix_kind DomainSubtraction = Sign DOMAIN_SUBTRACTION
infix_kind RangeSubtraction = Sign RANGE_SUBTRACTION
infix_kind Override = Sign OVERRIDE
infix_kind Maplet = Sign MAPLET
infix_kind Interval = Sign INTERVAL
infix_kind Plus = Sign PLUS
infix_kind Minus = Sign MINUS
infix_kind Times = Sign TIMES
infix_kind Divide = Sign DIVIDE
infix_kind Mod = Word MOD
infix_kind Power = Sign POWER
infix_kind Concatenation = Sign CONCATENATION
infix_kind Prepend = Sign PREPEND
infix_kind Append = Sign APPEND

-- the token that a word is written as, which stands before a term in parentheses
abbrev pub word_kind : WordOp → TokenKind
word_kind Not = Word NOT
word_kind BoolOf = Word BOOL_OF
word_kind Card = Word CARD
word_kind Min = Word MIN
word_kind Max = Word MAX
word_kind Dom = Word DOM
word_kind Ran = Word RAN
word_kind Id = Word ID
word_kind Succ = Word SUCC
word_kind Pred = Word PRED
word_kind Pow = Word POW
word_kind Pow1 = Word POW1
word_kind Fin = Word FIN
word_kind Fin1 = Word FIN1
word_kind Seq = Word SEQ
word_kind Size = Word SIZE
word_kind First = Word FIRST
word_kind Last = Word LAST
word_kind Front = Word FRONT
word_kind Tail = Word TAIL
word_kind Rev = Word REV

-- the token that a constant is written as
abbrev pub constant_kind : Constant → TokenKind
constant_kind BoolWord = Word BOOL
constant_kind True = Word TRUE
constant_kind False = Word FALSE
constant_kind Integer = Word INTEGER
constant_kind Natural = Word NATURAL
constant_kind Natural1 = Word NATURAL1
constant_kind Int = Word INT
constant_kind Nat = Word NAT
constant_kind Nat1 = Word NAT1
constant_kind MaxInt = Word MAXINT
constant_kind MinInt = Word MININT
constant_kind Btrue = Word BTRUE
constant_kind Bfalse = Word BFALSE

-- whether a token is a sign or a word of sequences. Terms have them; components and scripts do not have them yet
abbrev pub is_of_sequences : TokenKind → Bool
is_of_sequences (Sign op) = nat_eq op CONCATENATION || nat_eq op PREPEND || nat_eq op APPEND
is_of_sequences (Word op) = nat_eq op SEQ || nat_eq op SIZE || nat_eq op FIRST || nat_eq op LAST || nat_eq op FRONT
    || nat_eq op TAIL || nat_eq op REV
is_of_sequences _ = false

-- how tightly an operator binds, the loosest being 0, and how tightly the terms left and right of it bind at least.
-- Where the left one may bind as the operator does, it chains to the left; where the right one may, to the right;
-- where neither may, it does not chain
pub record Strength : Type 0 where
  pub own : ℕ
  pub left : ℕ
  pub right : ℕ

-- <=>
abbrev equivalence : Strength
equivalence = record { own = 0; left = 3; right = 3 }

-- =>
abbrev implication : Strength
implication = record { own = 1; left = 1; right = 2 }

-- & and or
abbrev junction : Strength
junction = record { own = 2; left = 2; right = 3 }

-- equality, order, membership and inclusion
abbrev comparison : Strength
comparison = record { own = 3; left = 4; right = 4 }

-- relations and functions
abbrev arrow : Strength
arrow = record { own = 4; left = 4; right = 5 }

-- union, restriction, overriding, |->, and what joins sequences
abbrev joining : Strength
joining = record { own = 5; left = 5; right = 6 }

-- ..
abbrev interval : Strength
interval = record { own = 6; left = 7; right = 7 }

-- + and -
abbrev sum : Strength
sum = record { own = 7; left = 7; right = 8 }

-- *, / and mod
abbrev product : Strength
product = record { own = 8; left = 8; right = 9 }

-- **
abbrev power : Strength
power = record { own = 9; left = 10; right = 9 }

-- the strength of each operator
abbrev pub binding : InfixOp → Strength
binding Equivalent = equivalence
binding Implies = implication
binding And = junction
binding Or = junction
binding Equal = comparison
binding NotEqual = comparison
binding Less = comparison
binding AtMost = comparison
binding Greater = comparison
binding AtLeast = comparison
binding Member = comparison
binding NotMember = comparison
binding Subset = comparison
binding NotSubset = comparison
binding StrictSubset = comparison
binding Relations = arrow
binding PartialFunctions = arrow
binding TotalFunctions = arrow
binding PartialInjections = arrow
binding TotalInjections = arrow
binding PartialSurjections = arrow
binding TotalSurjections = arrow
binding Bijections = arrow
binding Union = joining
binding Intersection = joining
binding DomainRestriction = joining
binding RangeRestriction = joining
binding DomainSubtraction = joining
binding RangeSubtraction = joining
binding Override = joining
binding Maplet = joining
binding Interval = interval
binding Plus = sum
binding Minus = sum
binding Times = product
binding Divide = product
binding Mod = product
binding Power = power
binding Concatenation = joining
binding Prepend = joining
binding Append = joining

-- the strength that is asked of what a bound variable ranges over, which stands as in a membership
abbrev pub ranged_over : ℕ
ranged_over = 4

-- the strength of a term with a minus sign before it
abbrev pub negated : ℕ
negated = 10

-- the strength of leaves and brackets, and what is asked of what stands before ~, [s] and (x)
abbrev pub tightest : ℕ
tightest = 11
