-- Each operator and constant word as a number, by which a proof tells them apart.
use Rattle.std.specs.Prelude.{◌≡◌, ℕ, List, [], ◌∷◌, refl}
use Rattle.std.proofs.Common.{get_or}
use Rattle.bk_raw.specs.declared.operator.InfixOp.{InfixOp}
use Rattle.bk_raw.specs.declared.operator.InfixOp.TheVariants.{Equivalent, Implies, And, Or, Equal, NotEqual, Less, AtMost, Greater}
use Rattle.bk_raw.specs.declared.operator.InfixOp.TheVariants.{AtLeast, Member, NotMember, Subset, NotSubset, StrictSubset, Relations}
use Rattle.bk_raw.specs.declared.operator.InfixOp.TheVariants.{PartialFunctions, TotalFunctions, PartialInjections, TotalInjections}
use Rattle.bk_raw.specs.declared.operator.InfixOp.TheVariants.{PartialSurjections, TotalSurjections, Bijections, Union, Intersection}
use Rattle.bk_raw.specs.declared.operator.InfixOp.TheVariants.{DomainRestriction, RangeRestriction, DomainSubtraction, RangeSubtraction}
use Rattle.bk_raw.specs.declared.operator.InfixOp.TheVariants.{Override, Maplet, Interval, Plus, Minus, Times, Divide, Mod, Power}
use Rattle.bk_raw.specs.declared.operator.InfixOp.TheVariants.{Concatenation, Prepend, Append}
use Rattle.bk_raw.specs.declared.operator.WordOp.{WordOp}
use Rattle.bk_raw.specs.declared.operator.WordOp.TheVariants.{Not, BoolOf, Card, Min, Max, Dom, Ran, Id, Succ, Pred, Pow, Pow1, Fin, Fin1}
use Rattle.bk_raw.specs.declared.operator.WordOp.TheVariants.{Seq, Size, First, Last, Front, Tail, Rev}
use Rattle.bk_raw.specs.declared.operator.Constant.{Constant}
use Rattle.bk_raw.specs.declared.operator.Constant.TheVariants.{Bool, True, False, Integer, Natural, Natural1}
use Rattle.bk_raw.specs.declared.operator.Constant.TheVariants.{Int, Nat, Nat1, MaxInt, MinInt, Btrue, Bfalse}

-- the operators between two terms
abbrev pub infix_operators : List InfixOp
infix_operators = Equivalent ∷ Implies ∷ And ∷ Or ∷ Equal ∷ NotEqual ∷ Less ∷ AtMost ∷ Greater ∷ AtLeast ∷ Member ∷ NotMember ∷
    Subset ∷ NotSubset ∷ StrictSubset ∷ Relations ∷ PartialFunctions ∷ TotalFunctions ∷ PartialInjections ∷ TotalInjections ∷
    PartialSurjections ∷ TotalSurjections ∷ Bijections ∷ Union ∷ Intersection ∷ DomainRestriction ∷ RangeRestriction ∷
    DomainSubtraction ∷ RangeSubtraction ∷ Override ∷ Maplet ∷ Interval ∷ Plus ∷ Minus ∷ Times ∷ Divide ∷ Mod ∷ Power ∷
    Concatenation ∷ Prepend ∷ Append ∷ []

-- its place in that list
abbrev pub infix_code : InfixOp → ℕ
infix_code Equivalent = 0
infix_code Implies = 1
infix_code And = 2
infix_code Or = 3
infix_code Equal = 4
infix_code NotEqual = 5
infix_code Less = 6
infix_code AtMost = 7
infix_code Greater = 8
infix_code AtLeast = 9
infix_code Member = 10
infix_code NotMember = 11
infix_code Subset = 12
infix_code NotSubset = 13
infix_code StrictSubset = 14
infix_code Relations = 15
infix_code PartialFunctions = 16
infix_code TotalFunctions = 17
infix_code PartialInjections = 18
infix_code TotalInjections = 19
infix_code PartialSurjections = 20
infix_code TotalSurjections = 21
infix_code Bijections = 22
infix_code Union = 23
infix_code Intersection = 24
infix_code DomainRestriction = 25
infix_code RangeRestriction = 26
infix_code DomainSubtraction = 27
infix_code RangeSubtraction = 28
infix_code Override = 29
infix_code Maplet = 30
infix_code Interval = 31
infix_code Plus = 32
infix_code Minus = 33
infix_code Times = 34
infix_code Divide = 35
infix_code Mod = 36
infix_code Power = 37
infix_code Concatenation = 38
infix_code Prepend = 39
infix_code Append = 40

-- the operator at a place of the list
abbrev pub infix_back : ℕ → InfixOp
infix_back n = get_or infix_operators n Equivalent

-- an operator stands at its place
pub infix_back-code : (o : InfixOp) → infix_back (infix_code o) ≡ o
infix_back-code Equivalent = refl
infix_back-code _ = refl

-- the words that stand before a term in parentheses
abbrev pub word_operators : List WordOp
word_operators = Not ∷ BoolOf ∷ Card ∷ Min ∷ Max ∷ Dom ∷ Ran ∷ Id ∷ Succ ∷ Pred ∷ Pow ∷ Pow1 ∷ Fin ∷ Fin1 ∷
    Seq ∷ Size ∷ First ∷ Last ∷ Front ∷ Tail ∷ Rev ∷ []

-- its place in that list
abbrev pub word_code : WordOp → ℕ
word_code Not = 0
word_code BoolOf = 1
word_code Card = 2
word_code Min = 3
word_code Max = 4
word_code Dom = 5
word_code Ran = 6
word_code Id = 7
word_code Succ = 8
word_code Pred = 9
word_code Pow = 10
word_code Pow1 = 11
word_code Fin = 12
word_code Fin1 = 13
word_code Seq = 14
word_code Size = 15
word_code First = 16
word_code Last = 17
word_code Front = 18
word_code Tail = 19
word_code Rev = 20

-- the word at a place of the list
abbrev pub word_back : ℕ → WordOp
word_back n = get_or word_operators n Not

-- a word stands at its place
pub word_back-code : (o : WordOp) → word_back (word_code o) ≡ o
word_back-code Not = refl
word_back-code _ = refl

-- the words that are terms by themselves
abbrev pub constant_operators : List Constant
constant_operators = Bool ∷ True ∷ False ∷ Integer ∷ Natural ∷ Natural1 ∷ Int ∷ Nat ∷ Nat1 ∷ MaxInt ∷ MinInt ∷ Btrue ∷ Bfalse ∷ []

-- its place in that list
abbrev pub constant_code : Constant → ℕ
constant_code Bool = 0
constant_code True = 1
constant_code False = 2
constant_code Integer = 3
constant_code Natural = 4
constant_code Natural1 = 5
constant_code Int = 6
constant_code Nat = 7
constant_code Nat1 = 8
constant_code MaxInt = 9
constant_code MinInt = 10
constant_code Btrue = 11
constant_code Bfalse = 12

-- the constant at a place of the list
abbrev pub constant_back : ℕ → Constant
constant_back n = get_or constant_operators n Bool

-- a constant stands at its place
pub constant_back-code : (o : Constant) → constant_back (constant_code o) ≡ o
constant_back-code Bool = refl
constant_back-code _ = refl
