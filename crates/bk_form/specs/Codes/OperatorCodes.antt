-- Each operator as a number, and each named set as a tree of numbers, by which a proof tells them apart.
use Rattle.std.specs.Prelude.{◌≡◌, ℕ, List, [], ◌∷◌, refl}
use Rattle.std.proofs.Common.{get_or}
use base.Stored.{Gv, gnil, gnum, gcons}
use Rattle.bk_form.specs.declared.operator.BinOp.{BinOp}
use Rattle.bk_form.specs.declared.operator.BinOp.TheVariants.{And, Or, Imp, Iff, Eq, Lt, Le, In, Relations, PartialFunctions}
use Rattle.bk_form.specs.declared.operator.BinOp.TheVariants.{TotalFunctions, PartialInjections, TotalInjections, PartialSurjections}
use Rattle.bk_form.specs.declared.operator.BinOp.TheVariants.{TotalSurjections, Bijections, Union, Inter, Minus, Times, DomRes, RanRes}
use Rattle.bk_form.specs.declared.operator.BinOp.TheVariants.{DomSub, RanSub, Over, Maps, Range, Add, Sub, Mul, Div, Mod, Power, Image}
use Rattle.bk_form.specs.declared.operator.BinOp.TheVariants.{Apply, Comp}
use Rattle.bk_form.specs.declared.operator.UnOp.{UnOp}
use Rattle.bk_form.specs.declared.operator.UnOp.TheVariants.{Not, BoolOf, Neg, Card, Min, Max, Dom, Ran, Id, Inverse, Single, Pow, Pow1}
use Rattle.bk_form.specs.declared.operator.Domain.{Domain}
use Rattle.bk_form.specs.declared.operator.Domain.TheVariants.{Integer, Natural, Natural1, Bool, Enum}

-- the operators on one formula, in order
abbrev pub unary_operators : List UnOp
unary_operators = Not ∷ BoolOf ∷ Neg ∷ Card ∷ Min ∷ Max ∷ Dom ∷ Ran ∷ Id ∷ Inverse ∷ Single ∷ Pow ∷ Pow1 ∷ []

-- an operator's place in that list
abbrev pub unary_code : UnOp → ℕ
unary_code Not = 0
unary_code BoolOf = 1
unary_code Neg = 2
unary_code Card = 3
unary_code Min = 4
unary_code Max = 5
unary_code Dom = 6
unary_code Ran = 7
unary_code Id = 8
unary_code Inverse = 9
unary_code Single = 10
unary_code Pow = 11
unary_code Pow1 = 12

-- the operator at a place in that list
abbrev pub unary_back : ℕ → UnOp
unary_back n = get_or unary_operators n Not

-- an operator's number gives the operator back
pub unary_back-code : (o : UnOp) → unary_back (unary_code o) ≡ o
unary_back-code Not = refl
unary_back-code _ = refl

-- the operators on two formulas, in order
abbrev pub binary_operators : List BinOp
binary_operators = And ∷ Or ∷ Imp ∷ Iff ∷ Eq ∷ Lt ∷ Le ∷ In ∷ Relations ∷ PartialFunctions ∷ TotalFunctions ∷ PartialInjections ∷
    TotalInjections ∷ PartialSurjections ∷ TotalSurjections ∷ Bijections ∷ Union ∷ Inter ∷ Minus ∷ Times ∷ DomRes ∷
    RanRes ∷ DomSub ∷ RanSub ∷ Over ∷ Maps ∷ Range ∷ Add ∷ Sub ∷ Mul ∷ Div ∷ Mod ∷ Power ∷ Image ∷ Apply ∷ Comp ∷ []

-- an operator's place in that list
abbrev pub binary_code : BinOp → ℕ
binary_code And = 0
binary_code Or = 1
binary_code Imp = 2
binary_code Iff = 3
binary_code Eq = 4
binary_code Lt = 5
binary_code Le = 6
binary_code In = 7
binary_code Relations = 8
binary_code PartialFunctions = 9
binary_code TotalFunctions = 10
binary_code PartialInjections = 11
binary_code TotalInjections = 12
binary_code PartialSurjections = 13
binary_code TotalSurjections = 14
binary_code Bijections = 15
binary_code Union = 16
binary_code Inter = 17
binary_code Minus = 18
binary_code Times = 19
binary_code DomRes = 20
binary_code RanRes = 21
binary_code DomSub = 22
binary_code RanSub = 23
binary_code Over = 24
binary_code Maps = 25
binary_code Range = 26
binary_code Add = 27
binary_code Sub = 28
binary_code Mul = 29
binary_code Div = 30
binary_code Mod = 31
binary_code Power = 32
binary_code Image = 33
binary_code Apply = 34
binary_code Comp = 35

-- the operator at a place in that list
abbrev pub binary_back : ℕ → BinOp
binary_back n = get_or binary_operators n And

-- an operator's number gives the operator back
pub binary_back-code : (o : BinOp) → binary_back (binary_code o) ≡ o
binary_back-code And = refl
binary_back-code _ = refl

-- a named set
abbrev pub domain_code : Domain → Gv
domain_code Integer = gnil
domain_code Natural = gnum 0
domain_code Natural1 = gnum 1
domain_code Bool = gcons gnil gnil
domain_code (Enum n) = gcons gnil (gnum n)

-- the named set that has this code
abbrev pub domain_back : Gv → Domain
domain_back gnil = Integer
domain_back (gnum n) = get_or (Natural ∷ Natural1 ∷ []) n Natural
domain_back (gcons a (gnum n)) = Enum n
domain_back (gcons a _) = Bool

-- the code of a named set gives the set back
pub domain_back-code : (d : Domain) → domain_back (domain_code d) ≡ d
domain_back-code Natural = refl
domain_back-code _ = refl
