-- What a formula prints as: a list of items, and their text. The form of the text is this project's own; what the signs mean is the
-- B Language Reference Manual's, and in addition there are `$k`, `{:T}`, and types and ranges of bound variables where they are bound.
use Rattle.std.specs.Prelude.{ℕ, zero, suc, ◌+◌, ◌-◌, ℤ, pos, negsuc, Bool, true, false, cond}
use Rattle.std.specs.Prelude.{not, nat_eq, List, [], ◌∷◌, ◌++◌, length, Option, None, Some}
use Rattle.std.specs.List.{slice_get}
use Rattle.bk_val.specs.ValueType.{ValueType, int_type, bool_type, enum_type, pair_type, set_type}
use Rattle.bk_form.specs.Table.{Table, set_name, set_elements, variable_text}
use Rattle.bk_form.specs.Formula.{Formula, variable, bound, literal, truth_value, element, empty_set, named, btrue, bfalse}
use Rattle.bk_form.specs.Formula.{unary, binary, for_all, for_some, comprehension, lambda, Formulas, no_formulas, formula_and}
use Rattle.bk_form.specs.Replacement.{count}
use Rattle.bk_form.specs.declared.operator.UnOp.{UnOp}
use Rattle.bk_form.specs.declared.operator.UnOp.TheVariants.{Not as Negation, BoolOf as TruthOf, Neg, Card as CardOf, Min as MinOf}
use Rattle.bk_form.specs.declared.operator.UnOp.TheVariants.{Max as MaxOf, Dom as DomainOf, Ran as RangeOf, Id as IdOf}
use Rattle.bk_form.specs.declared.operator.UnOp.TheVariants.{Inverse as InverseOf, Single, Pow as PowerOf, Pow1 as Power1Of}
use Rattle.bk_form.specs.declared.operator.BinOp.{BinOp}
use Rattle.bk_form.specs.declared.operator.BinOp.TheVariants.{And as Conjunction, Or as Disjunction, Imp, Iff, Eq, Lt, Le, In}
use Rattle.bk_form.specs.declared.operator.BinOp.TheVariants.{Union as Joining, Inter, Minus as Without, Times as Product, DomRes}
use Rattle.bk_form.specs.declared.operator.BinOp.TheVariants.{RanRes, DomSub, RanSub, Over, Maps, Range, Add, Sub, Mul, Div}
use Rattle.bk_form.specs.declared.operator.BinOp.TheVariants.{Mod as Remainder, Power as PowerTo, Image as ImageOf, Apply as ApplyTo}
use Rattle.bk_form.specs.declared.operator.BinOp.TheVariants.{Comp, Relations as RelationsOf, PartialFunctions as PartialOf}
use Rattle.bk_form.specs.declared.operator.BinOp.TheVariants.{TotalFunctions as TotalOf, PartialInjections as PartialInjectionsOf}
use Rattle.bk_form.specs.declared.operator.BinOp.TheVariants.{TotalInjections as TotalInjectionsOf}
use Rattle.bk_form.specs.declared.operator.BinOp.TheVariants.{PartialSurjections as PartialSurjectionsOf}
use Rattle.bk_form.specs.declared.operator.BinOp.TheVariants.{TotalSurjections as TotalSurjectionsOf, Bijections as BijectionsOf}
use Rattle.bk_form.specs.declared.operator.Domain.{Domain}
use Rattle.bk_form.specs.declared.operator.Domain.TheVariants.{Integer as WholeNumbers, Natural as NaturalNumbers}
use Rattle.bk_form.specs.declared.operator.Domain.TheVariants.{Natural1 as PositiveNumbers, Bool as Booleans, Enum}
use Rattle.bk_form.specs.declared.token.TokenKind.{TokenKind}
use Rattle.bk_form.specs.declared.token.TokenKind.TheVariants.{Name, LevelName, BoundName, Number, Word}
use Rattle.bk_ops.specs.declared.sign.TheConstants.{FOR_ALL, EXISTS, MEMBER, MINUS, TIMES, OPEN_PAREN, CLOSE_PAREN, OPEN_BRACKET}
use Rattle.bk_ops.specs.declared.sign.TheConstants.{CLOSE_BRACKET, OPEN_BRACE, CLOSE_BRACE, INVERSE, SEMICOLON, COMMA, DOT, BAR, LAMBDA}
use Rattle.bk_ops.specs.declared.word.TheConstants.{BOOL, INTEGER, POW}
use Rattle.bk_lex.specs.Lexis.{numeral_from}
use Rattle.bk_raw.specs.Trees.Operators.{infix_kind, word_kind, constant_kind}
use Rattle.bk_raw.specs.declared.operator.InfixOp.TheVariants.{Equivalent, Implies, And, Or, Equal, Less, AtMost, Member, Relations}
use Rattle.bk_raw.specs.declared.operator.InfixOp.TheVariants.{PartialFunctions, TotalFunctions, PartialInjections, TotalInjections}
use Rattle.bk_raw.specs.declared.operator.InfixOp.TheVariants.{PartialSurjections, TotalSurjections, Bijections, Union, Intersection}
use Rattle.bk_raw.specs.declared.operator.InfixOp.TheVariants.{DomainRestriction, RangeRestriction, DomainSubtraction, RangeSubtraction}
use Rattle.bk_raw.specs.declared.operator.InfixOp.TheVariants.{Override, Maplet, Interval, Plus, Minus, Times, Divide, Mod, Power}
use Rattle.bk_raw.specs.declared.operator.WordOp.TheVariants.{Not, BoolOf, Card, Min, Max, Dom, Ran, Id, Pow, Pow1}
use Rattle.bk_raw.specs.declared.operator.Constant.{Constant}
use Rattle.bk_raw.specs.declared.operator.Constant.TheVariants.{Bool as BoolWord, True, False, Integer, Natural, Natural1, Btrue, Bfalse}
pub use Rattle.bk_show.specs.declared.notation.UnaryForm.{UnaryForm}
pub use Rattle.bk_show.specs.declared.notation.UnaryForm.TheVariants.{Word as word_form, Negative as negative_form}
pub use Rattle.bk_show.specs.declared.notation.UnaryForm.TheVariants.{Inverse as inverse_form, Single as single_form}
pub use Rattle.bk_show.specs.declared.notation.BinaryForm.{BinaryForm}
pub use Rattle.bk_show.specs.declared.notation.BinaryForm.TheVariants.{Infix as infix_form, Image as image_form}
pub use Rattle.bk_show.specs.declared.notation.BinaryForm.TheVariants.{Application as apply_form, Composition as composition_form}
use Rattle.bk_show.specs.Items.{Item, blank, lexeme, plain, sign, text_of}

-- ---- names
-- a text, or nothing
abbrev pub or_empty : Option (List ℕ) → List ℕ
or_empty None = []
or_empty (Some text) = text

-- the names of a variable and a set, where the table has them
abbrev pub name_of_variable : Table → ℕ → List ℕ
name_of_variable table n = or_empty (variable_text table n)

-- the name of a set in the table, empty where there is none
abbrev pub name_of_set : Table → ℕ → List ℕ
name_of_set table n = or_empty (set_name table n)

-- an entry of a list of names, where there is one
abbrev pub nth_name : Option (List (List ℕ)) → ℕ → List ℕ
nth_name None i = []
nth_name (Some names) i = or_empty (slice_get names i)

-- the name of an element of a set, where the table has it
abbrev pub name_of_element : Table → ℕ → ℕ → List ℕ
name_of_element table s i = nth_name (set_elements table s) i

-- what stands after the first dollar sign, if there is one, and what before it
abbrev pub behind_dollar : List ℕ → Option (List ℕ)
behind_dollar [] = None
behind_dollar (c ∷ cs) = cond (nat_eq c 36) (Some cs) (behind_dollar cs)

-- the text in front of the first dollar
abbrev pub before_dollar : List ℕ → List ℕ
before_dollar [] = []
before_dollar (c ∷ cs) = cond (nat_eq c 36) [] (c ∷ before_dollar cs)

-- the kind of a name, by what stands after its dollar sign
abbrev pub kind_by : List ℕ → Option (List ℕ) → TokenKind
kind_by text None = Name text
kind_by text (Some digits) = LevelName (before_dollar text) (numeral_from 0 digits)

-- a name, or a name at a level
abbrev pub name_kind : List ℕ → TokenKind
name_kind text = kind_by text (behind_dollar text)

-- a name as one item, with or without a level
abbrev pub name_item : List ℕ → Item
name_item text = lexeme (name_kind text) text

-- ---- brackets
-- in parentheses
abbrev pub enclosed : List Item → List Item
enclosed xs = sign OPEN_PAREN ∷ (xs ++ sign CLOSE_PAREN ∷ [])

-- in parentheses where the test holds
abbrev pub enclosed_if : Bool → List Item → List Item
enclosed_if b xs = cond b (enclosed xs) xs

-- ---- types
-- INTEGER, BOOL, the name of a set, (T * U) or POW(T)
abbrev pub type_items : Table → ValueType → List Item
type_items table int_type = plain (Word INTEGER) ∷ []
type_items table bool_type = plain (Word BOOL) ∷ []
type_items table (enum_type n) = plain (Name (name_of_set table n)) ∷ []
type_items table (pair_type t u) = enclosed (type_items table t ++ blank ∷ sign TIMES ∷ blank ∷ type_items table u)
type_items table (set_type t) = plain (Word POW) ∷ enclosed (type_items table t)

-- ---- operators
-- how an operator stands with its operand
abbrev pub unary_form : UnOp → UnaryForm
unary_form Negation = word_form Not
unary_form TruthOf = word_form BoolOf
unary_form Neg = negative_form
unary_form CardOf = word_form Card
unary_form MinOf = word_form Min
unary_form MaxOf = word_form Max
unary_form DomainOf = word_form Dom
unary_form RangeOf = word_form Ran
unary_form IdOf = word_form Id
unary_form InverseOf = inverse_form
unary_form Single = single_form
unary_form PowerOf = word_form Pow
unary_form Power1Of = word_form Pow1

-- how an operator stands with its operands
abbrev pub binary_form : BinOp → BinaryForm
binary_form Conjunction = infix_form And
binary_form Disjunction = infix_form Or
binary_form Imp = infix_form Implies
binary_form Iff = infix_form Equivalent
binary_form Eq = infix_form Equal
binary_form Lt = infix_form Less
binary_form Le = infix_form AtMost
binary_form In = infix_form Member
binary_form RelationsOf = infix_form Relations
binary_form PartialOf = infix_form PartialFunctions
binary_form TotalOf = infix_form TotalFunctions
binary_form PartialInjectionsOf = infix_form PartialInjections
binary_form TotalInjectionsOf = infix_form TotalInjections
binary_form PartialSurjectionsOf = infix_form PartialSurjections
binary_form TotalSurjectionsOf = infix_form TotalSurjections
binary_form BijectionsOf = infix_form Bijections
binary_form Joining = infix_form Union
binary_form Inter = infix_form Intersection
binary_form Without = infix_form Minus
binary_form Product = infix_form Times
binary_form DomRes = infix_form DomainRestriction
binary_form RanRes = infix_form RangeRestriction
binary_form DomSub = infix_form DomainSubtraction
binary_form RanSub = infix_form RangeSubtraction
binary_form Over = infix_form Override
binary_form Maps = infix_form Maplet
binary_form Range = infix_form Interval
binary_form Add = infix_form Plus
binary_form Sub = infix_form Minus
binary_form Mul = infix_form Times
binary_form Div = infix_form Divide
binary_form Remainder = infix_form Mod
binary_form PowerTo = infix_form Power
binary_form ImageOf = image_form
binary_form ApplyTo = apply_form
binary_form Comp = composition_form

-- whether the operator stands between its operands
abbrev pub is_infix_form : BinaryForm → Bool
is_infix_form (infix_form o) = true
is_infix_form _ = false

-- an operator stands between two operands: so it stands in parentheses unless it is the whole or fills brackets
abbrev pub is_infix : Formula → Bool
is_infix (binary o a b) = is_infix_form (binary_form o)
is_infix _ = false

-- variables, free and bound, stand before ~, [ and ( without parentheses
abbrev pub is_bare : Formula → Bool
is_bare (variable n) = true
is_bare (bound i) = true
is_bare _ = false

-- o(E), -(E), r~ or {E}, where the operand prints as these items
abbrev pub unary_items : UnaryForm → Bool → List Item → List Item
unary_items (word_form o) bare xs = plain (word_kind o) ∷ enclosed xs
unary_items negative_form bare xs = sign MINUS ∷ enclosed xs
unary_items inverse_form bare xs = enclosed_if (not bare) xs ++ sign INVERSE ∷ []
unary_items single_form bare xs = sign OPEN_BRACE ∷ (xs ++ sign CLOSE_BRACE ∷ [])

-- what is asked of two operands: whether the left one stands before brackets without parentheses, and whether each is an operator
-- between two operands
pub record Sides : Type 0 where
  pub bare : Bool
  pub left : Bool
  pub right : Bool

-- the two operands of an operator
abbrev pub sides : Formula → Formula → Sides
sides a b = record { bare = is_bare a; left = is_infix a; right = is_infix b }

-- E o F, r[S], f(E) or (r ; s), where the operands print as these items
abbrev pub binary_items : BinaryForm → Sides → List Item → List Item → List Item
binary_items (infix_form o) s xs ys = enclosed_if s.left xs ++ blank ∷ plain (infix_kind o) ∷ blank ∷ enclosed_if s.right ys
binary_items image_form s xs ys = enclosed_if (not s.bare) xs ++ sign OPEN_BRACKET ∷ (ys ++ sign CLOSE_BRACKET ∷ [])
binary_items apply_form s xs ys = enclosed_if (not s.bare) xs ++ enclosed ys
binary_items composition_form s xs ys = enclosed (enclosed_if s.left xs ++ blank ∷ sign SEMICOLON ∷ blank ∷ enclosed_if s.right ys)

-- ---- leaves
-- a word of the notation
abbrev pub constant_item : Constant → List Item
constant_item c = plain (constant_kind c) ∷ []

-- TRUE or FALSE
abbrev pub truth_word : Bool → Constant
truth_word true = True
truth_word false = False

-- a number, with a sign in front where it is negative
abbrev pub literal_items : ℤ → List Item
literal_items (pos n) = plain (Number (pos n)) ∷ []
literal_items (negsuc n) = sign MINUS ∷ plain (Number (pos (suc n))) ∷ []

-- a set that has a name in the notation or in the table
abbrev pub domain_items : Table → Domain → List Item
domain_items table WholeNumbers = constant_item Integer
domain_items table NaturalNumbers = constant_item Natural
domain_items table PositiveNumbers = constant_item Natural1
domain_items table Booleans = constant_item BoolWord
domain_items table (Enum n) = name_item (name_of_set table n) ∷ []

-- ---- binders
-- $k:T
abbrev pub typed_items : Table → ℕ → ValueType → List Item
typed_items table k t = plain (BoundName k) ∷ sign MEMBER ∷ type_items table t

-- a comma, where more follows
abbrev pub comma_before : List ValueType → List Item → List Item
comma_before [] xs = xs
comma_before (t ∷ ts) xs = sign COMMA ∷ xs

-- what stands before the entry of a list with this index
abbrev pub comma_at : ℕ → List ℕ
comma_at zero = []
comma_at (suc i) = 44 ∷ []

-- bound variables with their types, the first of which is the k-th
abbrev pub bounds_items : Table → ℕ → List ValueType → List Item
bounds_items table k [] = []
bounds_items table k (t ∷ ts) = typed_items table k t ++ comma_before ts (bounds_items table (suc k) ts)

-- (x:T,y:U).(P), after the sign of a quantifier: the variables that it binds under d others, and its body
abbrev pub binder_items : Table → ℕ → List ValueType → List Item → List Item
binder_items table d ts xs = enclosed (bounds_items table (suc d) ts) ++ sign DOT ∷ enclosed xs

-- a quantifier with this sign
abbrev pub quantified_items : Table → ℕ → ℕ → List ValueType → List Item → List Item
quantified_items table op d ts xs = sign op ∷ binder_items table d ts xs

-- $k:D, where the range prints as these items and is an operator between two operands or not
abbrev pub range_items : ℕ → Bool → List Item → List Item
range_items k left xs = plain (BoundName k) ∷ sign MEMBER ∷ enclosed_if left xs

-- a comma, where more follows
abbrev pub comma_between : Formulas → List Item → List Item
comma_between no_formulas xs = xs
comma_between (formula_and f fs) xs = sign COMMA ∷ xs

-- {x:D | P}, where ranges and body print as these items
abbrev pub comprehension_items : List Item → Bool → List Item → List Item
comprehension_items rs left xs = sign OPEN_BRACE ∷ ((rs ++ blank ∷ sign BAR ∷ blank ∷ enclosed_if left xs) ++ sign CLOSE_BRACE ∷ [])

-- %(x:D).(P | E)
abbrev pub lambda_items : List Item → Bool → Bool → List Item → List Item → List Item
lambda_items rs left right xs ys =
    sign LAMBDA ∷ (enclosed rs ++ sign DOT ∷ enclosed (enclosed_if left xs ++ blank ∷ sign BAR ∷ blank ∷ enclosed_if right ys))

-- ---- formulas
abbrev mutual
  -- a formula under d bound variables, which are numbered from the outermost on
  pub items : Table → ℕ → Formula → List Item
  items table d (variable n) = name_item (name_of_variable table n) ∷ []
  items table d (bound i) = plain (BoundName (d - i)) ∷ []
  items table d (literal z) = literal_items z
  items table d (truth_value b) = constant_item (truth_word b)
  items table d (element s i) = name_item (name_of_element table s i) ∷ []
  items table d (empty_set t) = sign OPEN_BRACE ∷ sign MEMBER ∷ (type_items table t ++ sign CLOSE_BRACE ∷ [])
  items table d (named n) = domain_items table n
  items table d btrue = constant_item Btrue
  items table d bfalse = constant_item Bfalse
  items table d (unary o a) = unary_items (unary_form o) (is_bare a) (items table d a)
  items table d (binary o a b) = binary_items (binary_form o) (sides a b) (items table d a) (items table d b)
  items table d (for_all ts p) = quantified_items table FOR_ALL d ts (items table (d + length ts) p)
  items table d (for_some ts p) = quantified_items table EXISTS d ts (items table (d + length ts) p)
  items table d (comprehension rs p) = comprehension_items (ranges_items table d (suc d) rs) (is_infix p) (items table (d + count rs) p)
  items table d (lambda rs p e) =
      lambda_items (ranges_items table d (suc d) rs) (is_infix p) (is_infix e) (items table (d + count rs) p) (items table (d + count rs) e)

  -- variables with their ranges, which stand under d bound variables; the first is the k-th
  pub ranges_items : Table → ℕ → ℕ → Formulas → List Item
  ranges_items table d k no_formulas = []
  ranges_items table d k (formula_and f fs) =
      range_items k (is_infix f) (items table d f) ++ comma_between fs (ranges_items table d (suc k) fs)

-- the text of a formula
abbrev pub shown : Table → Formula → List ℕ
shown table f = text_of (items table 0 f)
