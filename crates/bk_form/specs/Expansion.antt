-- What the words and signs of sequences stand for (B-Book, sequences). A sequence of n members is a function from 1 .. n.
use Rattle.std.specs.Prelude.{pos, Bool, true, false}
use Rattle.bk_form.specs.Formula.{Formula, bound, literal, btrue, unary, binary, lambda, no_formulas, formula_and}
use Rattle.bk_form.specs.declared.operator.UnOp.TheVariants.{Card, Single}
use Rattle.bk_form.specs.declared.operator.BinOp.TheVariants.{In, TotalFunctions, DomRes, Union, Maps, Range, Add, Sub, Apply}
use Rattle.bk_form.specs.Lifting.{lifted}
use Rattle.bk_form.specs.declared.operator.SeqSign.{SeqSign}
use Rattle.bk_form.specs.declared.operator.SeqSign.TheVariants.{Member, Size, First, Last, Front, Tail, Rev, Append, Prepend, Concat}

-- ---- the forms that expansions are made of
-- the number 1 as a formula
abbrev pub one : Formula
one = literal (pos 1)

-- card(s)
abbrev pub card_of : Formula → Formula
card_of s = unary Card s

-- card(s) + 1
abbrev pub one_more : Formula → Formula
one_more s = binary Add (card_of s) one

-- card(s) - 1
abbrev pub one_less : Formula → Formula
one_less s = binary Sub (card_of s) one

-- 1 .. n
abbrev pub up_to : Formula → Formula
up_to n = binary Range one n

-- %i.(i : a .. b | E), with `bound 0` for i in E
abbrev pub function_on : Formula → Formula → Formula → Formula
function_on a b image = lambda (formula_and (binary Range a b) no_formulas) btrue image

-- {x |-> y}
abbrev pub pair_alone : Formula → Formula → Formula
pair_alone x y = unary Single (binary Maps x y)

-- f : (1 .. n) --> D
abbrev pub is_sequence : Formula → Formula → Formula → Formula
is_sequence f n d = binary In f (binary TotalFunctions (up_to n) d)

-- the formula under the binder of a function on an interval: its loose bound numbers go up by one, and a formula without them stays
abbrev pub raised : Formula → Formula
raised s = lifted 1 0 s

-- ---- what each stands for
-- all members but the last
abbrev pub front : Formula → Formula
front s = binary DomRes (up_to (one_less s)) s

-- all members but the first, each one place earlier
abbrev pub tail : Formula → Formula
tail s = function_on one (one_less s) (binary Apply (raised s) (binary Add (bound 0) one))

-- the members in the other order
abbrev pub rev : Formula → Formula
rev s = function_on one (card_of s) (binary Apply (raised s) (binary Sub (one_more (raised s)) (bound 0)))

-- s, and after it x
abbrev pub append : Formula → Formula → Formula
append s x = binary Union s (pair_alone (one_more s) x)

-- the members of s, each one place later
abbrev pub later : Formula → Formula
later s = function_on (literal (pos 2)) (one_more s) (binary Apply (raised s) (binary Sub (bound 0) one))

-- x, and after it s
abbrev pub prepend : Formula → Formula → Formula
prepend x s = binary Union (pair_alone one x) (later s)

-- the members of t, after those of s
abbrev pub behind : Formula → Formula → Formula
behind s t =
    function_on (one_more s) (binary Add (card_of s) (card_of t)) (binary Apply (raised t) (binary Sub (bound 0) (card_of (raised s))))

-- s, and after it t
abbrev pub concat : Formula → Formula → Formula
concat s t = binary Union s (behind s t)

-- the sign with its operands in the order in which they are written, those of Member being E and D; where it has one, the second
-- does not matter
abbrev pub expanded : SeqSign → Formula → Formula → Formula
expanded Member s d = is_sequence s (card_of s) d
expanded Size s t = card_of s
expanded First s t = binary Apply s one
expanded Last s t = binary Apply s (card_of s)
expanded Front s t = front s
expanded Tail s t = tail s
expanded Rev s t = rev s
expanded Append s x = append s x
expanded Prepend x s = prepend x s
expanded Concat s t = concat s t

-- it has two operands
abbrev pub takes_second : SeqSign → Bool
takes_second Member = true
takes_second Append = true
takes_second Prepend = true
takes_second Concat = true
takes_second _ = false
