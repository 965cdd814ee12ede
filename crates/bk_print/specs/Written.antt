-- What rules of proof are written as: a word, and none, one or two parts. The words are those by which proof files are read.
use Rattle.std.specs.Prelude.{ℕ, List, Option, Some, None}
use Rattle.bk_form.specs.Formula.{Formula}
use Rattle.bk_lin.specs.declared.fact.Line.{Line}
use Rattle.bk_raw.specs.declared.script.RuleWord.{RuleWord}
use Rattle.bk_raw.specs.declared.script.RuleWord.TheVariants.{Hyp as HypWord, True as TrueWord, Same as SameWord, Eval as EvalWord}
use Rattle.bk_raw.specs.declared.script.RuleWord.TheVariants.{False as FalseWord, Absurd as AbsurdWord, And as AndWord, Iff as IffWord}
use Rattle.bk_raw.specs.declared.script.RuleWord.TheVariants.{Imp as ImpWord, Not as NotWord, Left as LeftWord, Right as RightWord}
use Rattle.bk_raw.specs.declared.script.RuleWord.TheVariants.{Or as OrWord, Contra as ContraWord, Fix as FixWord, UseTerms as UseWord}
use Rattle.bk_raw.specs.declared.script.RuleWord.TheVariants.{Split as SplitWord, Cases as CasesWord, Apply as ApplyWord, Inst as InstWord}
use Rattle.bk_raw.specs.declared.script.RuleWord.TheVariants.{OpenSome as OpenWord, Cut as CutWord, Case as CaseWord, Drop as DropWord}
use Rattle.bk_raw.specs.declared.script.RuleWord.TheVariants.{Eq as EqWord, Qe as QeWord, Law as LawWord, Wal as WalWord}
use Rattle.bk_raw.specs.declared.script.RuleWord.TheVariants.{TypeOf as TypeWord, Neg as NegWord, Mem as MemWord, Val as ValWord}
use Rattle.bk_raw.specs.declared.script.RuleWord.TheVariants.{Ext as ExtWord, Sub as SubWord, Ex as ExWord, Pair as PairWord}
use Rattle.bk_raw.specs.declared.script.RuleWord.TheVariants.{Elems as ElemsWord, Interval as IntervalWord, Induct as InductWord}
use Rattle.bk_raw.specs.declared.script.RuleWord.TheVariants.{Poly as PolyWord, Lin as LinWord}
use Rattle.bk_kernel.specs.declared.rule.Place.{Place}
use Rattle.bk_kernel.specs.declared.rule.Rule.{Rule}
use Rattle.bk_kernel.specs.declared.rule.Rule.TheVariants.{Hyp, True, Same, Eval, False, Absurd, And, Iff, Imp, Not, Left}
use Rattle.bk_kernel.specs.declared.rule.Rule.TheVariants.{Right, Or, Contra, Fix, UseTerms, Split, Cases, Apply, Inst, OpenSome}
use Rattle.bk_kernel.specs.declared.rule.Rule.TheVariants.{Cut, Case, Drop, Eq, Qe, Law, Wal, TypeOf, Neg, Mem, Val, Ext, Sub}
use Rattle.bk_kernel.specs.declared.rule.Rule.TheVariants.{Ex, Pair, Elems, Interval, Induct, Poly, Lin, Unread}

-- the word that a rule begins with; a rule that was not read has none
abbrev pub word_of : Rule → Option RuleWord
word_of (Hyp i) = Some HypWord
word_of True = Some TrueWord
word_of Same = Some SameWord
word_of (Eval place) = Some EvalWord
word_of (False i) = Some FalseWord
word_of (Absurd i j) = Some AbsurdWord
word_of And = Some AndWord
word_of Iff = Some IffWord
word_of Imp = Some ImpWord
word_of Not = Some NotWord
word_of Left = Some LeftWord
word_of Right = Some RightWord
word_of Or = Some OrWord
word_of Contra = Some ContraWord
word_of (Fix names) = Some FixWord
word_of (UseTerms terms) = Some UseWord
word_of (Split i) = Some SplitWord
word_of (Cases i) = Some CasesWord
word_of (Apply i) = Some ApplyWord
word_of (Inst i terms) = Some InstWord
word_of (OpenSome i names) = Some OpenWord
word_of (Cut p) = Some CutWord
word_of (Case p) = Some CaseWord
word_of (Drop i) = Some DropWord
word_of (Eq i place) = Some EqWord
word_of (Qe i place) = Some QeWord
word_of (Law law picks place) = Some LawWord
word_of (Wal law picks place) = Some WalWord
word_of (TypeOf place) = Some TypeWord
word_of (Neg place) = Some NegWord
word_of (Mem place) = Some MemWord
word_of (Val place) = Some ValWord
word_of (Ext place) = Some ExtWord
word_of (Sub place) = Some SubWord
word_of (Ex place) = Some ExWord
word_of (Pair e) = Some PairWord
word_of (Elems e) = Some ElemsWord
word_of (Interval i) = Some IntervalWord
word_of Induct = Some InductWord
word_of Poly = Some PolyWord
word_of (Lin facts lines) = Some LinWord
word_of Unread = None

-- what may stand after the word
pub data Part : Type 0 where
  -- the number of a hypothesis
  a_number : ℕ → Part
  -- a term, and terms
  a_term : Formula → Part
  some_terms : List Formula → Part
  -- a place in the sequent, or none where there may be one
  a_place : Place → Part
  no_place : Part
  -- variables, each with its type
  some_names : List ℕ → Part
  -- a law by its number, and the terms that it takes
  a_law : ℕ → List Formula → Part
  -- the numbers of hypotheses, and the lines of a certificate
  a_certificate : List ℕ → List Line → Part

-- none, one or two of them, in order
pub data Parts : Type 0 where
  none : Parts
  one : Part → Parts
  two : Part → Part → Parts

-- those of a rule
abbrev pub parts_of : Rule → Parts
parts_of (Hyp i) = one (a_number i)
parts_of (Eval None) = one no_place
parts_of (Eval (Some place)) = one (a_place place)
parts_of (False i) = one (a_number i)
parts_of (Absurd i j) = two (a_number i) (a_number j)
parts_of (Fix names) = one (some_names names.items)
parts_of (UseTerms terms) = one (some_terms terms.items)
parts_of (Split i) = one (a_number i)
parts_of (Cases i) = one (a_number i)
parts_of (Apply i) = one (a_number i)
parts_of (Inst i terms) = two (a_number i) (some_terms terms.items)
parts_of (OpenSome i names) = two (a_number i) (some_names names.items)
parts_of (Cut p) = one (a_term p)
parts_of (Case p) = one (a_term p)
parts_of (Drop i) = one (a_number i)
parts_of (Eq i place) = two (a_number i) (a_place place)
parts_of (Qe i place) = two (a_number i) (a_place place)
parts_of (Law law picks place) = two (a_law law picks.items) (a_place place)
parts_of (Wal law picks place) = two (a_law law picks.items) (a_place place)
parts_of (TypeOf place) = one (a_place place)
parts_of (Neg place) = one (a_place place)
parts_of (Mem place) = one (a_place place)
parts_of (Val place) = one (a_place place)
parts_of (Ext place) = one (a_place place)
parts_of (Sub place) = one (a_place place)
parts_of (Ex place) = one (a_place place)
parts_of (Pair e) = one (a_term e)
parts_of (Elems e) = one (a_term e)
parts_of (Interval i) = one (a_number i)
parts_of (Lin facts lines) = one (a_certificate facts.items lines.items)
parts_of _ = none
