-- Proof files as they are written: scripts with their rules, each rule a word and its parts by the word's shape.
use Rattle.std.specs.Prelude.{ℕ, List, [], ◌∷◌, map, codes}
use Rattle.bk_form.specs.declared.token.TokenKind.{TokenKind}
use Rattle.bk_form.specs.declared.token.TokenKind.TheVariants.{Name, Word}
use Rattle.bk_ops.specs.declared.word.TheConstants.{OR, NOT}
use Rattle.bk_raw.specs.Trees.RawTree.{RawTree, tree_height}
use Rattle.bk_raw.specs.Trees.Numbers.{greatest}
use Rattle.bk_raw.specs.declared.script.RuleWord.{RuleWord}
use Rattle.bk_raw.specs.declared.script.RuleWord.TheVariants.{Hyp, True, Same, Eval, False, Absurd, And, Iff, Imp, Not, Left}
use Rattle.bk_raw.specs.declared.script.RuleWord.TheVariants.{Right, Or, Contra, Fix, UseTerms, Split, Cases, Apply, Inst}
use Rattle.bk_raw.specs.declared.script.RuleWord.TheVariants.{OpenSome, Cut, Case, Drop, Eq, Qe, Law, Wal, TypeOf, Neg, Mem}
use Rattle.bk_raw.specs.declared.script.RuleWord.TheVariants.{Val, Ext, Sub, Ex, Pair, Elems, Interval, Induct, Poly, Lin}
use Rattle.bk_raw.specs.declared.script.RawMultiple.{RawMultiple}
use Rattle.bk_raw.specs.declared.script.RawTyped.{RawTyped}
use Rattle.bk_raw.specs.declared.script.NamePart.{NamePart}

-- the token of a rule's word: or and not are words of the notation, the others are names
abbrev pub rule_kind : RuleWord → TokenKind
rule_kind Hyp = Name (codes "hyp")
rule_kind True = Name (codes "true")
rule_kind Same = Name (codes "same")
rule_kind Eval = Name (codes "eval")
rule_kind False = Name (codes "false")
rule_kind Absurd = Name (codes "absurd")
rule_kind And = Name (codes "and")
rule_kind Iff = Name (codes "iff")
rule_kind Imp = Name (codes "imp")
rule_kind Not = Word NOT
rule_kind Left = Name (codes "left")
rule_kind Right = Name (codes "right")
rule_kind Or = Word OR
rule_kind Contra = Name (codes "contra")
rule_kind Fix = Name (codes "fix")
rule_kind UseTerms = Name (codes "use")
rule_kind Split = Name (codes "split")
rule_kind Cases = Name (codes "cases")
rule_kind Apply = Name (codes "apply")
rule_kind Inst = Name (codes "inst")
rule_kind OpenSome = Name (codes "open")
rule_kind Cut = Name (codes "cut")
rule_kind Case = Name (codes "case")
rule_kind Drop = Name (codes "drop")
rule_kind Eq = Name (codes "eq")
rule_kind Qe = Name (codes "qe")
rule_kind Law = Name (codes "law")
rule_kind Wal = Name (codes "wal")
rule_kind TypeOf = Name (codes "type")
rule_kind Neg = Name (codes "neg")
rule_kind Mem = Name (codes "mem")
rule_kind Val = Name (codes "val")
rule_kind Ext = Name (codes "ext")
rule_kind Sub = Name (codes "sub")
rule_kind Ex = Name (codes "ex")
rule_kind Pair = Name (codes "pair")
rule_kind Elems = Name (codes "elems")
rule_kind Interval = Name (codes "interval")
rule_kind Induct = Name (codes "induct")
rule_kind Poly = Name (codes "poly")
rule_kind Lin = Name (codes "lin")

-- what a part of a rule can be
pub data PartKind : Type 0 where
  -- the number of a hypothesis
  one_number : PartKind
  -- a term
  one_term : PartKind
  -- terms with commas between
  some_terms : PartKind
  -- a place in the sequent
  one_place : PartKind
  -- a place, or nothing
  perhaps_place : PartKind
  -- names with their types, with commas between
  typed_names : PartKind
  -- the name of a law, and the terms that it takes
  one_law : PartKind
  -- the numbers of hypotheses, and the lines of a certificate
  certificate : PartKind

-- what the parts after a rule's word are
abbrev pub shape_of : RuleWord → List PartKind
shape_of Hyp = one_number ∷ []
shape_of Eval = perhaps_place ∷ []
shape_of False = one_number ∷ []
shape_of Absurd = one_number ∷ one_number ∷ []
shape_of Fix = typed_names ∷ []
shape_of UseTerms = some_terms ∷ []
shape_of Split = one_number ∷ []
shape_of Cases = one_number ∷ []
shape_of Apply = one_number ∷ []
shape_of Inst = one_number ∷ some_terms ∷ []
shape_of OpenSome = one_number ∷ typed_names ∷ []
shape_of Cut = one_term ∷ []
shape_of Case = one_term ∷ []
shape_of Drop = one_number ∷ []
shape_of Eq = one_number ∷ one_place ∷ []
shape_of Qe = one_number ∷ one_place ∷ []
shape_of Law = one_law ∷ one_place ∷ []
shape_of Wal = one_law ∷ one_place ∷ []
shape_of TypeOf = one_place ∷ []
shape_of Neg = one_place ∷ []
shape_of Mem = one_place ∷ []
shape_of Val = one_place ∷ []
shape_of Ext = one_place ∷ []
shape_of Sub = one_place ∷ []
shape_of Ex = one_place ∷ []
shape_of Pair = one_term ∷ []
shape_of Elems = one_term ∷ []
shape_of Interval = one_number ∷ []
shape_of Lin = certificate ∷ []
shape_of _ = []

-- a place in a sequent: the goal, or the hypothesis of a number, and a path of child numbers into it. Hypotheses
-- and children count from 1; a number may be 0 or too large for anything to have it
pub data RawPlace : Type 0 where
  in_goal : List ℕ → RawPlace
  in_hypothesis : ℕ → List ℕ → RawPlace

-- a line of a certificate
pub data RawLine : Type 0 where
  -- m * k + .. : multiples of facts by their numbers
  multiples : List RawMultiple → RawLine
  -- k / g: a fact by its number, and what it is divided by
  quotient : ℕ → ℕ → RawLine

-- a part of a rule
pub data RulePart : Type 0 where
  part_number : ℕ → RulePart
  part_term : RawTree → RulePart
  part_terms : List RawTree → RulePart
  part_place : RawPlace → RulePart
  part_no_place : RulePart
  part_typed : List RawTyped → RulePart
  -- its name, and the terms that it takes
  part_law : List ℕ → List RawTree → RulePart
  -- the numbers of hypotheses, and lines
  part_certificate : List ℕ → List RawLine → RulePart

-- a rule: its word, the byte where it starts, and its parts in order
pub record RawRule : Type 0 where
  pub word : RuleWord
  pub at : ℕ
  pub parts : List RulePart

-- a script: the byte where it starts, the byte where its name starts, the parts of its name, and its rules in order
pub record RawScript : Type 0 where
  pub at : ℕ
  pub name_at : ℕ
  pub name : List NamePart
  pub rules : List RawRule

-- ---- heights
-- the height of the highest term of a part of a rule
abbrev pub part_height : RulePart → ℕ
part_height (part_term t) = tree_height t
part_height (part_terms ts) = greatest (map tree_height ts)
part_height (part_law name picks) = greatest (map tree_height picks)
part_height _ = 0

-- that of a script
abbrev pub script_height : RawScript → ℕ
script_height s = greatest (map (λ r. greatest (map part_height r.parts)) s.rules)
