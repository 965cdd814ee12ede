-- The words that rules begin with. Only private contracts cite it.
use Rattle.std.specs.Prelude.{ℕ, cond, List, [], ◌∷◌, ◌++◌, Option, None, Some, codes}
use Rattle.std.specs.Str.{bytes_eq}
use Rattle.bk_raw.specs.declared.script.RuleWord.{RuleWord}
use Rattle.bk_raw.specs.declared.script.RuleWord.TheVariants.{Hyp, True, Same, Eval, False, Absurd, And, Iff, Imp, Left}
use Rattle.bk_raw.specs.declared.script.RuleWord.TheVariants.{Right, Contra, Fix, UseTerms, Split, Cases, Apply, Inst, OpenSome}
use Rattle.bk_raw.specs.declared.script.RuleWord.TheVariants.{Cut, Case, Drop, Eq, Qe, Law, Wal, TypeOf, Neg, Mem, Val, Ext}
use Rattle.bk_raw.specs.declared.script.RuleWord.TheVariants.{Sub, Ex, Pair, Elems, Interval, Induct, Poly, Lin}

-- the first with these letters in the list
abbrev pub first_named : List (List ℕ × RuleWord) → List ℕ → Option RuleWord
first_named [] text = None
first_named (p ∷ ps) text = cond (bytes_eq text p.0) (Some p.1) (first_named ps text)

-- the words of the rules on goals
abbrev pub propositions : List (List ℕ × RuleWord)
propositions = (codes "hyp", Hyp) ∷ (codes "true", True) ∷ (codes "same", Same) ∷
    (codes "eval", Eval) ∷ (codes "false", False) ∷ (codes "absurd", Absurd) ∷ (codes "and", And) ∷
    (codes "iff", Iff) ∷ (codes "imp", Imp) ∷ (codes "left", Left) ∷ (codes "right", Right) ∷ []

-- the words of the rules on hypotheses and of those that bring names or formulas
abbrev pub hypotheses : List (List ℕ × RuleWord)
hypotheses = (codes "contra", Contra) ∷ (codes "fix", Fix) ∷ (codes "use", UseTerms) ∷
    (codes "split", Split) ∷ (codes "cases", Cases) ∷ (codes "apply", Apply) ∷ (codes "inst", Inst) ∷
    (codes "open", OpenSome) ∷ (codes "cut", Cut) ∷ (codes "case", Case) ∷ (codes "drop", Drop) ∷ []

-- the words of the rules that put another formula in a place
abbrev pub rewritings : List (List ℕ × RuleWord)
rewritings = (codes "eq", Eq) ∷ (codes "qe", Qe) ∷ (codes "law", Law) ∷ (codes "wal", Wal) ∷ (codes "type", TypeOf) ∷
    (codes "neg", Neg) ∷ (codes "mem", Mem) ∷ (codes "val", Val) ∷ (codes "ext", Ext) ∷ (codes "sub", Sub) ∷ (codes "ex", Ex) ∷ []

-- the words of the rules on cases, on whole numbers and on polynomials
abbrev pub arithmetic : List (List ℕ × RuleWord)
arithmetic = (codes "pair", Pair) ∷ (codes "elems", Elems) ∷ (codes "interval", Interval) ∷
    (codes "induct", Induct) ∷ (codes "poly", Poly) ∷ (codes "lin", Lin) ∷ []

-- all whose words are names
abbrev pub named_rule : List ℕ → Option RuleWord
named_rule text = first_named (propositions ++ hypotheses ++ rewritings ++ arithmetic) text
