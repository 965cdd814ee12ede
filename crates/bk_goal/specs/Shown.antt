-- Texts that show the sequents which rules leave open.
use Rattle.std.specs.Prelude.{◌≡◌, ◌⊎◌, ◌+◌, ◌-◌, ℕ, suc, min, nat_lt, nat_eq, Bool, true, false, ◌||◌, not, cond}
use Rattle.std.specs.Prelude.{List, [], ◌∷◌, ◌++◌, take, drop, length, Option, Some, None, codes, decimal}
use Rattle.bk_form.specs.Formula.{Formula}
use Rattle.bk_form.specs.Table.{Table}
use Rattle.bk_seq.specs.Sequents.{Sequent}
use Rattle.bk_show.specs.Shown.{shown}
use Rattle.bk_layout.specs.Laid.{IsLaidOut}
use Rattle.bk_seq.specs.Paths.{numbered_item}
use Rattle.bk_dev.specs.Development.{Development}
use Rattle.bk_raw.specs.Trees.ScriptTree.{RawRule}
use Rattle.bk_places.specs.Places.{line_of, column_of}
use Rattle.bk_kernel.specs.declared.rule.Rule.{Rule}
use Rattle.bk_kernel.specs.Obvious.{is_obvious}
use Rattle.bk_scripts.specs.Grounding.{IsGrounded}
use Rattle.bk_replay.specs.Standing.{IsFurthest}
use Rattle.bk_goal.specs.declared.asked.Found.{Found}
use Rattle.bk_goal.specs.declared.brought.Brought.{Brought}

-- ---- sequents
-- a line of words on what its bound variables are called, or nothing
abbrev pub TellsNames : List ℕ → Type 0
TellsNames line = (line ≡ []) ⊎ ((words : List ℕ) × (line ≡ codes "        where " ++ words ++ codes "\n"))

-- the text of a formula as it is printed, in lines, and what its bound variables are called
pub record ShowsFormula (table : Table) (f : Formula) (text : List ℕ) : Type 0 where
  pub laid : List ℕ
  pub is_laid : IsLaidOut (shown table f) laid
  pub names : List ℕ
  pub tells : TellsNames names
  pub ends : text ≡ laid ++ codes "\n" ++ names

-- the mark before a hypothesis of a sequent that a rule made, which has those with greater numbers than this of that rule
abbrev pub mark_of : Option ℕ → ℕ → List ℕ
mark_of None number = codes "   "
mark_of (Some old) number = cond (nat_lt old number) (codes " * ") (codes "   ")

-- its mark, the number as scripts number hypotheses, and the formula
pub record ShowsHypothesis (table : Table) (old : Option ℕ) (number : ℕ) (f : Formula) (text : List ℕ) : Type 0 where
  pub formula : List ℕ
  pub shows : ShowsFormula table f formula
  pub line : text ≡ (mark_of old number ++ decimal number) ++ codes ": " ++ formula

-- the hypotheses, of which the first has this number
abbrev pub ShowsHypotheses : Table → Option ℕ → ℕ → List Formula → List ℕ → Type 0
ShowsHypotheses table old n [] text = text ≡ []
ShowsHypotheses table old n (f ∷ fs) text =
    (first rest : List ℕ) × ShowsHypothesis table old n f first × ShowsHypotheses table old (suc n) fs rest × (text ≡ first ++ rest)

-- all its hypotheses, numbered from 1, and its goal
pub record ShowsSequent (table : Table) (old : Option ℕ) (s : Sequent) (text : List ℕ) : Type 0 where
  pub hypotheses : List ℕ
  pub goal : List ℕ
  pub shows_hypotheses : ShowsHypotheses table old 1 s.0 hypotheses
  pub shows_goal : ShowsFormula table s.1 goal
  pub whole : text ≡ hypotheses ++ codes "  goal: " ++ goal

-- a sequent after its title
pub record ShowsTitled (table : Table) (old : Option ℕ) (n count : ℕ) (s : Sequent) (text : List ℕ) : Type 0 where
  pub lines : List ℕ
  pub shows : ShowsSequent table old s lines
  pub titled : text ≡ (codes "sequent " ++ decimal n) ++ (codes " of " ++ decimal count) ++ codes "\n" ++ lines

-- after which of its hypotheses those stand that a rule brought, if the sequent of this number came of it
abbrev pub old_at : Brought → ℕ → Option ℕ
old_at brought n = cond (nat_lt brought.news n) None (Some brought.old)

-- sequents that number so many, from this one on, each after its title
abbrev pub ShowsFrom : Table → Brought → ℕ → ℕ → List Sequent → List ℕ → Type 0
ShowsFrom table brought count n [] text = text ≡ []
ShowsFrom table brought count n (s ∷ ss) text =
    (first rest : List ℕ) × ShowsTitled table (old_at brought n) n count s first ×
    ShowsFrom table brought count (suc n) ss rest × (text ≡ first ++ rest)

-- these sequents, in order, and no others
abbrev pub ShowsSequents : Table → Brought → List Sequent → List ℕ → Type 0
ShowsSequents table brought ss text = ShowsFrom table brought (length ss) 1 ss text

-- between two other texts
pub record ShowsBetween (before behind : List ℕ) (table : Table) (brought : Brought) (ss : List Sequent) (text : List ℕ) : Type 0 where
  pub shown_text : List ℕ
  pub shows : ShowsSequents table brought ss shown_text
  pub whole : text ≡ before ++ shown_text ++ behind

-- ---- what a rule brought
-- how many hypotheses the sequent has on which a rule works
abbrev pub hypotheses_of_first : List Sequent → ℕ
hypotheses_of_first [] = 0
hypotheses_of_first (first ∷ others) = length first.0

-- how many of the sequents after a rule came of it, where these were open before it
abbrev pub came_of_first : List Sequent → ℕ → ℕ
came_of_first [] left = 0
came_of_first (first ∷ others) left = left - length others

-- what rule k brought, after which these are left: the sequents that came of it stand before those that were there, and their hypotheses
-- past the ones that there were are new
pub record IsBrought (table : Table) (rules : List Rule) (s : Sequent) (k : ℕ) (left : List Sequent) (brought : Brought) : Type 0 where
  pub done : ℕ
  pub before : List Sequent
  pub furthest : IsFurthest table (take (k - 1) rules) s done before
  pub old : brought.old ≡ hypotheses_of_first before
  pub news : brought.news ≡ came_of_first before (length left)

-- ---- words around them
-- ` (FILE:LINE:COLUMN)`: a byte of the text of a file
abbrev pub place_text : List ℕ → List ℕ → ℕ → List ℕ
place_text file text at =
    codes " (" ++ file ++ (codes ":" ++ decimal (line_of text at)) ++ (codes ":" ++ decimal (column_of text at)) ++ codes ")"

-- where a rule begins, if there is one
abbrev pub place_of_rule : Found → Option RawRule → List ℕ
place_of_rule found None = []
place_of_rule found (Some rule) = place_text found.file.now found.text.now rule.at

-- an obligation's name, and after how many of so many rules
abbrev pub title : List ℕ → ℕ → ℕ → List ℕ
title name k rules = cond (nat_eq k 0)
    (name ++ (codes ", before the first of " ++ decimal rules) ++ codes " rules")
    (name ++ (codes ", after rule " ++ decimal k) ++ (codes " of " ++ decimal rules))

-- the line over what is left after k of so many rules, with the place of rule k
abbrev pub header : List ℕ → Found → ℕ → ℕ → List ℕ
header name found k rules = title name k rules ++ place_of_rule found (numbered_item found.script.now.rules k) ++ codes "\n"

-- what is written there, so many bytes
abbrev pub rule_text : Found → RawRule → ℕ → List ℕ
rule_text found rule n = take n (drop rule.at found.text.now)

-- the line of a rule: its number, its place, and so many bytes of what is written there
abbrev pub rule_line : Found → ℕ → RawRule → ℕ → List ℕ
rule_line found number rule n =
    (codes "rule " ++ decimal number) ++ place_of_rule found (Some rule) ++ codes ": " ++ rule_text found rule n ++ codes "\n"

-- words where a rule that is asked for does not fit, and none where it is not asked for
abbrev pub TellsMisfit : Bool → List ℕ → Type 0
TellsMisfit true text = (words : List ℕ) × (text ≡ codes "  does not fit: " ++ words ++ codes "\n")
TellsMisfit false text = text ≡ []

-- the rule after the first k, of which so many are asked for
pub record TellsRule (found : Found) (k asked : ℕ) (rule : RawRule) (text : List ℕ) : Type 0 where
  pub length_written : ℕ
  pub misfit : List ℕ
  pub line : text ≡ rule_line found (k + 1) rule length_written ++ misfit
  pub told : TellsMisfit (nat_lt k asked) misfit

-- where no rule is left, with so many sequents
abbrev pub end_text : ℕ → List ℕ
end_text left = cond (nat_eq left 0) (codes "nothing is open: the script proves it\n") (codes "all rules fit, and the script ends here\n")

-- what comes after the first k rules
abbrev pub TellsNext : Found → (k asked left : ℕ) → Option RawRule → List ℕ → Type 0
TellsNext found k asked left None text = text ≡ end_text left
TellsNext found k asked left (Some rule) text = TellsRule found k asked rule text

-- what comes after the first k rules of the script, where these sequents are left
abbrev pub TellsRest : Found → (k asked : ℕ) → List Sequent → List ℕ → Type 0
TellsRest found k asked left text = TellsNext found k asked (length left) (numbered_item found.script.now.rules (k + 1)) text

-- what is said of an obligation without a script
abbrev pub words_alone : Bool → List ℕ
words_alone is_open = cond is_open (codes ", no script\n") (codes ", obvious: it needs no script\n")

-- the line over it
abbrev pub title_alone : List ℕ → Bool → List ℕ
title_alone name is_open = name ++ words_alone is_open

-- ---- obligations
-- its name and its sequent
abbrev pub Named : Type 0
Named = List ℕ × Sequent

-- of so many rules, how many are asked for: all, if it is not said
abbrev pub count_asked : Option ℕ → ℕ → ℕ
count_asked None rules = rules
count_asked (Some at) rules = min at rules

-- of the rules that the script stands for those that are asked for go so far on the sequent, and what is shown is exactly what the
-- kernel's definition leaves after them; then the next rule is told, and whether it does not fit. It is open where a sequent is left, or
-- a rule that is asked for does not fit
pub record ShowsAfter (dev : Development) (found : Found) (at : Option ℕ) (o : Named) (text : List ℕ) (is_open : Bool) : Type 0 where
  pub rules : List Rule
  pub table : Table
  pub grounded : IsGrounded dev found.script.now rules table
  pub k : ℕ
  pub left : List Sequent
  pub furthest : IsFurthest table (take (count_asked at (length rules)) rules) o.1 k left
  pub brought : Brought
  pub brings : IsBrought table rules o.1 k left brought
  pub next : List ℕ
  pub tells : TellsRest found k (count_asked at (length rules)) left next
  pub shows : ShowsBetween (header o.0 found k (length rules)) next table brought left text
  pub open_is : is_open ≡ (nat_lt k (count_asked at (length rules)) || nat_lt 0 (length left))

-- the sequent itself, of which no rule brought anything. It is open where it is not obvious
pub record ShowsAlone (table : Table) (o : Named) (text : List ℕ) (is_open : Bool) : Type 0 where
  pub brought : Brought
  pub none : brought.news ≡ 0
  pub shows : ShowsBetween (title_alone o.0 is_open) [] table brought (o.1 ∷ []) text
  pub open_is : is_open ≡ not (is_obvious o.1.0 o.1.1)

-- what is open of an obligation with a script after the rules that are asked for, and of one without a script
abbrev pub ShowsGoal : Development → Option Found → Option ℕ → Named → List ℕ → Bool → Type 0
ShowsGoal dev (Some found) at o text is_open = ShowsAfter dev found at o text is_open
ShowsGoal dev None at o text is_open = ShowsAlone dev.table o text is_open
