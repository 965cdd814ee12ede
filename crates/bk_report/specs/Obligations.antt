-- What `po` writes: each obligation with its name, its hypotheses and its goal.
use Rattle.std.specs.Prelude.{ℕ, ◌+◌, List, [], ◌∷◌, ◌++◌, codes, decimal}
use Rattle.std.specs.List.{flat_map}
use Rattle.bk_form.specs.Formula.{Formula}
use Rattle.bk_form.specs.Table.{Table}
use Rattle.bk_seq.specs.Sequents.{Sequent}
use Rattle.bk_show.specs.Shown.{shown}

-- `1: n$0 : (0 .. 10)`
abbrev pub hypothesis_line : Table → (number : ℕ) → Formula → List ℕ
hypothesis_line table number hypothesis = decimal number ++ codes ": " ++ shown table hypothesis ++ codes "\n"

-- a line for each hypothesis, of which the first has that number
abbrev pub hypothesis_lines : Table → (number : ℕ) → List Formula → List ℕ
hypothesis_lines table number [] = []
hypothesis_lines table number (hypothesis ∷ rest) = hypothesis_line table number hypothesis ++ hypothesis_lines table (number + 1) rest

-- `goal: 0 : (0 .. 10)`
abbrev pub goal_line : Table → Formula → List ℕ
goal_line table goal = codes "goal: " ++ shown table goal ++ codes "\n"

-- the hypotheses of a sequent, numbered from 1 as scripts number them, and its goal
abbrev pub sequent_lines : Table → Sequent → List ℕ
sequent_lines table s = hypothesis_lines table 1 s.0 ++ goal_line table s.1

-- the name of an obligation and its sequent
abbrev pub obligation_text : Table → List ℕ × Sequent → List ℕ
obligation_text table o = (o.0 ++ codes "\n") ++ sequent_lines table o.1

-- the obligations, one after another
abbrev pub obligations_text : Table → List (List ℕ × Sequent) → List ℕ
obligations_text table list = flat_map (obligation_text table) list
