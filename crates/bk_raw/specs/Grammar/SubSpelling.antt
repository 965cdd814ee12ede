-- What tokens a substitution is written as, by cases over trees: a node's tokens are its words, its signs and its parts'
-- tokens in order. A list is pieces joined by ; and a piece is atoms joined by ||, both to the left: each part stands in a
-- place that asks how tightly it binds, 0 for a list, 1 for a piece, 2 for an atom. Operations are called where `calls` says
-- so, and nowhere else. The words and signs are those of the B Language Reference Manual.
use Rattle.std.specs.Prelude.{◌≡◌, ℕ, Bool, true, List, [], ◌∷◌}
use Rattle.bk_form.specs.declared.token.Token.{Token}
use Rattle.bk_ops.specs.declared.sign.TheConstants.{ASSIGN, BECOMES_MEMBER, MEMBER, OPEN_PAREN, CLOSE_PAREN, OUTPUTS, PARALLEL, SEMICOLON}
use Rattle.bk_ops.specs.declared.word.TheConstants.{END, BEGIN, PRE, THEN, IF, ELSIF, ELSE, SELECT, WHEN, CHOICE, OR_BRANCH, ANY}
use Rattle.bk_ops.specs.declared.word.TheConstants.{WHERE, LET, BE, IN, VAR, WHILE, DO, INVARIANT, VARIANT, ASSERT, SKIP}
use Rattle.bk_raw.specs.Grammar.Pieces.{Absent, JustSign, JustWord, ◌⌢◌, Provided, Starting, Binding}
use Rattle.bk_raw.specs.Grammar.Spelling.{Declared, Names, Term, Terms}
use Rattle.bk_raw.specs.Trees.RawTree.{RawTrees, no_trees, tree_and}
use Rattle.bk_raw.specs.declared.term.RawName.{RawName}
use Rattle.bk_raw.specs.Trees.SubTree.{SubTree, sub, SubNode, sub_skip, sub_assign, sub_assign_at, sub_member, sub_such, sub_call}
use Rattle.bk_raw.specs.Trees.SubTree.{sub_begin, sub_pre, sub_assert, sub_if, sub_choice, sub_select, sub_any, sub_let, sub_var, sub_while}
use Rattle.bk_raw.specs.Trees.SubTree.{sub_parallel, sub_sequence, Branches, no_branches, else_branch, branch_and}
use Rattle.bk_raw.specs.Trees.SubTree.{Choices, no_choices, choice_and}
use Rattle.bk_raw.specs.Trees.FreeNames.{Defines}

-- ---- calls
-- an operation and its arguments: op, or op(e, f)
abbrev pub Applied : RawName → RawTrees → List Token → Type 0
Applied o no_trees = Declared o
Applied o (tree_and t ts) = Declared o ⌢ JustSign OPEN_PAREN ⌢ Terms (tree_and t ts) ⌢ JustSign CLOSE_PAREN

-- a call: an operation and its arguments, with x, y <-- before it where it has outputs
abbrev pub Called : List RawName → RawName → RawTrees → List Token → Type 0
Called [] o ts = Applied o ts
Called (x ∷ xs) o ts = Names (x ∷ xs) ⌢ JustSign OUTPUTS ⌢ Applied o ts

-- ---- substitutions
abbrev mutual
  -- a substitution in a place that asks so much of its strength
  pub Sub : (calls : Bool) → SubTree → ℕ → List Token → Type 0
  Sub calls (sub at node) asked = Starting at (Stated calls node asked)

  -- a substitution of this node, in a place that asks so much of its strength
  pub Stated : (calls : Bool) → SubNode → ℕ → List Token → Type 0
  Stated calls sub_skip asked = JustWord SKIP
  Stated calls (sub_assign xs ts) asked = Names xs ⌢ JustSign ASSIGN ⌢ Terms ts
  Stated calls (sub_assign_at f x e) asked = Declared f ⌢ JustSign OPEN_PAREN ⌢ Term x 0 ⌢ JustSign CLOSE_PAREN ⌢ JustSign ASSIGN ⌢ Term e 0
  Stated calls (sub_member x e) asked = Declared x ⌢ JustSign BECOMES_MEMBER ⌢ Term e 0
  Stated calls (sub_such xs p) asked = Names xs ⌢ JustSign MEMBER ⌢ JustSign OPEN_PAREN ⌢ Term p 0 ⌢ JustSign CLOSE_PAREN
  Stated calls (sub_call xs o ts) asked = Provided (calls ≡ true) (Called xs o ts)
  Stated calls (sub_begin s) asked = JustWord BEGIN ⌢ Sub calls s 0 ⌢ JustWord END
  Stated calls (sub_pre p s) asked = JustWord PRE ⌢ Term p 0 ⌢ JustWord THEN ⌢ Sub calls s 0 ⌢ JustWord END
  Stated calls (sub_assert p s) asked = JustWord ASSERT ⌢ Term p 0 ⌢ JustWord THEN ⌢ Sub calls s 0 ⌢ JustWord END
  Stated calls (sub_if p s bs) asked = JustWord IF ⌢ Term p 0 ⌢ JustWord THEN ⌢ (Sub calls s 0 ⌢ Branched calls ELSIF bs) ⌢ JustWord END
  Stated calls (sub_choice s cs) asked = JustWord CHOICE ⌢ (Sub calls s 0 ⌢ Chosen calls cs) ⌢ JustWord END
  Stated calls (sub_select p s bs) asked =
      JustWord SELECT ⌢ Term p 0 ⌢ JustWord THEN ⌢ (Sub calls s 0 ⌢ Branched calls WHEN bs) ⌢ JustWord END
  Stated calls (sub_any xs p s) asked = JustWord ANY ⌢ Names xs ⌢ JustWord WHERE ⌢ Term p 0 ⌢ JustWord THEN ⌢ Sub calls s 0 ⌢ JustWord END
  Stated calls (sub_let xs p s) asked =
      Provided (Defines xs p) (JustWord LET ⌢ Names xs ⌢ JustWord BE ⌢ Term p 0 ⌢ JustWord IN ⌢ Sub calls s 0 ⌢ JustWord END)
  Stated calls (sub_var xs s) asked = JustWord VAR ⌢ Names xs ⌢ JustWord IN ⌢ Sub calls s 0 ⌢ JustWord END
  Stated calls (sub_while p s i v) asked =
      JustWord WHILE ⌢ Term p 0 ⌢ JustWord DO ⌢ Sub calls s 0 ⌢ JustWord INVARIANT ⌢ Term i 0 ⌢ JustWord VARIANT ⌢ Term v 0 ⌢ JustWord END
  Stated calls (sub_parallel s t) asked = Binding 1 asked (Sub calls s 1 ⌢ JustSign PARALLEL ⌢ Sub calls t 2)
  Stated calls (sub_sequence s t) asked = Binding 0 asked (Sub calls s 0 ⌢ JustSign SEMICOLON ⌢ Sub calls t 1)

  -- more branches, each but ELSE with this word
  pub Branched : (calls : Bool) → ℕ → Branches → List Token → Type 0
  Branched calls op no_branches = Absent
  Branched calls op (else_branch s) = JustWord ELSE ⌢ Sub calls s 0
  Branched calls op (branch_and p s bs) = JustWord op ⌢ Term p 0 ⌢ JustWord THEN ⌢ (Sub calls s 0 ⌢ Branched calls op bs)

  -- more branches of CHOICE
  pub Chosen : (calls : Bool) → Choices → List Token → Type 0
  Chosen calls no_choices = Absent
  Chosen calls (choice_and s cs) = JustWord OR_BRANCH ⌢ (Sub calls s 0 ⌢ Chosen calls cs)

-- the tokens are those of the substitution, in which operations may be called
abbrev pub SpellsSub : SubTree → List Token → Type 0
SpellsSub s = Sub true s 0
