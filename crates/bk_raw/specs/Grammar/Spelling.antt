-- What tokens a term is written as: the grammar of terms. Levels and brackets are this project's own, the signs and words
-- those of the B Language Reference Manual. It goes by cases over trees: a node's tokens are its signs and its parts' tokens
-- in order, and each part stands in a place that asks how tightly it binds, or in parentheses.
use Rattle.std.specs.Prelude.{ℕ, List, [], ◌∷◌, ◌⊎◌}
use Rattle.bk_form.specs.declared.token.Token.{Token}
use Rattle.bk_form.specs.declared.token.TokenKind.TheVariants.{Name, LevelName, BoundName, Word}
use Rattle.bk_ops.specs.declared.sign.TheConstants.{FOR_ALL, EXISTS, MEMBER, MINUS, TIMES, OPEN_BRACE}
use Rattle.bk_ops.specs.declared.sign.TheConstants.{CLOSE_BRACE, INVERSE, SEMICOLON, COMMA, DOT, BAR, LAMBDA}
use Rattle.bk_ops.specs.declared.word.TheConstants.{BOOL, INTEGER, POW}
use Rattle.bk_raw.specs.Grammar.Pieces.{Never, Just, JustAt, JustSign, ◌⌢◌, Divided, InParentheses}
use Rattle.bk_raw.specs.Grammar.Pieces.{InBrackets, InBraces, Starting, Binding, Placed, Literal, NoDigits}
use Rattle.bk_raw.specs.Trees.Operators.{infix_kind, word_kind, constant_kind, binding, ranged_over, negated, tightest}
use Rattle.bk_raw.specs.Trees.WrittenType.{WrittenType, written_integer, written_bool, written_set, written_power, written_product}
use Rattle.bk_raw.specs.declared.term.RawName.{RawName}
use Rattle.bk_raw.specs.declared.term.RawBound.{RawBound}
use Rattle.bk_raw.specs.Trees.RawTree.{RawTree, raw, RawTreeNode, raw_name, raw_level_name, raw_bound_name, raw_number, raw_constant}
use Rattle.bk_raw.specs.Trees.RawTree.{raw_word, raw_negative, raw_infix, raw_inverse, raw_image, raw_apply, raw_composition}
use Rattle.bk_raw.specs.Trees.RawTree.{raw_pair, raw_empty_set, raw_extension, raw_comprehension, raw_lambda, raw_for_all, raw_exists}
use Rattle.bk_raw.specs.Trees.RawTree.{raw_typed_empty, raw_typed_for_all, raw_typed_exists, raw_ranged_comprehension, raw_ranged_lambda}
use Rattle.bk_raw.specs.Trees.RawTree.{RawTrees, no_trees, tree_and, RawRanges, no_ranges, range_and}

-- ---- names and types
-- a declared name
abbrev pub Declared : RawName → List Token → Type 0
Declared x = JustAt x.at (Name x.text)

-- one name or more, with commas between
abbrev pub Names : List RawName → List Token → Type 0
Names = Divided COMMA Declared

-- one name
abbrev pub Alone : List RawName → List Token → Type 0
Alone [] = Never
Alone (x ∷ []) = Declared x
Alone (x ∷ y ∷ ys) = Never

-- the names that a quantifier or a lambda binds: one, or one and more in parentheses
abbrev pub Binder : List RawName → List Token → Type 0
Binder xs tokens = Alone xs tokens ⊎ InParentheses (Names xs) tokens

-- a type
abbrev pub Typed : WrittenType → List Token → Type 0
Typed written_integer = Just (Word INTEGER)
Typed written_bool = Just (Word BOOL)
Typed (written_set name) = Just (Name name)
Typed (written_power t) = Just (Word POW) ⌢ InParentheses (Typed t)
Typed (written_product t u) = InParentheses (Typed t ⌢ JustSign TIMES ⌢ Typed u)

-- $n:T
abbrev pub TypedBound : RawBound → List Token → Type 0
TypedBound b = JustAt b.at (BoundName b.number) ⌢ JustSign MEMBER ⌢ Typed b.ty

-- one bound variable or more, each with its type, with commas between
abbrev pub TypedBounds : List RawBound → List Token → Type 0
TypedBounds = Divided COMMA TypedBound

-- ---- terms
abbrev mutual
  -- a term in a place that asks so much of its strength, or in parentheses
  pub Term : RawTree → ℕ → List Token → Type 0
  Term (raw at node) asked = Placed at asked (Bare node)

  -- what stands after a function, or left of a comma in parentheses: a term, or several with commas between, which are
  -- pairs to the left
  pub Listed : RawTree → List Token → Type 0
  Listed (raw at node) tokens = Placed at 0 (Bare node) tokens ⊎ Starting at (Commas node) tokens

  -- what stands left of a semicolon in parentheses: a term, or several with semicolons between, which are compositions to
  -- the left
  pub Sequenced : RawTree → List Token → Type 0
  Sequenced (raw at node) tokens = Placed at 0 (Bare node) tokens ⊎ Starting at (Semicolons node) tokens

  -- a term without parentheses around it, where so much is asked of its strength. Leaves and brackets bind tightest
  pub Bare : RawTreeNode → ℕ → List Token → Type 0
  Bare (raw_name text) asked = Just (Name text)
  Bare (raw_level_name text n) asked = Just (LevelName text n)
  Bare (raw_bound_name n) asked = Just (BoundName n)
  Bare (raw_number z) asked = Literal z asked
  Bare (raw_constant c) asked = Just (constant_kind c)
  Bare (raw_word o a) asked = Just (word_kind o) ⌢ InParentheses (Term a 0)
  Bare (raw_negative a) asked = Binding negated asked (JustSign MINUS ⌢ NoDigits (Term a tightest))
  Bare (raw_infix o a b) asked = Binding (binding o).own asked (Term a (binding o).left ⌢ Just (infix_kind o) ⌢ Term b (binding o).right)
  Bare (raw_inverse r) asked = Term r tightest ⌢ JustSign INVERSE
  Bare (raw_image r s) asked = Term r tightest ⌢ InBrackets (Term s 0)
  Bare (raw_apply f x) asked = Term f tightest ⌢ InParentheses (Listed x)
  Bare (raw_composition r s) asked = InParentheses (Sequenced r ⌢ JustSign SEMICOLON ⌢ Term s 0)
  Bare (raw_pair a b) asked = InParentheses (Listed a ⌢ JustSign COMMA ⌢ Term b 0)
  Bare raw_empty_set asked = JustSign OPEN_BRACE ⌢ JustSign CLOSE_BRACE
  Bare (raw_extension ts) asked = InBraces (Terms ts)
  Bare (raw_comprehension xs p) asked = InBraces (Names xs ⌢ JustSign BAR ⌢ Term p 0)
  Bare (raw_lambda xs p e) asked = JustSign LAMBDA ⌢ Binder xs ⌢ JustSign DOT ⌢ InParentheses (Term p 0 ⌢ JustSign BAR ⌢ Term e 0)
  Bare (raw_for_all xs p) asked = JustSign FOR_ALL ⌢ Binder xs ⌢ JustSign DOT ⌢ InParentheses (Term p 0)
  Bare (raw_exists xs p) asked = JustSign EXISTS ⌢ Binder xs ⌢ JustSign DOT ⌢ InParentheses (Term p 0)
  Bare (raw_typed_empty t) asked = InBraces (JustSign MEMBER ⌢ Typed t)
  Bare (raw_typed_for_all bs p) asked = JustSign FOR_ALL ⌢ InParentheses (TypedBounds bs) ⌢ JustSign DOT ⌢ InParentheses (Term p 0)
  Bare (raw_typed_exists bs p) asked = JustSign EXISTS ⌢ InParentheses (TypedBounds bs) ⌢ JustSign DOT ⌢ InParentheses (Term p 0)
  Bare (raw_ranged_comprehension rs p) asked = InBraces (Ranges rs ⌢ JustSign BAR ⌢ Term p 0)
  Bare (raw_ranged_lambda rs p e) asked =
      JustSign LAMBDA ⌢ InParentheses (Ranges rs) ⌢ JustSign DOT ⌢ InParentheses (Term p 0 ⌢ JustSign BAR ⌢ Term e 0)

  -- a pair without its parentheses
  pub Commas : RawTreeNode → List Token → Type 0
  Commas (raw_pair a b) = Listed a ⌢ JustSign COMMA ⌢ Term b 0
  Commas _ = Never

  -- a composition without its parentheses
  pub Semicolons : RawTreeNode → List Token → Type 0
  Semicolons (raw_composition r s) = Sequenced r ⌢ JustSign SEMICOLON ⌢ Term s 0
  Semicolons _ = Never

  -- one term or more, with commas between
  pub Terms : RawTrees → List Token → Type 0
  Terms no_trees = Never
  Terms (tree_and t no_trees) = Term t 0
  Terms (tree_and t (tree_and u us)) = Term t 0 ⌢ JustSign COMMA ⌢ Terms (tree_and u us)

  -- one bound variable or more, each with what it ranges over, with commas between: $n:d, in which d stands as in a
  -- membership
  pub Ranges : RawRanges → List Token → Type 0
  Ranges no_ranges = Never
  Ranges (range_and at n d no_ranges) = JustAt at (BoundName n) ⌢ JustSign MEMBER ⌢ Term d ranged_over
  Ranges (range_and at n d (range_and bt m e rs)) =
      (JustAt at (BoundName n) ⌢ JustSign MEMBER ⌢ Term d ranged_over) ⌢ JustSign COMMA ⌢ Ranges (range_and bt m e rs)

-- the tokens are those of the term, standing alone
abbrev pub Spells : RawTree → List Token → Type 0
Spells tree = Term tree 0
