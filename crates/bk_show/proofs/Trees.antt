-- The tree that spells the tokens of a printed formula.
use Rattle.std.specs.Prelude.{ℕ, suc, ◌+◌, ◌-◌, Bool, cond, not, List, [], ◌∷◌, length, Option, None, Some}
use Rattle.bk_val.specs.ValueType.{ValueType, int_type, bool_type, enum_type, pair_type, set_type}
use Rattle.bk_form.specs.Table.{Table}
use Rattle.bk_form.specs.Formula.{Formula, variable, bound, literal, truth_value, element, empty_set, named, btrue, bfalse, unary, binary, for_all, for_some, comprehension, lambda, Formulas, no_formulas, formula_and}
use Rattle.bk_form.specs.Replacement.{count}
use Rattle.bk_form.specs.declared.operator.Domain.{Domain}
use Rattle.bk_form.specs.declared.operator.Domain.TheVariants.{Integer as WholeNumbers, Natural as NaturalNumbers, Natural1 as PositiveNumbers, Bool as Booleans, Enum}
use Rattle.bk_form.specs.declared.token.TokenKind.TheVariants.{BoundName}
use Rattle.bk_ops.specs.declared.sign.TheConstants.{FOR_ALL, EXISTS, MEMBER, MINUS, OPEN_PAREN, OPEN_BRACKET, OPEN_BRACE, SEMICOLON, DOT, BAR, LAMBDA}
use Rattle.bk_lex.specs.Lexis.{numeral_from}
use Rattle.bk_raw.specs.Trees.Operators.{infix_kind, word_kind}
use Rattle.bk_raw.specs.Trees.WrittenType.{WrittenType, written_integer, written_bool, written_set, written_power, written_product}
use Rattle.bk_raw.specs.declared.operator.Constant.TheVariants.{Bool as BoolWord, Integer, Natural, Natural1, Btrue, Bfalse}
use Rattle.bk_raw.specs.declared.term.RawBound.{RawBound}
use Rattle.bk_raw.specs.Trees.RawTree.{RawTree, raw, RawTreeNode, raw_name, raw_level_name, raw_bound_name, raw_number, raw_constant, raw_word, raw_negative, raw_infix, raw_inverse, raw_image, raw_apply, raw_composition, raw_extension, raw_typed_empty, raw_typed_for_all, raw_typed_exists, raw_ranged_comprehension, raw_ranged_lambda, no_trees, tree_and, RawRanges, no_ranges, range_and}
use Rattle.bk_show.specs.Items.{Item, blank, plain, sign}
use Rattle.bk_show.proofs.Tokens.{after}
use Rattle.bk_show.specs.Shown.{name_of_variable, name_of_set, name_of_element, behind_dollar, before_dollar, enclosed, enclosed_if, unary_form, binary_form, is_infix, is_bare, Sides, sides, truth_word, typed_items, bounds_items, items, ranges_items, range_items, UnaryForm, word_form, negative_form, inverse_form, single_form, BinaryForm, infix_form, image_form, apply_form, composition_form}

abbrev pub node_by : List ℕ → Option (List ℕ) → RawTreeNode
node_by text None = raw_name text
node_by text (Some digits) = raw_level_name (before_dollar text) (numeral_from 0 digits)

abbrev pub name_node : List ℕ → RawTreeNode
name_node text = node_by text (behind_dollar text)

-- the byte where such a part starts, the parentheses around it not counted
abbrev pub inside_at : Bool → ℕ → ℕ
inside_at b p = cond b (p + 1) p

abbrev pub written_type : Table → ValueType → WrittenType
written_type table int_type = written_integer
written_type table bool_type = written_bool
written_type table (enum_type n) = written_set (name_of_set table n)
written_type table (pair_type t u) = written_product (written_type table t) (written_type table u)
written_type table (set_type t) = written_power (written_type table t)

-- a node, from what its part reads as at each byte, where it starts at byte p
abbrev pub unary_node : UnaryForm → Bool → (ℕ → RawTree) → ℕ → RawTreeNode
unary_node (word_form o) bare a p = raw_word o (a (after p (plain (word_kind o) ∷ sign OPEN_PAREN ∷ [])))
unary_node negative_form bare a p = raw_negative (a (after p (sign MINUS ∷ sign OPEN_PAREN ∷ [])))
unary_node inverse_form bare a p = raw_inverse (a (inside_at (not bare) p))
unary_node single_form bare a p = raw_extension (tree_and (a (after p (sign OPEN_BRACE ∷ []))) no_trees)

abbrev pub binary_node : BinaryForm → Sides → List Item → (ℕ → RawTree) → (ℕ → RawTree) → ℕ → RawTreeNode
binary_node (infix_form o) s xs a b p = raw_infix o (a (inside_at s.left p)) (b (inside_at s.right (after (after p (enclosed_if s.left xs)) (blank ∷ plain (infix_kind o) ∷ blank ∷ []))))
binary_node image_form s xs a b p = raw_image (a (inside_at (not s.bare) p)) (b (after (after p (enclosed_if (not s.bare) xs)) (sign OPEN_BRACKET ∷ [])))
binary_node apply_form s xs a b p = raw_apply (a (inside_at (not s.bare) p)) (b (after (after p (enclosed_if (not s.bare) xs)) (sign OPEN_PAREN ∷ [])))
binary_node composition_form s xs a b p = raw_composition (a (inside_at s.left (after p (sign OPEN_PAREN ∷ [])))) (b (inside_at s.right (after (after (after p (sign OPEN_PAREN ∷ [])) (enclosed_if s.left xs)) (blank ∷ sign SEMICOLON ∷ blank ∷ []))))

abbrev pub domain_node : Table → Domain → RawTreeNode
domain_node table WholeNumbers = raw_constant Integer
domain_node table NaturalNumbers = raw_constant Natural
domain_node table PositiveNumbers = raw_constant Natural1
domain_node table Booleans = raw_constant BoolWord
domain_node table (Enum n) = name_node (name_of_set table n)

-- the byte behind a comma, where more follows
abbrev pub behind_comma : List ValueType → ℕ → ℕ
behind_comma [] p = p
behind_comma (t ∷ ts) p = p + 1

abbrev pub raw_bounds : Table → ℕ → ℕ → List ValueType → List RawBound
raw_bounds table p k [] = []
raw_bounds table p k (t ∷ ts) = record { at = p; number = k; ty = written_type table t } ∷ raw_bounds table (behind_comma ts (after p (typed_items table k t))) (suc k) ts

-- where its body starts
abbrev pub quantified_at : Table → ℕ → ℕ → List ValueType → ℕ → ℕ
quantified_at table op d ts p = after (after (after p (sign op ∷ [])) (enclosed (bounds_items table (suc d) ts))) (sign DOT ∷ sign OPEN_PAREN ∷ [])

abbrev pub past_comma : Formulas → ℕ → ℕ
past_comma no_formulas p = p
past_comma (formula_and f fs) p = p + 1

-- where the parts of a comprehension or lambda start
abbrev pub comprehended_at : List Item → Bool → ℕ → ℕ
comprehended_at rs left p = inside_at left (after (after (after p (sign OPEN_BRACE ∷ [])) rs) (blank ∷ sign BAR ∷ blank ∷ []))

abbrev pub premise_at : List Item → ℕ → ℕ
premise_at rs p = after (after (after p (sign LAMBDA ∷ [])) (enclosed rs)) (sign DOT ∷ sign OPEN_PAREN ∷ [])

abbrev pub value_at : List Item → Bool → List Item → ℕ → ℕ
value_at rs left xs p = after (after (premise_at rs p) (enclosed_if left xs)) (blank ∷ sign BAR ∷ blank ∷ [])

abbrev mutual
  -- the tree, where the text starts at byte p
  pub shown_node : Table → ℕ → ℕ → Formula → RawTreeNode
  shown_node table d p (variable n) = name_node (name_of_variable table n)
  shown_node table d p (bound i) = raw_bound_name (d - i)
  shown_node table d p (literal z) = raw_number z
  shown_node table d p (truth_value b) = raw_constant (truth_word b)
  shown_node table d p (element s i) = name_node (name_of_element table s i)
  shown_node table d p (empty_set t) = raw_typed_empty (written_type table t)
  shown_node table d p (named n) = domain_node table n
  shown_node table d p btrue = raw_constant Btrue
  shown_node table d p bfalse = raw_constant Bfalse
  shown_node table d p (unary o a) = unary_node (unary_form o) (is_bare a) (λ q. raw q (shown_node table d q a)) p
  shown_node table d p (binary o a b) = binary_node (binary_form o) (sides a b) (items table d a) (λ q. raw q (shown_node table d q a)) (λ q. raw q (shown_node table d q b)) p
  shown_node table d p (for_all ts f) = raw_typed_for_all (raw_bounds table (after p (sign FOR_ALL ∷ sign OPEN_PAREN ∷ [])) (suc d) ts) (raw (quantified_at table FOR_ALL d ts p) (shown_node table (d + length ts) (quantified_at table FOR_ALL d ts p) f))
  shown_node table d p (for_some ts f) = raw_typed_exists (raw_bounds table (after p (sign EXISTS ∷ sign OPEN_PAREN ∷ [])) (suc d) ts) (raw (quantified_at table EXISTS d ts p) (shown_node table (d + length ts) (quantified_at table EXISTS d ts p) f))
  shown_node table d p (comprehension rs f) = raw_ranged_comprehension (shown_ranges table d (after p (sign OPEN_BRACE ∷ [])) (suc d) rs) (raw (comprehended_at (ranges_items table d (suc d) rs) (is_infix f) p) (shown_node table (d + count rs) (comprehended_at (ranges_items table d (suc d) rs) (is_infix f) p) f))
  shown_node table d p (lambda rs f e) = raw_ranged_lambda (shown_ranges table d (after p (sign LAMBDA ∷ sign OPEN_PAREN ∷ [])) (suc d) rs)
      (raw (inside_at (is_infix f) (premise_at (ranges_items table d (suc d) rs) p)) (shown_node table (d + count rs) (inside_at (is_infix f) (premise_at (ranges_items table d (suc d) rs) p)) f))
      (raw (inside_at (is_infix e) (value_at (ranges_items table d (suc d) rs) (is_infix f) (items table (d + count rs) f) p)) (shown_node table (d + count rs) (inside_at (is_infix e) (value_at (ranges_items table d (suc d) rs) (is_infix f) (items table (d + count rs) f) p)) e))

  pub shown_ranges : Table → ℕ → ℕ → ℕ → Formulas → RawRanges
  shown_ranges table d p k no_formulas = no_ranges
  shown_ranges table d p k (formula_and f fs) = range_and p k (raw (inside_at (is_infix f) (after p (plain (BoundName k) ∷ sign MEMBER ∷ []))) (shown_node table d (inside_at (is_infix f) (after p (plain (BoundName k) ∷ sign MEMBER ∷ []))) f)) (shown_ranges table d (past_comma fs (after p (range_items k (is_infix f) (items table d f)))) (suc k) fs)

-- the tree of a formula under d bound variables, where its text starts at byte p
abbrev pub shown_tree : Table → ℕ → ℕ → Formula → RawTree
shown_tree table d p f = raw p (shown_node table d p f)
