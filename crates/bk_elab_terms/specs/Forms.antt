-- Terms with one part and with two, by their forms.
use Rattle.std.specs.Prelude.{ℕ, false}
use Rattle.bk_raw.specs.Trees.RawTree.{RawTree, RawTreeNode, raw_word, raw_negative, raw_inverse}
use Rattle.bk_raw.specs.Trees.RawTree.{raw_infix, raw_image, raw_apply, raw_composition, raw_pair}
use Rattle.bk_raw.specs.Meaning.Outcome.{Reading}
use Rattle.bk_raw.specs.Meaning.OperatorReadings.{word_reading, negative_reading, inverse_reading, infix_reading}
use Rattle.bk_raw.specs.Meaning.OperatorReadings.{image_reading, apply_reading, composition_reading, pair_reading}
use Rattle.bk_raw.specs.Meaning.TermReading.{part, place_of, from_one, from_two, spoilt_by, strict_faults, takes_predicate, is_connective}
use Rattle.bk_elab_terms.specs.declared.form.OnePart.{OnePart}
use Rattle.bk_elab_terms.specs.declared.form.OnePart.TheVariants.{Word, Negative, Inverse}
use Rattle.bk_elab_terms.specs.declared.form.TwoParts.{TwoParts}
use Rattle.bk_elab_terms.specs.declared.form.TwoParts.TheVariants.{Infix, Image, Apply, Composition, Pair}

-- the term with this part
abbrev pub one_node : OnePart → RawTree → RawTreeNode
one_node (Word o) a = raw_word o a
one_node Negative a = raw_negative a
one_node Inverse a = raw_inverse a

-- the term with these parts
abbrev pub two_node : TwoParts → RawTree → RawTree → RawTreeNode
two_node (Infix o) a b = raw_infix o a b
two_node Image a b = raw_image a b
two_node Apply a b = raw_apply a b
two_node Composition a b = raw_composition a b
two_node Pair a b = raw_pair a b

-- what it reads as at a byte, where its part reads as r
abbrev pub one_reading : OnePart → ℕ → RawTree → Reading → Reading
one_reading (Word o) at a r = from_one (word_reading o at (place_of a)) (part (takes_predicate o) a r)
one_reading Negative at a r = from_one (negative_reading (place_of a)) (part false a r)
one_reading Inverse at a r = from_one (inverse_reading (place_of a)) (part false a r)

-- the same where its parts read as r and s
abbrev pub two_reading : TwoParts → ℕ → RawTree → RawTree → Reading → Reading → Reading
two_reading (Infix o) at a b r s =
    spoilt_by (strict_faults o a b)
    (from_two (infix_reading o at (place_of a) (place_of b)) (part (is_connective o) a r) (part (is_connective o) b s))
two_reading Image at a b r s = from_two (image_reading (place_of a) (place_of b)) (part false a r) (part false b s)
two_reading Apply at a b r s = from_two (apply_reading (place_of a) (place_of b)) (part false a r) (part false b s)
two_reading Composition at a b r s = from_two (composition_reading at (place_of a) (place_of b)) (part false a r) (part false b s)
two_reading Pair at a b r s = from_two pair_reading (part false a r) (part false b s)
