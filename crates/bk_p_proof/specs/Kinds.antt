-- What parts are asked after a rule's word. Only private contracts cite it.
use Rattle.std.specs.Prelude.{ℕ, List, [], ◌∷◌}
use Rattle.bk_form.specs.declared.token.Token.{Token}
use Rattle.bk_ops.specs.declared.sign.TheConstants.{COMMA, MEMBER, DIVIDE, BAR}
use Rattle.bk_raw.specs.Grammar.Pieces.{◌⌢◌, Just, JustSign, Digits, Divided, AnyDivided}
use Rattle.bk_raw.specs.Trees.RawTree.{RawTree}
use Rattle.bk_raw.specs.Grammar.ScriptSpelling.{AnyTerm, Line, Picked}
use Rattle.bk_form.specs.declared.token.TokenKind.TheVariants.{Name}
use Rattle.bk_raw.specs.Trees.ScriptTree.{PartKind as Kind, one_number, one_term, some_terms, one_place}
use Rattle.bk_raw.specs.Trees.ScriptTree.{perhaps_place, typed_names, one_law, certificate, RawLine}
use Rattle.bk_p_proof.specs.declared.part.PartKind.{PartKind}
use Rattle.bk_p_proof.specs.declared.part.PartKind.TheVariants.{Number, Term, Terms, Place, PerhapsPlace, Typed, Law, Certificate}

-- the kind of a part
abbrev pub kind_of : PartKind → Kind
kind_of Number = one_number
kind_of Term = one_term
kind_of Terms = some_terms
kind_of Place = one_place
kind_of PerhapsPlace = perhaps_place
kind_of Typed = typed_names
kind_of Law = one_law
kind_of Certificate = certificate

-- such parts follow a word: after a part that is not the last one, it can be told where that one ends
abbrev pub IsShape : List Kind → Type 0
IsShape [] = Unit {0}
IsShape (k ∷ []) = Unit {0}
IsShape (one_number ∷ ks) = IsShape ks
IsShape (one_law ∷ one_place ∷ []) = Unit {0}
IsShape _ = ⊥

-- ---- parts of parts
-- k / g
abbrev pub Quotient : ℕ × ℕ → List Token → Type 0
Quotient q = Digits q.0 ⌢ JustSign DIVIDE ⌢ Digits q.1

-- the numbers of hypotheses, and the lines of a certificate
abbrev pub Certified : List ℕ × List RawLine → List Token → Type 0
Certified c = AnyDivided COMMA Digits c.0 ⌢ JustSign MEMBER ⌢ Divided BAR Line c.1

-- terms with commas between
abbrev pub SomeTerms : List RawTree → List Token → Type 0
SomeTerms = Divided COMMA AnyTerm

-- a law's name, and the terms that it takes
abbrev pub Lawful : List ℕ × List RawTree → List Token → Type 0
Lawful l = Just (Name l.0) ⌢ Picked l.1
