-- What tokens a proof file is written as: scripts, each a name and rules, each rule a word and its parts by the word's shape.
-- The rules and their words are this project's own.
use Rattle.std.specs.Prelude.{◌≡◌, ◌⊎◌, ◌-◌, ℕ, List, [], ◌∷◌, Option, Some, None, codes}
use Rattle.std.specs.List.{slice_get}
use Rattle.bk_form.specs.declared.token.Token.{Token}
use Rattle.bk_form.specs.declared.token.TokenKind.{TokenKind}
use Rattle.bk_form.specs.declared.token.TokenKind.TheVariants.{Name, Word}
use Rattle.bk_ops.specs.Words.{word_texts}
use Rattle.bk_ops.specs.declared.sign.TheConstants.{OPEN_PAREN, CLOSE_PAREN, COMMA, MEMBER, TIMES, PLUS, DIVIDE, BAR, DOT, SEMICOLON}
use Rattle.bk_raw.specs.Grammar.Pieces.{Never, Absent, Just, JustAt, JustSign, ◌⌢◌, Divided}
use Rattle.bk_raw.specs.Grammar.Pieces.{AnyDivided, InRow, InParentheses, Starting, Digits, Literal}
use Rattle.bk_raw.specs.Trees.RawTree.{RawTree}
use Rattle.bk_raw.specs.Grammar.Spelling.{Declared, Typed, Term}
use Rattle.bk_raw.specs.Trees.ScriptTree.{rule_kind, PartKind, one_number, one_term, some_terms, one_place, perhaps_place}
use Rattle.bk_raw.specs.Trees.ScriptTree.{typed_names, one_law, certificate, shape_of, RawPlace, in_goal, in_hypothesis}
use Rattle.bk_raw.specs.Trees.ScriptTree.{RawLine, multiples, quotient, RulePart, part_number, part_term, part_terms, part_place}
use Rattle.bk_raw.specs.Trees.ScriptTree.{part_no_place, part_typed, part_law, part_certificate, RawRule, RawScript}
use Rattle.bk_raw.specs.declared.script.RawMultiple.{RawMultiple}
use Rattle.bk_raw.specs.declared.script.RawTyped.{RawTyped}
use Rattle.bk_raw.specs.declared.script.NamePart.{NamePart}
use Rattle.bk_raw.specs.declared.script.NamePart.TheVariants.{Letters, Numeral}

-- ---- parts
-- goal or hyp i, and the numbers of the children on the way down
abbrev pub Place : RawPlace → List Token → Type 0
Place (in_goal path) = Just (Name (codes "goal")) ⌢ InRow Digits path
Place (in_hypothesis i path) = Just (Name (codes "hyp")) ⌢ Digits i ⌢ InRow Digits path

-- x : T
abbrev pub TypedName : RawTyped → List Token → Type 0
TypedName x = Declared x.name ⌢ JustSign MEMBER ⌢ Typed x.ty

-- a term, however it binds
abbrev pub AnyTerm : RawTree → List Token → Type 0
AnyTerm t = Term t 0

-- the terms that a law takes; where it takes none nothing, or ()
abbrev pub Picked : List RawTree → List Token → Type 0
Picked [] tokens = Absent tokens ⊎ (JustSign OPEN_PAREN ⌢ JustSign CLOSE_PAREN) tokens
Picked (t ∷ ts) tokens = InParentheses (Divided COMMA AnyTerm (t ∷ ts)) tokens

-- m * k, in which m may have a minus sign
abbrev pub Multiple : RawMultiple → List Token → Type 0
Multiple m = Literal m.multiplier 0 ⌢ JustSign TIMES ⌢ Digits m.fact

-- a line of a certificate: multiples with + between, or k / g
abbrev pub Line : RawLine → List Token → Type 0
Line (multiples ms) = Divided PLUS Multiple ms
Line (quotient k g) = Digits k ⌢ JustSign DIVIDE ⌢ Digits g

-- a part where one of this kind is asked
abbrev pub Spelled : PartKind → RulePart → List Token → Type 0
Spelled one_number (part_number n) = Digits n
Spelled one_term (part_term t) = Term t 0
Spelled some_terms (part_terms ts) = Divided COMMA AnyTerm ts
Spelled one_place (part_place p) = Place p
Spelled perhaps_place (part_place p) = Place p
Spelled perhaps_place part_no_place = Absent
Spelled typed_names (part_typed xs) = Divided COMMA TypedName xs
Spelled one_law (part_law name picks) = Just (Name name) ⌢ Picked picks
Spelled certificate (part_certificate facts lines) = AnyDivided COMMA Digits facts ⌢ JustSign MEMBER ⌢ Divided BAR Line lines
Spelled _ _ = Never

-- parts where these are asked, one each and in order
abbrev pub Ruled : List PartKind → List RulePart → List Token → Type 0
Ruled [] [] = Absent
Ruled [] (p ∷ ps) = Never
Ruled (k ∷ ks) [] = Never
Ruled (k ∷ ks) (p ∷ ps) = Spelled k p ⌢ Ruled ks ps

-- a rule: its word, and its parts by the word's shape
abbrev pub Rule : RawRule → List Token → Type 0
Rule r = JustAt r.at (rule_kind r.word) ⌢ Ruled (shape_of r.word) r.parts

-- ---- scripts
-- the letters of a name, or of a word of the notation, whose numbers begin at 57
abbrev pub letters_of : TokenKind → Option (List ℕ)
letters_of (Name text) = Some text
letters_of (Word op) = slice_get word_texts (op - 57)
letters_of _ = None

-- one token with these letters
abbrev pub Lettered : List ℕ → List Token → Type 0
Lettered text tokens = (token : Token) × (tokens ≡ token ∷ []) × (letters_of token.kind ≡ Some text)

-- a part of a script's name: letters, or a number
abbrev pub PartNamed : NamePart → List Token → Type 0
PartNamed (Letters text) = Lettered text
PartNamed (Numeral n) = Digits n

-- a script but for its end: proof, its name with dots between the parts, and rules with semicolons between
abbrev pub OpensScript : RawScript → List Token → Type 0
OpensScript s = JustAt s.at (Name (codes "proof")) ⌢ Starting s.name_at (Divided DOT PartNamed s.name) ⌢ AnyDivided SEMICOLON Rule s.rules

-- a script
abbrev pub Scripted : RawScript → List Token → Type 0
Scripted s = OpensScript s ⌢ Just (Name (codes "end"))

-- the tokens are those of the scripts of a proof file, one after another
abbrev pub SpellsScripts : List RawScript → List Token → Type 0
SpellsScripts = InRow Scripted

-- ---- whole fronts
-- scripts, of which the last may lack its end
abbrev pub IsWholeScripts : List Token → Type 0
IsWholeScripts tokens = ((ss : List RawScript) × SpellsScripts ss tokens)
    ⊎ ((ss : List RawScript) × (s : RawScript) × (SpellsScripts ss ⌢ OpensScript s) tokens)

-- a script but for its end, or nothing
abbrev pub IsOpenOrNone : List Token → Type 0
IsOpenOrNone tokens = (tokens ≡ []) ⊎ ((s : RawScript) × OpensScript s tokens)
