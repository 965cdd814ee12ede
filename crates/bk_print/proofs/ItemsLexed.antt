-- The lines of a script are cut into their tokens.
use Rattle.std.proofs.Common.{◌≡◌, ℕ, ◌<◌, ◌^◌, Bool, true, false, not, cond, ◌&&◌, List, [], ◌∷◌, ◌++◌, map, refl, ap, sym, ◌∙◌, arith, subst, append_assoc, Option, Some, None}
use Rattle.std.specs.Prelude.{nat_eq, nat_le, nat_lt, ◌%◌, ℤ, pos, codes, decimal}
use Rattle.std.specs.List.{list_all}
use Rattle.std.specs.Char.{is_ascii_alphabetic, is_ascii_alphanumeric}
use Rattle.std.proofs.lemmas.Bool.{and_parts, and_from, eqb-true}
use Rattle.std.proofs.lemmas.Bool.Decides.{nat_tests}
use Rattle.bk_form.specs.Table.{Table, variable_type}
use Rattle.bk_form.specs.Formula.{Formula}
use Rattle.bk_form.specs.declared.token.TokenKind.{TokenKind}
use Rattle.bk_form.specs.declared.token.TokenKind.TheVariants.{Name, LevelName, BoundName, Number, Sign, Word}
use Rattle.bk_ops.specs.Words.{word_texts}
use Rattle.bk_ops.specs.declared.sign.TheConstants.{COMMA, MEMBER, TIMES, PLUS, DIVIDE, BAR, DOT, SEMICOLON}
use Rattle.bk_lex.specs.Lexis.{IsIdentifier, is_digit, is_numeral, word_number}
use Rattle.bk_lex.specs.Parts.{begins}
use Rattle.bk_lex.proofs.Characters.{class, class_of}
use Rattle.bk_lex.proofs.Numbered.{number_in-passes}
use Rattle.bk_lex.proofs.Runs.{numeral_all}
use Rattle.bk_lex.proofs.Spelling.{kind_class, written_class}
use Rattle.bk_lin.specs.declared.fact.Line.{Line}
use Rattle.bk_lin.specs.declared.fact.Line.TheVariants.{Sum, Div}
use Rattle.bk_raw.specs.declared.script.NamePart.{NamePart}
use Rattle.bk_raw.specs.declared.script.NamePart.TheVariants.{Letters, Numeral}
use Rattle.bk_raw.specs.declared.script.RuleWord.{RuleWord}
use Rattle.bk_raw.specs.declared.script.RuleWord.TheVariants.{Hyp}
use Rattle.bk_raw.specs.Trees.ScriptTree.{rule_kind}
use Rattle.bk_raw.specs.Meaning.Names.{Names}
use Rattle.bk_kernel.specs.declared.rule.Place.{Place}
use Rattle.bk_kernel.specs.declared.rule.Place.TheVariants.{Goal, Hyp as InHyp}
use Rattle.bk_kernel.specs.declared.rule.Rule.{Rule}
use Rattle.bk_show.specs.Items.{Item, blank, lexeme, text_of, kind_text, plain, sign}
use Rattle.bk_show.specs.Shown.{name_of_variable, type_items, literal_items, items}
use Rattle.bk_show.specs.Readable.{IsPlainName, IsSmall}
use Rattle.bk_show.proofs.Scalars.{identifier-utf8}
use Rattle.bk_show.proofs.Begun.{decimal-is, is_letters, is_ascii_word, word-identifier, in_word, IsWordlike, wordlike-class, wordlike-begins, Next}
use Rattle.bk_print.specs.Written.{Part, a_number, a_term, some_terms, a_place, no_place, some_names, a_law, a_certificate, Parts, none, one, two, word_of, parts_of}
use Rattle.bk_print.specs.Text.{behind_each, divided, comma, spaced, number_items, numbers_behind, place_items, terms_items, some_type_items, name_items, series_letter, law_name, picks_items, law_items, multiple_items, line_items, facts_items, certificate_items, part_items, parts_items, word_items, rule_items, semicolon_before, rule_lines}
use Rattle.bk_form.specs.Each.{Each}
use Rattle.bk_print.specs.Readable.{IsNumber, ReadsIn, NameReads, PlaceReads, MultipleReads, LineReads, PartReads, PartsRead, HasWord, RuleReads, NamePartReads}
use Rattle.bk_print.proofs.ShownTexts.{Ends, Lexed, lexed-append, is_fixed, follows, Good, Fine, fine, Cuts, one-good, set-good, number-ends, literal-good, plain-cuts, word-ends, sign-lead, lone-lead, op-lead, enclosed-lexed, type-good, formula-good}
use Rattle.bk_print.proofs.RawScripts.{letters_kind, part_item, dotted, last_line, lines_of}
use Rattle.bk_print.proofs.LinesCut.{text_with, LinesLexed}

not-then : (b : Bool) → not b ≡ true → b ≡ false
not-then true h = absurd (cc)
not-then false h = refl

-- ---- words
abbrev has_none : Option ℕ → Bool
has_none None = true
has_none (Some n) = false

none-then : (o : Option ℕ) → has_none o ≡ true → o ≡ None
none-then None h = refl
none-then (Some n) h = absurd (cc)

-- a name of ASCII letters that is no word of the notation, or a word of it
abbrev is_word_kind : TokenKind → Bool
is_word_kind (Name text) = is_ascii_word text && has_none (word_number text)
is_word_kind (Word op) = is_fixed follows (Word op)
is_word_kind _ = false

kind-good : (kind : TokenKind) → is_word_kind kind ≡ true → Good (plain kind ∷ [])
kind-good (Name text) h rest n =
    let two = and_parts (is_ascii_word text) (has_none (word_number text)) h in
    set-good text (word-identifier text two.0, none-then (word_number text) two.1) rest n
kind-good (Word op) h rest n = one-good (Word op) (kind_text (Word op)) tt (λ r b. word-ends op follows r h b) rest n
kind-good (LevelName text k) h rest n = absurd (cc)
kind-good (BoundName k) h rest n = absurd (cc)
kind-good (Number z) h rest n = absurd (cc)
kind-good (Sign op) h rest n = absurd (cc)

kind-lead : (kind : TokenKind) (ys : List Item) (rest : List ℕ) → is_word_kind kind ≡ true → Next follows (text_of ys ++ rest) → Lexed ys rest → Lexed (plain kind ∷ ys) rest
kind-lead kind ys rest h n k = lexed-append (plain kind ∷ []) ys rest (fine (plain kind ∷ []) (kind-good kind h) (text_of ys ++ rest) n) k

rule-kind : (w : RuleWord) → is_word_kind (rule_kind w) ≡ true
rule-kind Hyp = refl
rule-kind _ = refl

word-fine : (o : Option RuleWord) → HasWord o → Fine (word_items o)
word-fine None h rest n = elim h [ ]
word-fine (Some w) h rest n = fine (plain (rule_kind w) ∷ []) (kind-good (rule_kind w) (rule-kind w)) rest n

-- ---- lists, with such items between
-- these may stand between terms
abbrev MayFollow : List Item → Type 0
MayFollow sep = (ys : List Item) (rest : List ℕ) → Next follows (text_of (sep ++ ys) ++ rest)

abbrev MayLead : List Item → Type 0
MayLead sep = (ys : List Item) (rest : List ℕ) → Lexed ys rest → Lexed (sep ++ ys) rest

behind-next : {A : Type 0} (its : A → List Item) (sep : List Item) → MayFollow sep → (xs : List A) (rest : List ℕ) → Next follows rest → Next follows (text_of (behind_each sep (map its xs)) ++ rest)
behind-next its sep f [] rest n = n
behind-next its sep f (x ∷ xs) rest n = f (its x ++ behind_each sep (map its xs)) rest

behind-fine : {A : Type 0} (P : A → Type 0) (its : A → List Item) (sep : List Item) → MayFollow sep → MayLead sep → ((x : A) → P x → Fine (its x)) → (xs : List A) → Each P xs → Fine (behind_each sep (map its xs))
behind-fine P its sep f l each [] h rest n = tt
behind-fine P its sep f l each (x ∷ xs) h rest n =
    let more = behind_each sep (map its xs) in
    l (its x ++ more) rest (lexed-append (its x) more rest (each x h.0 (text_of more ++ rest) (behind-next its sep f xs rest n)) (behind-fine P its sep f l each xs h.1 rest n))

divided-fine : {A : Type 0} (P : A → Type 0) (its : A → List Item) (sep : List Item) → MayFollow sep → MayLead sep → ((x : A) → P x → Fine (its x)) → (xs : List A) → Each P xs → Fine (divided sep (map its xs))
divided-fine P its sep f l each [] h rest n = tt
divided-fine P its sep f l each (x ∷ xs) h rest n =
    let more = behind_each sep (map its xs) in
    lexed-append (its x) more rest (each x h.0 (text_of more ++ rest) (behind-next its sep f xs rest n)) (behind-fine P its sep f l each xs h.1 rest n)

comma-leads : MayLead comma
comma-leads ys rest k = lone-lead COMMA (blank ∷ ys) rest refl k

plus-leads : MayLead (spaced PLUS)
plus-leads ys rest k = op-lead (Sign PLUS) ys rest refl k

bar-leads : MayLead (spaced BAR)
bar-leads ys rest k = op-lead (Sign BAR) ys rest refl k

-- ---- numbers and places
number-fine : (n : ℕ) → IsNumber n → Fine (number_items n)
number-fine n h rest m = let l : n < 2 ^ 32 = h in fine (literal_items (pos n)) (literal-good (pos n) (omega arith)) rest m

numbers-fine : (ns : List ℕ) → Each IsNumber ns → Fine (numbers_behind ns)
numbers-fine ns h rest n = behind-fine IsNumber number_items (blank ∷ []) (λ ys r. refl) (λ ys r k. k) number-fine ns h rest n

numbers-next : (ns : List ℕ) (rest : List ℕ) → Next follows rest → Next follows (text_of (numbers_behind ns) ++ rest)
numbers-next ns rest n = behind-next number_items (blank ∷ []) (λ ys r. refl) ns rest n

place-fine : (p : Place) → PlaceReads p → Fine (place_items p)
place-fine (Goal path) h rest n = kind-lead (Name (codes "goal")) (numbers_behind path.items) rest refl (numbers-next path.items rest n) (numbers-fine path.items h rest n)
place-fine (InHyp i path) h rest n =
    let ys = numbers_behind path.items in
    kind-lead (Name (codes "hyp")) (blank ∷ plain (Number (pos i)) ∷ ys) rest refl refl
    (lexed-append (number_items i) ys rest (number-fine i h.0 (text_of ys ++ rest) (numbers-next path.items rest n)) (numbers-fine path.items h.1 rest n))

-- ---- names of laws
digit-letter : (c : ℕ) → is_digit c ≡ true → (is_ascii_alphanumeric c && nat_le c 127) ≡ true
digit-letter c h = grind (arith, nat_tests)

digits-letters : (cs : List ℕ) → list_all is_digit cs ≡ true → is_letters cs ≡ true
digits-letters [] h = refl
digits-letters (c ∷ cs) h =
    let two = and_parts (is_digit c) (list_all is_digit cs) h in
    and_from (is_ascii_alphanumeric c && nat_le c 127) (is_letters cs) (digit-letter c two.0) (digits-letters cs two.1)

letter-of : (a b c : Bool) → (is_ascii_alphabetic (cond a 71 (cond b 79 (cond c 83 77))) && nat_le (cond a 71 (cond b 79 (cond c 83 77))) 127) ≡ true
letter-of true b c = refl
letter-of false true c = refl
letter-of false false true = refl
letter-of false false false = refl

-- no word of the notation has a digit behind its first letter
abbrev second_is_no_digit : List ℕ → Bool
second_is_no_digit [] = true
second_is_no_digit (c ∷ []) = true
second_is_no_digit (c ∷ d ∷ ds) = not (is_digit d)

none-of : (o : Option ℕ) → ((op : ℕ) → o ≡ Some op → ⊥) → o ≡ None
none-of None f = refl
none-of (Some op) f = absurd (f op refl)

no-word : (c : ℕ) (ds : List ℕ) → is_numeral ds ≡ true → word_number (c ∷ ds) ≡ None
no-word c [] h = absurd (cc)
no-word c (d ∷ ds) h = none-of (word_number (c ∷ d ∷ ds)) (λ op e.
    let passes : not (is_digit d) ≡ true = number_in-passes second_is_no_digit 57 op word_texts (c ∷ d ∷ ds) refl e in
    let no : is_digit d ≡ false = not-then (is_digit d) passes in
    let yes : is_digit d ≡ true = (and_parts (is_digit d) (list_all is_digit ds) h).0 in
    absurd (cc))

-- a letter and a number
pub letter-number-plain : (c n : ℕ) → (is_ascii_alphabetic c && nat_le c 127) ≡ true → n < 2 ^ 127 → IsPlainName (c ∷ decimal n)
letter-number-plain c n letter l =
    let number : is_numeral (decimal n) ≡ true = (decimal-is n l).0 in
    let two = and_parts (is_ascii_alphabetic c) (nat_le c 127) letter in
    let word : is_ascii_word (c ∷ decimal n) ≡ true = and_from (is_ascii_alphabetic c) (nat_le c 127 && is_letters (decimal n)) two.0 (and_from (nat_le c 127) (is_letters (decimal n)) two.1 (digits-letters (decimal n) (numeral_all (decimal n) number))) in
    (word-identifier (c ∷ decimal n) word, no-word c (decimal n) number)

pub law-plain : (law : ℕ) → IsPlainName (law_name law)
law-plain law = letter-number-plain (series_letter law) (law % 100) (letter-of (nat_lt law 100) (nat_lt law 200) (nat_lt law 300)) (omega arith)

-- ---- certificates
multiple-fine : (m : ℤ × ℕ) → MultipleReads m → Fine (multiple_items m)
multiple-fine m h rest n =
    lexed-append (literal_items m.0) (spaced TIMES ++ number_items m.1) rest (fine (literal_items m.0) (literal-good m.0 h.0) (text_of (spaced TIMES ++ number_items m.1) ++ rest) refl)
    (op-lead (Sign TIMES) (number_items m.1) rest refl (number-fine m.1 h.1 rest n))

line-fine : (l : Line) → LineReads l → Fine (line_items l)
line-fine (Sum ms) h rest n = divided-fine MultipleReads multiple_items (spaced PLUS) (λ ys r. refl) plus-leads multiple-fine ms.items h.1 rest n
line-fine (Div fact by) h rest n =
    let small : IsSmall by = subst IsSmall (sym h.1.1) h.1.2 in
    lexed-append (number_items fact) (spaced DIVIDE ++ literal_items by) rest (number-fine fact h.0 (text_of (spaced DIVIDE ++ literal_items by) ++ rest) refl)
    (op-lead (Sign DIVIDE) (literal_items by) rest refl (fine (literal_items by) (literal-good by small) rest n))

-- whatever follows, since they end with a blank
facts-lexed : (ks : List ℕ) → Each IsNumber ks → (rest : List ℕ) → Lexed (facts_items ks) rest
facts-lexed [] h rest = tt
facts-lexed (k ∷ ks) h rest =
    let xs = divided comma (map number_items (k ∷ ks)) in
    lexed-append xs (blank ∷ []) rest (divided-fine IsNumber number_items comma (λ ys r. refl) comma-leads number-fine (k ∷ ks) h (32 ∷ rest) refl) tt

certificate-fine : (ks : List ℕ) (ls : List Line) → Each IsNumber ks → Each LineReads ls → Fine (certificate_items ks ls)
certificate-fine ks ls h k rest n =
    let lines = divided (spaced BAR) (map line_items ls) in
    lexed-append (facts_items ks) (sign MEMBER ∷ blank ∷ lines) rest (facts-lexed ks h (text_of (sign MEMBER ∷ blank ∷ lines) ++ rest))
    (op-lead (Sign MEMBER) lines rest refl (divided-fine LineReads line_items (spaced BAR) (λ ys r. refl) bar-leads line-fine ls k rest n))

module _ (table : Table) (names : Names) where
  -- ---- terms, names and laws
  terms-fine : (fs : List Formula) → Each (ReadsIn table names) fs → Fine (terms_items table fs)
  terms-fine fs h rest n = divided-fine (ReadsIn table names) (items table 0) comma (λ ys r. refl) comma-leads (λ f k. fine (items table 0 f) (formula-good table f 0 k.readable)) fs h rest n

  name-fine : (x : ℕ) → NameReads table names x → Fine (name_items table x)
  name-fine x h rest n =
      let name = name_of_variable table x in
      let ys = some_type_items table (variable_type table x) in
      let types : Lexed ys rest = subst (λ o. Lexed (some_type_items table o) rest) (sym h.has_type) (fine (type_items table h.of_type) (type-good table h.of_type h.sets) rest n) in
      lexed-append (plain (Name name) ∷ []) (blank ∷ sign MEMBER ∷ blank ∷ ys) rest (fine (plain (Name name) ∷ []) (set-good name h.plain) (text_of (blank ∷ sign MEMBER ∷ blank ∷ ys) ++ rest) refl) (op-lead (Sign MEMBER) ys rest refl types)

  picks-lexed : (fs : List Formula) → Each (ReadsIn table names) fs → (rest : List ℕ) → Next follows rest → Lexed (picks_items table fs) rest × Next follows (text_of (picks_items table fs) ++ rest)
  picks-lexed [] h rest n = (tt, n)
  picks-lexed (f ∷ fs) h rest n = (enclosed-lexed (terms_items table (f ∷ fs)) (λ r m. terms-fine (f ∷ fs) h r m) rest, refl)

  law-fine : (law : ℕ) (fs : List Formula) → Each (ReadsIn table names) fs → Fine (law_items table law fs)
  law-fine law fs h rest n =
      let picks = picks-lexed fs h rest n in
      lexed-append (plain (Name (law_name law)) ∷ []) (picks_items table fs) rest (fine (plain (Name (law_name law)) ∷ []) (set-good (law_name law) (law-plain law)) (text_of (picks_items table fs) ++ rest) picks.1) picks.0

  -- ---- parts
  part-fine : (p : Part) → PartReads table names p → Fine (part_items table p)
  part-fine (a_number k) h rest n = number-fine k h rest n
  part-fine (a_term f) h rest n = fine (items table 0 f) (formula-good table f 0 h.readable) rest n
  part-fine (some_terms fs) h rest n = terms-fine fs h.1 rest n
  part-fine (a_place p) h rest n = place-fine p h rest n
  part-fine no_place h rest n = tt
  part-fine (some_names ns) h rest n = divided-fine (NameReads table names) (name_items table) comma (λ ys r. refl) comma-leads (λ x k. name-fine x k) ns h.1 rest n
  part-fine (a_law law fs) h rest n = law-fine law fs h.1 rest n
  part-fine (a_certificate ks ls) h rest n = certificate-fine ks ls h.0 h.2 rest n

  part-next : (p : Part) (rest : List ℕ) → Next follows rest → Next follows (text_of (part_items table p) ++ rest)
  part-next no_place rest n = n
  part-next _ rest n = refl

  two-next : (p : Part) (ys : List Item) (rest : List ℕ) → Next follows (text_of ys ++ rest) → Next follows (text_of (part_items table p ++ ys) ++ rest)
  two-next no_place ys rest n = n
  two-next _ ys rest n = refl

  parts-fine : (ps : Parts) → PartsRead table names ps → Fine (parts_items table ps)
  parts-fine none h rest n = tt
  parts-fine (one p) h rest n = part-fine p h rest n
  parts-fine (two p q) h rest n = lexed-append (part_items table p) (part_items table q) rest (part-fine p h.0 (text_of (part_items table q) ++ rest) (part-next q rest n)) (part-fine q h.1 rest n)

  parts-next : (ps : Parts) (rest : List ℕ) → Next follows rest → Next follows (text_of (parts_items table ps) ++ rest)
  parts-next none rest n = n
  parts-next (one p) rest n = part-next p rest n
  parts-next (two p q) rest n = two-next p (part_items table q) rest (part-next q rest n)

  -- ---- rules
  rule-fine : (r : Rule) → RuleReads table names r → Fine (rule_items table r)
  rule-fine r h rest n =
      let ys = parts_items table (parts_of r) in
      lexed-append (word_items (word_of r)) ys rest (word-fine (word_of r) h.0 (text_of ys ++ rest) (parts-next (parts_of r) rest n)) (parts-fine (parts_of r) h.1 rest n)

  semicolon-next : (rs : List Rule) (rest : List ℕ) → Next follows (text_of (semicolon_before rs) ++ (10 ∷ rest))
  semicolon-next [] rest = refl
  semicolon-next (r ∷ rs) rest = refl

  semicolon-lexed : (rs : List Rule) (rest : List ℕ) → Lexed (semicolon_before rs) (10 ∷ rest)
  semicolon-lexed [] rest = tt
  semicolon-lexed (r ∷ rs) rest = lone-lead SEMICOLON [] (10 ∷ rest) refl tt

  rules-lexed : (rules : List Rule) (tail : List (List Item)) (end : List ℕ) → Each (RuleReads table names) rules → LinesLexed tail end → LinesLexed (rule_lines table rules ++ tail) end
  rules-lexed [] tail end h k = k
  rules-lexed (r ∷ rs) tail end h k =
      let rest = text_with (rule_lines table rs ++ tail) end in
      (lexed-append (rule_items table r) (semicolon_before rs) (10 ∷ rest) (rule-fine r h.0 (text_of (semicolon_before rs) ++ (10 ∷ rest)) (semicolon-next rs rest)) (semicolon-lexed rs rest), rules-lexed rs tail end h.1 k)

-- ---- names of scripts
letters-cuts : (text : List ℕ) (o : Option ℕ) → word_number text ≡ o → IsIdentifier text → Cuts text (letters_kind text o)
letters-cuts text None e i = plain-cuts text (i, e)
letters-cuts text (Some op) e i = (tt, λ rest b. (wordlike-begins (Word op) text rest tt (i, e) b, tt, identifier-utf8 text i))

abbrev no_dot : ℕ → Bool
no_dot c = not (nat_eq c 46)

class-no-dot : (c : ℕ) (a : Bool) → nat_eq c 46 ≡ a → class c < 3 → not a ≡ true
class-no-dot c true e h = let same : c ≡ 46 = eqb-true c 46 e in let k : class c ≡ 3 = ap class same in absurd (omega arith)
class-no-dot c false e h = refl

text-no-dot : (text : List ℕ) → class_of text < 3 → Next no_dot text
text-no-dot [] h = tt
text-no-dot (c ∷ cs) h = class-no-dot c (nat_eq c 46) refl h

ends-no-dot : (kind : TokenKind) (w rest : List ℕ) → IsWordlike kind → Ends kind w rest → Next no_dot (w ++ rest)
ends-no-dot kind w rest k h =
    let b = h.0 in
    let same : class_of (w ++ rest) ≡ kind_class kind = ap class_of b.splits ∙ written_class kind b.written rest b.spelling in
    text-no-dot (w ++ rest) (omega (arith, wordlike-class kind k))

lexeme-lead : (kind : TokenKind) (w : List ℕ) (ys : List Item) (rest : List ℕ) → Cuts w kind → begins in_word (text_of ys ++ rest) ≡ false → Lexed ys rest → Lexed (lexeme kind w ∷ ys) rest × Next no_dot (text_of (lexeme kind w ∷ ys) ++ rest)
lexeme-lead kind w ys rest c b k =
    let e = c.1 (text_of ys ++ rest) b in
    ((e, k), subst (Next no_dot) (sym (append_assoc w (text_of ys) rest)) (ends-no-dot kind w (text_of ys ++ rest) c.0 e))

part-lead : (x : NamePart) (ys : List Item) (rest : List ℕ) → NamePartReads x → begins in_word (text_of ys ++ rest) ≡ false → Lexed ys rest → Lexed (part_item x ∷ ys) rest × Next no_dot (text_of (part_item x ∷ ys) ++ rest)
part-lead (Letters text) ys rest h b k = lexeme-lead (letters_kind text (word_number text)) text ys rest (letters-cuts text (word_number text) refl h) b k
part-lead (Numeral n) ys rest h b k = lexeme-lead (Number (pos n)) (decimal n) ys rest (tt, λ r c. number-ends n r h c) b k

abbrev after_dots : List NamePart → List Item
after_dots xs = behind_each (sign DOT ∷ []) (map (λ x. part_item x ∷ []) xs)

dots-lexed : (xs : List NamePart) (rest : List ℕ) → Each NamePartReads xs → begins in_word rest ≡ false → Lexed (after_dots xs) rest × (begins in_word (text_of (after_dots xs) ++ rest) ≡ false)
dots-lexed [] rest h b = (tt, b)
dots-lexed (x ∷ xs) rest h b =
    let more = dots-lexed xs rest h.1 b in
    let here = part-lead x (after_dots xs) rest h.0 more.1 more.0 in
    (sign-lead no_dot DOT (part_item x ∷ after_dots xs) rest refl here.1 here.0, refl)

dotted-lexed : (xs : List NamePart) (rest : List ℕ) → Each NamePartReads xs → begins in_word rest ≡ false → Lexed (dotted xs) rest
dotted-lexed [] rest h b = tt
dotted-lexed (x ∷ xs) rest h b =
    let more = dots-lexed xs rest h.1 b in
    (part-lead x (after_dots xs) rest h.0 more.1 more.0).0

-- ---- all lines
pub script-lexed : (table : Table) (names : Names) (name : List NamePart) (rules : List Rule) (tail : List (List Item)) (end : List ℕ) → Each NamePartReads name → Each (RuleReads table names) rules → LinesLexed tail end → LinesLexed (lines_of table name rules tail) end
script-lexed table names name rules tail end h k t =
    let behind = text_with (rule_lines table rules ++ last_line ∷ tail) end in (
      kind-lead (Name (codes "proof")) (blank ∷ dotted name) (10 ∷ behind) refl refl (dotted-lexed name (10 ∷ behind) h refl),
      rules-lexed table names rules (last_line ∷ tail) end k (kind-lead (Name (codes "end")) [] (10 ∷ text_with tail end) refl refl tt, t),
    )
