-- The tokens of a script have no signs of sequences, and no words of them but as parts of its name.
use Rattle.std.proofs.Common.{◌≡◌, ℕ, suc, ◌+◌, Bool, true, false, cond, List, [], ◌∷◌, ◌++◌, map, length, refl, ap, ◌∙◌, Option, Some, None}
use Rattle.std.specs.Prelude.{ℤ, pos, negsuc, not, codes, decimal}
use Rattle.bk_val.specs.ValueType.{ValueType, int_type, bool_type, enum_type, pair_type, set_type}
use Rattle.bk_form.specs.Each.{Each}
use Rattle.bk_form.specs.Table.{Table, variable_type}
use Rattle.bk_form.specs.Replacement.{count}
use Rattle.bk_form.specs.Formula.{Formula, variable, bound, literal, truth_value, element, empty_set, named, btrue, bfalse, unary, binary, for_all, for_some, comprehension, lambda, Formulas, no_formulas, formula_and}
use Rattle.bk_form.specs.declared.operator.UnOp.{UnOp}
use Rattle.bk_form.specs.declared.operator.UnOp.TheVariants.{Neg, Inverse, Single}
use Rattle.bk_form.specs.declared.operator.BinOp.{BinOp}
use Rattle.bk_form.specs.declared.operator.BinOp.TheVariants.{Image, Apply, Comp}
use Rattle.bk_form.specs.declared.operator.Domain.{Domain}
use Rattle.bk_form.specs.declared.operator.Domain.TheVariants.{Integer as WholeNumbers, Enum}
use Rattle.bk_form.specs.declared.token.Token.{Token}
use Rattle.bk_form.specs.declared.token.TokenKind.{TokenKind}
use Rattle.bk_form.specs.declared.token.TokenKind.TheVariants.{Name, Number, Sign, Word}
use Rattle.bk_ops.specs.declared.sign.TheConstants.{FOR_ALL, EXISTS, MEMBER, TIMES, CLOSE_PAREN, OPEN_BRACKET, CLOSE_BRACKET, CLOSE_BRACE, INVERSE, SEMICOLON, DOT, BAR}
use Rattle.bk_ops.specs.declared.sign.TheConstants.{PLUS}
use Rattle.bk_lex.specs.Lexis.{word_number}
use Rattle.bk_lin.specs.declared.fact.Line.{Line}
use Rattle.bk_lin.specs.declared.fact.Line.TheVariants.{Sum, Div}
use Rattle.bk_raw.specs.declared.operator.Constant.{Constant}
use Rattle.bk_raw.specs.declared.operator.Constant.TheVariants.{Bool as BoolWord}
use Rattle.bk_raw.specs.declared.script.NamePart.{NamePart}
use Rattle.bk_raw.specs.declared.script.NamePart.TheVariants.{Letters, Numeral}
use Rattle.bk_raw.specs.declared.script.RuleWord.{RuleWord}
use Rattle.bk_raw.specs.declared.script.RuleWord.TheVariants.{Hyp}
use Rattle.bk_raw.specs.Trees.Operators.{infix_kind, word_kind, constant_kind, is_of_sequences}
use Rattle.bk_raw.specs.Trees.ScriptTree.{rule_kind}
use Rattle.bk_p_proof.specs.Unread.{is_before_part, is_unread, before_sequences}
use Rattle.bk_kernel.specs.declared.rule.Place.{Place}
use Rattle.bk_kernel.specs.declared.rule.Place.TheVariants.{Goal, Hyp as InHyp}
use Rattle.bk_kernel.specs.declared.rule.Rule.{Rule}
use Rattle.bk_show.specs.Items.{Item, blank, lexeme, plain, sign}
use Rattle.bk_show.specs.declared.notation.UnaryForm.{UnaryForm}
use Rattle.bk_show.specs.declared.notation.UnaryForm.TheVariants.{Word as word_form, Negative as negative_form, Inverse as inverse_form, Single as single_form}
use Rattle.bk_show.specs.declared.notation.BinaryForm.{BinaryForm}
use Rattle.bk_show.specs.declared.notation.BinaryForm.TheVariants.{Infix as infix_form, Image as image_form, Application as apply_form, Composition as composition_form}
use Rattle.bk_show.specs.Shown.{name_of_variable, name_of_set, name_of_element, behind_dollar, kind_by, enclosed, enclosed_if, type_items, unary_form, binary_form, is_infix, is_bare, unary_items, Sides, sides, binary_items, truth_word, literal_items, domain_items, typed_items, comma_before, bounds_items, quantified_items, range_items, comma_between, comprehension_items, lambda_items, items, ranges_items}
use Rattle.bk_show.proofs.Tokens.{after, tokens_from}
use Rattle.bk_print.specs.Written.{Part, a_number, a_term, some_terms, a_place, no_place, some_names, a_law, a_certificate, Parts, none, one, two, word_of, parts_of}
use Rattle.bk_print.specs.Text.{behind_each, divided, comma, spaced, number_items, numbers_behind, place_items, terms_items, some_type_items, name_items, picks_items, multiple_items, line_items, facts_items, certificate_items, part_items, parts_items, word_items, rule_items, semicolon_before, rule_lines}
use Rattle.bk_print.proofs.RawScripts.{tokens_of_lines, letters_kind, part_item, dotted, head_line, last_line, lines_of}

-- ---- items
-- none is a sign or a word of sequences
abbrev NoneIn : List Item → Type 0
NoneIn [] = Unit {0}
NoneIn (blank ∷ xs) = NoneIn xs
NoneIn (lexeme kind w ∷ xs) = (is_of_sequences kind ≡ false) × NoneIn xs

none-append : (xs ys : List Item) → NoneIn xs → NoneIn ys → NoneIn (xs ++ ys)
none-append [] ys h k = k
none-append (blank ∷ xs) ys h k = none-append xs ys h k
none-append (lexeme kind w ∷ xs) ys h k = (h.0, none-append xs ys h.1 k)

none-enclosed : (xs : List Item) → NoneIn xs → NoneIn (enclosed xs)
none-enclosed xs h = (refl, none-append xs (sign CLOSE_PAREN ∷ []) h (refl, tt))

none-part : (b : Bool) (xs : List Item) → NoneIn xs → NoneIn (enclosed_if b xs)
none-part true xs h = none-enclosed xs h
none-part false xs h = h

none-named : (text : List ℕ) (o : Option (List ℕ)) → is_of_sequences (kind_by text o) ≡ false
none-named text None = refl
none-named text (Some ds) = refl

none-constant : (c : Constant) → is_of_sequences (constant_kind c) ≡ false
none-constant BoolWord = refl
none-constant _ = refl

-- ---- types
module _ (table : Table) where
  none-type : (t : ValueType) → NoneIn (type_items table t)
  none-type int_type = (refl, tt)
  none-type bool_type = (refl, tt)
  none-type (enum_type n) = (refl, tt)
  none-type (pair_type t u) = none-enclosed (type_items table t ++ blank ∷ sign TIMES ∷ blank ∷ type_items table u) (none-append (type_items table t) (blank ∷ sign TIMES ∷ blank ∷ type_items table u) (none-type t) (refl, none-type u))
  none-type (set_type t) = (refl, none-enclosed (type_items table t) (none-type t))

-- ---- operators of formulas
abbrev IsUnaryOther : UnaryForm → Type 0
IsUnaryOther (word_form o) = is_of_sequences (word_kind o) ≡ false
IsUnaryOther _ = Unit {0}

unary-other : (o : UnOp) → IsUnaryOther (unary_form o)
unary-other Neg = tt
unary-other Inverse = tt
unary-other Single = tt
unary-other _ = refl

none-unary : (form : UnaryForm) (bare : Bool) (xs : List Item) → IsUnaryOther form → NoneIn xs → NoneIn (unary_items form bare xs)
none-unary (word_form o) bare xs h k = (h, none-enclosed xs k)
none-unary negative_form bare xs h k = (refl, none-enclosed xs k)
none-unary inverse_form bare xs h k = none-append (enclosed_if (not bare) xs) (sign INVERSE ∷ []) (none-part (not bare) xs k) (refl, tt)
none-unary single_form bare xs h k = (refl, none-append xs (sign CLOSE_BRACE ∷ []) k (refl, tt))

abbrev IsBinaryOther : BinaryForm → Type 0
IsBinaryOther (infix_form o) = is_of_sequences (infix_kind o) ≡ false
IsBinaryOther _ = Unit {0}

binary-other : (o : BinOp) → IsBinaryOther (binary_form o)
binary-other Image = tt
binary-other Apply = tt
binary-other Comp = tt
binary-other _ = refl

none-binary : (form : BinaryForm) (s : Sides) (xs ys : List Item) → IsBinaryOther form → NoneIn xs → NoneIn ys → NoneIn (binary_items form s xs ys)
none-binary (infix_form o) s xs ys h k m = none-append (enclosed_if s.left xs) (blank ∷ plain (infix_kind o) ∷ blank ∷ enclosed_if s.right ys) (none-part s.left xs k) (h, none-part s.right ys m)
none-binary image_form s xs ys h k m = none-append (enclosed_if (not s.bare) xs) (sign OPEN_BRACKET ∷ (ys ++ sign CLOSE_BRACKET ∷ [])) (none-part (not s.bare) xs k) (refl, none-append ys (sign CLOSE_BRACKET ∷ []) m (refl, tt))
none-binary apply_form s xs ys h k m = none-append (enclosed_if (not s.bare) xs) (enclosed ys) (none-part (not s.bare) xs k) (none-enclosed ys m)
none-binary composition_form s xs ys h k m =
    let inner = blank ∷ sign SEMICOLON ∷ blank ∷ enclosed_if s.right ys in
    none-enclosed (enclosed_if s.left xs ++ inner) (none-append (enclosed_if s.left xs) inner (none-part s.left xs k) (refl, none-part s.right ys m))

-- ---- formulas
none-literal : (z : ℤ) → NoneIn (literal_items z)
none-literal (pos n) = (refl, tt)
none-literal (negsuc n) = (refl, (refl, tt))

module _ (table : Table) where
  none-domain : (n : Domain) → NoneIn (domain_items table n)
  none-domain (Enum k) = (none-named (name_of_set table k) (behind_dollar (name_of_set table k)), tt)
  none-domain WholeNumbers = (refl, tt)
  none-domain _ = (refl, tt)

  none-comma : (ts : List ValueType) (xs : List Item) → NoneIn xs → NoneIn (comma_before ts xs)
  none-comma [] xs h = h
  none-comma (t ∷ ts) xs h = (refl, h)

  none-bounds : (k : ℕ) (ts : List ValueType) → NoneIn (bounds_items table k ts)
  none-bounds k [] = tt
  none-bounds k (t ∷ ts) = none-append (typed_items table k t) (comma_before ts (bounds_items table (suc k) ts)) (refl, (refl, none-type table t)) (none-comma ts (bounds_items table (suc k) ts) (none-bounds (suc k) ts))

  none-quantified : (op d : ℕ) (ts : List ValueType) (xs : List Item) → is_of_sequences (Sign op) ≡ false → NoneIn xs → NoneIn (quantified_items table op d ts xs)
  none-quantified op d ts xs h k =
      let bs = bounds_items table (suc d) ts in
      (h, none-append (enclosed bs) (sign DOT ∷ enclosed xs) (none-enclosed bs (none-bounds (suc d) ts)) (refl, none-enclosed xs k))

  none-between : (fs : Formulas) (xs : List Item) → NoneIn xs → NoneIn (comma_between fs xs)
  none-between no_formulas xs h = h
  none-between (formula_and f fs) xs h = (refl, h)

  none-comprehension : (rs xs : List Item) (b : Bool) → NoneIn rs → NoneIn xs → NoneIn (comprehension_items rs b xs)
  none-comprehension rs xs b h k =
      let rest = blank ∷ sign BAR ∷ blank ∷ enclosed_if b xs in
      (refl, none-append (rs ++ rest) (sign CLOSE_BRACE ∷ []) (none-append rs rest h (refl, none-part b xs k)) (refl, tt))

  none-lambda : (rs xs ys : List Item) (b c : Bool) → NoneIn rs → NoneIn xs → NoneIn ys → NoneIn (lambda_items rs b c xs ys)
  none-lambda rs xs ys b c h k m =
      let rest = blank ∷ sign BAR ∷ blank ∷ enclosed_if c ys in
      let inner = enclosed_if b xs ++ rest in
      (refl, none-append (enclosed rs) (sign DOT ∷ enclosed inner) (none-enclosed rs h) (refl, none-enclosed inner (none-append (enclosed_if b xs) rest (none-part b xs k) (refl, none-part c ys m))))

  mutual
    none-formula : (f : Formula) (d : ℕ) → NoneIn (items table d f)
    none-formula (variable n) d = (none-named (name_of_variable table n) (behind_dollar (name_of_variable table n)), tt)
    none-formula (bound i) d = (refl, tt)
    none-formula (literal z) d = none-literal z
    none-formula (truth_value b) d = (none-constant (truth_word b), tt)
    none-formula (element s i) d = (none-named (name_of_element table s i) (behind_dollar (name_of_element table s i)), tt)
    none-formula (empty_set t) d = (refl, (refl, none-append (type_items table t) (sign CLOSE_BRACE ∷ []) (none-type table t) (refl, tt)))
    none-formula (named n) d = none-domain n
    none-formula btrue d = (refl, tt)
    none-formula bfalse d = (refl, tt)
    none-formula (unary o a) d = none-unary (unary_form o) (is_bare a) (items table d a) (unary-other o) (none-formula a d)
    none-formula (binary o a b) d = none-binary (binary_form o) (sides a b) (items table d a) (items table d b) (binary-other o) (none-formula a d) (none-formula b d)
    none-formula (for_all ts p) d = none-quantified FOR_ALL d ts (items table (d + length ts) p) refl (none-formula p (d + length ts))
    none-formula (for_some ts p) d = none-quantified EXISTS d ts (items table (d + length ts) p) refl (none-formula p (d + length ts))
    none-formula (comprehension rs p) d = none-comprehension (ranges_items table d (suc d) rs) (items table (d + count rs) p) (is_infix p) (none-ranges rs d (suc d)) (none-formula p (d + count rs))
    none-formula (lambda rs p e) d = none-lambda (ranges_items table d (suc d) rs) (items table (d + count rs) p) (items table (d + count rs) e) (is_infix p) (is_infix e) (none-ranges rs d (suc d)) (none-formula p (d + count rs)) (none-formula e (d + count rs))

    none-ranges : (fs : Formulas) (d k : ℕ) → NoneIn (ranges_items table d k fs)
    none-ranges no_formulas d k = tt
    none-ranges (formula_and f fs) d k = none-append (range_items k (is_infix f) (items table d f)) (comma_between fs (ranges_items table d (suc k) fs)) (refl, (refl, none-part (is_infix f) (items table d f) (none-formula f d))) (none-between fs (ranges_items table d (suc k) fs) (none-ranges fs d (suc k)))

-- ---- lists
none-behind : {A : Type 0} (its : A → List Item) (sep : List Item) → NoneIn sep → ((x : A) → NoneIn (its x)) → (xs : List A) → NoneIn (behind_each sep (map its xs))
none-behind its sep s each [] = tt
none-behind its sep s each (x ∷ xs) =
    let more = behind_each sep (map its xs) in
    none-append sep (its x ++ more) s (none-append (its x) more (each x) (none-behind its sep s each xs))

none-divided : {A : Type 0} (its : A → List Item) (sep : List Item) → NoneIn sep → ((x : A) → NoneIn (its x)) → (xs : List A) → NoneIn (divided sep (map its xs))
none-divided its sep s each [] = tt
none-divided its sep s each (x ∷ xs) = none-append (its x) (behind_each sep (map its xs)) (each x) (none-behind its sep s each xs)

-- ---- parts
none-number : (n : ℕ) → NoneIn (number_items n)
none-number n = (refl, tt)

none-numbers : (ns : List ℕ) → NoneIn (numbers_behind ns)
none-numbers ns = none-behind number_items (blank ∷ []) tt none-number ns

none-place : (p : Place) → NoneIn (place_items p)
none-place (Goal path) = (refl, none-numbers path.items)
none-place (InHyp i path) = (refl, (refl, none-numbers path.items))

none-multiple : (m : ℤ × ℕ) → NoneIn (multiple_items m)
none-multiple m = none-append (literal_items m.0) (spaced TIMES ++ number_items m.1) (none-literal m.0) (refl, none-number m.1)

none-line : (l : Line) → NoneIn (line_items l)
none-line (Sum ms) = none-divided multiple_items (spaced PLUS) (refl, tt) none-multiple ms.items
none-line (Div fact by) = (refl, (refl, none-literal by))

none-facts : (ks : List ℕ) → NoneIn (facts_items ks)
none-facts [] = tt
none-facts (k ∷ ks) = none-append (divided comma (map number_items (k ∷ ks))) (blank ∷ []) (none-divided number_items comma (refl, tt) none-number (k ∷ ks)) tt

none-certificate : (ks : List ℕ) (ls : List Line) → NoneIn (certificate_items ks ls)
none-certificate ks ls = none-append (facts_items ks) (sign MEMBER ∷ blank ∷ divided (spaced BAR) (map line_items ls)) (none-facts ks) (refl, none-divided line_items (spaced BAR) (refl, tt) none-line ls)

module _ (table : Table) where
  none-terms : (fs : List Formula) → NoneIn (terms_items table fs)
  none-terms fs = none-divided (items table 0) comma (refl, tt) (λ f. none-formula table f 0) fs

  none-some_type : (o : Option ValueType) → NoneIn (some_type_items table o)
  none-some_type None = tt
  none-some_type (Some t) = none-type table t

  none-name : (n : ℕ) → NoneIn (name_items table n)
  none-name n = (refl, (refl, none-some_type (variable_type table n)))

  none-picks : (fs : List Formula) → NoneIn (picks_items table fs)
  none-picks [] = tt
  none-picks (f ∷ fs) = none-enclosed (terms_items table (f ∷ fs)) (none-terms (f ∷ fs))

  none-part_items : (p : Part) → NoneIn (part_items table p)
  none-part_items (a_number n) = none-number n
  none-part_items (a_term f) = none-formula table f 0
  none-part_items (some_terms fs) = none-terms fs
  none-part_items (a_place p) = none-place p
  none-part_items no_place = tt
  none-part_items (some_names ns) = none-divided (name_items table) comma (refl, tt) none-name ns
  none-part_items (a_law law fs) = (refl, none-picks fs)
  none-part_items (a_certificate ks ls) = none-certificate ks ls

  none-parts : (ps : Parts) → NoneIn (parts_items table ps)
  none-parts none = tt
  none-parts (one p) = none-part_items p
  none-parts (two p q) = none-append (part_items table p) (part_items table q) (none-part_items p) (none-part_items q)

  -- ---- rules
  none-kind : (w : RuleWord) → is_of_sequences (rule_kind w) ≡ false
  none-kind Hyp = refl
  none-kind _ = refl

  none-word : (o : Option RuleWord) → NoneIn (word_items o)
  none-word None = tt
  none-word (Some w) = (none-kind w, tt)

  none-semicolon : (rs : List Rule) → NoneIn (semicolon_before rs)
  none-semicolon [] = tt
  none-semicolon (r ∷ rs) = (refl, tt)

  none-rule : (r : Rule) → NoneIn (rule_items table r)
  none-rule r = none-append (word_items (word_of r)) (parts_items table (parts_of r)) (none-word (word_of r)) (none-parts (parts_of r))

-- ---- tokens
abbrev AreOther : List Token → Type 0
AreOther ts = Each (λ (t : Token). is_of_sequences t.kind ≡ false) ts

other-from : (xs : List Item) (p : ℕ) → NoneIn xs → AreOther (tokens_from p xs)
other-from [] p h = tt
other-from (blank ∷ xs) p h = other-from xs (p + 1) h
other-from (lexeme kind w ∷ xs) p h = (h.0, other-from xs (p + length w) h.1)

abbrev NoneInLines : List (List Item) → Type 0
NoneInLines ls = Each NoneIn ls

rules-none : (table : Table) (rules : List Rule) → NoneInLines (rule_lines table rules)
rules-none table [] = tt
rules-none table (r ∷ rs) = (none-append (rule_items table r) (semicolon_before rs) (none-rule table r) (none-semicolon table rs), rules-none table rs)

-- ---- they stay
unread-not : (b : Bool) (kind : TokenKind) → is_of_sequences kind ≡ false → is_unread b kind ≡ false
unread-not b (Sign op) h = h
unread-not true (Word op) h = refl
unread-not false (Word op) h = h
unread-not b _ h = refl

-- whatever stands before these tokens, they stay
abbrev pub IsKept : List Token → Type 0
IsKept ts = (b : Bool) → before_sequences b ts ≡ ts

kept : (ts rest : List Token) → AreOther ts → IsKept rest → IsKept (ts ++ rest)
kept [] rest h k b = k b
kept (t ∷ ts) rest h k b =
    ap (λ u. cond u [] (t ∷ before_sequences (is_before_part t.kind) (ts ++ rest))) (unread-not b t.kind h.0) ∙ ap (λ us. t ∷ us) (kept ts rest h.1 k (is_before_part t.kind))

-- lines stay, and others behind them
abbrev pub AreKept : List (List Item) → Type 0
AreKept ls = (p : ℕ) → IsKept (tokens_of_lines p ls)

lines-kept : (ls tail : List (List Item)) → NoneInLines ls → AreKept tail → AreKept (ls ++ tail)
lines-kept [] tail h k p = k p
lines-kept (l ∷ ls) tail h k p = kept (tokens_from p l) (tokens_of_lines (after p l + 1) (ls ++ tail)) (other-from l p h.0) (lines-kept ls tail h.1 k (after p l + 1))

-- items and what stands behind them
abbrev Stays : Bool → ℕ → List Item → List Token → Type 0
Stays b p xs rest = before_sequences b (tokens_from p xs ++ rest) ≡ tokens_from p xs ++ rest

stays-lead : (b : Bool) (kind : TokenKind) (text : List ℕ) (xs : List Item) (p : ℕ) (rest : List Token) → is_unread b kind ≡ false → Stays (is_before_part kind) (p + length text) xs rest → Stays b p (lexeme kind text ∷ xs) rest
stays-lead b kind text xs p rest h k =
    let t : Token = record { kind = kind; start = p; end = p + length text } in
    let ts : List Token = tokens_from (p + length text) xs ++ rest in
    ap (λ u. cond u [] (t ∷ before_sequences (is_before_part kind) ts)) h ∙ ap (λ us. t ∷ us) k

-- ---- names of scripts
letters-read : (text : List ℕ) (o : Option ℕ) → is_unread true (letters_kind text o) ≡ false
letters-read text None = refl
letters-read text (Some op) = refl

part-stays : (x : NamePart) (ys : List Item) (p : ℕ) (rest : List Token) → ((c : Bool) (q : ℕ) → Stays c q ys rest) → Stays true p (part_item x ∷ ys) rest
part-stays (Letters text) ys p rest f =
    let kind = letters_kind text (word_number text) in
    stays-lead true kind text ys p rest (letters-read text (word_number text)) (f (is_before_part kind) (p + length text))
part-stays (Numeral n) ys p rest f = stays-lead true (Number (pos n)) (decimal n) ys p rest refl (f false (p + length (decimal n)))

abbrev after_dots : List NamePart → List Item
after_dots xs = behind_each (sign DOT ∷ []) (map (λ x. part_item x ∷ []) xs)

dots-stay : (xs : List NamePart) (rest : List Token) → IsKept rest → (b : Bool) (p : ℕ) → Stays b p (after_dots xs) rest
dots-stay [] rest k b p = k b
dots-stay (x ∷ xs) rest k b p = stays-lead b (Sign DOT) (46 ∷ []) (part_item x ∷ after_dots xs) p rest refl (part-stays x (after_dots xs) (p + 1) rest (dots-stay xs rest k))

dotted-stays : (name : List NamePart) (rest : List Token) → IsKept rest → (p : ℕ) → Stays true p (dotted name) rest
dotted-stays [] rest k p = k true
dotted-stays (x ∷ xs) rest k p = part-stays x (after_dots xs) p rest (dots-stay xs rest k)

-- ---- the whole
pub script-kept : (table : Table) (name : List NamePart) (rules : List Rule) (tail : List (List Item)) → AreKept tail → AreKept (lines_of table name rules tail)
script-kept table name rules tail k p b =
    let behind = rule_lines table rules ++ last_line ∷ tail in
    let rest = tokens_of_lines (after p (head_line name) + 1) behind in
    let last : AreKept (last_line ∷ tail) = lines-kept (last_line ∷ []) tail ((refl, tt), tt) k in
    let stays : IsKept rest = lines-kept (rule_lines table rules) (last_line ∷ tail) (rules-none table rules) last (after p (head_line name) + 1) in
    stays-lead b (Name (codes "proof")) (codes "proof") (blank ∷ dotted name) p rest refl (dotted-stays name rest stays (p + 5 + 1))

pub nothing-kept : AreKept []
nothing-kept p b = refl
