-- Printed formulas and types are cut into their tokens wherever such a byte follows as may follow a term: also the end of a line, and a dot.
-- (What the proof of the same name in bk_show says of a whole text. Its lemmas are private.)
use Rattle.std.proofs.Common.{◌≡◌, ℕ, zero, suc, ◌+◌, ◌-◌, ◌^◌, ◌<◌, ◌≤◌, Bool, true, false, cond, not, ◌&&◌, ◌||◌, List, [], ◌∷◌, ◌++◌, length, get_or, refl, ap, sym, ◌∙◌, arith, subst, append_assoc, append-nil, length-append, inl, inr, Option, Some, None, IsUtf8}
use Rattle.std.specs.Prelude.{nat_eq, ℤ, pos, negsuc, decimal}
use Rattle.std.specs.List.{list_all}
use Rattle.std.proofs.lemmas.Bool.{and_parts, and_from, leb-true, eqb-true}
use Rattle.std.proofs.lemmas.Bool.Decides.{nat_tests}
use Rattle.std.proofs.lemmas.Str.{IsUtf8-from_ascii, IsUtf8-append, IsUtf8-nil}
use Rattle.bk_val.specs.ValueType.{ValueType, int_type, bool_type, enum_type, pair_type, set_type}
use Rattle.bk_form.specs.Table.{Table}
use Rattle.bk_form.specs.Formula.{Formula, variable, bound, literal, truth_value, element, empty_set, named, btrue, bfalse, unary, binary, for_all, for_some, comprehension, lambda, Formulas, no_formulas, formula_and}
use Rattle.bk_form.specs.declared.operator.Domain.{Domain}
use Rattle.bk_form.specs.declared.operator.Domain.TheVariants.{Integer as WholeNumbers, Natural as NaturalNumbers, Natural1 as PositiveNumbers, Bool as Booleans, Enum}
use Rattle.bk_form.specs.declared.token.Token.{Token}
use Rattle.bk_form.specs.declared.token.TokenKind.{TokenKind}
use Rattle.bk_form.specs.declared.token.TokenKind.TheVariants.{Name, LevelName, BoundName, Number, Sign, Word}
use Rattle.bk_ops.specs.declared.sign.TheConstants.{FOR_ALL, EXISTS, MEMBER, MINUS, TIMES, OPEN_PAREN, CLOSE_PAREN, OPEN_BRACKET, CLOSE_BRACKET, OPEN_BRACE, CLOSE_BRACE, INVERSE, SEMICOLON, COMMA, DOT, BAR, LAMBDA}
use Rattle.bk_ops.specs.declared.word.TheConstants.{BOOL, INTEGER, POW}
use Rattle.bk_lex.specs.Lexis.{IsIdentifier, is_digit, is_numeral, numeral_from, IsDollar, Fits, BeginsWith, sign_number, word_number, blank as gap, Cut}
use Rattle.bk_lex.specs.Parts.{begins}
use Rattle.bk_lex.proofs.Characters.{class, class_of, goes, identifier_goes}
use Rattle.bk_lex.proofs.Numbered.{is_ascii, sign_ascii}
use Rattle.bk_lex.proofs.Runs.{numeral_all}
use Rattle.bk_lex.proofs.Spelling.{kind_class, written_class}
use Rattle.bk_raw.specs.declared.operator.InfixOp.{InfixOp}
use Rattle.bk_raw.specs.declared.operator.InfixOp.TheVariants.{Equivalent}
use Rattle.bk_raw.specs.declared.operator.WordOp.{WordOp}
use Rattle.bk_raw.specs.declared.operator.WordOp.TheVariants.{Not}
use Rattle.bk_raw.specs.declared.operator.Constant.{Constant}
use Rattle.bk_raw.specs.declared.operator.Constant.TheVariants.{Bool as BoolWord, Integer, Natural, Natural1, Btrue, Bfalse}
use Rattle.bk_raw.specs.Trees.Operators.{infix_kind, word_kind, constant_kind}
use Rattle.bk_show.specs.Items.{Item, blank, lexeme, item_text, text_of, kind_text, level_text, plain, sign}
use Rattle.bk_show.proofs.Tokens.{tokens_from}
use Rattle.bk_show.specs.declared.notation.UnaryForm.{UnaryForm}
use Rattle.bk_show.specs.declared.notation.UnaryForm.TheVariants.{Word as word_form, Negative as negative_form, Inverse as inverse_form, Single as single_form}
use Rattle.bk_show.specs.declared.notation.BinaryForm.{BinaryForm}
use Rattle.bk_show.specs.declared.notation.BinaryForm.TheVariants.{Infix as infix_form, Image as image_form, Application as apply_form, Composition as composition_form}
use Rattle.bk_show.specs.Shown.{name_of_variable, name_of_set, name_of_element, behind_dollar, before_dollar, kind_by, name_kind, name_item, enclosed, enclosed_if, type_items, unary_form, binary_form, is_infix, is_bare, unary_items, Sides, binary_items, constant_item, truth_word, literal_items, domain_items, typed_items, bounds_items, quantified_items, range_items, comprehension_items, lambda_items, items, ranges_items}
use Rattle.bk_form.specs.Replacement.{count}
use Rattle.bk_show.specs.Readable.{IsPlainName, IsPrintable, IsSmall, SetsAreNamed, AllSetsAreNamed, DomainIsNamed, IsReadable, AreReadable}
use Rattle.bk_show.proofs.Scalars.{identifier-utf8}
use Rattle.bk_show.proofs.Begun.{decimal-is, is_ascii_word, word-identifier, in_word, IsWordlike, wordlike-class, wordlike-begins, Next, ends_before, opens_no_comment, sign-begins}

-- ---- texts one after another
pub text-append : (xs ys : List Item) (rest : List ℕ) → text_of (xs ++ ys) ++ rest ≡ text_of xs ++ (text_of ys ++ rest)
text-append [] ys rest = refl
text-append (x ∷ xs) ys rest =
    append_assoc (item_text x) (text_of (xs ++ ys)) rest ∙ ap (λ t. item_text x ++ t) (text-append xs ys rest) ∙ sym (append_assoc (item_text x) (text_of xs) (text_of ys ++ rest))

-- a token ends where the rest begins
abbrev pub Ends : TokenKind → List ℕ → List ℕ → Type 0
Ends kind w rest = BeginsWith kind (w ++ rest) rest × Fits kind × IsUtf8 w

-- each token does
abbrev pub Lexed : List Item → List ℕ → Type 0
Lexed [] rest = Unit {0}
Lexed (blank ∷ xs) rest = Lexed xs rest
Lexed (lexeme kind w ∷ xs) rest = Ends kind w (text_of xs ++ rest) × Lexed xs rest

pub lexed-append : (xs ys : List Item) (rest : List ℕ) → Lexed xs (text_of ys ++ rest) → Lexed ys rest → Lexed (xs ++ ys) rest
lexed-append [] ys rest h k = k
lexed-append (blank ∷ xs) ys rest h k = lexed-append xs ys rest h k
lexed-append (lexeme kind w ∷ xs) ys rest h k = (subst (Ends kind w) (sym (text-append xs ys rest)) h.0, lexed-append xs ys rest h.1 k)

-- ---- the text is cut into its tokens
cut-blank : (total : ℕ) (text rest : List ℕ) (tokens : List Token) → Cut total text tokens rest → Cut total (32 ∷ text) tokens rest
cut-blank total text rest [] h = (gap 32 ∷ h.0, (text, refl, refl, h.1))
cut-blank total text rest (token ∷ tokens) h = (gap 32 ∷ h.0, h.1, h.2, (text, refl, refl, h.3), h.4, h.5, h.6, h.7, h.8)

cut : (xs : List Item) (rest : List ℕ) (p total : ℕ) → Lexed xs rest → total ≡ p + length (text_of xs ++ rest) → Cut total (text_of xs ++ rest) (tokens_from p xs) rest
cut [] rest p total h e = ([], refl)
cut (blank ∷ xs) rest p total h e = cut-blank total (text_of xs ++ rest) rest (tokens_from (p + 1) xs) (cut xs rest (p + 1) total h (omega arith))
cut (lexeme kind w ∷ xs) rest p total h e =
    let whole : (w ++ text_of xs) ++ rest ≡ w ++ (text_of xs ++ rest) = append_assoc w (text_of xs) rest in
    let long : length (w ++ (text_of xs ++ rest)) ≡ length w + length (text_of xs ++ rest) = length-append w (text_of xs ++ rest) in
    let there : total ≡ p + length (w ++ (text_of xs ++ rest)) = e ∙ ap (λ t. p + length t) whole in
    ([], w ++ (text_of xs ++ rest), text_of xs ++ rest, whole, h.0.0, h.0.1, sym there, omega arith, cut xs rest (p + length w) total h.1 (omega arith))

-- ---- texts of ASCII
ascii-at : (bs : List ℕ) → list_all is_ascii bs ≡ true → (i : ℕ) → get_or bs i 0 < 128
ascii-at [] a i = omega arith
ascii-at (c ∷ bs) a zero =
    let small : c ≤ 127 = leb-true c 127 (and_parts (is_ascii c) (list_all is_ascii bs) a).0 in omega arith
ascii-at (c ∷ bs) a (suc i) = ascii-at bs (and_parts (is_ascii c) (list_all is_ascii bs) a).1 i

pub ascii-utf8 : (bs : List ℕ) → list_all is_ascii bs ≡ true → IsUtf8 bs
ascii-utf8 bs a = IsUtf8-from_ascii bs (λ i. ascii-at bs a i)

pub digits-ascii : (bs : List ℕ) → list_all is_digit bs ≡ true → list_all is_ascii bs ≡ true
digits-ascii [] h = refl
digits-ascii (c ∷ cs) h =
    let parts = and_parts (is_digit c) (list_all is_digit cs) h in
    and_from (is_ascii c) (list_all is_ascii cs) (digit-ascii c parts.0) (digits-ascii cs parts.1)
  where
    digit-ascii : (c : ℕ) → is_digit c ≡ true → is_ascii c ≡ true
    digit-ascii c h = grind (arith, nat_tests)

-- ---- signs and words
abbrev pub any : ℕ → Bool
any c = true

pub next-any : (rest : List ℕ) → Next any rest
next-any [] = tt
next-any (c ∷ cs) = refl

abbrev pub has_number : Option ℕ → ℕ → Bool
has_number None n = false
has_number (Some m) n = nat_eq m n

pub number-then : (o : Option ℕ) (n : ℕ) → has_number o n ≡ true → o ≡ Some n
number-then None n h = absurd (cc)
number-then (Some m) n h = let e : m ≡ n = grind (arith, nat_tests) in ap (λ k. Some k) e

-- a sign that no sign continues where such a byte follows
abbrev pub is_sign_before : (ℕ → Bool) → ℕ → Bool
is_sign_before p op = has_number (sign_number (kind_text (Sign op))) op && (ends_before p (kind_text (Sign op)) && opens_no_comment p (kind_text (Sign op)))

pub sign-ends : (p : ℕ → Bool) (op : ℕ) (rest : List ℕ) → is_sign_before p op ≡ true → Next p rest → Ends (Sign op) (kind_text (Sign op)) rest
sign-ends p op rest h n =
    let s = kind_text (Sign op) in
    let one = and_parts (has_number (sign_number s) op) (ends_before p s && opens_no_comment p s) h in
    let two = and_parts (ends_before p s) (opens_no_comment p s) one.1 in
    let number = number-then (sign_number s) op one.0 in
    (sign-begins p op s rest number two.0 two.1 n, tt, ascii-utf8 s (sign_ascii op s number))

-- the same for a sign or a word
abbrev pub is_fixed : (ℕ → Bool) → TokenKind → Bool
is_fixed p (Sign op) = is_sign_before p op
is_fixed p (Word op) = has_number (word_number (kind_text (Word op))) op && (is_ascii_word (kind_text (Word op)) && list_all is_ascii (kind_text (Word op)))
is_fixed p _ = false

pub begins-not : (p : ℕ → Bool) (rest : List ℕ) → ((c : ℕ) → p c ≡ true → in_word c ≡ false) → Next p rest → begins in_word rest ≡ false
begins-not p [] i n = refl
begins-not p (c ∷ cs) i n = i c n

pub word-ends : (op : ℕ) (p : ℕ → Bool) (rest : List ℕ) → is_fixed p (Word op) ≡ true → begins in_word rest ≡ false → Ends (Word op) (kind_text (Word op)) rest
word-ends op p rest h n =
    let w = kind_text (Word op) in
    let one = and_parts (has_number (word_number w) op) (is_ascii_word w && list_all is_ascii w) h in
    let two = and_parts (is_ascii_word w) (list_all is_ascii w) one.1 in
    (wordlike-begins (Word op) w rest tt (word-identifier w two.0, number-then (word_number w) op one.0) n, tt, ascii-utf8 w two.1)

pub fixed-ends : (p : ℕ → Bool) (kind : TokenKind) (rest : List ℕ) → ((c : ℕ) → p c ≡ true → in_word c ≡ false) → is_fixed p kind ≡ true → Next p rest → Ends kind (kind_text kind) rest
fixed-ends p (Sign op) rest i h n = sign-ends p op rest h n
fixed-ends p (Word op) rest i h n = word-ends op p rest h (begins-not p rest i n)
fixed-ends p (Name x) rest i h n = absurd (cc)
fixed-ends p (LevelName x k) rest i h n = absurd (cc)
fixed-ends p (BoundName k) rest i h n = absurd (cc)
fixed-ends p (Number z) rest i h n = absurd (cc)

abbrev pub is_space : ℕ → Bool
is_space c = nat_eq c 32

space-not-in : (c : ℕ) → is_space c ≡ true → in_word c ≡ false
space-not-in c h = grind (arith, nat_tests)

abbrev pub opens : ℕ → Bool
opens c = nat_eq c 40

opens-not-in : (c : ℕ) → opens c ≡ true → in_word c ≡ false
opens-not-in c h = grind (arith, nat_tests)

-- what may follow a term: the end of a line, a blank, or one of . ( ) , [ ] } ~
abbrev pub follows : ℕ → Bool
follows c = nat_eq c 10 || (nat_eq c 46 || (nat_eq c 32 || (nat_eq c 40 || (nat_eq c 41 || (nat_eq c 44 || (nat_eq c 91 || (nat_eq c 93 || (nat_eq c 125 || nat_eq c 126))))))))

pub follows-not-in : (c : ℕ) → follows c ≡ true → in_word c ≡ false
follows-not-in c h = grind (arith, nat_tests)

-- what a term may begin with: anything but : and =
abbrev pub begins_term : ℕ → Bool
begins_term c = not (nat_eq c 58 || nat_eq c 61)

infix-fixed : (o : InfixOp) → is_fixed is_space (infix_kind o) ≡ true
infix-fixed Equivalent = refl
infix-fixed _ = refl

word-fixed : (o : WordOp) → is_fixed opens (word_kind o) ≡ true
word-fixed Not = refl
word-fixed _ = refl

constant-fixed : (c : Constant) → is_fixed follows (constant_kind c) ≡ true
constant-fixed BoolWord = refl
constant-fixed _ = refl

-- ---- what a term begins with
class-byte : (c : ℕ) (a b : Bool) → nat_eq c 58 ≡ a → nat_eq c 61 ≡ b → class c < 3 → not (a || b) ≡ true
class-byte c true b e f h = let same : c ≡ 58 = eqb-true c 58 e in let k : class c ≡ 3 = ap class same in absurd (omega arith)
class-byte c false true e f h = let same : c ≡ 61 = eqb-true c 61 f in let k : class c ≡ 3 = ap class same in absurd (omega arith)
class-byte c false false e f h = refl

class-begins : (text : List ℕ) → class_of text < 3 → Next begins_term text
class-begins [] h = tt
class-begins (c ∷ cs) h = class-byte c (nat_eq c 58) (nat_eq c 61) refl refl h

ends-begins : (kind : TokenKind) (w rest : List ℕ) → IsWordlike kind → Ends kind w rest → Next begins_term (w ++ rest)
ends-begins kind w rest k h =
    let b = h.0 in
    let same : class_of (w ++ rest) ≡ kind_class kind = ap class_of b.splits ∙ written_class kind b.written rest b.spelling in
    class-begins (w ++ rest) (omega (arith, wordlike-class kind k))

-- the items are cut into tokens where such a byte follows as may follow a term, and begin as a term does
abbrev pub Good : List Item → Type 0
Good xs = (rest : List ℕ) → Next follows rest → Lexed xs rest × Next begins_term (text_of xs ++ rest)

pub one-good : (kind : TokenKind) (w : List ℕ) → IsWordlike kind → ((rest : List ℕ) → begins in_word rest ≡ false → Ends kind w rest) → Good (lexeme kind w ∷ [])
one-good kind w k h rest n =
    let e = h rest (begins-not follows rest follows-not-in n) in
    ((e, tt), subst (λ v. Next begins_term (v ++ rest)) (sym (append-nil w)) (ends-begins kind w rest k e))

constant-wordlike : (c : Constant) → IsWordlike (constant_kind c)
constant-wordlike BoolWord = tt
constant-wordlike _ = tt

word-wordlike : (o : WordOp) → IsWordlike (word_kind o)
word-wordlike Not = tt
word-wordlike _ = tt

constant-good : (c : Constant) → Good (constant_item c)
constant-good c rest n =
    let kind = constant_kind c in
    let e = fixed-ends follows kind rest follows-not-in (constant-fixed c) n in
    ((e, tt), subst (λ v. Next begins_term (v ++ rest)) (sym (append-nil (kind_text kind))) (ends-begins kind (kind_text kind) rest (constant-wordlike c) e))

-- ---- names and numbers
goes-no-dollar : (c : ℕ) → goes c ≡ true → nat_eq c 36 ≡ false
goes-no-dollar c h = grind (arith, nat_tests)

pub no-dollar : (w : List ℕ) → list_all goes w ≡ true → behind_dollar w ≡ None
no-dollar [] h = refl
no-dollar (c ∷ cs) h =
    let parts = and_parts (goes c) (list_all goes cs) h in
    ap (λ b. cond b (Some cs) (behind_dollar cs)) (goes-no-dollar c parts.0) ∙ no-dollar cs parts.1

dollar-behind : (w ds : List ℕ) → list_all goes w ≡ true → (behind_dollar (w ++ (36 ∷ ds)) ≡ Some ds) × (before_dollar (w ++ (36 ∷ ds)) ≡ w)
dollar-behind [] ds h = (refl, refl)
dollar-behind (c ∷ cs) ds h =
    let parts = and_parts (goes c) (list_all goes cs) h in
    let no = goes-no-dollar c parts.0 in
    let more = dollar-behind cs ds parts.1 in
    (ap (λ b. cond b (Some (cs ++ (36 ∷ ds))) (behind_dollar (cs ++ (36 ∷ ds)))) no ∙ more.0, ap (λ b. cond b [] (c ∷ before_dollar (cs ++ (36 ∷ ds)))) no ∙ ap (λ w. c ∷ w) more.1)

pub level-parts : (name : List ℕ) (n : ℕ) → IsIdentifier name → n < 2 ^ 32 → (behind_dollar (level_text name n) ≡ Some (decimal n)) × (before_dollar (level_text name n) ≡ name) × (numeral_from 0 (decimal n) ≡ n)
level-parts name n i l =
    let two = dollar-behind name (decimal n) (identifier_goes name i) in
    (two.0, two.1, (decimal-is n (omega arith)).1)

pub plain-kind : (text : List ℕ) → IsPlainName text → name_kind text ≡ Name text
plain-kind text h = ap (kind_by text) (no-dollar text (identifier_goes text h.0))

pub level-kind : (text name : List ℕ) (n : ℕ) → text ≡ level_text name n → IsIdentifier name → n < 2 ^ 32 → name_kind text ≡ LevelName name n
level-kind text name n e i l =
    let three = level-parts name n i l in
    ap name_kind e
    ∙ ap (kind_by (level_text name n)) three.0
    ∙ ap (λ w. LevelName w (numeral_from 0 (decimal n))) three.1
    ∙ ap (λ k. LevelName name k) three.2

decimal-dollar : (n : ℕ) → n < 2 ^ 32 → IsDollar (36 ∷ decimal n) n
decimal-dollar n l = let d = decimal-is n (omega arith) in record { digits = decimal n; splits = refl; numeral = d.0; value = sym d.1 }

pub decimal-utf8 : (n : ℕ) → n < 2 ^ 127 → IsUtf8 (decimal n)
decimal-utf8 n l = ascii-utf8 (decimal n) (digits-ascii (decimal n) (numeral_all (decimal n) (decimal-is n l).0))

dollar-utf8 : (n : ℕ) → n < 2 ^ 32 → IsUtf8 (36 ∷ decimal n)
dollar-utf8 n l = IsUtf8-append (36 ∷ []) (decimal n) (ascii-utf8 (36 ∷ []) refl) (decimal-utf8 n (omega arith))

abbrev pub Cuts : List ℕ → TokenKind → Type 0
Cuts text kind = IsWordlike kind × ((rest : List ℕ) → begins in_word rest ≡ false → Ends kind text rest)

pub plain-cuts : (text : List ℕ) → IsPlainName text → Cuts text (Name text)
plain-cuts text h = (tt, λ rest n. (wordlike-begins (Name text) text rest tt (h.0, h.1, refl) n, tt, identifier-utf8 text h.0))

level-cuts : (text name : List ℕ) (n : ℕ) → text ≡ level_text name n → IsIdentifier name → n < 2 ^ 32 → Cuts text (LevelName name n)
level-cuts text name n e i l =
    (tt, λ rest b. (wordlike-begins (LevelName name n) text rest tt (36 ∷ decimal n, e, i, decimal-dollar n l) b, l, subst IsUtf8 (sym e) (IsUtf8-append name (36 ∷ decimal n) (identifier-utf8 name i) (dollar-utf8 n l))))

name-cuts : (text : List ℕ) → IsPrintable text → Cuts text (name_kind text)
name-cuts text h = elim h [
  | inl p ↦ subst (Cuts text) (sym (plain-kind text p)) (plain-cuts text p)
  | inr q ↦ subst (Cuts text) (sym (level-kind text q.0 q.1 q.2 q.3 q.4)) (level-cuts text q.0 q.1 q.2 q.3 q.4)
]

pub name-good : (text : List ℕ) → IsPrintable text → Good (name_item text ∷ [])
name-good text h = let c = name-cuts text h in one-good (name_kind text) text c.0 c.1

pub set-good : (text : List ℕ) → IsPlainName text → Good (plain (Name text) ∷ [])
set-good text h = let c = plain-cuts text h in one-good (Name text) text c.0 c.1

pub bound-ends : (k : ℕ) (rest : List ℕ) → k < 2 ^ 32 → begins in_word rest ≡ false → Ends (BoundName k) (kind_text (BoundName k)) rest
bound-ends k rest l n = (wordlike-begins (BoundName k) (36 ∷ decimal k) rest tt (decimal-dollar k l) n, l, dollar-utf8 k l)

pub number-ends : (k : ℕ) (rest : List ℕ) → k < 2 ^ 127 → begins in_word rest ≡ false → Ends (Number (pos k)) (decimal k) rest
number-ends k rest l n = (wordlike-begins (Number (pos k)) (decimal k) rest tt ((decimal-is k l).0, ap (λ m. pos m) (sym (decimal-is k l).1)) n, (k, refl, l), decimal-utf8 k l)

pub digit-first : (w rest : List ℕ) → is_numeral w ≡ true → Next is_digit (w ++ rest)
digit-first [] rest h = absurd (cc)
digit-first (c ∷ cs) rest h = (and_parts (is_digit c) (list_all is_digit cs) h).0

pub literal-good : (z : ℤ) → IsSmall z → Good (literal_items z)
literal-good (pos n) h rest b = one-good (Number (pos n)) (decimal n) tt (λ r c. number-ends n r h c) rest b
literal-good (negsuc n) h rest b =
    let e = number-ends (suc n) rest h (begins-not follows rest follows-not-in b) in
    let d = subst (λ v. Next is_digit (v ++ rest)) (sym (append-nil (decimal (suc n)))) (digit-first (decimal (suc n)) rest (decimal-is (suc n) h).0) in
    ((sign-ends is_digit MINUS ((decimal (suc n) ++ []) ++ rest) refl d, (e, tt)), refl)

-- ---- brackets
abbrev pub Fine : List Item → Type 0
Fine xs = (rest : List ℕ) → Next follows rest → Lexed xs rest

pub fine : (xs : List Item) → Good xs → Fine xs
fine xs h rest n = (h rest n).0

pub sign-lead : (p : ℕ → Bool) (op : ℕ) (ys : List Item) (rest : List ℕ) → is_sign_before p op ≡ true → Next p (text_of ys ++ rest) → Lexed ys rest → Lexed (sign op ∷ ys) rest
sign-lead p op ys rest h n k = (sign-ends p op (text_of ys ++ rest) h n, k)

-- a sign behind which anything may stand
pub lone-lead : (op : ℕ) (ys : List Item) (rest : List ℕ) → is_sign_before any op ≡ true → Lexed ys rest → Lexed (sign op ∷ ys) rest
lone-lead op ys rest h k = sign-lead any op ys rest h (next-any (text_of ys ++ rest)) k

pub enclosed-lexed : (xs : List Item) → Fine xs → (rest : List ℕ) → Lexed (enclosed xs) rest
enclosed-lexed xs h rest =
    lone-lead OPEN_PAREN (xs ++ sign CLOSE_PAREN ∷ []) rest refl (lexed-append xs (sign CLOSE_PAREN ∷ []) rest (h (41 ∷ rest) refl) (lone-lead CLOSE_PAREN [] rest refl tt))

part-good : (b : Bool) (xs : List Item) → Good xs → Good (enclosed_if b xs)
part-good true xs h rest n = (enclosed-lexed xs (fine xs h) rest, refl)
part-good false xs h rest n = h rest n

-- items and others behind them
pub join-good : (xs ys : List Item) (rest : List ℕ) → Good xs → Next follows (text_of ys ++ rest) → Lexed ys rest → Lexed (xs ++ ys) rest × Next begins_term (text_of (xs ++ ys) ++ rest)
join-good xs ys rest h n k =
    let g = h (text_of ys ++ rest) n in
    (lexed-append xs ys rest g.0 k, subst (Next begins_term) (sym (text-append xs ys rest)) g.1)

-- ---- operators
pub op-lead : (kind : TokenKind) (ys : List Item) (rest : List ℕ) → is_fixed is_space kind ≡ true → Lexed ys rest → Lexed (plain kind ∷ blank ∷ ys) rest
op-lead kind ys rest h k = (fixed-ends is_space kind (32 ∷ (text_of ys ++ rest)) space-not-in h refl, k)

pub word-lead : (o : WordOp) (xs : List Item) (rest : List ℕ) → Fine xs → Lexed (plain (word_kind o) ∷ enclosed xs) rest × Next begins_term (text_of (plain (word_kind o) ∷ enclosed xs) ++ rest)
word-lead o xs rest h =
    let kind = word_kind o in
    let e = fixed-ends opens kind (text_of (enclosed xs) ++ rest) opens-not-in (word-fixed o) refl in
    ((e, enclosed-lexed xs h rest), subst (Next begins_term) (sym (append_assoc (kind_text kind) (text_of (enclosed xs)) rest)) (ends-begins kind (kind_text kind) (text_of (enclosed xs) ++ rest) (word-wordlike o) e))

unary-good : (form : UnaryForm) (bare : Bool) (xs : List Item) → Good xs → Good (unary_items form bare xs)
unary-good (word_form o) bare xs h rest n = word-lead o xs rest (fine xs h)
unary-good negative_form bare xs h rest n = (sign-lead opens MINUS (enclosed xs) rest refl refl (enclosed-lexed xs (fine xs h) rest), refl)
unary-good inverse_form bare xs h rest n = join-good (enclosed_if (not bare) xs) (sign INVERSE ∷ []) rest (part-good (not bare) xs h) refl (lone-lead INVERSE [] rest refl tt)
unary-good single_form bare xs h rest n =
    (lone-lead OPEN_BRACE (xs ++ sign CLOSE_BRACE ∷ []) rest refl (lexed-append xs (sign CLOSE_BRACE ∷ []) rest (fine xs h (125 ∷ rest) refl) (lone-lead CLOSE_BRACE [] rest refl tt)), refl)

binary-good : (form : BinaryForm) (s : Sides) (xs ys : List Item) → Good xs → Good ys → Good (binary_items form s xs ys)
binary-good (infix_form o) s xs ys h k rest n =
    join-good (enclosed_if s.left xs) (blank ∷ plain (infix_kind o) ∷ blank ∷ enclosed_if s.right ys) rest (part-good s.left xs h) refl
    (op-lead (infix_kind o) (enclosed_if s.right ys) rest (infix-fixed o) (fine (enclosed_if s.right ys) (part-good s.right ys k) rest n))
binary-good image_form s xs ys h k rest n =
    join-good (enclosed_if (not s.bare) xs) (sign OPEN_BRACKET ∷ (ys ++ sign CLOSE_BRACKET ∷ [])) rest (part-good (not s.bare) xs h) refl
    (lone-lead OPEN_BRACKET (ys ++ sign CLOSE_BRACKET ∷ []) rest refl (lexed-append ys (sign CLOSE_BRACKET ∷ []) rest (fine ys k (93 ∷ rest) refl) (lone-lead CLOSE_BRACKET [] rest refl tt)))
binary-good apply_form s xs ys h k rest n =
    join-good (enclosed_if (not s.bare) xs) (enclosed ys) rest (part-good (not s.bare) xs h) refl (enclosed-lexed ys (fine ys k) rest)
binary-good composition_form s xs ys h k rest n = (enclosed-lexed (enclosed_if s.left xs ++ blank ∷ sign SEMICOLON ∷ blank ∷ enclosed_if s.right ys) inner rest, refl)
  where
    inner : Fine (enclosed_if s.left xs ++ blank ∷ sign SEMICOLON ∷ blank ∷ enclosed_if s.right ys)
    inner r m =
        (join-good (enclosed_if s.left xs) (blank ∷ sign SEMICOLON ∷ blank ∷ enclosed_if s.right ys) r (part-good s.left xs h) refl
        (op-lead (Sign SEMICOLON) (enclosed_if s.right ys) r refl (fine (enclosed_if s.right ys) (part-good s.right ys k) r m))).0

-- ---- types and bound variables
module _ (table : Table) where
  pub type-good : (t : ValueType) → SetsAreNamed table t → Good (type_items table t)
  type-good int_type h rest n = one-good (Word INTEGER) (kind_text (Word INTEGER)) tt (λ r b. word-ends INTEGER follows r refl b) rest n
  type-good bool_type h rest n = one-good (Word BOOL) (kind_text (Word BOOL)) tt (λ r b. word-ends BOOL follows r refl b) rest n
  type-good (enum_type k) h rest n = set-good (name_of_set table k) h rest n
  type-good (pair_type t u) h rest n = (
    enclosed-lexed (type_items table t ++ blank ∷ sign TIMES ∷ blank ∷ type_items table u)
        (λ r m. (join-good (type_items table t) (blank ∷ sign TIMES ∷ blank ∷ type_items table u) r (type-good t h.0) refl (op-lead (Sign TIMES) (type_items table u) r refl (type-good u h.1 r m).0)).0) rest,
    refl,
  )
  type-good (set_type t) h rest n =
      ((fixed-ends opens (Word POW) (text_of (enclosed (type_items table t)) ++ rest) opens-not-in refl refl, enclosed-lexed (type_items table t) (fine (type_items table t) (type-good t h)) rest), refl)

  -- a bound variable, a colon and what begins as a term
  bound-lead : (k : ℕ) (xs : List Item) (rest : List ℕ) → k < 2 ^ 32 → Next begins_term (text_of xs ++ rest) → Lexed xs rest → Lexed (plain (BoundName k) ∷ sign MEMBER ∷ xs) rest
  bound-lead k xs rest l n h = (bound-ends k (58 ∷ (text_of xs ++ rest)) l refl, sign-lead begins_term MEMBER xs rest refl n h)

  typed-lexed : (k : ℕ) (t : ValueType) (rest : List ℕ) → k < 2 ^ 32 → SetsAreNamed table t → Next follows rest → Lexed (typed_items table k t) rest
  typed-lexed k t rest l h n = let g = type-good t h rest n in bound-lead k (type_items table t) rest l g.1 g.0

  bounds-lexed : (ts : List ValueType) (k : ℕ) (rest : List ℕ) → AllSetsAreNamed table ts → k + length ts ≤ 2 ^ 32 → Next follows rest → Lexed (bounds_items table k ts) rest
  bounds-lexed [] k rest h l n = tt
  bounds-lexed (t ∷ ts) k rest h l n = behind t ts k rest h.0 (omega arith) n (bounds-lexed ts (suc k) rest h.1 (omega arith) n)
    where
      behind : (t : ValueType) (ts : List ValueType) (k : ℕ) (rest : List ℕ) → SetsAreNamed table t → k < 2 ^ 32 → Next follows rest → Lexed (bounds_items table (suc k) ts) rest → Lexed (bounds_items table k (t ∷ ts)) rest
      behind t [] k rest h l n more = lexed-append (typed_items table k t) [] rest (typed-lexed k t rest l h n) tt
      behind t (u ∷ us) k rest h l n more = lexed-append (typed_items table k t) (sign COMMA ∷ bounds_items table (suc k) (u ∷ us)) rest (typed-lexed k t (44 ∷ (text_of (bounds_items table (suc k) (u ∷ us)) ++ rest)) l h refl) (lone-lead COMMA (bounds_items table (suc k) (u ∷ us)) rest refl more)

  quantified-lexed : (op d : ℕ) (ts : List ValueType) (xs : List Item) (rest : List ℕ) → is_sign_before any op ≡ true → AllSetsAreNamed table ts → d + length ts < 2 ^ 32 → Fine xs → Lexed (quantified_items table op d ts xs) rest
  quantified-lexed op d ts xs rest e h l g =
      let bs = bounds_items table (suc d) ts in
      lone-lead op (enclosed bs ++ sign DOT ∷ enclosed xs) rest e
      (lexed-append (enclosed bs) (sign DOT ∷ enclosed xs) rest (enclosed-lexed bs (λ r n. bounds-lexed ts (suc d) r h (omega arith) n) (text_of (sign DOT ∷ enclosed xs) ++ rest))
      (sign-lead opens DOT (enclosed xs) rest refl refl (enclosed-lexed xs g rest)))

  range-lexed : (k : ℕ) (b : Bool) (xs : List Item) (rest : List ℕ) → k < 2 ^ 32 → Good xs → Next follows rest → Lexed (range_items k b xs) rest
  range-lexed k b xs rest l h n = let g = part-good b xs h rest n in bound-lead k (enclosed_if b xs) rest l g.1 g.0

  ranges-behind : (f : Formula) (fs : Formulas) (d k : ℕ) (rest : List ℕ) → k < 2 ^ 32 → Good (items table d f) → Next follows rest → Lexed (ranges_items table d (suc k) fs) rest → Lexed (ranges_items table d k (formula_and f fs)) rest
  ranges-behind f no_formulas d k rest l h n more = lexed-append (range_items k (is_infix f) (items table d f)) [] rest (range-lexed k (is_infix f) (items table d f) rest l h n) tt
  ranges-behind f (formula_and g gs) d k rest l h n more = lexed-append (range_items k (is_infix f) (items table d f)) (sign COMMA ∷ ranges_items table d (suc k) (formula_and g gs)) rest (range-lexed k (is_infix f) (items table d f) (44 ∷ (text_of (ranges_items table d (suc k) (formula_and g gs)) ++ rest)) l h refl) (lone-lead COMMA (ranges_items table d (suc k) (formula_and g gs)) rest refl more)

  comprehension-lexed : (rs xs : List Item) (b : Bool) (rest : List ℕ) → Fine rs → Good xs → Lexed (comprehension_items rs b xs) rest
  comprehension-lexed rs xs b rest h k =
      let inner = rs ++ blank ∷ sign BAR ∷ blank ∷ enclosed_if b xs in
      lone-lead OPEN_BRACE (inner ++ sign CLOSE_BRACE ∷ []) rest refl
      (lexed-append inner (sign CLOSE_BRACE ∷ []) rest
      (lexed-append rs (blank ∷ sign BAR ∷ blank ∷ enclosed_if b xs) (125 ∷ rest) (h (32 ∷ (text_of (sign BAR ∷ blank ∷ enclosed_if b xs) ++ (125 ∷ rest))) refl)
      (op-lead (Sign BAR) (enclosed_if b xs) (125 ∷ rest) refl (fine (enclosed_if b xs) (part-good b xs k) (125 ∷ rest) refl)))
      (lone-lead CLOSE_BRACE [] rest refl tt))

  lambda-lexed : (rs xs ys : List Item) (b c : Bool) (rest : List ℕ) → Fine rs → Good xs → Good ys → Lexed (lambda_items rs b c xs ys) rest
  lambda-lexed rs xs ys b c rest h k m =
      let inner = enclosed_if b xs ++ blank ∷ sign BAR ∷ blank ∷ enclosed_if c ys in
      lone-lead LAMBDA (enclosed rs ++ sign DOT ∷ enclosed inner) rest refl
      (lexed-append (enclosed rs) (sign DOT ∷ enclosed inner) rest (enclosed-lexed rs h (text_of (sign DOT ∷ enclosed inner) ++ rest))
      (sign-lead opens DOT (enclosed inner) rest refl refl
      (enclosed-lexed inner (λ r n. (join-good (enclosed_if b xs) (blank ∷ sign BAR ∷ blank ∷ enclosed_if c ys) r (part-good b xs k) refl (op-lead (Sign BAR) (enclosed_if c ys) r refl (fine (enclosed_if c ys) (part-good c ys m) r n))).0) rest)))

  domain-good : (n : Domain) → DomainIsNamed table n → Good (domain_items table n)
  domain-good WholeNumbers h rest n = constant-good Integer rest n
  domain-good NaturalNumbers h rest n = constant-good Natural rest n
  domain-good PositiveNumbers h rest n = constant-good Natural1 rest n
  domain-good Booleans h rest n = constant-good BoolWord rest n
  domain-good (Enum k) h rest n = name-good (name_of_set table k) h rest n

  mutual
    pub formula-good : (f : Formula) (d : ℕ) → IsReadable table d f → Good (items table d f)
    formula-good (variable k) d h rest n = name-good (name_of_variable table k) h rest n
    formula-good (bound i) d h rest n = one-good (BoundName (d - i)) (kind_text (BoundName (d - i))) tt (λ r b. bound-ends (d - i) r (omega arith) b) rest n
    formula-good (literal z) d h rest n = literal-good z h rest n
    formula-good (truth_value b) d h rest n = constant-good (truth_word b) rest n
    formula-good (element s i) d h rest n = name-good (name_of_element table s i) h rest n
    formula-good (empty_set t) d h rest n =
        let xs = type_items table t in
        let g = type-good t h (125 ∷ rest) refl in (
          lone-lead OPEN_BRACE (sign MEMBER ∷ (xs ++ sign CLOSE_BRACE ∷ [])) rest refl
              (sign-lead begins_term MEMBER (xs ++ sign CLOSE_BRACE ∷ []) rest refl (subst (Next begins_term) (sym (text-append xs (sign CLOSE_BRACE ∷ []) rest)) g.1)
              (lexed-append xs (sign CLOSE_BRACE ∷ []) rest g.0 (lone-lead CLOSE_BRACE [] rest refl tt))),
          refl,
        )
    formula-good (named k) d h rest n = domain-good k h rest n
    formula-good btrue d h rest n = constant-good Btrue rest n
    formula-good bfalse d h rest n = constant-good Bfalse rest n
    formula-good (unary o a) d h rest n = unary-good (unary_form o) (is_bare a) (items table d a) (formula-good a d h) rest n
    formula-good (binary o a b) d h rest n = binary-good (binary_form o) (record { bare = is_bare a; left = is_infix a; right = is_infix b }) (items table d a) (items table d b) (formula-good a d h.0) (formula-good b d h.1) rest n
    formula-good (for_all ts p) d h rest n = (quantified-lexed FOR_ALL d ts (items table (d + length ts) p) rest refl h.0 h.1 (fine (items table (d + length ts) p) (formula-good p (d + length ts) h.2)), refl)
    formula-good (for_some ts p) d h rest n = (quantified-lexed EXISTS d ts (items table (d + length ts) p) rest refl h.0 h.1 (fine (items table (d + length ts) p) (formula-good p (d + length ts) h.2)), refl)
    formula-good (comprehension rs p) d h rest n = (comprehension-lexed (ranges_items table d (suc d) rs) (items table (d + count rs) p) (is_infix p) rest (λ r m. ranges-good rs d (suc d) h.0 (omega (arith, h.1)) r m) (formula-good p (d + count rs) h.2), refl)
    formula-good (lambda rs p e) d h rest n = (lambda-lexed (ranges_items table d (suc d) rs) (items table (d + count rs) p) (items table (d + count rs) e) (is_infix p) (is_infix e) rest (λ r m. ranges-good rs d (suc d) h.0 (omega (arith, h.1)) r m) (formula-good p (d + count rs) h.2) (formula-good e (d + count rs) h.3), refl)

    ranges-good : (fs : Formulas) (d k : ℕ) → AreReadable table d fs → k + count fs ≤ 2 ^ 32 → (rest : List ℕ) → Next follows rest → Lexed (ranges_items table d k fs) rest
    ranges-good no_formulas d k h l rest n = tt
    ranges-good (formula_and f fs) d k h l rest n = ranges-behind f fs d k rest (omega arith) (formula-good f d h.0) n (ranges-good fs d (suc k) h.1 (omega arith) rest n)

-- ---- the whole text
pub utf8-of : (xs : List Item) (rest : List ℕ) → Lexed xs rest → IsUtf8 (text_of xs)
utf8-of [] rest h = IsUtf8-nil
utf8-of (blank ∷ xs) rest h = IsUtf8-append (32 ∷ []) (text_of xs) (ascii-utf8 (32 ∷ []) refl) (utf8-of xs rest h)
utf8-of (lexeme kind w ∷ xs) rest h = IsUtf8-append w (text_of xs) h.0.2 (utf8-of xs rest h.1)
