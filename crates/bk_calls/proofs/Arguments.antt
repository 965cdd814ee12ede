-- Names, numbers and arguments: what is read is what is written.
use Rattle.std.proofs.Common.{◌≡◌, ℕ, inl, inr, refl, sym, ◌∙◌, ap, subst, arith, Bool, true, false, cond, eqb, List, [], ◌∷◌, ◌++◌, Option, Some, None}
use Rattle.std.specs.Prelude.{◌≢◌, ◌&&◌, ◌⊎◌, ℤ, pos, neg_ℤ, All, codes}
use Rattle.std.specs.List.{list_all}
use Rattle.std.specs.Option.{option_map}
use Rattle.std.specs.Str.{bytes_eq, is_utf8, chars, IsUtf8}
use Rattle.std.proofs.lemmas.Bool.{cases_Bool, cond-true, cond-false, and_parts, and_from, and_left, false_from_ne_true, eqb-true}
use Rattle.std.proofs.lemmas.Bool.Decides.{nat_tests}
use Rattle.std.proofs.lemmas.List.{append-nil, append_assoc}
use Rattle.std.proofs.lemmas.List.Elements.{All-nil, All-cons}
use Rattle.std.proofs.lemmas.Slice.Eq.{bytes_eq-Decides}
use Rattle.std.proofs.lemmas.Str.{IsUtf8-from_is_utf8, is_utf8-from_IsUtf8, encodes-chars, encodes_same}
use Rattle.bk_lex.specs.Lexis.{is_identifier, is_digit, is_numeral, numeral_from, word_number}
use Rattle.bk_lex.specs.Parts.{begins}
use Rattle.bk_lex.proofs.Characters.{starts, goes, identifier_goes, identifier_starts}
use Rattle.bk_calls.specs.CallLine.{spaces, IsName, Argument, Number, Truth, Element, IsNumber, IsWritten, IsArgument}
use Rattle.bk_calls.specs.Reading.{skip_spaces, is_plain, front, behind, is_spaces, is_none, is_name, digits_number, whole_number, word_argument, number_or, argument_of, argument_in}
use Rattle.bk_calls.proofs.Words.{Plain, plain_true, skip_is, front_behind, spaces_is, spaces_from, spaces_stop, word_in}

-- ---- names
none_is : (o : Option ℕ) → is_none o ≡ true → o ≡ None
none_is None h = refl
none_is (Some n) h = absurd cc

pub name_is : (text : List ℕ) → is_name text ≡ true → IsName text
name_is text h =
    let one = and_parts (is_utf8 text) (is_identifier (chars text) && is_none (word_number text)) h in
    let two = and_parts (is_identifier (chars text)) (is_none (word_number text)) one.1 in
    let utf8 : IsUtf8 text = IsUtf8-from_is_utf8 text one.0 in
    record { utf8 = utf8; identifier = (chars text, sym (encodes-chars text utf8), two.0); no_word = none_is (word_number text) two.1 }

pub name_from : (text : List ℕ) → IsName text → is_name text ≡ true
name_from text h =
    let word = h.identifier in
    let same : chars text ≡ word.0 = encodes_same (chars text) word.0 (encodes-chars text h.utf8 ∙ word.1) in
    and_from (is_utf8 text) (is_identifier (chars text) && is_none (word_number text)) (is_utf8-from_IsUtf8 text h.utf8)
    (and_from (is_identifier (chars text)) (is_none (word_number text)) (ap is_identifier same ∙ word.2) (ap is_none h.no_word))

-- what is read of a text that is UTF-8 or is not
pub name_where : (text : List ℕ) → IsUtf8 text → is_name text ≡ (is_identifier (chars text) && is_none (word_number text))
name_where text h = ap (λ b. b && (is_identifier (chars text) && is_none (word_number text))) (is_utf8-from_IsUtf8 text h)

pub name_nowhere : (text : List ℕ) → (IsUtf8 text → ⊥) → is_name text ≡ false
name_nowhere text h =
    and_left (is_utf8 text) (is_identifier (chars text) && is_none (word_number text)) (false_from_ne_true (is_utf8 text) (λ yes. h (IsUtf8-from_is_utf8 text yes)))

-- ---- plain bytes
goes_plain : (b : ℕ) → goes b ≡ true → is_plain b ≡ true
goes_plain b h = grind (arith, nat_tests)

digit_plain : (b : ℕ) → is_digit b ≡ true → is_plain b ≡ true
digit_plain b h = grind (arith, nat_tests)

all_plain : (p : ℕ → Bool) → ((b : ℕ) → p b ≡ true → is_plain b ≡ true) → (text : List ℕ) → list_all p text ≡ true → All Plain text
all_plain p plain [] h = All-nil Plain
all_plain p plain (b ∷ bs) h =
    let parts = and_parts (p b) (list_all p bs) h in
    All-cons Plain b bs (plain_true b (plain b parts.0)) (all_plain p plain bs parts.1)

name_plain : (text : List ℕ) → IsName text → All Plain text
name_plain text h = all_plain goes goes_plain text (identifier_goes text h.identifier)

name_begins : (text : List ℕ) → IsName text → begins starts text ≡ true
name_begins text h = subst (λ t. begins starts t ≡ true) (append-nil text) (identifier_starts text [] h.identifier)

begun_some : (text : List ℕ) → begins starts text ≡ true → text ≢ []
begun_some [] h e = absurd cc
begun_some (b ∷ bs) h e = absurd cc

pub name_some : (text : List ℕ) → IsName text → text ≢ []
name_some text h = begun_some text (name_begins text h)

pub name_is_plain : (text : List ℕ) → IsName text → All Plain text
name_is_plain = name_plain

numeral_plain : (text : List ℕ) → is_numeral text ≡ true → All Plain text
numeral_plain [] h = absurd cc
numeral_plain (b ∷ bs) h = all_plain is_digit digit_plain (b ∷ bs) h

numeral_some : (text : List ℕ) → is_numeral text ≡ true → text ≢ []
numeral_some [] h e = absurd cc
numeral_some (b ∷ bs) h e = absurd cc

-- ---- numbers
digits_is : (text : List ℕ) (n : ℤ) → digits_number text ≡ Some n → (is_numeral text ≡ true) × (n ≡ pos (numeral_from 0 text))
digits_is text n h =
    elim (cases_Bool (is_numeral text)) [
      | inl holds ↦ (let e : Some (pos (numeral_from 0 text)) ≡ Some n = sym (cond-true (is_numeral text) (Some (pos (numeral_from 0 text))) None holds) ∙ h in (holds, cc))
      | inr fails ↦ (let e : None ≡ Some n = sym (cond-false (is_numeral text) (Some (pos (numeral_from 0 text))) None fails) ∙ h in absurd cc)
    ]

digits_from : (text : List ℕ) → is_numeral text ≡ true → digits_number text ≡ Some (pos (numeral_from 0 text))
digits_from text h = cond-true (is_numeral text) (Some (pos (numeral_from 0 text))) None h

mapped_is : (o : Option ℤ) (n : ℤ) → option_map neg_ℤ o ≡ Some n → (m : ℤ) × (o ≡ Some m) × (n ≡ neg_ℤ m)
mapped_is None n h = absurd cc
mapped_is (Some m) n h = (m, refl, cc)

whole_is : (text : List ℕ) (n : ℤ) → whole_number text ≡ Some n → IsNumber text n
whole_is [] n h = absurd cc
whole_is (b ∷ bs) n h =
    elim (cases_Bool (eqb b 45)) [
      | inl holds ↦ (
          let read = mapped_is (digits_number bs) n (sym (cond-true (eqb b 45) (option_map neg_ℤ (digits_number bs)) (digits_number (b ∷ bs)) holds) ∙ h) in
          let digits = digits_is bs read.0 read.1 in
          inr (bs, ap (λ c. c ∷ bs) (eqb-true b 45 holds), digits.0, read.2 ∙ ap neg_ℤ digits.1))
      | inr fails ↦ inl (digits_is (b ∷ bs) n (sym (cond-false (eqb b 45) (option_map neg_ℤ (digits_number bs)) (digits_number (b ∷ bs)) fails) ∙ h))
    ]

digit_no_minus : (b : ℕ) → is_digit b ≡ true → eqb b 45 ≡ false
digit_no_minus b h = grind (arith, nat_tests)

plus_from : (text : List ℕ) → is_numeral text ≡ true → whole_number text ≡ Some (pos (numeral_from 0 text))
plus_from [] h = absurd cc
plus_from (b ∷ bs) h =
    cond-false (eqb b 45) (option_map neg_ℤ (digits_number bs)) (digits_number (b ∷ bs)) (digit_no_minus b (and_parts (is_digit b) (list_all is_digit bs) h).0)
    ∙ digits_from (b ∷ bs) h

minus_from : (digits : List ℕ) → is_numeral digits ≡ true → whole_number (45 ∷ digits) ≡ Some (neg_ℤ (pos (numeral_from 0 digits)))
minus_from digits h = ap (option_map neg_ℤ) (digits_from digits h)

whole_from : (text : List ℕ) (n : ℤ) → IsNumber text n → whole_number text ≡ Some n
whole_from text n (inl h) = plus_from text h.0 ∙ ap (λ m. Some m) (sym h.1)
whole_from text n (inr h) = ap whole_number h.1 ∙ minus_from h.0 h.2 ∙ ap (λ m. Some m) (sym h.3)

-- a name is no number
start_no_digit : (b : ℕ) → starts b ≡ true → is_digit b ≡ false
start_no_digit b h = grind (arith, nat_tests)

start_no_minus : (b : ℕ) → starts b ≡ true → eqb b 45 ≡ false
start_no_minus b h = grind (arith, nat_tests)

begun_no_number : (text : List ℕ) → begins starts text ≡ true → whole_number text ≡ None
begun_no_number [] h = absurd cc
begun_no_number (b ∷ bs) h =
    cond-false (eqb b 45) (option_map neg_ℤ (digits_number bs)) (digits_number (b ∷ bs)) (start_no_minus b h)
    ∙ cond-false (is_numeral (b ∷ bs)) (Some (pos (numeral_from 0 (b ∷ bs)))) None (and_left (is_digit b) (list_all is_digit bs) (start_no_digit b h))

-- ---- what is written as an argument
number_or_is : (o : Option ℤ) (p : Option Argument) (a : Argument) → number_or o p ≡ Some a → ((n : ℤ) × (o ≡ Some n) × (Number n ≡ a)) ⊎ ((o ≡ None) × (p ≡ Some a))
number_or_is None p a h = inr (refl, h)
number_or_is (Some n) p a h = inl (n, refl, cc)

cond_is : (b : Bool) (x a : Argument) (o : Option Argument) → cond b (Some x) o ≡ Some a → ((b ≡ true) × (x ≡ a)) ⊎ ((b ≡ false) × (o ≡ Some a))
cond_is true x a o h = inl (refl, cc)
cond_is false x a o h = inr (refl, h)

bytes_same : (xs ys : List ℕ) → bytes_eq xs ys ≡ true → xs ≡ ys
bytes_same xs ys h = (bytes_eq-Decides xs ys).0 h

named_is : (text : List ℕ) (a : Argument) → cond (is_name text) (Some (Element text)) None ≡ Some a → IsWritten a text
named_is text a h =
    elim (cond_is (is_name text) (Element text) a None h) [
      | inl here ↦ subst (λ x. IsWritten x text) here.1 (name_is text here.0, refl)
      | inr none ↦ (let e = none.1 in absurd cc)
    ]

word_is : (text : List ℕ) (a : Argument) → word_argument text ≡ Some a → IsWritten a text
word_is text a h =
    elim (cond_is (bytes_eq text (codes "TRUE")) (Truth true) a (cond (bytes_eq text (codes "FALSE")) (Some (Truth false)) (cond (is_name text) (Some (Element text)) None)) h) [
      | inl here ↦ subst (λ x. IsWritten x text) here.1 (bytes_same text (codes "TRUE") here.0)
      | inr more ↦ elim (cond_is (bytes_eq text (codes "FALSE")) (Truth false) a (cond (is_name text) (Some (Element text)) None) more.1) [
        | inl here ↦ subst (λ x. IsWritten x text) here.1 (bytes_same text (codes "FALSE") here.0)
        | inr last ↦ named_is text a last.1
      ]
    ]

pub argument_is : (text : List ℕ) (a : Argument) → argument_of text ≡ Some a → IsWritten a text
argument_is text a h =
    elim (number_or_is (whole_number text) (word_argument text) a h) [
      | inl number ↦ subst (λ x. IsWritten x text) number.2 (whole_is text number.0 number.1)
      | inr word ↦ word_is text a word.1
    ]

word_differs : (word text : List ℕ) → IsName text → (word_number word ≡ None → ⊥) → bytes_eq text word ≡ false
word_differs word text h word_number_is = false_from_ne_true (bytes_eq text word) (λ yes. word_number_is (ap word_number (sym (bytes_same text word yes)) ∙ h.no_word))

true_word : word_number (codes "TRUE") ≡ None → ⊥
true_word h = absurd cc

false_word : word_number (codes "FALSE") ≡ None → ⊥
false_word h = absurd cc

name_word : (text : List ℕ) → IsName text → word_argument text ≡ Some (Element text)
name_word text h =
    cond-false (bytes_eq text (codes "TRUE")) (Some (Truth true)) (cond (bytes_eq text (codes "FALSE")) (Some (Truth false)) (cond (is_name text) (Some (Element text)) None)) (word_differs (codes "TRUE") text h true_word)
    ∙ cond-false (bytes_eq text (codes "FALSE")) (Some (Truth false)) (cond (is_name text) (Some (Element text)) None) (word_differs (codes "FALSE") text h false_word)
    ∙ cond-true (is_name text) (Some (Element text)) None (name_from text h)

pub argument_from : (a : Argument) (text : List ℕ) → IsWritten a text → argument_of text ≡ Some a
argument_from (Number n) text h = ap (λ o. number_or o (word_argument text)) (whole_from text n h)
argument_from (Truth true) text h = ap argument_of h
argument_from (Truth false) text h = ap argument_of h
argument_from (Element name) text h =
    ap (λ o. number_or o (word_argument text)) (begun_no_number text (name_begins text h.0)) ∙ name_word text h.0 ∙ ap (λ t. Some (Element t)) (sym h.1)

number_plain : (text : List ℕ) (n : ℤ) → IsNumber text n → All Plain text
number_plain text n (inl h) = numeral_plain text h.0
number_plain text n (inr h) = subst (All Plain) (sym h.1) (All-cons Plain 45 h.0 (plain_true 45 refl) (numeral_plain h.0 h.2))

number_some : (text : List ℕ) (n : ℤ) → IsNumber text n → text ≢ []
number_some text n (inl h) e = numeral_some text h.0 e
number_some text n (inr h) e = (let f : 45 ∷ h.0 ≡ [] = sym h.1 ∙ e in absurd cc)

pub written_plain : (a : Argument) (text : List ℕ) → IsWritten a text → All Plain text
written_plain (Number n) text h = number_plain text n h
written_plain (Truth true) text h = subst (All Plain) (sym h) (all_plain is_plain (λ b yes. yes) (codes "TRUE") refl)
written_plain (Truth false) text h = subst (All Plain) (sym h) (all_plain is_plain (λ b yes. yes) (codes "FALSE") refl)
written_plain (Element name) text h = name_plain text h.0

pub written_some : (a : Argument) (text : List ℕ) → IsWritten a text → text ≢ []
written_some (Number n) text h = number_some text n h
written_some (Truth true) text h = λ e. let f : codes "TRUE" ≡ [] = sym h ∙ e in absurd cc
written_some (Truth false) text h = λ e. let f : codes "FALSE" ≡ [] = sym h ∙ e in absurd cc
written_some (Element name) text h = name_some text h.0

-- ---- with spaces around it
given_if : (b : Bool) (o : Option Argument) (a : Argument) → cond b o None ≡ Some a → (b ≡ true) × (o ≡ Some a)
given_if true o a h = (refl, h)
given_if false o a h = absurd cc

pub argument_in_is : (text : List ℕ) (a : Argument) → argument_in text ≡ Some a → IsArgument a text
argument_in_is text a h =
    let rest = skip_spaces text in
    let read = given_if (is_spaces (behind rest)) (argument_of (front rest)) a h in
    let left = skip_is text in
    let right = spaces_is (behind rest) read.0 in
    record {
      before = left.0;
      written = front rest;
      behind = right.0;
      spelling = argument_is (front rest) a read.1;
      splits = left.1 ∙ ap (λ t. spaces left.0 ++ t) (front_behind rest ∙ ap (λ t. front rest ++ t) right.1) ∙ sym (append_assoc (spaces left.0) (front rest) (spaces right.0));
    }

pub argument_in_from : (text : List ℕ) (a : Argument) → IsArgument a text → argument_in text ≡ Some a
argument_in_from text a h =
    let whole : text ≡ spaces h.before ++ (h.written ++ spaces h.behind) = h.splits ∙ append_assoc (spaces h.before) h.written (spaces h.behind) in
    let parts = word_in h.before h.written (spaces h.behind) (written_plain a h.written h.spelling) (written_some a h.written h.spelling) (spaces_stop h.behind) in
    let first : front (skip_spaces text) ≡ h.written = ap (λ t. front (skip_spaces t)) whole ∙ parts.0 in
    let last : behind (skip_spaces text) ≡ spaces h.behind = ap (λ t. behind (skip_spaces t)) whole ∙ parts.1 in
    cond-true (is_spaces (behind (skip_spaces text))) (argument_of (front (skip_spaces text))) None (ap is_spaces last ∙ spaces_from h.behind)
    ∙ ap argument_of first ∙ argument_from a h.written h.spelling
