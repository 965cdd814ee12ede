-- A line that is a call is a text in UTF-8.
use Rattle.std.proofs.Common.{◌≡◌, ℕ, zero, suc, ◌<◌, inl, inr, refl, sym, subst, arith, Bool, true, false, List, [], ◌∷◌, ◌++◌}
use Rattle.std.specs.Prelude.{ℤ, codes, nat_lt}
use Rattle.std.specs.List.{list_all}
use Rattle.std.specs.Char.{IsScalar}
use Rattle.std.specs.Str.{IsUtf8}
use Rattle.std.proofs.lemmas.Bool.{and_parts, ltb-true}
use Rattle.std.proofs.lemmas.Bool.Decides.{nat_tests}
use Rattle.std.proofs.lemmas.Str.{IsUtf8-nil, IsUtf8-append, IsUtf8-encode, encode_ascii}
use Rattle.bk_lex.specs.Lexis.{is_digit, is_numeral}
use Rattle.bk_calls.specs.CallLine.{spaces, Argument, Number, Truth, Element, IsNumber, IsWritten, IsArgument, AreArguments, IsArgumentList}
use Rattle.bk_calls.specs.Laws.{CallsAreUtf8}

low_scalar : (b : ℕ) → b < 128 → IsScalar b
low_scalar b low = grind (arith, nat_tests)

byte_is : (b : ℕ) → b < 128 → IsUtf8 (b ∷ [])
byte_is b low = subst IsUtf8 (encode_ascii b low) (IsUtf8-encode b (low_scalar b low))

text_is : (p : ℕ → Bool) → ((b : ℕ) → p b ≡ true → b < 128) → (text : List ℕ) → list_all p text ≡ true → IsUtf8 text
text_is p low [] h = IsUtf8-nil
text_is p low (b ∷ bs) h =
    let parts = and_parts (p b) (list_all p bs) h in
    IsUtf8-append (b ∷ []) bs (byte_is b (low b parts.0)) (text_is p low bs parts.1)

abbrev is_low : ℕ → Bool
is_low b = nat_lt b 128

low_is : (b : ℕ) → is_low b ≡ true → b < 128
low_is b h = ltb-true b 128 h

spaces_are : (n : ℕ) → IsUtf8 (spaces n)
spaces_are zero = IsUtf8-nil
spaces_are (suc n) = IsUtf8-append (32 ∷ []) (spaces n) (byte_is 32 (omega arith)) (spaces_are n)

digit_low : (b : ℕ) → is_digit b ≡ true → b < 128
digit_low b h = grind (arith, nat_tests)

numeral_is : (text : List ℕ) → is_numeral text ≡ true → IsUtf8 text
numeral_is [] h = absurd cc
numeral_is (b ∷ bs) h = text_is is_digit digit_low (b ∷ bs) h

number_is : (text : List ℕ) (n : ℤ) → IsNumber text n → IsUtf8 text
number_is text n (inl h) = numeral_is text h.0
number_is text n (inr h) = subst IsUtf8 (sym h.1) (IsUtf8-append (45 ∷ []) h.0 (byte_is 45 (omega arith)) (numeral_is h.0 h.2))

written_is : (a : Argument) (text : List ℕ) → IsWritten a text → IsUtf8 text
written_is (Number n) text h = number_is text n h
written_is (Truth true) text h = subst IsUtf8 (sym h) (text_is is_low low_is (codes "TRUE") refl)
written_is (Truth false) text h = subst IsUtf8 (sym h) (text_is is_low low_is (codes "FALSE") refl)
written_is (Element name) text h = h.0.utf8

argument_is : (a : Argument) (text : List ℕ) → IsArgument a text → IsUtf8 text
argument_is a text h =
    subst IsUtf8 (sym h.splits) (IsUtf8-append (spaces h.before ++ h.written) (spaces h.behind) (IsUtf8-append (spaces h.before) h.written (spaces_are h.before) (written_is a h.written h.spelling)) (spaces_are h.behind))

arguments_are : (arguments : List Argument) (text : List ℕ) → AreArguments arguments text → IsUtf8 text
arguments_are [] text h = subst IsUtf8 (sym h.1) (spaces_are h.0)
arguments_are (a ∷ []) text h = argument_is a text h
arguments_are (a ∷ b ∷ others) text h =
    subst IsUtf8 (sym h.2) (IsUtf8-append (h.0 ++ codes ",") h.1 (IsUtf8-append h.0 (codes ",") (argument_is a h.0 h.3) (byte_is 44 (omega arith))) (arguments_are (b ∷ others) h.1 h.4))

list_is : (arguments : List Argument) (list : List ℕ) → IsArgumentList arguments list → IsUtf8 list
list_is arguments list (inl h) = subst IsUtf8 (sym h.1) IsUtf8-nil
list_is arguments list (inr h) =
    let opened : IsUtf8 (codes "(" ++ h.0) = IsUtf8-append (codes "(") h.0 (byte_is 40 (omega arith)) (arguments_are arguments h.0 h.3) in
    let closed : IsUtf8 ((codes "(" ++ h.0) ++ codes ")") = IsUtf8-append (codes "(" ++ h.0) (codes ")") opened (byte_is 41 (omega arith)) in
    subst IsUtf8 (sym h.2) (IsUtf8-append ((codes "(" ++ h.0) ++ codes ")") (spaces h.1) closed (spaces_are h.1))

pub calls_are_utf8 : CallsAreUtf8
calls_are_utf8 line name arguments h =
    let named : IsUtf8 (spaces h.before ++ name) = IsUtf8-append (spaces h.before) name (spaces_are h.before) (h.named.utf8) in
    let spaced : IsUtf8 ((spaces h.before ++ name) ++ spaces h.behind) = IsUtf8-append (spaces h.before ++ name) (spaces h.behind) named (spaces_are h.behind) in
    subst IsUtf8 (sym h.written) (IsUtf8-append ((spaces h.before ++ name) ++ spaces h.behind) h.list spaced (list_is arguments h.list h.given))
