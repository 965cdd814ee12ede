-- A line that is read as a call is written as that call, and the other way round.
use Rattle.std.proofs.Common.{◌≡◌, ℕ, zero, suc, inl, inr, refl, sym, ◌∙◌, ap, subst, arith, Bool, true, false, cond, List, [], ◌∷◌, ◌++◌, Option, Some, None}
use Rattle.std.specs.Prelude.{◌≢◌, ◌&&◌, ◌==◌, All, codes, option_and_then}
use Rattle.std.specs.List.{slice_split, onto_first, join_with_byte}
use Rattle.std.specs.Option.{option_map}
use Rattle.std.proofs.lemmas.Bool.{cases_Bool, cond-true, cond-false, and_parts, eqb-true, ne_eqb}
use Rattle.std.proofs.lemmas.List.{append-nil, append_assoc}
use Rattle.std.proofs.lemmas.List.Elements.{All-cons, All-weaker, All-append, All-replicate}
use Rattle.std.proofs.lemmas.List.Splits.{slice_split_none, slice_split_at, join_with_byte-slice_split}
use Rattle.bk_calls.specs.CallLine.{spaces, IsName, Argument, IsArgument, AreArguments, IsArgumentList, IsCallLine}
use Rattle.bk_calls.specs.Reading.{skip_spaces, front, behind, is_empty, is_spaces, is_name, before_byte, after_byte, argument_in, in_front_of, arguments_in, is_comma, pieces, closing, inside_of, named_with, call_parts, with_arguments, call_of}
use Rattle.bk_calls.proofs.Words.{Plain, Stops, skip_is, skip_over, front_behind, cut_at, cut_over, spaces_is, spaces_from, skip_word, word_in}
use Rattle.bk_calls.proofs.Arguments.{name_is, name_from, name_is_plain, name_some, written_plain, written_some, argument_in_is, argument_in_from}

-- ---- lists of what may be missing
pub in_front_is : {X : Type 0} (o : Option X) (os : Option (List X)) (xs : List X) → in_front_of o os ≡ Some xs → (y : X) × (ys : List X) × (o ≡ Some y) × (os ≡ Some ys) × (xs ≡ y ∷ ys)
in_front_is None os xs h = absurd cc
in_front_is (Some y) None xs h = absurd cc
in_front_is (Some y) (Some ys) xs h = (y, ys, refl, refl, cc)

-- ---- what is read as arguments
abbrev parts_text : List (List ℕ) → List ℕ
parts_text parts = join_with_byte 44 parts

arguments_are : (part : List ℕ) (parts : List (List ℕ)) (arguments : List Argument) → arguments_in (part ∷ parts) ≡ Some arguments → AreArguments arguments (parts_text (part ∷ parts))
arguments_are part [] arguments h =
    let read = in_front_is (argument_in part) (Some []) arguments h in
    let none : read.1 ≡ [] = (let e : Some [] ≡ Some read.1 = read.3 in cc) in
    let one : arguments ≡ read.0 ∷ [] = read.4 ∙ ap (λ t. read.0 ∷ t) none in
    subst (λ t. AreArguments t part) (sym one) (argument_in_is part read.0 read.2)
arguments_are part (next ∷ parts) arguments h =
    let read = in_front_is (argument_in part) (arguments_in (next ∷ parts)) arguments h in
    let more = in_front_is (argument_in next) (arguments_in parts) read.1 read.3 in
    let others : AreArguments read.1 (parts_text (next ∷ parts)) = arguments_are next parts read.1 read.3 in
    let two : AreArguments (more.0 ∷ more.1) (parts_text (next ∷ parts)) = subst (λ t. AreArguments t (parts_text (next ∷ parts))) more.4 others in
    let whole : AreArguments (read.0 ∷ more.0 ∷ more.1) (parts_text (part ∷ next ∷ parts)) =
    (part, parts_text (next ∷ parts), sym (append_assoc part (codes ",") (parts_text (next ∷ parts))), argument_in_is part read.0 read.2, two) in
    subst (λ t. AreArguments t (parts_text (part ∷ next ∷ parts))) (sym (read.4 ∙ ap (λ t. read.0 ∷ t) more.4)) whole

-- a text has a first piece
onto_some : (x : ℕ) (parts : List (List ℕ)) → (y : List ℕ) × (ys : List (List ℕ)) × (onto_first x parts ≡ y ∷ ys)
onto_some x [] = (x ∷ [], [], refl)
onto_some x (part ∷ parts) = (x ∷ part, parts, refl)

some_of : (b : Bool) (p q : List (List ℕ)) → ((y : List ℕ) × (ys : List (List ℕ)) × (p ≡ y ∷ ys)) → ((y : List ℕ) × (ys : List (List ℕ)) × (q ≡ y ∷ ys)) →
    (y : List ℕ) × (ys : List (List ℕ)) × (cond b p q ≡ y ∷ ys)
some_of true p q h k = h
some_of false p q h k = k

pub pieces_some : (text : List ℕ) → (y : List ℕ) × (ys : List (List ℕ)) × (slice_split is_comma text ≡ y ∷ ys)
pieces_some [] = ([], [], refl)
pieces_some (b ∷ bs) = some_of (is_comma b) ([] ∷ slice_split is_comma bs) (onto_first b (slice_split is_comma bs)) ([], slice_split is_comma bs, refl) (onto_some b (slice_split is_comma bs))

pub inside_are : (inside : List ℕ) (arguments : List Argument) → arguments_in (pieces inside) ≡ Some arguments → AreArguments arguments inside
inside_are inside arguments h =
    elim (cases_Bool (is_spaces inside)) [
      | inl holds ↦ (
          let e : Some [] ≡ Some arguments = sym (ap arguments_in (cond-true (is_spaces inside) [] (slice_split is_comma inside) holds)) ∙ h in
          let none : [] ≡ arguments = cc in
          subst (λ t. AreArguments t inside) none (spaces_is inside holds))
      | inr fails ↦ (
          let parts = pieces_some inside in
          let e : arguments_in (parts.0 ∷ parts.1) ≡ Some arguments = sym (ap arguments_in (cond-false (is_spaces inside) [] (slice_split is_comma inside) fails ∙ parts.2)) ∙ h in
          let text : parts_text (parts.0 ∷ parts.1) ≡ inside = sym (ap parts_text parts.2) ∙ join_with_byte-slice_split 44 inside in
          subst (λ t. AreArguments arguments t) text (arguments_are parts.0 parts.1 arguments e))
    ]

-- ---- what is written as arguments
lacks_comma : (b : ℕ) → b ≢ 44 → is_comma b ≡ false
lacks_comma b h = ne_eqb b 44 h

argument_lacks : (c : ℕ) (text : List ℕ) (argument : Argument) → 32 ≢ c → ((b : ℕ) → Plain b → b ≢ c) → IsArgument argument text → All (λ b. b ≢ c) text
argument_lacks c text argument space plain h =
    let word : All (λ b. b ≢ c) h.written = All-weaker Plain (λ b. b ≢ c) plain h.written (written_plain argument h.written h.spelling) in
    let before : All (λ b. b ≢ c) (spaces h.before) = All-replicate (λ b. b ≢ c) h.before 32 space in
    let after : All (λ b. b ≢ c) (spaces h.behind) = All-replicate (λ b. b ≢ c) h.behind 32 space in
    subst (All (λ b. b ≢ c)) (sym h.splits) (All-append (λ b. b ≢ c) (spaces h.before ++ h.written) (spaces h.behind) (All-append (λ b. b ≢ c) (spaces h.before) h.written before word) after)

no_comma : (text : List ℕ) (argument : Argument) → IsArgument argument text → All (λ b. is_comma b ≡ false) text
no_comma text argument h = All-weaker (λ b. b ≢ 44) (λ b. is_comma b ≡ false) lacks_comma text (argument_lacks 44 text argument (λ e. absurd (omega arith)) (λ b p. p.3) h)

one_argument : (text : List ℕ) (argument : Argument) → IsArgument argument text → arguments_in (slice_split is_comma text) ≡ Some (argument ∷ [])
one_argument text argument h =
    ap arguments_in (slice_split_none is_comma text (no_comma text argument h)) ∙ ap (λ o. in_front_of o (Some [])) (argument_in_from text argument h)

split_arguments : (argument : Argument) (arguments : List Argument) (text : List ℕ) → AreArguments (argument ∷ arguments) text → arguments_in (slice_split is_comma text) ≡ Some (argument ∷ arguments)
split_arguments argument [] text h = one_argument text argument h
split_arguments argument (next ∷ others) text h =
    let whole : text ≡ h.0 ++ (44 ∷ h.1) = h.2 ∙ append_assoc h.0 (codes ",") h.1 in
    let parts : slice_split is_comma (h.0 ++ (44 ∷ h.1)) ≡ h.0 ∷ slice_split is_comma h.1 = slice_split_at is_comma h.0 44 h.1 (no_comma h.0 argument h.3) refl in
    ap (λ t. arguments_in (slice_split is_comma t)) whole ∙ ap arguments_in parts
    ∙ ap (λ o. in_front_of o (arguments_in (slice_split is_comma h.1))) (argument_in_from h.0 argument h.3)
    ∙ ap (in_front_of (Some argument)) (split_arguments next others h.1 h.4)

word_no_spaces : (n : ℕ) (word rest : List ℕ) → All Plain word → word ≢ [] → is_spaces (spaces n ++ (word ++ rest)) ≡ false
word_no_spaces n [] rest plain some = absurd (some refl)
word_no_spaces n (b ∷ bs) rest plain some = ap is_empty (skip_over n (b ∷ (bs ++ rest)) ∙ skip_word (b ∷ bs) rest plain some)

argument_no_spaces : (text rest : List ℕ) (argument : Argument) → IsArgument argument text → is_spaces (text ++ rest) ≡ false
argument_no_spaces text rest argument h =
    let whole : text ++ rest ≡ spaces h.before ++ (h.written ++ (spaces h.behind ++ rest)) =
    ap (λ t. t ++ rest) h.splits ∙ append_assoc (spaces h.before ++ h.written) (spaces h.behind) rest ∙ append_assoc (spaces h.before) h.written (spaces h.behind ++ rest) in
    ap is_spaces whole ∙ word_no_spaces h.before h.written (spaces h.behind ++ rest) (written_plain argument h.written h.spelling) (written_some argument h.written h.spelling)

arguments_no_spaces : (argument : Argument) (arguments : List Argument) (text : List ℕ) → AreArguments (argument ∷ arguments) text → is_spaces text ≡ false
arguments_no_spaces argument [] text h = ap is_spaces (sym (append-nil text)) ∙ argument_no_spaces text [] argument h
arguments_no_spaces argument (next ∷ others) text h = ap is_spaces (h.2 ∙ append_assoc h.0 (codes ",") h.1) ∙ argument_no_spaces h.0 (44 ∷ h.1) argument h.3

pub inside_from : (arguments : List Argument) (inside : List ℕ) → AreArguments arguments inside → arguments_in (pieces inside) ≡ Some arguments
inside_from [] inside h = ap arguments_in (cond-true (is_spaces inside) [] (slice_split is_comma inside) (ap is_spaces h.1 ∙ spaces_from h.0))
inside_from (argument ∷ arguments) inside h =
    ap arguments_in (cond-false (is_spaces inside) [] (slice_split is_comma inside) (arguments_no_spaces argument arguments inside h)) ∙ split_arguments argument arguments inside h

-- arguments have no parenthesis
lacks_close : (arguments : List Argument) (text : List ℕ) → AreArguments arguments text → All (λ b. b ≢ 41) text
lacks_close [] text h = subst (All (λ b. b ≢ 41)) (sym h.1) (All-replicate (λ b. b ≢ 41) h.0 32 (λ e. absurd (omega arith)))
lacks_close (argument ∷ []) text h = argument_lacks 41 text argument (λ e. absurd (omega arith)) (λ b p. p.2) h
lacks_close (argument ∷ next ∷ others) text h =
    let first = argument_lacks 41 h.0 argument (λ e. absurd (omega arith)) (λ b p. p.2) h.3 in
    let comma : All (λ b. b ≢ 41) (44 ∷ h.1) = All-cons (λ b. b ≢ 41) 44 h.1 (λ e. absurd (omega arith)) (lacks_close (next ∷ others) h.1 h.4) in
    subst (All (λ b. b ≢ 41)) (sym (h.2 ∙ append_assoc h.0 (codes ",") h.1)) (All-append (λ b. b ≢ 41) h.0 (44 ∷ h.1) first comma)

-- ---- the list behind a name
closing_is : (o : Option (List ℕ)) → closing o ≡ true → (rest : List ℕ) × (n : ℕ) × (o ≡ Some rest) × (rest ≡ spaces n)
closing_is None h = absurd cc
closing_is (Some rest) h = (let s = spaces_is rest h in (rest, s.0, refl, s.1))

some_if : (b : Bool) (x y : List ℕ) → cond b (Some x) None ≡ Some y → (b ≡ true) × (x ≡ y)
some_if true x y h = (refl, cc)
some_if false x y h = absurd cc

list_is : (list inside : List ℕ) (arguments : List Argument) → inside_of list ≡ Some inside → arguments_in (pieces inside) ≡ Some arguments → IsArgumentList arguments list
list_is [] inside arguments h k =
    let none : [] ≡ inside = cc in
    let e : Some [] ≡ Some arguments = ap (λ t. arguments_in (pieces t)) none ∙ k in
    let empty : arguments ≡ [] = cc in
    inl (empty, refl)
list_is (b ∷ bs) inside arguments h k =
    let read = some_if ((b == 40) && closing (after_byte 41 bs)) (before_byte 41 bs) inside h in
    let both = and_parts (b == 40) (closing (after_byte 41 bs)) read.0 in
    let end = closing_is (after_byte 41 bs) both.1 in
    let cut : bs ≡ inside ++ (41 ∷ spaces end.1) = cut_at 41 bs end.0 end.2 ∙ ap (λ t. before_byte 41 bs ++ (41 ∷ t)) end.3 ∙ ap (λ t. t ++ (41 ∷ spaces end.1)) read.1 in
    let whole : b ∷ bs ≡ 40 ∷ (inside ++ (41 ∷ spaces end.1)) = ap (λ c. c ∷ bs) (eqb-true b 40 both.0) ∙ ap (λ t. 40 ∷ t) cut in
    inr (inside, end.1, whole ∙ ap (λ t. 40 ∷ t) (sym (append_assoc inside (codes ")") (spaces end.1))), inside_are inside arguments k)

abbrev Given : List Argument → List ℕ → Type 0
Given arguments list = (inside : List ℕ) × (inside_of (skip_spaces list) ≡ Some inside) × (arguments_in (pieces inside) ≡ Some arguments)

list_from : (list : List ℕ) (arguments : List Argument) → IsArgumentList arguments list → Given arguments list
list_from list arguments (inl h) = ([], ap (λ t. inside_of (skip_spaces t)) h.1, ap (λ t. Some t) (sym h.0))
list_from list arguments (inr h) =
    let inside = h.0 in
    let whole : list ≡ 40 ∷ (inside ++ (41 ∷ spaces h.1)) = h.2 ∙ ap (λ t. 40 ∷ t) (append_assoc inside (codes ")") (spaces h.1)) in
    let cut = cut_over 41 inside (spaces h.1) (lacks_close arguments inside h.3) in
    let closes : closing (after_byte 41 (inside ++ (41 ∷ spaces h.1))) ≡ true = ap closing cut.1 ∙ spaces_from h.1 in
    (inside, ap (λ t. inside_of (skip_spaces t)) whole ∙ cond-true (closing (after_byte 41 (inside ++ (41 ∷ spaces h.1)))) (Some (before_byte 41 (inside ++ (41 ∷ spaces h.1)))) None closes ∙ ap (λ t. Some t) cut.0, inside_from arguments inside h.3)

list_stops : (n : ℕ) (list : List ℕ) (arguments : List Argument) → IsArgumentList arguments list → Stops (spaces n ++ list)
list_stops zero list arguments (inl h) = subst Stops (sym h.1) tt
list_stops zero list arguments (inr h) = subst Stops (sym h.2) refl
list_stops (suc n) list arguments h = refl

-- ---- lines
named_is : (name : List ℕ) (o : Option (List ℕ)) (parts : List ℕ × List ℕ) → named_with name o ≡ Some parts → (is_name name ≡ true) × (o ≡ Some parts.1) × (name ≡ parts.0)
named_is name None parts h = absurd cc
named_is name (Some inside) parts h =
    elim (cases_Bool (is_name name)) [
      | inl holds ↦ (
          let e : Some (name, inside) ≡ Some parts = sym (cond-true (is_name name) (Some (name, inside)) None holds) ∙ h in
          let same : (name, inside) ≡ parts = cc in
          (holds, ap (λ (p : List ℕ × List ℕ). Some p.1) same, ap (λ (p : List ℕ × List ℕ). p.0) same))
      | inr fails ↦ (let e : None ≡ Some parts = sym (cond-false (is_name name) (Some (name, inside)) None fails) ∙ h in absurd cc)
    ]

mapped_is : (name : List ℕ) (o : Option (List Argument)) (call : List ℕ × List Argument) → option_map (λ arguments. (name, arguments)) o ≡ Some call → (o ≡ Some call.1) × (name ≡ call.0)
mapped_is name None call h = absurd cc
mapped_is name (Some arguments) call h =
    let same : (name, arguments) ≡ call = cc in
    (ap (λ (p : List ℕ × List Argument). Some p.1) same, ap (λ (p : List ℕ × List Argument). p.0) same)

then_is : (o : Option (List ℕ × List ℕ)) (call : List ℕ × List Argument) → option_and_then with_arguments o ≡ Some call → (parts : List ℕ × List ℕ) × (o ≡ Some parts) × (arguments_in (pieces parts.1) ≡ Some call.1) × (parts.0 ≡ call.0)
then_is None call h = absurd cc
then_is (Some parts) call h = (let read = mapped_is parts.0 (arguments_in (pieces parts.1)) call h in (parts, refl, read.0, read.1))

pub call_is : (line name : List ℕ) (arguments : List Argument) → call_of line ≡ Some (name, arguments) → IsCallLine line name arguments
call_is line name arguments h =
    let text = skip_spaces line in
    let read = then_is (call_parts line) (name, arguments) h in
    let named = named_is (front text) (inside_of (skip_spaces (behind text))) read.0 read.1 in
    let same : front text ≡ name = named.2 ∙ read.3 in
    let left = skip_is line in
    let right = skip_is (behind text) in
    let list = skip_spaces (behind text) in
    let whole : line ≡ spaces left.0 ++ (name ++ (spaces right.0 ++ list)) =
    left.1 ∙ ap (λ t. spaces left.0 ++ t) (front_behind text ∙ ap (λ t. front text ++ t) right.1 ∙ ap (λ t. t ++ (spaces right.0 ++ list)) same) in
    record {
      named = subst IsName same (name_is (front text) named.0);
      before = left.0;
      behind = right.0;
      list = list;
      given = list_is list read.0.1 arguments named.1 read.2;
      written = whole ∙ sym (append_assoc (spaces left.0) name (spaces right.0 ++ list)) ∙ sym (append_assoc (spaces left.0 ++ name) (spaces right.0) list);
    }

pub is_call : (line name : List ℕ) (arguments : List Argument) → IsCallLine line name arguments → call_of line ≡ Some (name, arguments)
is_call line name arguments h =
    let rest = spaces h.behind ++ h.list in
    let whole : line ≡ spaces h.before ++ (name ++ rest) = h.written ∙ append_assoc (spaces h.before ++ name) (spaces h.behind) h.list ∙ append_assoc (spaces h.before) name rest in
    let parts = word_in h.before name rest (name_is_plain name h.named) (name_some name h.named) (list_stops h.behind h.list arguments h.given) in
    let first : front (skip_spaces line) ≡ name = ap (λ t. front (skip_spaces t)) whole ∙ parts.0 in
    let last : behind (skip_spaces line) ≡ rest = ap (λ t. behind (skip_spaces t)) whole ∙ parts.1 in
    let given = list_from h.list arguments h.given in
    let inside : inside_of (skip_spaces (behind (skip_spaces line))) ≡ Some given.0 = ap (λ t. inside_of (skip_spaces t)) last ∙ ap inside_of (skip_over h.behind h.list) ∙ given.1 in
    let cut : call_parts line ≡ Some (name, given.0) =
    ap (λ t. named_with t (inside_of (skip_spaces (behind (skip_spaces line))))) first ∙ ap (named_with name) inside ∙ cond-true (is_name name) (Some (name, given.0)) None (name_from name h.named) in
    ap (option_and_then with_arguments) cut ∙ ap (option_map (λ arguments. (name, arguments))) given.2
