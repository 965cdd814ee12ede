-- The operation that a line names, the numbers of its arguments, and the request that it asks for or its fault.
use Rattle.std.proofs.Common.{◌≡◌, ℕ, suc, inl, inr, refl, sym, ◌∙◌, ap, subst, arith, Bool, true, false, List, [], ◌∷◌, length, get_or, Option, Some, None, Ok, Err}
use Rattle.std.specs.Prelude.{◌≢◌, ℤ, All, slice_get}
use Rattle.std.specs.List.{position_or_len, list_all}
use Rattle.std.specs.Str.{bytes_eq}
use Rattle.std.proofs.lemmas.Bool.{cases_Bool, cond-true, cond-false, and_parts, and_from, false_from_ne_true, both_ways, lt-ltb}
use Rattle.std.proofs.lemmas.Slice.Eq.{bytes_eq-Decides}
use Rattle.std.proofs.lemmas.Int.{ints}
use Rattle.std.proofs.lemmas.List.Elements.{All-nil, All-cons, All-head, All-tail, All-get_or, All-weaker}
use Rattle.std.proofs.lemmas.List.Quantifiers.{position-Some}
use Rattle.std.proofs.lemmas.List.Sums.{position_or_len_is}
use Rattle.std.proofs.lemmas.Option.{slice_get-get_or, get_or_from_slice_get, slice_get_within}
use Rattle.bk_code.specs.declared.image.Image.{Image}
use Rattle.bk_code.specs.declared.image.OpEntry.{OpEntry}
use Rattle.bk_code.specs.declared.image.Parameter.{Parameter}
use Rattle.bk_code.specs.Numbers.{int_max, IsWithin, is_within}
use Rattle.bk_code.specs.Session.{Request}
use Rattle.bk_calls.specs.CallLine.{Argument, IsCallLine}
use Rattle.bk_calls.specs.Script.{IsFirstNamed, value_of, AreValues, AsksFor, Cause, NoCall, UnknownName, WrongArguments, OutOfRange, IsNoCall, NamesNone, HasWrongArguments, LeavesRange, HasCause}
use Rattle.bk_calls.specs.Reading.{call_of, named_op, inputs_of, in_front_of, values_of, ranged, from_values, from_op, from_call, read_line}
use Rattle.bk_calls.proofs.Places.{all_fail}
use Rattle.bk_calls.proofs.CallLines.{call_is, is_call, in_front_is}

-- ---- the operation of a name
nothing : OpEntry
nothing = record { name = []; start = 0; inputs = []; outputs = [] }

abbrev has_name : List ℕ → OpEntry → Bool
has_name name entry = bytes_eq entry.name name

named_is : (image : Image) (name : List ℕ) (op : ℕ) → named_op image name ≡ Some op → (entry : OpEntry) × IsFirstNamed image name op entry
named_is image name op h =
    let found = position-Some (has_name name) image.ops op nothing h in
    let entry = get_or image.ops op nothing in (
      entry,
      record {
        stands = slice_get-get_or image.ops op nothing found.0;
        named = (bytes_eq-Decides entry.name name).0 found.1;
        first = λ earlier other below at same.
            let here : get_or image.ops earlier nothing ≡ other = get_or_from_slice_get image.ops earlier other nothing at in
            both_ways (has_name name (get_or image.ops earlier nothing)) (found.2 earlier below) ((bytes_eq-Decides (get_or image.ops earlier nothing).name name).1 (ap (λ (e : OpEntry). e.name) here ∙ same));
      },
    )

is_named : (image : Image) (name : List ℕ) (op : ℕ) (entry : OpEntry) → IsFirstNamed image name op entry → named_op image name ≡ Some op
is_named image name op entry h =
    let within = slice_get_within image.ops op entry h.stands in
    let here : get_or image.ops op nothing ≡ entry = get_or_from_slice_get image.ops op entry nothing h.stands in
    let place : position_or_len (has_name name) image.ops ≡ op =
    position_or_len_is (has_name name) image.ops op nothing (omega arith)
    (λ k below. false_from_ne_true (has_name name (get_or image.ops k nothing)) (λ yes.
    h.first k (get_or image.ops k nothing) below (slice_get-get_or image.ops k nothing (omega arith)) ((bytes_eq-Decides (get_or image.ops k nothing).name name).0 yes)))
    (λ below. (bytes_eq-Decides (get_or image.ops op nothing).name name).1 (ap (λ (e : OpEntry). e.name) here ∙ h.named)) in
    rw (place, lt-ltb op (length image.ops) within) refl

differs : (name : List ℕ) (entry : OpEntry) → has_name name entry ≡ false → entry.name ≢ name
differs name entry h e = both_ways (has_name name entry) h ((bytes_eq-Decides entry.name name).1 e)

none_named : (image : Image) (name : List ℕ) → named_op image name ≡ None → All (λ (entry : OpEntry). entry.name ≢ name) image.ops
none_named image name h = All-weaker (λ entry. has_name name entry ≡ false) (λ (entry : OpEntry). entry.name ≢ name) (differs name) image.ops (all_fail (has_name name) image.ops h)

named_none : (image : Image) (name : List ℕ) (o : Option ℕ) → named_op image name ≡ o → All (λ (entry : OpEntry). entry.name ≢ name) image.ops → o ≡ None
named_none image name None is h = refl
named_none image name (Some op) is h =
    let found = position-Some (has_name name) image.ops op nothing is in
    absurd (All-get_or (λ (entry : OpEntry). entry.name ≢ name) image.ops op nothing found.0 h ((bytes_eq-Decides (get_or image.ops op nothing).name name).0 found.1))

-- ---- numbers of arguments
pub values_are : (image : Image) (inputs : List Parameter) (arguments : List Argument) (numbers : List ℤ) → values_of image inputs arguments ≡ Some numbers → AreValues image inputs arguments numbers
values_are image [] [] [] h = tt
values_are image [] [] (n ∷ numbers) h = absurd cc
values_are image [] (a ∷ arguments) numbers h = absurd cc
values_are image (input ∷ inputs) [] numbers h = absurd cc
values_are image (input ∷ inputs) (a ∷ arguments) [] h =
    let read = in_front_is (value_of image input.kind a) (values_of image inputs arguments) [] h in
    let e = read.4 in absurd cc
values_are image (input ∷ inputs) (a ∷ arguments) (n ∷ numbers) h =
    let read = in_front_is (value_of image input.kind a) (values_of image inputs arguments) (n ∷ numbers) h in
    let e = read.4 in
    let head : read.0 ≡ n = cc in
    let tail : read.1 ≡ numbers = cc in
    (read.2 ∙ ap (λ m. Some m) head, values_are image inputs arguments numbers (read.3 ∙ ap (λ ms. Some ms) tail))

pub are_values : (image : Image) (inputs : List Parameter) (arguments : List Argument) (numbers : List ℤ) → AreValues image inputs arguments numbers → values_of image inputs arguments ≡ Some numbers
are_values image [] [] [] h = refl
are_values image [] [] (n ∷ numbers) h = absurd h
are_values image [] (a ∷ arguments) numbers h = absurd h
are_values image (input ∷ inputs) [] numbers h = absurd h
are_values image (input ∷ inputs) (a ∷ arguments) [] h = absurd h
are_values image (input ∷ inputs) (a ∷ arguments) (n ∷ numbers) h =
    ap (λ o. in_front_of o (values_of image inputs arguments)) h.0 ∙ ap (in_front_of (Some n)) (are_values image inputs arguments numbers h.1)

pub values_count : (image : Image) (inputs : List Parameter) (arguments : List Argument) (numbers : List ℤ) → AreValues image inputs arguments numbers → length numbers ≡ length inputs
values_count image [] [] [] h = refl
values_count image [] [] (n ∷ numbers) h = absurd h
values_count image [] (a ∷ arguments) numbers h = absurd h
values_count image (input ∷ inputs) [] numbers h = absurd h
values_count image (input ∷ inputs) (a ∷ arguments) [] h = absurd h
values_count image (input ∷ inputs) (a ∷ arguments) (n ∷ numbers) h = ap suc (values_count image inputs arguments numbers h.1)

-- ---- the range
within_is : (max n : ℤ) → is_within max n ≡ true → IsWithin max n
within_is max n h = (grind (arith, ints), grind (arith, ints))

within_from : (max n : ℤ) → IsWithin max n → is_within max n ≡ true
within_from max n h = grind (arith, ints)

pub all_within : (max : ℤ) (numbers : List ℤ) → list_all (is_within max) numbers ≡ true → All (IsWithin max) numbers
all_within max [] h = All-nil (IsWithin max)
all_within max (n ∷ numbers) h =
    let parts = and_parts (is_within max n) (list_all (is_within max) numbers) h in
    All-cons (IsWithin max) n numbers (within_is max n parts.0) (all_within max numbers parts.1)

within_all : (max : ℤ) (numbers : List ℤ) → All (IsWithin max) numbers → list_all (is_within max) numbers ≡ true
within_all max [] h = refl
within_all max (n ∷ numbers) h =
    and_from (is_within max n) (list_all (is_within max) numbers) (within_from max n (All-head (IsWithin max) n numbers h)) (within_all max numbers (All-tail (IsWithin max) n numbers h))

-- ---- what is read of a line
inputs_same : (o : Option OpEntry) (entry : OpEntry) → o ≡ Some entry → inputs_of o ≡ entry.inputs
inputs_same o entry h = ap inputs_of h

abbrev numbers_at : Image → List Argument → ℕ → Option (List ℤ)
numbers_at image arguments op = values_of image (inputs_of (slice_get image.ops op)) arguments

ranged_ok : (image : Image) (op : ℕ) (numbers : List ℤ) (request : Request) → ranged image op numbers ≡ Ok request →
    (list_all (is_within (int_max image)) numbers ≡ true) × (request.op ≡ op) × (request.args ≡ numbers)
ranged_ok image op numbers request h =
    elim (cases_Bool (list_all (is_within (int_max image)) numbers)) [
      | inl holds ↦ (
          let whole : Request = record { op = op; args = numbers } in
          let e : Ok whole ≡ Ok request = sym (cond-true (list_all (is_within (int_max image)) numbers) (Ok whole) (Err OutOfRange) holds) ∙ h in
          let same : whole ≡ request = cc in
          (holds, ap (λ (r : Request). r.op) (sym same), ap (λ (r : Request). r.args) (sym same)))
      | inr fails ↦ (let e = sym (cond-false (list_all (is_within (int_max image)) numbers) (Ok (record { op = op; args = numbers })) (Err OutOfRange) fails) ∙ h in absurd cc)
    ]

ranged_err : (image : Image) (op : ℕ) (numbers : List ℤ) (cause : Cause) → ranged image op numbers ≡ Err cause →
    (list_all (is_within (int_max image)) numbers ≡ false) × (OutOfRange ≡ cause)
ranged_err image op numbers cause h =
    elim (cases_Bool (list_all (is_within (int_max image)) numbers)) [
      | inl holds ↦ (let e = sym (cond-true (list_all (is_within (int_max image)) numbers) (Ok (record { op = op; args = numbers })) (Err OutOfRange) holds) ∙ h in absurd cc)
      | inr fails ↦ (
          let e : Err OutOfRange ≡ Err cause = sym (cond-false (list_all (is_within (int_max image)) numbers) (Ok (record { op = op; args = numbers })) (Err OutOfRange) fails) ∙ h in
          (fails, cc))
    ]

from_call_ok : (image : Image) (o : Option (List ℕ × List Argument)) (request : Request) → from_call image o ≡ Ok request →
    (call : List ℕ × List Argument) × (o ≡ Some call) × (from_op image call.1 (named_op image call.0) ≡ Ok request)
from_call_ok image None request h = absurd cc
from_call_ok image (Some call) request h = (call, refl, h)

from_op_ok : (image : Image) (arguments : List Argument) (o : Option ℕ) (request : Request) → from_op image arguments o ≡ Ok request →
    (op : ℕ) × (o ≡ Some op) × (from_values image op (numbers_at image arguments op) ≡ Ok request)
from_op_ok image arguments None request h = absurd cc
from_op_ok image arguments (Some op) request h = (op, refl, h)

from_values_ok : (image : Image) (op : ℕ) (o : Option (List ℤ)) (request : Request) → from_values image op o ≡ Ok request →
    (numbers : List ℤ) × (o ≡ Some numbers) × (ranged image op numbers ≡ Ok request)
from_values_ok image op None request h = absurd cc
from_values_ok image op (Some numbers) request h = (numbers, refl, h)

-- the numbers at an operation are those by its entry
numbers_by : (image : Image) (arguments : List Argument) (op : ℕ) (entry : OpEntry) (name : List ℕ) → IsFirstNamed image name op entry → numbers_at image arguments op ≡ values_of image entry.inputs arguments
numbers_by image arguments op entry name h = ap (λ t. values_of image t arguments) (inputs_same (slice_get image.ops op) entry h.stands)

pub asks : (image : Image) (line : List ℕ) (request : Request) → read_line image line ≡ Ok request → AsksFor image line request
asks image line request h =
    let call = from_call_ok image (call_of line) request h in
    let called = from_op_ok image call.0.1 (named_op image call.0.0) request call.2 in
    let counted = from_values_ok image called.0 (numbers_at image call.0.1 called.0) request called.2 in
    let fits = ranged_ok image called.0 counted.0 request counted.2 in
    let found = named_is image call.0.0 called.0 called.1 in
    let values : AreValues image found.0.inputs call.0.1 counted.0 = values_are image found.0.inputs call.0.1 counted.0 (sym (numbers_by image call.0.1 called.0 found.0 call.0.0 found.1) ∙ counted.1) in
    record {
      name = call.0.0;
      arguments = call.0.1;
      written = call_is line call.0.0 call.0.1 call.1;
      entry = found.0;
      meant = subst (λ op. IsFirstNamed image call.0.0 op found.0) (sym fits.1) found.1;
      values = subst (λ numbers. AreValues image found.0.inputs call.0.1 numbers) (sym fits.2) values;
      range = subst (All (IsWithin (int_max image))) (sym fits.2) (all_within (int_max image) counted.0 fits.0);
    }

-- what is read of a line that is written so
read_called : (image : Image) (line name : List ℕ) (arguments : List Argument) (op : ℕ) (entry : OpEntry) → IsCallLine line name arguments → IsFirstNamed image name op entry →
    read_line image line ≡ from_values image op (values_of image entry.inputs arguments)
read_called image line name arguments op entry h k =
    ap (from_call image) (is_call line name arguments h) ∙ ap (from_op image arguments) (is_named image name op entry k) ∙ ap (from_values image op) (numbers_by image arguments op entry name k)

pub asked : (image : Image) (line : List ℕ) (request : Request) → AsksFor image line request → read_line image line ≡ Ok request
asked image line request h =
    read_called image line h.name h.arguments request.op h.entry h.written h.meant
    ∙ ap (from_values image request.op) (are_values image h.entry.inputs h.arguments request.args h.values)
    ∙ cond-true (list_all (is_within (int_max image)) request.args) (Ok request) (Err OutOfRange) (within_all (int_max image) request.args h.range)

-- ---- causes
no_call : (line : List ℕ) → call_of line ≡ None → IsNoCall line
no_call line h name arguments written = (let e = sym h ∙ is_call line name arguments written in absurd cc)

caused_by_range : (image : Image) (line name : List ℕ) (arguments : List Argument) (op : ℕ) (entry : OpEntry) (cause : Cause) → IsCallLine line name arguments → IsFirstNamed image name op entry →
    (o : Option (List ℤ)) → values_of image entry.inputs arguments ≡ o → from_values image op o ≡ Err cause → HasCause image line cause
caused_by_range image line name arguments op entry cause written meant None is h =
    let e : WrongArguments ≡ cause = cc in
    let wrong : HasWrongArguments image line = record {
      name = name;
      arguments = arguments;
      written = written;
      op = op;
      entry = entry;
      meant = meant;
      wrong = λ numbers values. let f = sym is ∙ are_values image entry.inputs arguments numbers values in absurd cc;
    } in
    subst (HasCause image line) e wrong
caused_by_range image line name arguments op entry cause written meant (Some numbers) is h =
    let read = ranged_err image op numbers cause h in
    let out : LeavesRange image line = record {
      name = name;
      arguments = arguments;
      written = written;
      op = op;
      entry = entry;
      meant = meant;
      numbers = numbers;
      values = values_are image entry.inputs arguments numbers is;
      out = λ all. both_ways (list_all (is_within (int_max image)) numbers) read.0 (within_all (int_max image) numbers all);
    } in
    subst (HasCause image line) read.1 out

caused_by_name : (image : Image) (line name : List ℕ) (arguments : List Argument) (cause : Cause) → IsCallLine line name arguments →
    (o : Option ℕ) → named_op image name ≡ o → from_op image arguments o ≡ Err cause → HasCause image line cause
caused_by_name image line name arguments cause written None is h =
    let e : UnknownName ≡ cause = cc in
    let none : NamesNone image line = record { name = name; arguments = arguments; written = written; none = none_named image name is } in
    subst (HasCause image line) e none
caused_by_name image line name arguments cause written (Some op) is h =
    let found = named_is image name op is in
    caused_by_range image line name arguments op found.0 cause written found.1 (values_of image found.0.inputs arguments) refl
    (sym (ap (from_values image op) (numbers_by image arguments op found.0 name found.1)) ∙ h)

caused_by_line : (image : Image) (line : List ℕ) (cause : Cause) (o : Option (List ℕ × List Argument)) → call_of line ≡ o → from_call image o ≡ Err cause → HasCause image line cause
caused_by_line image line cause None is h = (let e : NoCall ≡ cause = cc in subst (HasCause image line) e (no_call line is))
caused_by_line image line cause (Some call) is h = caused_by_name image line call.0 call.1 cause (call_is line call.0 call.1 is) (named_op image call.0) refl h

pub caused : (image : Image) (line : List ℕ) (cause : Cause) → read_line image line ≡ Err cause → HasCause image line cause
caused image line cause h = caused_by_line image line cause (call_of line) refl h

none_called : (line : List ℕ) (o : Option (List ℕ × List Argument)) → call_of line ≡ o → IsNoCall line → o ≡ None
none_called line None is h = refl
none_called line (Some call) is h = absurd (h call.0 call.1 (call_is line call.0 call.1 is))

none_counted : (image : Image) (inputs : List Parameter) (arguments : List Argument) (o : Option (List ℤ)) → values_of image inputs arguments ≡ o → ((numbers : List ℤ) → AreValues image inputs arguments numbers → ⊥) → o ≡ None
none_counted image inputs arguments None is h = refl
none_counted image inputs arguments (Some numbers) is h = absurd (h numbers (values_are image inputs arguments numbers is))

pub has_cause : (image : Image) (line : List ℕ) (cause : Cause) → HasCause image line cause → read_line image line ≡ Err cause
has_cause image line NoCall h = ap (from_call image) (none_called line (call_of line) refl h)
has_cause image line UnknownName h =
    ap (from_call image) (is_call line h.name h.arguments h.written) ∙ ap (from_op image h.arguments) (named_none image h.name (named_op image h.name) refl h.none)
has_cause image line WrongArguments h =
    read_called image line h.name h.arguments h.op h.entry h.written h.meant
    ∙ ap (from_values image h.op) (none_counted image h.entry.inputs h.arguments (values_of image h.entry.inputs h.arguments) refl h.wrong)
has_cause image line OutOfRange h =
    read_called image line h.name h.arguments h.op h.entry h.written h.meant
    ∙ ap (from_values image h.op) (are_values image h.entry.inputs h.arguments h.numbers h.values)
    ∙ cond-false (list_all (is_within (int_max image)) h.numbers) (Ok (record { op = h.op; args = h.numbers })) (Err OutOfRange)
    (false_from_ne_true (list_all (is_within (int_max image)) h.numbers) (λ yes. h.out (all_within (int_max image) h.numbers yes)))
