-- What is read of a line, from its parts.
use Rattle.std.proofs.Common.{◌≡◌, ℕ, ◌+◌, refl, sym, ◌∙◌, ap, true, false, eqb, List, [], ◌∷◌, ◌++◌, map, length, Option, Some, None, Result, Ok, Err}
use Rattle.std.specs.Prelude.{◌≢◌, ℤ, pos, ◌≤ℤ◌, option_and_then, slice_get}
use Rattle.std.specs.List.{list_all}
use Rattle.std.specs.Option.{option_map}
use Rattle.std.proofs.lemmas.Bool.{cond-true, cond-false, ne_eqb}
use Rattle.std.proofs.lemmas.List.{append_assoc}
use Rattle.bk_code.specs.declared.image.Image.{Image}
use Rattle.bk_code.specs.declared.image.Parameter.{Parameter}
use Rattle.bk_code.specs.Numbers.{int_max, is_within}
use Rattle.bk_code.specs.Session.{Request}
use Rattle.bk_lines.specs.Lines.{is_skipped}
use Rattle.bk_calls.specs.CallLine.{Argument}
use Rattle.bk_calls.specs.Script.{OutOfRange, most_calls}
use Rattle.bk_calls.specs.Reading.{Stop, AtLimit, kept_argument, arguments_in, pieces, call_parts, with_arguments, call_of, named_op, inputs_of, values_of, from_values, from_op, from_call, read_line, in_front, from_line, read_lines}
use Rattle.bk_calls.proofs.Holding.{all_kept}
use Rattle.bk_calls.proofs.Kept.{kept_values}

kept_is : (held : List Argument) (o : Option (List Argument)) → Some held ≡ all_kept o → (written : List Argument) × (o ≡ Some written) × (map kept_argument written ≡ held)
kept_is held None h = absurd cc
kept_is held (Some written) h = (written, refl, cc)

pub read_from : (image : Image) (line name inside : List ℕ) (held : List Argument) (op : ℕ) (inputs : List Parameter) → int_max image ≤ℤ pos 9223372036854775807 → Some (name, inside) ≡ call_parts line → Some held ≡ all_kept (arguments_in (pieces inside)) →
    Some op ≡ named_op image name → inputs ≡ inputs_of (slice_get image.ops op) → (found : Option (List ℤ)) → found ≡ values_of image inputs held → read_line image line ≡ from_values image op found
read_from image line name inside held op inputs most parts arguments named entry found values =
    let written = kept_is held (arguments_in (pieces inside)) arguments in
    let call : call_of line ≡ Some (name, written.0) = ap (option_and_then with_arguments) (sym parts) ∙ ap (option_map (λ given. (name, given))) written.1 in
    let ins = inputs_of (slice_get image.ops op) in
    let same : values_of image ins (map kept_argument written.0) ≡ found = ap (values_of image ins) written.2 ∙ ap (λ t. values_of image t held) (sym entry) ∙ sym values in
    ap (from_call image) call ∙ ap (from_op image written.0) (sym named) ∙ sym (kept_values image op ins written.0 most) ∙ ap (from_values image op) same

pub fits_as : (image : Image) (op : ℕ) (numbers : List ℤ) (request : Request) → request.op ≡ op → request.args ≡ numbers → list_all (is_within (int_max image)) numbers ≡ true → from_values image op (Some numbers) ≡ Ok request
fits_as image op numbers request same args h =
    let whole : Request = record { op = op; args = numbers } in
    let named : whole ≡ record { op = request.op; args = numbers } = ap (λ (k : ℕ). let r : Request = record { op = k; args = numbers } in r) (sym same) in
    let counted : record { op = request.op; args = numbers } ≡ request = ap (λ (t : List ℤ). let r : Request = record { op = request.op; args = t } in r) (sym args) in
    cond-true (list_all (is_within (int_max image)) numbers) (Ok whole) (Err OutOfRange) h ∙ ap (λ (r : Request). Ok r) (named ∙ counted)

pub leaves : (image : Image) (op : ℕ) (numbers : List ℤ) → list_all (is_within (int_max image)) numbers ≡ false → from_values image op (Some numbers) ≡ Err OutOfRange
leaves image op numbers h = cond-false (list_all (is_within (int_max image)) numbers) (Ok (record { op = op; args = numbers })) (Err OutOfRange) h

-- ---- lines
front_more : (first : List Request) (request : Request) (r : Result (List Request) Stop) → in_front (first ++ (request ∷ [])) r ≡ in_front first (in_front (request ∷ []) r)
front_more first request (Ok others) = ap (λ t. Ok t) (append_assoc first (request ∷ []) others)
front_more first request (Err stop) = refl

-- one line more, which asks for a call within the limit
pub call_more : (image : Image) (n : ℕ) (first : List Request) (line : List ℕ) (ls rest : List (List ℕ)) (request : Request) (whole : Result (List Request) Stop) →
    ls ≡ line ∷ rest → is_skipped line ≡ false → read_line image line ≡ Ok request → length first ≢ most_calls → in_front first (read_lines image n (length first) ls) ≡ whole →
    in_front (first ++ (request ∷ [])) (read_lines image (n + 1) (length first + 1) rest) ≡ whole
call_more image n first line ls rest request whole split read asks few is =
    let more = read_lines image (n + 1) (length first + 1) rest in
    let step : read_lines image n (length first) (line ∷ rest) ≡ in_front (request ∷ []) more =
    cond-false (is_skipped line) (read_lines image (n + 1) (length first) rest) (from_line (read_line image line) (n + 1) (length first) more) read
    ∙ ap (λ o. from_line o (n + 1) (length first) more) asks ∙ cond-false (eqb (length first) most_calls) (Err AtLimit) (in_front (request ∷ []) more) (ne_eqb (length first) most_calls few) in
    front_more first request more ∙ ap (in_front first) (sym step) ∙ ap (λ t. in_front first (read_lines image n (length first) t)) (sym split) ∙ is
