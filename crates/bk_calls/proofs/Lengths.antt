-- The lengths of the longest texts.
use Rattle.std.proofs.Common.{◌≡◌, ℕ, zero, suc, ◌+◌, ◌-◌, ◌<◌, ◌≤◌, ◌^◌, inl, inr, refl, sym, ◌∙◌, ap, arith, true, false, cond, leb, List, [], ◌∷◌, ◌++◌, length, take, get_or, map, ℤ, pos, negsuc, Option, Some, None, max, length-append}
use Rattle.std.specs.Prelude.{codes, decimal, All, slice_get, slice_index_or, FitsSigned}
use Rattle.std.specs.List.{flat_map}
use Rattle.std.proofs.lemmas.List.Elements.{All-head, All-tail}
use Rattle.std.specs.Ordering.{int_eq}
use Rattle.std.specs.Int.{w64}
use Rattle.std.specs.Int.Signed.{mag}
use Rattle.std.specs.Fmt.{signed_decimal}
use Rattle.std.proofs.Common.{Bool as Test}
use Rattle.std.proofs.lemmas.Bool.{cases_Bool, cond-true, cond-false, leb-true, leb-false}
use Rattle.std.proofs.lemmas.Option.{slice_get-map}
use Rattle.std.specs.Option.{option_map}
use Rattle.std.proofs.lemmas.Fmt.{length-decimal-le, length_signed_le}
use Rattle.std.proofs.lemmas.List.{take_all, take_more, map_more, length-map, length-take-le, append_assoc}
use Rattle.bk_code.specs.declared.image.Image.{Image}
use Rattle.bk_code.specs.declared.image.OpEntry.{OpEntry}
use Rattle.bk_code.specs.declared.image.Parameter.{Parameter}
use Rattle.bk_code.specs.declared.image.CellKind.{CellKind}
use Rattle.bk_code.specs.declared.image.CellKind.TheVariants.{Integer, Bool, Set}
use Rattle.bk_code.specs.declared.instruction.Trap.{Trap}
use Rattle.bk_code.specs.declared.instruction.Trap.TheVariants.{Overflow, DivZero, ModRange, Index}
use Rattle.bk_calls.specs.Transcript.{element_name, name_or_number, value_text, value_texts, given_text, AreOutputs, called_text, entry_name, trap_text, closing_text}
use Rattle.bk_calls.specs.Room.{longest_of, longest_number, longest_value, longest_given, longest_done, longest_reply, longest_stop, longest_closing, longest_line}
use Rattle.bk_calls.proofs.Outputs.{separator, given_more}

-- ---- the longest of some texts
pub longest_none : length (longest_of []) ≡ 0
unfolding longest_of
longest_none = refl

pub longest_more : (text : List ℕ) (rest : List (List ℕ)) → length (longest_of (text ∷ rest)) ≡ max (length text) (length (longest_of rest))
unfolding longest_of
longest_more text rest =
    elim (cases_Bool (leb (length (longest_of rest)) (length text))) [
      | inl more ↦ (
          let longer = leb-true (length (longest_of rest)) (length text) more in
          ap length (cond-true (leb (length (longest_of rest)) (length text)) text (longest_of rest) more) ∙ (let e : length text ≡ max (length text) (length (longest_of rest)) = omega arith in e))
      | inr less ↦ (
          let shorter = leb-false (length (longest_of rest)) (length text) less in
          ap length (cond-false (leb (length (longest_of rest)) (length text)) text (longest_of rest) less) ∙ (let e : length (longest_of rest) ≡ max (length text) (length (longest_of rest)) = omega arith in e))
    ]

pub longest_push : (texts : List (List ℕ)) (text : List ℕ) → length (longest_of (texts ++ text ∷ [])) ≡ max (length (longest_of texts)) (length text)
longest_push [] text = omega (arith, longest_more text [], longest_none)
longest_push (first ∷ texts) text = omega (arith, longest_more first (texts ++ text ∷ []), longest_more first texts, longest_push texts text)

-- no text is longer
pub longest_at : (texts : List (List ℕ)) (i : ℕ) (text : List ℕ) → slice_get texts i ≡ Some text → length text ≤ length (longest_of texts)
longest_at [] i text h = absurd cc
longest_at (first ∷ texts) zero text h = (let e : first ≡ text = cc in omega (arith, ap length e, longest_more first texts))
longest_at (first ∷ texts) (suc i) text h = omega (arith, longest_more first texts, longest_at texts i text h)

-- the first items' texts with one more
pub longest_next : {X : Type 0} (f : X → List ℕ) (before : List (List ℕ)) (xs : List X) (i : ℕ) (d : X) → i < length xs →
    length (longest_of (before ++ map f (take (i + 1) xs))) ≡ max (length (longest_of (before ++ map f (take i xs)))) (length (f (get_or xs i d)))
longest_next f before xs i d below =
    ap (λ t. length (longest_of (before ++ t))) (map_more f xs i d below) ∙
    ap (λ t. length (longest_of t)) (sym (append_assoc before (map f (take i xs)) (f (get_or xs i d) ∷ []))) ∙
    longest_push (before ++ map f (take i xs)) (f (get_or xs i d))

pub longest_taken : (texts : List (List ℕ)) (i : ℕ) (d : List ℕ) → i < length texts → length (longest_of (take (i + 1) texts)) ≡ max (length (longest_of (take i texts))) (length (get_or texts i d))
longest_taken texts i d below = ap (λ t. length (longest_of t)) (take_more texts i d below) ∙ longest_push (take i texts) (get_or texts i d)

-- ---- values
-- no number is longer
pub number_length : (n : ℤ) → FitsSigned w64 n → length (signed_decimal n) ≤ 20
number_length n fits = (let small : mag n < 2 ^ 63 = fits.sfits in length_signed_le 19 n (omega arith) small)

truth_cases : (zero_is one_is : Test) (text : List ℕ) → length text ≤ 20 → length (cond zero_is (codes "FALSE") (cond one_is (codes "TRUE") text)) ≤ 20
truth_cases true one_is text le = omega arith
truth_cases false true text le = omega arith
truth_cases false false text le = le

pub number_within : (names : List (List ℕ)) → 20 ≤ length (longest_of (longest_number ∷ names))
number_within names = longest_at (longest_number ∷ names) 0 longest_number refl

pub element_within : (names : List (List ℕ)) (n : ℤ) (name : List ℕ) → element_name names n ≡ Some name → length name ≤ length (longest_of (longest_number ∷ names))
element_within names (pos index) name h = longest_at (longest_number ∷ names) (suc index) name h
element_within names (negsuc n) name h = absurd cc

name_length : (names : List (List ℕ)) (n : ℤ) (o : Option (List ℕ)) → element_name names n ≡ o → length (signed_decimal n) ≤ 20 → length (name_or_number o n) ≤ length (longest_of (longest_number ∷ names))
name_length names n (Some name) h le = element_within names n name h
name_length names n None h le = omega (arith, number_within names)

pub value_length : (image : Image) (kind : CellKind) (n : ℤ) → FitsSigned w64 n → length (value_text image kind n) ≤ length (longest_value image kind)
value_length image Integer n fits = number_length n fits
value_length image Bool n fits = truth_cases (int_eq n (pos 0)) (int_eq n (pos 1)) (signed_decimal n) (number_length n fits)
value_length image (Set k) n fits = name_length (slice_index_or image.sets k []) n (element_name (slice_index_or image.sets k []) n) refl (number_length n fits)

-- ---- outputs
nothing : Parameter
nothing = record { kind = Integer; slot = 0 }

given_push : (texts : List (List ℕ)) (text : List ℕ) → length (given_text (texts ++ text ∷ [])) ≡ length (given_text texts) + length (separator (length texts)) + length text
given_push texts text =
    omega (arith, ap length (given_more texts text), length-append (given_text texts ++ separator (length texts)) text, length-append (given_text texts) (separator (length texts)))

-- one output more
pub given_next : (image : Image) (outputs : List Parameter) (i : ℕ) (o : Parameter) → i < length outputs →
    length (longest_given image (take (i + 1) outputs)) ≡ length (longest_given image (take i outputs)) + length (separator i) + length (longest_value image (get_or outputs i o).kind)
given_next image outputs i o below =
    let text : Parameter → List ℕ = λ (output : Parameter). longest_value image output.kind in
    let many : length (map text (take i outputs)) ≡ i = length-map (take i outputs) text ∙ length-take-le i outputs (omega arith) in
    ap (λ t. length (given_text t)) (map_more text outputs i o below) ∙ given_push (map text (take i outputs)) (text (get_or outputs i o)) ∙
    ap (λ n. length (given_text (map text (take i outputs))) + length (separator n) + length (text (get_or outputs i o))) many

-- the first outputs' text is no longer than that of all
given_grows : (image : Image) (outputs : List Parameter) (more i : ℕ) → i + more ≡ length outputs → length (longest_given image (take i outputs)) ≤ length (longest_given image outputs)
given_grows image outputs zero i many = (let whole : take i outputs ≡ outputs = take_all i outputs (omega arith) in omega (arith, ap (λ t. length (longest_given image t)) whole))
given_grows image outputs (suc more) i many = omega (arith, given_next image outputs i nothing (omega arith), given_grows image outputs more (i + 1) (omega arith))

pub given_within : (image : Image) (outputs : List Parameter) (i : ℕ) → i ≤ length outputs → length (longest_given image (take i outputs)) ≤ length (longest_given image outputs)
given_within image outputs i le = given_grows image outputs (length outputs - i) i (omega arith)

-- no text of outputs is longer
others_length : (image : Image) (outputs : List Parameter) (values : List ℤ) → length values ≡ length outputs → All (FitsSigned w64) values →
    length (flat_map (λ (y : List ℕ). codes ", " ++ y) (value_texts image outputs values)) ≤ length (flat_map (λ (y : List ℕ). codes ", " ++ y) (map (λ (output : Parameter). longest_value image output.kind) outputs))
others_length image [] values same words = omega arith
others_length image (o ∷ outputs) [] same words = omega arith
others_length image (o ∷ outputs) (n ∷ values) same words =
    let rest = others_length image outputs values (omega arith) (All-tail (FitsSigned w64) n values words) in
    let first = value_length image o.kind n (All-head (FitsSigned w64) n values words) in
    omega (
      arith,
      length-append (codes ", " ++ value_text image o.kind n) (flat_map (λ (y : List ℕ). codes ", " ++ y) (value_texts image outputs values)),
      length-append (codes ", " ++ longest_value image o.kind) (flat_map (λ (y : List ℕ). codes ", " ++ y) (map (λ (output : Parameter). longest_value image output.kind) outputs)),
    )

pub given_length : (image : Image) (outputs : List Parameter) (values : List ℤ) → length values ≡ length outputs → All (FitsSigned w64) values →
    length (given_text (value_texts image outputs values)) ≤ length (longest_given image outputs)
given_length image [] values same words = omega arith
given_length image (o ∷ outputs) [] same words = absurd (omega arith)
given_length image (o ∷ outputs) (n ∷ values) same words =
    let rest = others_length image outputs values (omega arith) (All-tail (FitsSigned w64) n values words) in
    let first = value_length image o.kind n (All-head (FitsSigned w64) n values words) in
    omega (
      arith,
      length-append (value_text image o.kind n) (flat_map (λ (y : List ℕ). codes ", " ++ y) (value_texts image outputs values)),
      length-append (longest_value image o.kind) (flat_map (λ (y : List ℕ). codes ", " ++ y) (map (λ (output : Parameter). longest_value image output.kind) outputs)),
    )

-- ---- a line
-- the longest line without operations
pub longest_first : length (longest_of (longest_closing ∷ (codes "initialisation" ++ longest_stop) ∷ [])) ≡ 49
longest_first = omega (arith, longest_more longest_closing ((codes "initialisation" ++ longest_stop) ∷ []), longest_more (codes "initialisation" ++ longest_stop) [], longest_none)

-- the longest line holds each last line, and each line of an operation
pub closing_within : (image : Image) → length longest_closing ≤ length (longest_line image)
unfolding longest_line
closing_within image = longest_at (longest_closing ∷ (codes "initialisation" ++ longest_stop) ∷ map (longest_reply image) image.ops) 0 longest_closing refl

init_within : (image : Image) → length (codes "initialisation" ++ longest_stop) ≤ length (longest_line image)
unfolding longest_line
init_within image = longest_at (longest_closing ∷ (codes "initialisation" ++ longest_stop) ∷ map (longest_reply image) image.ops) 1 (codes "initialisation" ++ longest_stop) refl

reply_within : (image : Image) (op : ℕ) (entry : OpEntry) → slice_get image.ops op ≡ Some entry → length (longest_reply image entry) ≤ length (longest_line image)
unfolding longest_line
reply_within image op entry named =
    longest_at (longest_closing ∷ (codes "initialisation" ++ longest_stop) ∷ map (longest_reply image) image.ops) (suc (suc op)) (longest_reply image entry)
    (slice_get-map (longest_reply image) image.ops op ∙ ap (option_map (longest_reply image)) named)

pub done_within : (image : Image) (op : ℕ) (entry : OpEntry) → slice_get image.ops op ≡ Some entry → length (longest_done image entry) ≤ length (longest_line image)
done_within image op entry named =
    omega (arith, reply_within image op entry named, longest_at (longest_done image entry ∷ (entry.name ++ longest_stop) ∷ []) 0 (longest_done image entry) refl)

stop_within : (image : Image) (op : ℕ) (entry : OpEntry) → slice_get image.ops op ≡ Some entry → length (entry.name ++ longest_stop) ≤ length (longest_line image)
stop_within image op entry named =
    omega (arith, reply_within image op entry named, longest_at (longest_done image entry ∷ (entry.name ++ longest_stop) ∷ []) 1 (entry.name ++ longest_stop) refl)

-- and the name of what was called with what stopped it
pub called_within : (image : Image) (op : Option ℕ) (outputs : List ℤ) → AreOutputs image op outputs → length (called_text image op) + length longest_stop ≤ length (longest_line image)
called_within image None outputs h = omega (arith, init_within image)
called_within image (Some op) outputs h =
    omega (arith, stop_within image op h.0 h.1, length-append (h.0).name longest_stop, ap (λ o. length (entry_name o)) h.1)

-- no last line is longer
pub closing_length : (calls steps : ℕ) → calls < 2 ^ 32 → steps < 2 ^ 64 → length (closing_text calls steps) ≤ length longest_closing
closing_length calls steps few many =
    let first = length-decimal-le 10 calls (omega arith) (omega arith) (omega arith) in
    let second = length-decimal-le 20 steps (omega arith) (omega arith) many in
    omega (
      arith,
      length-append (codes "end " ++ decimal calls ++ codes " calls, " ++ decimal steps) (codes " steps\n"),
      length-append (codes "end " ++ decimal calls ++ codes " calls, ") (decimal steps),
      length-append (codes "end " ++ decimal calls) (codes " calls, "),
      length-append (codes "end ") (decimal calls),
    )

-- nor is any text of a trap longer than what stops a call at most
trap_short : (kind : Trap) → length (trap_text kind) ≤ 8
trap_short Overflow = omega arith
trap_short DivZero = omega arith
trap_short ModRange = omega arith
trap_short Index = omega arith

pub trap_length : (kind : Trap) (place : ℕ) → place < 2 ^ 32 → length (codes " trapped " ++ trap_text kind ++ codes " at " ++ decimal place ++ codes "\n") ≤ length longest_stop
trap_length kind place small =
    omega (
      arith,
      trap_short kind,
      length-decimal-le 10 place (omega arith) (omega arith) (omega arith),
      length-append (codes " trapped " ++ trap_text kind ++ codes " at " ++ decimal place) (codes "\n"),
      length-append (codes " trapped " ++ trap_text kind ++ codes " at ") (decimal place),
      length-append (codes " trapped " ++ trap_text kind) (codes " at "),
      length-append (codes " trapped ") (trap_text kind),
    )
