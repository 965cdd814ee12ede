-- The longest line of an image is one of its lines, and none is longer.
use Rattle.std.proofs.Common.{◌≡◌, ℕ, zero, suc, ◌<◌, ◌≤◌, ◌^◌, inl, inr, refl, sym, ◌∙◌, ap, subst, arith, leb, lit<, List, [], ◌∷◌, ◌++◌, length, map, ℤ, pos, negsuc, Option, Some, None, length-append}
use Rattle.std.specs.Prelude.{codes, decimal, All, slice_get, slice_index_or, FitsSigned}
use Rattle.std.specs.Fmt.{digits, signed_decimal}
use Rattle.std.specs.Int.{w64}
use Rattle.std.specs.Option.{option_map}
use Rattle.std.proofs.Math.Dec.{leb-zero}
use Rattle.std.proofs.Math.Facts.{sfits_lit}
use Rattle.std.proofs.lemmas.Bool.{cases_Bool, cases_lt, cond-true, cond-false}
use Rattle.std.proofs.lemmas.List.{get_or_past, append_assoc}
use Rattle.std.proofs.lemmas.List.Elements.{All-nil, All-cons}
use Rattle.std.proofs.lemmas.Option.{slice_get-map, slice_get_within}
use Rattle.bk_code.specs.declared.image.Image.{Image}
use Rattle.bk_code.specs.declared.image.OpEntry.{OpEntry}
use Rattle.bk_code.specs.declared.image.Parameter.{Parameter}
use Rattle.bk_code.specs.declared.image.CellKind.{CellKind}
use Rattle.bk_code.specs.declared.image.CellKind.TheVariants.{Integer, Bool, Set}
use Rattle.bk_code.specs.declared.instruction.Trap.TheVariants.{Overflow}
use Rattle.bk_code.specs.Run.{End, Done, Trapped, OutOfFuel}
use Rattle.bk_calls.specs.Transcript.{name_or_number, value_text, value_texts, given_text, entry_name, entry_outputs, called_text, AreOutputs, reply_text, closing_text}
use Rattle.bk_calls.specs.Room.{longest_of, longest_number, longest_value, longest_given, longest_done, longest_stop, longest_closing, longest_reply, longest_line}
use Rattle.bk_calls.specs.Laws.{IsPlaced, IsReplyOf, IsClosing, IsLineOf, NoLineIsLonger, LongestIsLine}
use Rattle.bk_calls.proofs.Lengths.{given_length, closing_within, done_within, called_within, closing_length, trap_length}

-- ---- no line is longer
done_no_longer : (image : Image) (op : Option ℕ) (steps : ℕ) (outputs : List ℤ) → AreOutputs image op outputs → All (FitsSigned w64) outputs →
    length (reply_text image op (Done steps) outputs) ≤ length (longest_line image)
done_no_longer image None steps outputs called words = omega arith
done_no_longer image (Some op) steps outputs called words =
    let entry = called.0 in
    let given = given_text (value_texts image entry.outputs outputs) in
    let text = ap (λ o. length (entry_name o ++ given_text (value_texts image (entry_outputs o) outputs) ++ codes "\n")) called.1 in
    omega (
      arith,
      text,
      given_length image entry.outputs outputs called.2 words,
      done_within image op entry called.1,
      length-append (entry.name ++ given) (codes "\n"),
      length-append entry.name given,
      length-append (entry.name ++ longest_given image entry.outputs) (codes "\n"),
      length-append entry.name (longest_given image entry.outputs),
    )

reply_no_longer : (image : Image) (op : Option ℕ) (end : End) (outputs : List ℤ) → AreOutputs image op outputs → IsPlaced end → All (FitsSigned w64) outputs →
    length (reply_text image op end outputs) ≤ length (longest_line image)
reply_no_longer image op (Done steps) outputs called placed words = done_no_longer image op steps outputs called words
reply_no_longer image op (Trapped kind place steps) outputs called placed words =
    simp length-append (omega (arith, called_within image op outputs called, simp length-append at (trap_length kind place placed)))
reply_no_longer image op OutOfFuel outputs called placed words = omega (arith, called_within image op outputs called, length-append (called_text image op) (codes " out of fuel\n"))

pub no_line_is_longer : NoLineIsLonger
no_line_is_longer image line (inl h) = subst (λ (t : List ℕ). length t ≤ length (longest_line image)) (sym h.left) (reply_no_longer image h.op h.end h.outputs h.called h.placed h.words)
no_line_is_longer image line (inr h) =
    omega (arith, ap length h.left, closing_length h.calls h.steps h.few_calls h.few_steps, closing_within image)

-- ---- the longest line is a line
-- the longest of some texts is one of them
longest_is : (first : List ℕ) (rest : List (List ℕ)) → (i : ℕ) × (slice_get (first ∷ rest) i ≡ Some (longest_of (first ∷ rest)))
unfolding longest_of
longest_is first [] = (0, ap Some (sym (cond-true (leb 0 (length first)) first [] (leb-zero (length first)))))
longest_is first (second ∷ rest) =
    let others = longest_of (second ∷ rest) in
    elim (cases_Bool (leb (length others) (length first))) [
      | inl more ↦ (0, ap Some (sym (cond-true (leb (length others) (length first)) first others more)))
      | inr less ↦ (let found = longest_is second rest in (suc found.0, found.1 ∙ ap Some (sym (cond-false (leb (length others) (length first)) first others less))))
    ]

-- -2 ^ 63, whose text is the longest number
abbrev least : ℤ
least = negsuc 9223372036854775807

least_fits : FitsSigned w64 least
least_fits = sfits_lit tt

least_text : signed_decimal least ≡ longest_number
unfolding digits
least_text = refl

-- a number of 64 bits has the longest text of a cell's kind
record HasLongest (image : Image) (kind : CellKind) : Type 0 where
  number : ℤ
  word : FitsSigned w64 number
  text : value_text image kind number ≡ longest_value image kind

element_longest : (image : Image) (k i : ℕ) → All (λ names. length names < 2 ^ 63) image.sets →
    slice_get (longest_number ∷ slice_index_or image.sets k []) i ≡ Some (longest_of (longest_number ∷ slice_index_or image.sets k [])) → HasLongest image (Set k)
element_longest image k zero few at = record { number = least; word = least_fits; text = least_text ∙ (let e : longest_number ≡ longest_of (longest_number ∷ slice_index_or image.sets k []) = cc in e) }
element_longest image k (suc index) few at =
    let names = slice_index_or image.sets k [] in
    let below = slice_get_within names index (longest_of (longest_number ∷ names)) at in
    let small : index < 2 ^ 63 = elim (cases_lt k (length image.sets)) [
      | inl lt ↦ (let bound = few k [] lt in omega arith)
      | inr ge ↦ (let none = ap length (get_or_past image.sets k [] ge) in absurd (omega arith))
    ] in
    record { number = pos index; word = record { sfits = small }; text = ap (λ (o : Option (List ℕ)). name_or_number o (pos index)) at }

has_longest : (image : Image) (kind : CellKind) → All (λ names. length names < 2 ^ 63) image.sets → HasLongest image kind
has_longest image Integer few = record { number = least; word = least_fits; text = least_text }
has_longest image Bool few = record { number = least; word = least_fits; text = least_text }
has_longest image (Set k) few = (let found = longest_is longest_number (slice_index_or image.sets k []) in element_longest image k found.0 few found.1)

-- numbers that have the longest texts of outputs
record HaveLongest (image : Image) (outputs : List Parameter) : Type 0 where
  numbers : List ℤ
  words : All (FitsSigned w64) numbers
  many : length numbers ≡ length outputs
  texts : value_texts image outputs numbers ≡ map (λ (output : Parameter). longest_value image output.kind) outputs

have_longest : (image : Image) (outputs : List Parameter) → All (λ names. length names < 2 ^ 63) image.sets → HaveLongest image outputs
have_longest image [] few = record { numbers = []; words = All-nil (FitsSigned w64); many = refl; texts = refl }
have_longest image (o ∷ outputs) few =
    let first = has_longest image o.kind few in
    let others = have_longest image outputs few in
    record {
      numbers = first.number ∷ others.numbers;
      words = All-cons (FitsSigned w64) first.number others.numbers first.word others.words;
      many = ap suc others.many;
      texts = ap (λ t. t ∷ value_texts image outputs others.numbers) first.text ∙ ap (λ ts. longest_value image o.kind ∷ ts) others.texts;
    }

done_is_line : (image : Image) (op : ℕ) (entry : OpEntry) → All (λ names. length names < 2 ^ 63) image.sets → slice_get image.ops op ≡ Some entry → IsReplyOf image (longest_done image entry)
done_is_line image op entry few named =
    let given = have_longest image entry.outputs few in
    record {
      op = Some op;
      end = Done 0;
      outputs = given.numbers;
      called = (entry, named, given.many);
      placed = tt;
      words = given.words;
      left = ap (λ (texts : List (List ℕ)). entry.name ++ given_text texts ++ codes "\n") (sym given.texts) ∙
          ap (λ (o : Option OpEntry). entry_name o ++ given_text (value_texts image (entry_outputs o) given.numbers) ++ codes "\n") (sym named);
    }

stop_text : (name : List ℕ) → name ++ longest_stop ≡ name ++ codes " trapped " ++ codes "Overflow" ++ codes " at " ++ decimal 4294967295 ++ codes "\n"
unfolding digits
stop_text name = simp append_assoc

stop_is_line : (image : Image) (op : ℕ) (entry : OpEntry) → All (λ names. length names < 2 ^ 63) image.sets → slice_get image.ops op ≡ Some entry → IsReplyOf image (entry.name ++ longest_stop)
stop_is_line image op entry few named =
    let given = have_longest image entry.outputs few in
    record {
      op = Some op;
      end = Trapped Overflow 4294967295 0;
      outputs = given.numbers;
      called = (entry, named, given.many);
      placed = lit< tt;
      words = given.words;
      left = stop_text entry.name ∙ ap (λ (o : Option OpEntry). entry_name o ++ codes " trapped " ++ codes "Overflow" ++ codes " at " ++ decimal 4294967295 ++ codes "\n") (sym named);
    }

init_is_line : (image : Image) → IsReplyOf image (codes "initialisation" ++ longest_stop)
init_is_line image = record {
  op = None;
  end = Trapped Overflow 4294967295 0;
  outputs = [];
  called = refl;
  placed = lit< tt;
  words = All-nil (FitsSigned w64);
  left = stop_text (codes "initialisation");
}

closing_text_is : longest_closing ≡ closing_text 4294967295 18446744073709551615
unfolding digits
closing_text_is = refl

closing_is_line : IsClosing longest_closing
closing_is_line = record { calls = 4294967295; steps = 18446744073709551615; few_calls = lit< tt; few_steps = lit< tt; left = closing_text_is }

same_line : {a b : List ℕ} → Some a ≡ Some b → a ≡ b
same_line h = cc

reply_is_line : (image : Image) (op : ℕ) (entry : OpEntry) → All (λ names. length names < 2 ^ 63) image.sets → slice_get image.ops op ≡ Some entry →
    (i : ℕ) → slice_get (longest_done image entry ∷ (entry.name ++ longest_stop) ∷ []) i ≡ Some (longest_reply image entry) → IsReplyOf image (longest_reply image entry)
reply_is_line image op entry few named zero at = subst (IsReplyOf image) (same_line at) (done_is_line image op entry few named)
reply_is_line image op entry few named (suc zero) at = subst (IsReplyOf image) (same_line at) (stop_is_line image op entry few named)
reply_is_line image op entry few named (suc (suc i)) at = absurd cc

mapped : (image : Image) (line : List ℕ) (o : Option OpEntry) → option_map (longest_reply image) o ≡ Some line → (entry : OpEntry) × (o ≡ Some entry) × (longest_reply image entry ≡ line)
mapped image line None h = absurd cc
mapped image line (Some entry) h = (entry, refl, same_line h)

found_is_line : (image : Image) (line : List ℕ) (i : ℕ) → All (λ names. length names < 2 ^ 63) image.sets →
    slice_get (longest_closing ∷ (codes "initialisation" ++ longest_stop) ∷ map (longest_reply image) image.ops) i ≡ Some line → IsLineOf image line
found_is_line image line zero few at = inr (subst IsClosing (same_line at) closing_is_line)
found_is_line image line (suc zero) few at = inl (subst (IsReplyOf image) (same_line at) (init_is_line image))
found_is_line image line (suc (suc op)) few at =
    let reply = mapped image line (slice_get image.ops op) (sym (slice_get-map (longest_reply image) image.ops op) ∙ at) in
    let found = longest_is (longest_done image reply.0) ((reply.0.name ++ longest_stop) ∷ []) in
    inl (subst (IsReplyOf image) reply.2 (reply_is_line image op reply.0 few reply.1 found.0 found.1))

pub longest_is_line : LongestIsLine
unfolding longest_line
longest_is_line image few =
    let found = longest_is longest_closing ((codes "initialisation" ++ longest_stop) ∷ map (longest_reply image) image.ops) in
    found_is_line image (longest_line image) found.0 few found.1
