-- A text is one of three: a script within the limit, a text with a bad line, or one that passes the limit.
use Rattle.std.proofs.Common.{◌≡◌, ℕ, zero, suc, ◌<◌, ◌≤◌, ◌⊎◌, inl, inr, refl, sym, ◌∙◌, ap, subst, arith, List, [], ◌∷◌, length, take, Some, Result, Ok, Err}
use Rattle.std.specs.Prelude.{slice_get, IsOk, IfOk, IfErr}
use Rattle.std.specs.Str.Lines.{lines}
use Rattle.std.proofs.lemmas.Bool.{cases_Bool, cases_lt, cases_order}
use Rattle.std.proofs.lemmas.Slice.Zip.{AllZip-long}
use Rattle.bk_code.specs.declared.image.Image.{Image}
use Rattle.bk_code.specs.Session.{Request}
use Rattle.bk_lines.specs.Lines.{is_skipped}
use Rattle.bk_calls.specs.declared.script.CallsFault.{CallsFault}
use Rattle.bk_calls.specs.declared.script.CallsFault.TheVariants.{Line, NoOperation, Arguments, Number, Limit, Memory}
use Rattle.bk_calls.specs.Script.{AsksFor, IsScript, Cause, NoCall, UnknownName, WrongArguments, OutOfRange, IsAtFault, IsFirstFault, IsBadLine, PassesLimit, most_calls, counted, line_at}
use Rattle.bk_calls.specs.Laws.{IsOneOfThree, AreApart}
use Rattle.bk_calls.specs.Reading.{Stop, AtFault, AtLimit, read_lines}
use Rattle.bk_calls.specs.Outcome.{IsFaultOf, fault_of}
use Rattle.bk_calls.proofs.Scripts.{one_cause, skipped_more, asked_more, covered, script_has_no_fault, bad_line, read_as_script, read_within, passes_limit}

-- ---- lines that count, in the first lines of a text
counted_within : (count place : ℕ) (ls : List (List ℕ)) → count ≤ place → length (counted (take count ls)) ≤ length (counted (take place ls))
counted_within zero place ls le = omega arith
counted_within (suc count) zero ls le = absurd (omega arith)
counted_within (suc count) (suc place) [] le = omega arith
counted_within (suc count) (suc place) (line ∷ rest) le =
    let more = counted_within count place rest (omega arith) in
    elim (cases_Bool (is_skipped line)) [
      | inl holds ↦ omega (arith, skipped_more line (take count rest) 0 holds, skipped_more line (take place rest) 0 holds)
      | inr fails ↦ omega (arith, asked_more line (take count rest) 0 fails, asked_more line (take place rest) 0 fails)
    ]

counted_fewer : (count : ℕ) (ls : List (List ℕ)) → length (counted (take count ls)) ≤ length (counted ls)
counted_fewer zero ls = omega arith
counted_fewer (suc count) [] = omega arith
counted_fewer (suc count) (line ∷ rest) =
    let more = counted_fewer count rest in
    elim (cases_Bool (is_skipped line)) [
      | inl holds ↦ omega (arith, skipped_more line (take count rest) 0 holds, skipped_more line rest 0 holds)
      | inr fails ↦ omega (arith, asked_more line (take count rest) 0 fails, asked_more line rest 0 fails)
    ]

get_taken : (count place : ℕ) (ls : List (List ℕ)) → place < count → slice_get (take count ls) place ≡ slice_get ls place
get_taken zero place ls lt = absurd (omega arith)
get_taken (suc count) place [] lt = refl
get_taken (suc count) zero (line ∷ rest) lt = refl
get_taken (suc count) (suc place) (line ∷ rest) lt = get_taken count place rest (omega arith)

-- ---- no two of the three
same_place : (image : Image) (text : List ℕ) (m n : ℕ) (cause reason : Cause) → IsFirstFault image text m cause → IsFirstFault image text n reason → m ≡ n
same_place image text m n cause reason h k =
    elim (cases_order m n) [
      | inl same ↦ same
      | inr (inl lt) ↦ absurd (k.first m h.line cause lt h.stands h.fault)
      | inr (inr lt) ↦ absurd (h.first n k.line reason lt k.stands k.fault)
    ]

one_fault : (image : Image) (text : List ℕ) (m n : ℕ) (cause reason : Cause) → IsFirstFault image text m cause → IsFirstFault image text n reason → (m ≡ n) × (cause ≡ reason)
one_fault image text m n cause reason h k =
    let place : m ≡ n = same_place image text m n cause reason h k in
    let lines_same : Some h.line ≡ Some k.line = sym h.stands ∙ ap (line_at text) place ∙ k.stands in
    let line : h.line ≡ k.line = cc in
    (place, one_cause image k.line cause reason (subst (λ l. IsAtFault image l cause) line h.fault) k.fault)

script_or_line : (image : Image) (text : List ℕ) (requests : List Request) (number : ℕ) (cause : Cause) → IsScript image text requests → IsBadLine image text number cause → ⊥
script_or_line image text requests number cause script bad =
    let first = bad.first in
    script_has_no_fault image text requests script number first.line cause first.stands first.fault

script_or_limit : (image : Image) (text : List ℕ) (requests : List Request) → IsScript image text requests → length requests ≤ most_calls → PassesLimit image text → ⊥
script_or_limit image text requests script few passes =
    let all = AllZip-long (AsksFor image) (counted (lines text)) requests script in
    let some = AllZip-long (AsksFor image) (counted (take passes.count (lines text))) passes.requests passes.asked in
    let past = passes.past in
    let fewer = counted_fewer passes.count (lines text) in
    absurd (omega arith)

line_or_limit : (image : Image) (text : List ℕ) (number : ℕ) (cause : Cause) → IsBadLine image text number cause → PassesLimit image text → ⊥
line_or_limit image text zero cause bad passes = (let stands = bad.first.stands in absurd cc)
line_or_limit image text (suc place) cause bad passes =
    let first = bad.first in
    elim (cases_lt place passes.count) [
      | inl lt ↦ covered image (take passes.count (lines text)) passes.requests passes.asked place first.line cause (get_taken passes.count place (lines text) lt ∙ first.stands) first.fault
      | inr ge ↦ (
          let some = AllZip-long (AsksFor image) (counted (take passes.count (lines text))) passes.requests passes.asked in
          let past = passes.past in
          let few : length (counted (take place (lines text))) ≤ most_calls = bad.few in
          let fewer = counted_within passes.count place (lines text) ge in
          absurd (omega arith))
    ]

pub are_apart : AreApart
are_apart = record {
  script_or_line = script_or_line;
  script_or_limit = script_or_limit;
  line_or_limit = line_or_limit;
  one_line = λ image text number other cause reason h k. one_fault image text number other cause reason h.first k.first;
}

-- ---- one of the three
stop_cases : (image : Image) (text : List ℕ) (stop : Stop) → read_lines image 0 0 (lines text) ≡ Err stop → ((number : ℕ) × (cause : Cause) × IsBadLine image text number cause) ⊎ PassesLimit image text
stop_cases image text (AtFault number cause) h = inl (number, cause, bad_line image text number cause h)
stop_cases image text AtLimit h = inr (passes_limit image text h)

reading_cases : (image : Image) (text : List ℕ) (r : Result (List Request) Stop) → read_lines image 0 0 (lines text) ≡ r →
    ((requests : List Request) × IsScript image text requests × (length requests ≤ most_calls)) ⊎ (((number : ℕ) × (cause : Cause) × IsBadLine image text number cause) ⊎ PassesLimit image text)
reading_cases image text (Ok requests) h = inl (requests, read_as_script image text requests h, read_within image text requests h)
reading_cases image text (Err stop) h = inr (stop_cases image text stop h)

pub is_one_of_three : IsOneOfThree
is_one_of_three image text = reading_cases image text (read_lines image 0 0 (lines text)) refl

-- ---- what is answered: this, or memory is wanted
-- a fault is that of a line with some cause, or the limit, or want of memory
pub fault_cases : (image : Image) (text : List ℕ) (fault : CallsFault) → IsFaultOf image text fault →
    ((number : ℕ) × (cause : Cause) × (fault ≡ fault_of cause number) × IsBadLine image text number cause) ⊎ (((fault ≡ Limit) × PassesLimit image text) ⊎ (fault ≡ Memory))
fault_cases image text (Line number) h = inl (number, NoCall, refl, bad_line image text number NoCall h)
fault_cases image text (NoOperation number) h = inl (number, UnknownName, refl, bad_line image text number UnknownName h)
fault_cases image text (Arguments number) h = inl (number, WrongArguments, refl, bad_line image text number WrongArguments h)
fault_cases image text (Number number) h = inl (number, OutOfRange, refl, bad_line image text number OutOfRange h)
fault_cases image text Limit h = inr (inl (refl, passes_limit image text h))
fault_cases image text Memory h = inr (inr refl)

pub told_line : (image : Image) (text : List ℕ) (cause : Cause) (number : ℕ) → IsFaultOf image text (fault_of cause number) → IsBadLine image text number cause
told_line image text NoCall number h = bad_line image text number NoCall h
told_line image text UnknownName number h = bad_line image text number UnknownName h
told_line image text WrongArguments number h = bad_line image text number WrongArguments h
told_line image text OutOfRange number h = bad_line image text number OutOfRange h

pub script_is_told : {X : Type 0} (image : Image) (text : List ℕ) (r : Result X CallsFault) → IfErr r (IsFaultOf image text) →
    (requests : List Request) → IsScript image text requests → length requests ≤ most_calls → IsOk r ⊎ (r ≡ Err Memory)
script_is_told image text (Ok x) err requests script few = inl refl
script_is_told image text (Err fault) err requests script few =
    elim (fault_cases image text fault err) [
      | inl line ↦ absurd (script_or_line image text requests line.0 line.1 script line.3)
      | inr (inl limit) ↦ absurd (script_or_limit image text requests script few limit.1)
      | inr (inr memory) ↦ inr (ap (λ f. Err f) memory)
    ]

pub line_is_told : {X : Type 0} (requests_of : X → List Request) (image : Image) (text : List ℕ) (r : Result X CallsFault) →
    IfOk r (λ x. read_lines image 0 0 (lines text) ≡ Ok (requests_of x)) → IfErr r (IsFaultOf image text) → (number : ℕ) (cause : Cause) → IsBadLine image text number cause →
    (r ≡ Err (fault_of cause number)) ⊎ (r ≡ Err Memory)
line_is_told requests_of image text (Ok x) ok err number cause bad = absurd (script_or_line image text (requests_of x) number cause (read_as_script image text (requests_of x) ok) bad)
line_is_told requests_of image text (Err fault) ok err number cause bad =
    elim (fault_cases image text fault err) [
      | inl line ↦ (
          let same = one_fault image text line.0 number line.1 cause line.3.first bad.first in
          inl (ap (λ f. Err f) (line.2 ∙ ap (λ n. fault_of line.1 n) same.0 ∙ ap (λ c. fault_of c number) same.1)))
      | inr (inl limit) ↦ absurd (line_or_limit image text number cause bad limit.1)
      | inr (inr memory) ↦ inr (ap (λ f. Err f) memory)
    ]

pub limit_is_told : {X : Type 0} (requests_of : X → List Request) (image : Image) (text : List ℕ) (r : Result X CallsFault) →
    IfOk r (λ x. read_lines image 0 0 (lines text) ≡ Ok (requests_of x)) → IfErr r (IsFaultOf image text) → PassesLimit image text →
    (r ≡ Err Limit) ⊎ (r ≡ Err Memory)
limit_is_told requests_of image text (Ok x) ok err passes =
    absurd (script_or_limit image text (requests_of x) (read_as_script image text (requests_of x) ok) (read_within image text (requests_of x) ok) passes)
limit_is_told requests_of image text (Err fault) ok err passes =
    elim (fault_cases image text fault err) [
      | inl line ↦ absurd (line_or_limit image text line.0 line.1 line.3 passes)
      | inr (inl limit) ↦ inl (ap (λ f. Err f) limit.0)
      | inr (inr memory) ↦ inr (ap (λ f. Err f) memory)
    ]
