-- What is read of a text is its script or its first line at fault.
use Rattle.std.proofs.Common.{◌≡◌, ℕ, zero, suc, ◌+◌, ◌<◌, ◌≤◌, ◌⊎◌, inl, inr, refl, sym, ◌∙◌, ap, subst, arith, Bool, true, false, eqb, cond, List, [], ◌∷◌, length, take, Some, Result, Ok, Err}
use Rattle.std.specs.Prelude.{◌≢◌, All, slice_get}
use Rattle.std.specs.List.{AllZip}
use Rattle.std.specs.Str.Lines.{lines}
use Rattle.std.proofs.lemmas.Bool.{cases_Bool, cond-true, cond-false, eqb-true, eqb-false}
use Rattle.std.proofs.lemmas.List.Elements.{All-nil, All-cons}
use Rattle.bk_code.specs.declared.image.Image.{Image}
use Rattle.bk_code.specs.Session.{Request}
use Rattle.bk_code.specs.Laws.{IsRequest}
use Rattle.bk_lines.specs.Lines.{is_skipped}
use Rattle.bk_calls.specs.Script.{AsksFor, IsScript, Cause, HasCause, line_at, IsAtFault, most_calls, counted, calls_before, IsBadLine, PassesLimit}
use Rattle.bk_calls.specs.Laws.{HasOneScript, IsScriptWithoutFault, AsksOrIsAtFault, IsReadOneWay}
use Rattle.bk_calls.specs.Reading.{Stop, AtFault, AtLimit, read_line, in_front, from_line, read_lines}
use Rattle.bk_calls.proofs.Operations.{asks, asked, caused, has_cause, values_count}

-- ---- one line more
kept_skipped : (line : List ℕ) (rest : List (List ℕ)) → is_skipped line ≡ true → counted (line ∷ rest) ≡ counted rest
kept_skipped line rest h = rw h refl

kept_read : (line : List ℕ) (rest : List (List ℕ)) → is_skipped line ≡ false → counted (line ∷ rest) ≡ line ∷ counted rest
kept_read line rest h = rw h refl

-- what is read behind a line that is one call more
abbrev after_call : Image → ℕ → ℕ → List (List ℕ) → Result (List Request) Stop
after_call image n a rest = read_lines image (n + 1) (a + 1) rest

read_skipped : (image : Image) (n a : ℕ) (line : List ℕ) (rest : List (List ℕ)) → is_skipped line ≡ true → read_lines image n a (line ∷ rest) ≡ read_lines image (n + 1) a rest
read_skipped image n a line rest h = cond-true (is_skipped line) (read_lines image (n + 1) a rest) (from_line (read_line image line) (n + 1) a (after_call image n a rest)) h

read_read : (image : Image) (n a : ℕ) (line : List ℕ) (rest : List (List ℕ)) → is_skipped line ≡ false → read_lines image n a (line ∷ rest) ≡ from_line (read_line image line) (n + 1) a (after_call image n a rest)
read_read image n a line rest h = cond-false (is_skipped line) (read_lines image (n + 1) a rest) (from_line (read_line image line) (n + 1) a (after_call image n a rest)) h

-- a line that asks for a call, which is past the limit or not
abbrev called : Bool → Request → Result (List Request) Stop → Result (List Request) Stop
called past request r = cond past (Err AtLimit) (in_front (request ∷ []) r)

called_ok : (past : Bool) (request : Request) (r : Result (List Request) Stop) (requests : List Request) → called past request r ≡ Ok requests →
    (past ≡ false) × ((others : List Request) × (r ≡ Ok others) × (requests ≡ request ∷ others))
called_ok true request r requests h = absurd cc
called_ok false request (Err stop) requests h = absurd cc
called_ok false request (Ok others) requests h = (refl, (others, refl, cc))

called_err : (past : Bool) (request : Request) (r : Result (List Request) Stop) (stop : Stop) → called past request r ≡ Err stop → ((past ≡ true) × (AtLimit ≡ stop)) ⊎ ((past ≡ false) × (r ≡ Err stop))
called_err true request r stop h = inl (refl, cc)
called_err false request (Ok others) stop h = absurd cc
called_err false request (Err other) stop h = inr (refl, cc)

from_ok : (o : Result Request Cause) (n a : ℕ) (r : Result (List Request) Stop) (requests : List Request) → from_line o n a r ≡ Ok requests →
    (request : Request) × (others : List Request) × (o ≡ Ok request) × (r ≡ Ok others) × (requests ≡ request ∷ others) × (a ≢ most_calls)
from_ok (Err cause) n a r requests h = absurd cc
from_ok (Ok request) n a r requests h =
    let parts = called_ok (eqb a most_calls) request r requests h in
    (request, parts.1.0, refl, parts.1.1, parts.1.2, eqb-false a most_calls parts.0)

-- a line at fault, a call past the limit, or a stop behind a call
from_err : (o : Result Request Cause) (n a : ℕ) (r : Result (List Request) Stop) (stop : Stop) → from_line o n a r ≡ Err stop →
    ((cause : Cause) × (o ≡ Err cause) × (AtFault n cause ≡ stop)) ⊎ ((request : Request) × (o ≡ Ok request) × (((a ≡ most_calls) × (AtLimit ≡ stop)) ⊎ ((a ≢ most_calls) × (r ≡ Err stop))))
from_err (Err cause) n a r stop h = inl (cause, refl, cc)
from_err (Ok request) n a r stop h =
    elim (called_err (eqb a most_calls) request r stop h) [
      | inl past ↦ inr (request, refl, inl (eqb-true a most_calls past.0, past.1))
      | inr more ↦ inr (request, refl, inr (eqb-false a most_calls more.0, more.1))
    ]

-- ---- lines
pub one_request : (image : Image) (line : List ℕ) (request other : Request) → AsksFor image line request → AsksFor image line other → request ≡ other
one_request image line request other h k = (let e : Ok request ≡ Ok other = sym (asked image line request h) ∙ asked image line other k in cc)

pub asks_or_fault : (image : Image) (line : List ℕ) (request : Request) (cause : Cause) → AsksFor image line request → IsAtFault image line cause → ⊥
asks_or_fault image line request cause h k = (let e : Ok request ≡ Err cause = sym (asked image line request h) ∙ has_cause image line cause k.wrong in absurd cc)

pub one_cause : (image : Image) (line : List ℕ) (cause other : Cause) → IsAtFault image line cause → IsAtFault image line other → cause ≡ other
one_cause image line cause other h k = (let e : Err cause ≡ Err other = sym (has_cause image line cause h.wrong) ∙ has_cause image line other k.wrong in cc)

line_cases : (image : Image) (line : List ℕ) → is_skipped line ≡ false → (r : Result Request Cause) → read_line image line ≡ r →
    ((request : Request) × AsksFor image line request) ⊎ ((cause : Cause) × IsAtFault image line cause)
line_cases image line read (Ok request) is = inl (request, asks image line request is)
line_cases image line read (Err cause) is = inr (cause, record { read = read; wrong = caused image line cause is })

pub asks_or_is_at_fault : AsksOrIsAtFault
asks_or_is_at_fault image line read = line_cases image line read (read_line image line) refl

pub is_read_one_way : IsReadOneWay
is_read_one_way = record { asks_or_fault = asks_or_fault; one_request = one_request; one_cause = one_cause }

-- ---- scripts
read_script : (image : Image) (n a : ℕ) (ls : List (List ℕ)) (requests : List Request) → read_lines image n a ls ≡ Ok requests → AllZip (AsksFor image) (counted ls) requests
read_script image n a [] requests h = (let e : [] ≡ requests = cc in subst (AllZip (AsksFor image) []) e tt)
read_script image n a (line ∷ rest) requests h =
    elim (cases_Bool (is_skipped line)) [
      | inl holds ↦ rw (kept_skipped line rest holds) (read_script image (n + 1) a rest requests (sym (read_skipped image n a line rest holds) ∙ h))
      | inr fails ↦ (
          let read = from_ok (read_line image line) (n + 1) a (after_call image n a rest) requests (sym (read_read image n a line rest fails) ∙ h) in
          rw (kept_read line rest fails, read.4) (asks image line read.0 read.2, read_script image (n + 1) (a + 1) rest read.1 read.3))
    ]

-- no more calls are read than the limit
read_few : (image : Image) (n a : ℕ) (ls : List (List ℕ)) (requests : List Request) → read_lines image n a ls ≡ Ok requests → a ≤ most_calls → a + length requests ≤ most_calls
read_few image n a [] requests h low = (let e : [] ≡ requests = cc in subst (λ (t : List Request). a + length t ≤ most_calls) e (omega arith))
read_few image n a (line ∷ rest) requests h low =
    elim (cases_Bool (is_skipped line)) [
      | inl holds ↦ read_few image (n + 1) a rest requests (sym (read_skipped image n a line rest holds) ∙ h) low
      | inr fails ↦ (
          let read = from_ok (read_line image line) (n + 1) a (after_call image n a rest) requests (sym (read_read image n a line rest fails) ∙ h) in
          let other = read.5 in
          let more = read_few image (n + 1) (a + 1) rest read.1 read.3 (omega arith) in
          rw (read.4) (omega arith))
    ]

one_list : (image : Image) (ls : List (List ℕ)) (requests others : List Request) → AllZip (AsksFor image) ls requests → AllZip (AsksFor image) ls others → requests ≡ others
one_list image [] [] [] h k = refl
one_list image [] [] (o ∷ others) h k = absurd k
one_list image [] (r ∷ requests) others h k = absurd h
one_list image (line ∷ ls) [] others h k = absurd h
one_list image (line ∷ ls) (r ∷ requests) [] h k = absurd k
one_list image (line ∷ ls) (r ∷ requests) (o ∷ others) h k =
    let whole : r ≡ o = one_request image line r o h.0 k.0 in
    ap (λ t. t ∷ requests) whole ∙ ap (λ t. o ∷ t) (one_list image ls requests others h.1 k.1)

pub has_one_script : HasOneScript
has_one_script image text requests others h k = one_list image (counted (lines text)) requests others h k

-- ---- faults
-- the line at that place is the first at fault, behind so many lines and calls, and the lines before it ask for no more calls
-- than the limit
record FirstIn (image : Image) (n a : ℕ) (ls : List (List ℕ)) (number : ℕ) (cause : Cause) : Type 0 where
  place : ℕ
  counts : n + place + 1 ≡ number
  few : length (counted (take place ls)) + a ≤ most_calls
  line : List ℕ
  stands : slice_get ls place ≡ Some line
  fault : IsAtFault image line cause
  first : (j : ℕ) (other : List ℕ) (any : Cause) → j < place → slice_get ls j ≡ Some other → IsAtFault image other any → ⊥

-- the line is not at fault
abbrev Sound : Image → List ℕ → Type 0
Sound image line = (cause : Cause) → IsAtFault image line cause → ⊥

first_more : (image : Image) (line : List ℕ) (rest : List (List ℕ)) (place : ℕ) → Sound image line →
    ((j : ℕ) (other : List ℕ) (any : Cause) → j < place → slice_get rest j ≡ Some other → IsAtFault image other any → ⊥) →
    (j : ℕ) (other : List ℕ) (any : Cause) → j < suc place → slice_get (line ∷ rest) j ≡ Some other → IsAtFault image other any → ⊥
first_more image line rest place here below zero other any lt at fault = (let e : other ≡ line = cc in here any (subst (λ l. IsAtFault image l any) e fault))
first_more image line rest place here below (suc j) other any lt at fault = below j other any (omega arith) at fault

-- one line more in front, which is skipped or asks for a call
later : (image : Image) (n a b : ℕ) (line : List ℕ) (rest : List (List ℕ)) (number : ℕ) (cause : Cause) → Sound image line →
    ((place : ℕ) → length (counted (line ∷ take place rest)) + a ≡ length (counted (take place rest)) + b) → FirstIn image (n + 1) b rest number cause → FirstIn image n a (line ∷ rest) number cause
later image n a b line rest number cause here same h = record {
  place = suc h.place;
  counts = (let c = h.counts in omega arith);
  few = (let c = h.few in let e : length (counted (take (suc h.place) (line ∷ rest))) + a ≡ length (counted (take h.place rest)) + b = same h.place in omega arith);
  line = h.line;
  stands = h.stands;
  fault = h.fault;
  first = first_more image line rest h.place here h.first;
}

pub skipped_more : (line : List ℕ) (rest : List (List ℕ)) (a : ℕ) → is_skipped line ≡ true → length (counted (line ∷ rest)) + a ≡ length (counted rest) + a
skipped_more line rest a h = ap (λ t. length t + a) (kept_skipped line rest h)

pub asked_more : (line : List ℕ) (rest : List (List ℕ)) (a : ℕ) → is_skipped line ≡ false → length (counted (line ∷ rest)) + a ≡ length (counted rest) + (a + 1)
asked_more line rest a h = (let e : length (counted (line ∷ rest)) ≡ suc (length (counted rest)) = ap length (kept_read line rest h) in omega arith)

same_number : (n m : ℕ) (cause reason : Cause) → AtFault n cause ≡ AtFault m reason → (n ≡ m) × (cause ≡ reason)
same_number n m cause reason h = (cc, cc)

skipped_sound : (image : Image) (line : List ℕ) → is_skipped line ≡ true → Sound image line
skipped_sound image line holds cause fault = (let e = fault.read in absurd cc)

read_fault : (image : Image) (n a : ℕ) (ls : List (List ℕ)) (number : ℕ) (cause : Cause) → read_lines image n a ls ≡ Err (AtFault number cause) → a ≤ most_calls → FirstIn image n a ls number cause
read_fault image n a [] number cause h low = absurd cc
read_fault image n a (line ∷ rest) number cause h low =
    elim (cases_Bool (is_skipped line)) [
      | inl holds ↦ later image n a a line rest number cause (skipped_sound image line holds) (λ place. skipped_more line (take place rest) a holds)
          (read_fault image (n + 1) a rest number cause (sym (read_skipped image n a line rest holds) ∙ h) low)
      | inr fails ↦ elim (from_err (read_line image line) (n + 1) a (after_call image n a rest) (AtFault number cause) (sym (read_read image n a line rest fails) ∙ h)) [
        | inl none ↦ (
            let same = same_number (n + 1) number none.0 cause none.2 in
            record {
              place = zero;
              counts = (let e = same.0 in omega arith);
              few = omega arith;
              line = line;
              stands = refl;
              fault = record { read = fails; wrong = subst (HasCause image line) same.1 (caused image line none.0 none.1) };
              first = λ j other any lt. absurd (omega arith);
            })
        | inr some ↦ elim (some.2) [
          | inl past ↦ (let e = past.1 in absurd cc)
          | inr more ↦ (
              let other = more.0 in
              later image n a (a + 1) line rest number cause (λ any. asks_or_fault image line some.0 any (asks image line some.0 some.1)) (λ place. asked_more line (take place rest) a fails)
              (read_fault image (n + 1) (a + 1) rest number cause more.1 (omega arith)))
        ]
      ]
    ]

before : (image : Image) (text : List ℕ) (number place : ℕ) → suc place ≡ number →
    ((j : ℕ) (other : List ℕ) (any : Cause) → j < place → slice_get (lines text) j ≡ Some other → IsAtFault image other any → ⊥) →
    (earlier : ℕ) (other : List ℕ) (any : Cause) → earlier < number → line_at text earlier ≡ Some other → IsAtFault image other any → ⊥
before image text number place counted below zero other any lt at fault = absurd cc
before image text number place counted below (suc j) other any lt at fault = below j other any (omega arith) at fault

pub bad_line : (image : Image) (text : List ℕ) (number : ℕ) (cause : Cause) → read_lines image 0 0 (lines text) ≡ Err (AtFault number cause) → IsBadLine image text number cause
bad_line image text number cause h =
    let found = read_fault image 0 0 (lines text) number cause h (omega arith) in
    let counts : suc found.place ≡ number = (let c = found.counts in omega arith) in
    let at : line_at text number ≡ Some found.line = subst (λ k. line_at text k ≡ Some found.line) counts found.stands in
    let few : calls_before text number ≤ most_calls = (let c = found.few in subst (λ k. calls_before text k ≤ most_calls) counts (omega arith)) in
    record { first = record { line = found.line; stands = at; fault = found.fault; first = before image text number found.place counts found.first }; few = few }

-- of the lines none is at fault
abbrev pub NoneAtFault : Image → List (List ℕ) → Type 0
NoneAtFault image ls = (k : ℕ) (line : List ℕ) (cause : Cause) → slice_get ls k ≡ Some line → IsAtFault image line cause → ⊥

covered_skipped : (image : Image) (first : List ℕ) (rest : List (List ℕ)) → is_skipped first ≡ true → NoneAtFault image rest → NoneAtFault image (first ∷ rest)
covered_skipped image first rest skipped others zero line cause at fault =
    let e : first ≡ line = cc in
    let f : is_skipped first ≡ false = ap is_skipped e ∙ fault.read in
    absurd cc
covered_skipped image first rest skipped others (suc k) line cause at fault = others k line cause at fault

covered_read : (image : Image) (first : List ℕ) (rest : List (List ℕ)) (requests : List Request) → AllZip (AsksFor image) (first ∷ counted rest) requests →
    ((others : List Request) → AllZip (AsksFor image) (counted rest) others → NoneAtFault image rest) → NoneAtFault image (first ∷ rest)
covered_read image first rest [] h others k line cause at fault = absurd h
covered_read image first rest (r ∷ requests) h others zero line cause at fault = (let e : first ≡ line = cc in asks_or_fault image line r cause (subst (λ t. AsksFor image t r) e h.0) fault)
covered_read image first rest (r ∷ requests) h others (suc k) line cause at fault = others requests h.1 k line cause at fault

-- where a text is a script, no line is at fault
pub covered : (image : Image) (ls : List (List ℕ)) (requests : List Request) → AllZip (AsksFor image) (counted ls) requests → NoneAtFault image ls
covered image [] requests h k line cause at fault = absurd cc
covered image (first ∷ rest) requests h k line cause at fault =
    elim (cases_Bool (is_skipped first)) [
      | inl holds ↦ covered_skipped image first rest holds (covered image rest requests (rw (kept_skipped first rest holds) at h)) k line cause at fault
      | inr fails ↦ covered_read image first rest requests (rw (kept_read first rest fails) at h) (λ others. covered image rest others) k line cause at fault
    ]

pub script_has_no_fault : (image : Image) (text : List ℕ) (requests : List Request) → IsScript image text requests → (number : ℕ) (line : List ℕ) (cause : Cause) → line_at text number ≡ Some line → IsAtFault image line cause → ⊥
script_has_no_fault image text requests h zero line cause at fault = absurd cc
script_has_no_fault image text requests h (suc k) line cause at fault = covered image (lines text) requests h k line cause at fault

-- a line that is read and not at fault asks for a request
asked_some : (image : Image) (line : List ℕ) → is_skipped line ≡ false → (r : Result Request Cause) → read_line image line ≡ r → Sound image line → (request : Request) × AsksFor image line request
asked_some image line read (Ok request) is sound = (request, asks image line request is)
asked_some image line read (Err cause) is sound = absurd (sound cause record { read = read; wrong = caused image line cause is })

-- lines of which none is at fault ask for some requests
asked_all : (image : Image) (ls : List (List ℕ)) → NoneAtFault image ls → (requests : List Request) × AllZip (AsksFor image) (counted ls) requests
asked_all image [] none = ([], tt)
asked_all image (line ∷ rest) none =
    let more = asked_all image rest (λ k. none (suc k)) in
    elim (cases_Bool (is_skipped line)) [
      | inl holds ↦ (more.0, rw (kept_skipped line rest holds) more.1)
      | inr fails ↦ (
          let call = asked_some image line fails (read_line image line) refl (λ cause. none 0 line cause refl) in
          (call.0 ∷ more.0, rw (kept_read line rest fails) (call.1, more.1)))
    ]

pub is_script_without_fault : IsScriptWithoutFault
is_script_without_fault image text = (
  λ h. script_has_no_fault image text h.0 h.1,
  λ none. asked_all image (lines text) (λ k line cause at. none (suc k) line cause at),
)

pub read_as_script : (image : Image) (text : List ℕ) (requests : List Request) → read_lines image 0 0 (lines text) ≡ Ok requests → IsScript image text requests
read_as_script image text requests h = read_script image 0 0 (lines text) requests h

pub read_within : (image : Image) (text : List ℕ) (requests : List Request) → read_lines image 0 0 (lines text) ≡ Ok requests → length requests ≤ most_calls
read_within image text requests h = (let few = read_few image 0 0 (lines text) requests h (omega arith) in omega arith)

-- ---- the limit
-- some first lines, behind so many calls, ask for more calls than the limit
record PassesIn (image : Image) (a : ℕ) (ls : List (List ℕ)) : Type 0 where
  count : ℕ
  requests : List Request
  asked : AllZip (AsksFor image) (counted (take count ls)) requests
  past : most_calls < a + length requests

read_past : (image : Image) (n a : ℕ) (ls : List (List ℕ)) → read_lines image n a ls ≡ Err AtLimit → a ≤ most_calls → PassesIn image a ls
read_past image n a [] h low = absurd cc
read_past image n a (line ∷ rest) h low =
    elim (cases_Bool (is_skipped line)) [
      | inl holds ↦ (
          let more = read_past image (n + 1) a rest (sym (read_skipped image n a line rest holds) ∙ h) low in
          record { count = suc more.count; requests = more.requests; asked = rw (kept_skipped line (take more.count rest) holds) (more.asked); past = more.past })
      | inr fails ↦ elim (from_err (read_line image line) (n + 1) a (after_call image n a rest) AtLimit (sym (read_read image n a line rest fails) ∙ h)) [
        | inl none ↦ (let e = none.2 in absurd cc)
        | inr some ↦ elim (some.2) [
          | inl past ↦ record {
            count = 1;
            requests = some.0 ∷ [];
            asked = rw (kept_read line [] fails) (asks image line some.0 some.1, tt);
            past = (let e = past.0 in omega arith);
          }
          | inr other ↦ (
              let differs = other.0 in
              let more = read_past image (n + 1) (a + 1) rest other.1 (omega arith) in
              record {
                count = suc more.count;
                requests = some.0 ∷ more.requests;
                asked = rw (kept_read line (take more.count rest) fails) (asks image line some.0 some.1, more.asked);
                past = (let p = more.past in omega arith);
              })
        ]
      ]
    ]

pub passes_limit : (image : Image) (text : List ℕ) → read_lines image 0 0 (lines text) ≡ Err AtLimit → PassesLimit image text
passes_limit image text h =
    let found = read_past image 0 0 (lines text) h (omega arith) in
    record { count = found.count; requests = found.requests; asked = found.asked; past = (let p = found.past in omega arith) }

-- ---- requests
request_fits : (image : Image) (line : List ℕ) (request : Request) → AsksFor image line request → IsRequest image request
request_fits image line request h = record {
  entry = h.entry;
  named = h.meant.stands;
  callable = record { counted = values_count image h.entry.inputs h.arguments request.args h.values; range = h.range };
}

pub requests_fit : (image : Image) (ls : List (List ℕ)) (requests : List Request) → AllZip (AsksFor image) ls requests → All (IsRequest image) requests
requests_fit image [] [] h = All-nil (IsRequest image)
requests_fit image [] (r ∷ requests) h = absurd h
requests_fit image (line ∷ ls) [] h = absurd h
requests_fit image (line ∷ ls) (r ∷ requests) h = All-cons (IsRequest image) r requests (request_fits image line r h.0) (requests_fit image ls requests h.1)
