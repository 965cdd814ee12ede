-- What is written of a session that the sink cuts short is a front of its transcript.
use Rattle.std.proofs.Common.{◌≡◌, ℕ, zero, suc, ◌+◌, ℤ, List, [], ◌∷◌, ◌++◌, length, take, drop, Option, Some, None, Result, Ok, Err, OnErr, refl, sym, ◌∙◌, ap, subst, arith}
use Rattle.std.proofs.Math.Seq.{take-append-add, take-append-le}
use Rattle.std.proofs.lemmas.List.{length-append}
use Rattle.bk_io.specs.Pieces.{written_with, WroteFront}
use Rattle.bk_code.specs.declared.image.Image.{Image}
use Rattle.bk_code.specs.Run.{End, Done, Trapped, OutOfFuel}
use Rattle.bk_code.specs.Session.{first_start, Request, Told, Continues, Session}
use Rattle.bk_code.proofs.Sessions.{one_session}
use Rattle.bk_vm.specs.declared.end.CallEnd.{CallEnd}
use Rattle.bk_vm.specs.Ends.{end_of, EndsWith, CallEndsWith}
use Rattle.bk_vm.specs.State.{TakesCall}
use Rattle.bk_vm.specs.Sessions.{told_of, StartsSession, ContinuesSession}
use Rattle.bk_calls.specs.Transcript.{reply_text, replies_text, done_count, step_sum, steps_of, closing_text, transcript}
use Rattle.bk_verbs.specs.Session.{PlaysCalls, PlaysCallFront, PlaysCallsFront, PlaysFront}
use Rattle.bk_verbs.proofs.Plays.{told_end, told_cells, told_line, first_line, written_nothing, written_twice, append_assoc, IsDone, Sofar, reaches_more, lines_more, goes_on, over_nothing}

-- ---- fronts of texts
-- nothing is a front of every text
pub no_front : (text : List ℕ) (start after : Option (List ℕ)) → after ≡ start → WroteFront text start after
no_front text start after e = record { count = 0; within = omega arith; front = e ∙ written_nothing start }

-- of a longer text
pub front_longer : (xs ys : List ℕ) (old new : Option (List ℕ)) → WroteFront xs old new → WroteFront (xs ++ ys) old new
front_longer xs ys old new w = record {
  count = w.count;
  within = omega (arith, w.within, length-append xs ys);
  front = w.front ∙ ap (written_with old) (sym (take-append-le w.count xs ys w.within));
}

-- of a text whose first part was written before
pub front_later : (xs ys : List ℕ) (old mid new : Option (List ℕ)) → mid ≡ written_with old xs → WroteFront ys mid new → WroteFront (xs ++ ys) old new
front_later xs ys old mid new e w = record {
  count = length xs + w.count;
  within = omega (arith, w.within, length-append xs ys);
  front = w.front ∙ (ap (λ m. written_with m (take w.count ys)) e ∙ (written_twice old xs (take w.count ys) ∙ ap (written_with old) (sym (take-append-add xs ys w.count))));
}

-- whatever is answered in its stead
pub on_err : {T E : Type 0} (r : Result T E) (P : Type 0) → P → OnErr r P
on_err (Ok t) P p = tt
on_err (Err e) P p = p

-- nothing is a front
pub nothing_played : (image : Image) (fuel : ℕ) (requests : List Request) (old new : Option (List ℕ)) → new ≡ old → PlaysFront image fuel requests old new
nothing_played image fuel requests old new e tolds s = no_front (transcript image fuel requests tolds) old new e

-- ---- one call, and calls one after another
pub call_front : ContinuesSession → (image : Image) (fuel : ℕ) (op : ℕ) (args before outs : List ℤ) (end : CallEnd) (after given : List ℤ) (shown : Image) (values : List ℤ) (old new : Option (List ℕ)) →
    TakesCall image op args (length outs) → CallEndsWith image op args fuel before outs end after given → shown ≡ image → values ≡ given →
    WroteFront (reply_text shown (Some op) (end_of end) values) old new →
    PlaysCallFront image fuel (record { op = op; args = args }) before old new
call_front law image fuel op args before outs end after given shown values old new takes ends e f front =
    let same : reply_text shown (Some op) (end_of end) values ≡ reply_text image (Some op) (told_of end given after).end (told_of end given after).outputs =
    ap (λ x. reply_text x (Some op) (end_of end) values) e ∙ (ap (λ x. reply_text image (Some op) (end_of end) x) f ∙ (told_line image (Some op) end given after ∙ ap (λ x. reply_text image (Some op) x (told_of end given after).outputs) (sym (told_end end given after)))) in
    record {
      told = told_of end given after;
      answers = law image op args fuel before outs end after given takes ends;
      front = subst (λ x. WroteFront x old new) same front;
    }

pub calls_front : (image : Image) (fuel : ℕ) (requests : List Request) (n : ℕ) (r : Request) (e : End) (c : List ℤ) (f : End) (d : List ℤ) (done steps : ℕ) (old mid new : Option (List ℕ)) →
    take (n + 1) requests ≡ take n requests ++ r ∷ [] → Sofar image fuel (take n requests) e c f d done steps old mid → IsDone f → PlaysCallFront image fuel r d mid new →
    PlaysCallsFront image fuel requests e c old new
calls_front image fuel requests n r e c f d done steps old mid new more s is_done p =
    let rs = take n requests in
    let tolds = s.tolds ++ p.told ∷ [] in
    let goes : Continues image fuel e c ((rs ++ r ∷ []) ++ []) tolds = goes_on image fuel e c (rs ++ r ∷ []) tolds p.told.end p.told.cells [] (reaches_more image fuel e c rs s.tolds f d r p.told s.reaches is_done p.answers) (over_nothing p.told.end) in
    record {
      count = n + 1;
      tolds = tolds;
      goes_on = subst (λ x. Continues image fuel e c x tolds) (append_requests (rs ++ r ∷ []) ∙ sym more) goes;
      front = subst (λ x. WroteFront (replies_text image x tolds) old new) (sym more) (subst (λ x. WroteFront x old new) (sym (lines_more image fuel e c rs s.tolds f d r p.told s.reaches))
          (front_later (replies_text image rs s.tolds) (reply_text image (Some r.op) p.told.end p.told.outputs) old mid new s.written p.front));
    }
  where
    append_requests : (xs : List Request) → xs ++ [] ≡ xs
    append_requests [] = refl
    append_requests (x ∷ xs) = ap (λ ys. x ∷ ys) (append_requests xs)

-- ---- a session over the first of its calls
continues_front : (image : Image) (fuel : ℕ) (n : ℕ) (e : End) (c : List ℤ) (rs : List Request) (ts : List Told) → Continues image fuel e c rs ts → Continues image fuel e c (take n rs) (take n ts)
continues_front image fuel zero (Done k) c rs ts h = tt
continues_front image fuel zero (Trapped kind place k) c rs ts h = tt
continues_front image fuel zero OutOfFuel c rs ts h = tt
continues_front image fuel (suc n) (Done k) c [] [] h = tt
continues_front image fuel (suc n) (Done k) c [] (t ∷ ts) h = absurd h
continues_front image fuel (suc n) (Done k) c (r ∷ rs) [] h = absurd h
continues_front image fuel (suc n) (Done k) c (r ∷ rs) (t ∷ ts) h = (h.0, continues_front image fuel n t.end t.cells rs ts h.1)
continues_front image fuel (suc n) (Trapped kind place k) c rs [] h = tt
continues_front image fuel (suc n) (Trapped kind place k) c rs (t ∷ ts) h = absurd h
continues_front image fuel (suc n) OutOfFuel c rs [] h = tt
continues_front image fuel (suc n) OutOfFuel c rs (t ∷ ts) h = absurd h

session_front : (image : Image) (fuel : ℕ) (n : ℕ) (rs : List Request) (t : Told) (ts : List Told) → Session image fuel rs (t ∷ ts) → Session image fuel (take n rs) (t ∷ take n ts)
session_front image fuel n rs t ts h = (h.0, continues_front image fuel n t.end t.cells rs ts h.1)

no_replies : (image : Image) (rs : List Request) → replies_text image rs [] ≡ []
no_replies image [] = refl
no_replies image (r ∷ rs) = refl

replies_front : (image : Image) (n : ℕ) (rs : List Request) (ts : List Told) → replies_text image rs ts ≡ replies_text image (take n rs) (take n ts) ++ replies_text image (drop n rs) (drop n ts)
replies_front image zero rs ts = refl
replies_front image (suc n) [] ts = refl
replies_front image (suc n) (r ∷ rs) [] = sym (no_replies image (drop n rs))
replies_front image (suc n) (r ∷ rs) (t ∷ ts) =
    ap (λ l. reply_text image (Some r.op) t.end t.outputs ++ l) (replies_front image n rs ts) ∙
    sym (append_assoc (reply_text image (Some r.op) t.end t.outputs) (replies_text image (take n rs) (take n ts)) (replies_text image (drop n rs) (drop n ts)))

first_told : Told → List Told → Told
first_told d [] = d
first_told d (t ∷ ts) = t

other_tolds : List Told → List Told
other_tolds [] = []
other_tolds (t ∷ ts) = ts

module _ (law : StartsSession) (image : Image) (fuel : ℕ) (start : CallEnd) (cells : List ℤ) (ends : EndsWith image fuel (first_start image) start cells) (requests : List Request) where
  told : Told
  told = told_of start [] cells

  begun : (rs : List Request) (tolds : List Told) → Continues image fuel (end_of start) cells rs tolds → Session image fuel rs (told ∷ tolds)
  unfolding told
  begun rs tolds goes =
      (law image fuel start cells ends, subst (λ x. Continues image fuel x (told_of start [] cells).cells rs tolds) (sym (told_end start [] cells)) (subst (λ x. Continues image fuel (end_of start) x rs tolds) (sym (told_cells start [] cells)) goes))

  -- the initialisation's line of each session is the one that was written
  first_is : (n : ℕ) (tolds : List Told) → Continues image fuel (end_of start) cells (take n requests) tolds → (t : Told) (ts : List Told) → Session image fuel requests (t ∷ ts) → (t ≡ told) × (take n ts ≡ tolds)
  unfolding first_told other_tolds
  first_is n tolds goes t ts s =
      let same = one_session image fuel (take n requests) (t ∷ take n ts) (told ∷ tolds) (session_front image fuel n requests t ts s) (begun (take n requests) tolds goes) in
      (ap (first_told t) same, ap other_tolds same)

  nothing_yet : Continues image fuel (end_of start) cells (take 0 requests) []
  nothing_yet = by (end_of start)
    where
      by : (e : End) → Continues image fuel e cells [] []
      by (Done k) = tt
      by (Trapped kind place k) = tt
      by OutOfFuel = tt

  first_text : (t : Told) → t ≡ told → reply_text image None (end_of start) [] ≡ reply_text image None t.end t.outputs
  unfolding told
  first_text t e = first_line image start cells ∙ ap (λ x. reply_text image None x.end x.outputs) (sym e)

  -- the last line, and a front of the whole transcript
  abbrev closing_of : Told → List Told → List ℕ
  closing_of t ts = closing_text (done_count ts) (steps_of fuel t.end + step_sum fuel ts)

  in_order : (t : Told) (ts : List Told) (old new : Option (List ℕ)) → WroteFront (reply_text image None t.end t.outputs ++ (replies_text image requests ts ++ closing_of t ts)) old new → WroteFront (transcript image fuel requests (t ∷ ts)) old new
  in_order t ts old new w = subst (λ x. WroteFront x old new) (sym (append_assoc (reply_text image None t.end t.outputs) (replies_text image requests ts) (closing_of t ts))) w

  -- the sink fails at the initialisation's line
  pub front_at_start : (old new : Option (List ℕ)) → WroteFront (reply_text image None (end_of start) []) old new → PlaysFront image fuel requests old new
  front_at_start old new w [] s = absurd s
  front_at_start old new w (t ∷ ts) s =
      in_order t ts old new
      (front_longer (reply_text image None t.end t.outputs) (replies_text image requests ts ++ closing_of t ts) old new (subst (λ x. WroteFront x old new) (first_text t (first_is 0 [] nothing_yet t ts s).0) w))

  -- at a call's line
  pub front_at_calls : (old mid new : Option (List ℕ)) → mid ≡ written_with old (reply_text image None (end_of start) []) → PlaysCallsFront image fuel requests (end_of start) cells mid new → PlaysFront image fuel requests old new
  front_at_calls old mid new e p [] s = absurd s
  front_at_calls old mid new e p (t ∷ ts) s =
      let same = first_is p.count p.tolds p.goes_on t ts s in
      let written : WroteFront (replies_text image (take p.count requests) (take p.count ts)) mid new = subst (λ x. WroteFront (replies_text image (take p.count requests) x) mid new) (sym same.1) p.front in
      let all : WroteFront (replies_text image requests ts) mid new = subst (λ x. WroteFront x mid new) (sym (replies_front image p.count requests ts)) (front_longer (replies_text image (take p.count requests) (take p.count ts)) (replies_text image (drop p.count requests) (drop p.count ts)) mid new written) in
      in_order t ts old new
      (front_later (reply_text image None t.end t.outputs) (replies_text image requests ts ++ closing_of t ts) old mid new (e ∙ ap (written_with old) (first_text t same.0)) (front_longer (replies_text image requests ts) (closing_of t ts) mid new all))

  -- at the last line
  pub front_at_closing : (last : End) (done steps : ℕ) (old mid far new : Option (List ℕ)) → mid ≡ written_with old (reply_text image None (end_of start) []) → PlaysCalls image fuel requests (end_of start) cells last done steps mid far →
      WroteFront (closing_text done (steps_of fuel (end_of start) + steps)) far new → PlaysFront image fuel requests old new
  unfolding told first_told other_tolds
  front_at_closing last done steps old mid far new e p w [] s = absurd s
  front_at_closing last done steps old mid far new e p w (t ∷ ts) s =
      let same = one_session image fuel requests (t ∷ ts) (told ∷ p.tolds) s (begun requests p.tolds p.goes_on) in
      let first : t ≡ told = ap (first_told t) same in
      let rest : ts ≡ p.tolds = ap other_tolds same in
      let steps_are : steps_of fuel (end_of start) + steps ≡ steps_of fuel t.end + step_sum fuel ts =
      ap (λ x. steps_of fuel (end_of start) + x) p.steps_are ∙ (ap (λ x. steps_of fuel x + step_sum fuel p.tolds) (sym (told_end start [] cells)) ∙ (ap (λ x. steps_of fuel x.end + step_sum fuel p.tolds) (sym first) ∙ ap (λ x. steps_of fuel t.end + step_sum fuel x) (sym rest))) in
      let closing : WroteFront (closing_of t ts) far new =
      subst (λ x. WroteFront (closing_text (done_count ts) x) far new) steps_are (subst (λ x. WroteFront (closing_text x (steps_of fuel (end_of start) + steps)) far new) (p.done_is ∙ ap done_count (sym rest)) w) in
      in_order t ts old new
      (front_later (reply_text image None t.end t.outputs) (replies_text image requests ts ++ closing_of t ts) old mid new (e ∙ ap (written_with old) (first_text t first))
      (front_later (replies_text image requests ts) (closing_of t ts) mid far new (p.written ∙ ap (λ x. written_with mid (replies_text image requests x)) (sym rest)) closing))
