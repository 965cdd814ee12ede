-- How a session grows, call by call.
use Rattle.std.proofs.Common.{◌≡◌, ℕ, ◌+◌, ◌<◌, ◌≤◌, true, false, true≢false, map, All, slice_index_or, ℤ, List, [], ◌∷◌, ◌++◌, length, take, drop, Option, Some, None, refl, sym, ◌∙◌, ap, subst, arith}
use Rattle.bk_io.specs.Pieces.{written_with}
use Rattle.bk_code.specs.declared.image.Image.{Image}
use Rattle.bk_code.specs.Run.{End, Done, Trapped, OutOfFuel, Ends}
use Rattle.bk_code.specs.Session.{Request, Told, Answers, Continues}
use Rattle.bk_vm.specs.declared.end.CallEnd.{CallEnd}
use Rattle.bk_vm.specs.declared.end.CallEnd.TheVariants.{Done as DoneEnd, Trap as TrapEnd, OutOfFuel as OutOfFuelEnd}
use Rattle.std.proofs.lemmas.Grind.{take_at_read}
use Rattle.std.proofs.lemmas.List.{get_or-map, length-map, take-append-drop, drop_all}
use Rattle.bk_code.specs.Session.{first_start}
use Rattle.bk_code.specs.Laws.{IsRequest}
use Rattle.bk_calls.specs.declared.script.Call.{Call}
use Rattle.bk_calls.specs.Script.{request_of}
use Rattle.bk_vm.specs.Ends.{end_of, is_stop, EndsWith, CallEndsWith}
use Rattle.bk_vm.specs.State.{TakesCall}
use Rattle.bk_vm.specs.Sessions.{told_of, StartsSession, ContinuesSession}
use Rattle.bk_calls.specs.Transcript.{reply_text, replies_text, done_count, done_number, step_sum, steps_of, closing_text}
use Rattle.bk_verbs.specs.declared.status.Status.{Status}
use Rattle.bk_verbs.specs.Session.{status_of, last_end, Plays, PlaysCall, PlaysCalls}

-- ---- one call
pub told_end : (end : CallEnd) (given after : List ℤ) → (told_of end given after).end ≡ end_of end
told_end (DoneEnd n) given after = refl
told_end (TrapEnd kind at n) given after = refl
told_end OutOfFuelEnd given after = refl

pub told_cells : (end : CallEnd) (given after : List ℤ) → (told_of end given after).cells ≡ after
told_cells (DoneEnd n) given after = refl
told_cells (TrapEnd kind at n) given after = refl
told_cells OutOfFuelEnd given after = refl

-- outputs matter where the call is done
pub told_line : (image : Image) (op : Option ℕ) (end : CallEnd) (given after : List ℤ) → reply_text image op (end_of end) given ≡ reply_text image op (end_of end) (told_of end given after).outputs
told_line image op (DoneEnd n) given after = refl
told_line image op (TrapEnd kind at n) given after = refl
told_line image op OutOfFuelEnd given after = refl

unfoldable pub plays_call : ContinuesSession → (image : Image) (fuel : ℕ) (op : ℕ) (args before outs : List ℤ) (end : CallEnd) (after given : List ℤ) (shown : Image) (values : List ℤ) (old new : Option (List ℕ)) →
    TakesCall image op args (length outs) → CallEndsWith image op args fuel before outs end after given → shown ≡ image → values ≡ given →
    new ≡ written_with old (reply_text shown (Some op) (end_of end) values) →
    PlaysCall image fuel (record { op = op; args = args }) before (end_of end) after old new
plays_call law image fuel op args before outs end after given shown values old new takes ends e f written = record {
  told = told_of end given after;
  answers = law image op args fuel before outs end after given takes ends;
  ended = told_end end given after;
  cells = told_cells end given after;
  written = written ∙ ap (λ x. written_with old (reply_text x (Some op) (end_of end) values)) e ∙
      ap (λ x. written_with old (reply_text image (Some op) (end_of end) x)) f ∙ ap (written_with old) (told_line image (Some op) end given after);
}

ends_bounded : (image : Image) (f : ℕ) (end : End) (c d : _) → Ends image f c end d → steps_of f end ≤ f
ends_bounded image f (Done n) c d e = e.0
ends_bounded image f (Trapped kind place n) c d e = omega (arith, e.0)
ends_bounded image f OutOfFuel c d e = omega arith

pub steps_bounded : (image : Image) (fuel : ℕ) (request : Request) (before : List ℤ) (end : End) (after : List ℤ) (old new : Option (List ℕ)) → PlaysCall image fuel request before end after old new → steps_of fuel end ≤ fuel
steps_bounded image fuel request before end after old new p =
    subst (λ x. steps_of fuel x ≤ fuel) p.ended (ends_bounded image fuel p.told.end _ p.answers.call.last p.answers.call.ends)

-- ---- calls one after another
-- each is done before the next is made
abbrev pub IsDone : End → Type 0
IsDone (Done n) = Unit {0}
IsDone _ = ⊥

-- the calls of these requests go on after an end and on cells, tell this, and lead to an end and cells
abbrev pub Reaches : Image → (fuel : ℕ) → End → List ℤ → List Request → List Told → End → List ℤ → Type 0
Reaches image fuel e c [] [] f d = (e ≡ f) × (c ≡ d)
Reaches image fuel e c (r ∷ rs) (t ∷ ts) f d = IsDone e × Answers image fuel r c t × Reaches image fuel t.end t.cells rs ts f d
Reaches image fuel e c _ _ f d = ⊥

pub record Sofar (image : Image) (fuel : ℕ) (requests : List Request) (end : End) (cells : List ℤ) (last : End) (now : List ℤ) (done steps : ℕ) (old new : Option (List ℕ)) : Type 0 where
  pub tolds : List Told
  pub reaches : Reaches image fuel end cells requests tolds last now
  pub done_is : done ≡ done_count tolds
  pub steps_are : steps ≡ step_sum fuel tolds
  pub written : new ≡ written_with old (replies_text image requests tolds)

append_nil : (xs : List ℕ) → xs ++ [] ≡ xs
append_nil [] = refl
append_nil (x ∷ xs) = ap (λ ys. x ∷ ys) (append_nil xs)

pub written_nothing : (old : Option (List ℕ)) → old ≡ written_with old []
written_nothing None = refl
written_nothing (Some xs) = ap Some (sym (append_nil xs))

pub append_assoc : (xs ys zs : List ℕ) → (xs ++ ys) ++ zs ≡ xs ++ (ys ++ zs)
append_assoc [] ys zs = refl
append_assoc (x ∷ xs) ys zs = ap (λ l. x ∷ l) (append_assoc xs ys zs)

pub written_twice : (old : Option (List ℕ)) (xs ys : List ℕ) → written_with (written_with old xs) ys ≡ written_with old (xs ++ ys)
written_twice None xs ys = refl
written_twice (Some old) xs ys = ap Some (append_assoc old xs ys)

pub reaches_more : (image : Image) (fuel : ℕ) (e : End) (c : List ℤ) (rs : List Request) (ts : List Told) (f : End) (d : List ℤ) (r : Request) (t : Told) → Reaches image fuel e c rs ts f d → IsDone f → Answers image fuel r d t → Reaches image fuel e c (rs ++ r ∷ []) (ts ++ t ∷ []) t.end t.cells
reaches_more image fuel e c [] [] f d r t h done answers = (subst IsDone (sym h.0) done, subst (λ x. Answers image fuel r x t) (sym h.1) answers, (refl, refl))
reaches_more image fuel e c (q ∷ rs) (u ∷ ts) f d r t h done answers = (h.0, h.1, reaches_more image fuel u.end u.cells rs ts f d r t h.2 done answers)
reaches_more image fuel e c [] (u ∷ ts) f d r t h done answers = absurd h
reaches_more image fuel e c (q ∷ rs) [] f d r t h done answers = absurd h

pub done_more : (ts : List Told) (t : Told) → done_count (ts ++ t ∷ []) ≡ done_count ts + done_number t.end
done_more [] t = omega arith
done_more (u ∷ ts) t = ap (λ n. done_number u.end + n) (done_more ts t) ∙ omega arith

pub steps_more : (f : ℕ) (ts : List Told) (t : Told) → step_sum f (ts ++ t ∷ []) ≡ step_sum f ts + steps_of f t.end
steps_more f [] t = omega arith
steps_more f (u ∷ ts) t = ap (λ n. steps_of f u.end + n) (steps_more f ts t) ∙ omega arith

pub lines_more : (image : Image) (fuel : ℕ) (e : End) (c : List ℤ) (rs : List Request) (ts : List Told) (f : End) (d : List ℤ) (r : Request) (t : Told) → Reaches image fuel e c rs ts f d → replies_text image (rs ++ r ∷ []) (ts ++ t ∷ []) ≡ replies_text image rs ts ++ reply_text image (Some r.op) t.end t.outputs
lines_more image fuel e c [] [] f d r t h = append_nil (reply_text image (Some r.op) t.end t.outputs)
lines_more image fuel e c (q ∷ rs) (u ∷ ts) f d r t h =
    ap (λ l. reply_text image (Some q.op) u.end u.outputs ++ l) (lines_more image fuel u.end u.cells rs ts f d r t h.2) ∙
    sym (append_assoc (reply_text image (Some q.op) u.end u.outputs) (replies_text image rs ts) (reply_text image (Some r.op) t.end t.outputs))
lines_more image fuel e c [] (u ∷ ts) f d r t h = absurd h
lines_more image fuel e c (q ∷ rs) [] f d r t h = absurd h

unfoldable pub sofar_more : (image : Image) (fuel : ℕ) (rs : List Request) (e : End) (c : List ℤ) (f : End) (d : List ℤ) (done steps : ℕ) (old mid new : Option (List ℕ)) (r : Request) (g : End) (k : List ℤ) →
    Sofar image fuel rs e c f d done steps old mid → IsDone f → PlaysCall image fuel r d g k mid new →
    Sofar image fuel (rs ++ r ∷ []) e c g k (done + done_number g) (steps + steps_of fuel g) old new
sofar_more image fuel rs e c f d done steps old mid new r g k s is_done p = record {
  tolds = s.tolds ++ p.told ∷ [];
  reaches = subst (λ x. Reaches image fuel e c (rs ++ r ∷ []) (s.tolds ++ p.told ∷ []) x k) p.ended (subst (λ x. Reaches image fuel e c (rs ++ r ∷ []) (s.tolds ++ p.told ∷ []) p.told.end x) p.cells (reaches_more image fuel e c rs s.tolds f d r p.told s.reaches is_done p.answers));
  done_is = ap (λ x. x + done_number g) s.done_is ∙ ap (λ x. done_count s.tolds + done_number x) (sym p.ended) ∙ sym (done_more s.tolds p.told);
  steps_are = ap (λ x. x + steps_of fuel g) s.steps_are ∙ ap (λ x. step_sum fuel s.tolds + steps_of fuel x) (sym p.ended) ∙ sym (steps_more fuel s.tolds p.told);
  written = p.written ∙ ap (λ m. written_with m (reply_text image (Some r.op) g p.told.outputs)) s.written ∙
      written_twice old (replies_text image rs s.tolds) (reply_text image (Some r.op) g p.told.outputs) ∙
      ap (λ x. written_with old (replies_text image rs s.tolds ++ reply_text image (Some r.op) x p.told.outputs)) (sym p.ended) ∙
      ap (written_with old) (sym (lines_more image fuel e c rs s.tolds f d r p.told s.reaches));
}

-- ---- the whole
-- nothing is left to call, or the last call was not done
abbrev pub IsOver : End → List Request → Type 0
IsOver (Done n) [] = Unit {0}
IsOver (Done n) (r ∷ rs) = ⊥
IsOver _ rs = Unit {0}

over : (image : Image) (fuel : ℕ) (f : End) (d : List ℤ) (rs : List Request) → IsOver f rs → Continues image fuel f d rs []
over image fuel (Done n) d [] h = tt
over image fuel (Done n) d (r ∷ rs) h = absurd h
over image fuel (Trapped kind place n) d rs h = tt
over image fuel OutOfFuel d rs h = tt

pub goes_on : (image : Image) (fuel : ℕ) (e : End) (c : List ℤ) (rs : List Request) (ts : List Told) (f : End) (d : List ℤ) (more : List Request) → Reaches image fuel e c rs ts f d → IsOver f more → Continues image fuel e c (rs ++ more) ts
goes_on image fuel e c [] [] f d more h o = over image fuel e c more (subst (λ x. IsOver x more) (sym h.0) o)
goes_on image fuel (Done n) c (q ∷ rs) (u ∷ ts) f d more h o = (h.1, goes_on image fuel u.end u.cells rs ts f d more h.2 o)
goes_on image fuel (Trapped kind place n) c (q ∷ rs) (u ∷ ts) f d more h o = absurd h.0
goes_on image fuel OutOfFuel c (q ∷ rs) (u ∷ ts) f d more h o = absurd h.0
goes_on image fuel e c [] (u ∷ ts) f d more h o = absurd h
goes_on image fuel e c (q ∷ rs) [] f d more h o = absurd h

pub last_is : (image : Image) (fuel : ℕ) (e : End) (c : List ℤ) (rs : List Request) (ts : List Told) (f : End) (d : List ℤ) → Reaches image fuel e c rs ts f d → f ≡ last_end e ts
last_is image fuel e c [] [] f d h = sym h.0
last_is image fuel e c (q ∷ rs) (u ∷ ts) f d h = last_is image fuel u.end u.cells rs ts f d h.2
last_is image fuel e c [] (u ∷ ts) f d h = absurd h
last_is image fuel e c (q ∷ rs) [] f d h = absurd h

pub no_more_lines : (image : Image) (fuel : ℕ) (e : End) (c : List ℤ) (rs : List Request) (ts : List Told) (f : End) (d : List ℤ) (more : List Request) → Reaches image fuel e c rs ts f d → replies_text image rs ts ≡ replies_text image (rs ++ more) ts
no_more_lines image fuel e c [] [] f d [] h = refl
no_more_lines image fuel e c [] [] f d (r ∷ more) h = refl
no_more_lines image fuel e c (q ∷ rs) (u ∷ ts) f d more h = ap (λ l. reply_text image (Some q.op) u.end u.outputs ++ l) (no_more_lines image fuel u.end u.cells rs ts f d more h.2)
no_more_lines image fuel e c [] (u ∷ ts) f d more h = absurd h
no_more_lines image fuel e c (q ∷ rs) [] f d more h = absurd h

unfoldable pub sofar_whole : (image : Image) (fuel : ℕ) (rs more : List Request) (e : End) (c : List ℤ) (f : End) (d : List ℤ) (done steps : ℕ) (old new : Option (List ℕ)) →
    Sofar image fuel rs e c f d done steps old new → IsOver f more → PlaysCalls image fuel (rs ++ more) e c f done steps old new
sofar_whole image fuel rs more e c f d done steps old new s o = record {
  tolds = s.tolds;
  goes_on = goes_on image fuel e c rs s.tolds f d more s.reaches o;
  last_is = last_is image fuel e c rs s.tolds f d s.reaches;
  done_is = s.done_is;
  steps_are = s.steps_are;
  written = s.written ∙ ap (written_with old) (no_more_lines image fuel e c rs s.tolds f d more s.reaches);
}

-- ---- in the program's loop
pub request_at : (image now : Image) (calls : List Call) (i : ℕ) (call : Call) → All (IsRequest image) (map request_of calls) → now ≡ image → i < length calls → call ≡ slice_index_or calls i call → IsRequest now (request_of call)
request_at image now calls i call all e inside is =
    let at : slice_index_or (map request_of calls) i (request_of call) ≡ request_of call = get_or-map request_of calls i call (request_of call) inside ∙ ap request_of (sym is) in
    subst (λ x. IsRequest x (request_of call)) (sym e) (subst (IsRequest image) at (all i (request_of call) (rw (length-map calls request_of) inside)))

pub take_more : (calls : List Call) (i : ℕ) (call : Call) → i < length calls → call ≡ slice_index_or calls i call → take (i + 1) (map request_of calls) ≡ take i (map request_of calls) ++ request_of call ∷ []
take_more calls i call inside is =
    let at : slice_index_or (map request_of calls) i (request_of call) ≡ request_of call = get_or-map request_of calls i call (request_of call) inside ∙ ap request_of (sym is) in
    (take_at_read (map request_of calls) i (request_of call) (rw (length-map calls request_of) inside)).1 ∙ ap (λ x. take i (map request_of calls) ++ x ∷ []) at

pub done_end : (end : CallEnd) → is_stop end ≡ false → IsDone (end_of end)
done_end (DoneEnd n) h = tt
done_end (TrapEnd kind at n) h = true≢false h
done_end OutOfFuelEnd h = true≢false h

pub over_stop : (end : CallEnd) (rs : List Request) → is_stop end ≡ true → IsOver (end_of end) rs
over_stop (DoneEnd n) rs h = absurd (true≢false (sym h))
over_stop (TrapEnd kind at n) rs h = tt
over_stop OutOfFuelEnd rs h = tt

pub over_nothing : (end : End) → IsOver end []
over_nothing (Done n) = tt
over_nothing (Trapped kind place n) = tt
over_nothing OutOfFuel = tt

pub over_end : (end : End) (rs : List Request) (n : ℕ) → length rs ≤ n → IsOver end (drop n rs)
over_end end rs n h = subst (IsOver end) (sym (drop_all n rs h)) (over_nothing end)

pub whole_at : (image : Image) (fuel : ℕ) (rs : List Request) (n : ℕ) (e : End) (c : List ℤ) (f : End) (d : List ℤ) (done steps : ℕ) (old new : Option (List ℕ)) →
    Sofar image fuel (take n rs) e c f d done steps old new → IsOver f (drop n rs) → PlaysCalls image fuel rs e c f done steps old new
whole_at image fuel rs n e c f d done steps old new s o =
    subst (λ x. PlaysCalls image fuel x e c f done steps old new) (take-append-drop n rs) (sofar_whole image fuel (take n rs) (drop n rs) e c f d done steps old new s o)

-- the start of a session, its calls and its last line
pub first_line : (image : Image) (start : CallEnd) (cells : List ℤ) → reply_text image None (end_of start) [] ≡ reply_text image None (told_of start [] cells).end (told_of start [] cells).outputs
first_line image (DoneEnd n) cells = refl
first_line image (TrapEnd kind at n) cells = refl
first_line image OutOfFuelEnd cells = refl

pub thrice : (old : Option (List ℕ)) (xs ys zs : List ℕ) → written_with (written_with (written_with old xs) ys) zs ≡ written_with old ((xs ++ ys) ++ zs)
thrice old xs ys zs = ap (λ m. written_with m zs) (written_twice old xs ys) ∙ written_twice old (xs ++ ys) zs

unfoldable pub plays : StartsSession → (image : Image) (fuel : ℕ) (start : CallEnd) (cells : List ℤ) (requests : List Request) (last : End) (done steps : ℕ) (old mid far new : Option (List ℕ)) →
    EndsWith image fuel (first_start image) start cells →
    mid ≡ written_with old (reply_text image None (end_of start) []) →
    PlaysCalls image fuel requests (end_of start) cells last done steps mid far →
    new ≡ written_with far (closing_text done (steps_of fuel (end_of start) + steps)) →
    Plays image fuel requests (status_of last) old new
plays law image fuel start cells requests last done steps old mid far new ends first calls closing =
    let told : Told = told_of start [] cells in
    let same : told.end ≡ end_of start = told_end start [] cells in
    record {
      tolds = told ∷ calls.tolds;
      session = (law image fuel start cells ends, subst (λ x. Continues image fuel x told.cells requests calls.tolds) (sym same) (subst (λ x. Continues image fuel (end_of start) x requests calls.tolds) (sym (told_cells start [] cells)) calls.goes_on));
      last = ap status_of (calls.last_is ∙ ap (λ x. last_end x calls.tolds) (sym same));
      written = closing ∙
          ap (λ m. written_with m (closing_text done (steps_of fuel (end_of start) + steps))) (calls.written ∙ ap (λ m. written_with m (replies_text image requests calls.tolds)) first) ∙
          thrice old (reply_text image None (end_of start) []) (replies_text image requests calls.tolds) (closing_text done (steps_of fuel (end_of start) + steps)) ∙
          ap (λ x. written_with old ((x ++ replies_text image requests calls.tolds) ++ closing_text done (steps_of fuel (end_of start) + steps))) (first_line image start cells) ∙
          ap (λ x. written_with old ((reply_text image None told.end told.outputs ++ replies_text image requests calls.tolds) ++ closing_text x (steps_of fuel (end_of start) + steps))) calls.done_is ∙
          ap (λ x. written_with old ((reply_text image None told.end told.outputs ++ replies_text image requests calls.tolds) ++ closing_text (done_count calls.tolds) (steps_of fuel (end_of start) + x))) calls.steps_are ∙
          ap (λ x. written_with old ((reply_text image None told.end told.outputs ++ replies_text image requests calls.tolds) ++ closing_text (done_count calls.tolds) (steps_of fuel x + step_sum fuel calls.tolds))) (sym same);
    }

-- the same of images and a status that are equal to these
pub plays_of : StartsSession → (image at by shown : Image) (fuel : ℕ) (start : CallEnd) (cells : List ℤ) (requests : List Request) (status : Status) (last : End) (done steps all : ℕ) (old mid far new : Option (List ℕ)) →
    at ≡ image → by ≡ image → shown ≡ image →
    EndsWith at fuel (first_start at) start cells →
    mid ≡ written_with old (reply_text shown None (end_of start) []) →
    PlaysCalls by fuel requests (end_of start) cells last done steps mid far →
    all ≡ steps_of fuel (end_of start) → new ≡ written_with far (closing_text done (all + steps)) → status ≡ status_of last →
    Plays image fuel requests status old new
plays_of law image at by shown fuel start cells requests status last done steps all old mid far new e f h ends first calls a closing s =
    subst (λ x. Plays image fuel requests x old new) (sym s) (plays law image fuel start cells requests last done steps old mid far new
    (subst (λ x. EndsWith x fuel (first_start x) start cells) e ends)
    (subst (λ x. mid ≡ written_with old (reply_text x None (end_of start) [])) h first)
    (subst (λ x. PlaysCalls x fuel requests (end_of start) cells last done steps mid far) f calls)
    (subst (λ x. new ≡ written_with far (closing_text done (x + steps))) a closing))
