-- The lines of a session are put one by one.
use Rattle.std.proofs.Common.{◌≡◌, ℕ, ◌+◌, ℤ, List, [], ◌∷◌, ◌++◌, length, take, drop, Option, Some, None, refl, sym, ◌∙◌, ap, subst}
use Rattle.std.proofs.lemmas.List.{take-append-drop}
use Rattle.bk_io.specs.Pieces.{Piece, PutWhole, written_with}
use Rattle.bk_code.specs.declared.image.Image.{Image}
use Rattle.bk_code.specs.Run.{End}
use Rattle.bk_code.specs.Session.{first_start, Request, Told}
use Rattle.bk_vm.specs.declared.end.CallEnd.{CallEnd}
use Rattle.bk_vm.specs.Ends.{end_of, EndsWith, CallEndsWith}
use Rattle.bk_vm.specs.State.{TakesCall}
use Rattle.bk_vm.specs.Sessions.{told_of, StartsSession, ContinuesSession}
use Rattle.bk_calls.specs.Transcript.{reply_text, done_count, done_number, step_sum, steps_of, closing_text}
use Rattle.bk_verbs.specs.declared.status.Status.{Status}
use Rattle.bk_verbs.specs.Puts.{PutsEach}
use Rattle.bk_verbs.specs.Session.{status_of, replies_lines, PutsCall, PutsCalls, Puts}
use Rattle.bk_verbs.proofs.Plays.{told_end, told_line, first_line, plays_call, IsDone, IsOver, Reaches, Sofar, written_nothing, sofar_more, sofar_whole, plays}

-- ---- texts one after another
pub puts_more : (xs ys : List (List ℕ)) (old mid new : Option (List Piece)) → PutsEach xs old mid → PutsEach ys mid new → PutsEach (xs ++ ys) old new
puts_more [] ys old mid new h k = subst (λ x. PutsEach ys x new) h k
puts_more (x ∷ xs) ys old mid new h k = (h.0, h.1, puts_more xs ys h.0 mid new h.2 k)

pub puts_one : (text : List ℕ) (old new : Option (List Piece)) → PutWhole text old new → PutsEach (text ∷ []) old new
puts_one text old new w = (new, w, refl)

-- ---- one call
pub puts_call : ContinuesSession → (image : Image) (fuel : ℕ) (op : ℕ) (args before outs : List ℤ) (end : CallEnd) (after given : List ℤ) (shown : Image) (values : List ℤ) (old new : Option (List ℕ)) (old_pieces new_pieces : Option (List Piece)) →
    TakesCall image op args (length outs) → CallEndsWith image op args fuel before outs end after given → shown ≡ image → values ≡ given →
    new ≡ written_with old (reply_text shown (Some op) (end_of end) values) → PutWhole (reply_text shown (Some op) (end_of end) values) old_pieces new_pieces →
    PutsCall image fuel (record { op = op; args = args }) before (end_of end) after old new old_pieces new_pieces
unfolding plays_call
puts_call law image fuel op args before outs end after given shown values old new old_pieces new_pieces takes ends e f written put = record {
  plays = plays_call law image fuel op args before outs end after given shown values old new takes ends e f written;
  put = subst (λ x. PutWhole x old_pieces new_pieces)
      (ap (λ x. reply_text x (Some op) (end_of end) values) e ∙ (ap (λ x. reply_text image (Some op) (end_of end) x) f ∙ told_line image (Some op) end given after)) put;
}

-- ---- calls one after another
pub record SofarPuts (image : Image) (fuel : ℕ) (requests : List Request) (end : End) (cells : List ℤ) (last : End) (now : List ℤ) (done steps : ℕ) (old new : Option (List ℕ)) (old_pieces new_pieces : Option (List Piece)) : Type 0 where
  pub sofar : Sofar image fuel requests end cells last now done steps old new
  pub puts : PutsEach (replies_lines image requests sofar.tolds) old_pieces new_pieces

replies_more : (image : Image) (fuel : ℕ) (e : End) (c : List ℤ) (rs : List Request) (ts : List Told) (f : End) (d : List ℤ) (r : Request) (t : Told) → Reaches image fuel e c rs ts f d →
    replies_lines image (rs ++ r ∷ []) (ts ++ t ∷ []) ≡ replies_lines image rs ts ++ reply_text image (Some r.op) t.end t.outputs ∷ []
replies_more image fuel e c [] [] f d r t h = refl
replies_more image fuel e c (q ∷ rs) (u ∷ ts) f d r t h = ap (λ l. reply_text image (Some q.op) u.end u.outputs ∷ l) (replies_more image fuel u.end u.cells rs ts f d r t h.2)
replies_more image fuel e c [] (u ∷ ts) f d r t h = absurd h
replies_more image fuel e c (q ∷ rs) [] f d r t h = absurd h

no_more_replies : (image : Image) (fuel : ℕ) (e : End) (c : List ℤ) (rs : List Request) (ts : List Told) (f : End) (d : List ℤ) (more : List Request) → Reaches image fuel e c rs ts f d → replies_lines image rs ts ≡ replies_lines image (rs ++ more) ts
no_more_replies image fuel e c [] [] f d [] h = refl
no_more_replies image fuel e c [] [] f d (r ∷ more) h = refl
no_more_replies image fuel e c (q ∷ rs) (u ∷ ts) f d more h = ap (λ l. reply_text image (Some q.op) u.end u.outputs ∷ l) (no_more_replies image fuel u.end u.cells rs ts f d more h.2)
no_more_replies image fuel e c [] (u ∷ ts) f d more h = absurd h
no_more_replies image fuel e c (q ∷ rs) [] f d more h = absurd h

pub sofar_puts_nothing : (image : Image) (fuel : ℕ) (e : End) (c : List ℤ) (old : Option (List ℕ)) (pieces : Option (List Piece)) → SofarPuts image fuel [] e c e c 0 0 old old pieces pieces
sofar_puts_nothing image fuel e c old pieces = record {
  sofar = record { tolds = []; reaches = (refl, refl); done_is = refl; steps_are = refl; written = written_nothing old };
  puts = refl;
}

pub sofar_puts_more : (image : Image) (fuel : ℕ) (rs : List Request) (e : End) (c : List ℤ) (f : End) (d : List ℤ) (done steps : ℕ) (old mid new : Option (List ℕ)) (op pm pn : Option (List Piece)) (r : Request) (g : End) (k : List ℤ) →
    SofarPuts image fuel rs e c f d done steps old mid op pm → IsDone f → PutsCall image fuel r d g k mid new pm pn →
    SofarPuts image fuel (rs ++ r ∷ []) e c g k (done + done_number g) (steps + steps_of fuel g) old new op pn
unfolding sofar_more
sofar_puts_more image fuel rs e c f d done steps old mid new op pm pn r g k s is_done p =
    let put : PutWhole (reply_text image (Some r.op) p.plays.told.end p.plays.told.outputs) pm pn = subst (λ x. PutWhole (reply_text image (Some r.op) x p.plays.told.outputs) pm pn) (sym p.plays.ended) p.put in
    record {
      sofar = sofar_more image fuel rs e c f d done steps old mid new r g k s.sofar is_done p.plays;
      puts = subst (λ x. PutsEach x op pn) (sym (replies_more image fuel e c rs s.sofar.tolds f d r p.plays.told s.sofar.reaches))
          (puts_more (replies_lines image rs s.sofar.tolds) (reply_text image (Some r.op) p.plays.told.end p.plays.told.outputs ∷ []) op pm pn s.puts
          (puts_one (reply_text image (Some r.op) p.plays.told.end p.plays.told.outputs) pm pn put));
    }

sofar_puts_whole : (image : Image) (fuel : ℕ) (rs more : List Request) (e : End) (c : List ℤ) (f : End) (d : List ℤ) (done steps : ℕ) (old new : Option (List ℕ)) (op pn : Option (List Piece)) →
    SofarPuts image fuel rs e c f d done steps old new op pn → IsOver f more → PutsCalls image fuel (rs ++ more) e c f done steps old new op pn
unfolding sofar_whole
sofar_puts_whole image fuel rs more e c f d done steps old new op pn s o = record {
  plays = sofar_whole image fuel rs more e c f d done steps old new s.sofar o;
  puts = subst (λ x. PutsEach x op pn) (no_more_replies image fuel e c rs s.sofar.tolds f d more s.sofar.reaches) s.puts;
}

pub whole_puts_at : (image : Image) (fuel : ℕ) (rs : List Request) (n : ℕ) (e : End) (c : List ℤ) (f : End) (d : List ℤ) (done steps : ℕ) (old new : Option (List ℕ)) (op pn : Option (List Piece)) →
    SofarPuts image fuel (take n rs) e c f d done steps old new op pn → IsOver f (drop n rs) → PutsCalls image fuel rs e c f done steps old new op pn
whole_puts_at image fuel rs n e c f d done steps old new op pn s o =
    subst (λ x. PutsCalls image fuel x e c f done steps old new op pn) (take-append-drop n rs) (sofar_puts_whole image fuel (take n rs) (drop n rs) e c f d done steps old new op pn s o)

-- ---- the start of a session, its calls and its last line
puts : StartsSession → (image : Image) (fuel : ℕ) (start : CallEnd) (cells : List ℤ) (requests : List Request) (last : End) (done steps : ℕ) (old mid far new : Option (List ℕ)) (op pm pf pn : Option (List Piece)) →
    EndsWith image fuel (first_start image) start cells →
    mid ≡ written_with old (reply_text image None (end_of start) []) → PutWhole (reply_text image None (end_of start) []) op pm →
    PutsCalls image fuel requests (end_of start) cells last done steps mid far pm pf →
    new ≡ written_with far (closing_text done (steps_of fuel (end_of start) + steps)) → PutWhole (closing_text done (steps_of fuel (end_of start) + steps)) pf pn →
    Puts image fuel requests (status_of last) old new op pn
unfolding plays
puts law image fuel start cells requests last done steps old mid far new op pm pf pn ends first first_put calls closing closing_put =
    let told : Told = told_of start [] cells in
    let tolds : List Told = calls.plays.tolds in
    let same : told.end ≡ end_of start = told_end start [] cells in
    let text : closing_text done (steps_of fuel (end_of start) + steps) ≡ closing_text (done_count tolds) (steps_of fuel told.end + step_sum fuel tolds) =
    ap (λ x. closing_text x (steps_of fuel (end_of start) + steps)) calls.plays.done_is ∙
    (ap (λ x. closing_text (done_count tolds) (steps_of fuel (end_of start) + x)) calls.plays.steps_are ∙
    ap (λ x. closing_text (done_count tolds) (steps_of fuel x + step_sum fuel tolds)) (sym same)) in
    record {
      plays = plays law image fuel start cells requests last done steps old mid far new ends first calls.plays closing;
      puts = (
        pm,
        subst (λ x. PutWhole x op pm) (first_line image start cells) first_put,
        puts_more (replies_lines image requests tolds) (closing_text (done_count tolds) (steps_of fuel told.end + step_sum fuel tolds) ∷ []) pm pf pn calls.puts
            (puts_one (closing_text (done_count tolds) (steps_of fuel told.end + step_sum fuel tolds)) pf pn (subst (λ x. PutWhole x pf pn) text closing_put)),
      );
    }

-- the same of images and a status that are equal to these
pub puts_of : StartsSession → (image at by shown : Image) (fuel : ℕ) (start : CallEnd) (cells : List ℤ) (requests : List Request) (status : Status) (last : End) (done steps all : ℕ) (old mid far new : Option (List ℕ)) (op pm pf pn : Option (List Piece)) →
    at ≡ image → by ≡ image → shown ≡ image →
    EndsWith at fuel (first_start at) start cells →
    mid ≡ written_with old (reply_text shown None (end_of start) []) → PutWhole (reply_text shown None (end_of start) []) op pm →
    PutsCalls by fuel requests (end_of start) cells last done steps mid far pm pf →
    all ≡ steps_of fuel (end_of start) → new ≡ written_with far (closing_text done (all + steps)) → PutWhole (closing_text done (all + steps)) pf pn → status ≡ status_of last →
    Puts image fuel requests status old new op pn
puts_of law image at by shown fuel start cells requests status last done steps all old mid far new op pm pf pn e f h ends first first_put calls a closing closing_put s =
    subst (λ x. Puts image fuel requests x old new op pn) (sym s) (puts law image fuel start cells requests last done steps old mid far new op pm pf pn
    (subst (λ x. EndsWith x fuel (first_start x) start cells) e ends)
    (subst (λ x. mid ≡ written_with old (reply_text x None (end_of start) [])) h first)
    (subst (λ x. PutWhole (reply_text x None (end_of start) []) op pm) h first_put)
    (subst (λ x. PutsCalls x fuel requests (end_of start) cells last done steps mid far pm pf) f calls)
    (subst (λ x. new ≡ written_with far (closing_text done (x + steps))) a closing)
    (subst (λ x. PutWhole (closing_text done (x + steps)) pf pn) a closing_put))
