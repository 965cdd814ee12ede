-- How the program ends, and what it has then written.
use Rattle.std.proofs.Common.{◌≡◌, ◌⊎◌, inl, inr, ◌∙◌, ℕ, ◌≤◌, List, [], ◌++◌, Option, Some, None, refl, sym, ap, subst, arith}
use Rattle.std.proofs.lemmas.List.{append-nil, append_assoc}
use Rattle.bk_io.specs.Files.{Files}
use Rattle.bk_io.specs.Counts.{Rose}
use Rattle.bk_io.specs.Pieces.{written_with}
use Rattle.bk_verbs.specs.Causes.{IsOfReading}
use Rattle.bk_verbs.specs.Stops.{IsCutShort, IsOutside, Reports, status_of_stop, stop_text}
use Rattle.bk_verbs.specs.declared.stop.Stop.{Stop}
use Rattle.bk_verbs.specs.declared.stop.Stop.TheVariants as stops
use Rattle.bk_verbs.specs.declared.status.Status.{Status}
use Rattle.bk_verbs.specs.declared.status.Status.TheVariants.{Done, Usage, Missing, Refused, Unproved, Incomplete, BadCalls, Trapped, OutOfFuel, BadImage, ReadFault, WriteFault, Memory}
use Rattle.bk_proof_words.specs.Tasks.{Asks}
use Rattle.bk_proof_words.specs.declared.task.Task.{Task}
use Rattle.bk_proof_program.specs.Answers.{IsSaid}
use Rattle.bk_proof_program.specs.Said.{AnswersTask, IsToldAnswer, IsWritten, StopsAnswer, StopsWords, TellsStop, WritesAnswer, WritesStop}
use Rattle.bk_proof_program.specs.declared.answer.Answer.{Answer}
use Rattle.bk_proof_program.specs.declared.answer.Answer.TheVariants.{Whole, Explained}
use Rattle.bk_proof_program.specs.declared.help.TheConstants.{USAGE}

-- what may be cut short is said with no such status
not_both : (status : Status) → IsSaid status → IsCutShort status → ⊥
not_both Done e s = s
not_both Usage e s = s
not_both Missing e s = s
not_both Refused e s = s
not_both Unproved e s = s
not_both Incomplete e s = s
not_both BadCalls e s = s
not_both Trapped e s = s
not_both OutOfFuel e s = s
not_both BadImage e s = s
not_both ReadFault e s = s
not_both WriteFault e s = e
not_both Memory e s = e

-- nor is a failed device, or want of memory
outside_unsaid : (stop : Stop) → IsOutside stop → IsSaid (status_of_stop stop) → ⊥
outside_unsaid stops.Usage o s = o
outside_unsaid (stops.Missing name) o s = o
outside_unsaid (stops.Refused fault at name) o s = o
outside_unsaid (stops.Limit limit name) o s = o
outside_unsaid (stops.Unproved name) o s = o
outside_unsaid (stops.Incomplete name) o s = o
outside_unsaid (stops.BadCalls line) o s = o
outside_unsaid (stops.BadImage fault) o s = o
outside_unsaid stops.ReadFault o s = s
outside_unsaid stops.WriteFault o s = s
outside_unsaid stops.Memory o s = s

-- two texts one after the other
pub written_twice : (old : Option (List ℕ)) (one two : List ℕ) → written_with (written_with old one) two ≡ written_with old (one ++ two)
written_twice None one two = refl
written_twice (Some old) one two = ap Some (append_assoc old one two)

-- the line of a stop, and words after it
stop_told : (stop : Stop) (old middle new : Option (List ℕ)) (status : Status) (words : List ℕ) → Reports stop status old middle → new ≡ written_with middle words → IsCutShort status ⊎ TellsStop stop old new status
stop_told stop old middle new status words (inl h) e = inr (record {
  words = words;
  written = e ∙ (ap (λ m. written_with m words) h.1 ∙ written_twice old (stop_text stop) words);
  ends = h.0;
})
stop_told stop old middle new status words (inr h) e = inl h.0

-- words after the line of a stop
pub told_behind : (stop : Stop) (old middle new : Option (List ℕ)) (status result : Status) (words : List ℕ) → Reports stop status old middle → IsCutShort result ⊎ ((result ≡ status) × (new ≡ written_with middle words)) → IsCutShort result ⊎ TellsStop stop old new result
told_behind stop old middle new status result words h (inl k) = inl k
told_behind stop old middle new status result words h (inr k) =
    subst (λ (s : Status). IsCutShort s ⊎ TellsStop stop old new s) (sym k.0) (stop_told stop old middle new status words h k.1)

-- ---- faults of devices
-- a count that rose later rose
pub rose_later : (before middle now : ℕ) → before ≤ middle → Rose middle now → Rose before now
rose_later before middle now l h = omega (arith, h, l)

-- a stop with the status of a read fault is one
read_stop : (stop : Stop) → status_of_stop stop ≡ ReadFault → stop ≡ stops.ReadFault
read_stop stops.Usage e = cc
read_stop (stops.Missing name) e = cc
read_stop (stops.Refused fault at name) e = cc
read_stop (stops.Limit limit name) e = cc
read_stop (stops.Unproved name) e = cc
read_stop (stops.Incomplete name) e = cc
read_stop (stops.BadCalls line) e = cc
read_stop (stops.BadImage fault) e = cc
read_stop stops.ReadFault e = refl
read_stop stops.WriteFault e = cc
read_stop stops.Memory e = cc

pub reports_read : (stop : Stop) (status : Status) (old new : Option (List ℕ)) → Reports stop status old new → status ≡ ReadFault → stop ≡ stops.ReadFault
reports_read stop status old new (inl h) e = read_stop stop (sym h.0 ∙ e)
reports_read stop status old new (inr h) e = absurd (subst IsCutShort e h.0)

-- what reading stops with, or wrong words, is no fault of writing
pub not_of_writing : (stop : Stop) → IsOfReading stop ⊎ (stop ≡ stops.Usage) → stop ≡ stops.WriteFault → ⊥
not_of_writing stop (inl h) e = subst IsOfReading e h
not_of_writing stop (inr u) e = let k : stops.Usage ≡ stops.WriteFault = sym u ∙ e in cc

pub usage_is_no_read_fault : Usage ≡ ReadFault → ⊥
usage_is_no_read_fault e = cc

pub usage_is_no_write_fault : Usage ≡ WriteFault → ⊥
usage_is_no_write_fault e = cc

-- ---- what is written at an end
module _ (files : Files) (words : List (List ℕ)) (old new : Option (List ℕ)) (status : Status) (said : IsSaid status) where
  pub cause_written : (stop : Stop) (task : Task) → Asks words task → IsOutside stop ⊎ StopsAnswer files task stop → TellsStop stop old new status → IsWritten files words old new status
  cause_written stop task asks (inl o) h = absurd (outside_unsaid stop o (subst IsSaid h.ends said))
  cause_written stop task asks (inr s) h = inr (inl (record { task = task; asks = asks; stop = stop; stops = s; tells = h }))

  -- the line of a stop that is none of wrong words
  pub stop_written : (stop : Stop) → (stop ≡ stops.Usage → ⊥) → IsOutside stop ⊎ StopsWords files words stop → Reports stop status old new → IsWritten files words old new status
  stop_written stop other h (inr k) = absurd (not_both status said k.0)
  stop_written stop other (inl o) (inl k) = absurd (outside_unsaid stop o (subst IsSaid k.0 said))
  stop_written stop other (inr (inl w)) (inl k) = absurd (other w.0)
  stop_written stop other (inr (inr c)) (inl k) = cause_written stop c.1 c.2 (inr c.3) (record {
    words = [];
    written = k.1 ∙ ap (written_with old) (sym (append-nil (stop_text stop)));
    ends = k.0;
  })

  -- what `explain` writes at a stop
  pub words_written : (stop : Stop) → ((task : Task) × Asks words task × (IsOutside stop ⊎ StopsAnswer files task stop)) → IsCutShort status ⊎ TellsStop stop old new status → IsWritten files words old new status
  words_written stop told (inl h) = absurd (not_both status said h)
  words_written stop told (inr h) = cause_written stop told.0 told.1 told.2 h

  pub answer_written : (text : List ℕ) (ends : Status) → ((task : Task) × Asks words task × AnswersTask files task text ends) → IsCutShort status ⊎ ((status ≡ ends) × (new ≡ written_with old text)) → IsWritten files words old new status
  answer_written text ends told (inl h) = absurd (not_both status said h)
  answer_written text ends told (inr h) = inl (record {
    task = told.0;
    asks = told.1;
    text = text;
    answers = subst (AnswersTask files told.0 text) (sym h.0) told.2;
    written = h.1;
  })

  -- wrong words
  pub usage_written : (text : List ℕ) → text ≡ USAGE.now → IsOutside stops.Usage ⊎ StopsWords files words stops.Usage → IsCutShort status ⊎ ((status ≡ Usage) × (new ≡ written_with old text)) → IsWritten files words old new status
  usage_written text e h (inl k) = absurd (not_both status said k)
  usage_written text e (inl o) (inr k) = absurd o
  usage_written text e (inr (inl w)) (inr k) = inr (inr (record { nothing = w.1; ends = k.0; written = k.1 ∙ ap (written_with old) e }))
  usage_written text e (inr (inr c)) (inr k) = absurd c.0

  -- ---- what comes of an answer, and of a stop
  pub answer_at_end : (a : Answer) → ((task : Task) × Asks words task × IsToldAnswer files task a) → WritesAnswer a old new status → IsWritten files words old new status
  answer_at_end (Whole text ends) told h = answer_written text.items ends told h
  answer_at_end (Explained stop text) told h = words_written stop told h

  pub stop_at_end : (stop : Stop) → IsOutside stop ⊎ StopsWords files words stop → WritesStop stop old new status → IsWritten files words old new status
  stop_at_end stop h (inl w) = usage_written USAGE.now refl (subst (λ s. IsOutside s ⊎ StopsWords files words s) w.0 h) w.1
  stop_at_end stop h (inr w) = stop_written stop w.0 h w.1
