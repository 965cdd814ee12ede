-- A session as the program plays it: its status and the text that it
-- writes. Fuel is how many steps the initialisation and each call may have.
use Rattle.std.specs.Prelude.{◌≡◌, ℕ, ◌+◌, ℤ, List, [], ◌∷◌, ◌++◌, ◌≤◌, length, All, take, Option, Some, None}
use Rattle.bk_io.specs.Pieces.{Piece, PutWhole, written_with, WroteFront}
use Rattle.bk_code.specs.declared.image.Image.{Image}
use Rattle.bk_code.specs.Run.{End, Done, Trapped, OutOfFuel}
use Rattle.bk_code.specs.Session.{Request, Told, Answers, Continues, Session}
use Rattle.bk_calls.specs.Transcript.{reply_text, replies_text, done_count, step_sum, steps_of, closing_text, transcript}
use Rattle.bk_verbs.specs.Puts.{PutsEach}
use Rattle.bk_verbs.specs.declared.status.Status.{Status}
use Rattle.bk_verbs.specs.declared.status.Status.TheVariants.{Done as DoneStatus, Trapped as TrappedStatus, OutOfFuel as OutOfFuelStatus}

-- ---- the status of a session
-- the status of the end of a call
abbrev pub status_of : End → Status
status_of (Done n) = DoneStatus
status_of (Trapped kind place n) = TrappedStatus
status_of OutOfFuel = OutOfFuelStatus

-- the end of the last call that is told of, or else this end
abbrev pub last_end : End → List Told → End
last_end end [] = end
last_end end (told ∷ tolds) = last_end told.end tolds

-- the status that a session's last end gives; each session tells of the initialisation
abbrev pub session_status : List Told → Status
session_status [] = DoneStatus
session_status (told ∷ tolds) = status_of (last_end told.end tolds)

-- ---- what is played
-- the calls are a session of the image, what is written is its transcript, and its last end gives the status
pub record Plays (image : Image) (fuel : ℕ) (requests : List Request) (status : Status) (old new : Option (List ℕ)) : Type 0 where
  pub tolds : List Told
  pub session : Session image fuel requests tolds
  pub last : status ≡ session_status tolds
  pub written : new ≡ written_with old (transcript image fuel requests tolds)

-- one call of a session is made on the cells before it and leaves the cells after it, and its line is written
pub record PlaysCall (image : Image) (fuel : ℕ) (request : Request) (before : List ℤ)
    (end : End) (after : List ℤ) (old new : Option (List ℕ)) : Type 0 where
  pub told : Told
  pub answers : Answers image fuel request before told
  pub ended : told.end ≡ end
  pub cells : told.cells ≡ after
  pub written : new ≡ written_with old (reply_text image (Some request.op) end told.outputs)

-- the calls go on after that end and on those cells, up to the first that is not done: what they end with, how many are
-- done, their steps, and the lines that are written
pub record PlaysCalls (image : Image) (fuel : ℕ) (requests : List Request) (end : End)
    (cells : List ℤ) (last : End) (done steps : ℕ) (old new : Option (List ℕ)) : Type 0 where
  pub tolds : List Told
  pub goes_on : Continues image fuel end cells requests tolds
  pub last_is : last ≡ last_end end tolds
  pub done_is : done ≡ done_count tolds
  pub steps_are : steps ≡ step_sum fuel tolds
  pub written : new ≡ written_with old (replies_text image requests tolds)

-- ---- line by line
-- the lines of the calls that were made for requests, in order
abbrev pub replies_lines : Image → List Request → List Told → List (List ℕ)
replies_lines image (request ∷ requests) (told ∷ tolds) =
    reply_text image (Some request.op) told.end told.outputs ∷ replies_lines image requests tolds
replies_lines image _ _ = []

-- those of a session: the initialisation's, which is empty where it is done, those of the calls, and the last line
abbrev pub transcript_lines : Image → (fuel : ℕ) → List Request → List Told → List (List ℕ)
transcript_lines image fuel requests [] = []
transcript_lines image fuel requests (first ∷ tolds) =
    reply_text image None first.end first.outputs ∷ (replies_lines image requests tolds ++
    closing_text (done_count tolds) (steps_of fuel first.end + step_sum fuel tolds) ∷ [])

-- one call of a session, whose line is put as one piece
pub record PutsCall (image : Image) (fuel : ℕ) (request : Request) (before : List ℤ) (end : End) (after : List ℤ)
    (old new : Option (List ℕ)) (old_pieces new_pieces : Option (List Piece)) : Type 0 where
  pub plays : PlaysCall image fuel request before end after old new
  pub put : PutWhole (reply_text image (Some request.op) end plays.told.outputs) old_pieces new_pieces

-- calls one after another, each of whose lines is put as one piece
pub record PutsCalls (image : Image) (fuel : ℕ) (requests : List Request) (end : End) (cells : List ℤ) (last : End) (done steps : ℕ)
    (old new : Option (List ℕ)) (old_pieces new_pieces : Option (List Piece)) : Type 0 where
  pub plays : PlaysCalls image fuel requests end cells last done steps old new
  pub puts : PutsEach (replies_lines image requests plays.tolds) old_pieces new_pieces

-- a session, each of whose lines is put as one piece
pub record Puts (image : Image) (fuel : ℕ) (requests : List Request) (status : Status)
    (old new : Option (List ℕ)) (old_pieces new_pieces : Option (List Piece)) : Type 0 where
  pub plays : Plays image fuel requests status old new
  pub puts : PutsEach (transcript_lines image fuel requests plays.tolds) old_pieces new_pieces

-- so many places are enough for the outputs of each operation
abbrev pub HasOutputRoom : Image → ℕ → Type 0
HasOutputRoom image places = All (λ entry. length entry.outputs ≤ places) image.ops

-- ---- what is written where the sink fails
-- one call of a session is made on the cells before it, and a front of its line is written
pub record PlaysCallFront (image : Image) (fuel : ℕ) (request : Request) (before : List ℤ) (old new : Option (List ℕ)) : Type 0 where
  pub told : Told
  pub answers : Answers image fuel request before told
  pub front : WroteFront (reply_text image (Some request.op) told.end told.outputs) old new

-- so many of the calls, from the first, go on after that end and on those cells, and a front of their lines is written
pub record PlaysCallsFront (image : Image) (fuel : ℕ) (requests : List Request)
    (end : End) (cells : List ℤ) (old new : Option (List ℕ)) : Type 0 where
  pub count : ℕ
  pub tolds : List Told
  pub goes_on : Continues image fuel end cells (take count requests) tolds
  pub front : WroteFront (replies_text image (take count requests) tolds) old new

-- what is written is a front of the transcript of each session of the image over these calls; there is one at most
abbrev pub PlaysFront : Image → (fuel : ℕ) → List Request → (old new : Option (List ℕ)) → Type 0
PlaysFront image fuel requests old new = (tolds : List Told) →
    Session image fuel requests tolds → WroteFront (transcript image fuel requests tolds) old new
