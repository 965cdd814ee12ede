-- What is written is appended.
use Rattle.std.proofs.Common.{◌≡◌, ℕ, List, [], ◌++◌, take, Option, ◌∙◌, ap}
use Rattle.bk_io.specs.Pieces.{written_with, WroteFront}
use Rattle.bk_verbs.specs.Frames.{Appends}
use Rattle.bk_verbs.proofs.Plays.{written_nothing, written_twice}

pub appends_nothing : (old new : Option (List ℕ)) → new ≡ old → Appends old new
appends_nothing old new e = record { bytes = []; appended = e ∙ written_nothing old }

pub appends_text : (text : List ℕ) (old new : Option (List ℕ)) → new ≡ written_with old text → Appends old new
appends_text text old new e = record { bytes = text; appended = e }

pub appends_front : (text : List ℕ) (old new : Option (List ℕ)) → WroteFront text old new → Appends old new
appends_front text old new w = record { bytes = take w.count text; appended = w.front }

pub appends_twice : (old mid new : Option (List ℕ)) → Appends old mid → Appends mid new → Appends old new
appends_twice old mid new a b = record {
  bytes = a.bytes ++ b.bytes;
  appended = b.appended ∙ (ap (λ m. written_with m b.bytes) a.appended ∙ written_twice old a.bytes b.bytes);
}
