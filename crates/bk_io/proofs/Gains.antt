-- A list that gained bytes at its end.
use Rattle.std.proofs.Common.{◌≡◌, ℕ, ◌+◌, ◌≤◌, List, ◌++◌, take, drop, length, sym, ◌∙◌, ap, arith}
use Rattle.std.proofs.lemmas.List.{take-append-drop, length-drop}
use Rattle.bk_io.specs.Files.{GainsUpTo}

-- a list that begins with the old one and is at most max longer gained at most max bytes
pub gains_from_front : (max : ℕ) (old new : List ℕ) → take (length old) new ≡ old → length new ≤ length old + max → GainsUpTo max old new
gains_from_front max old new front within =
    record {
      bytes = drop (length old) new;
      within = rw (length-drop (length old) new) (omega arith);
      gained = sym (take-append-drop (length old) new) ∙ ap (λ xs. xs ++ drop (length old) new) front;
    }
