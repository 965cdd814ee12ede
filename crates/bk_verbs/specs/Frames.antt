-- What a call leaves of what had been written before it.
use Rattle.std.specs.Prelude.{◌≡◌, ℕ, List, Option}
use Rattle.bk_io.specs.Pieces.{written_with}

-- it stands, with some bytes after it; and it is told after the call exactly where it was told before
pub record Appends (old new : Option (List ℕ)) : Type 0 where
  pub bytes : List ℕ
  pub appended : new ≡ written_with old bytes
