-- The levels from the last to the first.
use Rattle.std.proofs.Common.{◌≡◌, List, [], ◌∷◌, ◌++◌, refl}
use Rattle.bk_dev.specs.Development.{Level}
use Rattle.bk_dev.specs.Layout.{reversed}

reversed-onto : (ls : List Level) (l : Level) (done : List Level) → reversed (ls ++ l ∷ []) done ≡ l ∷ reversed ls done
reversed-onto [] l done = refl
reversed-onto (m ∷ ls) l done = reversed-onto ls l (m ∷ done)

-- the last comes first
pub reversed_last : (ls : List Level) (l : Level) → reversed (ls ++ l ∷ []) [] ≡ l ∷ reversed ls []
reversed_last ls l = reversed-onto ls l []
