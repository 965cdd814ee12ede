use Rattle.std.proofs.Common.{ℕ, List, length, sym, [], ap, get_or, ◌∙◌, arith}
use Rattle.bk_calls.specs.Room.{longest_of}
use Rattle.bk_calls.proofs.Lengths.{longest_none}
use Rattle.bk_calls.proofs.room.longest_element.Goals as goal

pub returns-in-None : goal.returns-in-None
returns-in-None c =
    sym longest_none ∙ ap (λ (names : List (List ℕ)). length (longest_of names)) (c.in-None.ensures.lookup.4 (omega arith) []) ∙
    ap (λ (sets : List (List (List ℕ))). length (longest_of (get_or sets c.args.set []))) c.as_slice.ensures
