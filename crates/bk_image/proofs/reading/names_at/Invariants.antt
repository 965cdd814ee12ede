use Rattle.std.proofs.Common.{◌≡◌, ◌-◌}
use Rattle.bk_image.specs.Reading.{items_at, text_at}
use Rattle.bk_image.proofs.Loop.{with_front}
use Rattle.bk_image.proofs.reading.names_at.Given as goal

abbrev pub invariant-loop : goal.invariant-loop
invariant-loop l = with_front l.names.items (items_at (text_at l.len) (l.count - l.counter) l.rest) ≡ items_at (text_at l.len) l.count l.bytes
