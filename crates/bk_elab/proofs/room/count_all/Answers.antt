use Rattle.std.proofs.Common.{ℕ, ◌+◌, ◌∙◌, List, length, ap, rules}
use Rattle.bk_dev.specs.Development.{Level}
use Rattle.bk_dev.specs.Flattened.{copied_in_levels}
use Rattle.bk_scope.specs.Shown.{above_shown}
use Rattle.bk_elab.proofs.Rooms.{room-counted}
use Rattle.bk_elab.proofs.room.count_all.Goals as goal

pub returns : goal.returns
returns c = λ top.
    room-counted top (above_shown c.args.above) c.args.added.now c.in_ok-sets.sets c.in_ok-_sets._sets c.in_ok-variables.variables c.in_ok-number.number c.in_ok-number-2.number c.in_ok-_number._number
    (c.in_ok-sets.ensures ∙ ap (λ (n : ℕ). 0 + n) c.sets.ensures.value) (c.in_ok-_sets.ensures ∙ ap (λ (n : ℕ). c.in_ok-sets.sets + n) (search rules)) (search rules)
    (c.in_ok-variables.ensures ∙ ap (λ (n : ℕ). 0 + n) c.variables.ensures.value) (c.in_ok-number.ensures ∙ ap (λ (n : ℕ). c.in_ok-variables.variables + n) (search rules))
    (c.in_ok-number-2.ensures ∙ ap (λ (ls : List Level). c.in_ok-number.number + length (copied_in_levels ls)) c.levels.ensures)
    (c.in_ok-_number.ensures ∙ ap (λ (ls : List Level). c.in_ok-number-2.number + length (copied_in_levels ls)) c.deref.ensures.value) (search rules)
