-- What `status` writes: how far each obligation is proved, and how many are.
use Rattle.std.specs.Prelude.{ℕ, Bool, true, false, not, List, ◌++◌, length, count_by, codes, decimal}
use Rattle.std.specs.List.{flat_map}
use Rattle.bk_status.specs.declared.state.State.{State}
use Rattle.bk_status.specs.declared.state.State.TheVariants.{Obvious, Proved, NoScript, BadStep, Open, Extra}
use Rattle.bk_status.specs.declared.table.Row.{Row}
use Rattle.bk_status.specs.Rows.{is_settled}

-- how far an obligation is proved, in words
abbrev pub state_text : State → List ℕ
state_text Obvious = codes "obvious"
state_text Proved = codes "proved"
state_text NoScript = codes "no script"
state_text (BadStep rule) = codes "bad step " ++ decimal rule
state_text (Open left) = codes "open " ++ decimal left
state_text (Extra rule) = codes "extra " ++ decimal rule

-- `Tally.inc.1 proved`
abbrev pub row_text : Row → List ℕ
row_text row = row.name ++ codes " " ++ state_text row.state ++ codes "\n"

-- whether the obligation needs no proof
abbrev pub is_obvious_state : State → Bool
is_obvious_state Obvious = true
is_obvious_state _ = false

-- whether a script proves it
abbrev pub is_proved_state : State → Bool
is_proved_state Proved = true
is_proved_state _ = false

-- how many rows are of such a state
abbrev pub count_states : (State → Bool) → List Row → ℕ
count_states is_such rows = count_by (λ row. is_such row.state) rows

-- `12 obligations: 7 obvious, 5 proved, 0 open`; the last number counts all others
abbrev pub sums_text : List Row → List ℕ
sums_text rows =
    decimal (length rows) ++ codes " obligations: " ++ decimal (count_states is_obvious_state rows) ++ codes " obvious, " ++
    decimal (count_states is_proved_state rows) ++ codes " proved, "
    ++ decimal (count_states (λ state. not (is_settled state)) rows) ++ codes " open\n"

-- a line for each row, and after them the sums
abbrev pub table_text : List Row → List ℕ
table_text rows = flat_map row_text rows ++ sums_text rows
