-- Calls one after another: where a call starts, what it gives out, and a whole session.
use Rattle.std.specs.Prelude.{◌≡◌, ℕ, ℤ, pos, List, [], ◌∷◌, length, map, replicate, slice_get, slice_index_or, slice_set, Some}
use Rattle.bk_code.specs.declared.image.Image.{Image}
use Rattle.bk_code.specs.declared.image.OpEntry.{OpEntry}
use Rattle.bk_code.specs.declared.image.Parameter.{Parameter}
use Rattle.bk_code.specs.Step.{Config}
use Rattle.bk_code.specs.Run.{End, Done, Trapped, OutOfFuel, Ends}

-- the cells after the arguments were put into the input slots in order: of two for one slot the later stays
abbrev pub placed : List Parameter → List ℤ → List ℤ → List ℤ
placed (input ∷ inputs) (n ∷ args) cells = placed inputs args (slice_set cells input.slot n)
placed [] args cells = cells
placed inputs [] cells = cells

-- the numbers in the output slots
abbrev pub outputs_of : List Parameter → List ℤ → List ℤ
outputs_of outputs cells = map (λ output. slice_index_or cells output.slot (pos 0)) outputs

-- an operation's call starts at its place with an empty stack and its arguments in the input slots
abbrev pub call_start : OpEntry → List ℤ → List ℤ → Config
call_start entry args cells = record { place = entry.start; stack = []; cells = placed entry.inputs args cells }

-- the initialisation starts at place 0 with an empty stack and each cell 0
abbrev pub first_start : Image → Config
first_start image = record { place = 0; stack = []; cells = replicate image.cells (pos 0) }

-- a call of a session: the operation's number and the arguments
pub record Request : Type 0 where
  pub op : ℕ
  pub args : List ℤ

-- what is told of a call: its end, its outputs and the cells after it
pub record Told : Type 0 where
  pub end : End
  pub outputs : List ℤ
  pub cells : List ℤ

-- the outputs of a call: the numbers in the output slots where it is done, and else none
abbrev pub given_out : List Parameter → End → List ℤ → List ℤ
given_out outputs (Done n) cells = outputs_of outputs cells
given_out outputs (Trapped kind place n) cells = []
given_out outputs OutOfFuel cells = []

-- the call that starts at c tells this
pub record Tells (image : Image) (fuel : ℕ) (outputs : List Parameter) (c : Config) (told : Told) : Type 0 where
  pub last : Config
  pub ends : Ends image fuel c told.end last
  pub cells : told.cells ≡ last.cells
  pub given : told.outputs ≡ given_out outputs told.end last.cells

-- the operation that is asked for is called on these cells and tells this
pub record Answers (image : Image) (fuel : ℕ) (request : Request) (cells : List ℤ) (told : Told) : Type 0 where
  pub entry : OpEntry
  pub named : slice_get image.ops request.op ≡ Some entry
  pub counted : length request.args ≡ length entry.inputs
  pub call : Tells image fuel entry.outputs (call_start entry request.args cells) told

-- after a call with that end and those cells the session goes on with the requests: each call on the cells that
-- the one before it left, up to the first that is not done
abbrev pub Continues : Image → ℕ → End → List ℤ → List Request → List Told → Type 0
Continues image fuel (Done n) cells [] [] = Unit {0}
Continues image fuel (Done n) cells [] (told ∷ rest) = ⊥
Continues image fuel (Done n) cells (request ∷ requests) [] = ⊥
Continues image fuel (Done n) cells (request ∷ requests) (told ∷ rest) =
    Answers image fuel request cells told × Continues image fuel told.end told.cells requests rest
Continues image fuel end cells requests [] = Unit {0}
Continues image fuel end cells requests (told ∷ rest) = ⊥

-- a session: the initialisation first, from cells 0, and then the calls
abbrev pub Session : Image → ℕ → List Request → List Told → Type 0
Session image fuel requests [] = ⊥
Session image fuel requests (told ∷ rest) =
    Tells image fuel [] (first_start image) told × Continues image fuel told.end told.cells requests rest
