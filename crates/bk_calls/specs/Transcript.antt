-- The text of a session: a line for each call, and a last line with the numbers of calls and of steps.
use Rattle.std.specs.Prelude.{◌≡◌, ℕ, ◌+◌, ℤ, pos, negsuc, List, [], ◌∷◌, ◌++◌, length, codes, decimal}
use Rattle.std.specs.Prelude.{Option, Some, None, slice_get, slice_index_or, if◌then◌else◌}
use Rattle.std.specs.Ordering.{int_eq}
use Rattle.std.specs.Fmt.{signed_decimal}
use Rattle.std.specs.List.{join_by}
use Rattle.bk_code.specs.declared.image.Image.{Image}
use Rattle.bk_code.specs.declared.image.OpEntry.{OpEntry}
use Rattle.bk_code.specs.declared.image.Parameter.{Parameter}
use Rattle.bk_code.specs.declared.image.CellKind.{CellKind}
use Rattle.bk_code.specs.declared.image.CellKind.TheVariants.{Integer, Bool, Set}
use Rattle.bk_code.specs.declared.instruction.Trap.{Trap}
use Rattle.bk_code.specs.declared.instruction.Trap.TheVariants.{Overflow, DivZero, ModRange, Index}
use Rattle.bk_code.specs.Run.{End, Done, Trapped, OutOfFuel}
use Rattle.bk_code.specs.Session.{Request, Told}

-- ---- values
-- a number as a truth value; one that stands for none stays a number
abbrev pub truth_text : ℤ → List ℕ
truth_text n = if int_eq n (pos 0) then codes "FALSE" else if int_eq n (pos 1) then codes "TRUE" else signed_decimal n

-- the name of the element with an index
abbrev pub element_name : List (List ℕ) → ℤ → Option (List ℕ)
element_name names (pos index) = slice_get names index
element_name names (negsuc n) = None

-- a name, or else a number
abbrev pub name_or_number : Option (List ℕ) → ℤ → List ℕ
name_or_number (Some name) n = name
name_or_number None n = signed_decimal n

-- the text of a number in a cell of some kind: one that is no element's index stays a number
abbrev pub value_text : Image → CellKind → ℤ → List ℕ
value_text image Integer n = signed_decimal n
value_text image Bool n = truth_text n
value_text image (Set k) n = name_or_number (element_name (slice_index_or image.sets k []) n) n

-- ---- replies
-- the texts of outputs, in order
abbrev pub value_texts : Image → List Parameter → List ℤ → List (List ℕ)
value_texts image (output ∷ outputs) (n ∷ numbers) = value_text image output.kind n ∷ value_texts image outputs numbers
value_texts image _ _ = []

-- what stands after the name of an operation that is done: nothing where it has no outputs
abbrev pub given_text : List (List ℕ) → List ℕ
given_text [] = []
given_text (value ∷ values) = codes " = " ++ join_by (λ text. text) (codes ", ") (value ∷ values)

-- the word by which a transcript tells of a trap
abbrev pub trap_text : Trap → List ℕ
trap_text Overflow = codes "Overflow"
trap_text DivZero = codes "DivZero"
trap_text ModRange = codes "ModRange"
trap_text Index = codes "Index"

-- the name of an operation
abbrev pub entry_name : Option OpEntry → List ℕ
entry_name (Some entry) = entry.name
entry_name None = []

-- the outputs of an operation
abbrev pub entry_outputs : Option OpEntry → List Parameter
entry_outputs (Some entry) = entry.outputs
entry_outputs None = []

-- the name of what was called: the operation with that number, or the initialisation
abbrev pub called_text : Image → Option ℕ → List ℕ
called_text image (Some op) = entry_name (slice_get image.ops op)
called_text image None = codes "initialisation"

-- the line of a call that is done; the initialisation leaves none
abbrev pub done_text : Image → Option ℕ → List ℤ → List ℕ
done_text image (Some op) outputs =
    entry_name (slice_get image.ops op) ++ given_text (value_texts image (entry_outputs (slice_get image.ops op)) outputs) ++ codes "\n"
done_text image None outputs = []

-- the line of a call with its end and its outputs, which matter where it is done
abbrev pub reply_text : Image → Option ℕ → End → List ℤ → List ℕ
reply_text image op (Done steps) outputs = done_text image op outputs
reply_text image op (Trapped kind place steps) outputs =
    called_text image op ++ codes " trapped " ++ trap_text kind ++ codes " at " ++ decimal place ++ codes "\n"
reply_text image op OutOfFuel outputs = called_text image op ++ codes " out of fuel\n"

-- there are as many numbers as what was called has outputs, an operation of the image or the initialisation
abbrev pub AreOutputs : Image → Option ℕ → List ℤ → Type 0
AreOutputs image (Some op) outputs = (entry : OpEntry) × (slice_get image.ops op ≡ Some entry) × (length outputs ≡ length entry.outputs)
AreOutputs image None outputs = outputs ≡ []

-- ---- sessions
-- the steps of a call with that fuel: all of the fuel where it is out of it
abbrev pub steps_of : ℕ → End → ℕ
steps_of fuel (Done steps) = steps
steps_of fuel (Trapped kind place steps) = steps
steps_of fuel OutOfFuel = fuel

-- the steps of all calls
abbrev pub step_sum : ℕ → List Told → ℕ
step_sum fuel [] = 0
step_sum fuel (told ∷ tolds) = steps_of fuel told.end + step_sum fuel tolds

-- 1 for a call that is done
abbrev pub done_number : End → ℕ
done_number (Done steps) = 1
done_number (Trapped kind place steps) = 0
done_number OutOfFuel = 0

-- how many calls are done
abbrev pub done_count : List Told → ℕ
done_count [] = 0
done_count (told ∷ tolds) = done_number told.end + done_count tolds

-- the lines of the calls that were made for requests, in order
abbrev pub replies_text : Image → List Request → List Told → List ℕ
replies_text image (request ∷ requests) (told ∷ tolds) =
    reply_text image (Some request.op) told.end told.outputs ++ replies_text image requests tolds
replies_text image _ _ = []

-- the last line, with the number of calls that are done and that of all steps
abbrev pub closing_text : ℕ → ℕ → List ℕ
closing_text calls steps = codes "end " ++ decimal calls ++ codes " calls, " ++ decimal steps ++ codes " steps\n"

-- the text of a session with that fuel for each call: first the initialisation is told of, and then a call for each request
abbrev pub transcript : Image → ℕ → List Request → List Told → List ℕ
transcript image fuel requests [] = []
transcript image fuel requests (first ∷ tolds) =
    reply_text image None first.end first.outputs ++ replies_text image requests tolds ++
    closing_text (done_count tolds) (steps_of fuel first.end + step_sum fuel tolds)
