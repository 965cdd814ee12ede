-- The words of the command line, as `clap` reads them.
use Rattle.std.specs.Prelude.{Bool, true, false, List, Some, codes}
use Rattle.std.specs.Option.{option_map_or}
use Rattle.std.specs.Str.{bytes_eq}
use Rattle.clap.specs.Lexer.{usize_max}
use Rattle.clap.specs.Words.{App, Kinds, Row, Rule, Text, new_app, new_rule, with_rule, matches_of, first_of, fault_of}
use Rattle.clap.specs.Simple.{on_top}
use Rattle.clap.specs.declared.builder.action.ArgAction.TheVariants.{Append, SetTrue}

-- ---- the command
-- the verb
abbrev pub verb_rule : Rule
verb_rule = new_rule (codes "VERB")

-- any number of files
abbrev pub file_rule : Rule
file_rule =
    record (new_rule (codes "FILE")) { action = Some Append; range = Some (record { start_inclusive = 0; end_inclusive = usize_max }) }

-- `--at N`
abbrev pub place_rule : Rule
place_rule = record (new_rule (codes "at")) { long = Some (codes "at") }

-- an option of this name without a value
abbrev pub flag_rule : Text → Rule
flag_rule name = record (new_rule name) { long = Some name; action = Some SetTrue }

-- without arguments, without the flags for help and version of `clap`; its words do not begin with the program's name
abbrev pub bare_command : App
bare_command =
    on_top (λ s. record s { no_binary_name = true; disable_help_flag = true; disable_version_flag = true }) (new_app (codes "bkproof"))

-- with the verb, the files and `--at`
abbrev pub command_of_words : App
command_of_words = with_rule (with_rule (with_rule bare_command verb_rule) file_rule) place_rule

-- the one command of the program
unfoldable pub program_command : App
program_command = with_rule (with_rule (with_rule (with_rule (with_rule (with_rule command_of_words
    (flag_rule (codes "open"))) (flag_rule (codes "json"))) (flag_rule (codes "html")))
    (flag_rule (codes "image"))) (flag_rule (codes "help"))) (flag_rule (codes "man"))

-- ---- what it makes of words
-- the kinds of error that it refuses the words with; none where it takes them
unfoldable pub refusal_kinds : List Text → Kinds
refusal_kinds words = fault_of program_command words

-- the values that it finds for its arguments
unfoldable pub found_rows : List Text → List Row
found_rows words = matches_of program_command words

-- whether an option without a value is there: `clap` gives it the text true
abbrev pub is_on : Text → List Row → Bool
is_on id rows = option_map_or (λ text. bytes_eq text (codes "true")) (first_of id rows) false
