-- The words of the command line, as `clap` reads them.
use Rattle.std.specs.Prelude.{◌≡◌, true, List, [], ◌∷◌, Some, codes, unwrap_or}
use Rattle.clap.specs.Lexer.{usize_max}
use Rattle.clap.specs.Walk.{Rule}
use Rattle.clap.specs.Words.{App, Kinds, Row, Text, new_app, new_rule, with_rule, matches_of, first_of, all_of, fault_of}
use Rattle.clap.specs.Simple.{on_top}
use Rattle.clap.specs.declared.builder.action.ArgAction.TheVariants.{Append}
use Rattle.bk_limits.specs.declared.TheConstants.{FUEL_TEXT}

-- ---- the command
-- the verb, which has to stand there
abbrev pub verb_rule : Rule
verb_rule = record (new_rule (codes "VERB")) { required = true }

-- any number of files
abbrev pub file_rule : Rule
file_rule =
    record (new_rule (codes "FILE")) { action = Some Append; range = Some (record { start_inclusive = 0; end_inclusive = usize_max }) }

-- `--fuel N`, FUEL where it is not there
abbrev pub fuel_rule : Rule
fuel_rule = record (new_rule (codes "fuel")) { long = Some (codes "fuel"); defaults = FUEL_TEXT.now ∷ [] }

-- the one command of the program, without the flags for help and version; its words do not begin with the program's name
unfoldable pub program_command : App
program_command = with_rule (with_rule (with_rule
    (on_top (λ s. record s { no_binary_name = true; disable_help_flag = true; disable_version_flag = true }) (new_app (codes "bkit")))
    verb_rule) file_rule) fuel_rule

-- ---- what it makes of words
-- the kinds of error that it refuses the words with; none where it takes them
unfoldable pub refusal_kinds : List Text → Kinds
refusal_kinds words = fault_of program_command words

-- the values that it finds for its arguments
unfoldable pub found_rows : List Text → List Row
found_rows words = matches_of program_command words

-- the command takes the words: with this verb, these files and this text after `--fuel`
pub record AreWords (words : List Text) (verb : Text) (files : List Text) (fuel : Text) : Type 0 where
  pub taken : refusal_kinds words ≡ []
  pub verb_is : first_of (codes "VERB") (found_rows words) ≡ Some verb
  pub files_are : files ≡ unwrap_or (all_of (codes "FILE") (found_rows words)) []
  pub fuel_is : first_of (codes "fuel") (found_rows words) ≡ Some fuel
