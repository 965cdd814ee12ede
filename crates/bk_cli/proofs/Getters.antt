-- What the command makes of the words, as the parser's getters tell it.
use Rattle.std.proofs.Common.{◌≡◌, List, [], Option, Some, None, refl, sym, ◌∙◌, ap, codes}
use Rattle.std.specs.Prelude.{option_map, unwrap_or}
use Rattle.std.proofs.lemmas.Option.{none-some}
use Rattle.clap.specs.Walk.{Text, first_of, all_of, rows_of}
use Rattle.clap.specs.Matches.{found_of, matched_of, first_value, raw_values}
use Rattle.clap.specs.declared.parser.matches.ArgMatches.{ArgMatches}
use Rattle.clap.proofs.WalkLemmas.{first_value-rows, raw_values-rows}
use Rattle.bk_cli.specs.Words.{refusal_kinds, found_rows, AreWords}

module _ (words : List Text) (m : ArgMatches) (rows : rows_of (found_of m) ≡ found_rows words) where
  -- the first value of an argument
  pub first_is : (id : Text) (value : Option Text) → value ≡ first_value (found_of m) id → value ≡ first_of id (found_rows words)
  first_is id value e = e ∙ (first_value-rows (found_of m) id ∙ ap (first_of id) rows)

  -- all values of one
  pub all_are : (id : Text) (values : Option (List Text)) → values ≡ option_map raw_values (matched_of (found_of m) id) → values ≡ all_of id (found_rows words)
  all_are id values e = e ∙ (raw_values-rows (found_of m) id ∙ ap (all_of id) rows)

  -- an argument without a value is one of no words
  pub no_verb : first_value (found_of m) (codes "VERB") ≡ None → (verb : Text) (files : List Text) (fuel : Text) → AreWords words verb files fuel → ⊥
  no_verb e verb files fuel w = none-some verb (first_is (codes "VERB") None (sym e) ∙ w.verb_is)

  pub no_fuel : first_value (found_of m) (codes "fuel") ≡ None → (verb : Text) (files : List Text) (fuel : Text) → AreWords words verb files fuel → ⊥
  no_fuel e verb files fuel w = none-some fuel (first_is (codes "fuel") None (sym e) ∙ w.fuel_is)

  -- what the getters give, where the command takes the words
  pub read_right : (verb fuel : Text) (files : List Text) → refusal_kinds words ≡ [] → Some verb ≡ first_value (found_of m) (codes "VERB") → Some fuel ≡ first_value (found_of m) (codes "fuel") →
      files ≡ unwrap_or (option_map raw_values (matched_of (found_of m) (codes "FILE"))) [] → AreWords words verb files fuel
  read_right verb fuel files taken v f e = record {
    taken = taken;
    verb_is = sym (first_is (codes "VERB") (Some verb) v);
    files_are = e ∙ ap (λ o. unwrap_or o []) (all_are (codes "FILE") (option_map raw_values (matched_of (found_of m) (codes "FILE"))) refl);
    fuel_is = sym (first_is (codes "fuel") (Some fuel) f);
  }
