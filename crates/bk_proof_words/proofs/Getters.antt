-- What the command makes of the words, as the parser's getters tell it.
use Rattle.std.proofs.Common.{◌≡◌, ℕ, true, false, true≢false, List, [], Option, Some, None, MatchOption, sym, ◌∙◌, ap, subst, codes}
use Rattle.std.specs.Prelude.{option_map, unwrap_or}
use Rattle.std.proofs.lemmas.Option.{none-some}
use Rattle.clap.specs.Walk.{Text, Row, first_of, all_of, rows_of}
use Rattle.clap.specs.Matches.{found_of, matched_of, first_value, raw_values}
use Rattle.clap.specs.declared.parser.matches.ArgMatches.{ArgMatches}
use Rattle.clap.proofs.WalkLemmas.{first_value-rows, raw_values-rows}
use Rattle.bk_proof_words.specs.Words.{is_on}
use Rattle.bk_proof_words.specs.Tasks.{Chosen, IsVerbTask, AsksVerb, IsTaskOf, chosen_by, chosen_in, files_in}
use Rattle.bk_proof_words.specs.declared.task.Task.{Task}
use Rattle.bk_proof_words.specs.declared.task.Task.TheVariants.{Goal, List as ListTask, Explain, Prune, Report, Help, ManPage}
use Rattle.bk_proof_words.specs.declared.verbs.Options.{Options}

-- the first value of an argument, and its values
pub first_is : (m : ArgMatches) (id : Text) (value : Option Text) → value ≡ first_value (found_of m) id → value ≡ first_of id (rows_of (found_of m))
first_is m id value e = e ∙ first_value-rows (found_of m) id

pub all_are : (m : ArgMatches) (id : Text) (values : List Text) → values ≡ unwrap_or (option_map raw_values (matched_of (found_of m) id)) [] →
    values ≡ unwrap_or (all_of id (rows_of (found_of m))) []
all_are m id values e = e ∙ ap (λ o. unwrap_or o []) (raw_values-rows (found_of m) id)

-- what is held is what is found, where each part is
pub chosen_is : (options : Options) (chosen : Chosen) → (chosen_by options).at ≡ chosen.at → options.has_open ≡ chosen.has_open → options.has_json ≡ chosen.has_json → options.has_html ≡ chosen.has_html →
    options.has_image ≡ chosen.has_image → chosen_by options ≡ chosen
chosen_is options chosen at opened json html image = λ i. record { at = at i; has_open = opened i; has_json = json i; has_html = html i; has_image = image i }

-- ---- tasks
-- what asks for a verb's task, and the other way round where neither help nor the man page is asked for
pub asks_verb : (rows : List Row) (verb : Text) (task : Task) → is_on (codes "help") rows ≡ false → is_on (codes "man") rows ≡ false → first_of (codes "VERB") rows ≡ Some verb →
    IsVerbTask verb (files_in rows) (chosen_in rows) task → IsTaskOf rows task
asks_verb rows verb (Goal project name at) help man v h = record { no_help = help; no_man = man; verb = verb; verb_is = v; meant = h }
asks_verb rows verb (ListTask project is_open_only as_json) help man v h = record { no_help = help; no_man = man; verb = verb; verb_is = v; meant = h }
asks_verb rows verb (Explain file calls is_image) help man v h = record { no_help = help; no_man = man; verb = verb; verb_is = v; meant = h }
asks_verb rows verb (Prune project file) help man v h = record { no_help = help; no_man = man; verb = verb; verb_is = v; meant = h }
asks_verb rows verb (Report project form) help man v h = record { no_help = help; no_man = man; verb = verb; verb_is = v; meant = h }
asks_verb rows verb Help help man v h = absurd h
asks_verb rows verb ManPage help man v h = absurd h

on_both : (rows : List Row) (id : Text) → is_on id rows ≡ false → is_on id rows ≡ true → ⊥
on_both rows id off on = true≢false (sym on ∙ off)

pub verb_asked : (rows : List Row) (task : Task) → is_on (codes "help") rows ≡ false → is_on (codes "man") rows ≡ false → IsTaskOf rows task → AsksVerb rows task
verb_asked rows (Goal project name at) help man h = h
verb_asked rows (ListTask project is_open_only as_json) help man h = h
verb_asked rows (Explain file calls is_image) help man h = h
verb_asked rows (Prune project file) help man h = h
verb_asked rows (Report project form) help man h = h
verb_asked rows Help help man h = absurd (on_both rows (codes "help") help h)
verb_asked rows ManPage help man h = absurd (on_both rows (codes "man") man h.1)

-- a verb is one text
value_in : List ℕ → Option (List ℕ) → List ℕ
value_in d None = d
value_in d (Some x) = x

some_once : {a b : List ℕ} → Some a ≡ Some b → a ≡ b
unfolding value_in
some_once {a} {b} e = ap (value_in a) e

-- what the rows ask for is what their verb, their files and their options do
pub found_task : (rows : List Row) (verb : Text) (files : List Text) (chosen : Chosen) (found : Option Task) → is_on (codes "help") rows ≡ false → is_on (codes "man") rows ≡ false →
    Some verb ≡ first_of (codes "VERB") rows → files ≡ files_in rows → chosen ≡ chosen_in rows →
    MatchOption found ((task : Task) → IsVerbTask verb files chosen task → ⊥) (IsVerbTask verb files chosen) → MatchOption found ((task : Task) → IsTaskOf rows task → ⊥) (IsTaskOf rows)
found_task rows verb files chosen None help man v f o h = λ task a.
    let asked = verb_asked rows task help man a in
    h task (subst (λ x. IsVerbTask verb files x task) (sym o) (subst (λ x. IsVerbTask verb x (chosen_in rows) task) (sym f)
    (subst (λ x. IsVerbTask x (files_in rows) (chosen_in rows) task) (sym (some_once (v ∙ asked.verb_is))) asked.meant)))
found_task rows verb files chosen (Some task) help man v f o h =
    asks_verb rows verb task help man (sym v) (subst (λ x. IsVerbTask verb x (chosen_in rows) task) f (subst (λ x. IsVerbTask verb files x task) o h))

-- without a verb nothing is asked for
pub no_verb : (rows : List Row) → is_on (codes "help") rows ≡ false → is_on (codes "man") rows ≡ false → None ≡ first_of (codes "VERB") rows → (task : Task) → IsTaskOf rows task → ⊥
no_verb rows help man v task a =
    let asked = verb_asked rows task help man a in
    none-some asked.verb (v ∙ asked.verb_is)
