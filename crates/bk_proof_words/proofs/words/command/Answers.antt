use Rattle.std.proofs.Common.{◌≡◌, true, ap, ap₂, codes, Option, Some, None, IsSomeAnd, ◌∙◌}
use Rattle.std.proofs.lemmas.Result.{IfOk-weaker}
use Rattle.clap.specs.Simple.{App, app_of, app_of_fields, on_top}
use Rattle.clap.specs.Lexer.{usize_max}
use Rattle.clap.specs.Walk.{Rule}
use Rattle.clap.specs.Words.{new_app, new_rule, rule_of, with_rule}
use Rattle.clap.specs.declared.builder.arg.Arg.{Arg}
use Rattle.clap.specs.declared.builder.range.ValueRange.{ValueRange}
use Rattle.clap.specs.declared.builder.action.ArgAction.TheVariants.{Append}
use Rattle.bk_proof_words.specs.Words.{program_command, bare_command, command_of_words, verb_rule, file_rule, place_rule, flag_rule}
use Rattle.bk_proof_words.proofs.words.command.Goals as goal

-- the settings, one by one
abbrev unnamed : App → App
unnamed = on_top (λ s. record s { no_binary_name = true })

abbrev without_help : App → App
without_help = on_top (λ s. record s { disable_help_flag = true })

abbrev without_version : App → App
without_version = on_top (λ s. record s { disable_version_flag = true })

-- any number of values
abbrev any_number : ValueRange
any_number = record { start_inclusive = 0; end_inclusive = usize_max }

some_only : (o : Option ValueRange) (r : ValueRange) → IsSomeAnd o (λ q. q ≡ r) → o ≡ Some r
some_only None r h = absurd h
some_only (Some q) r h = ap (λ x. Some x) h

-- the command with the first flags
abbrev with_flags_2 : App
with_flags_2 = with_rule (with_rule command_of_words (flag_rule (codes "open"))) (flag_rule (codes "json"))

abbrev with_flags_4 : App
with_flags_4 = with_rule (with_rule with_flags_2 (flag_rule (codes "html"))) (flag_rule (codes "image"))

pub returns : goal.returns
unfolding program_command
returns c =
    let verb_is : rule_of c.new-verb.result ≡ verb_rule = c.new-verb.ensures.rule in
    let named : rule_of c.new.result ≡ new_rule (codes "FILE") = c.new.ensures.rule in
    let file_is : rule_of c.num_args-files.result ≡ file_rule =
    ap rule_of c.num_args-files.ensures.0 ∙
    (ap (λ n. rule_of (record c.action.result { num_vals = n })) (some_only c.num_args-files.result.num_vals _ c.num_args-files.ensures.1) ∙
    (ap (λ (a : Arg). rule_of (record a { num_vals = Some any_number })) c.action.ensures ∙
    ap (λ (r : Rule). record r { action = Some Append; range = Some any_number }) named)) in
    let place_is : rule_of c.long-at.result ≡ place_rule =
    ap rule_of c.long-at.ensures ∙ ap (λ (r : Rule). record r { long = Some (codes "at") }) c.new-2.ensures.rule in
    let unnamed_is : app_of c.no_binary_name.result ≡ unnamed (new_app (codes "bkproof")) = ap app_of_fields c.no_binary_name.ensures ∙ ap unnamed c.new-3.ensures.app in
    let helpless_is : app_of c.disable_help_flag.result ≡ without_help (unnamed (new_app (codes "bkproof"))) = ap app_of_fields c.disable_help_flag.ensures ∙ ap without_help unnamed_is in
    let bare_is : app_of c.disable_version_flag.result ≡ bare_command = ap app_of_fields c.disable_version_flag.ensures ∙ ap without_version helpless_is in
    let first_is : app_of c.in_ok-arg.field-0 ≡ with_rule bare_command verb_rule = c.in_ok-arg.ensures.shape c.new-verb.ensures.optional.1 ∙ ap₂ with_rule bare_is verb_is in
    let second_is : app_of c.in_ok-arg-2.field-0 ≡ with_rule (with_rule bare_command verb_rule) file_rule = c.in_ok-arg-2.ensures.shape (ap (λ (a : Arg). a.global) c.num_args-files.ensures.0 ∙ (ap (λ (a : Arg). a.global) c.action.ensures ∙ c.new.ensures.optional.1)) ∙ ap₂ with_rule first_is file_is in
    let third_is : app_of c.in_ok-arg-3.field-0 ≡ command_of_words = c.in_ok-arg-3.ensures.shape (ap (λ (a : Arg). a.global) c.long-at.ensures ∙ c.new-2.ensures.optional.1) ∙ ap₂ with_rule second_is place_is in
    let open_is : app_of c.in_ok-arg-4.field-0 ≡ with_rule command_of_words (flag_rule (codes "open")) = c.in_ok-arg-4.ensures.shape c.flag.ensures.local ∙ ap₂ with_rule third_is c.flag.ensures.rule in
    let json_is : app_of c.in_ok-arg-5.field-0 ≡ with_flags_2 = c.in_ok-arg-5.ensures.shape c.flag-2.ensures.local ∙ ap₂ with_rule open_is c.flag-2.ensures.rule in
    let html_is : app_of c.in_ok-arg-6.field-0 ≡ with_rule with_flags_2 (flag_rule (codes "html")) = c.in_ok-arg-6.ensures.shape c.flag-3.ensures.local ∙ ap₂ with_rule json_is c.flag-3.ensures.rule in
    let image_is : app_of c.in_ok-arg-7.field-0 ≡ with_flags_4 = c.in_ok-arg-7.ensures.shape c.flag-4.ensures.local ∙ ap₂ with_rule html_is c.flag-4.ensures.rule in
    let help_is : app_of c.in_ok-arg-8.field-0 ≡ with_rule with_flags_4 (flag_rule (codes "help")) = c.in_ok-arg-8.ensures.shape c.flag-5.ensures.local ∙ ap₂ with_rule image_is c.flag-5.ensures.rule in
    IfOk-weaker c.arg-9.result _ _ (λ command h. h.shape c.flag-6.ensures.local ∙ ap₂ with_rule help_is c.flag-6.ensures.rule) c.arg-9.ensures
