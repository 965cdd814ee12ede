use Rattle.std.proofs.Common.{◌≡◌, true, rules, ap, ap₂, codes, Option, Some, None, IsSomeAnd, ◌∙◌}
use Rattle.std.proofs.lemmas.Result.{IfOk-weaker}
use Rattle.clap.specs.Simple.{App, app_of, app_of_fields, on_top}
use Rattle.clap.specs.Lexer.{usize_max}
use Rattle.clap.specs.Walk.{Rule}
use Rattle.clap.specs.Words.{new_app, new_rule, rule_of, with_rule}
use Rattle.clap.specs.declared.builder.arg.Arg.{Arg}
use Rattle.clap.specs.declared.builder.range.ValueRange.{ValueRange}
use Rattle.clap.specs.declared.builder.action.ArgAction.TheVariants.{Append}
use Rattle.bk_cli.specs.Words.{program_command, verb_rule, file_rule, fuel_rule}
use Rattle.bk_cli.proofs.words.command.Goals as goal

-- the settings, one by one
abbrev unnamed : App → App
unnamed = on_top (λ s. record s { no_binary_name = true })

abbrev without_help : App → App
without_help = on_top (λ s. record s { disable_help_flag = true })

abbrev without_version : App → App
without_version = on_top (λ s. record s { disable_version_flag = true })

-- any number of values
abbrev any_number : ValueRange
any_number = record { start_inclusive = 0; end_inclusive = usize_max }

some_only : (o : Option ValueRange) (r : ValueRange) → IsSomeAnd o (λ q. q ≡ r) → o ≡ Some r
some_only None r h = absurd h
some_only (Some q) r h = ap (λ x. Some x) h

pub returns : goal.returns
unfolding program_command
returns c =
    let verb_is : rule_of c.required-verb.result ≡ verb_rule = search rules in
    let named : rule_of c.new-2.result ≡ new_rule (codes "FILE") = search rules in
    let file_is : rule_of c.num_args-files.result ≡ file_rule =
    ap rule_of c.num_args-files.ensures.0 ∙
    (ap (λ n. rule_of (record c.action.result { num_vals = n })) (some_only c.num_args-files.result.num_vals _ c.num_args-files.ensures.1) ∙
    (ap (λ (a : Arg). rule_of (record a { num_vals = Some any_number })) c.action.ensures ∙
    ap (λ (r : Rule). record r { action = Some Append; range = Some any_number }) named)) in
    let fuel_is : rule_of c.default_value-fuel.result ≡ fuel_rule = search rules in
    let unnamed_is : app_of c.no_binary_name.result ≡ unnamed (new_app (codes "bkit")) = ap app_of_fields c.no_binary_name.ensures ∙ ap unnamed c.new-4.ensures.app in
    let helpless_is : app_of c.disable_help_flag.result ≡ without_help (unnamed (new_app (codes "bkit"))) = ap app_of_fields c.disable_help_flag.ensures ∙ ap without_help unnamed_is in
    let bare_is : app_of c.disable_version_flag.result ≡ without_version (without_help (unnamed (new_app (codes "bkit")))) = ap app_of_fields c.disable_version_flag.ensures ∙ ap without_version helpless_is in
    let first_is : app_of c.in_ok-arg.field-0 ≡ with_rule (without_version (without_help (unnamed (new_app (codes "bkit"))))) verb_rule = c.in_ok-arg.ensures.shape (search rules) ∙ ap₂ with_rule bare_is verb_is in
    let second_is : app_of c.in_ok-arg-2.field-0 ≡ with_rule (with_rule (without_version (without_help (unnamed (new_app (codes "bkit"))))) verb_rule) file_rule = c.in_ok-arg-2.ensures.shape (search rules) ∙ ap₂ with_rule first_is file_is in
    IfOk-weaker c.arg-3.result _ _ (λ command h. h.shape (search rules) ∙ ap₂ with_rule second_is fuel_is) c.arg-3.ensures
