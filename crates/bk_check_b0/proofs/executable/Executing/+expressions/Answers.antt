use Rattle.std.proofs.Common.{◌≡◌, ◌∙◌, ◌++◌, ap, sym, cond, Bool, true, false, List, ℕ}
use Rattle.bk_raw.specs.Trees.RawTree.{raw, raw_name, trees_of}
use Rattle.bk_raw.specs.Codes.RawView.{tree_of}
use Rattle.bk_raw.specs.declared.term.RawNode.{RawNode}
use Rattle.bk_raw.specs.Errors.Blame.{blame}
use Rattle.bk_raw.specs.Errors.Faults.{Fault}
use Rattle.bk_elab_terms.specs.Shown.{told}
use Rattle.bk_statics.specs.Executable.{not_executable, or_whole, gives_scalar, is_array, expression_faults, all_expression_faults}
use Rattle.bk_check_b0.specs.Executed.{meant_by, names_of}
use Rattle.bk_check_b0.proofs.Executing.{told-two, apply-named, apply-other, whole-told, expressions-more}
use Rattle.bk_check_b0.proofs.executable.Executing.+expressions.Goals as goal

pub all_expressions-loop-term-preserved : goal.all_expressions-loop-term-preserved
all_expressions-loop-term-preserved t c =
    let x = c.args.self.now in
    expressions-more (meant_by x) (names_of x) c.args.terms.now c.loop-term.term-index c.term-item.result (told c.loop-term.fault) (told c.earlier-fault.result) (told c.in_ok-one.one)
    (blame (all_expression_faults (meant_by x) (names_of x) (trees_of c.args.terms.now))) c.loop-term-test.true c.term-item.is c.in_ok-one.ensures c.earlier-fault.ensures c.loop-term.invariant

pub application-returns-in_default : goal.application-returns-in_default
application-returns-in_default t c =
    let x = meant_by c.args.self.now in
    let names = names_of c.args.self.now in
    let f = c.args.function.now in
    let b = c.args.index.now in
    whole-told c.args.at (told c.in_ok-expressions.field-0) (told c.or_whole.result) (expression_faults x names f ++ expression_faults x names b) c.in_ok-expressions.ensures c.or_whole.ensures
    ∙ sym (ap blame (apply-other x names c.args.at c.function.inside.at c.function.inside.node f b c.function.view_is c.in_default.not-Name))

pub application-returns-then-is_array : goal.application-returns-then-is_array
application-returns-then-is_array t c =
    let x = meant_by c.args.self.now in
    let names = names_of c.args.self.now in
    let f = c.args.function.now in
    let b = c.args.index.now in
    let n = c.in-Name.name in
    let there = c.function.inside.at in
    let named : raw there (raw_name n) ≡ f = sym (ap (λ (m : RawNode). tree_of there m) c.in-Name.is) ∙ c.function.view_is in
    let own : List Fault = or_whole c.args.at (not_executable (gives_scalar x names f) there ++ expression_faults x names b) in
    let array : is_array x names n ≡ true = sym (c.is_array.ensures ∙ ap (λ (y : List ℕ). is_array x names y) c.as_bytes.ensures.value) ∙ c.if-is_array.true in
    c.in_ok-within.ensures
    ∙ sym (ap blame (apply-named x names c.args.at there n f b named ∙ ap (λ (d : Bool). cond d (expression_faults x names b) own) array))

pub application-returns : goal.application-returns
application-returns t c =
    let x = meant_by c.args.self.now in
    let names = names_of c.args.self.now in
    let f = c.args.function.now in
    let b = c.args.index.now in
    let n = c.in-Name.name in
    let there = c.function.inside.at in
    let named : raw there (raw_name n) ≡ f = sym (ap (λ (m : RawNode). tree_of there m) c.in-Name.is) ∙ c.function.view_is in
    let own : List Fault = not_executable (gives_scalar x names f) there ++ expression_faults x names b in
    let array : is_array x names n ≡ false = sym (c.is_array.ensures ∙ ap (λ (y : List ℕ). is_array x names y) c.as_bytes.ensures.value) ∙ c.if-is_array.false in
    whole-told c.args.at (told c.earlier.result) (told c.or_whole-2.result) own
    (told-two (told c.not_executable-own.result) (told c.in_ok-within.within) (told c.earlier.result) (not_executable (gives_scalar x names f) there) (expression_faults x names b)
    (c.not_executable-own.ensures ∙ ap (λ (d : Bool). blame (not_executable d there)) c.in_ok-gives_scalar.ensures) c.in_ok-within.ensures c.earlier.ensures)
    c.or_whole-2.ensures
    ∙ sym (ap blame (apply-named x names c.args.at there n f b named ∙ ap (λ (d : Bool). cond d (expression_faults x names b) (or_whole c.args.at own)) array))
