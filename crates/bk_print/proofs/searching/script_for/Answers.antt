use Rattle.std.proofs.Common.{◌≡◌, ◌∙◌, inl, inr, List, ℕ, Ok, None, Some, Option, ap, sym, subst, refl}
use Rattle.bk_form.specs.Table.{Table}
use Rattle.bk_dev.specs.Flattened.{flattened}
use Rattle.bk_po.specs.Shown.{named_sequent}
use Rattle.bk_seq.specs.Sequents.{sequent_of, Types}
use Rattle.bk_kernel.specs.declared.rule.Rule.{Rule}
use Rattle.bk_kernel.specs.Derivations.{Derives}
use Rattle.bk_auto.specs.Easy.{IsEasy}
use Rattle.bk_auto.specs.Named.{Brings}
use Rattle.bk_print.specs.declared.trial.Trial.{Trial}
use Rattle.bk_print.specs.declared.trial.Trial.TheVariants.{Proves, TooLong, TooHigh, Fails}
use Rattle.bk_print.specs.Text.{script_text}
use Rattle.bk_print.specs.Found.{IsTextOfProof, IsTrial}
use Rattle.bk_print.proofs.Unproved.{text_of_proof, left_too_high, left_otherwise}
use Rattle.bk_print.proofs.searching.script_for.Goals as goal

pub find-requires : goal.find-requires
find-requires c = record { types = subst (λ (t : Table). Types t (sequent_of c.args.obligation.now.sequent)) (sym c.in_ok-table.ensures) c.requires.replayable.types }

no-some : {A : Type 0} (o : Option A) → ((x : A) → o ≡ Some x → ⊥) → o ≡ None
no-some None n = refl
no-some (Some x) n = absurd (n x refl)

pub returns-in_default : goal.returns-in_default
returns-in_default c =
    inl (λ e. c.in_ok-rules.ensures.none (ap Ok (no-some c.in_ok-rules.field-0 c.in_default.not-Some)) (subst (λ (t : Table). IsEasy t (sequent_of c.args.obligation.now.sequent)) (sym (c.in_ok-table.ensures ∙ c.requires.types)) e))

pub returns-in-Proves : goal.returns-in-Proves
returns-in-Proves c =
    let dev = flattened c.args.dev.now in
    let o = named_sequent c.args.obligation.now in
    let small = c.in_ok-table.table in
    let large = c.find.new.types in
    let rules = c.in-Some.rules.items in
    let text = c.in_ok-text.text.items in
    let brings : Brings small large o.1.1 rules = rw c.in-Some.is at c.in_ok-rules.ensures.brings in
    let derives : Derives large rules o.1 = rw c.in-Some.is at c.in_ok-rules.ensures.derives in
    let written : text ≡ script_text large o.0 rules = c.in_ok-text.ensures ∙ (ap (λ (n : List ℕ). script_text large n c.deref-2.result.now) c.as_bytes.ensures.value ∙ ap (λ (rs : List Rule). script_text large o.0 rs) c.deref-2.ensures.value) in
    let proof : IsTextOfProof dev o text =
    text_of_proof dev o c.args.types.now small large rules c.deref.result.now text c.in_ok-table.ensures c.requires.types c.is_formed.ensures c.is_formed-2.ensures c.find.ensures.new brings
    c.deref.ensures.value c.are_in_range.ensures c.requires.replayable.types derives written in
    let known : IsTrial dev o c.deref-3.result.now Proves = subst (λ (t : Trial). IsTrial dev o c.deref-3.result.now t) c.in-Proves.is c.in_ok-trial.ensures in
    let told : IsTrial dev o text Proves = subst (λ (x : List ℕ). IsTrial dev o x Proves) c.deref-3.ensures.value known in
    record { found = proof; proves = inr told }

pub returns-in-TooLong : goal.returns-in-TooLong
returns-in-TooLong c =
    let dev = flattened c.args.dev.now in
    let o = named_sequent c.args.obligation.now in
    let small = c.in_ok-table.table in
    let large = c.find.new.types in
    let rules = c.in-Some.rules.items in
    let text = c.in_ok-text.text.items in
    let brings : Brings small large o.1.1 rules = rw c.in-Some.is at c.in_ok-rules.ensures.brings in
    let derives : Derives large rules o.1 = rw c.in-Some.is at c.in_ok-rules.ensures.derives in
    let written : text ≡ script_text large o.0 rules = c.in_ok-text.ensures ∙ (ap (λ (n : List ℕ). script_text large n c.deref-2.result.now) c.as_bytes.ensures.value ∙ ap (λ (rs : List Rule). script_text large o.0 rs) c.deref-2.ensures.value) in
    let proof : IsTextOfProof dev o text =
    text_of_proof dev o c.args.types.now small large rules c.deref.result.now text c.in_ok-table.ensures c.requires.types c.is_formed.ensures c.is_formed-2.ensures c.find.ensures.new brings
    c.deref.ensures.value c.are_in_range.ensures c.requires.replayable.types derives written in
    let known : IsTrial dev o c.deref-3.result.now TooLong = subst (λ (t : Trial). IsTrial dev o c.deref-3.result.now t) c.in-TooLong.is c.in_ok-trial.ensures in
    let told : IsTrial dev o text TooLong = subst (λ (x : List ℕ). IsTrial dev o x TooLong) c.deref-3.ensures.value known in
    record { found = proof; proves = inl told }

pub returns-in-TooHigh : goal.returns-in-TooHigh
returns-in-TooHigh c =
    let dev = flattened c.args.dev.now in
    let o = named_sequent c.args.obligation.now in
    let small = c.in_ok-table.table in
    let large = c.find.new.types in
    let rules = c.in-Some.rules.items in
    let text = c.in_ok-text.text.items in
    let brings : Brings small large o.1.1 rules = rw c.in-Some.is at c.in_ok-rules.ensures.brings in
    let derives : Derives large rules o.1 = rw c.in-Some.is at c.in_ok-rules.ensures.derives in
    let written : text ≡ script_text large o.0 rules = c.in_ok-text.ensures ∙ (ap (λ (n : List ℕ). script_text large n c.deref-2.result.now) c.as_bytes.ensures.value ∙ ap (λ (rs : List Rule). script_text large o.0 rs) c.deref-2.ensures.value) in
    let proof : IsTextOfProof dev o text =
    text_of_proof dev o c.args.types.now small large rules c.deref.result.now text c.in_ok-table.ensures c.requires.types c.is_formed.ensures c.is_formed-2.ensures c.find.ensures.new brings
    c.deref.ensures.value c.are_in_range.ensures c.requires.replayable.types derives written in
    let known : IsTrial dev o c.deref-3.result.now TooHigh = subst (λ (t : Trial). IsTrial dev o c.deref-3.result.now t) c.in-TooHigh.is c.in_ok-trial.ensures in
    let told : IsTrial dev o text TooHigh = subst (λ (x : List ℕ). IsTrial dev o x TooHigh) c.deref-3.ensures.value known in
    inr (left_too_high dev o text proof told)

pub returns : goal.returns
returns c =
    let dev = flattened c.args.dev.now in
    let o = named_sequent c.args.obligation.now in
    let small = c.in_ok-table.table in
    let large = c.find.new.types in
    let rules = c.in-Some.rules.items in
    let text = c.in_ok-text.text.items in
    let brings : Brings small large o.1.1 rules = rw c.in-Some.is at c.in_ok-rules.ensures.brings in
    let derives : Derives large rules o.1 = rw c.in-Some.is at c.in_ok-rules.ensures.derives in
    let written : text ≡ script_text large o.0 rules = c.in_ok-text.ensures ∙ (ap (λ (n : List ℕ). script_text large n c.deref-2.result.now) c.as_bytes.ensures.value ∙ ap (λ (rs : List Rule). script_text large o.0 rs) c.deref-2.ensures.value) in
    let proof : IsTextOfProof dev o text =
    text_of_proof dev o c.args.types.now small large rules c.deref.result.now text c.in_ok-table.ensures c.requires.types c.is_formed.ensures c.is_formed-2.ensures c.find.ensures.new brings
    c.deref.ensures.value c.are_in_range.ensures c.requires.replayable.types derives written in
    let known : IsTrial dev o c.deref-3.result.now Fails = subst (λ (t : Trial). IsTrial dev o c.deref-3.result.now t) c.in-Fails.is c.in_ok-trial.ensures in
    let told : IsTrial dev o text Fails = subst (λ (x : List ℕ). IsTrial dev o x Fails) c.deref-3.ensures.value known in
    inr (left_otherwise dev o text proof told.0 told.1 told.2)
