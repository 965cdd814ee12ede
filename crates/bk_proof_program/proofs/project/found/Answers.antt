use Rattle.std.proofs.Common.{◌∙◌, ℕ, All, Bor, Option, option_map, sym, ap, subst}
use Rattle.std.specs.Prelude.{IfSome}
use Rattle.bk_p_proof.specs.Files.{IsShort}
use Rattle.bk_raw.specs.Trees.ScriptTree.{RawScript}
use Rattle.bk_status.specs.States.{script_named}
use Rattle.bk_proof_program.proofs.project.found.Goals as goal

pub script_with-requires : goal.script_with-requires
script_with-requires c = subst (All IsShort) (sym c.all-list.ensures) c.facts.ensures.short

pub returns-in_default-clause-named : goal.returns-in_default-clause-named
returns-in_default-clause-named c =
    sym (ap (option_map (λ (p : ℕ × Bor RawScript). p.1.now)) c.in_default.is) ∙ (c.in_ok-number.ensures.named ∙ ap (λ scripts. script_named scripts c.args.name.now) c.all-list.ensures)

pub returns-clause-named : goal.returns-clause-named
returns-clause-named c =
    sym (ap (option_map (λ (p : ℕ × Bor RawScript). p.1.now)) c.in-Some.is) ∙ (c.in_ok-number.ensures.named ∙ ap (λ scripts. script_named scripts c.args.name.now) c.all-list.ensures)

pub returns-clause-short : goal.returns-clause-short
returns-clause-short c = subst (λ (o : Option (ℕ × Bor RawScript)). IfSome o (λ p. IsShort p.1.now)) c.in-Some.is c.in_ok-number.ensures.short
