use Rattle.std.proofs.Common.{◌≡◌, ℕ, IfOk, sym, subst}
use Rattle.std.specs.Prelude.{◌↔◌, All}
use Rattle.bk_p_proof.specs.Files.{IsShort}
use Rattle.bk_prune.specs.Pruned.{IsFinished}
use Rattle.bk_prune.proofs.needs.left_among.Goals as goal

pub unfinished_count-requires : goal.unfinished_count-requires
unfinished_count-requires c = record { ready = c.requires; short = subst (λ scripts. All IsShort scripts) (sym c.all-scripts.ensures) c.facts.ensures.short }

pub returns : goal.returns
returns c = subst (λ scripts. IfOk c.unfinished_count.result (λ (left : ℕ). (left ≡ 0) ↔ All (IsFinished c.args.proved.dev.now c.args.proved.list.now) scripts)) c.all-scripts.ensures c.unfinished_count.ensures
