use Rattle.std.proofs.Common.{inr, sym, subst}
use Rattle.std.specs.Prelude.{All}
use Rattle.bk_p_proof.specs.Files.{IsShort}
use Rattle.bk_prune.specs.Pruned.{HasStatesOf}
use Rattle.bk_prune.proofs.Ready.{kept_as_it_is}
use Rattle.bk_prune.proofs.file.prune_scripts.Goals as goal

pub shorter_text-requires : goal.shorter_text-requires
shorter_text-requires c = record { ready = c.requires.ready; short = subst (λ scripts. All IsShort scripts) (sym c.all.ensures) c.facts.ensures.short }

pub returns-then-is_kept : goal.returns-then-is_kept
returns-then-is_kept c =
    let dev = c.args.proved.dev.now in
    let read = c.args.read.now in
    inr (read, c.requires.reads, subst (HasStatesOf dev read) c.deref.ensures.value (c.in_ok-is_kept.ensures c.if-is_kept.true))

pub returns : goal.returns
returns c = kept_as_it_is c.args.proved.dev.now c.args.text.now c.same_text.result c.same_text.ensures
