use Rattle.std.proofs.Common.{[], ◌∷◌}
use Rattle.bk_p_proof.specs.Files.{AreScriptsOf}
use Rattle.bk_prune.proofs.Ready.{kept_as_it_is, some_so}
use Rattle.bk_prune.proofs.file.pruned_text.Goals as goal

pub prune_scripts-requires : goal.prune_scripts-requires
prune_scripts-requires c = record {
  ready = c.requires;
  reads = some_so (AreScriptsOf (c.args.text.now ∷ [])) c.in_ok-read.field-0 c.in-Some.read c.in-Some.is c.in_ok-read.ensures.read;
}

pub returns-in-None : goal.returns-in-None
returns-in-None c = kept_as_it_is c.args.proved.dev.now c.args.text.now c.same_text.result c.same_text.ensures
