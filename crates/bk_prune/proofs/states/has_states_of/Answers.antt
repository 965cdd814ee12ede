use Rattle.std.proofs.Common.{[], ◌∷◌}
use Rattle.bk_p_proof.specs.Files.{AreScriptsOf}
use Rattle.bk_prune.proofs.Ready.{has_states, some_so}
use Rattle.bk_prune.proofs.states.has_states_of.Goals as goal

pub returns-in-Some : goal.returns-in-Some
returns-in-Some c =
    let text = c.args.text.now in
    let reads = some_so (AreScriptsOf (text ∷ [])) c.in_ok-after.field-0 c.in-Some.after c.in-Some.is c.in_ok-after.ensures.read in
    has_states c.args.dev.now c.args.before.now text c.in-Some.after reads c.have_states_of.result c.have_states_of.ensures.each c.have_states_of.ensures.same
