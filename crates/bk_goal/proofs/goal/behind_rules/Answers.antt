use Rattle.std.proofs.Common.{◌<◌, ◌^◌, length, subst, sym}
use Rattle.bk_dev.specs.Flattened.{flattened}
use Rattle.bk_seq.specs.Sequents.{Types, sequent_of}
use Rattle.bk_scripts.specs.Grounding.{IsGrounded}
use Rattle.bk_status.proofs.Outcomes.{types_there, countable}
use Rattle.bk_goal.proofs.goal.behind_rules.Goals as goal

pub behind_grounded-requires : goal.behind_grounded-requires
behind_grounded-requires c =
    let dev = c.args.asked.dev.now in
    let s = sequent_of c.args.sequent in
    let script = c.args.found.script.now in
    let rules = c.in_ok-rules.rules.items in
    let table = c.in_ok-rules.table in
    let narrow = subst (λ t. Types t s) c.requires.table c.requires.replayable.types in
    record {
      grounded = subst (λ rs. IsGrounded (flattened dev) script rs table) (sym c.deref.ensures.value) c.in_ok-rules.ensures;
      types = types_there dev c.facts.ensures script rules table c.in_ok-rules.ensures s narrow;
      within = c.requires.replayable.within;
      countable = subst (λ rs. length rs < 2 ^ 32) (sym c.deref.ensures.value) (countable dev c.facts.ensures script rules table c.in_ok-rules.ensures c.requires.short);
    }
