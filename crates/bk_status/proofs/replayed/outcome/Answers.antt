use Rattle.std.proofs.Common.{◌<◌, ◌^◌, length, subst, sym}
use Rattle.bk_seq.specs.Sequents.{Types, sequent_of}
use Rattle.bk_kernel.specs.Derivations.{IsVerdict}
use Rattle.bk_status.proofs.Outcomes.{types_there, countable}
use Rattle.bk_status.proofs.replayed.outcome.Goals as goal

pub replay-requires : goal.replay-requires
replay-requires c =
    let dev = c.args.dev.now in
    let s = sequent_of c.args.sequent in
    let script = c.args.script.now in
    let rules = c.in_ok-rules.rules.items in
    let table = c.in_ok-rules.table in
    let grounded = c.in_ok-rules.ensures in
    let narrow = subst (λ t. Types t s) c.requires.types c.requires.replayable.types in
    record {
      types = types_there dev c.facts.ensures script rules table grounded s narrow;
      within = c.requires.replayable.within;
      countable = subst (λ rs. length rs < 2 ^ 32) (sym c.deref.ensures.value) (countable dev c.facts.ensures script rules table grounded c.requires.short);
    }

pub returns : goal.returns
returns c = record {
  rules = c.in_ok-rules.rules.items;
  table = c.in_ok-rules.table;
  grounded = c.in_ok-rules.ensures;
  verdict = c.in_ok-verdict.verdict;
  verdict_is = subst (λ rs. IsVerdict c.in_ok-rules.table rs (sequent_of c.args.sequent) c.in_ok-verdict.verdict) c.deref.ensures.value c.in_ok-verdict.ensures.verdict;
  state_is = c.state_of.ensures;
}
