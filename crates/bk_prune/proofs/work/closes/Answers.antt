use Rattle.std.proofs.Common.{sym, subst}
use Rattle.bk_seq.specs.Sequents.{Types, IsWithin, sequent_of}
use Rattle.bk_prune.proofs.Ready.{closed_is, is_closed_so}
use Rattle.bk_prune.proofs.work.closes.Goals as goal

pub replay-requires : goal.replay-requires
replay-requires c =
    let same = sym c.in_ok-own.ensures in
    record {
      types = subst (Types c.args.table.now) same c.requires.replayable.types;
      within = subst IsWithin same c.requires.replayable.within;
      countable = c.requires.countable;
    }

pub returns : goal.returns
returns c =
    let s = sequent_of c.args.sequent.now in
    let own = sequent_of c.in_ok-own.own in
    let verdict = c.in_ok-verdict.verdict in
    record {
      right = λ yes. closed_is c.args.table.now c.args.rules.now s own verdict c.in_ok-own.ensures c.in_ok-verdict.ensures.verdict (c.is_closed.ensures.right yes);
      whole = λ derived. c.is_closed.ensures.whole (is_closed_so c.args.table.now c.args.rules.now s own verdict c.in_ok-own.ensures c.in_ok-verdict.ensures.verdict derived);
    }
