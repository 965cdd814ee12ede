use Rattle.std.proofs.Common.{◌≡◌, true, false}
use Rattle.bk_b0.specs.Translation.{translation}
use Rattle.bk_tests_sessions.proofs.random.played.Given as goal

abbrev pub invariant-loop-turn : goal.invariant-loop-turn
invariant-loop-turn l = record { image : l.session.image ≡ translation l.dev; started : l.session.started ≡ true; stopped : l.session.stopped ≡ false }
