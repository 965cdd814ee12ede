use Rattle.std.proofs.Common.{map, subst}
use Rattle.std.specs.Prelude.{IfOk}
use Rattle.bk_seq.specs.Sequents.{sequent_of}
use Rattle.bk_replay.specs.Standing.{IsFurthest}
use Rattle.bk_replay.proofs.Reached.{front_after, front_most}
use Rattle.bk_replay.proofs.standing.open_after.Goals as goal

pub returns : goal.returns
returns c =
    let s = sequent_of c.args.sequent in
    let far = subst (λ rs. IfOk c.furthest.result (λ st. IsFurthest c.args.types.now rs s st.done (map sequent_of st.left.items))) c.front_of.ensures.front c.furthest.ensures in
    record {
      after = front_after c.args.types.now c.args.rules.now s c.args.count c.furthest.result far;
      most = front_most c.args.types.now c.args.rules.now s c.args.count c.furthest.result far;
      furthest = far;
    }
