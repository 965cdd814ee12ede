use Rattle.bk_prune.proofs.states.is_same.Goals as goal

pub returns : goal.returns
returns c = λ yes i. record { name = c.equal-has_name.ensures.0 c.if-not-has_name.false i; state = c.is_same_state.ensures yes i }
