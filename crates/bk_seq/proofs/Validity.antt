-- What every valid sequent allows.
use Rattle.std.proofs.Common.{◌≡◌, refl, ap, Bool, true, false, not}
use Rattle.bk_form.specs.Meaning.{truth}
use Rattle.bk_form.specs.Environment.{at_state}
use Rattle.bk_seq.specs.Laws.{IsAssumed, Weakens, Contradicts}

pub assumed : IsAssumed
assumed table p hyps find law e typed hold = hold.0

pub weakens : Weakens
weakens table p goal hyps valid find law e typed hold = valid find law e typed hold.1

pub contradicts : Contradicts
contradicts table goal hyps valid find law e typed hold = by_truth (truth find (at_state table e) goal) refl
  where
    by_truth : (b : Bool) → truth find (at_state table e) goal ≡ b → truth find (at_state table e) goal ≡ true
    by_truth true h = h
    by_truth false h = let never : false ≡ true = valid find law e typed (ap not h, hold) in absurd (cc)
