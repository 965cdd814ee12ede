use Rattle.bk_evidence.proofs.item.Proof.copy.Goals as goal

pub returns : goal.returns
returns c = λ i. record { script = c.in_ok-script.ensures i; shown = c.in_ok-shown.ensures i }
