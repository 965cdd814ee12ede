use Rattle.bk_evidence.proofs.item.Script.copy.Goals as goal

pub returns : goal.returns
returns c = λ i. record { rules = c.args.self.now.rules; place = c.in_ok-place.ensures i }
