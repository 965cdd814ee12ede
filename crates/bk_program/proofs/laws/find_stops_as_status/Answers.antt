use Rattle.bk_program.proofs.laws.find_stops_as_status.Goals as goal

-- both ask for the project with its proof files, and then the limits of its obligations
pub returns : goal.returns
returns c = λ files project stop. ((λ h. h), (λ h. h))
