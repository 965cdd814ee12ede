use Rattle.bk_p_proof.proofs.Places.{place_goal, place_hypothesis, place_no_number}
use Rattle.bk_p_proof.proofs.place.place.Goals as goal

pub returns-in-Some-clause-found : goal.returns-in-Some-clause-found
returns-in-Some-clause-found c = place_goal c.args.tokens.now c.in-Some.behind.now c.in_ok-children.rest.now c.in_ok-children.children.items c.in-Some.ensures.found c.in_ok-children.ensures.found

pub returns-in_default-digits-clause-found : goal.returns-in_default-digits-clause-found
returns-in_default-digits-clause-found c = place_no_number c.args.tokens.now c.in-Some-after_name.behind.now c.in-Some-after_name.ensures.found c.in_default-digits.ensures.found

pub returns-clause-found : goal.returns-clause-found
returns-clause-found c = place_hypothesis c.args.tokens.now c.in-Some-after_name.behind.now c.in-Some-digits.behind.now c.in_ok-children-2.rest.now c.in-Some-digits.number c.in_ok-children-2.children.items c.in-Some-after_name.ensures.found c.in-Some-digits.ensures.found c.in_ok-children-2.ensures.found
