use Rattle.bk_p_expr.proofs.Choices.{if_none, if_some}
use Rattle.bk_p_proof.proofs.TypesRead.{typed_name_found, typed_name_no_name, typed_name_no_sign, typed_name_no_type}
use Rattle.bk_p_proof.proofs.typed.typed_name.Goals as goal

pub returns-in_default-clause-found : goal.returns-in_default-clause-found
returns-in_default-clause-found c = typed_name_no_name c.args.tokens.now (if_none _ _ _ c.in_ok-name.ensures.found c.in_default.is)

pub returns-in_default-after_sign-clause-found : goal.returns-in_default-after_sign-clause-found
returns-in_default-after_sign-clause-found c = typed_name_no_sign c.args.tokens.now c.in-Some.behind.now c.in-Some.name (if_some _ _ _ _ c.in_ok-name.ensures.found c.in-Some.is) c.in_default-after_sign.ensures.found

pub returns-in_default-2-clause-found : goal.returns-in_default-2-clause-found
returns-in_default-2-clause-found c = typed_name_no_type c.args.tokens.now c.in-Some.behind.now c.in-Some-after_sign.behind.now c.in-Some.name (if_some _ _ _ _ c.in_ok-name.ensures.found c.in-Some.is) c.in-Some-after_sign.ensures.found (if_none _ _ _ c.in_ok-ty.ensures.found c.in_default-2.is)

pub returns-clause-found : goal.returns-clause-found
returns-clause-found c = typed_name_found c.args.tokens.now c.in-Some.behind.now c.in-Some-after_sign.behind.now c.in-Some-2.rest.now c.in-Some.name c.in-Some-2.ty (if_some _ _ _ _ c.in_ok-name.ensures.found c.in-Some.is) c.in-Some-after_sign.ensures.found (if_some _ _ _ _ c.in_ok-ty.ensures.found c.in-Some-2.is)
