use Rattle.std.proofs.Common.{sym, ap, subst, IfOk, MatchOption}
use Rattle.bk_raw.specs.Trees.ScriptTree.{RulePart as WrittenPart, PartKind}
use Rattle.bk_raw.specs.Grammar.ScriptSpelling.{Spelled}
use Rattle.bk_raw.specs.Codes.ScriptView.{part_of}
use Rattle.bk_p_expr.specs.Fronts.{Longest, Nothing}
use Rattle.bk_p_proof.specs.Kept.{IsPart}
use Rattle.bk_p_proof.specs.Kinds.{kind_of}
use Rattle.bk_p_proof.proofs.part.part.Goals as goal

pub returns-in-Number-clause-found : goal.returns-in-Number-clause-found
returns-in-Number-clause-found c = subst (λ (k : PartKind). MatchOption c.one_number.result (Nothing (Spelled k) c.args.tokens.now) (λ p. (x : WrittenPart) × Longest (Spelled k) c.args.tokens.now x p.2.now × IsPart x (part_of p.0) p.1)) (sym (ap kind_of c.in-Number.is)) c.one_number.ensures.found

pub returns-in-Term-clause-found : goal.returns-in-Term-clause-found
returns-in-Term-clause-found c = subst (λ (k : PartKind). IfOk c.one_term.result (λ r. MatchOption r (Nothing (Spelled k) c.args.tokens.now) (λ p. (x : WrittenPart) × Longest (Spelled k) c.args.tokens.now x p.2.now × IsPart x (part_of p.0) p.1))) (sym (ap kind_of c.in-Term.is)) c.one_term.ensures.found

pub returns-in-Terms-clause-found : goal.returns-in-Terms-clause-found
returns-in-Terms-clause-found c = subst (λ (k : PartKind). IfOk c.some_terms.result (λ r. MatchOption r (Nothing (Spelled k) c.args.tokens.now) (λ p. (x : WrittenPart) × Longest (Spelled k) c.args.tokens.now x p.2.now × IsPart x (part_of p.0) p.1))) (sym (ap kind_of c.in-Terms.is)) c.some_terms.ensures.found

pub returns-in-Place-clause-found : goal.returns-in-Place-clause-found
returns-in-Place-clause-found c = subst (λ (k : PartKind). IfOk c.one_place.result (λ r. MatchOption r (Nothing (Spelled k) c.args.tokens.now) (λ p. (x : WrittenPart) × Longest (Spelled k) c.args.tokens.now x p.2.now × IsPart x (part_of p.0) p.1))) (sym (ap kind_of c.in-Place.is)) c.one_place.ensures.found

pub returns-in-PerhapsPlace-clause-found : goal.returns-in-PerhapsPlace-clause-found
returns-in-PerhapsPlace-clause-found c = subst (λ (k : PartKind). IfOk c.perhaps_place.result (λ r. MatchOption r (Nothing (Spelled k) c.args.tokens.now) (λ p. (x : WrittenPart) × Longest (Spelled k) c.args.tokens.now x p.2.now × IsPart x (part_of p.0) p.1))) (sym (ap kind_of c.in-PerhapsPlace.is)) c.perhaps_place.ensures.found

pub returns-in-Typed-clause-found : goal.returns-in-Typed-clause-found
returns-in-Typed-clause-found c = subst (λ (k : PartKind). IfOk c.names.result (λ r. MatchOption r (Nothing (Spelled k) c.args.tokens.now) (λ p. (x : WrittenPart) × Longest (Spelled k) c.args.tokens.now x p.2.now × IsPart x (part_of p.0) p.1))) (sym (ap kind_of c.in-Typed.is)) c.names.ensures.found

pub returns-in-Law-clause-found : goal.returns-in-Law-clause-found
returns-in-Law-clause-found c = subst (λ (k : PartKind). IfOk c.one_law.result (λ r. MatchOption r (Nothing (Spelled k) c.args.tokens.now) (λ p. (x : WrittenPart) × Longest (Spelled k) c.args.tokens.now x p.2.now × IsPart x (part_of p.0) p.1))) (sym (ap kind_of c.in-Law.is)) c.one_law.ensures.found

pub returns-in-Certificate-clause-found : goal.returns-in-Certificate-clause-found
returns-in-Certificate-clause-found c = subst (λ (k : PartKind). IfOk c.one_certificate.result (λ r. MatchOption r (Nothing (Spelled k) c.args.tokens.now) (λ p. (x : WrittenPart) × Longest (Spelled k) c.args.tokens.now x p.2.now × IsPart x (part_of p.0) p.1))) (sym (ap kind_of c.in-Certificate.is)) c.one_certificate.ensures.found
