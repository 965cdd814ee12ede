use Rattle.std.proofs.Common.{sym, subst, map}
use Rattle.bk_raw.specs.Codes.ScriptView.{part_of}
use Rattle.bk_kernel.specs.declared.rule.Rule.TheVariants.{Fix, UseTerms, Inst, OpenSome, Cut, Case, Eq, Qe, Law, Wal, TypeOf, Neg, Mem, Val, Ext, Sub, Ex, Pair, Elems, Lin}
use Rattle.bk_scripts.specs.Finding.{IsMeaning}
use Rattle.bk_scripts.specs.Grounding.{RuleMeans}
use Rattle.bk_scripts.specs.Parts.{NumberPart, TermPart, TermsPart, NamesPart, PlacePart, LawPart, CertificatePart, One, Two}
use Rattle.bk_scripts.specs.Reading.{around_of}
use Rattle.bk_scripts.proofs.Shaped.{made_by, made_of}
use Rattle.bk_scripts.proofs.around.Around.meaning.Goals as goal

pub returns-in_ok-some_names-in-Fix : goal.returns-in_ok-some_names-in-Fix
returns-in_ok-some_names-in-Fix c = subst (λ w. IsMeaning (RuleMeans (around_of c.args.self.now) w (map part_of c.args.parts.now)) c.map-in-Fix.result) (sym c.in-Fix.is) (made_by (One (NamesPart (around_of c.args.self.now)) (map part_of c.args.parts.now)) Fix c.in_ok-some_names-in-Fix.field-0 c.map-in-Fix.result c.in_ok-some_names-in-Fix.ensures c.map-in-Fix.ensures.cases)

pub returns-in_ok-some_terms-in-UseTerms : goal.returns-in_ok-some_terms-in-UseTerms
returns-in_ok-some_terms-in-UseTerms c = subst (λ w. IsMeaning (RuleMeans (around_of c.args.self.now) w (map part_of c.args.parts.now)) c.map-in-UseTerms.result) (sym c.in-UseTerms.is) (made_by (One (TermsPart (around_of c.args.self.now)) (map part_of c.args.parts.now)) UseTerms c.in_ok-some_terms-in-UseTerms.field-0 c.map-in-UseTerms.result c.in_ok-some_terms-in-UseTerms.ensures c.map-in-UseTerms.ensures.cases)

pub returns-in_ok-found-in-Inst : goal.returns-in_ok-found-in-Inst
returns-in_ok-found-in-Inst c = subst (λ w. IsMeaning (RuleMeans (around_of c.args.self.now) w (map part_of c.args.parts.now)) c.inst_rule.result) (sym c.in-Inst.is) (made_of (Two NumberPart (TermsPart (around_of c.args.self.now)) (map part_of c.args.parts.now)) (λ p. Inst p.0 p.1) c.in_ok-found-in-Inst.found c.inst_rule.result c.in_ok-found-in-Inst.ensures c.inst_rule.ensures)

pub returns-in_ok-found-in-OpenSome : goal.returns-in_ok-found-in-OpenSome
returns-in_ok-found-in-OpenSome c = subst (λ w. IsMeaning (RuleMeans (around_of c.args.self.now) w (map part_of c.args.parts.now)) c.open_some_rule.result) (sym c.in-OpenSome.is) (made_of (Two NumberPart (NamesPart (around_of c.args.self.now)) (map part_of c.args.parts.now)) (λ p. OpenSome p.0 p.1) c.in_ok-found-in-OpenSome.found c.open_some_rule.result c.in_ok-found-in-OpenSome.ensures c.open_some_rule.ensures)

pub returns-in_ok-one_term-in-Cut : goal.returns-in_ok-one_term-in-Cut
returns-in_ok-one_term-in-Cut c = subst (λ w. IsMeaning (RuleMeans (around_of c.args.self.now) w (map part_of c.args.parts.now)) c.map-in-Cut.result) (sym c.in-Cut.is) (made_by (One (TermPart (around_of c.args.self.now)) (map part_of c.args.parts.now)) Cut c.in_ok-one_term-in-Cut.field-0 c.map-in-Cut.result c.in_ok-one_term-in-Cut.ensures c.map-in-Cut.ensures.cases)

pub returns-in_ok-one_term-in-Case : goal.returns-in_ok-one_term-in-Case
returns-in_ok-one_term-in-Case c = subst (λ w. IsMeaning (RuleMeans (around_of c.args.self.now) w (map part_of c.args.parts.now)) c.map-in-Case.result) (sym c.in-Case.is) (made_by (One (TermPart (around_of c.args.self.now)) (map part_of c.args.parts.now)) Case c.in_ok-one_term-in-Case.field-0 c.map-in-Case.result c.in_ok-one_term-in-Case.ensures c.map-in-Case.ensures.cases)

pub returns-in_ok-found-in-Eq : goal.returns-in_ok-found-in-Eq
returns-in_ok-found-in-Eq c = subst (λ w. IsMeaning (RuleMeans (around_of c.args.self.now) w (map part_of c.args.parts.now)) c.eq_rule.result) (sym c.in-Eq.is) (made_of (Two NumberPart PlacePart (map part_of c.args.parts.now)) (λ p. Eq p.0 p.1) c.in_ok-found-in-Eq.found c.eq_rule.result c.in_ok-found-in-Eq.ensures c.eq_rule.ensures)

pub returns-in_ok-found-in-Qe : goal.returns-in_ok-found-in-Qe
returns-in_ok-found-in-Qe c = subst (λ w. IsMeaning (RuleMeans (around_of c.args.self.now) w (map part_of c.args.parts.now)) c.qe_rule.result) (sym c.in-Qe.is) (made_of (Two NumberPart PlacePart (map part_of c.args.parts.now)) (λ p. Qe p.0 p.1) c.in_ok-found-in-Qe.found c.qe_rule.result c.in_ok-found-in-Qe.ensures c.qe_rule.ensures)

pub returns-in_ok-found-in-Law : goal.returns-in_ok-found-in-Law
returns-in_ok-found-in-Law c = subst (λ w. IsMeaning (RuleMeans (around_of c.args.self.now) w (map part_of c.args.parts.now)) c.law_rule.result) (sym c.in-Law.is) (made_of (Two (LawPart (around_of c.args.self.now)) PlacePart (map part_of c.args.parts.now)) (λ p. Law p.0.0 p.0.1 p.1) c.in_ok-found-in-Law.found c.law_rule.result c.in_ok-found-in-Law.ensures c.law_rule.ensures)

pub returns-in_ok-found-in-Wal : goal.returns-in_ok-found-in-Wal
returns-in_ok-found-in-Wal c = subst (λ w. IsMeaning (RuleMeans (around_of c.args.self.now) w (map part_of c.args.parts.now)) c.wal_rule.result) (sym c.in-Wal.is) (made_of (Two (LawPart (around_of c.args.self.now)) PlacePart (map part_of c.args.parts.now)) (λ p. Wal p.0.0 p.0.1 p.1) c.in_ok-found-in-Wal.found c.wal_rule.result c.in_ok-found-in-Wal.ensures c.wal_rule.ensures)

pub returns-in_ok-one_place-in-TypeOf : goal.returns-in_ok-one_place-in-TypeOf
returns-in_ok-one_place-in-TypeOf c = subst (λ w. IsMeaning (RuleMeans (around_of c.args.self.now) w (map part_of c.args.parts.now)) c.map-in-TypeOf.result) (sym c.in-TypeOf.is) (made_by (One PlacePart (map part_of c.args.parts.now)) TypeOf c.in_ok-one_place-in-TypeOf.field-0 c.map-in-TypeOf.result c.in_ok-one_place-in-TypeOf.ensures c.map-in-TypeOf.ensures.cases)

pub returns-in_ok-one_place-in-Neg : goal.returns-in_ok-one_place-in-Neg
returns-in_ok-one_place-in-Neg c = subst (λ w. IsMeaning (RuleMeans (around_of c.args.self.now) w (map part_of c.args.parts.now)) c.map-in-Neg.result) (sym c.in-Neg.is) (made_by (One PlacePart (map part_of c.args.parts.now)) Neg c.in_ok-one_place-in-Neg.field-0 c.map-in-Neg.result c.in_ok-one_place-in-Neg.ensures c.map-in-Neg.ensures.cases)

pub returns-in_ok-one_place-in-Mem : goal.returns-in_ok-one_place-in-Mem
returns-in_ok-one_place-in-Mem c = subst (λ w. IsMeaning (RuleMeans (around_of c.args.self.now) w (map part_of c.args.parts.now)) c.map-in-Mem.result) (sym c.in-Mem.is) (made_by (One PlacePart (map part_of c.args.parts.now)) Mem c.in_ok-one_place-in-Mem.field-0 c.map-in-Mem.result c.in_ok-one_place-in-Mem.ensures c.map-in-Mem.ensures.cases)

pub returns-in_ok-one_place-in-Val : goal.returns-in_ok-one_place-in-Val
returns-in_ok-one_place-in-Val c = subst (λ w. IsMeaning (RuleMeans (around_of c.args.self.now) w (map part_of c.args.parts.now)) c.map-in-Val.result) (sym c.in-Val.is) (made_by (One PlacePart (map part_of c.args.parts.now)) Val c.in_ok-one_place-in-Val.field-0 c.map-in-Val.result c.in_ok-one_place-in-Val.ensures c.map-in-Val.ensures.cases)

pub returns-in_ok-one_place-in-Ext : goal.returns-in_ok-one_place-in-Ext
returns-in_ok-one_place-in-Ext c = subst (λ w. IsMeaning (RuleMeans (around_of c.args.self.now) w (map part_of c.args.parts.now)) c.map-in-Ext.result) (sym c.in-Ext.is) (made_by (One PlacePart (map part_of c.args.parts.now)) Ext c.in_ok-one_place-in-Ext.field-0 c.map-in-Ext.result c.in_ok-one_place-in-Ext.ensures c.map-in-Ext.ensures.cases)

pub returns-in_ok-one_place-in-Sub : goal.returns-in_ok-one_place-in-Sub
returns-in_ok-one_place-in-Sub c = subst (λ w. IsMeaning (RuleMeans (around_of c.args.self.now) w (map part_of c.args.parts.now)) c.map-in-Sub.result) (sym c.in-Sub.is) (made_by (One PlacePart (map part_of c.args.parts.now)) Sub c.in_ok-one_place-in-Sub.field-0 c.map-in-Sub.result c.in_ok-one_place-in-Sub.ensures c.map-in-Sub.ensures.cases)

pub returns-in_ok-one_place-in-Ex : goal.returns-in_ok-one_place-in-Ex
returns-in_ok-one_place-in-Ex c = subst (λ w. IsMeaning (RuleMeans (around_of c.args.self.now) w (map part_of c.args.parts.now)) c.map-in-Ex.result) (sym c.in-Ex.is) (made_by (One PlacePart (map part_of c.args.parts.now)) Ex c.in_ok-one_place-in-Ex.field-0 c.map-in-Ex.result c.in_ok-one_place-in-Ex.ensures c.map-in-Ex.ensures.cases)

pub returns-in_ok-one_term-in-Pair : goal.returns-in_ok-one_term-in-Pair
returns-in_ok-one_term-in-Pair c = subst (λ w. IsMeaning (RuleMeans (around_of c.args.self.now) w (map part_of c.args.parts.now)) c.map-in-Pair.result) (sym c.in-Pair.is) (made_by (One (TermPart (around_of c.args.self.now)) (map part_of c.args.parts.now)) Pair c.in_ok-one_term-in-Pair.field-0 c.map-in-Pair.result c.in_ok-one_term-in-Pair.ensures c.map-in-Pair.ensures.cases)

pub returns-in_ok-one_term-in-Elems : goal.returns-in_ok-one_term-in-Elems
returns-in_ok-one_term-in-Elems c = subst (λ w. IsMeaning (RuleMeans (around_of c.args.self.now) w (map part_of c.args.parts.now)) c.map-in-Elems.result) (sym c.in-Elems.is) (made_by (One (TermPart (around_of c.args.self.now)) (map part_of c.args.parts.now)) Elems c.in_ok-one_term-in-Elems.field-0 c.map-in-Elems.result c.in_ok-one_term-in-Elems.ensures c.map-in-Elems.ensures.cases)

pub returns-in_ok-found-in-Lin : goal.returns-in_ok-found-in-Lin
returns-in_ok-found-in-Lin c = subst (λ w. IsMeaning (RuleMeans (around_of c.args.self.now) w (map part_of c.args.parts.now)) c.lin_rule.result) (sym c.in-Lin.is) (made_of (One CertificatePart (map part_of c.args.parts.now)) (λ p. Lin p.0 p.1) c.in_ok-found-in-Lin.found c.lin_rule.result c.in_ok-found-in-Lin.ensures c.lin_rule.ensures)
