use Rattle.std.proofs.Common.{sym, subst, map}
use Rattle.std.specs.List.{AllZip}
use Rattle.bk_raw.specs.Codes.ScriptView.{line_of, part_of}
use Rattle.bk_scripts.specs.Parts.{LineMeans, CertificatePart}
use Rattle.bk_scripts.proofs.Turns.{meant_none}
use Rattle.bk_scripts.proofs.part.certificate_part.Goals as goal

pub returns-in_default-3 : goal.returns-in_default-3
returns-in_default-3 c = λ x h. meant_none (λ ls. AllZip LineMeans (map line_of c.deref-2.result.now) ls.items) c.in_ok-lines.field-0 c.in_ok-lines.ensures c.in_default-3.is x.1 (subst (λ ws. AllZip LineMeans (map line_of ws) x.1.items) (sym c.deref-2.ensures.value) (subst (λ p. CertificatePart (part_of p) x) c.in-Certificate.is h).1)
