use Rattle.std.proofs.Common.{sym, ◌∙◌}
use Rattle.bk_kernel.proofs.Refusals.{no-cases}
use Rattle.bk_kernel.proofs.listing.numbers_of.Goals as goal

pub returns-in-Err-Cases : goal.returns-in-Err-Cases
returns-in-Err-Cases c =
    let is = c.in-Err-Cases.field-0-is in
    no-cases c.args.form.now c.in-Err-Cases.field-0 (λ h. let never = sym is ∙ h in absurd (cc)) c.in-Err-Cases.ensures.fault

pub returns-in-Err-NotLinear : goal.returns-in-Err-NotLinear
returns-in-Err-NotLinear c =
    let is = c.in-Err-NotLinear.field-0-is in
    no-cases c.args.form.now c.in-Err-NotLinear.field-0 (λ h. let never = sym is ∙ h in absurd (cc)) c.in-Err-NotLinear.ensures.fault

pub returns-in-Err-Cert : goal.returns-in-Err-Cert
returns-in-Err-Cert c =
    let is = c.in-Err-Cert.field-0-is in
    no-cases c.args.form.now c.in-Err-Cert.field-0 (λ h. let never = sym is ∙ h in absurd (cc)) c.in-Err-Cert.ensures.fault

pub returns-in-Err-TooWide : goal.returns-in-Err-TooWide
returns-in-Err-TooWide c =
    let is = c.in-Err-TooWide.field-0-is in
    no-cases c.args.form.now c.in-Err-TooWide.field-0 (λ h. let never = sym is ∙ h in absurd (cc)) c.in-Err-TooWide.ensures.fault
