use Rattle.std.proofs.Common.{◌∙◌, ap, map}
use Rattle.bk_raw.specs.Codes.ScriptView.{part_of}
use Rattle.bk_scripts.specs.Reading.{around_of}
use Rattle.bk_scripts.proofs.Sighted.{stands_some, stands_none}
use Rattle.bk_scripts.proofs.around.Around.rule.Goals as goal

pub returns-in-Some : goal.returns-in-Some
returns-in-Some c = stands_some (around_of c.args.self.now) c.args.written.now c.written.inside.word (map part_of c.deref.result.now) c.in_ok-rule.field-0 c.in-Some.rule (ap (λ z. z.word) c.written.view_is) (ap (map part_of) c.deref.ensures.value ∙ ap (λ z. z.parts) c.written.view_is) c.in_ok-rule.ensures c.in-Some.is

pub returns-in-None : goal.returns-in-None
returns-in-None c = stands_none (around_of c.args.self.now) c.args.written.now c.written.inside.word (map part_of c.deref.result.now) c.in_ok-rule.field-0 (ap (λ z. z.word) c.written.view_is) (ap (map part_of) c.deref.ensures.value ∙ ap (λ z. z.parts) c.written.view_is) c.in_ok-rule.ensures c.in-None.is
