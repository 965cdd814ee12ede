use Rattle.std.proofs.Common.{◌∙◌, ap}
use Rattle.bk_raw.specs.Meaning.Names.{found}
use Rattle.bk_raw.specs.Meaning.ScopeReading.{names_in}
use Rattle.bk_scripts.specs.Reading.{around_of}
use Rattle.bk_scripts.proofs.Finds.{name_meant}
use Rattle.bk_scripts.proofs.around.Around.name.Goals as goal

pub returns-in_default : goal.returns-in_default
returns-in_default c = λ n m. c.in_default.ensures n m.of_type (ap (found 0 (names_in c.args.self.now.table.now c.args.self.now.scope.now)) c.as_bytes.ensures.value ∙ m.meant)

pub returns : goal.returns
returns c = name_meant (around_of c.args.self.now) c.args.name.now c.in-Some.number c.in-Some.ty.now c.as_bytes.result.now c.in_ok-written.written c.of_type.result c.as_bytes.ensures.value c.in-Some.ensures c.in_ok-written.ensures.value c.of_type.ensures
