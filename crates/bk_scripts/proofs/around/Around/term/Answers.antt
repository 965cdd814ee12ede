use Rattle.bk_raw.proofs.ScopeRight.{formula-clean}
use Rattle.bk_scripts.proofs.around.Around.term.Goals as goal

pub returns-in_ok-had_memory-in-Err : goal.returns-in_ok-had_memory-in-Err
returns-in_ok-had_memory-in-Err c = λ f e. c.in_ok-had_memory-in-Err.ensures _ c.in-Err.ensures.fault (formula-clean c.args.self.now.table.now c.args.self.now.scope.now c.args.term.now f e)
