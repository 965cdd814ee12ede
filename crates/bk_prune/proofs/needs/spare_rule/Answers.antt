use Rattle.std.proofs.Common.{◌≡◌, ℕ, ◌<◌, length, Option, None}
use Rattle.std.specs.Prelude.{IfSome, IfNone}
use Rattle.std.specs.List.{remove}
use Rattle.std.proofs.lemmas.Result.{IfOk-weaker}
use Rattle.bk_seq.specs.Sequents.{sequent_of}
use Rattle.bk_kernel.specs.Derivations.{Derives}
use Rattle.bk_prune.specs.Pruned.{obligation_for, IsWork, ProvesWithout, NeedsEachRule}
use Rattle.bk_prune.proofs.Ready.{closed_without, each_needed, needs_none, if_some_so, if_none_so, some_so, none_so}
use Rattle.bk_prune.proofs.needs.spare_rule.Goals as goal

pub spare_among-requires : goal.spare_among-requires
spare_among-requires c =
    let work = some_so (IsWork c.args.proved.dev.now c.args.proved.list.now c.args.script.now) c.in_ok-work.field-0 c.in-Some.work c.in-Some.is c.in_ok-work.ensures.some in
    record { replayable = work.replayable; countable = work.countable }

pub returns-in_default-clause-none : goal.returns-in_default-clause-none
returns-in_default-clause-none c =
    let none = none_so (obligation_for c.args.proved.list.now c.args.script.now ≡ None) c.in_ok-work.field-0 c.in_default.is c.in_ok-work.ensures.none in
    needs_none c.args.proved.dev.now c.args.proved.list.now c.args.script.now none

pub returns : goal.returns
returns c =
    let dev = c.args.proved.dev.now in
    let list = c.args.proved.list.now in
    let script = c.args.script.now in
    let found = some_so (IsWork dev list script) c.in_ok-work.field-0 c.in-Some.work c.in-Some.is c.in_ok-work.ensures.some in
    let work = c.in-Some.work in
    let rules = work.rules.items in
    let derives = λ (k : ℕ). Derives work.table (remove rules k) (sequent_of work.sequent) in
    let some = λ (k : ℕ). (k < length rules) × derives k in
    let none = (k : ℕ) → k < length rules → derives k → ⊥ in
    let here = ProvesWithout dev list script in
    let needs = NeedsEachRule dev list script in
    record {
      some = IfOk-weaker c.spare_among.result (λ (o : Option ℕ). IfSome o some) (λ (o : Option ℕ). IfSome o here)
          (λ o h. if_some_so some here o (λ k both. closed_without dev list script work found k both.0 both.1) h) c.spare_among.ensures.some;
      none = IfOk-weaker c.spare_among.result (λ (o : Option ℕ). IfNone o none) (λ (o : Option ℕ). IfNone o needs)
          (λ o h. if_none_so none needs o (each_needed dev list script work found) h) c.spare_among.ensures.none;
    }
