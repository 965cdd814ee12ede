use Rattle.std.proofs.Common.{◌≡◌, ◌<◌, ◌^◌, Bool, true, None, length, sym, subst}
use Rattle.std.proofs.lemmas.Result.{IfOk-weaker}
use Rattle.bk_seq.specs.Sequents.{sequent_of}
use Rattle.bk_kernel.specs.Derivations.{Derives}
use Rattle.bk_prune.specs.Pruned.{obligation_for, IsWork, ProvesOne}
use Rattle.bk_prune.proofs.Ready.{closed_proves, closed_where_proved, proves_none, some_so, none_so}
use Rattle.bk_prune.proofs.work.proves.Goals as goal

pub closes-requires : goal.closes-requires
closes-requires c =
    let work = some_so (IsWork c.args.proved.dev.now c.args.proved.list.now c.args.script.now) c.in_ok-work.field-0 c.in-Some.work c.in-Some.is c.in_ok-work.ensures.some in
    record { replayable = work.replayable; countable = subst (λ rs. length rs < 2 ^ 32) (sym c.deref.ensures.value) work.countable }

pub returns-in_default-clause-whole : goal.returns-in_default-clause-whole
returns-in_default-clause-whole c = λ proved.
    let none = none_so (obligation_for c.args.proved.list.now c.args.script.now ≡ None) c.in_ok-work.field-0 c.in_default.is c.in_ok-work.ensures.none in
    absurd (proves_none c.args.proved.dev.now c.args.proved.list.now c.args.script.now none proved)

pub returns : goal.returns
returns c =
    let dev = c.args.proved.dev.now in
    let list = c.args.proved.list.now in
    let script = c.args.script.now in
    let found = some_so (IsWork dev list script) c.in_ok-work.field-0 c.in-Some.work c.in-Some.is c.in_ok-work.ensures.some in
    let work = c.in-Some.work in
    let held = c.deref.ensures.value in
    let own = sequent_of work.sequent in
    let rules = c.deref.result.now in
    record {
      right = IfOk-weaker c.closes.result (λ (does : Bool). does ≡ true → Derives work.table rules own) (λ (does : Bool). does ≡ true → ProvesOne dev list script)
          (λ does h yes. closed_proves dev list script work found (subst (λ rs. Derives work.table rs own) held (h yes))) c.closes.ensures.right;
      whole = IfOk-weaker c.closes.result (λ (does : Bool). Derives work.table rules own → does ≡ true) (λ (does : Bool). ProvesOne dev list script → does ≡ true)
          (λ does h proved. h (subst (λ rs. Derives work.table rs own) (sym held) (closed_where_proved dev list script work found proved))) c.closes.ensures.whole;
    }
