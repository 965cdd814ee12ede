use Rattle.std.proofs.Common.{ℕ, List, find, sym, ◌∙◌, ap, subst}
use Rattle.std.specs.Str.{bytes_eq}
use Rattle.bk_seq.specs.Sequents.{Types, IsWithin, sequent_of}
use Rattle.bk_status.specs.States.{name_text}
use Rattle.bk_status.specs.Replayable.{IsReplayable}
use Rattle.bk_status.proofs.Outcomes.{types_there, countable}
use Rattle.bk_prune.proofs.Ready.{each_found}
use Rattle.bk_prune.proofs.work.work_of.Goals as goal

pub ground-requires : goal.ground-requires
ground-requires c = c.requires.ready.table_is

pub returns-in_default-clause-none : goal.returns-in_default-clause-none
returns-in_default-clause-none c =
    let list = c.args.proved.list.now in
    let spelled = c.deref-2.ensures.value ∙ c.in_ok-name.ensures ∙ ap name_text (c.deref.ensures.value ∙ ap (λ z. z.name) c.script.view_is) in
    sym (c.in_default.ensures ∙ ap (λ (n : List ℕ). find (λ o. bytes_eq n o.name) list) spelled)

pub returns-clause-some : goal.returns-clause-some
returns-clause-some c =
    let dev = c.args.proved.dev.now in
    let list = c.args.proved.list.now in
    let script = c.args.script.now in
    let rules = c.in_ok-rules.rules.items in
    let table = c.in_ok-rules.table in
    let o = c.in-Some.obligation.now in
    let spelled = c.deref-2.ensures.value ∙ c.in_ok-name.ensures ∙ ap name_text (c.deref.ensures.value ∙ ap (λ z. z.name) c.script.view_is) in
    let is_for = sym (c.in-Some.ensures ∙ ap (λ (n : List ℕ). find (λ o. bytes_eq n o.name) list) spelled) in
    let here = each_found (λ o. IsReplayable c.args.proved.table.now o.1) (λ o. bytes_eq (name_text script.name) o.name) list o is_for c.requires.ready.replayable in
    let narrow = subst (λ t. Types t (sequent_of o.sequent)) c.requires.ready.table_is here.types in
    let wide = types_there dev c.facts.ensures script rules table c.in_ok-rules.ensures (sequent_of o.sequent) narrow in
    record {
      obligation = o;
      is_for = is_for;
      own = c.in_ok-sequent.ensures;
      grounded = c.in_ok-rules.ensures;
      replayable = record { types = subst (Types table) (sym c.in_ok-sequent.ensures) wide; within = subst IsWithin (sym c.in_ok-sequent.ensures) here.within };
      countable = countable dev c.facts.ensures script rules table c.in_ok-rules.ensures c.requires.short;
    }
