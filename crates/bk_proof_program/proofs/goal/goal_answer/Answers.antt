use Rattle.std.proofs.Common.{◌≡◌, ◌∙◌, ℕ, List, Some, None, find, option_map, sym, subst, ap}
use Rattle.std.specs.Str.{bytes_eq}
use Rattle.bk_po.specs.Obligations.{numbered_obligations}
use Rattle.bk_po.specs.Shown.{named_sequent}
use Rattle.bk_po.specs.declared.obligation.Obligation.{Obligation}
use Rattle.bk_seq.specs.Sequents.{Sequent}
use Rattle.bk_status.specs.Replayable.{IsReplayable}
use Rattle.bk_status.specs.States.{script_named}
use Rattle.bk_proof_program.proofs.Finding.{IfFound, find_map, found_each}
use Rattle.bk_proof_program.proofs.Named.{none_named, one_named}
use Rattle.bk_proof_program.proofs.goal.goal_answer.Goals as goal

pub goal_text-requires-clause-replayable : goal.goal_text-requires-clause-replayable
goal_text-requires-clause-replayable g c =
    let whole = c.in_ok-whole.whole in
    let here : Some c.in-Some.obligation.now ≡ find (λ (o : Obligation). bytes_eq c.args.name.now o.name) whole.list.items =
    c.in-Some.ensures ∙ (λ i. find (λ (o : Obligation). bytes_eq (c.as_bytes-wanted.ensures.value i) o.name) (c.deref.ensures.value i)) in
    subst (IfFound (λ (o : Obligation). IsReplayable whole.table (named_sequent o).1)) (sym here) (found_each (λ (o : List ℕ × Sequent). IsReplayable whole.table o.1) named_sequent (λ (o : Obligation). bytes_eq c.args.name.now o.name) whole.list.items c.in_ok-whole.ensures.ready.replayable)

pub goal_text-requires-clause-table : goal.goal_text-requires-clause-table
goal_text-requires-clause-table g c = c.in_ok-whole.ensures.ready.table_is

pub goal_text-requires-clause-short : goal.goal_text-requires-clause-short
goal_text-requires-clause-short g c = c.in_ok-found.ensures.short

pub returns-in_default-clause-told : goal.returns-in_default-clause-told
returns-in_default-clause-told g c files told =
    let whole = c.in_ok-whole.whole in
    let none : None ≡ find (λ (o : Obligation). bytes_eq c.args.name.now o.name) whole.list.items =
    c.in_default.ensures ∙ (λ i. find (λ (o : Obligation). bytes_eq (c.as_bytes-wanted.ensures.value i) o.name) (c.deref.ensures.value i)) in
    let no : None ≡ find (λ (o : List ℕ × Sequent). bytes_eq c.args.name.now o.0) (numbered_obligations whole.project.development) =
    ap (option_map named_sequent) none ∙ (find_map (λ (o : List ℕ × Sequent). bytes_eq c.args.name.now o.0) named_sequent whole.list.items ∙ ap (find (λ (o : List ℕ × Sequent). bytes_eq c.args.name.now o.0)) c.in_ok-whole.ensures.listed) in
    record {
      development = whole.project.development;
      scripts = whole.project.scripts;
      reads = c.in_ok-whole.ensures.told files told;
      shows = none_named whole.project.development whole.project.scripts c.args.name.now c.args.at _ _ no;
    }

pub returns-clause-told : goal.returns-clause-told
returns-clause-told g c files told =
    let whole = c.in_ok-whole.whole in
    let here : Some c.in-Some.obligation.now ≡ find (λ (o : Obligation). bytes_eq c.args.name.now o.name) whole.list.items =
    c.in-Some.ensures ∙ (λ i. find (λ (o : Obligation). bytes_eq (c.as_bytes-wanted.ensures.value i) o.name) (c.deref.ensures.value i)) in
    let listed : Some (named_sequent c.in-Some.obligation.now) ≡ find (λ (o : List ℕ × Sequent). bytes_eq c.args.name.now o.0) (numbered_obligations whole.project.development) =
    ap (option_map named_sequent) here ∙ (find_map (λ (o : List ℕ × Sequent). bytes_eq c.args.name.now o.0) named_sequent whole.list.items ∙ ap (find (λ (o : List ℕ × Sequent). bytes_eq c.args.name.now o.0)) c.in_ok-whole.ensures.listed) in
    record {
      development = whole.project.development;
      scripts = whole.project.scripts;
      reads = c.in_ok-whole.ensures.told files told;
      shows = one_named whole.project.development whole.project.scripts c.args.name.now c.args.at _ c.in_ok-shown.shown.text.items (named_sequent c.in-Some.obligation.now) c.status_of.result listed (
        c.in_ok-found.field-0,
        c.in_ok-shown.shown.is_open,
        c.in_ok-found.ensures.named ∙ ap (script_named whole.project.scripts) c.as_bytes-wanted.ensures.value,
        c.in_ok-shown.ensures,
        c.status_of.ensures.value,
      );
    }
