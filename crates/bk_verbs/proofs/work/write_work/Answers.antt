use Rattle.std.proofs.Common.{All, length, map, refl, sym, ◌∙◌, ap, subst, arith}
use Rattle.std.proofs.lemmas.List.{length-map}
use Rattle.std.proofs.lemmas.Result.{IfOk-weaker}
use Rattle.bk_code.specs.Laws.{IsRequest}
use Rattle.bk_io.specs.Pieces.{PutWhole, written_with}
use Rattle.bk_calls.specs.Script.{request_of}
use Rattle.bk_po.specs.Shown.{named_sequent}
use Rattle.bk_report.specs.Obligations.{obligation_text, obligations_text}
use Rattle.bk_verbs.specs.Puts.{PutsEach}
use Rattle.bk_verbs.specs.declared.status.Status.TheVariants.{Done}
use Rattle.bk_verbs.specs.Session.{Plays, Puts}
use Rattle.bk_verbs.specs.Prepared.{IsPrepared, Suits, CanBePlayed}
use Rattle.bk_verbs.proofs.Prepared.{wrote_text, wrote_list, ended_work, played_work, playable, put_text, put_list, put_session}
use Rattle.bk_verbs.proofs.work.write_work.Goals as goal

pub play-requires-clause-fresh : goal.play-requires-clause-fresh
play-requires-clause-fresh g c = (playable c.args.work c.in-Play.player c.in-Play.calls c.in-Play.fuel c.in-Play.is c.requires).fresh

pub play-requires-clause-requests : goal.play-requires-clause-requests
play-requires-clause-requests g c =
    subst (λ x. All (IsRequest c.in-Play.player.image) (map request_of x)) (sym c.deref-in-Play.ensures.value) (playable c.args.work c.in-Play.player c.in-Play.calls c.in-Play.fuel c.in-Play.is c.requires).asked

pub play-requires-clause-few : goal.play-requires-clause-few
play-requires-clause-few g c =
    let few = (playable c.args.work c.in-Play.player c.in-Play.calls c.in-Play.fuel c.in-Play.is c.requires).few in
    omega (arith, few, length-map c.in-Play.calls.items request_of, ap length c.deref-in-Play.ensures.value)

pub play-requires-clause-small : goal.play-requires-clause-small
play-requires-clause-small g c = (playable c.args.work c.in-Play.player c.in-Play.calls c.in-Play.fuel c.in-Play.is c.requires).small

pub returns-in_ok-put_all-in-Text-clause-ok : goal.returns-in_ok-put_all-in-Text-clause-ok
returns-in_ok-put_all-in-Text-clause-ok g c files task prepared =
    wrote_text files task c.in-Text.text Done (g.K.Sink.written c.args.out.now) (g.K.Sink.written c.put_all.new.sink) (subst (IsPrepared files task) c.in-Text.is prepared) refl
    (c.in_ok-put_all-in-Text.ensures.ok ∙ ap (written_with (g.K.Sink.written c.args.out.now)) c.deref.ensures.value)

pub returns-in_ok-put_all-in-Ended-clause-ok : goal.returns-in_ok-put_all-in-Ended-clause-ok
returns-in_ok-put_all-in-Ended-clause-ok g c files task prepared =
    ended_work files task c.in-Ended.text c.in-Ended.status (g.K.Sink.written c.args.out.now) (g.K.Sink.written c.put_all-in-Ended.new.sink) (subst (IsPrepared files task) c.in-Ended.is prepared)
    (c.in_ok-put_all-in-Ended.ensures.ok ∙ ap (written_with (g.K.Sink.written c.args.out.now)) c.deref-in-Ended.ensures.value)

pub returns-in_ok-put_all-in-Ended-clause-executed : goal.returns-in_ok-put_all-in-Ended-clause-executed
returns-in_ok-put_all-in-Ended-clause-executed g c = subst CanBePlayed c.in-Ended.is c.requires

pub returns-in-Play-clause-ok : goal.returns-in-Play-clause-ok
returns-in-Play-clause-ok g c =
    IfOk-weaker c.play.result _ _
    (λ status plays files task prepared.
    played_work files task c.in-Play.player c.in-Play.calls c.in-Play.fuel status (g.K.Sink.written c.args.out.now) (g.K.Sink.written c.play.new.out) (subst (IsPrepared files task) c.in-Play.is prepared)
    (subst (λ x. Plays c.in-Play.player.image c.in-Play.fuel (map request_of x) status (g.K.Sink.written c.args.out.now) (g.K.Sink.written c.play.new.out)) c.deref-in-Play.ensures.value plays))
    c.play.ensures.ok

-- ---- what is put
pub returns-in_ok-put_all-in-Text-clause-pieces : goal.returns-in_ok-put_all-in-Text-clause-pieces
returns-in_ok-put_all-in-Text-clause-pieces g c files task prepared suits =
    put_text files task c.in-Text.text.items Done (g.K.Sink.pieces c.args.out.now) (g.K.Sink.pieces c.put_all.new.sink) (subst (Suits files task) c.in-Text.is suits) (subst (IsPrepared files task) c.in-Text.is prepared)
    (subst (λ x. PutWhole x (g.K.Sink.pieces c.args.out.now) (g.K.Sink.pieces c.put_all.new.sink)) c.deref.ensures.value c.in_ok-put_all-in-Text.ensures.told)

pub returns-in_ok-put_all-in-Ended-clause-pieces : goal.returns-in_ok-put_all-in-Ended-clause-pieces
returns-in_ok-put_all-in-Ended-clause-pieces g c files task prepared suits =
    put_text files task c.in-Ended.text.items c.in-Ended.status (g.K.Sink.pieces c.args.out.now) (g.K.Sink.pieces c.put_all-in-Ended.new.sink) (subst (Suits files task) c.in-Ended.is suits) (subst (IsPrepared files task) c.in-Ended.is prepared)
    (subst (λ x. PutWhole x (g.K.Sink.pieces c.args.out.now) (g.K.Sink.pieces c.put_all-in-Ended.new.sink)) c.deref-in-Ended.ensures.value c.in_ok-put_all-in-Ended.ensures.told)

pub returns-in-Play-clause-pieces : goal.returns-in-Play-clause-pieces
returns-in-Play-clause-pieces g c =
    IfOk-weaker c.play.result _ _
    (λ status puts files task prepared suits.
    put_session files task c.in-Play.player c.in-Play.calls c.in-Play.fuel status (g.K.Sink.written c.args.out.now) (g.K.Sink.written c.play.new.out) (g.K.Sink.pieces c.args.out.now) (g.K.Sink.pieces c.play.new.out) (subst (Suits files task) c.in-Play.is suits)
    (subst (λ x. Puts c.in-Play.player.image c.in-Play.fuel (map request_of x) status (g.K.Sink.written c.args.out.now) (g.K.Sink.written c.play.new.out) (g.K.Sink.pieces c.args.out.now) (g.K.Sink.pieces c.play.new.out)) c.deref-in-Play.ensures.value puts))
    c.play.ensures.lines

-- ---- obligations
pub returns-in-Obligations-clause-ok : goal.returns-in-Obligations-clause-ok
returns-in-Obligations-clause-ok g c =
    IfOk-weaker c.put_obligations.result _ _
    (λ status done files task prepared.
    wrote_list files task c.in-Obligations.list c.in-Obligations.table status (g.K.Sink.written c.args.out.now) (g.K.Sink.written c.put_obligations.new.out) (subst (IsPrepared files task) c.in-Obligations.is prepared) done.0
    (done.1 ∙ ap (λ l. written_with (g.K.Sink.written c.args.out.now) (obligations_text c.in-Obligations.table (map named_sequent l))) c.deref-in-Obligations.ensures.value))
    c.put_obligations.ensures.ok

pub returns-in-Obligations-clause-pieces : goal.returns-in-Obligations-clause-pieces
returns-in-Obligations-clause-pieces g c =
    IfOk-weaker c.put_obligations.result _ _
    (λ status done files task prepared suits.
    put_list files task c.in-Obligations.list c.in-Obligations.table status (g.K.Sink.pieces c.args.out.now) (g.K.Sink.pieces c.put_obligations.new.out) (subst (Suits files task) c.in-Obligations.is suits) done.0
    (subst (λ l. PutsEach (map (obligation_text c.in-Obligations.table) (map named_sequent l)) (g.K.Sink.pieces c.args.out.now) (g.K.Sink.pieces c.put_obligations.new.out)) c.deref-in-Obligations.ensures.value done.1))
    c.put_obligations.ensures.pieces
