use Rattle.std.proofs.Common.{◌≡◌, ◌⊎◌, sym, subst}
use Rattle.bk_io.specs.Pieces.{written_with}
use Rattle.bk_verbs.specs.Stops.{IsCutShort}
use Rattle.bk_proof_program.specs.Answers.{IsAnswer, IsEnd}
use Rattle.bk_proof_program.specs.Said.{WritesAnswer}
use Rattle.bk_proof_program.specs.declared.answer.Answer.{Answer}
use Rattle.bk_proof_program.proofs.program.write_answer.Goals as goal

pub written-requires : goal.written-requires
written-requires g c = λ e. subst IsEnd e (subst IsAnswer c.in-Whole.is c.requires)

pub explained-requires : goal.explained-requires
explained-requires g c =
    let said = subst IsAnswer c.in-Explained.is c.requires in
    record { reading = said.1; writing = said.0 }

pub returns-in-Whole-clause-told : goal.returns-in-Whole-clause-told
returns-in-Whole-clause-told g c =
    subst (λ (a : Answer). WritesAnswer a (g.K.Sink.written c.args.out.now) (g.K.Sink.written c.written.new.out) c.written.result) (sym c.in-Whole.is)
    (subst (λ t. IsCutShort c.written.result ⊎ ((c.written.result ≡ c.in-Whole.status) × (g.K.Sink.written c.written.new.out ≡ written_with (g.K.Sink.written c.args.out.now) t))) c.deref.ensures.value c.written.ensures.told)

pub returns-in-Whole-clause-read : goal.returns-in-Whole-clause-read
returns-in-Whole-clause-read g c = λ e. subst IsEnd (c.written.ensures.done e) (subst IsAnswer c.in-Whole.is c.requires)

pub returns-in-Explained-clause-told : goal.returns-in-Explained-clause-told
returns-in-Explained-clause-told g c =
    subst (λ (a : Answer). WritesAnswer a (g.K.Sink.written c.args.out.now) (g.K.Sink.written c.explained.new.out) c.explained.result) (sym c.in-Explained.is) c.explained.ensures.told
