use Rattle.std.proofs.Common.{List, ℕ, take, subst}
use Rattle.bk_lex.specs.Lexis.{AreTokens}
use Rattle.bk_lex.specs.Faults.{IsFaultOf as IsLexFaultOf}
use Rattle.bk_sources.specs.Files.{Has, IsCut}
use Rattle.bk_sources.proofs.FileSteps.{bytes_of, tokens_of, at_text, tokens_on, first_text}
use Rattle.bk_sources.proofs.Turns.{zip_has, zip_push}
use Rattle.bk_sources.proofs.cutting.all_tokens.Goals as goal

pub returns-in-Err-clause-fault : goal.returns-in-Err-clause-fault
returns-in-Err-clause-fault c =
    let texts : List (List ℕ) = bytes_of c.args.texts.now in
    let text : List ℕ = c.index-texts-file.result.items in
    let at = at_text c.args.texts.now c.loop-file.file c.index-texts-file.result c.loop-file-test.true c.index-texts-file.is in
    let faulty : IsLexFaultOf text c.in-Err.error = subst (λ t. IsLexFaultOf t c.in-Err.error) c.deref.ensures.value c.in-Err.ensures.fault in
    let fine = zip_has IsCut (take c.loop-file.file texts) (tokens_of c.loop-file.files.items) c.loop-file.invariant in
    c.lexical.ensures texts (first_text (Has IsCut) (λ t. IsLexFaultOf t c.in-Err.error) texts c.loop-file.file text at.0 at.1 fine faulty) c.requires.utf8

pub loop-file-preserved : goal.loop-file-preserved
loop-file-preserved c =
    let text : List ℕ = c.index-texts-file.result.items in
    let at = at_text c.args.texts.now c.loop-file.file c.index-texts-file.result c.loop-file-test.true c.index-texts-file.is in
    let cut : IsCut text c.in-Ok.found.items = record { cut = subst (λ t. AreTokens t c.in-Ok.found.items) c.deref.ensures.value c.in-Ok.ensures.ok; few = c.in-Ok.ensures.limit } in
    let more = tokens_on c.loop-file.files.items c.push.new.self.items c.in-Ok.found c.in_ok-push-in-Ok.ensures.items in
    zip_push IsCut (bytes_of c.args.texts.now) c.loop-file.file text (tokens_of c.loop-file.files.items) (tokens_of c.push.new.self.items) c.in-Ok.found.items at.0 at.1 more c.loop-file.invariant cut
