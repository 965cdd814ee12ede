use Rattle.std.proofs.Common.{◌≡◌, rules}
use Rattle.std.proofs.lemmas.Fmt.{parse-decimal}
use Rattle.bk_proof_words.proofs.verbs.number_of.Goals as goal

pub returns-else-eq : goal.returns-else-eq
returns-else-eq c = λ n fits e.
    let read = parse-decimal 64 n c.args.text.now c.parse.result fits fits e c.parse.ensures.value.0 in
    let text : c.format.result.now ≡ c.args.text.now = cc e in
    absurd (search rules)

pub returns-in-Err : goal.returns-in-Err
returns-in-Err c = λ n fits e. absurd (cc (parse-decimal 64 n c.args.text.now c.parse.result fits fits e c.parse.ensures.value.0))
