use Rattle.std.proofs.Common.{◌∙◌}
use Rattle.bk_p_proof.proofs.Names.{word_at, no_word_at}
use Rattle.bk_p_proof.proofs.name.word_text.Goals as goal

pub returns-in_ok-from_slice-in-Some : goal.returns-in_ok-from_slice-in-Some
returns-in_ok-from_slice-in-Some c =
    let found = c.in-Some.ensures.lookup in
    word_at c.words-words.result c.args.op c.from.result c.in-Some.row.now c.from_bytes.result c.words-words.ensures.words (c.from.ensures ∙ c.saturating_sub.ensures) found.3.0 found.1
    (c.from_bytes.ensures ∙ c.in_ok-from_slice-in-Some.ensures.items ∙ c.text.ensures)

pub returns-in-None : goal.returns-in-None
returns-in-None c = no_word_at c.words-words.result c.args.op c.from.result c.words-words.ensures.words (c.from.ensures ∙ c.saturating_sub.ensures) c.in-None.ensures.lookup.3
