use Rattle.std.proofs.Common.{◌∙◌, get_or}
use Rattle.bk_print.specs.Text.{comma, number_items}
use Rattle.bk_print.proofs.Pieces.{first_step, facts_step, read_at}
use Rattle.bk_print.proofs.certificate.write_facts.Goals as goal

pub returns-in_ok-extend_from_slice-in-len1-up : goal.returns-in_ok-extend_from_slice-in-len1-up
returns-in_ok-extend_from_slice-in-len1-up c =
    let ns = c.args.facts.now in
    let all = first_step number_items comma ns (get_or ns 0 0) c.args.out.now.items c.write_digits.new.out.items c.write_more_facts.new.out.items c.in-len1-up.len_at_least (read_at ns 0 c.in-len1-up.len_at_least) c.in_ok-write_digits-in-len1-up.ensures c.in_ok-write_more_facts-in-len1-up.ensures in
    c.in_ok-extend_from_slice-in-len1-up.ensures.items ∙ facts_step ns c.args.out.now.items c.write_more_facts.new.out.items c.in-len1-up.len_at_least all
