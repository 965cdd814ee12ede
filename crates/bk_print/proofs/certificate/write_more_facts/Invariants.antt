use Rattle.std.proofs.Common.{◌≡◌, ◌++◌, map, drop}
use Rattle.bk_show.specs.Items.{text_of}
use Rattle.bk_print.specs.Text.{behind_each, comma, number_items}
use Rattle.bk_print.proofs.certificate.write_more_facts.Given as goal

abbrev pub invariant-loop-fact : goal.invariant-loop-fact
invariant-loop-fact l = l.out.items ++ text_of (behind_each comma (map (number_items) (drop l.fact-index l.facts))) ≡ l.fn.out.items ++ text_of (behind_each comma (map (number_items) l.facts))
