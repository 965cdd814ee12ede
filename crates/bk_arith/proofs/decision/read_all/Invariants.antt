use Rattle.std.proofs.Common.{◌≡◌, ◌++◌, All, map, drop, length}
use Rattle.std.specs.Prelude.{is_none}
use Rattle.std.specs.List.{list_any}
use Rattle.std.specs.Option.{some_prefix}
use Rattle.bk_lin.specs.Certificate.{inequalities}
use Rattle.bk_arith.specs.Reading.{reading}
use Rattle.bk_arith.specs.Layout.{term_of}
use Rattle.bk_arith.proofs.decision.read_all.Given as goal

abbrev pub invariant-loop-term : goal.invariant-loop-term
invariant-loop-term l = record {
  facts : inequalities l.facts.items ++ some_prefix (map (reading l.atoms) (map term_of (drop l.term-index l.terms))) ≡ some_prefix (map (reading l.atoms) (map term_of l.terms));
  all : list_any is_none (map (reading l.atoms) (map term_of (drop l.term-index l.terms))) ≡ list_any is_none (map (reading l.atoms) (map term_of l.terms));
  width : All (λ f. length f.coefs.items ≡ length l.atoms) l.facts.items;
}
