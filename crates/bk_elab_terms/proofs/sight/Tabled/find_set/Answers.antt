use Rattle.std.proofs.Common.{◌≡◌, sym, ◌∙◌, subst, arith}
use Rattle.std.specs.Prelude.{Option, None, Some}
use Rattle.bk_raw.specs.Meaning.Names.{found}
use Rattle.bk_elab_terms.specs.Sights.{set_in_front, seen_or}
use Rattle.bk_elab_terms.specs.declared.sight.Seen.{Seen}
use Rattle.bk_elab_terms.proofs.Sighted.{set-found}
use Rattle.bk_elab_terms.proofs.sight.Tabled.find_set.Goals as goal

pub returns-in-Some : goal.returns-in-Some
returns-in-Some c =
    sym (set-found c.args.self.now.table.now.sets c.loop-number.number c.args.text.now (Some c.in-Some.seen) (omega (arith, c.sets-number-end.ensures.value))
    (λ e rest h. subst (λ (o : Option Seen). found 0 (set_in_front c.loop-number.number e rest) c.args.text.now ≡ seen_or o (found 0 rest c.args.text.now)) c.in-Some.is (c.in_ok-seen.ensures e rest h)))
    ∙ c.loop-number.invariant

pub loop-number-preserved : goal.loop-number-preserved
loop-number-preserved c =
    sym (set-found c.args.self.now.table.now.sets c.loop-number.number c.args.text.now None (omega (arith, c.sets-number-end.ensures.value))
    (λ e rest h. subst (λ (o : Option Seen). found 0 (set_in_front c.loop-number.number e rest) c.args.text.now ≡ seen_or o (found 0 rest c.args.text.now)) c.in_default.is (c.in_ok-seen.ensures e rest h)))
    ∙ c.loop-number.invariant
