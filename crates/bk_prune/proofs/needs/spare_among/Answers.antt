use Rattle.std.proofs.Common.{◌≡◌, ℕ, ◌<◌, ◌^◌, List, length, refl, sym, ◌∙◌, ap, subst, arith, below_more}
use Rattle.std.specs.Prelude.{true, false}
use Rattle.std.specs.List.{remove}
use Rattle.bk_seq.specs.Sequents.{sequent_of}
use Rattle.bk_kernel.specs.Derivations.{Derives}
use Rattle.bk_kernel.specs.declared.rule.Rule.{Rule}
use Rattle.bk_prune.proofs.needs.spare_among.Goals as goal

pub loop-index-init : goal.loop-index-init
loop-index-init c = record { same = refl; none = λ k less. absurd (omega arith) }

pub close_without-requires : goal.close_without-requires
close_without-requires c =
    let l = c.loop-index in
    let counted = c.total-count.ensures ∙ ap (λ (rs : List Rule). length rs) (c.as_slice.ensures.value ∙ sym l.invariant.same) in
    record {
      replayable = c.requires.replayable;
      countable = subst (λ (rs : List Rule). length rs < 2 ^ 32) (sym l.invariant.same) c.requires.countable;
      within = subst (λ n. l.index < n) counted c.loop-index-test.true;
    }

pub returns-then-does-clause-some : goal.returns-then-does-clause-some
returns-then-does-clause-some c =
    let l = c.loop-index in
    let counted = c.total-count.ensures ∙ ap (λ (rs : List Rule). length rs) c.as_slice.ensures.value in (
      subst (λ n. l.index < n) counted c.loop-index-test.true,
      subst (λ rs. Derives c.args.table.now (remove rs l.index) (sequent_of c.args.sequent.now)) l.invariant.same (c.in_ok-does.ensures.right c.if-does.true),
    )

pub loop-index-preserved : goal.loop-index-preserved
loop-index-preserved c =
    let l = c.loop-index in
    let rules = c.args.rules.now.items in
    let s = sequent_of c.args.sequent.now in
    let derives = λ (k : ℕ). Derives c.args.table.now (remove rules k) s in
    record {
      same = c.in_ok-does.ensures.same ∙ l.invariant.same;
      none = λ k less. below_more (λ (m : ℕ). derives m → ⊥) l.index l.invariant.none
          (λ derived.
          let yes : c.in_ok-does.does ≡ true = c.in_ok-does.ensures.whole (subst (λ rs. Derives c.args.table.now (remove rs l.index) s) (sym l.invariant.same) derived) in
          let no : true ≡ false = sym yes ∙ c.if-does.false in
          cc)
          k less;
    }

pub returns-clause-none : goal.returns-clause-none
returns-clause-none c = λ k less derived.
    let counted = c.total-count.ensures ∙ ap (λ (rs : List Rule). length rs) c.as_slice.ensures.value in
    c.loop-index.invariant.none k (omega (arith, counted, less)) derived
