use Rattle.std.proofs.Common.{◌≡◌, ◌<◌, ◌+◌, ◌++◌, ◌-◌, suc, length, ap, sym, ◌∙◌, subst, arith}
use Rattle.std.specs.List.{flat_map}
use Rattle.bk_dev.specs.Hypotheses.{properties_of, facts_of}
use Rattle.bk_po.specs.Obligations.{level_obligations, flat_obligations}
use Rattle.bk_po.specs.Limits.{first_too_large, IsFaultAmong}
use Rattle.bk_po.proofs.Laying.{from_on, from_start, next_level, next_level_size, found_fault, handed_on}
use Rattle.bk_po.proofs.Supposing.{no_properties, no_facts}
use Rattle.bk_po.proofs.list.whole_obligations.Goals as goal

pub loop-level-preserved : goal.loop-level-preserved
loop-level-preserved c =
    let less : c.loop-level.level < length c.args.dev.now.levels = subst (λ n. c.loop-level.level < n) c.level_count-level-end.ensures c.loop-level-test.true in
    let more : suc c.loop-level.level ≡ c.loop-level.level + 1 = omega arith in
    record {
      added = next_level (level_obligations c.args.dev.now) _ _ _ _ (length c.args.dev.now.levels) less c.loop-level.invariant.added c.in_ok-add_level.ensures.value;
      sizes = next_level_size (level_obligations c.args.dev.now) _ _ (length c.args.dev.now.levels) less c.loop-level.invariant.sizes c.in_ok-add_level.ensures.sizes;
      properties = c.in_ok-known.ensures.properties ∙ ap (properties_of c.args.dev.now) more;
      facts = c.in_ok-known.ensures.facts ∙ ap (facts_of c.args.dev.now) more;
    }

pub loop-level-init : goal.loop-level-init
loop-level-init c =
    let start = from_start (length c.args.dev.now.levels) in
    record {
      added = ap (λ os. os ++ flat_map (level_obligations c.args.dev.now) (from_on 0 (length c.args.dev.now.levels - 0))) c.new-list.ensures.items ∙ ap (flat_map (level_obligations c.args.dev.now)) start;
      sizes = ap (λ ks. first_too_large (flat_map (level_obligations c.args.dev.now) ks)) start;
      properties = c.new-properties.ensures.items ∙ sym (no_properties c.args.dev.now);
      facts = c.new-facts.ensures.items ∙ sym (no_facts c.args.dev.now);
    }

pub returns-in_err-add_level-clause-fault : goal.returns-in_err-add_level-clause-fault
returns-in_err-add_level-clause-fault c =
    let less : c.loop-level.level < length c.args.dev.now.levels = subst (λ n. c.loop-level.level < n) c.level_count-level-end.ensures c.loop-level-test.true in
    handed_on c.from_residual-in_err-add_level.result _ (IsFaultAmong (flat_obligations c.args.dev.now)) c.from_residual-in_err-add_level.ensures.1
    (found_fault (level_obligations c.args.dev.now) (flat_obligations c.args.dev.now) _ (length c.args.dev.now.levels) _ less c.loop-level.invariant.sizes c.in_err-add_level.ensures.fault)
