use Rattle.std.proofs.Common.{◌<◌, length, map, ◌∙◌, ap, arith}
use Rattle.std.proofs.lemmas.List.{take_all}
use Rattle.bk_evidence.specs.Items.{row_of, known_of}
use Rattle.bk_evidence.proofs.Listed.{mapped_more}
use Rattle.bk_evidence.proofs.item.items.Goals as goal

pub loop-index-init : goal.loop-index-init
loop-index-init c = record { states = ap (map row_of) c.new-items.ensures.items; known = λ same. ap (map known_of) c.new-items.ensures.items }

pub loop-index-preserved : goal.loop-index-preserved
loop-index-preserved c =
    let l = c.loop-index in
    let item = c.in_ok-item_of.field-0 in
    let less = c.loop-index-test.true in
    record {
      states = mapped_more row_of c.args.rows.now l.items.items c.push.new.self.items l.index c.index-rows-index.result item less c.index-rows-index.is l.invariant.states c.in_ok-push.ensures.items c.in_ok-item_of.ensures.state;
      known = λ same.
          let within : l.index < length c.args.proofs.now = omega (arith, same, less) in
          mapped_more known_of c.args.proofs.now l.items.items c.push.new.self.items l.index c.in_ok-proof.proof item within (c.in_ok-proof.ensures within) (l.invariant.known same) c.in_ok-push.ensures.items c.in_ok-item_of.ensures.known;
    }

pub returns : goal.returns
returns c =
    let l = c.loop-index in
    record {
      states = l.invariant.states ∙ take_all l.index c.args.rows.now (omega arith);
      known = λ same. l.invariant.known same ∙ take_all l.index c.args.proofs.now (omega (arith, same));
    }
