use Rattle.std.proofs.Common.{◌≡◌, ◌<◌, ℤ, pos, [], ◌∷◌, ◌++◌, length, ap, arith}
use Rattle.std.specs.Global.{Vec}
use Rattle.bk_lin.specs.Certificate.{inequalities, width_of}
use Rattle.std.proofs.lemmas.List.{length-append}
use Rattle.bk_elim.specs.Rows.{IsRow, IsStart}
use Rattle.bk_elim.proofs.Rows.{IsRow-start}
use Rattle.bk_elim.proofs.Joining.{length-inequalities}
use Rattle.bk_elim.proofs.Starting.{narrow_facts, start_more}
use Rattle.bk_elim.proofs.Steps.{pushed_all}
use Rattle.bk_elim.proofs.system.start.Goals as goal

pub start_row-requires-clause-narrow : goal.start_row-requires-clause-narrow
start_row-requires-clause-narrow c = narrow_facts (width_of c.args.facts.now) c.args.facts.now c.requires.small

pub loop-index-preserved : goal.loop-index-preserved
loop-index-preserved c =
    let pushed : c.push.new.self.items ≡ c.loop-index.rows.items ++ c.in_ok-start_row.field-0 ∷ [] = c.in_ok-push.ensures.items in
    let long : length c.push.new.self.items ≡ length (c.loop-index.rows.items ++ c.in_ok-start_row.field-0 ∷ []) = ap length pushed in
    let below : c.loop-index.index < length (inequalities c.args.facts.now) = (let e = length-inequalities c.args.facts.now in omega arith) in
    let start : IsStart (inequalities c.args.facts.now) c.loop-index.index c.in_ok-start_row.field-0.items = c.in_ok-start_row.ensures in
    record {
      long = (let e = length-append c.loop-index.rows.items (c.in_ok-start_row.field-0 ∷ []) in let f = c.loop-index.invariant.long in omega arith);
      start = start_more (inequalities c.args.facts.now) c.loop-index.rows.items c.push.new.self.items c.in_ok-start_row.field-0 c.loop-index.index c.loop-index.invariant.long pushed c.loop-index.invariant.start start;
      rows = pushed_all (λ (v : Vec ℤ). IsRow (inequalities c.args.facts.now) 0 v.items) c.loop-index.rows.items c.push.new.self.items c.in_ok-start_row.field-0 pushed c.loop-index.invariant.rows
          (IsRow-start (inequalities c.args.facts.now) c.loop-index.index c.in_ok-start_row.field-0.items (record { coefs = []; constant = pos 0 }) below (c.requires.small.small c.loop-index.index (record { coefs = []; constant = pos 0 }) below) start);
    }
