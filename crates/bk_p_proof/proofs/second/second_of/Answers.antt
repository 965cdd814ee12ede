use Rattle.std.proofs.Common.{◌+◌, ◌++◌, ◌∷◌, [], ap, ◌∙◌}
use Rattle.bk_p_proof.proofs.Seconds.{second_found, seen_as, seen_known, seen_new, told_false, told_true}
use Rattle.bk_p_proof.proofs.second.second_of.Goals as goal
use Rattle.bk_p_proof.proofs.second.second_of.Goals.{in-Some+else-not-same_type, in-None+in_ok-copy-in-None+in_ok-insert-in-None+in_ok-push-in-None}

pub returns-then-not-same_type : goal.returns-then-not-same_type
returns-then-not-same_type c = second_found (λ t. t.items) (λ x. x.now) c.args.names.now c.loop-name.name-index c.loop-name.texts.keys c.loop-name.first.items c.as_bytes-text.result.now c.in-Some.index c.index-known.result.now c.name-item.result c.loop-name.invariant c.loop-name-test.true c.name-item.is c.as_bytes-text.ensures.value c.in-Some.ensures.index c.index-known.ensures (told_false c.same_type.result c.same_type.ensures c.if-not-same_type.true)

pub loop-name-preserved : goal.loop-name-preserved
loop-name-preserved c =
    elim c.match-get_index_of.branch [
      | in-Some+else-not-same_type w ↦
          seen_as (λ t. t.items) (λ x. x.now) c.args.names.now (c.loop-name.name-index + 1) c.loop-name.texts.keys c.match-get_index_of.texts.keys c.loop-name.first.items c.match-get_index_of.first.items (ap (λ t. t.keys) w.texts-is) (ap (λ v. v.items) w.first-is)
          (seen_known (λ t. t.items) (λ x. x.now) c.args.names.now c.loop-name.name-index c.loop-name.texts.keys c.loop-name.first.items c.as_bytes-text.result.now w.in-Some.index w.index-known.result.now c.name-item.result c.loop-name.invariant c.loop-name-test.true c.name-item.is c.as_bytes-text.ensures.value w.in-Some.ensures.index w.index-known.ensures (told_true w.same_type.result w.same_type.ensures w.if-not-same_type.false))
      | in-None+in_ok-copy-in-None+in_ok-insert-in-None+in_ok-push-in-None w ↦
          seen_as (λ t. t.items) (λ x. x.now) c.args.names.now (c.loop-name.name-index + 1) w.insert.new.self.keys c.match-get_index_of.texts.keys (c.loop-name.first.items ++ c.name-item.result ∷ []) c.match-get_index_of.first.items (ap (λ t. t.keys) w.texts-is) (ap (λ v. v.items) w.first-is ∙ w.in_ok-push-in-None.ensures.items)
          (seen_new (λ t. t.items) (λ x. x.now) c.args.names.now c.loop-name.name-index c.loop-name.texts.keys w.insert.new.self.keys w.in_ok-copy-in-None.copy c.loop-name.first.items c.as_bytes-text.result.now c.name-item.result c.loop-name.invariant c.loop-name-test.true c.name-item.is c.as_bytes-text.ensures.value w.in_ok-copy-in-None.ensures.items w.in-None.ensures.index w.in_ok-insert-in-None.ensures.keys)
    ]
