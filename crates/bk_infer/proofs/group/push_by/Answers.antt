use Rattle.std.proofs.Common.{◌++◌, ap, ◌∙◌, List, map}
use Rattle.std.specs.Option.{option_copied, option_map}
use Rattle.bk_elab_terms.specs.Visible.{visible_names}
use Rattle.bk_statics.specs.Ways.{Way}
use Rattle.bk_scope.specs.Shown.{refs, way_shown, member_shown}
use Rattle.bk_infer.proofs.Members.{members, member-pushed, members-end, members-by}
use Rattle.bk_infer.proofs.group.push_by.Goals as goal

pub loop-place-preserved : goal.loop-place-preserved
loop-place-preserved c =
    let group = option_map (λ g. g.value) c.in_ok-group.group in
    let i = c.loop-place.place in
    record {
      ways = member-pushed group c.args.names.now i c.loop-place.found.items c.push.new.self.items c.in_ok-member.field-0 (map way_shown c.args.found.now.items ++ members group 0 (refs c.args.names.now)) c.loop-place-test.true c.in_ok-push.ensures.items (c.in_ok-member.ensures ∙ ap (λ g. member_shown (option_map (λ x. x.value) g) i) c.loop-place.invariant.same) c.loop-place.invariant.ways;
      same = c.loop-place.invariant.same;
    }

pub returns : goal.returns
returns c =
    let group = option_map (λ g. g.value) c.in_ok-group.group in
    members-end group c.args.names.now c.loop-place.place (map way_shown c.loop-place.found.items) (map way_shown c.args.found.now.items ++ members group 0 (refs c.args.names.now)) c.loop-place-test.false c.loop-place.invariant.ways
    ∙ ap (λ (ws : List Way). map way_shown c.args.found.now.items ++ ws) (members-by group (visible_names c.args.around.now) (option_copied c.args.predicate) (refs c.args.names.now) c.in_ok-group.ensures)
