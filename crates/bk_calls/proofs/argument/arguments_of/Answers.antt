use Rattle.std.proofs.Common.{◌≡◌, sym, ◌∙◌, ap, subst, [], ◌∷◌, ◌++◌, map, Some, None, rules}
use Rattle.std.specs.List.{slice_split}
use Rattle.std.specs.Option.{option_copied, option_map}
use Rattle.std.proofs.lemmas.List.{map-append}
use Rattle.bk_calls.specs.Held.{held}
use Rattle.bk_calls.specs.Reading.{kept_argument, argument_in, arguments_in, is_comma, pieces, pieces_left}
use Rattle.bk_calls.proofs.Holding.{all_kept, behind_those, turn, stop, fewer_pieces}
use Rattle.bk_calls.proofs.argument.arguments_of.Goals as goal

pub returns-in_default-argument_in : goal.returns-in_default-argument_in
returns-in_default-argument_in c =
    let text = c.in-Some.text.now in
    let whole = all_kept (arguments_in (pieces c.args.inside.now)) in
    let is : behind_those (map held c.loop-rest.arguments.items) (all_kept (arguments_in (slice_split is_comma text))) ≡ whole =
    subst (λ o. behind_those (map held c.loop-rest.arguments.items) (all_kept (arguments_in (pieces_left (option_copied o)))) ≡ whole) c.in-Some.is c.loop-rest.invariant in
    let none : None ≡ option_map kept_argument (argument_in c.cut.result.0.now) = ap (option_map held) (sym c.in_default-argument_in.is) ∙ c.argument_in.ensures in
    stop (map held c.loop-rest.arguments.items) text c.cut.result.0.now (option_copied c.cut.result.1) whole c.cut.ensures.before c.cut.ensures.after none is

pub loop-rest-smaller : goal.loop-rest-smaller
loop-rest-smaller c =
    let fewer = fewer_pieces c.in-Some.text.now (option_copied c.cut.result.1) c.cut.ensures.after in
    rw (c.in-Some.is) fewer

pub loop-rest-preserved : goal.loop-rest-preserved
loop-rest-preserved c =
    let text = c.in-Some.text.now in
    let items = c.loop-rest.arguments.items in
    let whole = all_kept (arguments_in (pieces c.args.inside.now)) in
    let is : behind_those (map held items) (all_kept (arguments_in (slice_split is_comma text))) ≡ whole =
    subst (λ o. behind_those (map held items) (all_kept (arguments_in (pieces_left (option_copied o)))) ≡ whole) c.in-Some.is c.loop-rest.invariant in
    let some : Some (held c.in-Some-argument_in.argument) ≡ option_map kept_argument (argument_in c.cut.result.0.now) = ap (option_map held) (sym c.in-Some-argument_in.is) ∙ c.argument_in.ensures in
    let more : map held c.push.new.self.items ≡ map held items ++ (held c.in-Some-argument_in.argument ∷ []) =
    (let pushed : c.push.new.self.items ≡ items ++ (c.in-Some-argument_in.argument ∷ []) = search rules in ap (map held) pushed ∙ map-append held items (c.in-Some-argument_in.argument ∷ [])) in
    let next = turn (map held items) (held c.in-Some-argument_in.argument) text c.cut.result.0.now (option_copied c.cut.result.1) whole c.cut.ensures.before c.cut.ensures.after some is in
    rw more next
