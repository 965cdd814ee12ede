use Rattle.std.proofs.Common.{◌≡◌, ℕ, ℤ, ap, ◌∙◌, List, length, map, w64, to_z, of_z, arith, rules}
use Rattle.std.specs.Prelude.{Option}
use Rattle.std.proofs.lemmas.List.{length-map}
use Rattle.std.proofs.lemmas.Int.{to_z-of_z}
use Rattle.bk_val.specs.ValueType.{ValueType}
use Rattle.bk_elab_terms.specs.Visible.{typing_of}
use Rattle.bk_statics.specs.Ways.{next_types, settled}
use Rattle.bk_scope.specs.Shown.{way_shown}
use Rattle.bk_infer.proofs.Rounds.{early, all-rounds}
use Rattle.bk_infer.proofs.settled.settled.Goals as goal

pub returns-then-not-round : goal.returns-then-not-round
returns-then-not-round c =
    let max = to_z w64 (of_z w64 c.args.max) in
    let back : to_z w64 (of_z w64 c.args.max) ≡ c.args.max = grind (arith, to_z-of_z) in
    let ws = map way_shown c.args.ways.now in
    let known = typing_of c.args.known.items in
    let first : c.len-first.result ≡ length c.args.known.items = omega arith in
    let all : length ws ≡ length c.args.ways.now = length-map c.args.ways.now way_shown in
    let before = ap (λ (ts : List (Option ValueType)). typing_of ts) c.deref.ensures.value in
    let next = c.in_ok-round.ensures.next ∙ ap (λ (ts : List (Option ValueType)). next_types max c.len-first.result ws (typing_of ts)) c.deref.ensures.value in
    let same = c.in_ok-round.ensures.same (search rules) ∙ before in
    early max c.len-first.result ws known (typing_of c.loop.types.items) (typing_of c.in_ok-round.round.types.items) c.loop.counter (omega arith) c.loop.invariant.types next same
    ∙ ap (λ (n : ℕ). settled max n ws known) first ∙ ap (λ (z : ℤ). settled z (length c.args.known.items) ws known) back

pub returns : goal.returns
returns c =
    let max = to_z w64 (of_z w64 c.args.max) in
    let back : to_z w64 (of_z w64 c.args.max) ≡ c.args.max = grind (arith, to_z-of_z) in
    let ws = map way_shown c.args.ways.now in
    let known = typing_of c.args.known.items in
    let first : c.len-first.result ≡ length c.args.known.items = omega arith in
    let all : length ws ≡ length c.args.ways.now = length-map c.args.ways.now way_shown in
    all-rounds max c.len-first.result ws known (typing_of c.loop.types.items) c.loop.counter (omega arith) c.loop.invariant.types ∙ ap (λ (n : ℕ). settled max n ws known) first ∙ ap (λ (z : ℤ). settled z (length c.args.known.items) ws known) back
