use Rattle.std.proofs.Common.{◌≡◌, ◌+◌, sym, ◌∙◌, ap, subst, arith, map, length, length-append, [], ◌∷◌, ◌++◌, false, rules}
use Rattle.std.specs.Str.Lines.{lines}
use Rattle.std.proofs.lemmas.List.{map-append, length-map}
use Rattle.bk_lines.specs.Lines.{is_skipped}
use Rattle.bk_calls.specs.Script.{request_of}
use Rattle.bk_calls.specs.Reading.{in_front, read_lines}
use Rattle.bk_calls.proofs.Requests.{call_more}
use Rattle.bk_calls.proofs.script.read_calls.Goals as goal

pub loop-line-preserved-in_ok-push : goal.loop-line-preserved-in_ok-push
loop-line-preserved-in_ok-push c =
    let image = c.args.image.now in
    let items = c.loop-line.calls.items in
    let split : lines c.loop-line.rest.now ≡ c.in-Some.line.now ∷ lines c.in-Some.behind.now = c.in-Some.ensures.line in
    let read : is_skipped c.in-Some.line.now ≡ false = sym c.is_skipped.ensures ∙ c.if-not-is_skipped.true in
    let pushed : c.push.new.self.items ≡ items ++ (c.in_ok-call.call ∷ []) = search rules in
    let first = map request_of items in
    let call = request_of c.in_ok-call.call in
    let whole = read_lines image 0 0 (lines c.args.text.now) in
    let n = c.loop-line.number in
    let same : length first ≡ length items = length-map items request_of in
    let before : in_front first (read_lines image n (length first) (lines c.loop-line.rest.now)) ≡ whole =
    subst (λ k. in_front first (read_lines image n k (lines c.loop-line.rest.now)) ≡ whole) (sym same) c.loop-line.invariant.read in
    let next = call_more image n first c.in-Some.line.now (lines c.loop-line.rest.now) (lines c.in-Some.behind.now) call whole split read c.in_ok-call.ensures.ok (λ e. c.if-len-eq-MOST_CALLS.false (omega (arith, e, same, c.len.ensures))) before in
    let mapped : map request_of c.push.new.self.items ≡ first ++ (call ∷ []) = ap (map request_of) pushed ∙ map-append request_of items (c.in_ok-call.call ∷ []) in
    let longer : length c.push.new.self.items ≡ length first + 1 = omega (arith, ap length pushed, length-append items (c.in_ok-call.call ∷ []), same) in
    record {
      read = subst (λ t. in_front t (read_lines image (n + 1) (length c.push.new.self.items) (lines c.in-Some.behind.now)) ≡ whole) (sym mapped)
          (subst (λ k. in_front (first ++ (call ∷ [])) (read_lines image (n + 1) k (lines c.in-Some.behind.now)) ≡ whole) (sym longer) next);
      counted = omega (arith, ap length split, c.loop-line.invariant.counted);
    }
