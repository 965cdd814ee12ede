use Rattle.std.proofs.Common.{◌≡◌, ◌∙◌, ap, string_bytes, append_assoc}
use Rattle.std.specs.List.{repeat}
use Rattle.bk_calls.specs.Sample.{calls_of, addition}
use Rattle.bk_calls.proofs.sample_calls.calls_of.Goals as goal

pub returns : goal.returns
unfolding calls_of
returns c =
    let additions : string_bytes c.in_ok-additions.additions ≡ repeat 10 (addition c.args.i) =
    c.in_ok-additions.ensures.bytes ∙ ap (repeat 10) (c.deref.ensures ∙ c.in_ok-addition.ensures) in
    let h = simp (additions, append_assoc) at c.in_ok-format.ensures.ok in
    simp append_assoc h
